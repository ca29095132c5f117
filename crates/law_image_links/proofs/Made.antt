-- The descriptor of a record type that a module declares.
use Rattle.std.proofs.Common.{◌≡◌, ℕ, zero, suc, ◌+◌, List, [], ◌∷◌, ◌++◌, length, map, refl, sym, ap, ◌∙◌, subst, arith, Option, Some}
use Rattle.std.specs.Prelude.{Bool, true, false, bytes_eq, unwrap_or, slice_get, if◌then◌else◌}
use Rattle.std.proofs.lemmas.Option.{none-some}
use Rattle.ob_tree.specs.declared.names.QName.{QName}
use Rattle.ob_types.specs.declared.desc.Desc.{Desc}
use Rattle.ob_types.specs.declared.desc.Desc.TheVariants as desc
use Rattle.ob_types.specs.declared.desc.RecordDesc.{RecordDesc}
use Rattle.ob_types.specs.declared.typed.TypedType.{TypedType}
use Rattle.ob_types.specs.TypedSyntax.{Module}
use Rattle.ob_tdesc.specs.declared.descriptor.Descriptor.{Descriptor}
use Rattle.ob_instr.specs.Image.{Image}
use Rattle.ob_obj.specs.declared.parts.Base.{Base}
use Rattle.ob_obj.specs.declared.parts.RecordType.{RecordType}
use Rattle.ob_obj.specs.Images.{base_number, type_links}
use Rattle.ob_meaning.specs.Values.{type_named}
use Rattle.ob_scheme.specs.Context.{is_record, records_among}
use Rattle.ob_scheme.specs.Object.{base_type, base_in, record_in, records_in}
use Rattle.law_simulation_relation.specs.Layout.{type_number}
use Rattle.law_simulation_relation.specs.Relation.{OrElse}
use Rattle.law_image_code.specs.Fits.{AmongTypes}
use Rattle.law_image_links.specs.Files.{Build, file_of}
use Rattle.law_image_links.proofs.TypeNumbers.{typed, AreMade, names_of, place_of, is_named, own_number, past_others}
use Rattle.law_image_links.proofs.Entering.{TypesIn}
use Rattle.law_lists.proofs.Lists.{get_front}

is_record_of : (s r : RecordDesc) → Some (desc.Record s) ≡ Some (desc.Record r) → s ≡ r
is_record_of s r f = ap (λ o. take_record s (unwrap_or o (desc.Record s))) f
  where
    take_record : RecordDesc → Desc → RecordDesc
    take_record s (desc.Record k) = k
    take_record s d = s

not_record : (d : Desc) (r : RecordDesc) → is_record d ≡ false → Some d ≡ Some (desc.Record r) → ⊥
not_record d r f g = differ (sym f ∙ ap (λ o. is_record (unwrap_or o d)) g)
  where
    differ : false ≡ true → ⊥
    differ h = cc

-- a declared record type is one of the record types
pub among_records : (ts : List TypedType) (x : List ℕ) (r : RecordDesc) → type_named ts x ≡ Some (desc.Record r) → AmongTypes (records_among ts) x
among_records [] x r e = absurd (none-some _ e)
among_records (t ∷ ts) x r e = go (is_record t.desc) (bytes_eq x t.name) refl refl e (λ f. among_records ts x r f)
  where
    go : (a b : Bool) → is_record t.desc ≡ a → bytes_eq x t.name ≡ b → (if b then Some t.desc else type_named ts x) ≡ Some (desc.Record r) → (type_named ts x ≡ Some (desc.Record r) → AmongTypes (records_among ts) x) → AmongTypes (if a then t ∷ records_among ts else records_among ts) x
    go true true g f e more = subst (λ b. OrElse b (Unit {0}) (AmongTypes (records_among ts) x)) (sym f) tt
    go true false g f e more = subst (λ b. OrElse b (Unit {0}) (AmongTypes (records_among ts) x)) (sym f) (more e)
    go false true g f e more = absurd (not_record t.desc r g e)
    go false false g f e more = more e

-- A RECORD TYPE OF A FILE AND ITS DESCRIPTOR, at a place among them

pub record MadeAt (first : ℕ) (links : List ℕ) (own : List RecordType) (ds : List Descriptor) (at : ℕ) (words : ℕ) (base : Base) : Type 0 where
  pub descriptor : Descriptor
  pub file_type : RecordType
  pub found : slice_get ds at ≡ Some descriptor
  pub file_found : slice_get own at ≡ Some file_type
  pub words_are : descriptor.words ≡ words
  pub base_is : descriptor.base ≡ base_number first links base
  pub file_base : file_type.base ≡ base

head_made : (first : ℕ) (links : List ℕ) (u : RecordType) (rest : List RecordType) (d : Descriptor) (es : List Descriptor) (y : List ℕ) (names : List (List ℕ)) (x : List ℕ) (n : ℕ) (base : Base) → bytes_eq x y ≡ true → u.words ≡ n → u.base ≡ base → AreMade first links (u ∷ rest) (d ∷ es) → MadeAt first links (u ∷ rest) (d ∷ es) (place_of (y ∷ names) x) n base
head_made first links u rest d es y names x n base f e g h = subst (λ k. MadeAt first links (u ∷ rest) (d ∷ es) k n base) (ap (λ b. if b then 0 else suc (place_of names x)) (sym f)) (record { descriptor = d; file_type = u; found = refl; file_found = refl; words_are = h.0.0 ∙ e; base_is = h.0.1 ∙ ap (base_number first links) g; file_base = g })

tail_made : (first : ℕ) (links : List ℕ) (u : RecordType) (rest : List RecordType) (d : Descriptor) (es : List Descriptor) (y : List ℕ) (names : List (List ℕ)) (x : List ℕ) (n : ℕ) (base : Base) → bytes_eq x y ≡ false → MadeAt first links rest es (place_of names x) n base → MadeAt first links (u ∷ rest) (d ∷ es) (place_of (y ∷ names) x) n base
tail_made first links u rest d es y names x n base f m = subst (λ k. MadeAt first links (u ∷ rest) (d ∷ es) k n base) (ap (λ b. if b then 0 else suc (place_of names x)) (sym f)) (record { descriptor = m.descriptor; file_type = m.file_type; found = m.found; file_found = m.file_found; words_are = m.words_are; base_is = m.base_is; file_base = m.file_base })

module _ (types : QName → Option Desc) (md : Module) (named : List QName) (first : ℕ) (links : List ℕ) where
  abbrev base_of : RecordDesc → Base
  base_of r = base_in types md named (base_type types md r.base)

  pub made_at : (ts : List TypedType) (ds : List Descriptor) (x : List ℕ) (r : RecordDesc) → type_named ts x ≡ Some (desc.Record r) → AreMade first links (records_in types md named ts) ds → MadeAt first links (records_in types md named ts) ds (place_of (names_of ts) x) r.words (base_of r)
  made_at [] ds x r e h = absurd (none-some _ e)
  made_at (t ∷ ts) ds x r e h = go t.desc (bytes_eq x t.name) ds refl e h (λ es f m. made_at ts es x r f m)
    where
      go : (d : Desc) (b : Bool) (es : List Descriptor) → bytes_eq x t.name ≡ b → (if b then Some d else type_named ts x) ≡ Some (desc.Record r) → AreMade first links (record_in types md named t.name d ++ records_in types md named ts) es → ((ks : List Descriptor) → type_named ts x ≡ Some (desc.Record r) → AreMade first links (records_in types md named ts) ks → MadeAt first links (records_in types md named ts) ks (place_of (names_of ts) x) r.words (base_of r)) → MadeAt first links (record_in types md named t.name d ++ records_in types md named ts) es (place_of (map (λ u. u.name) (if is_record d then t ∷ records_among ts else records_among ts)) x) r.words (base_of r)
      go (desc.Record s) b [] f e h more = absurd h
      go (desc.Record s) true (d ∷ es) f e h more = head_made first links _ (records_in types md named ts) d es t.name (names_of ts) x r.words (base_of r) f (ap (λ k. k.words) (is_record_of s r e)) (ap base_of (is_record_of s r e)) h
      go (desc.Record s) false (d ∷ es) f e h more = tail_made first links _ (records_in types md named ts) d es t.name (names_of ts) x r.words (base_of r) f (more es e h.1)
      go d true es f e h more = absurd (not_record d r refl e)
      go d false es f e h more = more es e h

-- IN THE WHOLE IMAGE

get_past : {A : Type 0} (l k : List A) (n : ℕ) → slice_get (l ++ k) (length l + n) ≡ slice_get k n
get_past [] k n = ap (slice_get k) (let e : 0 + n ≡ n = omega arith in e)
get_past (x ∷ l) k n = ap (slice_get (x ∷ (l ++ k))) (let e : suc (length l) + n ≡ suc (length l + n) = omega arith in e) ∙ get_past l k n

-- the descriptor of a record type has its number
pub record Stands (b : Build) (img : Image) (all : List Descriptor) (x : List ℕ) (r : RecordDesc) : Type 0 where
  pub place : ℕ
  pub place_is : place ≡ place_of (names_of b.unit.types) x
  pub number : type_number all (typed b.unit.name x) ≡ length img.types + place
  pub file_type : RecordType
  pub file_found : slice_get (file_of b).body.types place ≡ Some file_type
  pub file_base : file_type.base ≡ base_in b.types b.unit (file_of b).links.types (base_type b.types b.unit r.base)
  pub descriptor : Descriptor
  pub found : slice_get all (type_number all (typed b.unit.name x)) ≡ Some descriptor
  pub words_are : descriptor.words ≡ r.words
  pub base_is : descriptor.base ≡ base_number (length img.types) (type_links img (file_of b)) (base_in b.types b.unit (file_of b).links.types (base_type b.types b.unit r.base))

pub number_in : (b : Build) (img : Image) (all : List Descriptor) (x : List ℕ) (r : RecordDesc) → TypesIn b img all → type_named b.unit.types x ≡ Some (desc.Record r) → type_number all (typed b.unit.name x) ≡ length img.types + place_of (names_of b.unit.types) x
number_in b img all x r t e = ap (λ l. type_number l (typed b.unit.name x)) t.is ∙ past_others b.unit.name x img.types (t.own ++ t.behind) t.none ∙ ap (λ n. length img.types + n) (own_number b.unit.name (names_of b.unit.types) t.own t.behind x t.are (is_named (records_among b.unit.types) x (among_records b.unit.types x r e)))

pub stands : (b : Build) (img : Image) (all : List Descriptor) (x : List ℕ) (r : RecordDesc) → TypesIn b img all → type_named b.unit.types x ≡ Some (desc.Record r) → Stands b img all x r
stands b img all x r t e =
    let m = made_at b.types b.unit (file_of b).links.types (length img.types) (type_links img (file_of b)) b.unit.types t.own x r e t.made in
    let n = number_in b img all x r t e in
    let place = place_of (names_of b.unit.types) x in
    record {
      place = place;
      place_is = refl;
      number = n;
      file_type = m.file_type;
      file_found = m.file_found;
      file_base = m.file_base;
      descriptor = m.descriptor;
      found = ap (slice_get all) n ∙ ap (λ l. slice_get l (length img.types + place)) t.is ∙ get_past img.types (t.own ++ t.behind) place ∙ get_front t.own t.behind place m.descriptor m.found;
      words_are = m.words_are;
      base_is = m.base_is;
    }
