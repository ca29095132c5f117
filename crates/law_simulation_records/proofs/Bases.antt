-- The types that a type extends are those that its descriptor has as bases.
use Rattle.std.proofs.Common.{◌≡◌, ℕ, zero, suc, ◌<◌, List, [], ◌∷◌, length, Option, Some, None, refl, sym, ap, ◌∙◌, arith}
use Rattle.std.proofs.lemmas.Bool.{eqb-true}
use Rattle.std.proofs.lemmas.Bool.Decides.{nat_tests}
use Rattle.std.proofs.lemmas.Option.{slice_get_within}
use Rattle.std.specs.Prelude.{Bool, true, false, ◌&&◌, ◌||◌, nat_eq, nat_lt, bytes_eq, map, slice_get, if◌then◌else◌}
use Rattle.ob_tree.specs.declared.names.QName.{QName}
use Rattle.ob_tdesc.specs.declared.descriptor.Descriptor.{Descriptor}
use Rattle.ob_tdesc.specs.Bases as descriptors
use Rattle.ob_tdesc.specs.Bases.{base_in, with_bases, line_from}
use Rattle.ob_instr.specs.Rows.{tag, tag_passes}
use Rattle.ob_meaning.specs.Values.{same_name, RecordForm, Fields, fields_of, line_of, record_in, is_among}
use Rattle.ob_meaning.specs.Meaning.{is_extension}
use Rattle.law_simulation_relation.specs.Layout.{type_number}
use Rattle.law_simulation_relation.proofs.Names.{nat_same, bytes_true, name_true, name_same}
use Rattle.law_simulation_relation.specs.Setting.{Setting}
use Rattle.law_simulation_records.specs.Bases.{LineStands, BasesStand}
use Rattle.law_lists.proofs.Lists.{and_parts}

abbrev or_else : {A : Type 0} → A → Option A → A
or_else x None = x
or_else x (Some z) = z

some_same : {A : Type 0} (x y : A) → Some x ≡ Some y → x ≡ y
some_same x y e = ap (or_else x) e

-- the descriptor of a type's number has its name
pub record Named (q : QName) (d : Descriptor) : Type 0 where
  pub of_module : q.module ≡ d.module
  pub of_type : q.object ≡ d.name

named : (types : List Descriptor) (q : QName) (d : Descriptor) → slice_get types (type_number types q) ≡ Some d → Named q d
named [] q d e = absurd (cc)
named (x ∷ types) q d e = go (bytes_eq q.module x.module && bytes_eq q.object x.name) refl e (λ f. named types q d f)
  where
    go : (b : Bool) → (bytes_eq q.module x.module && bytes_eq q.object x.name) ≡ b → slice_get (x ∷ types) (if b then 0 else suc (type_number types q)) ≡ Some d → (slice_get types (type_number types q) ≡ Some d → Named q d) → Named q d
    go true h f rest =
        let k = and_parts (bytes_eq q.module x.module) (bytes_eq q.object x.name) h in
        let same = some_same x d f in
        record { of_module = bytes_true q.module x.module k.0 ∙ ap (λ (y : Descriptor). y.module) same; of_type = bytes_true q.object x.name k.1 ∙ ap (λ (y : Descriptor). y.name) same }
    go false h f rest = rest f

-- types with one number are one type
one_type : (q r : QName) (d : Descriptor) → Named q d → Named r d → q ≡ r
one_type q r d h k = ap (λ (x : List ℕ). record { «module» = q.module; object = x }) (h.of_type ∙ sym k.of_type) ∙ ap (λ (x : List ℕ). record { «module» = x; object = r.object }) (h.of_module ∙ sym k.of_module)

pub number_same : (types : List Descriptor) (q r : QName) (d : Descriptor) → slice_get types (type_number types r) ≡ Some d → nat_eq (type_number types q) (type_number types r) ≡ same_name q r
number_same types q r d e = go (nat_eq (type_number types q) (type_number types r)) (same_name q r) refl refl
  where
    go : (x y : Bool) → nat_eq (type_number types q) (type_number types r) ≡ x → same_name q r ≡ y → x ≡ y
    go true true f g = refl
    go false false f g = refl
    go false true f g = sym f ∙ ap (λ z. nat_eq (type_number types z) (type_number types r)) (name_true q r g) ∙ nat_same (type_number types r)
    go true false f g =
        let same = eqb-true (type_number types q) (type_number types r) f in
        let found : slice_get types (type_number types q) ≡ Some d = ap (λ n. slice_get types n) same ∙ e in
        sym (sym g ∙ ap (λ z. same_name z r) (one_type q r d (named types q d found) (named types r d e)) ∙ name_same r)

-- what stands of a type itself
pub record Here (types : List Descriptor) (q : QName) : Type 0 where
  pub descriptor : Descriptor
  pub found : slice_get types (type_number types q) ≡ Some descriptor

pub first_here : (types : List Descriptor) (q : QName) (line : List QName) → LineStands types q line → Here types q
first_here types q [] h = record { descriptor = h.0; found = h.1 }
first_here types q (b ∷ line) h = record { descriptor = h.0.0; found = h.0.1 }

line_numbers : (types : List Descriptor) (n : ℕ) (q : QName) (line : List QName) → LineStands types q line → type_number types q < n → line_from types n (type_number types q) ≡ map (type_number types) (q ∷ line)
line_numbers types zero q line h lt = absurd (omega (arith, lt))
line_numbers types (suc n) q [] h lt =
    ap (λ o. with_bases (type_number types q) (base_in o) (λ b. line_from types n b)) h.1 ∙ ap (λ o. with_bases (type_number types q) o (λ b. line_from types n b)) h.2
line_numbers types (suc n) q (b ∷ line) h lt =
    ap (λ o. with_bases (type_number types q) (base_in o) (λ b. line_from types n b)) h.0.1 ∙ ap (λ o. with_bases (type_number types q) o (λ b. line_from types n b)) h.0.2
    ∙ ap (λ l. type_number types q ∷ l) (line_numbers types n b line h.1 (omega (arith, h.0.3, lt)))

among_same : (types : List Descriptor) (target q : QName) (line : List QName) → LineStands types q line → descriptors.is_among (type_number types target) (map (type_number types) (q ∷ line)) ≡ is_among (q ∷ line) target
among_same types target q [] h = ap (λ b. b || false) (number_same types target q h.0 h.1)
among_same types target q (b ∷ line) h =
    ap (λ x. x || descriptors.is_among (type_number types target) (map (type_number types) (b ∷ line))) (number_same types target q h.0.0 h.0.1)
    ∙ ap (λ x. same_name target q || x) (among_same types target b line h.1)

module _ (c : Setting) (stand : BasesStand c) where
  -- a record type as it is built
  abbrev pub Built : QName → List QName → Fields → Type 0
  Built q line fs = record_in c.program q ≡ RecordForm (q ∷ line) fs

  pub own_fields : (q : QName) (line : List QName) (fs : Fields) → Built q line fs → record_in c.program q ≡ RecordForm (q ∷ line) (fields_of (record_in c.program q))
  own_fields q line fs e = e ∙ ap (λ g. RecordForm (q ∷ line) g) (sym (ap fields_of e))

  pub there : (q : QName) (line : List QName) (fs : Fields) → Built q line fs → type_number c.img.types q < length c.img.types
  there q line fs e = let h = first_here c.img.types q line (stand.lines q line (own_fields q line fs e)) in slice_get_within c.img.types (type_number c.img.types q) h.descriptor h.found

  -- the test of a type's tag
  pub passes : (q target : QName) (line : List QName) (fs : Fields) → Built q line fs → tag_passes c.img.types (tag (type_number c.img.types q)) (type_number c.img.types target) ≡ Some (is_extension c.program (Some q) target)
  passes q target line fs e =
      let n = type_number c.img.types q in
      let stands = stand.lines q line (own_fields q line fs e) in
      let lt = there q line fs e in
      let in_it : nat_lt n (length c.img.types) ≡ true = grind (arith, nat_tests) in
      ap (λ b. if b then Some (descriptors.is_or_has_base c.img.types n (type_number c.img.types target)) else None) in_it
      ∙ ap (λ l. Some (descriptors.is_among (type_number c.img.types target) l)) (line_numbers c.img.types (suc n) q line stands (omega arith))
      ∙ ap Some (among_same c.img.types target q line stands)
      ∙ ap (λ l. Some (is_among l target)) (sym (ap line_of e))
