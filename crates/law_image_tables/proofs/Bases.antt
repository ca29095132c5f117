-- Descriptors with the numbers of their bases' give each record type its bases.
use Rattle.std.proofs.Common.{◌≡◌, ℕ, suc, ◌+◌, ◌<◌, List, [], ◌∷◌, ◌++◌, length, Option, Some, None, refl, sym, ap, ◌∙◌, subst, arith}
use Rattle.std.proofs.lemmas.Bool.Decides.{nat_tests}
use Rattle.std.specs.Prelude.{Bool, true, false, ◌&&◌, ◌||◌, bytes_eq, slice_get, if◌then◌else◌}
use Rattle.ob_tree.specs.declared.names.QName.{QName}
use Rattle.ob_tdesc.specs.declared.descriptor.Descriptor.{Descriptor}
use Rattle.ob_meaning.specs.Values.{same_name, Program, RecordForm, Fields, joined, line_of, fields_of, record_in, bases_in, is_among}
use Rattle.law_simulation_relation.specs.Layout.{type_number}
use Rattle.law_simulation_relation.specs.Relation.{OrElse, Sub, extended}
use Rattle.law_simulation_relation.specs.Typed.{IsRecordType}
use Rattle.law_simulation_relation.proofs.Names.{bytes_true, name_true}
use Rattle.law_simulation_relation.specs.Setting.{Setting}
use Rattle.law_simulation_records.specs.Bases.{LineStands, BasesStand}
use Rattle.law_simulation_records.proofs.Tags.{sub_sub}
use Rattle.law_image_code.specs.Descriptors.{IsDescriptor}
use Rattle.law_image_tables.specs.Declared.{above, typed, BasesBuilt}
use Rattle.law_lists.proofs.Lists.{and_parts}

pub typed_is : (q : QName) (m x : List ℕ) → (bytes_eq q.«module» m && bytes_eq q.object x) ≡ true → typed m x ≡ q
typed_is q m x e =
    let h = and_parts (bytes_eq q.«module» m) (bytes_eq q.object x) e in
    ap (λ z. typed z x) (sym (bytes_true q.«module» m h.0)) ∙ ap (λ z. typed q.«module» z) (sym (bytes_true q.object x h.1))

module _ (program : Program) (types : List Descriptor) where
  -- the number of the next base's descriptor, which stands before a number; none where there is no base
  abbrev pub NextBase : List QName → Option ℕ → ℕ → Type 0
  NextBase [] base k = base ≡ None
  NextBase (b ∷ line) base k = (base ≡ Some (type_number types b)) × (type_number types b < k)

  -- descriptors from a number on
  abbrev pub AreBased : List Descriptor → ℕ → Type 0
  AreBased [] k = Unit {0}
  AreBased (d ∷ ds) k = NextBase (above (bases_in program (typed d.«module» d.name))) d.base k × AreBased ds (suc k)

  pub based_two : (ds es : List Descriptor) (k : ℕ) → AreBased ds k → AreBased es (length ds + k) → AreBased (ds ++ es) k
  based_two [] es k f g = let e : 0 + k ≡ k = omega arith in subst (AreBased es) e g
  based_two (d ∷ ds) es k f g = let e : suc (length ds) + k ≡ length ds + suc k = omega arith in (f.0, based_two ds es (suc k) f.1 (subst (AreBased es) e g))

  pub record FoundBased (ds : List Descriptor) (k : ℕ) (q : QName) : Type 0 where
    pub descriptor : Descriptor
    pub found : slice_get ds (type_number ds q) ≡ Some descriptor
    pub next : NextBase (above (bases_in program q)) descriptor.base (k + type_number ds q)

  pub found_based : (ds es : List Descriptor) (k : ℕ) (q : QName) → AreBased ds k → IsDescriptor ds q → FoundBased (ds ++ es) k q
  found_based [] es k q f i = absurd i
  found_based (d ∷ ds) es k q f i = go (bytes_eq q.«module» d.«module» && bytes_eq q.object d.name) refl i (λ j. found_based ds es (suc k) q f.1 j)
    where
      go : (b : Bool) → (bytes_eq q.«module» d.«module» && bytes_eq q.object d.name) ≡ b → OrElse b (Unit {0}) (IsDescriptor ds q) → (IsDescriptor ds q → FoundBased (ds ++ es) (suc k) q) → FoundBased (d ∷ (ds ++ es)) k q
      go true e i more =
          let n : type_number (d ∷ (ds ++ es)) q ≡ 0 = ap (λ b. if b then 0 else suc (type_number (ds ++ es) q)) e in
          let z : k ≡ k + type_number (d ∷ (ds ++ es)) q = (let s : k ≡ k + 0 = omega arith in s) ∙ ap (λ m. k + m) (sym n) in
          record {
            descriptor = d;
            found = ap (slice_get (d ∷ (ds ++ es))) n;
            next = subst (NextBase (above (bases_in program q)) d.base) z (subst (λ x. NextBase (above (bases_in program x)) d.base k) (typed_is q d.«module» d.name e) f.0);
          }
      go false e i more =
          let r = more i in
          let n : type_number (d ∷ (ds ++ es)) q ≡ suc (type_number (ds ++ es) q) = ap (λ b. if b then 0 else suc (type_number (ds ++ es) q)) e in
          let z : suc k + type_number (ds ++ es) q ≡ k + type_number (d ∷ (ds ++ es)) q = (let s : suc k + type_number (ds ++ es) q ≡ k + suc (type_number (ds ++ es) q) = omega arith in s) ∙ ap (λ m. k + m) (sym n) in
          record { descriptor = r.descriptor; found = ap (slice_get (d ∷ (ds ++ es))) n ∙ r.found; next = subst (NextBase (above (bases_in program q)) r.descriptor.base) z r.next }

  pub lines_stand : BasesBuilt program → ((q : QName) → IsRecordType program q → FoundBased types 0 q) → (q : QName) (line : List QName) → record_in program q ≡ RecordForm (q ∷ line) (fields_of (record_in program q)) → LineStands types q line
  lines_stand built found q [] e =
      let r = found q ([], e) in
      (r.descriptor, r.found, subst (λ l. NextBase l r.descriptor.base (0 + type_number types q)) (ap (λ t. above (line_of t)) e) r.next)
  lines_stand built found q (b ∷ line) e =
      let r = found q (b ∷ line, e) in
      let n = subst (λ l. NextBase l r.descriptor.base (0 + type_number types q)) (ap (λ t. above (line_of t)) e) r.next in
      let lt = n.1 in
      ((r.descriptor, r.found, n.0, omega (arith, lt)), lines_stand built found b line (built q b line e).0)

pub extends_all : (program : Program) → BasesBuilt program → (q : QName) (line : List QName) → record_in program q ≡ RecordForm (q ∷ line) (fields_of (record_in program q)) → (b : QName) → is_among line b ≡ true → Sub (record_in program q) (record_in program b)
extends_all program built q [] e b h = absurd (cc)
extends_all program built q (t ∷ line) e b h = go (same_name b t) refl h (λ f i. extends_all program built t line f b i)
  where
    fs : Fields
    fs = fields_of (record_in program t)

    up : (record_in program t ≡ RecordForm (t ∷ line) fs) × ((gs : Fields) × (fields_of (record_in program q) ≡ joined fs gs))
    up = built q t line e

    whole : record_in program q ≡ RecordForm (q ∷ t ∷ line) (joined fs up.1.0)
    whole = e ∙ ap (λ g. RecordForm (q ∷ t ∷ line) g) up.1.1

    first : Sub (record_in program q) (record_in program t)
    first = subst (λ u. Sub u (record_in program t)) (sym whole) (subst (λ u. Sub (RecordForm (q ∷ t ∷ line) (joined fs up.1.0)) u) (sym up.0) (extended (q ∷ []) up.1.0))

    go : (z : Bool) → same_name b t ≡ z → (z || is_among line b) ≡ true → (record_in program t ≡ RecordForm (t ∷ line) fs → is_among line b ≡ true → Sub (record_in program t) (record_in program b)) → Sub (record_in program q) (record_in program b)
    go true f h more = subst (λ u. Sub (record_in program q) (record_in program u)) (sym (name_true b t f)) first
    go false f h more = sub_sub (record_in program q) (record_in program t) (record_in program b) first (more up.0 h)

pub bases_stand : (c : Setting) → BasesBuilt c.program → ((q : QName) → IsRecordType c.program q → FoundBased c.program c.img.types c.img.types 0 q) → length c.img.types < 2147483648 → BasesStand c
bases_stand c built found few = record {
  lines = lines_stand c.program c.img.types built found;
  extends = extends_all c.program built;
  tags = λ n lt. grind (arith, nat_tests);
}
