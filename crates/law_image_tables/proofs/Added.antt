-- The descriptors of a module's file, behind others: their names, and their bases' numbers.
use Rattle.std.proofs.Common.{◌≡◌, ℕ, suc, ◌+◌, ◌≤◌, ◌<◌, List, [], ◌∷◌, ◌++◌, length, map, Option, Some, refl, sym, ap, ◌∙◌, subst, arith, append_assoc, append-nil}
use Rattle.std.specs.Prelude.{Bool, true, false, ◌&&◌, bytes_eq, slice_get, IsSome, if◌then◌else◌}
use Rattle.std.specs.List.{AllByRecursion}
use Rattle.ob_tree.specs.declared.names.QName.{QName}
use Rattle.ob_types.specs.declared.desc.Desc.{Desc}
use Rattle.ob_types.specs.TypedSyntax.{Module}
use Rattle.ob_tdesc.specs.declared.descriptor.Descriptor.{Descriptor}
use Rattle.ob_obj.specs.declared.parts.Base.TheVariants as base
use Rattle.ob_obj.specs.declared.parts.RecordType.{RecordType}
use Rattle.ob_obj.specs.Images.{same, type_from, linked_type, or_zero, base_number, descriptor_of, with_types}
use Rattle.ob_meaning.specs.Values.{Program, bases_in}
use Rattle.ob_scheme.specs.Context.{is_own, type_index, records_among}
use Rattle.ob_scheme.specs.Numbers.{same_type, number_among}
use Rattle.ob_scheme.specs.Object.{own, base_in, records_in, type_links}
use Rattle.law_simulation_relation.specs.Layout.{type_number}
use Rattle.law_simulation_relation.specs.Relation.{OrElse, head}
use Rattle.law_simulation_relation.proofs.Names.{bytes_true}
use Rattle.law_image_code.specs.Descriptors.{IsDescriptor}
use Rattle.law_image_links.proofs.Lookup.{same_is, all_at, map_at}
use Rattle.law_image_links.proofs.TypeNumbers.{NotOf, AreOf, IsName, place_of, past_others, own_number, linked_is, names_of, records_named, named_place, length_named}
use Rattle.law_image_tables.specs.Declared.{above, base_of, typed, IsBefore}
use Rattle.law_image_tables.proofs.Bases.{NextBase, AreBased}
use Rattle.law_image_tables.proofs.Records.{IsLink, IsLinked, RecordsBased}

-- AS THEY ARE ADDED

module _ (m : List ℕ) (first : ℕ) (links : List ℕ) (k : ℕ) where
  abbrev pub AreAdded : List Descriptor → List RecordType → List Descriptor → Type 0
  AreAdded types [] [] = Unit {0}
  AreAdded types [] (d ∷ ds) = ⊥
  AreAdded types (t ∷ rs) [] = ⊥
  AreAdded types (t ∷ rs) (d ∷ ds) = (d ≡ descriptor_of m first links types k t) × AreAdded (types ++ d ∷ []) rs ds

  pub record Added (types : List Descriptor) (rs : List RecordType) : Type 0 where
    pub descriptors : List Descriptor
    pub is : with_types m first links k types rs ≡ types ++ descriptors
    pub are : AreAdded types rs descriptors

  pub added : (types : List Descriptor) (rs : List RecordType) → Added types rs
  added types [] = record { descriptors = []; is = sym (append-nil types); are = tt }
  added types (t ∷ rs) =
      let d = descriptor_of m first links types k t in
      let r = added (types ++ d ∷ []) rs in
      record { descriptors = d ∷ r.descriptors; is = r.is ∙ append_assoc types (d ∷ []) r.descriptors; are = (refl, r.are) }

  pub are_of : (types : List Descriptor) (rs : List RecordType) (ds : List Descriptor) → AreAdded types rs ds → AreOf m (map (λ t. t.name) rs) ds
  are_of types [] [] a = tt
  are_of types [] (d ∷ ds) a = absurd a
  are_of types (t ∷ rs) [] a = absurd a
  are_of types (t ∷ rs) (d ∷ ds) a = (ap (λ (d : Descriptor). d.«module») a.0, (ap (λ (d : Descriptor). d.name) a.0, are_of (types ++ d ∷ []) rs ds a.1))

-- NAMES

pub name_within : (xs : List (List ℕ)) (x : List ℕ) → place_of xs x < length xs → IsName xs x
name_within [] x lt = absurd (omega (arith, lt))
name_within (y ∷ xs) x lt = go (bytes_eq x y) lt (λ l. name_within xs x l)
  where
    go : (b : Bool) → (if b then 0 else suc (place_of xs x)) < suc (length xs) → (place_of xs x < length xs → IsName xs x) → OrElse b (Unit {0}) (IsName xs x)
    go true l more = tt
    go false l more = more (omega (arith, l))

pub descriptor_named : (m : List ℕ) (xs : List (List ℕ)) (ds : List Descriptor) (q : QName) → AreOf m xs ds → IsName xs q.object → bytes_eq q.«module» m ≡ true → IsDescriptor ds q
descriptor_named m [] ds q a i f = absurd i
descriptor_named m (y ∷ xs) [] q a i f = absurd a
descriptor_named m (y ∷ xs) (d ∷ ds) q a i f =
    let e = ap (λ z. bytes_eq q.«module» z && bytes_eq q.object d.name) a.0 ∙ ap (λ b. b && bytes_eq q.object d.name) f ∙ ap (bytes_eq q.object) a.1.0 in
    subst (λ b. OrElse b (Unit {0}) (IsDescriptor ds q)) (sym e) (go (bytes_eq q.object y) i (λ j. descriptor_named m xs ds q a.1.1 j f))
  where
    go : (b : Bool) → OrElse b (Unit {0}) (IsName xs q.object) → (IsName xs q.object → IsDescriptor ds q) → OrElse b (Unit {0}) (IsDescriptor ds q)
    go true i more = tt
    go false i more = more i

pub descriptor_behind : (ds es : List Descriptor) (q : QName) → IsDescriptor es q → IsDescriptor (ds ++ es) q
descriptor_behind [] es q i = i
descriptor_behind (d ∷ ds) es q i = go (bytes_eq q.«module» d.«module» && bytes_eq q.object d.name) (descriptor_behind ds es q i)
  where
    go : (b : Bool) → IsDescriptor (ds ++ es) q → OrElse b (Unit {0}) (IsDescriptor (ds ++ es) q)
    go true more = tt
    go false more = more

-- a linked type stands before
linked_within : (n : ℕ) (ds es : List Descriptor) (q : QName) → IsSome (type_from n ds q) → type_number (ds ++ es) q < length ds
linked_within n [] es q s = absurd (cc)
linked_within n (d ∷ ds) es q s =
    let e : (same q.«module» d.«module» && same q.object d.name) ≡ (bytes_eq q.«module» d.«module» && bytes_eq q.object d.name) = ap (λ b. b && same q.object d.name) (same_is q.«module» d.«module») ∙ ap (λ b. bytes_eq q.«module» d.«module» && b) (same_is q.object d.name) in
    go (same q.«module» d.«module» && same q.object d.name) (bytes_eq q.«module» d.«module» && bytes_eq q.object d.name) e s (λ t. linked_within (suc n) ds es q t)
  where
    go : (a b : Bool) → a ≡ b → IsSome (if a then Some n else type_from (suc n) ds q) → (IsSome (type_from (suc n) ds q) → type_number (ds ++ es) q < length ds) → (if b then 0 else suc (type_number (ds ++ es) q)) < suc (length ds)
    go true true e s more = omega arith
    go false false e s more = let m = more s in omega (arith, m)
    go true false e s more = absurd (cc)
    go false true e s more = absurd (cc)

-- THE BASES OF A FILE'S DESCRIPTORS, which stand behind others and before later ones

module _ (types : QName → Option Desc) (md : Module) (before mine behind all : List Descriptor) (is : all ≡ before ++ (mine ++ behind)) (none : NotOf md.name before) (are : AreOf md.name (names_of md.types) mine) (some : AllByRecursion (λ q. IsSome (linked_type before q)) (type_links types md)) where
  abbrev first : ℕ
  first = length before

  abbrev linked : List QName
  linked = type_links types md

  abbrev links : List ℕ
  links = map (λ q. or_zero (linked_type before q)) linked

  abbrev index : List ℕ → ℕ
  index x = type_index (own types md) x

  abbrev count : ℕ
  count = length (records_in types md linked md.types)

  -- a type of the module has its number
  own_there : (b : QName) → is_own (own types md) b.«module» ≡ true → index b.object < count → type_number all b ≡ first + index b.object
  own_there b e lt =
      let n = ap length (records_named types md linked md.types) in
      let m = length_named (records_in types md linked md.types) in
      let p = named_place (records_among md.types) b.object in
      let there = name_within (names_of md.types) b.object (omega (arith, lt, n, m, p)) in
      let name : b ≡ typed md.name b.object = ap (λ z. typed z b.object) (bytes_true b.«module» md.name e) in
      ap (type_number all) name ∙ ap (λ t. type_number t (typed md.name b.object)) is
      ∙ past_others md.name b.object before (mine ++ behind) none
      ∙ ap (λ n. first + n) (own_number md.name (names_of md.types) mine behind b.object are there ∙ sym p)

  -- and a linked one
  link_there : (b : QName) → IsLink linked b → (slice_get links (number_among same_type linked b) ≡ Some (type_number all b)) × (type_number all b < first)
  link_there b i =
      let there = all_at (λ q. IsSome (linked_type before q)) linked (number_among same_type linked b) b some i in
      let number = linked_is before (mine ++ behind) b there ∙ ap (λ t. type_number t b) (sym is) in
      let within : type_number all b < first = subst (λ t. type_number t b < first) (sym is) (linked_within 0 before (mine ++ behind) b there) in
      (map_at (λ q. or_zero (linked_type before q)) linked (number_among same_type linked b) b i ∙ ap (λ n. Some n) number, within)

  module _ (program : Program) where
    next_is : (rest : List QName) (i : ℕ) → i < count → IsBefore program types md i (head rest) → IsLinked types md linked (head rest) → NextBase program all rest (base_number first links (base_in types md linked (head rest))) (first + i)
    next_is [] i lt h k = refl
    next_is (b ∷ line) i lt h k = go (is_own (own types md) b.«module») refl
      where
        go : (z : Bool) → is_own (own types md) b.«module» ≡ z → (base_number first links (if z then base.Own (index b.object) else base.Link (number_among same_type linked b)) ≡ Some (type_number all b)) × (type_number all b < first + i)
        go true e =
            let n = h e in
            let w = own_there b e (omega (arith, n, lt)) in
            (ap (λ j. Some j) (sym w), omega (arith, w, n))
        go false e =
            let w = link_there b (k e) in
            let lt2 = w.1 in
            (w.0, omega (arith, lt2))

    pub descriptors_based : (k : ℕ) (ts : List Descriptor) (rs : List RecordType) (ds : List Descriptor) (i : ℕ) → i + length rs ≤ count → AreAdded md.name first links k ts rs ds → RecordsBased types md program linked rs i → AreBased program all ds (first + i)
    descriptors_based k ts [] [] i le a h = tt
    descriptors_based k ts [] (d ∷ ds) i le a h = absurd a
    descriptors_based k ts (t ∷ rs) [] i le a h = absurd a
    descriptors_based k ts (t ∷ rs) (d ∷ ds) i le a h =
        let name : typed md.name t.name ≡ typed d.«module» d.name = sym (ap (λ (d : Descriptor). typed d.«module» d.name) a.0) in
        let number : d.base ≡ base_number first links (base_in types md linked (base_of program (typed md.name t.name))) = ap (λ (d : Descriptor). d.base) a.0 ∙ ap (base_number first links) h.0.0 in
        let one = next_is (above (bases_in program (typed md.name t.name))) i (omega (arith, le)) h.0.1.0 h.0.1.1 in
        let e : first + suc i ≡ suc (first + i) = omega arith in (
          subst (λ q. NextBase program all (above (bases_in program q)) d.base (first + i)) name (subst (λ o. NextBase program all (above (bases_in program (typed md.name t.name))) o (first + i)) (sym number) one),
          subst (AreBased program all ds) e (descriptors_based k (ts ++ d ∷ []) rs ds (suc i) (omega (arith, le)) a.1 h.1),
        )
