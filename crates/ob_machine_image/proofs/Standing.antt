-- The bases of a file's types are there when it is entered.
use Rattle.std.proofs.Common.{rules, ◌≡◌, ℕ, zero, suc, ◌+◌, ◌<◌, ◌≤◌, Bool, true, false, List, [], ◌∷◌, ◌++◌, length, take, map, Option, Some, None, IsSome, IsTrue, refl, ap, subst, ◌∙◌, arith}
use Rattle.std.specs.Prelude.{slice_get, IfSome, ◌&&◌, if◌then◌else◌}
use Rattle.std.specs.List.{AllByRecursion}
use Rattle.std.proofs.lemmas.Bool.Decides.{nat_tests}
use Rattle.std.proofs.lemmas.List.{length-append, length-map, take-append-le}
use Rattle.ob_tree.specs.declared.names.QName.{QName}
use Rattle.ob_tdesc.specs.declared.descriptor.Descriptor.{Descriptor}
use Rattle.ob_obj.specs.declared.parts.Base.{Base}
use Rattle.ob_obj.specs.declared.parts.Base.TheVariants as base
use Rattle.ob_obj.specs.declared.parts.RecordType.{RecordType}
use Rattle.ob_obj.specs.Grammar.{base_stands, bases_stand}
use Rattle.ob_obj.specs.Images.{same, type_from, linked_type, or_zero, base_number, descriptor_of, with_types}
use Rattle.ob_machine_image.specs.Standing.{BasesStand}

-- LINKS

abbrev pub Below : ℕ → Option ℕ → Type 0
Below n o = IfSome o (λ k. k < n)

below_more : (m n : ℕ) (o : Option ℕ) → m ≤ n → Below m o → Below n o
below_more m n None le h = tt
below_more m n (Some k) le h = omega arith

found : (b : Bool) (n len : ℕ) (o : Option ℕ) → n < len → Below len o → Below len (if b then Some n else o)
found true n len o lt h = lt
found false n len o lt h = h

pub type_below : (n : ℕ) (types : List Descriptor) (q : QName) → Below (n + length types) (type_from n types q)
type_below n [] q = tt
type_below n (d ∷ types) q =
    let rest = below_more (suc n + length types) (n + length (d ∷ types)) (type_from (suc n) types q) (omega arith) (type_below (suc n) types q) in
    found (same q.«module» d.«module» && same q.object d.name) n (n + length (d ∷ types)) (type_from (suc n) types q) (omega arith) rest

number_below : (n : ℕ) (o : Option ℕ) → IsSome o → Below n o → or_zero o < n
number_below n None some h = absurd cc
number_below n (Some k) some h = h

pub links_below : (types : List Descriptor) (names : List QName) → AllByRecursion (λ q. IsSome (linked_type types q)) names → AllByRecursion (λ k. k < length types) (map (λ q. or_zero (linked_type types q)) names)
links_below types [] all = tt
links_below types (q ∷ names) all =
    let e : 0 + length types ≡ length types = omega arith in
    let h : Below (length types) (linked_type types q) = subst (λ n. Below n (linked_type types q)) e (type_below 0 types q) in (
      number_below (length types) (linked_type types q) all.0 h,
      links_below types names all.1,
    )

-- BASES

link_below : (first : ℕ) (links : List ℕ) (i : ℕ) → i < length links → AllByRecursion (λ k. k < first) links → Below first (slice_get links i)
link_below first [] i lt all = tt
link_below first (k ∷ links) zero lt all = all.0
link_below first (k ∷ links) (suc i) lt all = link_below first links i (omega arith) all.1

base_below : (first : ℕ) (links : List ℕ) (n i : ℕ) (b : Base) → AllByRecursion (λ k. k < first) links → n ≡ first + i → base_stands (length links) i b ≡ true → Below n (base_number first links b)
base_below first links n i base.None all e h = tt
base_below first links n i (base.Own k) all e h = let lt : k < i = grind (arith, nat_tests) in omega arith
base_below first links n i (base.Link k) all e h =
    let lt : k < length links = grind (arith, nat_tests) in
    below_more first n (slice_get links k) (omega arith) (link_below first links k lt all)

both : (a b : Bool) → a && b ≡ true → (a ≡ true) × (b ≡ true)
both true true e = (refl, refl)
both true false e = absurd cc
both false b e = absurd cc

bases_from : (first : ℕ) (links : List ℕ) (n i : ℕ) (own : List RecordType) → AllByRecursion (λ k. k < first) links → n ≡ first + i → bases_stand (length links) i own ≡ true → BasesStand first links n own
bases_from first links n i [] all e h = tt
bases_from first links n i (t ∷ own) all e h =
    let p = both (base_stands (length links) i t.base) (bases_stand (length links) (i + 1) own) h in (
      base_below first links n i t.base all e p.0,
      bases_from first links (suc n) (i + 1) own all (omega arith) p.1,
    )

pub bases_there : (types : List Descriptor) (names : List QName) (own : List RecordType) → AllByRecursion (λ q. IsSome (linked_type types q)) names → IsTrue (bases_stand (length names) 0 own) → BasesStand (length types) (map (λ q. or_zero (linked_type types q)) names) (length types) own
bases_there types names own all h =
    let links = map (λ q. or_zero (linked_type types q)) names in
    let e : length links ≡ length names = length-map names (λ q. or_zero (linked_type types q)) in
    let t : bases_stand (length links) 0 own ≡ true = ap (λ n. bases_stand n 0 own) e ∙ search (rules, h) in
    bases_from (length types) links (length types) 0 own (links_below types names all) (omega arith) t

-- THE TYPES OF A FILE

pub with_types_front : (module_name : List ℕ) (first : ℕ) (links : List ℕ) (m n : ℕ) (types : List Descriptor) (own : List RecordType) → n ≤ length types → take n (with_types module_name first links m types own) ≡ take n types
with_types_front module_name first links m n types [] le = refl
with_types_front module_name first links m n types (t ∷ own) le =
    let d = descriptor_of module_name first links types m t in
    let more : n ≤ length (types ++ d ∷ []) = omega (arith, length-append types (d ∷ [])) in
    with_types_front module_name first links m n (types ++ d ∷ []) own more ∙ take-append-le n types (d ∷ []) le

pub with_types_length : (module_name : List ℕ) (first : ℕ) (links : List ℕ) (m : ℕ) (types : List Descriptor) (own : List RecordType) → length (with_types module_name first links m types own) ≡ length types + length own
with_types_length module_name first links m types [] = omega arith
with_types_length module_name first links m types (t ∷ own) =
    let d = descriptor_of module_name first links types m t in
    let long = length-append types (d ∷ []) in
    with_types_length module_name first links m (types ++ d ∷ []) own ∙ omega arith
