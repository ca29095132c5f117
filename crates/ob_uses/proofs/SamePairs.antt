-- Pairs that the order does not tell apart are the same.
use Rattle.std.proofs.Common.{◌≡◌, ℕ, List, [], ◌∷◌, refl, sym, ap, ◌∙◌}
use Rattle.std.specs.Ordering.{nat_cmp, ordering_then}
use Rattle.std.specs.Cmp.Lexicographic.{slice_cmp}
use Rattle.std.specs.declared.cmp.Ordering.{Ordering}
use Rattle.std.specs.declared.cmp.Ordering.TheVariants.{Less, Equal, Greater}
use Rattle.std.proofs.lemmas.Cmp.{ranked}
use Rattle.ob_tree.specs.declared.names.QName.{QName}
use Rattle.ob_types.specs.declared.face.Aspect.{Aspect}
use Rattle.ob_types.specs.declared.face.Aspect.TheVariants.{Shape, Layout}
use Rattle.ob_types.specs.Spelled.{aspect_number}
use Rattle.ob_uses.specs.declared.pair.Pair.{Pair}
use Rattle.ob_uses.specs.Order.{by_pair}

both_equal : (o p : Ordering) → ordering_then o p ≡ Equal → (o ≡ Equal) × (p ≡ Equal)
both_equal Less p e = absurd cc
both_equal Equal p e = (refl, e)
both_equal Greater p e = absurd cc

number_same : (x y : ℕ) → nat_cmp x y ≡ Equal → x ≡ y
number_same x y e = ranked x y Equal (sym e)

pub bytes_same : (a b : List ℕ) → slice_cmp nat_cmp a b ≡ Equal → a ≡ b
bytes_same [] [] e = refl
bytes_same [] (y ∷ ys) e = absurd cc
bytes_same (x ∷ xs) [] e = absurd cc
bytes_same (x ∷ xs) (y ∷ ys) e =
    let u = both_equal (nat_cmp x y) (slice_cmp nat_cmp xs ys) e in
    cc (number_same x y u.0, bytes_same xs ys u.1)

aspect_same : (a b : Aspect) → aspect_number a ≡ aspect_number b → a ≡ b
aspect_same Shape Shape e = refl
aspect_same Shape Layout e = absurd cc
aspect_same Layout Shape e = absurd cc
aspect_same Layout Layout e = refl

name_is : (a b : QName) → a.«module» ≡ b.«module» → a.object ≡ b.object → a ≡ b
name_is a b m o =
    let first : a ≡ record a { «module» = b.«module» } = ap (λ (l : List ℕ). record a { «module» = l }) m in
    let second : record a { «module» = b.«module» } ≡ b = ap (λ (l : List ℕ). record b { object = l }) o in
    first ∙ second

pub pair_same : (a b : Pair) → by_pair a b ≡ Equal → a ≡ b
pair_same a b e =
    let u = both_equal (slice_cmp nat_cmp a.object.«module» b.object.«module») (ordering_then (slice_cmp nat_cmp a.object.object b.object.object) (nat_cmp (aspect_number a.aspect) (aspect_number b.aspect))) e in
    let v = both_equal (slice_cmp nat_cmp a.object.object b.object.object) (nat_cmp (aspect_number a.aspect) (aspect_number b.aspect)) u.1 in
    let q : a.object ≡ b.object = name_is a.object b.object (bytes_same a.object.«module» b.object.«module» u.0) (bytes_same a.object.object b.object.object v.0) in
    let k : a.aspect ≡ b.aspect = aspect_same a.aspect b.aspect (number_same (aspect_number a.aspect) (aspect_number b.aspect) v.1) in
    let first : a ≡ record a { object = b.object } = ap (λ (l : QName). record a { object = l }) q in
    let second : record a { object = b.object } ≡ b = ap (λ (l : Aspect). record b { aspect = l }) k in
    first ∙ second
