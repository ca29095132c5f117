-- All of a list, lists in their order, and how long what is spelled is.
use Rattle.std.proofs.Common.{◌≡◌, ℕ, ◌≤◌, Bool, true, false, List, [], ◌∷◌, length, map, refl, ap, ◌∙◌, arith, length-append}
use Rattle.std.specs.Prelude.{cond}
use Rattle.std.specs.List.{AllByRecursion, filter, flat_map}
use Rattle.std.specs.List.Sorted.{IsStrictlySortedBy}
use Rattle.std.specs.Cmp.{IsTotalOrder}
use Rattle.std.specs.Ordering.{ordering_reverse}
use Rattle.std.specs.declared.cmp.Ordering.{Ordering}
use Rattle.std.specs.declared.cmp.Ordering.TheVariants.{Less, Equal, Greater}
use Rattle.ob_layout.specs.Lists.{put_before, put_in, in_order}
use Rattle.law_lists.proofs.Lists.{all_both, all_each, all_from}

pub all_sure : {A : Type 0} (P : A → Type 0) → ((x : A) → P x) → (xs : List A) → AllByRecursion P xs
all_sure P f [] = tt
all_sure P f (x ∷ xs) = (f x, all_sure P f xs)

kept_if : {A : Type 0} (P : A → Type 0) (b : Bool) (x : A) (xs : List A) → (b ≡ true → P x) → AllByRecursion P xs → AllByRecursion P (cond b (x ∷ xs) xs)
kept_if P true x xs h k = (h refl, k)
kept_if P false x xs h k = k

-- what those have that are kept
pub all_filtered : {A : Type 0} (test : A → Bool) (P : A → Type 0) (xs : List A) → AllByRecursion (λ x. test x ≡ true → P x) xs → AllByRecursion P (filter test xs)
all_filtered test P [] h = tt
all_filtered test P (x ∷ xs) h = kept_if P (test x) x (filter test xs) h.0 (all_filtered test P xs h.1)

pub all_flat : {A B : Type 0} (f : A → List B) (P : B → Type 0) (xs : List A) → AllByRecursion (λ x. AllByRecursion P (f x)) xs → AllByRecursion P (flat_map f xs)
all_flat f P [] h = tt
all_flat f P (x ∷ xs) h = all_both P (f x) (flat_map f xs) h.0 (all_flat f P xs h.1)

-- ---- lists in their order

pub all_in_order : {A : Type 0} (R : A → A → Ordering) (P : A → Type 0) (xs : List A) → AllByRecursion P xs → AllByRecursion P (in_order R xs)
all_in_order {A} R P [] h = tt
all_in_order {A} R P (x ∷ xs) h = put_all x (in_order R xs) h.0 (all_in_order R P xs h.1)
  where
    placed : (o : Ordering) (x y : A) (ys more : List A) → P x → P y → AllByRecursion P ys → AllByRecursion P more → AllByRecursion P (put_before o x y ys more)
    placed Less x y ys more a b c d = (a, (b, c))
    placed Equal x y ys more a b c d = (b, c)
    placed Greater x y ys more a b c d = (b, d)

    put_all : (x : A) (ys : List A) → P x → AllByRecursion P ys → AllByRecursion P (put_in R x ys)
    put_all x [] h k = (h, tt)
    put_all x (y ∷ ys) h k = placed (R x y) x y ys (put_in R x ys) h k.0 k.1 (put_all x ys h k.1)

module _ {X : Type 0} {R : X → X → Ordering} (o : IsTotalOrder R) where
  below_more : (x y : X) (ys : List X) → R x y ≡ Less → AllByRecursion (λ z. R y z ≡ Less) ys → AllByRecursion (λ z. R x z ≡ Less) ys
  below_more x y [] l b = tt
  below_more x y (z ∷ zs) l b = (o.trans x y z l b.0, below_more x y zs l b.1)

  turned : (x y : X) → R x y ≡ Greater → R y x ≡ Less
  turned x y e = o.antisymm y x ∙ ap ordering_reverse e

  put_below : (z x : X) (ys : List X) → R z x ≡ Less → AllByRecursion (λ y. R z y ≡ Less) ys → AllByRecursion (λ y. R z y ≡ Less) (put_in R x ys)
  put_below z x [] l b = (l, tt)
  put_below z x (y ∷ ys) l b = elim (R x y) as (λ r. AllByRecursion (λ y. R z y ≡ Less) (put_before r x y ys (put_in R x ys))) [
    | Less ↦ (l, (b.0, b.1))
    | Equal ↦ (b.0, b.1)
    | Greater ↦ (b.0, put_below z x ys l b.1)
  ]

  put_strict : (x : X) (ys : List X) → IsStrictlySortedBy R ys → IsStrictlySortedBy R (put_in R x ys)
  unfolding IsStrictlySortedBy
  put_strict x [] s = (tt, tt)
  put_strict x (y ∷ ys) s = elim (R x y) as (λ r. R x y ≡ r → IsStrictlySortedBy R (put_before r x y ys (put_in R x ys))) [
    | Less ↦ λ e. ((e, below_more x y ys e s.0), (s.0, s.1))
    | Equal ↦ λ e. (s.0, s.1)
    | Greater ↦ λ e. (put_below y x ys (turned x y e) s.0, put_strict x ys s.1)
  ] refl

  pub order_strict : (xs : List X) → IsStrictlySortedBy R (in_order R xs)
  unfolding IsStrictlySortedBy
  order_strict [] = tt
  order_strict (x ∷ xs) = put_strict x (in_order R xs) (order_strict xs)

-- items that stand for those of a list in its order, at most one for each
module _ {X Y : Type 0} (R : X → X → Ordering) (S : Y → Y → Ordering) where
  -- they are ordered alike
  pub each_strict : (f : X → Y) → ((a b : X) → S (f a) (f b) ≡ R a b) → (xs : List X) → IsStrictlySortedBy R xs → IsStrictlySortedBy S (map f xs)
  unfolding IsStrictlySortedBy
  each_strict f same [] s = tt
  each_strict f same (x ∷ xs) s = (all_each f (λ y. S (f x) y ≡ Less) xs (all_from (λ z. R x z ≡ Less) (λ z. S (f x) (f z) ≡ Less) (λ z e. same x z ∙ e) xs s.0), each_strict f same xs s.1)

-- ---- how long

pub flat_long : {A : Type 0} (f : A → List ℕ) (n : ℕ) (xs : List A) → length (flat_map f xs) ≤ n → AllByRecursion (λ x. length (f x) ≤ n) xs
flat_long f n [] h = tt
flat_long f n (x ∷ xs) h =
    let e = length-append (f x) (flat_map f xs) in
    (omega (arith, h, e), flat_long f n xs (omega (arith, h, e)))

-- each comes to at least one byte
pub flat_many : {A : Type 0} (f : A → List ℕ) → ((x : A) → 1 ≤ length (f x)) → (xs : List A) → length xs ≤ length (flat_map f xs)
flat_many f some [] = omega arith
flat_many f some (x ∷ xs) =
    let e = length-append (f x) (flat_map f xs) in
    omega (arith, e, some x, flat_many f some xs)
