-- Lists that rise strictly are told by their members.
use Rattle.std.proofs.Common.{◌≡◌, ℕ, zero, suc, ◌<◌, true, List, [], ◌∷◌, length, refl, sym, ap, subst, ◌∙◌, arith}
use Rattle.std.specs.Prelude.{Contains, ◌⊎◌, slice_index_or}
use Rattle.std.specs.List.{AllByRecursion, dedup}
use Rattle.std.specs.List.Sorted.{IsStrictlySortedBy, IsSorted, IsPermutation}
use Rattle.std.specs.Cmp.{IsTotalOrder, eq_by_cmp_equiv}
use Rattle.std.specs.Ordering.{eq_by_cmp, ordering_reverse, is_eq}
use Rattle.std.specs.declared.cmp.Ordering.{Ordering}
use Rattle.std.specs.declared.cmp.Ordering.TheVariants.{Less, Equal, Greater}
use Rattle.std.proofs.lemmas.List.Kept.{IsStrictlySortedBy-dedup, Contains-dedup, Contains-from_dedup}
use Rattle.std.proofs.lemmas.List.Sorted.{Contains-permutation, IsPermutation-sym}
use Rattle.ob_layout.specs.Lists.{put_before, put_in, in_order}
use mathlib.Core.Logic.{inl, inr}

unfoldable pub Has : {X : Type 0} → X → List X → Type 0
Has x [] = ⊥
Has x (y ∷ ys) = (x ≡ y) ⊎ Has x ys

has_at : {X : Type 0} (x : X) (xs : List X) (k : ℕ) → k < length xs → slice_index_or xs k x ≡ x → Has x xs
unfolding Has
has_at x [] k l e = absurd (omega (arith, l))
has_at x (y ∷ ys) zero l e = inl (sym e)
has_at x (y ∷ ys) (suc k) l e = inr (has_at x ys k (omega (arith, l)) e)

pub has : {X : Type 0} (xs : List X) (x : X) → Contains xs x → Has x xs
has xs x c = has_at x xs c.0 c.1 c.2

pub contains : {X : Type 0} (xs : List X) (x : X) → Has x xs → Contains xs x
unfolding Has
contains [] x h = absurd h
contains (y ∷ ys) x (inl e) = (0, omega arith, sym e)
contains (y ∷ ys) x (inr h) = let c = contains ys x h in (suc c.0, omega (arith, c.1), c.2)

module _ {X : Type 0} {R : X → X → Ordering} (o : IsTotalOrder R) (same : (x y : X) → R x y ≡ Equal → x ≡ y) where
  Below : X → List X → Type 0
  Below x ys = AllByRecursion (λ y. R x y ≡ Less) ys

  below_more : (x y : X) (ys : List X) → R x y ≡ Less → AllByRecursion (λ z. R y z ≡ Less) ys → AllByRecursion (λ z. R x z ≡ Less) ys
  below_more x y [] l b = tt
  below_more x y (z ∷ zs) l b = (o.trans x y z l b.0, below_more x y zs l b.1)

  pub below_has : (x z : X) (ys : List X) → AllByRecursion (λ y. R x y ≡ Less) ys → Has z ys → R x z ≡ Less
  unfolding Has
  below_has x z [] b h = absurd h
  below_has x z (y ∷ ys) b (inl e) = subst (λ (w : X). R x w ≡ Less) (sym e) b.0
  below_has x z (y ∷ ys) b (inr h) = below_has x z ys b.1 h

  turned : (x y : X) → R x y ≡ Greater → R y x ≡ Less
  turned x y e = o.antisymm y x ∙ ap ordering_reverse e

  put_below : (z x : X) (ys : List X) → R z x ≡ Less → AllByRecursion (λ y. R z y ≡ Less) ys → AllByRecursion (λ y. R z y ≡ Less) (put_in R x ys)
  put_below z x [] l b = (l, tt)
  put_below z x (y ∷ ys) l b = elim (R x y) as (λ r. AllByRecursion (λ y. R z y ≡ Less) (put_before r x y ys (put_in R x ys))) [
    | Less ↦ (l, (b.0, b.1))
    | Equal ↦ (b.0, b.1)
    | Greater ↦ (b.0, put_below z x ys l b.1)
  ]

  put_strict : (x : X) (ys : List X) → IsStrictlySortedBy R ys → IsStrictlySortedBy R (put_in R x ys)
  unfolding IsStrictlySortedBy
  put_strict x [] s = (tt, tt)
  put_strict x (y ∷ ys) s = elim (R x y) as (λ r. R x y ≡ r → IsStrictlySortedBy R (put_before r x y ys (put_in R x ys))) [
    | Less ↦ λ e. ((e, below_more x y ys e s.0), (s.0, s.1))
    | Equal ↦ λ e. (s.0, s.1)
    | Greater ↦ λ e. (put_below y x ys (turned x y e) s.0, put_strict x ys s.1)
  ] refl

  pub order_strict : (xs : List X) → IsStrictlySortedBy R (in_order R xs)
  unfolding IsStrictlySortedBy
  order_strict [] = tt
  order_strict (x ∷ xs) = put_strict x (in_order R xs) (order_strict xs)

  put_itself : (x : X) (ys : List X) → Has x (put_in R x ys)
  unfolding Has
  put_itself x [] = inl refl
  put_itself x (y ∷ ys) = elim (R x y) as (λ r. R x y ≡ r → Has x (put_before r x y ys (put_in R x ys))) [
    | Less ↦ λ e. inl refl
    | Equal ↦ λ e. inl (same x y e)
    | Greater ↦ λ e. inr (put_itself x ys)
  ] refl

  put_keeps : (x z : X) (ys : List X) → Has z ys → Has z (put_in R x ys)
  unfolding Has
  put_keeps x z [] h = absurd h
  put_keeps x z (y ∷ ys) h = elim (R x y) as (λ r. Has z (put_before r x y ys (put_in R x ys))) [
    | Less ↦ inr h
    | Equal ↦ h
    | Greater ↦ elim h as (λ _. (z ≡ y) ⊎ Has z (put_in R x ys)) [ inl e ↦ inl e | inr g ↦ inr (put_keeps x z ys g) ]
  ]

  put_only : (x z : X) (ys : List X) → Has z (put_in R x ys) → (z ≡ x) ⊎ Has z ys
  unfolding Has
  put_only x z [] h = h
  put_only x z (y ∷ ys) h = elim (R x y) as (λ r. Has z (put_before r x y ys (put_in R x ys)) → (z ≡ x) ⊎ Has z (y ∷ ys)) [
    | Less ↦ λ h. h
    | Equal ↦ λ h. inr h
    | Greater ↦ λ h. elim h as (λ _. (z ≡ x) ⊎ Has z (y ∷ ys)) [
      | inl e ↦ inr (inl e)
      | inr g ↦ elim (put_only x z ys g) as (λ _. (z ≡ x) ⊎ Has z (y ∷ ys)) [ inl e ↦ inl e | inr k ↦ inr (inr k) ]
    ]
  ] h

  order_keeps : (z : X) (xs : List X) → Has z xs → Has z (in_order R xs)
  unfolding Has
  order_keeps z [] h = absurd h
  order_keeps z (x ∷ xs) (inl e) = subst (λ (w : X). Has w (put_in R x (in_order R xs))) (sym e) (put_itself x (in_order R xs))
  order_keeps z (x ∷ xs) (inr h) = put_keeps x z (in_order R xs) (order_keeps z xs h)

  pub order_only : (z : X) (xs : List X) → Has z (in_order R xs) → Has z xs
  unfolding Has
  order_only z [] h = absurd h
  order_only z (x ∷ xs) h = elim (put_only x z (in_order R xs) h) as (λ _. (z ≡ x) ⊎ Has z xs) [ inl e ↦ inl e | inr g ↦ inr (order_only z xs g) ]

  pub unlike : (x y : X) → R x y ≡ Less → R y x ≡ Less → ⊥
  unlike x y l k = absurd (cases (sym l ∙ o.antisymm x y ∙ ap ordering_reverse k))
    where
      cases : Less ≡ Greater → ⊥
      cases e = cc

  first_is : (x y : X) (xs ys : List X) → AllByRecursion (λ z. R x z ≡ Less) xs → AllByRecursion (λ z. R y z ≡ Less) ys → Has x (y ∷ ys) → Has y (x ∷ xs) → x ≡ y
  unfolding Has
  first_is x y xs ys b c (inl e) k = e
  first_is x y xs ys b c (inr h) (inl e) = sym e
  first_is x y xs ys b c (inr h) (inr k) = absurd (unlike x y (below_has x y xs b k) (below_has y x ys c h))

  itself : (x : X) → R x x ≡ Less → ⊥
  itself x l = unlike x x l l

  rest_is : (x y z : X) (xs ys : List X) → x ≡ y → AllByRecursion (λ w. R x w ≡ Less) xs → Has z xs → Has z (y ∷ ys) → Has z ys
  unfolding Has
  rest_is x y z xs ys e b h (inl f) = absurd (itself x (subst (λ (w : X). R x w ≡ Less) (f ∙ sym e) (below_has x z xs b h)))
  rest_is x y z xs ys e b h (inr g) = g

  -- two lists that rise strictly and have the same members are the same
  unique : (xs ys : List X) → IsStrictlySortedBy R xs → IsStrictlySortedBy R ys → ((z : X) → Has z xs → Has z ys) → ((z : X) → Has z ys → Has z xs) → xs ≡ ys
  unfolding Has IsStrictlySortedBy
  unique [] [] s t f g = refl
  unique [] (y ∷ ys) s t f g = absurd (g y (inl refl))
  unique (x ∷ xs) [] s t f g = absurd (f x (inl refl))
  unique (x ∷ xs) (y ∷ ys) s t f g =
      let e : x ≡ y = first_is x y xs ys s.0 t.0 (f x (inl refl)) (g y (inl refl)) in
      let rest : xs ≡ ys = unique xs ys s.1 t.1 (λ z h. rest_is x y z xs ys e s.0 h (f z (inr h))) (λ z h. rest_is y x z ys xs (sym e) t.0 h (g z (inr h))) in
      cc (e, rest)

  -- lists with the same members have the same order
  pub same_order : (xs ys : List X) → ((z : X) → Has z xs → Has z ys) → ((z : X) → Has z ys → Has z xs) → in_order R xs ≡ in_order R ys
  same_order xs ys f g =
      unique (in_order R xs) (in_order R ys) (order_strict xs) (order_strict ys)
      (λ z h. order_keeps z ys (f z (order_only z xs h))) (λ z h. order_keeps z xs (g z (order_only z ys h)))

  -- a list that was sorted and then freed of doubles
  pub sorted_is : (xs ys : List X) → IsPermutation xs ys → IsSorted R ys → dedup (eq_by_cmp R) ys ≡ in_order R xs
  sorted_is xs ys moved sorted =
      unique (dedup (eq_by_cmp R) ys) (in_order R xs) (IsStrictlySortedBy-dedup o (λ _ _. refl) ys sorted) (order_strict xs)
      (λ z h. order_keeps z xs (has xs z (Contains-permutation ys xs z (IsPermutation-sym xs ys moved) (Contains-from_dedup (eq_by_cmp R) ys z (contains (dedup (eq_by_cmp R) ys) z h)))))
      (λ z h. has (dedup (eq_by_cmp R) ys) z (Contains-dedup (eq_by_cmp_equiv o) (λ x y e. same x y (tie (R x y) e)) ys z (Contains-permutation xs ys z moved (contains xs z (order_only z xs h)))))
    where
      tie : (r : Ordering) → is_eq r ≡ true → r ≡ Equal
      tie Less e = absurd cc
      tie Equal e = refl
      tie Greater e = absurd cc
