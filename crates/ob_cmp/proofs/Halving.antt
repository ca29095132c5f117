-- A look-up by halving.
use Rattle.std.proofs.Common.{◌≡◌, ◌<◌, ◌≤◌, ℕ, zero, suc, ◌+◌, Bool, true, false, cond, List, [], ◌∷◌, length, get_or, Option, Some, None, refl, sym, ap, subst, ◌∙◌, arith}
use Rattle.std.specs.Prelude.{◌⊎◌, bytes_eq}
use Rattle.std.specs.List.Sorted.{IsStrictlySortedBy}
use Rattle.std.specs.Ordering.{nat_cmp, ordering_reverse}
use Rattle.std.specs.Cmp.Lexicographic.{slice_cmp}
use Rattle.std.specs.declared.cmp.Ordering.TheVariants.{Less, Equal, Greater}
use Rattle.std.proofs.lemmas.Cmp.{nat_list_cmp_total}
use Rattle.std.proofs.lemmas.Map.Keys.{Less-from_sorted}
use Rattle.ob_types.specs.declared.face.Object.{Object}
use Rattle.ob_sym.specs.Grammar.{by_name}
use Rattle.ob_uses.proofs.SamePairs.{bytes_same}
use Rattle.ob_cmp.specs.Rising.{object_at}
use Rattle.ob_cmp.proofs.Merging.{apart, turned_apart, eq_itself}
use mathlib.Core.Logic.{inl, inr}

same_at : (os : List Object) (k : ℕ) (d e : Object) → k < length os → get_or os k d ≡ get_or os k e
same_at [] k d e lt = absurd (omega (arith, lt))
same_at (o ∷ os) zero d e lt = refl
same_at (o ∷ os) (suc k) d e lt = same_at os k d e (omega (arith, lt))

-- all before this place are below the name, all from that place on above it
abbrev pub AllBelow : List ℕ → List Object → ℕ → Type 0
AllBelow x os low = (k : ℕ) (d : Object) → k < low → slice_cmp nat_cmp (get_or os k d).name x ≡ Less

abbrev pub AllAbove : List ℕ → List Object → ℕ → Type 0
AllAbove x os high = (k : ℕ) (d : Object) → high ≤ k → k < length os → slice_cmp nat_cmp x (get_or os k d).name ≡ Less

three : (k m : ℕ) → (k ≡ m) ⊎ ((k < m) ⊎ (m < k))
three zero zero = inl refl
three zero (suc m) = inr (inl (omega arith))
three (suc k) zero = inr (inr (omega arith))
three (suc k) (suc m) = elim (three k m) as (λ _. (suc k ≡ suc m) ⊎ ((suc k < suc m) ⊎ (suc m < suc k))) [
  | inl e ↦ inl (ap suc e)
  | inr h ↦ elim h as (λ _. (suc k ≡ suc m) ⊎ ((suc k < suc m) ⊎ (suc m < suc k))) [ inl l ↦ inr (inl (omega (arith, l))) | inr g ↦ inr (inr (omega (arith, g))) ]
]

pub above_from : (x : List ℕ) (os : List Object) (middle : ℕ) (o : Object) → IsStrictlySortedBy by_name os → middle < length os → o ≡ get_or os middle o → slice_cmp nat_cmp x o.name ≡ Less → AllAbove x os middle
above_from x os middle o sorted lt is less = λ k d from inside.
    let here : slice_cmp nat_cmp x (get_or os middle d).name ≡ Less = subst (λ (p : Object). slice_cmp nat_cmp x p.name ≡ Less) (is ∙ same_at os middle o d lt) less in
    elim (three k middle) as (λ _. slice_cmp nat_cmp x (get_or os k d).name ≡ Less) [
      | inl e ↦ subst (λ (j : ℕ). slice_cmp nat_cmp x (get_or os j d).name ≡ Less) (sym e) here
      | inr h ↦ elim h as (λ _. slice_cmp nat_cmp x (get_or os k d).name ≡ Less) [
        | inl l ↦ absurd (omega (arith, l, from))
        | inr g ↦ nat_list_cmp_total.trans x (get_or os middle d).name (get_or os k d).name here (Less-from_sorted by_name os middle k d sorted g inside)
      ]
    ]

pub below_up_to : (x : List ℕ) (os : List Object) (middle : ℕ) (o : Object) → IsStrictlySortedBy by_name os → middle < length os → o ≡ get_or os middle o → slice_cmp nat_cmp x o.name ≡ Greater → AllBelow x os (middle + 1)
below_up_to x os middle o sorted lt is more = λ k d up.
    let turned : slice_cmp nat_cmp o.name x ≡ Less = nat_list_cmp_total.antisymm o.name x ∙ ap ordering_reverse more in
    let here : slice_cmp nat_cmp (get_or os middle d).name x ≡ Less = subst (λ (p : Object). slice_cmp nat_cmp p.name x ≡ Less) (is ∙ same_at os middle o d lt) turned in
    elim (three k middle) as (λ _. slice_cmp nat_cmp (get_or os k d).name x ≡ Less) [
      | inl e ↦ subst (λ (j : ℕ). slice_cmp nat_cmp (get_or os j d).name x ≡ Less) (sym e) here
      | inr h ↦ elim h as (λ _. slice_cmp nat_cmp (get_or os k d).name x ≡ Less) [
        | inl l ↦ nat_list_cmp_total.trans (get_or os k d).name (get_or os middle d).name x (Less-from_sorted by_name os k middle d sorted l lt) here
        | inr g ↦ absurd (omega (arith, g, up))
      ]
    ]

object_found : (x : List ℕ) (os : List Object) (k : ℕ) (d : Object) → k < length os → ((j : ℕ) → j < k → bytes_eq x (get_or os j d).name ≡ false) → bytes_eq x (get_or os k d).name ≡ true → object_at x os ≡ Some (get_or os k d)
object_found x [] k d lt f e = absurd (omega (arith, lt))
object_found x (o ∷ os) zero d lt f e = ap (λ b. cond b (Some o) (object_at x os)) e
object_found x (o ∷ os) (suc k) d lt f e = ap (λ b. cond b (Some o) (object_at x os)) (f zero (omega arith)) ∙ object_found x os k d (omega (arith, lt)) (λ j h. f (suc j) (omega (arith, h))) e

pub found : (x : List ℕ) (os : List Object) (middle : ℕ) (o : Object) → IsStrictlySortedBy by_name os → middle < length os → o ≡ get_or os middle o → slice_cmp nat_cmp x o.name ≡ Equal → object_at x os ≡ Some o
found x os middle o sorted lt is same =
    let e : x ≡ (get_or os middle o).name = bytes_same x o.name same ∙ ap (λ (p : Object). p.name) is in
    object_found x os middle o lt
    (λ j h. turned_apart (get_or os j o).name x (subst (λ (y : List ℕ). slice_cmp nat_cmp (get_or os j o).name y ≡ Less) (sym e) (Less-from_sorted by_name os j middle o sorted h lt)))
    (subst (λ (y : List ℕ). bytes_eq x y ≡ true) e (eq_itself x))
    ∙ ap (λ p. Some p) (sym is)

object_missing : (x : List ℕ) (os : List Object) → ((k : ℕ) (d : Object) → k < length os → bytes_eq x (get_or os k d).name ≡ false) → object_at x os ≡ None
object_missing x [] f = refl
object_missing x (o ∷ os) f = ap (λ b. cond b (Some o) (object_at x os)) (f zero o (omega arith)) ∙ object_missing x os (λ k d h. f (suc k) d (omega (arith, h)))

halves : (k low : ℕ) → (k < low) ⊎ (low ≤ k)
halves k low = elim (three k low) as (λ _. (k < low) ⊎ (low ≤ k)) [
  | inl e ↦ inr (omega (arith, e))
  | inr h ↦ elim h as (λ _. (k < low) ⊎ (low ≤ k)) [ inl l ↦ inl l | inr g ↦ inr (omega (arith, g)) ]
]

pub missing : (x : List ℕ) (os : List Object) (low high : ℕ) → high ≤ low → AllBelow x os low → AllAbove x os high → object_at x os ≡ None
missing x os low high met below above = object_missing x os (λ k d inside. elim (halves k low) as (λ _. bytes_eq x (get_or os k d).name ≡ false) [
  | inl l ↦ turned_apart (get_or os k d).name x (below k d l)
  | inr g ↦ apart x (get_or os k d).name (above k d (omega (arith, g, met)) inside)
])
