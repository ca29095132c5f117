-- The order of a make, where the needs of all modules that it meets are the same.
use Rattle.std.proofs.Common.{◌≡◌, ℕ, List, [], ◌∷◌, ◌++◌, Bool, true, false, cond, refl, ap, ◌∙◌, None, Result, Ok, Err}
use Rattle.std.specs.Prelude.{zero, suc}
use Rattle.ob_link.specs.Walk.{has, and_then, all_in_turn, leaves, enters, visit}
use Rattle.ob_make.specs.Seen.{Seen, needs}
use Rattle.ob_make.specs.Order.{MakeEnd, Cycle, newest, met_if, steps, order}
use Rattle.ob_parse_grammar.specs.Identifiers.{is_identifier}
use Rattle.law_session.specs.Named.{AreIdentifiers}

-- modules in their order, or why there is none
abbrev Ordered : Type 0
Ordered = Result (List (List ℕ)) MakeEnd

-- what visits of modules do
abbrev Visits : Type 0
Visits = List ℕ → List (List ℕ) → Ordered

then_same : (r : Ordered) (f g : List (List ℕ) → Ordered) → ((x : List (List ℕ)) → f x ≡ g x) → and_then r f ≡ and_then r g
then_same (Ok x) f g h = h x
then_same (Err e) f g h = refl

all_alike : (one two : Visits) → ((n : List ℕ) (left : List (List ℕ)) → is_identifier n ≡ true → one n left ≡ two n left) → (ns left : List (List ℕ)) → AreIdentifiers ns → all_in_turn one ns left ≡ all_in_turn two ns left
all_alike one two h [] left i = refl
all_alike one two h (n ∷ ns) left i = ap (λ (r : Ordered). and_then r (all_in_turn one ns)) (h n left i.0) ∙ then_same (two n left) (all_in_turn one ns) (all_in_turn two ns) (λ x. all_alike one two h ns x i.1)

-- ---- names of an order

-- these are all identifiers
abbrev pub IsOfIdentifiers : Ordered → Type 0
IsOfIdentifiers (Ok xs) = AreIdentifiers xs
IsOfIdentifiers (Err e) = Unit {0}

and_one : (xs : List (List ℕ)) (n : List ℕ) → AreIdentifiers xs → is_identifier n ≡ true → AreIdentifiers (xs ++ n ∷ [])
and_one [] n all i = (i, tt)
and_one (x ∷ xs) n all i = (all.0, and_one xs n all.1 i)

then_named : (r : Ordered) (f : List (List ℕ) → Ordered) → IsOfIdentifiers r → ((x : List (List ℕ)) → AreIdentifiers x → IsOfIdentifiers (f x)) → IsOfIdentifiers (and_then r f)
then_named (Ok x) f i h = h x i
then_named (Err e) f i h = tt

all_named : (visits : Visits) → ((n : List ℕ) (left : List (List ℕ)) → is_identifier n ≡ true → AreIdentifiers left → IsOfIdentifiers (visits n left)) → (ns left : List (List ℕ)) → AreIdentifiers ns → AreIdentifiers left → IsOfIdentifiers (all_in_turn visits ns left)
all_named visits h [] left i l = l
all_named visits h (n ∷ ns) left i l = then_named (visits n left) (all_in_turn visits ns) (h n left i.0 l) (λ x k. all_named visits h ns x i.1 k)

by_test : (b : Bool) (x y : Ordered) → IsOfIdentifiers x → IsOfIdentifiers y → IsOfIdentifiers (cond b x y)
by_test true x y h k = h
by_test false x y h k = k

-- ---- two that see the same needs

module _ {K L : Type 0} (s : Seen K) (t : Seen L) (alike : (n : List ℕ) → is_identifier n ≡ true → needs s n ≡ needs t n) (named : (n : List ℕ) → is_identifier n ≡ true → AreIdentifiers (needs t n)) where
  entered : (one two : Visits) → ((n : List ℕ) (left : List (List ℕ)) → is_identifier n ≡ true → one n left ≡ two n left) → (b : Bool) (n : List ℕ) (left : List (List ℕ)) → is_identifier n ≡ true → enters (steps s) one (met_if b n) left ≡ enters (steps t) two (met_if b n) left
  entered one two h true n left i = ap (λ (r : Ordered). and_then r (λ now. leaves None n now)) (ap (λ ns. all_in_turn one ns left) (alike n i) ∙ all_alike one two h (needs t n) left (named n i))
  entered one two h false n left i = refl

  visits_alike : (deep : ℕ) (path : List (List ℕ)) (n : List ℕ) (left : List (List ℕ)) → is_identifier n ≡ true → visit (steps s) deep path n left ≡ visit (steps t) deep path n left
  unfolding visit
  visits_alike zero path n left i = refl
  visits_alike (suc deep) path n left i = ap (λ (r : Ordered). cond (has n left) (Ok left) (cond (has n path) (Err (Cycle (newest n path))) r)) (entered (visit (steps s) deep (n ∷ path)) (visit (steps t) deep (n ∷ path)) (λ k l j. visits_alike deep (n ∷ path) k l j) _ n left i)

  enter_named : (visits : Visits) → ((n : List ℕ) (left : List (List ℕ)) → is_identifier n ≡ true → AreIdentifiers left → IsOfIdentifiers (visits n left)) → (b : Bool) (n : List ℕ) (left : List (List ℕ)) → is_identifier n ≡ true → AreIdentifiers left → IsOfIdentifiers (enters (steps t) visits (met_if b n) left)
  enter_named visits h true n left i l = then_named (all_in_turn visits (needs t n) left) (λ now. leaves None n now) (all_named visits h (needs t n) left (named n i) l) (λ x k. and_one x n k i)
  enter_named visits h false n left i l = tt

  visit_named : (deep : ℕ) (path : List (List ℕ)) (n : List ℕ) (left : List (List ℕ)) → is_identifier n ≡ true → AreIdentifiers left → IsOfIdentifiers (visit (steps t) deep path n left)
  unfolding visit
  visit_named zero path n left i l = tt
  visit_named (suc deep) path n left i l = by_test (has n left) _ _ l (by_test (has n path) (Err (Cycle (newest n path))) _ tt (enter_named (visit (steps t) deep (n ∷ path)) (λ k x j y. visit_named deep (n ∷ path) k x j y) _ n left i l))

  -- the order is the same
  pub orders_alike : (m : List ℕ) → is_identifier m ≡ true → order s m ≡ order t m
  orders_alike m i = visits_alike 257 [] m [] i

  -- and all its modules are named by identifiers
  pub order_named : (m : List ℕ) → is_identifier m ≡ true → IsOfIdentifiers (order t m)
  order_named m i = visit_named 257 [] m [] i tt
