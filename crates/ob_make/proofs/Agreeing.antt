-- Orders over the same needs are the same.
use Rattle.std.proofs.Common.{◌≡◌, ℕ, zero, suc, ◌+◌, Bool, true, false, List, [], ◌∷◌, length, None, Result, Ok, Err, refl, ap, ◌∙◌}
use Rattle.std.specs.Prelude.{if◌then◌else◌, nat_le}
use Rattle.std.specs.List.{AllByRecursion}
use Rattle.ob_parse_grammar.specs.Identifiers.{is_identifier}
use Rattle.ob_link.specs.Walk.{visit, has, enters, all_in_turn, and_then, leaves}
use Rattle.ob_make.specs.Seen.{Seen, needs}
use Rattle.ob_make.specs.Order.{MakeEnd, Cycle, newest, met_if, steps, order}
use Rattle.ob_make.proofs.Visits.{Visit}

and_both : (r q : Result (List (List ℕ)) MakeEnd) (f g : List (List ℕ) → Result (List (List ℕ)) MakeEnd) → r ≡ q → ((l : List (List ℕ)) → f l ≡ g l) → and_then r f ≡ and_then q g
and_both r q f g e h = ap (λ x. and_then x f) e ∙ by q
  where
    by : (x : Result (List (List ℕ)) MakeEnd) → and_then x f ≡ and_then x g
    by (Ok l) = h l
    by (Err f) = refl

all_same : (v w : Visit) (P : List ℕ → Type 0) → ((n : List ℕ) (left : List (List ℕ)) → P n → v n left ≡ w n left) → (ns : List (List ℕ)) → AllByRecursion P ns → (left : List (List ℕ)) → all_in_turn v ns left ≡ all_in_turn w ns left
all_same v w P same [] all left = refl
all_same v w P same (n ∷ ns) all left = and_both (v n left) (w n left) (all_in_turn v ns) (all_in_turn w ns) (same n left all.0) (all_same v w P same ns all.1)

enters_same : {K L : Type 0} (s : Seen K) (t : Seen L) (v w : Visit) (b : Bool) (n : List ℕ) (left : List (List ℕ)) → all_in_turn v (needs s n) left ≡ all_in_turn w (needs t n) left → enters (steps s) v (met_if b n) left ≡ enters (steps t) w (met_if b n) left
enters_same s t v w true n left e = ap (λ r. and_then r (λ l. leaves {R = MakeEnd} None n l)) e
enters_same s t v w false n left e = refl

module _ {K L : Type 0} (s : Seen K) (t : Seen L) (same : (n : List ℕ) → is_identifier n ≡ true → needs s n ≡ needs t n) (all : (n : List ℕ) → is_identifier n ≡ true → AllByRecursion (λ k. is_identifier k ≡ true) (needs s n)) where
  pub visits_agree : (d : ℕ) (path : List (List ℕ)) (n : List ℕ) (left : List (List ℕ)) → is_identifier n ≡ true → visit (steps s) d path n left ≡ visit (steps t) d path n left
  unfolding visit
  visits_agree zero path n left is = refl
  visits_agree (suc d) path n left is =
      let v = visit (steps s) d (n ∷ path) in
      let w = visit (steps t) d (n ∷ path) in
      ap (λ r. if has n left then Ok left else if has n path then Err (Cycle (newest n path)) else r)
      (enters_same s t v w (nat_le (suc (length left + length path)) 255) n left
      (all_same v w (λ k. is_identifier k ≡ true) (λ k l h. visits_agree d (n ∷ path) k l h) (needs s n) (all n is) left
      ∙ ap (λ ns. all_in_turn w ns left) (same n is)))

  pub orders_agree : (m : List ℕ) → is_identifier m ≡ true → order s m ≡ order t m
  orders_agree m is = visits_agree 257 [] m [] is
