-- What is so of the module that is made and passes on to needs is so of each module of the order.
use Rattle.std.proofs.Common.{◌≡◌, ℕ, zero, suc, ◌+◌, Bool, true, false, List, [], ◌∷◌, ◌++◌, length, None, Result, Ok, Err, refl, subst}
use Rattle.std.specs.Prelude.{if◌then◌else◌, nat_le}
use Rattle.std.specs.List.{AllByRecursion}
use Rattle.ob_link.specs.Walk.{visit, has, enters, all_in_turn, and_then, leaves}
use Rattle.ob_make.specs.Seen.{Seen, needs}
use Rattle.ob_make.specs.Order.{MakeEnd, Cycle, newest, met_if, steps, order}
use Rattle.ob_make.proofs.Visits.{Visit}
use Rattle.ob_make.proofs.Names.{all_joined}

-- a visit adds only such modules
abbrev pub Keeps : (List ℕ → Type 0) → Visit → Type 0
Keeps P v = (n : List ℕ) (left now : List (List ℕ)) → P n → AllByRecursion P left → v n left ≡ Ok now → AllByRecursion P now

first_kept : (P : List ℕ → Type 0) (ns left now : List (List ℕ)) (v : Visit) → ((mid : List (List ℕ)) → AllByRecursion P mid → all_in_turn v ns mid ≡ Ok now → AllByRecursion P now) → (r : Result (List (List ℕ)) MakeEnd) → ((mid : List (List ℕ)) → r ≡ Ok mid → AllByRecursion P mid) → and_then r (all_in_turn v ns) ≡ Ok now → AllByRecursion P now
first_kept P ns left now v more (Ok mid) f h = more mid (f mid refl) h
first_kept P ns left now v more (Err r) f h = absurd cc

all_kept : (P : List ℕ → Type 0) (v : Visit) → Keeps P v → (ns left now : List (List ℕ)) → AllByRecursion P ns → AllByRecursion P left → all_in_turn v ns left ≡ Ok now → AllByRecursion P now
all_kept P v keeps [] left now a o e = let is : left ≡ now = cc in subst (AllByRecursion P) is o
all_kept P v keeps (n ∷ ns) left now a o e = first_kept P ns left now v (λ mid p h. all_kept P v keeps ns mid now a.1 p h) (v n left) (λ mid f. keeps n left mid a.0 o f) e

by_needs : (P : List ℕ → Type 0) (n : List ℕ) (now : List (List ℕ)) → P n → (r : Result (List (List ℕ)) MakeEnd) → ((mid : List (List ℕ)) → r ≡ Ok mid → AllByRecursion P mid) → and_then r (λ l. leaves {R = MakeEnd} None n l) ≡ Ok now → AllByRecursion P now
by_needs P n now p (Ok mid) f h = let is : mid ++ n ∷ [] ≡ now = cc in subst (AllByRecursion P) is (all_joined P mid (n ∷ []) (f mid refl) (p, tt))
by_needs P n now p (Err r) f h = absurd cc

by_room : {K : Type 0} (b : Bool) (s : Seen K) (P : List ℕ → Type 0) (v : Visit) → Keeps P v → (n : List ℕ) (left now : List (List ℕ)) → P n → AllByRecursion P (needs s n) → AllByRecursion P left → enters (steps s) v (met_if b n) left ≡ Ok now → AllByRecursion P now
by_room true s P v keeps n left now p a o e = by_needs P n now p (all_in_turn v (needs s n) left) (λ mid f. all_kept P v keeps (needs s n) left mid a o f) e
by_room false s P v keeps n left now p a o e = absurd cc

by_left : {K : Type 0} (b : Bool) (s : Seen K) (P : List ℕ → Type 0) (v : Visit) → Keeps P v → (m n : List ℕ) (left now : List (List ℕ)) → P n → AllByRecursion P (needs s n) → AllByRecursion P left → (a c : Bool) → (if a then Ok left else if c then Err (Cycle m) else enters (steps s) v (met_if b n) left) ≡ Ok now → AllByRecursion P now
by_left b s P v keeps m n left now p a o true c e = let is : left ≡ now = cc in subst (AllByRecursion P) is o
by_left b s P v keeps m n left now p a o false true e = absurd cc
by_left b s P v keeps m n left now p a o false false e = by_room b s P v keeps n left now p a o e

pub visits_keep : {K : Type 0} (s : Seen K) (P : List ℕ → Type 0) → ((n : List ℕ) → P n → AllByRecursion P (needs s n)) → (d : ℕ) (path : List (List ℕ)) → Keeps P (visit (steps s) d path)
unfolding visit
visits_keep s P pass zero path n left now p o e = absurd cc
visits_keep s P pass (suc d) path n left now p o e = by_left (nat_le (suc (length left + length path)) 255) s P (visit (steps s) d (n ∷ path)) (visits_keep s P pass d (n ∷ path)) (newest n path) n left now p (pass n p) o (has n left) (has n path) e

pub order_keeps : {K : Type 0} (s : Seen K) (P : List ℕ → Type 0) → ((n : List ℕ) → P n → AllByRecursion P (needs s n)) → (m : List ℕ) (xs : List (List ℕ)) → P m → order s m ≡ Ok xs → AllByRecursion P xs
order_keeps s P pass m xs p e = visits_keep s P pass 257 [] m [] xs p tt e
