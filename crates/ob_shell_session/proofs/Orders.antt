-- An order has at most 255 modules.
use Rattle.std.proofs.Common.{◌≡◌, ℕ, zero, suc, ◌+◌, ◌≤◌, List, [], ◌∷◌, ◌++◌, length, Bool, true, false, cond, refl, subst, Result, Ok, Err, None, arith}
use Rattle.std.specs.Prelude.{nat_le}
use Rattle.std.proofs.lemmas.Bool.{leb-true}
use Rattle.std.proofs.lemmas.List.{length-append}
use Rattle.ob_link.specs.Walk.{has, visit, and_then, all_in_turn, leaves, enters}
use Rattle.ob_make.specs.Seen.{Seen, needs}
use Rattle.ob_make.specs.Order.{MakeEnd, steps, met_if, order}

abbrev Names : Type 0
Names = List (List ℕ)

abbrev Walked : Type 0
Walked = Result Names MakeEnd

abbrev done : Names → Walked
done left = Ok left

and_ok : (P : Type 0) (r : Walked) (more : Names → Walked) (out : Names) → ((mid : Names) → r ≡ Ok mid → more mid ≡ Ok out → P) → and_then r more ≡ Ok out → P
and_ok P (Ok mid) more out k e = k mid refl e
and_ok P (Err x) more out k e = absurd cc

same_few : (left out : Names) (n : ℕ) → length left + n ≤ 255 → done left ≡ Ok out → length out + n ≤ 255
same_few left out n h e = let q : left ≡ out = cc in subst (λ (x : Names). length x + n ≤ 255) q h

few_all : (v : List ℕ → Names → Walked) (n : ℕ) → ((x : List ℕ) (left out : Names) → length left + n ≤ 255 → v x left ≡ Ok out → length out + n ≤ 255) → (names left out : Names) → length left + n ≤ 255 → all_in_turn v names left ≡ Ok out → length out + n ≤ 255
few_all v n k [] left out h e = same_few left out n h e
few_all v n k (x ∷ names) left out h e = and_ok (length out + n ≤ 255) (v x left) (all_in_turn v names) out (λ mid q z. few_all v n k names mid out (k x left mid h q) z) e

few_left : (now out : Names) (x : List ℕ) (n : ℕ) → length now + suc n ≤ 255 → leaves {R = MakeEnd} None x now ≡ Ok out → length out + n ≤ 255
few_left now out x n h e =
    let q : now ++ x ∷ [] ≡ out = cc in
    let l = length-append now (x ∷ []) in
    subst (λ (y : Names). length y + n ≤ 255) q (omega (arith, h, l))

few_enter : {K : Type 0} (s : Seen K) (v : List ℕ → Names → Walked) (n : ℕ) (name : List ℕ) (left out : Names) (b : Bool) → nat_le (suc (length left + n)) 255 ≡ b → ((x : List ℕ) (l o : Names) → length l + suc n ≤ 255 → v x l ≡ Ok o → length o + suc n ≤ 255) → enters (steps s) v (met_if b name) left ≡ Ok out → length out + n ≤ 255
few_enter s v n name left out true t k e =
    let h = leb-true (suc (length left + n)) 255 t in
    and_ok (length out + n ≤ 255) (all_in_turn v (needs s name) left) (λ now. leaves None name now) out (λ now q z. few_left now out name n (few_all v (suc n) k (needs s name) left now (omega (arith, h)) q) z) e
few_enter s v n name left out false t k e = absurd cc

few_if : (b c : Bool) (left out : Names) (x : MakeEnd) (r : Walked) (n : ℕ) → length left + n ≤ 255 → (r ≡ Ok out → length out + n ≤ 255) → cond b (Ok left) (cond c (Err x) r) ≡ Ok out → length out + n ≤ 255
few_if true c left out x r n h k e = same_few left out n h e
few_if false true left out x r n h k e = absurd cc
few_if false false left out x r n h k e = k e

few_visit : {K : Type 0} (s : Seen K) (deep : ℕ) (path : Names) (name : List ℕ) (left out : Names) → length left + length path ≤ 255 → visit (steps s) deep path name left ≡ Ok out → length out + length path ≤ 255
unfolding visit
few_visit s zero path name left out h e = absurd cc
few_visit s (suc deep) path name left out h e =
    few_if (has name left) (has name path) left out _ (enters (steps s) (visit (steps s) deep (name ∷ path)) (met_if (nat_le (suc (length left + length path)) 255) name) left) (length path) h
    (λ z. few_enter s (visit (steps s) deep (name ∷ path)) (length path) name left out (nat_le (suc (length left + length path)) 255) refl (λ x l o q y. few_visit s deep (name ∷ path) x l o q y) z) e

pub few_modules : {K : Type 0} (s : Seen K) (m : List ℕ) (xs : Names) → order s m ≡ Ok xs → length xs ≤ 255
few_modules s m xs e = let h = few_visit s 257 [] m [] xs (omega arith) e in omega (arith, h)
