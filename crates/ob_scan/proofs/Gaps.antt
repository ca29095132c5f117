-- One turn through blanks and comments.
use Rattle.std.proofs.Common.{◌≡◌, refl, sym, ap, ◌∙◌, ℕ, zero, suc, ◌+◌, ◌-◌, ◌<◌, ◌≤◌, Bool, true, false, cond, ◌==◌, [], ◌∷◌, length, drop, get_or, arith, length-drop}
use Rattle.std.proofs.lemmas.List.{drop_more}
use Rattle.ob_tree.specs.declared.pos.Pos.{Pos}
use Rattle.ob_scan.specs.Vocabulary.{Bytes, is_blank}
use Rattle.ob_scan.specs.Scanning.{Behind, Unfinished, behind, opens, closes, next_pos, further, HasRoom}

pair_at : (text : Bytes) (i : ℕ) (d : ℕ) → i + 1 < length text → drop i text ≡ get_or text i d ∷ get_or text (i + 1) d ∷ drop (i + 2) text
pair_at text i d h =
    let below : i < length text = omega arith in
    let e : i + 1 + 1 ≡ i + 2 = omega arith in
    drop_more text i d below ∙ ap (λ z. get_or text i d ∷ z) (drop_more text (i + 1) d h ∙ ap (λ n. get_or text (i + 1) d ∷ drop n text) e)

last_at : (text : Bytes) (i : ℕ) (d : ℕ) → i + 1 ≡ length text → drop i text ≡ get_or text i d ∷ drop (i + 1) text
last_at text i d h = drop_more text i d (omega arith)

drop_all : (text : Bytes) (n : ℕ) → n ≡ length text → drop n text ≡ []
drop_all [] zero h = refl
drop_all [] (suc n) h = refl
drop_all (b ∷ bs) zero h = absurd (omega arith)
drop_all (b ∷ bs) (suc n) h = drop_all bs n (omega arith)

opens_on : (d : ℕ) (start here : Pos) (a b : ℕ) (bs : Bytes) → opens a b ≡ true → behind d start here (a ∷ b ∷ bs) ≡ behind (d + 1) (cond (d == 0) here start) (further here 2) bs
opens_on zero start here a b bs e = rw e refl
opens_on (suc d) start here a b bs e = let n : suc d + 1 ≡ suc (suc d) = omega arith in let z : (suc d == 0) ≡ false = grind arith in rw (e, n, z) refl

pub opened : (text : Bytes) (i d : ℕ) (start here : Pos) (z : ℕ) → i + 1 < length text → opens (get_or text i z) (get_or text (i + 1) z) ≡ true
    → behind d start here (drop i text) ≡ behind (d + 1) (cond (d == 0) here start) (further here 2) (drop (i + 2) text)
opened text i d start here z h e = ap (behind d start here) (pair_at text i z h) ∙ opens_on d start here (get_or text i z) (get_or text (i + 1) z) (drop (i + 2) text) e

pub blank_passed : (text : Bytes) (i : ℕ) (start here : Pos) (z : ℕ) → i + 1 < length text → opens (get_or text i z) (get_or text (i + 1) z) ≡ false → is_blank (get_or text i z) ≡ true
    → behind 0 start here (drop i text) ≡ behind 0 start (next_pos here (get_or text i z)) (drop (i + 1) text)
blank_passed text i start here z h e f =
    let m : drop (i + 1) text ≡ get_or text (i + 1) z ∷ drop (i + 1 + 1) text = drop_more text (i + 1) z h in
    let below : i < length text = omega arith in
    rw (drop_more text i z below, m, e, f) refl

pub symbol_found : (text : Bytes) (i : ℕ) (start here : Pos) (z : ℕ) → i + 1 < length text → opens (get_or text i z) (get_or text (i + 1) z) ≡ false → is_blank (get_or text i z) ≡ false
    → behind 0 start here (drop i text) ≡ Behind (record { text = drop i text; pos = here })
symbol_found text i start here z h e f =
    let m : drop (i + 1) text ≡ get_or text (i + 1) z ∷ drop (i + 1 + 1) text = drop_more text (i + 1) z h in
    let below : i < length text = omega arith in
    rw (drop_more text i z below, m, e, f) refl

closes_on : (d : ℕ) (start here : Pos) (a b : ℕ) (bs : Bytes) → 1 ≤ d → opens a b ≡ false → closes a b ≡ true → behind d start here (a ∷ b ∷ bs) ≡ behind (d - 1) start (further here 2) bs
closes_on zero start here a b bs h e f = absurd (omega arith)
closes_on (suc d) start here a b bs h e f = let n : suc d - 1 ≡ d = omega arith in rw (e, f, n) refl

pub closed : (text : Bytes) (i d : ℕ) (start here : Pos) (z : ℕ) → i + 1 < length text → 1 ≤ d → opens (get_or text i z) (get_or text (i + 1) z) ≡ false → closes (get_or text i z) (get_or text (i + 1) z) ≡ true
    → behind d start here (drop i text) ≡ behind (d - 1) start (further here 2) (drop (i + 2) text)
closed text i d start here z h some e f = ap (behind d start here) (pair_at text i z h) ∙ closes_on d start here (get_or text i z) (get_or text (i + 1) z) (drop (i + 2) text) some e f

inside_on : (d : ℕ) (start here : Pos) (a b : ℕ) (bs : Bytes) → 1 ≤ d → opens a b ≡ false → closes a b ≡ false → behind d start here (a ∷ b ∷ bs) ≡ behind d start (next_pos here a) (b ∷ bs)
inside_on zero start here a b bs h e f = absurd (omega arith)
inside_on (suc d) start here a b bs h e f = rw (e, f) refl

pub passed : (text : Bytes) (i d : ℕ) (start here : Pos) (z : ℕ) → i + 1 < length text → 1 ≤ d → opens (get_or text i z) (get_or text (i + 1) z) ≡ false → closes (get_or text i z) (get_or text (i + 1) z) ≡ false
    → behind d start here (drop i text) ≡ behind d start (next_pos here (get_or text i z)) (drop (i + 1) text)
passed text i d start here z h some e f =
    let m : drop (i + 1) text ≡ get_or text (i + 1) z ∷ drop (i + 1 + 1) text = drop_more text (i + 1) z h in
    let below : i < length text = omega arith in
    ap (behind d start here) (drop_more text i z below ∙ ap (λ w. get_or text i z ∷ w) m) ∙ inside_on d start here (get_or text i z) (get_or text (i + 1) z) (drop (i + 1 + 1) text) some e f ∙ ap (behind d start (next_pos here (get_or text i z))) (sym m)

last_on : (d : ℕ) (start here here' : Pos) (a : ℕ) → 1 ≤ d → behind d start here (a ∷ []) ≡ behind d start here' []
last_on zero start here here' a h = absurd (omega arith)
last_on (suc d) start here here' a h = refl

pub last_inside : (text : Bytes) (i d : ℕ) (start here here' : Pos) (z : ℕ) → i + 1 ≡ length text → 1 ≤ d → behind d start here (drop i text) ≡ behind d start here' (drop (i + 1) text)
last_inside text i d start here here' z h some =
    let none = drop_all text (i + 1) h in
    rw (last_at text i z h, none) (last_on d start here here' (get_or text i z) some)

pub last_blank : (text : Bytes) (i : ℕ) (start here : Pos) (z : ℕ) → i + 1 ≡ length text → is_blank (get_or text i z) ≡ true → behind 0 start here (drop i text) ≡ behind 0 start (next_pos here (get_or text i z)) (drop (i + 1) text)
last_blank text i start here z h f =
    let none = drop_all text (i + 1) h in
    rw (last_at text i z h, none, f) refl

pub last_symbol : (text : Bytes) (i : ℕ) (start here : Pos) (z : ℕ) → i + 1 ≡ length text → is_blank (get_or text i z) ≡ false → behind 0 start here (drop i text) ≡ Behind (record { text = drop i text; pos = here })
last_symbol text i start here z h f =
    let none = drop_all text (i + 1) h in
    rw (last_at text i z h, none, f) refl

pub end_found : (text : Bytes) (i : ℕ) (start here : Pos) → i ≤ length text → length text ≤ i → behind 0 start here (drop i text) ≡ Behind (record { text = drop i text; pos = here })
end_found text i start here l m = let none = drop_all text i (omega arith) in rw none refl

unfinished_on : (d : ℕ) (start here : Pos) → 1 ≤ d → behind d start here [] ≡ Unfinished start
unfinished_on zero start here h = absurd (omega arith)
unfinished_on (suc d) start here h = refl

pub unfinished : (text : Bytes) (i d : ℕ) (start here : Pos) → i ≤ length text → length text ≤ i → 1 ≤ d → behind d start here (drop i text) ≡ Unfinished start
unfinished text i d start here l m some = let none = drop_all text i (omega arith) in rw none (unfinished_on d start here some)

-- ---- room for positions

pub room_two : (text : Bytes) (i : ℕ) (here : Pos) → i + 1 < length text → HasRoom here (drop i text) → HasRoom (further here 2) (drop (i + 2) text)
room_two text i here l r =
    let a = length-drop i text in let b = length-drop (i + 2) text in
    let u = r.0 in let v = r.1 in let w = r.2 in
    (omega (arith, a, b, u), omega (arith, a, b, v), omega (arith, a, b, w))

pub room_one : (text : Bytes) (i : ℕ) (here : Pos) (c : ℕ) → i < length text → HasRoom here (drop i text) → HasRoom (next_pos here c) (drop (i + 1) text)
room_one text i here c l r = by_test (c == 10)
  where
    by_test : (t : Bool) → HasRoom (cond t (record { line = here.line + 1; col = 1 }) (record { line = here.line; col = here.col + 1 })) (drop (i + 1) text)
    by_test true = let a = length-drop i text in let b = length-drop (i + 1) text in let u = r.0 in let v = r.1 in let w = r.2 in (omega (arith, a, b, u), omega (arith, a, b, w), omega (arith, a, b, w))
    by_test false = let a = length-drop i text in let b = length-drop (i + 1) text in let u = r.0 in let v = r.1 in let w = r.2 in (omega (arith, a, b, u), omega (arith, a, b, v), omega (arith, a, b, w))

not_open : (a b : ℕ) → is_blank a ≡ true → opens a b ≡ false
not_open a b f = grind arith

blank_before : (start here : Pos) (a : ℕ) (rest : Bytes) → is_blank a ≡ true → behind 0 start here (a ∷ rest) ≡ behind 0 start (next_pos here a) rest
blank_before start here a [] f = rw f refl
blank_before start here a (b ∷ bs) f = let e = not_open a b f in rw (e, f) refl

-- a blank, whatever stands behind it
pub blank_taken : (text : Bytes) (i : ℕ) (start here : Pos) (z : ℕ) → i < length text → is_blank (get_or text i z) ≡ true → behind 0 start here (drop i text) ≡ behind 0 start (next_pos here (get_or text i z)) (drop (i + 1) text)
blank_taken text i start here z h f = ap (behind 0 start here) (drop_more text i z h) ∙ blank_before start here (get_or text i z) (drop (i + 1) text) f
