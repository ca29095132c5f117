-- Words put one after the other.
use Rattle.std.proofs.Common.{◌≡◌, ℕ, zero, suc, ◌+◌, ◌-◌, ◌≤◌, ◌<◌, List, [], ◌∷◌, ◌++◌, length, take, drop, get_or, set, Bool, true, false, Some, None, ℤ, pos, negsuc, unwrap_or, refl, sym, ap, subst, ◌∙◌, arith, append_assoc, length-append, length-drop}
use Rattle.std.specs.Prelude.{if◌then◌else◌, nat_le, ◌+ℤ◌, ◌&&◌}
use Rattle.std.proofs.lemmas.Bool.Decides.{nat_tests}
use Rattle.std.proofs.lemmas.List.{length-take-le, take-append-drop}
use Rattle.std.proofs.Math.Seq.{drop-cons, set-append_seam}
use Rattle.ob_mem.specs.Words.{Held, are_there, before, words_at, with_words, stored, copied}
use Rattle.ob_instr.specs.Rows.{Next, on_found, placed}
use Rattle.ob_machine_step.specs.Texts.{text}
use Rattle.ob_machine_step.proofs.Endings.{length_text}

pub length_with : (words : List ℤ) (x : ℤ) (new : List ℤ) → before x + length new ≤ length words → length (with_words words x new) ≡ length words
length_with words x new le =
    let a = length-take-le (before x) words (omega arith) in
    let b = length-drop (before x + length new) words in
    let d = length-append (take (before x) words) (new ++ drop (before x + length new) words) in
    let e = length-append new (drop (before x + length new) words) in
    omega arith

pub with_none : (words : List ℤ) (x : ℤ) → with_words words x [] ≡ words
with_none words x = let e : before x + 0 ≡ before x = omega arith in rw e (take-append-drop (before x) words)

-- one word more behind some that were put
seam : (words : List ℤ) (a : ℕ) (new : List ℤ) (v : ℤ) → a + length new < length words → set (take a words ++ (new ++ drop (a + length new) words)) (a + length new) v ≡ take a words ++ ((new ++ v ∷ []) ++ drop (a + length (new ++ v ∷ [])) words)
seam words a new v lt =
    let n = length new in
    let front = length-take-le a words (omega arith) in
    let d = drop-cons words (a + length new) (pos 0) lt in
    let long : length (take a words ++ new) ≡ a + length new = omega (arith, length-append (take a words) new) in
    let e : a + length (new ++ v ∷ []) ≡ suc (a + length new) = omega (arith, length-append new (v ∷ [])) in
    let s = set-append_seam (take a words ++ new) (get_or words (a + length new) (pos 0)) (drop (suc (a + length new)) words) v in
    ap (λ l. set (take a words ++ (new ++ l)) (a + length new) v) d
    ∙ ap (λ l. set l (a + length new) v) (sym (append_assoc (take a words) new (get_or words (a + length new) (pos 0) ∷ drop (suc (a + length new)) words)))
    ∙ ap (λ i. set ((take a words ++ new) ++ get_or words (a + length new) (pos 0) ∷ drop (suc (a + length new)) words) i v) (sym long)
    ∙ s
    ∙ append_assoc (take a words) new (v ∷ drop (suc (a + length new)) words)
    ∙ ap (λ l. take a words ++ l) (sym (append_assoc new (v ∷ []) (drop (suc (a + length new)) words)))
    ∙ ap (λ i. take a words ++ ((new ++ v ∷ []) ++ drop i words)) (sym e)

with_at : (words : List ℤ) (a : ℕ) (new : List ℤ) → with_words words (pos (suc a)) new ≡ take a words ++ (new ++ drop (a + length new) words)
with_at words a new = let e : suc a - 1 ≡ a = omega arith in ap (λ b. take b words ++ (new ++ drop (b + length new) words)) e

stored_in : (t : Bool) (words new : List ℤ) → t ≡ true → unwrap_or (if t then Some new else None) words ≡ new
stored_in true words new e = refl
stored_in false words new e = absurd cc

stored_here : (words : List ℤ) (b : ℕ) (v : ℤ) → b < length words → unwrap_or (stored words (pos (suc b)) v) words ≡ set words b v
stored_here words b v lt =
    let t : nat_le (b + 1) (length words) ≡ true = grind (arith, nat_tests) in
    let e : suc b - 1 ≡ b = omega arith in
    stored_in (nat_le (b + 1) (length words)) words (set words (suc b - 1) v) t ∙ ap (λ k. set words k v) e

pub stored_at : (words : List ℤ) (b : ℕ) (x v : ℤ) → x ≡ pos (suc b) → b < length words → unwrap_or (stored words x v) words ≡ set words b v
stored_at words b x v e lt = subst (λ z. unwrap_or (stored words z v) words ≡ set words b v) (sym e) (stored_here words b v lt)

some_place : (len n : ℕ) (x : ℤ) → 0 < n → are_there len x n ≡ true → (a : ℕ) × (x ≡ pos (suc a)) × (a + n ≤ len)
some_place len zero x h e = absurd (omega arith)
some_place len (suc n) (pos zero) h e = absurd cc
some_place len (suc n) (pos (suc a)) h e = let le : a + suc n ≤ len = grind (arith, nat_tests) in (a, refl, le)
some_place len (suc n) (negsuc a) h e = absurd cc

-- one more word stored behind words that were put
put_behind : (words : List ℤ) (a : ℕ) (new : List ℤ) (v : ℤ) → a + length new < length words → unwrap_or (stored (with_words words (pos (suc a)) new) (pos (suc a) +ℤ pos (length new)) v) (with_words words (pos (suc a)) new) ≡ with_words words (pos (suc a)) (new ++ v ∷ [])
put_behind words a new v lt =
    let w = with_words words (pos (suc a)) new in
    let b : suc a - 1 ≡ a = omega arith in
    let all = length_with words (pos (suc a)) new (omega arith) in
    let one : suc a + length new ≡ suc (a + length new) = omega arith in
    stored_at w (a + length new) (pos (suc a) +ℤ pos (length new)) v (ap pos one) (omega arith)
    ∙ ap (λ l. set l (a + length new) v) (with_at words a new)
    ∙ seam words a new v lt
    ∙ sym (with_at words a (new ++ v ∷ []))

both_there : (p q : Bool) (words new : List ℤ) → p ≡ true → q ≡ true → unwrap_or (if p && q then Some new else None) words ≡ new
both_there true true words new e f = refl
both_there true false words new e f = absurd cc
both_there false q words new e f = absurd cc

there : (len a n : ℕ) → a + suc n ≤ len → are_there len (pos (suc a)) (suc n) ≡ true
there len a n le = grind (arith, nat_tests)

-- a text that was copied
text_copied : (words : List ℤ) (a start count : ℕ) → a + count ≤ length words → start + count ≤ length words → unwrap_or (copied words (pos (suc a)) (pos (suc start)) count) words ≡ with_words words (pos (suc a)) (text words start count)
text_copied words a start zero le fits = sym (with_none words (pos (suc a)))
text_copied words a start (suc n) le fits =
    let b : suc start - 1 ≡ start = omega arith in
    both_there (are_there (length words) (pos (suc a)) (suc n)) (are_there (length words) (pos (suc start)) (suc n)) words (with_words words (pos (suc a)) (words_at words (pos (suc start)) (suc n))) (there (length words) a n le) (there (length words) start n fits)
    ∙ ap (λ k. with_words words (pos (suc a)) (take (suc n) (drop k words))) b

placed_here : (words : List ℤ) (a start count : ℕ) → a + (count + 1) ≤ length words → start + count < length words → unwrap_or (stored (unwrap_or (copied words (pos (suc a)) (pos (suc start)) count) words) (pos (suc a) +ℤ pos count) (pos 0)) (unwrap_or (copied words (pos (suc a)) (pos (suc start)) count) words) ≡ with_words words (pos (suc a)) (text words start count ++ pos 0 ∷ [])
placed_here words a start count le lt =
    let t = text words start count in
    let len = length_text words start count (omega arith) in
    ap (λ l. unwrap_or (stored l (pos (suc a) +ℤ pos count) (pos 0)) l) (text_copied words a start count (omega arith) (omega arith))
    ∙ ap (λ n. unwrap_or (stored (with_words words (pos (suc a)) t) (pos (suc a) +ℤ pos n) (pos 0)) (with_words words (pos (suc a)) t)) (sym len)
    ∙ put_behind words a t (pos 0) (omega arith)

-- the words after a text was copied and a 0 put behind it
pub placed_text : (words : List ℤ) (y : ℤ) (start count : ℕ) → are_there (length words) y (count + 1) ≡ true → start + count < length words → unwrap_or (stored (unwrap_or (copied words y (pos (suc start)) count) words) (y +ℤ pos count) (pos 0)) (unwrap_or (copied words y (pos (suc start)) count) words) ≡ with_words words y (text words start count ++ pos 0 ∷ [])
placed_text words y start count e lt =
    let p = some_place (length words) (count + 1) y (omega arith) e in
    subst (λ z. unwrap_or (stored (unwrap_or (copied words z (pos (suc start)) count) words) (z +ℤ pos count) (pos 0)) (unwrap_or (copied words z (pos (suc start)) count) words) ≡ with_words words z (text words start count ++ pos 0 ∷ [])) (sym p.1) (placed_here words p.0 start count p.2 lt)

some_if : (b : Bool) (new : List ℤ) → b ≡ true → (if b then Some new else None) ≡ Some new
some_if true new e = refl
some_if false new e = absurd cc

-- where there is room, a text is placed
pub placed_there : (words : List ℤ) (y : ℤ) (start count : ℕ) → are_there (length words) y (count + 1) ≡ true → start + count < length words → placed words y (text words start count ++ pos 0 ∷ []) ≡ Some (unwrap_or (stored (unwrap_or (copied words y (pos (suc start)) count) words) (y +ℤ pos count) (pos 0)) (unwrap_or (copied words y (pos (suc start)) count) words))
placed_there words y start count e lt =
    let t = text words start count ++ pos 0 ∷ [] in
    let len : length t ≡ count + 1 = omega (arith, length_text words start count (omega arith), length-append (text words start count) (pos 0 ∷ [])) in
    some_if (are_there (length words) y (length t)) (with_words words y t) (ap (λ n. are_there (length words) y n) len ∙ e)
    ∙ ap (λ l. Some l) (sym (placed_text words y start count e lt))

none_if : (b : Bool) (new : List ℤ) → b ≡ false → (if b then Some new else None) ≡ None
none_if true new e = absurd cc
none_if false new e = refl

pub placed_nowhere : (words : List ℤ) (y : ℤ) (start count : ℕ) → are_there (length words) y (count + 1) ≡ false → start + count < length words → placed words y (text words start count ++ pos 0 ∷ []) ≡ None
placed_nowhere words y start count e lt =
    let t = text words start count ++ pos 0 ∷ [] in
    let len : length t ≡ count + 1 = omega (arith, length_text words start count (omega arith), length-append (text words start count) (pos 0 ∷ [])) in
    none_if (are_there (length words) y (length t)) (with_words words y t) (ap (λ n. are_there (length words) y n) len ∙ e)

pub ruleset placing = (placed_there, placed_nowhere)

-- the words after each of the two changes
pub place_is : (old m1 m2 : Held) (y y1 z y2 v : ℤ) (start count : ℕ) → m1 ≡ record old { words = unwrap_or (copied old.words y1 z count) old.words } → m2 ≡ record m1 { words = unwrap_or (stored m1.words y2 v) m1.words } → are_there (length old.words) y (count + 1) ≡ true → start + count < length old.words → y1 ≡ y → z ≡ pos (suc start) → y2 ≡ y +ℤ pos count → v ≡ pos 0 → (ops : List ℤ) (s t : ℕ) (out : List ℕ) → on_found (placed old.words y (text old.words start count ++ pos 0 ∷ [])) (λ l. Next ops (record { words = l; stack = s; heap = old.next; turns = t; out = out })) ≡ Next ops (record { words = m2.words; stack = s; heap = m2.next; turns = t; out = out })
place_is old m1 m2 y y1 z y2 v start count e1 e2 there_y lt a b d f ops s t out =
    let ws = old.words in
    let c1 = e1 ∙ ap (λ q. record old { words = unwrap_or (copied ws q z count) ws }) a ∙ ap (λ q. record old { words = unwrap_or (copied ws y q count) ws }) b in
    let g : Held → Held = λ m. record m { words = unwrap_or (stored m.words y2 v) m.words } in
    let l1 = unwrap_or (copied ws y (pos (suc start)) count) ws in
    let c2 = e2 ∙ ap g c1 ∙ ap (λ q. record old { words = unwrap_or (stored l1 q v) l1 }) d ∙ ap (λ q. record old { words = unwrap_or (stored l1 (y +ℤ pos count) q) l1 }) f in
    ap (λ o. on_found o (λ l. Next ops (record { words = l; stack = s; heap = old.next; turns = t; out = out }))) (placed_there ws y start count there_y lt)
    ∙ ap (λ h. Next ops (record { words = h.words; stack = s; heap = h.next; turns = t; out = out })) (sym c2)
