-- The calls that wait, when one is added or taken.
use Rattle.std.proofs.Common.{◌≡◌, ℕ, suc, ◌+◌, ◌*◌, ◌<◌, ◌≤◌, List, [], ◌∷◌, ◌++◌, length, take, drop, refl, sym, ap, ◌∙◌, arith}
use Rattle.std.specs.Prelude.{ℤ, reverse}
use Rattle.std.proofs.lemmas.List.{length-append, length-drop, length-reverse, reverse-append, take_at, drop_at}
use Rattle.ob_instr.specs.Image.{Act}
use Rattle.ob_machine_calls.specs.declared.calls.Calls.TheInside.{Inside}
use Rattle.ob_machine_calls.specs.declared.calls.Waiting.{Waiting}
use Rattle.ob_machine_calls.proofs.Parts.{last_ones, first_ones}
use Rattle.ob_machine_calls.specs.Kept.{act_of, acts_of, AreCounted, IsKept}

pub length_acts : (ws : List Waiting) (os : List ℤ) → length (acts_of ws os) ≡ length ws
length_acts [] os = refl
length_acts (w ∷ ws) os = ap suc (length_acts ws (drop w.operands os))

pub counted_few : (ws : List Waiting) (os : List ℤ) → AreCounted ws os → length os ≤ 256 * length ws
counted_few [] os c = let e : length os ≡ 0 = ap length c in omega arith
counted_few (w ∷ ws) os c =
    let h = counted_few ws (drop w.operands os) c.3 in
    let d = length-drop w.operands os in
    omega (arith, c.0, c.1)

-- with these operands before those of the others
pub acts_pushed : (w : Waiting) (ws : List Waiting) (new os : List ℤ) → w.operands ≡ length new → acts_of (w ∷ ws) (new ++ os) ≡ act_of w new ∷ acts_of ws os
acts_pushed w ws new os e =
    let t : take w.operands (new ++ os) ≡ new = take_at new os w.operands (sym e) in
    let d : drop w.operands (new ++ os) ≡ os = drop_at new os w.operands (sym e) in
    rw (t, d) refl

pub counted_pushed : (w : Waiting) (ws : List Waiting) (new os : List ℤ) → w.operands ≡ length new → w.operands ≤ 256 → 0 < w.place.first → AreCounted ws os → AreCounted (w ∷ ws) (new ++ os)
counted_pushed w ws new os e few some c =
    let d : drop w.operands (new ++ os) ≡ os = drop_at new os w.operands (sym e) in
    (omega (arith, length-append new os), few, some, rw d c)

-- IN THE VECTORS

one_more : {A : Type 0} (xs : List A) (x : A) → reverse (xs ++ x ∷ []) ≡ x ∷ reverse xs
one_more xs x = reverse-append xs (x ∷ [])

pub pushed_acts : (w : Waiting) (ws : List Waiting) (kept new : List ℤ) → w.operands ≡ length new → acts_of (reverse (ws ++ w ∷ [])) (reverse (kept ++ new)) ≡ act_of w (reverse new) ∷ acts_of (reverse ws) (reverse kept)
pushed_acts w ws kept new e = rw (one_more ws w, reverse-append kept new) (acts_pushed w (reverse ws) (reverse new) (reverse kept) (e ∙ sym (length-reverse new)))

pub pushed_counted : (w : Waiting) (ws : List Waiting) (kept new : List ℤ) → w.operands ≡ length new → w.operands ≤ 256 → 0 < w.place.first → AreCounted (reverse ws) (reverse kept) → AreCounted (reverse (ws ++ w ∷ [])) (reverse (kept ++ new))
pushed_counted w ws kept new e few some c = rw (one_more ws w, reverse-append kept new) (counted_pushed w (reverse ws) (reverse new) (reverse kept) (e ∙ sym (length-reverse new)) few some c)

pub popped_acts : (w : Waiting) (ws : List Waiting) (kept : List ℤ) (start : ℕ) → start + w.operands ≡ length kept → acts_of (reverse (ws ++ w ∷ [])) (reverse kept) ≡ act_of w (reverse (drop start kept)) ∷ acts_of (reverse ws) (reverse (take start kept))
popped_acts w ws kept start e = rw (one_more ws w, last_ones kept w.operands start e, first_ones kept w.operands start e) refl

pub popped_counted : (w : Waiting) (ws : List Waiting) (kept : List ℤ) → AreCounted (reverse (ws ++ w ∷ [])) (reverse kept) → (w.operands ≤ length kept) × (w.operands ≤ 256) × (0 < w.place.first) × AreCounted (reverse ws) (drop w.operands (reverse kept))
popped_counted w ws kept c =
    let h = rw (one_more ws w) at c in
    (omega (arith, h.0, length-reverse kept), h.1, h.2, h.3)

pub popped_rest : (w : Waiting) (ws : List Waiting) (kept : List ℤ) (start : ℕ) → start + w.operands ≡ length kept → AreCounted (reverse (ws ++ w ∷ [])) (reverse kept) → AreCounted (reverse ws) (reverse (take start kept))
popped_rest w ws kept start e c =
    let h = popped_counted w ws kept c in
    rw (first_ones kept w.operands start e) at (h.3)

pub operands_few : (d : Inside) → IsKept d → length d.operands.items ≤ 256 * length d.waiting.items
operands_few d kept =
    let h = counted_few (reverse d.waiting.items) (reverse d.operands.items) kept.counted in
    omega (arith, h, length-reverse d.waiting.items, length-reverse d.operands.items)

pub calls_waiting : (d : Inside) (acts : List Act) → acts_of (reverse d.waiting.items) (reverse d.operands.items) ≡ acts → length acts ≡ length d.waiting.items
calls_waiting d acts e = sym (ap length e) ∙ length_acts (reverse d.waiting.items) (reverse d.operands.items) ∙ length-reverse d.waiting.items
