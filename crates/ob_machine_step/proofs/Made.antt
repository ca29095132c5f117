-- A new object.
use Rattle.std.proofs.Common.{◌≡◌, ℕ, zero, suc, ◌+◌, ◌≤◌, ◌<◌, List, [], ◌∷◌, length, replicate, set, Bool, true, false, Some, None, ℤ, pos, unwrap_or, refl, sym, ap, subst, ◌∙◌, arith}
use Rattle.std.specs.Prelude.{if◌then◌else◌, nat_lt, slice_get, IfSome}
use Rattle.std.proofs.lemmas.Bool.Decides.{nat_tests}
use Rattle.std.proofs.lemmas.List.{length-replicate}
use Rattle.ob_mem.specs.Words.{Held, are_there, before, with_words, stored, heap_taken}
use Rattle.ob_instr.specs.Image.{World}
use Rattle.ob_tdesc.specs.declared.descriptor.Descriptor.{Descriptor}
use Rattle.ob_instr.specs.Rows.{Effect, Next, Unable, on_found, on_one, item, tag, where_there, taken, made}
use Rattle.ob_machine_step.proofs.Puts.{length_with}

abbrev pub cleared_words : World → List ℤ → ℕ → List ℤ
cleared_words w extra n = with_words w.words (pos w.heap) (replicate (length extra + n) (pos 0))

abbrev pub put_words : World → List ℤ → ℕ → List ℤ
put_words w extra n = if are_there (length (cleared_words w extra n)) (pos w.heap) (length extra) then with_words (cleared_words w extra n) (pos w.heap) extra else cleared_words w extra n

abbrev pub new_words : World → ℤ → List ℤ → ℕ → List ℤ
new_words w x extra n = unwrap_or (stored (put_words w extra n) x (pos (w.heap + length extra))) (put_words w extra n)

there : (len at n : ℕ) → 0 < at → at + n ≤ len + 1 → are_there len (pos at) n ≡ true
there len at zero some le = refl
there len zero (suc n) some le = absurd (omega arith)
there len (suc a) (suc n) some le = grind (arith, nat_tests)

then_is : (b : Bool) (xs ys : List ℤ) → b ≡ true → (if b then xs else ys) ≡ xs
then_is true xs ys e = refl
then_is false xs ys e = absurd cc

found_if : (b : Bool) (xs old : List ℤ) (k : List ℤ → Effect) → b ≡ true → on_found (if b then Some xs else None) k ≡ k (unwrap_or (if b then Some xs else None) old)
found_if true xs old k e = refl
found_if false xs old k e = absurd cc

pub made_there : (x : ℤ) (extra : List ℤ) (n : ℕ) (ops : List ℤ) (w : World) → 0 < w.heap → w.heap + (length extra + n) ≤ length w.words + 1 → are_there (length w.words) x 1 ≡ true → made x extra n ops w ≡ Next ops (record w { words = new_words w x extra n; heap = w.heap + (length extra + n) })
made_there x extra n ops w some room there_x =
    let t : nat_lt (length w.words + 1) (w.heap + (length extra + n)) ≡ false = grind (arith, nat_tests) in
    let heap = w.heap + (length extra + n) in
    let zeros = length-replicate (length extra + n) (pos 0) in
    let long = length_with w.words (pos w.heap) (replicate (length extra + n) (pos 0)) (omega arith) in
    let yes = there (length (cleared_words w extra n)) w.heap (length extra) some (omega arith) in
    let w2 = with_words (cleared_words w extra n) (pos w.heap) extra in
    let same = then_is (are_there (length (cleared_words w extra n)) (pos w.heap) (length extra)) w2 (cleared_words w extra n) yes in
    let longer = length_with (cleared_words w extra n) (pos w.heap) extra (omega arith) in
    let len : length w2 ≡ length w.words = omega arith in
    let ok : are_there (length w2) x 1 ≡ true = ap (λ k. are_there k x 1) len ∙ there_x in
    ap (λ b. taken x extra (if b then None else Some (record { words = cleared_words w extra n; next = heap })) ops w) t
    ∙ found_if (are_there (length w2) x 1) (set w2 (before x) (pos (w.heap + length extra))) w2 (λ words. Next ops (record w { words = words; heap = heap })) ok
    ∙ ap (λ l. Next ops (record w { words = unwrap_or (stored l x (pos (w.heap + length extra))) l; heap = heap })) (sym same)

taken_if : (b : Bool) (h old : Held) → b ≡ false → unwrap_or (if b then None else Some h) old ≡ h
taken_if true h old e = absurd cc
taken_if false h old e = refl

-- the words after each of the three changes
pub make_is : (old m1 m2 m3 : Held) (x : ℤ) (extra : List ℤ) (n : ℕ) → 0 < old.next → old.next + (length extra + n) ≤ length old.words + 1 → are_there (length old.words) x 1 ≡ true → m1 ≡ unwrap_or (heap_taken old (length extra + n)) old → m2 ≡ record m1 { words = (if are_there (length m1.words) (pos old.next) (length extra) then with_words m1.words (pos old.next) extra else m1.words) } → m3 ≡ record m2 { words = unwrap_or (stored m2.words x (pos (old.next + length extra))) m2.words } → (ops : List ℤ) (s t : ℕ) (out : List ℕ) → made x extra n ops (record { words = old.words; stack = s; heap = old.next; turns = t; out = out }) ≡ Next ops (record { words = m3.words; stack = s; heap = m3.next; turns = t; out = out })
make_is old m1 m2 m3 x extra n some room there_x e1 e2 e3 ops s t out =
    let w : World = record { words = old.words; stack = s; heap = old.next; turns = t; out = out } in
    let total = length extra + n in
    let f : nat_lt (length old.words + 1) (old.next + (length extra + n)) ≡ false = grind (arith, nat_tests) in
    let f1 = e1 ∙ taken_if (nat_lt (length old.words + 1) (old.next + (length extra + n))) (record { words = cleared_words w extra n; next = old.next + (length extra + n) }) old f in
    let g2 : Held → Held = λ m. record m { words = (if are_there (length m.words) (pos old.next) (length extra) then with_words m.words (pos old.next) extra else m.words) } in
    let g3 : Held → Held = λ m. record m { words = unwrap_or (stored m.words x (pos (old.next + length extra))) m.words } in
    let f2 = e2 ∙ ap g2 f1 in
    let f3 = e3 ∙ ap g3 f2 in
    made_there x extra n ops w some room there_x ∙ ap (λ h. Next ops (record { words = h.words; stack = s; heap = h.next; turns = t; out = out })) (sym f3)

some_item : {A : Type 0} (xs : List A) (i : ℕ) → i < length xs → (d : A) × (slice_get xs i ≡ Some d)
some_item [] i lt = absurd (omega arith)
some_item (x ∷ xs) zero lt = (x, refl)
some_item (x ∷ xs) (suc i) lt = some_item xs i (omega arith)

-- the row of a new record
pub record_row : (types : List Descriptor) (numbers : List ℕ) (a : ℤ) (t n : ℕ) (ops rest : List ℤ) (x y v : ℤ) (w : World) (e : Effect) → item numbers a ≡ Some t → t < length types → IfSome (slice_get types t) (λ d. n ≡ d.words) → ops ≡ x ∷ rest → are_there (length w.words) x 1 ≡ true → made y (v ∷ []) n rest w ≡ e → y ≡ x → v ≡ tag t → on_found (item numbers a) (λ t. on_found (slice_get types t) (λ d. on_one ops (λ x rest. where_there w x (made x (tag t ∷ []) d.words rest w)))) ≡ e
record_row types numbers a t n ops rest x y v w e at lt size is there_x done same tagged =
    let p = some_item types t lt in
    let q : n ≡ (p.0).words = subst (λ o. IfSome o (λ d. n ≡ d.words)) p.1 size in
    ap (λ o. on_found o (λ t. on_found (slice_get types t) (λ d. on_one ops (λ x rest. where_there w x (made x (tag t ∷ []) d.words rest w))))) at
    ∙ ap (λ o. on_found o (λ d. on_one ops (λ x rest. where_there w x (made x (tag t ∷ []) d.words rest w)))) p.1
    ∙ ap (λ o. on_one o (λ x rest. where_there w x (made x (tag t ∷ []) (p.0).words rest w))) is
    ∙ ap (λ b. if b then made x (tag t ∷ []) (p.0).words rest w else Unable) there_x
    ∙ ap (λ k. made x (tag t ∷ []) k rest w) (sym q)
    ∙ ap (λ z. made x (z ∷ []) n rest w) (sym tagged)
    ∙ ap (λ z. made z (v ∷ []) n rest w) (sym same)
    ∙ done
