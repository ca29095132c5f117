-- Each run by the table comes to its end: between two turns that are spent it goes forward.
use Rattle.std.proofs.Common.{◌≡◌, ℕ, zero, suc, ◌+◌, ◌-◌, ◌*◌, ◌<◌, ◌≤◌, ◌⊎◌, inl, inr, ⊎_elim, List, [], ◌∷◌, ◌++◌, length, reverse, take, drop, ℤ, pos, negsuc, ◌+ℤ◌, ◌-ℤ◌, ◌*ℤ◌, neg_ℤ, Option, Some, None, Bool, true, false, refl, subst, arith}
use Rattle.std.specs.Prelude.{slice_get, nat_lt, nat_le, int_lt, not, if◌then◌else◌}
use Rattle.std.specs.Int.{w32, int_div_euclid, int_rem_euclid, int_bit_and, int_bit_or, int_bit_xor, int_bit_not}
use Rattle.std.specs.Ordering.{int_eq}
use Rattle.std.proofs.lemmas.Bool.{leb-false}
use Rattle.std.specs.List.{AllByRecursion}
use Rattle.ob_trap.specs.declared.trap.Trap.TheVariants as trap
use Rattle.ob_trap.specs.Numbers.{trap_of}
use Rattle.ob_tree.specs.declared.proc_ref.ProcRef.{ProcRef}
use Rattle.ob_mem.specs.Words.{Held, word_at, are_there, with_words, stored, copied, heap_taken}
use Rattle.ob_instr.specs.declared.opcode.Opcode.{Opcode}
use Rattle.ob_instr.specs.declared.opcode.Opcode.TheVariants as op
use Rattle.ob_instr.specs.declared.instr.Instr.{Instr}
use Rattle.ob_instr.specs.Parts.{slots}
use Rattle.ob_instr.specs.Image.{ModuleImage, Image, World, Act, End, Trapped, Illegal, Point, Go, Over}
use Rattle.ob_instr.specs.Rows.{Effect, Next, Goto, Enter, Leave, Traps, Spends, Unable, on_found, item, below, is_zero, on_count, on_width, on_one, on_two, on_three, on_four, on_args, word, in_width, in_type, with_memory, truth, compared, is_within, magnitude, shifted, capital, on_element, set_from, has_element, tag, tag_passes, pointer_passes, Chars, Missing, Endless, Ends, chars_at, on_chars, on_both, related, turn_or, on_turn, jumped, copy_words, calls, calls_with, proc_value, proc_of_value, method_at, tag_method, pointer_method, on_receiver, on_tag, procedure_of, entered, taken, made, made_many, placed, copies_chars, where_there, written, written_chars, printed, padded, low_byte, low_bytes}
use Rattle.ob_instr.specs.declared.procedure.Procedure.{Procedure}
use Rattle.ob_instr.specs.Table.{row, position_at, checked, has_room, left, come_to, act, act_in, step, run, begins, start}
use Rattle.ob_load.specs.Running.{RunsEnd, IsShort, enough}

abbrev Before : Type 0
Before = ℕ × ℕ

-- Before an instruction at an index, with so many turns: then no turn came, and the next instruction stands behind it, or a turn was spent.
abbrev Falls : Before → Effect → Type 0
Falls o (Next ops w) = w.turns ≤ o.1
Falls o (Goto at ops w) = ((w.turns ≤ o.1) × (o.0 < at)) ⊎ (w.turns < o.1)
Falls o (Enter r q args n ops w) = w.turns < o.1
Falls o (Leave given w) = w.turns ≤ o.1
Falls o (Traps kind number w) = w.turns ≤ o.1
Falls o (Spends w) = Unit {0}
Falls o Unable = Unit {0}

same : (n : ℕ) → n ≤ n
same n = omega arith

either : (o : Before) (b : Bool) (x y : Effect) → Falls o x → Falls o y → Falls o (if b then x else y)
either o true x y f g = f
either o false x y f g = g

found : {A : Type 0} (o : Before) (x : Option A) (k : A → Effect) → ((a : A) → Falls o (k a)) → Falls o (on_found x k)
found o None k h = tt
found o (Some a) k h = h a

one : (o : Before) (ops : List ℤ) (k : ℤ → List ℤ → Effect) → ((x : ℤ) (rest : List ℤ) → Falls o (k x rest)) → Falls o (on_one ops k)
one o [] k h = tt
one o (x ∷ ops) k h = h x ops

two : (o : Before) (ops : List ℤ) (k : ℤ → ℤ → List ℤ → Effect) → ((x y : ℤ) (rest : List ℤ) → Falls o (k x y rest)) → Falls o (on_two ops k)
two o [] k h = tt
two o (y ∷ []) k h = tt
two o (y ∷ x ∷ ops) k h = h x y ops

three : (o : Before) (ops : List ℤ) (k : ℤ → ℤ → ℤ → List ℤ → Effect) → ((x y z : ℤ) (rest : List ℤ) → Falls o (k x y z rest)) → Falls o (on_three ops k)
three o [] k h = tt
three o (z ∷ []) k h = tt
three o (z ∷ y ∷ []) k h = tt
three o (z ∷ y ∷ x ∷ ops) k h = h x y z ops

four : (o : Before) (ops : List ℤ) (k : ℤ → ℤ → ℤ → ℤ → List ℤ → Effect) → ((v x y z : ℤ) (rest : List ℤ) → Falls o (k v x y z rest)) → Falls o (on_four ops k)
four o [] k h = tt
four o (z ∷ []) k h = tt
four o (z ∷ y ∷ []) k h = tt
four o (z ∷ y ∷ x ∷ []) k h = tt
four o (z ∷ y ∷ x ∷ v ∷ ops) k h = h v x y z ops

args : (o : Before) (n : ℕ) (ops : List ℤ) (k : List ℤ → List ℤ → Effect) → ((a rest : List ℤ) → Falls o (k a rest)) → Falls o (on_args n ops k)
args o n ops k h = either o (nat_le n (length ops)) (k (reverse (take n ops)) (drop n ops)) Unable (h (reverse (take n ops)) (drop n ops)) tt

count : (o : Before) (z : ℤ) (k : ℕ → Effect) → ((n : ℕ) → Falls o (k n)) → Falls o (on_count z k)
count o (pos n) k h = h n
count o (negsuc n) k h = tt

width : (o : Before) (z : ℤ) (k : ℕ → Effect) → ((n : ℕ) → Falls o (k n)) → Falls o (on_width z k)
width o z k h =
    either o (int_eq z (pos 1)) (k 1) (if int_eq z (pos 2) then k 2 else if int_eq z (pos 4) then k 4 else Unable) (h 1)
    (either o (int_eq z (pos 2)) (k 2) (if int_eq z (pos 4) then k 4 else Unable) (h 2)
    (either o (int_eq z (pos 4)) (k 4) Unable (h 4) tt))

words : (pc : ℕ) (v : ℤ) (ops : List ℤ) (w : World) → Falls (pc, w.turns) (word v ops w)
words pc v ops w = either (pc, w.turns) (in_width 4 v) (Next (v ∷ ops) w) Unable (same w.turns) tt

typed : (pc : ℕ) (n : ℕ) (v : ℤ) (ops : List ℤ) (w : World) → Falls (pc, w.turns) (in_type n v ops w)
typed pc n v ops w = either (pc, w.turns) (in_width n v) (Next (v ∷ ops) w) (Traps trap.Overflow (pos 0) w) (same w.turns) (same w.turns)

compare : (pc : ℕ) (holds : ℤ → ℤ → Bool) (ops : List ℤ) (w : World) → Falls (pc, w.turns) (compared holds ops w)
compare pc holds ops w = two (pc, w.turns) ops (λ u v rest. Next (truth (holds u v) ∷ rest) w) (λ u v rest. same w.turns)

element : (pc : ℕ) (v : ℤ) (w : World) (k : ℕ → Effect) → ((i : ℕ) → Falls (pc, w.turns) (k i)) → Falls (pc, w.turns) (on_element v w k)
element pc (pos i) w k h = either (pc, w.turns) (nat_lt i 32) (k i) (Traps trap.NoElement (pos 0) w) (h i) (same w.turns)
element pc (negsuc i) w k h = same w.turns

chars : (pc : ℕ) (s : Chars) (w : World) (k : List ℤ → Effect) → ((l : List ℤ) → Falls (pc, w.turns) (k l)) → Falls (pc, w.turns) (on_chars s w k)
chars pc Missing w k h = tt
chars pc Endless w k h = same w.turns
chars pc (Ends l) w k h = h l

both : (pc : ℕ) (s t : Chars) (w : World) (k : List ℤ → List ℤ → Effect) → ((l m : List ℤ) → Falls (pc, w.turns) (k l m)) → Falls (pc, w.turns) (on_both s t w k)
both pc Missing t w k h = tt
both pc Endless Missing w k h = tt
both pc (Ends l) Missing w k h = tt
both pc Endless Endless w k h = same w.turns
both pc Endless (Ends m) w k h = same w.turns
both pc (Ends l) Endless w k h = same w.turns
both pc (Ends l) (Ends m) w k h = h l m

either_so : (o : Before) (b : Bool) (x y : Effect) → (b ≡ true → Falls o x) → (b ≡ false → Falls o y) → Falls o (if b then x else y)
either_so o true x y f g = f refl
either_so o false x y f g = g refl

turn_of : (o : Before) (j : ℕ) (w : World) (k : World → Effect) → j ≤ o.1 → ((n : ℕ) → n < o.1 → Falls o (k (record w { turns = n }))) → Falls o (turn_or j w k)
turn_of o zero w k le h = tt
turn_of o (suc n) w k le h = h n (omega arith)

turn : (pc : ℕ) (w : World) (k : World → Effect) → ((n : ℕ) → n < w.turns → Falls (pc, w.turns) (k (record w { turns = n }))) → Falls (pc, w.turns) (on_turn w k)
turn pc w k h = turn_of (pc, w.turns) w.turns w k (same w.turns) h

jumps : (pc at : ℕ) (ops : List ℤ) (w : World) → Falls (pc, w.turns) (jumped pc at ops w)
jumps pc at ops w = either_so (pc, w.turns) (nat_le at pc) (on_turn w (λ v. Goto at ops v)) (Goto at ops w) (λ e. turn pc w (λ v. Goto at ops v) (λ n lt. inr lt)) (λ e. inl (same w.turns, leb-false at pc e))

store : (pc : ℕ) (ws : Option (List ℤ)) (ops : List ℤ) (w : World) → Falls (pc, w.turns) (on_found ws (λ l. Next ops (with_memory w l)))
store pc ws ops w = found (pc, w.turns) ws (λ l. Next ops (with_memory w l)) (λ l. same w.turns)

take_object : (pc : ℕ) (x : ℤ) (extra : List ℤ) (h : Option Held) (ops : List ℤ) (w : World) → Falls (pc, w.turns) (taken x extra h ops w)
take_object pc x extra None ops w = same w.turns
take_object pc x extra (Some h) ops w = found (pc, w.turns) (stored (with_words h.words (pos w.heap) extra) x (pos (w.heap + length extra))) (λ l. Next ops (record w { words = l; heap = h.next })) (λ l. same w.turns)

make : (pc : ℕ) (x : ℤ) (extra : List ℤ) (n : ℕ) (ops : List ℤ) (w : World) → Falls (pc, w.turns) (made x extra n ops w)
make pc x extra n ops w = take_object pc x extra (heap_taken (record { words = w.words; next = w.heap }) (length extra + n)) ops w

make_many : (pc : ℕ) (x : ℤ) (n : ℕ) (l : ℤ) (ops : List ℤ) (w : World) → Falls (pc, w.turns) (made_many x n l ops w)
make_many pc x n (pos zero) ops w = same w.turns
make_many pc x n (pos (suc l)) ops w = make pc x (pos 0 ∷ pos (suc l) ∷ []) (suc l * n) ops w
make_many pc x n (negsuc l) ops w = same w.turns

is_there : (pc : ℕ) (w : World) (x : ℤ) (e : Effect) → Falls (pc, w.turns) e → Falls (pc, w.turns) (where_there w x e)
is_there pc w x e h = either (pc, w.turns) (are_there (length w.words) x 1) e Unable h tt

copy_chars : (pc : ℕ) (s : Chars) (y z : ℤ) (ops : List ℤ) (w : World) → Falls (pc, w.turns) (copies_chars s y z ops w)
copy_chars pc s y (pos zero) ops w = tt
copy_chars pc s y (pos (suc n)) ops w = chars pc s w (λ l. on_found (placed w.words y (take n l ++ pos 0 ∷ [])) (λ m. Next ops (with_memory w m))) (λ l. store pc (placed w.words y (take n l ++ pos 0 ∷ [])) ops w)
copy_chars pc s y (negsuc n) ops w = tt

less : (n t : ℕ) → n < t → n ≤ t
less n t lt = omega arith

write_chars : (pc : ℕ) (s : Chars) (ops : List ℤ) (w : World) → Falls (pc, w.turns) (written_chars s ops w)
write_chars pc Missing ops w = tt
write_chars pc Endless ops w = turn pc w (λ v. Traps trap.NoEnd (pos 0) v) (λ n lt. less n w.turns lt)
write_chars pc (Ends l) ops w = turn pc w (λ v. Next ops (printed v (low_bytes l))) (λ n lt. less n w.turns lt)

write : (pc : ℕ) (a : ℤ) (ops : List ℤ) (w : World) → Falls (pc, w.turns) (written a ops w)
write pc (pos zero) ops w = tt
write pc (pos (suc zero)) ops w = one (pc, w.turns) ops (λ c rest. on_turn w (λ v. Next rest (printed v (low_byte c ∷ [])))) (λ c rest. turn pc w (λ v. Next rest (printed v (low_byte c ∷ []))) (λ n lt. less n w.turns lt))
write pc (pos (suc (suc zero))) ops w = two (pc, w.turns) ops (λ x l rest. written_chars (chars_at w.words x l) rest w) (λ x l rest. write_chars pc (chars_at w.words x l) rest w)
write pc (pos (suc (suc (suc zero)))) ops w = two (pc, w.turns) ops (λ z n rest. on_turn w (λ v. Next rest (printed v (padded z n)))) (λ z n rest. turn pc w (λ v. Next rest (printed v (padded z n))) (λ k lt. less k w.turns lt))
write pc (pos (suc (suc (suc (suc zero))))) ops w = turn pc w (λ v. Next ops (printed v (10 ∷ []))) (λ n lt. less n w.turns lt)
write pc (pos (suc (suc (suc (suc (suc n)))))) ops w = tt
write pc (negsuc n) ops w = tt

call : (pc : ℕ) (img : Image) (r : ProcRef) (a ops : List ℤ) (w : World) → Falls (pc, w.turns) (calls img r a ops w)
call pc img r a ops w =
    found (pc, w.turns) (procedure_of img r) (λ q. on_found (copy_words (length w.words) q.params a) (λ n. on_turn w (λ v. Enter r q a n ops v)))
    (λ q. found (pc, w.turns) (copy_words (length w.words) q.params a) (λ n. on_turn w (λ v. Enter r q a n ops v)) (λ n. turn pc w (λ v. Enter r q a n ops v) (λ k lt. lt)))

call_with : (pc : ℕ) (img : Image) (r : ProcRef) (ops : List ℤ) (w : World) → Falls (pc, w.turns) (calls_with img r ops w)
call_with pc img r ops w =
    found (pc, w.turns) (procedure_of img r) (λ q. on_args (slots q.params) ops (λ a rest. calls img r a rest w))
    (λ q. args (pc, w.turns) (slots q.params) ops (λ a rest. calls img r a rest w) (λ a rest. call pc img r a rest w))

receiver : (o : Before) (a : List ℤ) (k : ℤ → Effect) → ((x : ℤ) → Falls o (k x)) → Falls o (on_receiver a k)
receiver o [] k h = tt
receiver o (x ∷ a) k h = h x

tags : (o : Before) (a : List ℤ) (k : ℤ → Effect) → ((x : ℤ) → Falls o (k x)) → Falls o (on_tag a k)
tags o [] k h = tt
tags o (x ∷ []) k h = tt
tags o (x ∷ g ∷ a) k h = h g

method : (pc : ℕ) (img : Image) (w : World) (x a : ℤ) (k : ProcRef → Effect) → ((r : ProcRef) → Falls (pc, w.turns) (k r)) → Falls (pc, w.turns) (pointer_method img w x a k)
method pc img w x a k h = found (pc, w.turns) (word_at w.words (x -ℤ pos 1)) (λ g. on_found (tag_method img g a) k) (λ g. found (pc, w.turns) (tag_method img g a) k h)

-- each row goes forward, or spends a turn, or ends a call
pub row_falls : (img : Image) (u : ModuleImage) (m p fb pc : ℕ) (o : Opcode) (a b : ℤ) (ops : List ℤ) (w : World) → Falls (pc, w.turns) (row img u m p fb pc o a b ops w)
row_falls img u m p fb pc op.Int a b ops w = same w.turns
row_falls img u m p fb pc op.Local a b ops w = words pc (pos fb +ℤ a) ops w
row_falls img u m p fb pc op.Global a b ops w = words pc (pos u.first +ℤ a) ops w
row_falls img u m p fb pc op.ExtVar a b ops w = found (pc, w.turns) (item u.variable_links a) (λ x. word (pos x) ops w) (λ x. words pc (pos x) ops w)
row_falls img u m p fb pc op.Load a b ops w = one (pc, w.turns) ops (λ x rest. on_found (word_at w.words x) (λ v. Next (v ∷ rest) w)) (λ x rest. found (pc, w.turns) (word_at w.words x) (λ v. Next (v ∷ rest) w) (λ v. same w.turns))
row_falls img u m p fb pc op.Store a b ops w = two (pc, w.turns) ops (λ x v rest. on_found (stored w.words x v) (λ l. Next rest (with_memory w l))) (λ x v rest. store pc (stored w.words x v) rest w)
row_falls img u m p fb pc op.Copy a b ops w = count (pc, w.turns) a (λ n. on_two ops (λ d s rest. on_found (copied w.words d s n) (λ l. Next rest (with_memory w l)))) (λ n. two (pc, w.turns) ops (λ d s rest. on_found (copied w.words d s n) (λ l. Next rest (with_memory w l))) (λ d s rest. store pc (copied w.words d s n) rest w))
row_falls img u m p fb pc op.CopyRec a b ops w =
    count (pc, w.turns) a (λ n. on_found (item u.types b) (λ t. on_three ops (λ d g s rest. on_found (copied w.words d s n) (λ l. if int_eq g (tag t) then Next rest (with_memory w l) else Traps trap.OtherType (pos 0) w))))
    (λ n. found (pc, w.turns) (item u.types b) (λ t. on_three ops (λ d g s rest. on_found (copied w.words d s n) (λ l. if int_eq g (tag t) then Next rest (with_memory w l) else Traps trap.OtherType (pos 0) w)))
    (λ t. three (pc, w.turns) ops (λ d g s rest. on_found (copied w.words d s n) (λ l. if int_eq g (tag t) then Next rest (with_memory w l) else Traps trap.OtherType (pos 0) w))
    (λ d g s rest. found (pc, w.turns) (copied w.words d s n) (λ l. if int_eq g (tag t) then Next rest (with_memory w l) else Traps trap.OtherType (pos 0) w)
    (λ l. either (pc, w.turns) (int_eq g (tag t)) (Next rest (with_memory w l)) (Traps trap.OtherType (pos 0) w) (same w.turns) (same w.turns)))))
row_falls img u m p fb pc op.Offset a b ops w = one (pc, w.turns) ops (λ x rest. word (x +ℤ a) rest w) (λ x rest. words pc (x +ℤ a) rest w)
row_falls img u m p fb pc op.Index a b ops w = two (pc, w.turns) ops (λ x i rest. if is_within i a then word (x +ℤ (i *ℤ b)) rest w else Traps trap.IndexOutside (pos 0) w) (λ x i rest. either (pc, w.turns) (is_within i a) (word (x +ℤ (i *ℤ b)) rest w) (Traps trap.IndexOutside (pos 0) w) (words pc (x +ℤ (i *ℤ b)) rest w) (same w.turns))
row_falls img u m p fb pc op.IndexO a b ops w = three (pc, w.turns) ops (λ x l i rest. if is_within i l then word (x +ℤ (i *ℤ a)) rest w else Traps trap.IndexOutside (pos 0) w) (λ x l i rest. either (pc, w.turns) (is_within i l) (word (x +ℤ (i *ℤ a)) rest w) (Traps trap.IndexOutside (pos 0) w) (words pc (x +ℤ (i *ℤ a)) rest w) (same w.turns))
row_falls img u m p fb pc op.Deref a b ops w = one (pc, w.turns) ops (λ x rest. if is_zero x then Traps trap.Nil (pos 0) w else Next (x ∷ rest) w) (λ x rest. either (pc, w.turns) (is_zero x) (Traps trap.Nil (pos 0) w) (Next (x ∷ rest) w) (same w.turns) (same w.turns))
row_falls img u m p fb pc op.Tagged a b ops w = one (pc, w.turns) ops (λ x rest. if is_zero x then Traps trap.Nil (pos 0) w else on_found (word_at w.words (x -ℤ pos 1)) (λ g. Next (g ∷ x ∷ rest) w)) (λ x rest. either (pc, w.turns) (is_zero x) (Traps trap.Nil (pos 0) w) (on_found (word_at w.words (x -ℤ pos 1)) (λ g. Next (g ∷ x ∷ rest) w)) (same w.turns) (found (pc, w.turns) (word_at w.words (x -ℤ pos 1)) (λ g. Next (g ∷ x ∷ rest) w) (λ g. same w.turns)))
row_falls img u m p fb pc op.Lenned a b ops w = one (pc, w.turns) ops (λ x rest. if is_zero x then Traps trap.Nil (pos 0) w else on_found (word_at w.words (x -ℤ pos 1)) (λ g. Next (g ∷ x ∷ rest) w)) (λ x rest. either (pc, w.turns) (is_zero x) (Traps trap.Nil (pos 0) w) (on_found (word_at w.words (x -ℤ pos 1)) (λ g. Next (g ∷ x ∷ rest) w)) (same w.turns) (found (pc, w.turns) (word_at w.words (x -ℤ pos 1)) (λ g. Next (g ∷ x ∷ rest) w) (λ g. same w.turns)))
row_falls img u m p fb pc op.Tag a b ops w = found (pc, w.turns) (item u.types a) (λ t. word (tag t) ops w) (λ t. words pc (tag t) ops w)
row_falls img u m p fb pc op.IsP a b ops w =
    found (pc, w.turns) (item u.types a) (λ t. on_one ops (λ x rest. on_found (pointer_passes img.types w.words x t) (λ yes. Next (truth yes ∷ rest) w)))
    (λ t. one (pc, w.turns) ops (λ x rest. on_found (pointer_passes img.types w.words x t) (λ yes. Next (truth yes ∷ rest) w)) (λ x rest. found (pc, w.turns) (pointer_passes img.types w.words x t) (λ yes. Next (truth yes ∷ rest) w) (λ yes. same w.turns)))
row_falls img u m p fb pc op.IsR a b ops w =
    found (pc, w.turns) (item u.types a) (λ t. on_one ops (λ g rest. on_found (tag_passes img.types g t) (λ yes. Next (truth yes ∷ rest) w)))
    (λ t. one (pc, w.turns) ops (λ g rest. on_found (tag_passes img.types g t) (λ yes. Next (truth yes ∷ rest) w)) (λ g rest. found (pc, w.turns) (tag_passes img.types g t) (λ yes. Next (truth yes ∷ rest) w) (λ yes. same w.turns)))
row_falls img u m p fb pc op.GuardAt a b ops w =
    found (pc, w.turns) (item u.types a) (λ t. on_one ops (λ x rest. on_found (word_at w.words x) (λ v. on_found (pointer_passes img.types w.words v t) (λ yes. if yes then Next (x ∷ rest) w else Traps trap.GuardFails (pos 0) w))))
    (λ t. one (pc, w.turns) ops (λ x rest. on_found (word_at w.words x) (λ v. on_found (pointer_passes img.types w.words v t) (λ yes. if yes then Next (x ∷ rest) w else Traps trap.GuardFails (pos 0) w)))
    (λ x rest. found (pc, w.turns) (word_at w.words x) (λ v. on_found (pointer_passes img.types w.words v t) (λ yes. if yes then Next (x ∷ rest) w else Traps trap.GuardFails (pos 0) w))
    (λ v. found (pc, w.turns) (pointer_passes img.types w.words v t) (λ yes. if yes then Next (x ∷ rest) w else Traps trap.GuardFails (pos 0) w) (λ yes. either (pc, w.turns) yes (Next (x ∷ rest) w) (Traps trap.GuardFails (pos 0) w) (same w.turns) (same w.turns)))))
row_falls img u m p fb pc op.GuardR a b ops w =
    found (pc, w.turns) (item u.types a) (λ t. on_one ops (λ g rest. on_found (tag_passes img.types g t) (λ yes. if yes then Next (g ∷ rest) w else Traps trap.GuardFails (pos 0) w)))
    (λ t. one (pc, w.turns) ops (λ g rest. on_found (tag_passes img.types g t) (λ yes. if yes then Next (g ∷ rest) w else Traps trap.GuardFails (pos 0) w))
    (λ g rest. found (pc, w.turns) (tag_passes img.types g t) (λ yes. if yes then Next (g ∷ rest) w else Traps trap.GuardFails (pos 0) w) (λ yes. either (pc, w.turns) yes (Next (g ∷ rest) w) (Traps trap.GuardFails (pos 0) w) (same w.turns) (same w.turns))))
row_falls img u m p fb pc op.Drop a b ops w = one (pc, w.turns) ops (λ v rest. Next rest w) (λ v rest. same w.turns)
row_falls img u m p fb pc op.Add a b ops w = width (pc, w.turns) a (λ n. on_two ops (λ x y rest. in_type n (x +ℤ y) rest w)) (λ n. two (pc, w.turns) ops (λ x y rest. in_type n (x +ℤ y) rest w) (λ x y rest. typed pc n (x +ℤ y) rest w))
row_falls img u m p fb pc op.Sub a b ops w = width (pc, w.turns) a (λ n. on_two ops (λ x y rest. in_type n (x -ℤ y) rest w)) (λ n. two (pc, w.turns) ops (λ x y rest. in_type n (x -ℤ y) rest w) (λ x y rest. typed pc n (x -ℤ y) rest w))
row_falls img u m p fb pc op.Mul a b ops w = width (pc, w.turns) a (λ n. on_two ops (λ x y rest. in_type n (x *ℤ y) rest w)) (λ n. two (pc, w.turns) ops (λ x y rest. in_type n (x *ℤ y) rest w) (λ x y rest. typed pc n (x *ℤ y) rest w))
row_falls img u m p fb pc op.Div a b ops w = two (pc, w.turns) ops (λ x y rest. if int_lt (pos 0) y then Next (int_div_euclid x y ∷ rest) w else Traps trap.NoDivisor (pos 0) w) (λ x y rest. either (pc, w.turns) (int_lt (pos 0) y) (Next (int_div_euclid x y ∷ rest) w) (Traps trap.NoDivisor (pos 0) w) (same w.turns) (same w.turns))
row_falls img u m p fb pc op.Mod a b ops w = two (pc, w.turns) ops (λ x y rest. if int_lt (pos 0) y then Next (int_rem_euclid x y ∷ rest) w else Traps trap.NoDivisor (pos 0) w) (λ x y rest. either (pc, w.turns) (int_lt (pos 0) y) (Next (int_rem_euclid x y ∷ rest) w) (Traps trap.NoDivisor (pos 0) w) (same w.turns) (same w.turns))
row_falls img u m p fb pc op.Neg a b ops w = width (pc, w.turns) a (λ n. on_one ops (λ v rest. in_type n (neg_ℤ v) rest w)) (λ n. one (pc, w.turns) ops (λ v rest. in_type n (neg_ℤ v) rest w) (λ v rest. typed pc n (neg_ℤ v) rest w))
row_falls img u m p fb pc op.Abs a b ops w = width (pc, w.turns) a (λ n. on_one ops (λ v rest. in_type n (magnitude v) rest w)) (λ n. one (pc, w.turns) ops (λ v rest. in_type n (magnitude v) rest w) (λ v rest. typed pc n (magnitude v) rest w))
row_falls img u m p fb pc op.Eq a b ops w = compare pc int_eq ops w
row_falls img u m p fb pc op.Ne a b ops w = compare pc (λ x y. not (int_eq x y)) ops w
row_falls img u m p fb pc op.Lt a b ops w = compare pc int_lt ops w
row_falls img u m p fb pc op.Le a b ops w = compare pc (λ x y. not (int_lt y x)) ops w
row_falls img u m p fb pc op.Gt a b ops w = compare pc (λ x y. int_lt y x) ops w
row_falls img u m p fb pc op.Ge a b ops w = compare pc (λ x y. not (int_lt x y)) ops w
row_falls img u m p fb pc op.Not a b ops w = one (pc, w.turns) ops (λ v rest. Next (truth (is_zero v) ∷ rest) w) (λ v rest. same w.turns)
row_falls img u m p fb pc op.Union a b ops w = two (pc, w.turns) ops (λ x y rest. Next (int_bit_or w32 x y ∷ rest) w) (λ x y rest. same w.turns)
row_falls img u m p fb pc op.Minus a b ops w = two (pc, w.turns) ops (λ x y rest. Next (int_bit_and w32 x (int_bit_not w32 y) ∷ rest) w) (λ x y rest. same w.turns)
row_falls img u m p fb pc op.Meet a b ops w = two (pc, w.turns) ops (λ x y rest. Next (int_bit_and w32 x y ∷ rest) w) (λ x y rest. same w.turns)
row_falls img u m p fb pc op.Xor a b ops w = two (pc, w.turns) ops (λ x y rest. Next (int_bit_xor w32 x y ∷ rest) w) (λ x y rest. same w.turns)
row_falls img u m p fb pc op.Compl a b ops w = one (pc, w.turns) ops (λ v rest. Next (int_bit_not w32 v ∷ rest) w) (λ v rest. same w.turns)
row_falls img u m p fb pc op.Bit a b ops w = one (pc, w.turns) ops (λ v rest. on_element v w (λ i. Next (set_from i i ∷ rest) w)) (λ v rest. element pc v w (λ i. Next (set_from i i ∷ rest) w) (λ i. same w.turns))
row_falls img u m p fb pc op.Bits a b ops w = two (pc, w.turns) ops (λ x y rest. on_element x w (λ i. on_element y w (λ j. Next (set_from i j ∷ rest) w))) (λ x y rest. element pc x w (λ i. on_element y w (λ j. Next (set_from i j ∷ rest) w)) (λ i. element pc y w (λ j. Next (set_from i j ∷ rest) w) (λ j. same w.turns)))
row_falls img u m p fb pc op.In a b ops w = two (pc, w.turns) ops (λ v s rest. on_element v w (λ i. Next (truth (has_element i s) ∷ rest) w)) (λ v s rest. element pc v w (λ i. Next (truth (has_element i s) ∷ rest) w) (λ i. same w.turns))
row_falls img u m p fb pc op.Incl a b ops w =
    two (pc, w.turns) ops (λ x v rest. on_found (word_at w.words x) (λ s. on_element v w (λ i. on_found (stored w.words x (int_bit_or w32 s (set_from i i))) (λ l. Next rest (with_memory w l)))))
    (λ x v rest. found (pc, w.turns) (word_at w.words x) (λ s. on_element v w (λ i. on_found (stored w.words x (int_bit_or w32 s (set_from i i))) (λ l. Next rest (with_memory w l))))
    (λ s. element pc v w (λ i. on_found (stored w.words x (int_bit_or w32 s (set_from i i))) (λ l. Next rest (with_memory w l))) (λ i. store pc (stored w.words x (int_bit_or w32 s (set_from i i))) rest w)))
row_falls img u m p fb pc op.Excl a b ops w =
    two (pc, w.turns) ops (λ x v rest. on_found (word_at w.words x) (λ s. on_element v w (λ i. on_found (stored w.words x (int_bit_and w32 s (int_bit_not w32 (set_from i i)))) (λ l. Next rest (with_memory w l)))))
    (λ x v rest. found (pc, w.turns) (word_at w.words x) (λ s. on_element v w (λ i. on_found (stored w.words x (int_bit_and w32 s (int_bit_not w32 (set_from i i)))) (λ l. Next rest (with_memory w l))))
    (λ s. element pc v w (λ i. on_found (stored w.words x (int_bit_and w32 s (int_bit_not w32 (set_from i i)))) (λ l. Next rest (with_memory w l))) (λ i. store pc (stored w.words x (int_bit_and w32 s (int_bit_not w32 (set_from i i)))) rest w)))
row_falls img u m p fb pc op.Range a b ops w = width (pc, w.turns) a (λ n. on_one ops (λ v rest. in_type n v rest w)) (λ n. one (pc, w.turns) ops (λ v rest. in_type n v rest w) (λ v rest. typed pc n v rest w))
row_falls img u m p fb pc op.Chr a b ops w = one (pc, w.turns) ops (λ v rest. if is_within v (pos 256) then Next (v ∷ rest) w else Traps trap.Overflow (pos 0) w) (λ v rest. either (pc, w.turns) (is_within v (pos 256)) (Next (v ∷ rest) w) (Traps trap.Overflow (pos 0) w) (same w.turns) (same w.turns))
row_falls img u m p fb pc op.Odd a b ops w = one (pc, w.turns) ops (λ v rest. Next (int_rem_euclid v (pos 2) ∷ rest) w) (λ v rest. same w.turns)
row_falls img u m p fb pc op.Cap a b ops w = one (pc, w.turns) ops (λ v rest. Next (capital v ∷ rest) w) (λ v rest. same w.turns)
row_falls img u m p fb pc op.Ash a b ops w = two (pc, w.turns) ops (λ x n rest. in_type 4 (shifted x n) rest w) (λ x n rest. typed pc 4 (shifted x n) rest w)
row_falls img u m p fb pc op.Inc a b ops w =
    width (pc, w.turns) a (λ n. on_two ops (λ x d rest. on_found (word_at w.words x) (λ v. if in_width n (v +ℤ d) then on_found (stored w.words x (v +ℤ d)) (λ l. Next rest (with_memory w l)) else Traps trap.Overflow (pos 0) w)))
    (λ n. two (pc, w.turns) ops (λ x d rest. on_found (word_at w.words x) (λ v. if in_width n (v +ℤ d) then on_found (stored w.words x (v +ℤ d)) (λ l. Next rest (with_memory w l)) else Traps trap.Overflow (pos 0) w))
    (λ x d rest. found (pc, w.turns) (word_at w.words x) (λ v. if in_width n (v +ℤ d) then on_found (stored w.words x (v +ℤ d)) (λ l. Next rest (with_memory w l)) else Traps trap.Overflow (pos 0) w)
    (λ v. either (pc, w.turns) (in_width n (v +ℤ d)) (on_found (stored w.words x (v +ℤ d)) (λ l. Next rest (with_memory w l))) (Traps trap.Overflow (pos 0) w) (store pc (stored w.words x (v +ℤ d)) rest w) (same w.turns))))
row_falls img u m p fb pc op.Dec a b ops w =
    width (pc, w.turns) a (λ n. on_two ops (λ x d rest. on_found (word_at w.words x) (λ v. if in_width n (v -ℤ d) then on_found (stored w.words x (v -ℤ d)) (λ l. Next rest (with_memory w l)) else Traps trap.Overflow (pos 0) w)))
    (λ n. two (pc, w.turns) ops (λ x d rest. on_found (word_at w.words x) (λ v. if in_width n (v -ℤ d) then on_found (stored w.words x (v -ℤ d)) (λ l. Next rest (with_memory w l)) else Traps trap.Overflow (pos 0) w))
    (λ x d rest. found (pc, w.turns) (word_at w.words x) (λ v. if in_width n (v -ℤ d) then on_found (stored w.words x (v -ℤ d)) (λ l. Next rest (with_memory w l)) else Traps trap.Overflow (pos 0) w)
    (λ v. either (pc, w.turns) (in_width n (v -ℤ d)) (on_found (stored w.words x (v -ℤ d)) (λ l. Next rest (with_memory w l))) (Traps trap.Overflow (pos 0) w) (store pc (stored w.words x (v -ℤ d)) rest w) (same w.turns))))
row_falls img u m p fb pc op.StrRel a b ops w =
    found (pc, w.turns) (below 6 a) (λ r. on_four ops (λ x l y n rest. on_both (chars_at w.words x l) (chars_at w.words y n) w (λ s t. Next (truth (related r s t) ∷ rest) w)))
    (λ r. four (pc, w.turns) ops (λ x l y n rest. on_both (chars_at w.words x l) (chars_at w.words y n) w (λ s t. Next (truth (related r s t) ∷ rest) w)) (λ x l y n rest. both pc (chars_at w.words x l) (chars_at w.words y n) w (λ s t. Next (truth (related r s t) ∷ rest) w) (λ s t. same w.turns)))
row_falls img u m p fb pc op.StrCopy a b ops w = four (pc, w.turns) ops (λ x l y n rest. copies_chars (chars_at w.words x l) y n rest w) (λ x l y n rest. copy_chars pc (chars_at w.words x l) y n rest w)
row_falls img u m p fb pc op.Jump a b ops w = found (pc, w.turns) (below (length u.code) a) (λ at. jumped pc at ops w) (λ at. jumps pc at ops w)
row_falls img u m p fb pc op.JumpF a b ops w =
    found (pc, w.turns) (below (length u.code) a) (λ at. on_one ops (λ v rest. if is_zero v then jumped pc at rest w else Next rest w))
    (λ at. one (pc, w.turns) ops (λ v rest. if is_zero v then jumped pc at rest w else Next rest w) (λ v rest. either (pc, w.turns) (is_zero v) (jumped pc at rest w) (Next rest w) (jumps pc at rest w) (same w.turns)))
row_falls img u m p fb pc op.Trap a b ops w = found (pc, w.turns) (trap_of a) (λ kind. Traps kind b w) (λ kind. same w.turns)
row_falls img u m p fb pc op.Assert a b ops w = one (pc, w.turns) ops (λ v rest. if is_zero v then Traps trap.AssertionFails a w else Next rest w) (λ v rest. either (pc, w.turns) (is_zero v) (Traps trap.AssertionFails a w) (Next rest w) (same w.turns) (same w.turns))
row_falls img u m p fb pc op.NewR a b ops w =
    found (pc, w.turns) (item u.types a) (λ t. on_found (slice_get img.types t) (λ d. on_one ops (λ x rest. where_there w x (made x (tag t ∷ []) d.words rest w))))
    (λ t. found (pc, w.turns) (slice_get img.types t) (λ d. on_one ops (λ x rest. where_there w x (made x (tag t ∷ []) d.words rest w)))
    (λ d. one (pc, w.turns) ops (λ x rest. where_there w x (made x (tag t ∷ []) d.words rest w)) (λ x rest. is_there pc w x (made x (tag t ∷ []) d.words rest w) (make pc x (tag t ∷ []) d.words rest w))))
row_falls img u m p fb pc op.NewA a b ops w = count (pc, w.turns) a (λ n. on_one ops (λ x rest. where_there w x (made x (pos 0 ∷ []) n rest w))) (λ n. one (pc, w.turns) ops (λ x rest. where_there w x (made x (pos 0 ∷ []) n rest w)) (λ x rest. is_there pc w x (made x (pos 0 ∷ []) n rest w) (make pc x (pos 0 ∷ []) n rest w)))
row_falls img u m p fb pc op.NewO a b ops w = count (pc, w.turns) a (λ n. on_two ops (λ x l rest. where_there w x (made_many x n l rest w))) (λ n. two (pc, w.turns) ops (λ x l rest. where_there w x (made_many x n l rest w)) (λ x l rest. is_there pc w x (made_many x n l rest w) (make_many pc x n l rest w)))
row_falls img u m p fb pc op.Proc a b ops w = found (pc, w.turns) (below (length u.procedures) a) (λ q. word (proc_value (record { «module» = m; proc = q })) ops w) (λ q. words pc (proc_value (record { «module» = m; proc = q })) ops w)
row_falls img u m p fb pc op.ProcX a b ops w = found (pc, w.turns) (item u.procedure_links a) (λ r. word (proc_value r) ops w) (λ r. words pc (proc_value r) ops w)
row_falls img u m p fb pc op.Call a b ops w = found (pc, w.turns) (below (length u.procedures) a) (λ q. calls_with img (record { «module» = m; proc = q }) ops w) (λ q. call_with pc img (record { «module» = m; proc = q }) ops w)
row_falls img u m p fb pc op.CallX a b ops w = found (pc, w.turns) (item u.procedure_links a) (λ r. calls_with img r ops w) (λ r. call_with pc img r ops w)
row_falls img u m p fb pc op.CallV a b ops w =
    count (pc, w.turns) a (λ n. on_args n ops (λ args rest. on_one rest (λ v below. if is_zero v then Traps trap.Nil (pos 0) w else on_found (proc_of_value v) (λ r. calls img r args below w))))
    (λ n. args (pc, w.turns) n ops (λ args rest. on_one rest (λ v below. if is_zero v then Traps trap.Nil (pos 0) w else on_found (proc_of_value v) (λ r. calls img r args below w)))
    (λ l rest. one (pc, w.turns) rest (λ v below. if is_zero v then Traps trap.Nil (pos 0) w else on_found (proc_of_value v) (λ r. calls img r l below w))
    (λ v low. either (pc, w.turns) (is_zero v) (Traps trap.Nil (pos 0) w) (on_found (proc_of_value v) (λ r. calls img r l low w)) (same w.turns) (found (pc, w.turns) (proc_of_value v) (λ r. calls img r l low w) (λ r. call pc img r l low w)))))
row_falls img u m p fb pc op.CallP a b ops w =
    count (pc, w.turns) b (λ n. on_args (suc n) ops (λ args rest. on_receiver args (λ x. if is_zero x then Traps trap.Nil (pos 0) w else pointer_method img w x a (λ r. calls img r args rest w))))
    (λ n. args (pc, w.turns) (suc n) ops (λ args rest. on_receiver args (λ x. if is_zero x then Traps trap.Nil (pos 0) w else pointer_method img w x a (λ r. calls img r args rest w)))
    (λ l rest. receiver (pc, w.turns) l (λ x. if is_zero x then Traps trap.Nil (pos 0) w else pointer_method img w x a (λ r. calls img r l rest w))
    (λ x. either (pc, w.turns) (is_zero x) (Traps trap.Nil (pos 0) w) (pointer_method img w x a (λ r. calls img r l rest w)) (same w.turns) (method pc img w x a (λ r. calls img r l rest w) (λ r. call pc img r l rest w)))))
row_falls img u m p fb pc op.CallR a b ops w =
    count (pc, w.turns) b (λ n. on_args (suc (suc n)) ops (λ args rest. on_tag args (λ g. on_found (tag_method img g a) (λ r. calls img r args rest w))))
    (λ n. args (pc, w.turns) (suc (suc n)) ops (λ args rest. on_tag args (λ g. on_found (tag_method img g a) (λ r. calls img r args rest w)))
    (λ l rest. tags (pc, w.turns) l (λ g. on_found (tag_method img g a) (λ r. calls img r l rest w)) (λ g. found (pc, w.turns) (tag_method img g a) (λ r. calls img r l rest w) (λ r. call pc img r l rest w))))
row_falls img u m p fb pc op.CallS a b ops w = found (pc, w.turns) (item u.types a) (λ t. on_found (method_at (slice_get img.types t) b) (λ r. calls_with img r ops w)) (λ t. found (pc, w.turns) (method_at (slice_get img.types t) b) (λ r. calls_with img r ops w) (λ r. call_with pc img r ops w))
row_falls img u m p fb pc op.Ret a b ops w = found (pc, w.turns) (slice_get u.procedures p) (λ q. if q.has_result then Unable else Leave [] w) (λ q. either (pc, w.turns) q.has_result Unable (Leave [] w) tt (same w.turns))
row_falls img u m p fb pc op.RetV a b ops w = found (pc, w.turns) (slice_get u.procedures p) (λ q. on_one ops (λ v rest. if q.has_result then Leave (v ∷ []) w else Unable)) (λ q. one (pc, w.turns) ops (λ v rest. if q.has_result then Leave (v ∷ []) w else Unable) (λ v rest. either (pc, w.turns) q.has_result (Leave (v ∷ []) w) Unable (same w.turns) tt))
row_falls img u m p fb pc op.Out a b ops w = write pc a ops w

-- POINTS

-- a run from here is over within n steps
abbrev Under : ℕ → Point → Type 0
Under n (Go m p fb acts pc ops w) = (2 * w.turns + length acts) * 262145 + (262144 - pc) < n
Under n (Over end w) = Unit {0}

left_under : (n fb : ℕ) (acts : List Act) (given : List ℤ) (w : World) → (2 * w.turns + length acts) * 262145 < suc n → Under n (left fb acts given w)
left_under n fb [] given w lt = tt
left_under n fb (a ∷ acts) given w lt = omega arith

point_either : (n : ℕ) (b : Bool) (x y : Point) → Under n x → Under n y → Under n (if b then x else y)
point_either n true x y f g = f
point_either n false x y f g = g

forth : (t v a at pc n : ℕ) → pc < 262144 → (t ≤ v) × (pc < at) → (2 * v + a) * 262145 + (262144 - pc) < suc n → (2 * t + a) * 262145 + (262144 - at) < n
forth t v a at pc n short h lt = omega (arith, h.0, h.1)

spent : (t v a b at pc n : ℕ) → t < v → b ≤ suc a → (2 * v + a) * 262145 + (262144 - pc) < suc n → (2 * t + b) * 262145 + (262144 - at) < n
spent t v a b at pc n less le lt = omega arith

come_under : (img : Image) (u : ModuleImage) (m p fb : ℕ) (acts : List Act) (pc : ℕ) (v : World) (e : Effect) (n : ℕ) → pc < 262144 → Falls (pc, v.turns) e → (2 * v.turns + length acts) * 262145 + (262144 - pc) < suc n → Under n (come_to img u m p fb acts pc v e)
come_under img u m p fb acts pc v (Next ops w) n short h lt = forth w.turns v.turns (length acts) (suc pc) pc n short (h, omega arith) lt
come_under img u m p fb acts pc v (Goto at ops w) n short h lt = ⊎_elim (λ f. forth w.turns v.turns (length acts) at pc n short f lt) (λ s. spent w.turns v.turns (length acts) (length acts) at pc n s (omega arith) lt) h
come_under img u m p fb acts pc v (Enter r q args k ops w) n short h lt =
    let need = slots q.params + q.locals + k in
    point_either n (has_room img.room need acts w) (Go r.module r.proc w.stack (record { m = m; p = p; fb = fb; pc = suc pc; ops = ops } ∷ acts) q.entry [] (record w { words = entered w.words w.stack q args; stack = w.stack + need })) (Over (Trapped trap.StackFull (pos 0) m (position_at u.positions pc)) w) (spent w.turns v.turns (length acts) (suc (length acts)) q.entry pc n h (same (suc (length acts))) lt) tt
come_under img u m p fb acts pc v (Leave given w) n short h lt = left_under n fb acts given w (omega arith)
come_under img u m p fb acts pc v (Traps kind number w) n short h lt = tt
come_under img u m p fb acts pc v (Spends w) n short h lt = tt
come_under img u m p fb acts pc v Unable n short h lt = tt

checked_under : (n most m pc : ℕ) (x : Point) → Under n x → Under n (checked most m pc x)
checked_under n most m pc (Go k p fb acts at ops w) h = point_either n (nat_le (length ops) most) (Go k p fb acts at ops w) (Over (Illegal m pc) w) h tt
checked_under n most m pc (Over end w) h = tt

some_below : {A : Type 0} (xs : List A) (n : ℕ) (x : A) → slice_get xs n ≡ Some x → n < length xs
some_below [] n x e = absurd cc
some_below (y ∷ xs) zero x e = omega arith
some_below (y ∷ xs) (suc n) x e = let h = some_below xs n x e in omega (arith, h)

short_at : (us : List ModuleImage) (m : ℕ) (u : ModuleImage) → AllByRecursion (λ (x : ModuleImage). length x.code ≤ 262144) us → slice_get us m ≡ Some u → length u.code ≤ 262144
short_at [] m u all e = absurd cc
short_at (x ∷ us) zero u all e = let s : x ≡ u = cc in subst (λ (y : ModuleImage). length y.code ≤ 262144) s all.0
short_at (x ∷ us) (suc m) u all e = short_at us m u all.1 e

act_under : (img : Image) (u : ModuleImage) (m p fb : ℕ) (acts : List Act) (pc : ℕ) (ops : List ℤ) (w : World) (i : Option Instr) (n : ℕ) → length u.code ≤ 262144 → slice_get u.code pc ≡ i → (2 * w.turns + length acts) * 262145 + (262144 - pc) < suc n → Under n (act img u m p fb acts pc ops w i)
act_under img u m p fb acts pc ops w None n few at lt = tt
act_under img u m p fb acts pc ops w (Some i) n few at lt =
    let b = some_below u.code pc i at in
    let short : pc < 262144 = omega (arith, b, few) in
    checked_under n img.room.operands m pc (come_to img u m p fb acts pc w (row img u m p fb pc i.op i.a i.b ops w)) (come_under img u m p fb acts pc w (row img u m p fb pc i.op i.a i.b ops w) n short (row_falls img u m p fb pc i.op i.a i.b ops w) lt)

act_in_under : (img : Image) (o : Option ModuleImage) (m p fb : ℕ) (acts : List Act) (pc : ℕ) (ops : List ℤ) (w : World) (n : ℕ) → IsShort img → slice_get img.modules m ≡ o → (2 * w.turns + length acts) * 262145 + (262144 - pc) < suc n → Under n (act_in img o m p fb acts pc ops w)
act_in_under img None m p fb acts pc ops w n short at lt = tt
act_in_under img (Some u) m p fb acts pc ops w n short at lt = act_under img u m p fb acts pc ops w (slice_get u.code pc) n (short_at img.modules m u short at) refl lt

step_under : (img : Image) (x : Point) (n : ℕ) → IsShort img → Under (suc n) x → Under n (step img x)
step_under img (Go m p fb acts pc ops w) n short lt = act_in_under img (slice_get img.modules m) m p fb acts pc ops w n short refl lt
step_under img (Over end w) n short h = tt

run_over : (img : Image) (n : ℕ) (x : Point) → IsShort img → Under n x → (end : End) × (after : World) × (run img n x ≡ Over end after)
run_over img zero (Go m p fb acts pc ops w) short lt = absurd (omega arith)
run_over img zero (Over end w) short h = (end, w, refl)
run_over img (suc n) x short h = run_over img n (step img x) short (step_under img x n short h)

start_under : (img : Image) (r : ProcRef) (w : World) (q : Option Procedure) → Under (enough w.turns) (begins q r (suc img.room.globals) w)
start_under img r w None = tt
start_under img r w (Some q) = omega arith

-- each run comes to its end
pub runs_end : RunsEnd
runs_end img r w short = run_over img (enough w.turns) (start img r w) short (start_under img r w (procedure_of img r))
