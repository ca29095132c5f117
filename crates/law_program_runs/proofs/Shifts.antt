-- What was written before a run stands before its text, and is nothing to it.
use Rattle.std.proofs.Common.{◌≡◌, ℕ, zero, suc, ◌+◌, ◌*◌, List, [], ◌∷◌, ◌++◌, length, reverse, take, drop, ℤ, pos, negsuc, ◌+ℤ◌, ◌-ℤ◌, ◌*ℤ◌, neg_ℤ, Option, Some, None, Bool, true, false, refl, ap, ◌∙◌, append_assoc}
use Rattle.std.specs.Prelude.{slice_get, nat_lt, nat_le, int_lt, not, if◌then◌else◌}
use Rattle.std.specs.Int.{w32, int_div_euclid, int_rem_euclid, int_bit_and, int_bit_or, int_bit_xor, int_bit_not}
use Rattle.std.specs.Ordering.{int_eq}
use Rattle.ob_trap.specs.declared.trap.Trap.TheVariants as trap
use Rattle.ob_trap.specs.Numbers.{trap_of}
use Rattle.ob_tree.specs.declared.proc_ref.ProcRef.{ProcRef}
use Rattle.ob_mem.specs.Words.{Held, word_at, are_there, with_words, stored, copied, heap_taken}
use Rattle.ob_instr.specs.declared.opcode.Opcode.{Opcode}
use Rattle.ob_instr.specs.declared.opcode.Opcode.TheVariants as op
use Rattle.ob_instr.specs.declared.instr.Instr.{Instr}
use Rattle.ob_instr.specs.declared.procedure.Procedure.{Procedure}
use Rattle.ob_instr.specs.Parts.{slots}
use Rattle.ob_instr.specs.Image.{ModuleImage, Image, World, Act, End, Trapped, Illegal, Point, Go, Over}
use Rattle.ob_instr.specs.Rows.{Effect, Next, Goto, Enter, Leave, Traps, Spends, Unable, on_found, item, below, is_zero, on_count, on_width, on_one, on_two, on_three, on_four, on_args, word, in_width, in_type, with_memory, truth, compared, is_within, magnitude, shifted, capital, on_element, set_from, has_element, tag, tag_passes, pointer_passes, Chars, Missing, Endless, Ends, chars_at, on_chars, on_both, related, turn_or, on_turn, jumped, copy_words, calls, calls_with, proc_value, proc_of_value, method_at, tag_method, pointer_method, on_receiver, on_tag, procedure_of, entered, taken, made, made_many, placed, copies_chars, where_there, written, written_chars, printed, padded, low_byte, low_bytes}
use Rattle.ob_instr.specs.Table as table
use Rattle.ob_instr.specs.Table.{row, position_at, checked, has_room, left, come_to, act, act_in, step, run, begins, start}

module _ (o : List ℕ) where
  -- the same with this text before what is written
  abbrev pub put : World → World
  put w = record w { out = o ++ w.out }

  abbrev sh : Effect → Effect
  sh (Next ops w) = Next ops (put w)
  sh (Goto at ops w) = Goto at ops (put w)
  sh (Enter r q args n ops w) = Enter r q args n ops (put w)
  sh (Leave given w) = Leave given (put w)
  sh (Traps kind number w) = Traps kind number (put w)
  sh (Spends w) = Spends (put w)
  sh Unable = Unable

  -- EFFECTS

  either : (w : World) (b : Bool) (x y : World → Effect) → x (put w) ≡ sh (x w) → y (put w) ≡ sh (y w) → (if b then x (put w) else y (put w)) ≡ sh (if b then x w else y w)
  either w true x y f g = f
  either w false x y f g = g

  found : {A : Type 0} (w : World) (x : Option A) (k : World → A → Effect) → ((a : A) → k (put w) a ≡ sh (k w a)) → on_found x (k (put w)) ≡ sh (on_found x (k w))
  found w None k h = refl
  found w (Some a) k h = h a

  one : (w : World) (ops : List ℤ) (k : World → ℤ → List ℤ → Effect) → ((x : ℤ) (rest : List ℤ) → k (put w) x rest ≡ sh (k w x rest)) → on_one ops (k (put w)) ≡ sh (on_one ops (k w))
  one w [] k h = refl
  one w (x ∷ ops) k h = h x ops

  two : (w : World) (ops : List ℤ) (k : World → ℤ → ℤ → List ℤ → Effect) → ((x y : ℤ) (rest : List ℤ) → k (put w) x y rest ≡ sh (k w x y rest)) → on_two ops (k (put w)) ≡ sh (on_two ops (k w))
  two w [] k h = refl
  two w (y ∷ []) k h = refl
  two w (y ∷ x ∷ ops) k h = h x y ops

  three : (w : World) (ops : List ℤ) (k : World → ℤ → ℤ → ℤ → List ℤ → Effect) → ((x y z : ℤ) (rest : List ℤ) → k (put w) x y z rest ≡ sh (k w x y z rest)) → on_three ops (k (put w)) ≡ sh (on_three ops (k w))
  three w [] k h = refl
  three w (z ∷ []) k h = refl
  three w (z ∷ y ∷ []) k h = refl
  three w (z ∷ y ∷ x ∷ ops) k h = h x y z ops

  four : (w : World) (ops : List ℤ) (k : World → ℤ → ℤ → ℤ → ℤ → List ℤ → Effect) → ((v x y z : ℤ) (rest : List ℤ) → k (put w) v x y z rest ≡ sh (k w v x y z rest)) → on_four ops (k (put w)) ≡ sh (on_four ops (k w))
  four w [] k h = refl
  four w (z ∷ []) k h = refl
  four w (z ∷ y ∷ []) k h = refl
  four w (z ∷ y ∷ x ∷ []) k h = refl
  four w (z ∷ y ∷ x ∷ v ∷ ops) k h = h v x y z ops

  args : (w : World) (n : ℕ) (ops : List ℤ) (k : World → List ℤ → List ℤ → Effect) → ((a rest : List ℤ) → k (put w) a rest ≡ sh (k w a rest)) → on_args n ops (k (put w)) ≡ sh (on_args n ops (k w))
  args w n ops k h = either w (nat_le n (length ops)) (λ w. k w (reverse (take n ops)) (drop n ops)) (λ w. Unable) (h (reverse (take n ops)) (drop n ops)) refl

  count : (w : World) (z : ℤ) (k : World → ℕ → Effect) → ((n : ℕ) → k (put w) n ≡ sh (k w n)) → on_count z (k (put w)) ≡ sh (on_count z (k w))
  count w (pos n) k h = h n
  count w (negsuc n) k h = refl

  width : (w : World) (z : ℤ) (k : World → ℕ → Effect) → ((n : ℕ) → k (put w) n ≡ sh (k w n)) → on_width z (k (put w)) ≡ sh (on_width z (k w))
  width w z k h =
      either w (int_eq z (pos 1)) (λ w. k w 1) (λ w. if int_eq z (pos 2) then k w 2 else if int_eq z (pos 4) then k w 4 else Unable) (h 1)
      (either w (int_eq z (pos 2)) (λ w. k w 2) (λ w. if int_eq z (pos 4) then k w 4 else Unable) (h 2)
      (either w (int_eq z (pos 4)) (λ w. k w 4) (λ w. Unable) (h 4) refl))

  words : (v : ℤ) (ops : List ℤ) (w : World) → word v ops (put w) ≡ sh (word v ops w)
  words v ops w = either w (in_width 4 v) (λ w. Next (v ∷ ops) w) (λ w. Unable) refl refl

  typed : (n : ℕ) (v : ℤ) (ops : List ℤ) (w : World) → in_type n v ops (put w) ≡ sh (in_type n v ops w)
  typed n v ops w = either w (in_width n v) (λ w. Next (v ∷ ops) w) (λ w. Traps trap.Overflow (pos 0) w) refl refl

  compare : (holds : ℤ → ℤ → Bool) (ops : List ℤ) (w : World) → compared holds ops (put w) ≡ sh (compared holds ops w)
  compare holds ops w = two w ops (λ w u v rest. Next (truth (holds u v) ∷ rest) w) (λ u v rest. refl)

  element : (v : ℤ) (w : World) (k : World → ℕ → Effect) → ((i : ℕ) → k (put w) i ≡ sh (k w i)) → on_element v (put w) (k (put w)) ≡ sh (on_element v w (k w))
  element (pos i) w k h = either w (nat_lt i 32) (λ w. k w i) (λ w. Traps trap.NoElement (pos 0) w) (h i) refl
  element (negsuc i) w k h = refl

  chars : (s : Chars) (w : World) (k : World → List ℤ → Effect) → ((l : List ℤ) → k (put w) l ≡ sh (k w l)) → on_chars s (put w) (k (put w)) ≡ sh (on_chars s w (k w))
  chars Missing w k h = refl
  chars Endless w k h = refl
  chars (Ends l) w k h = h l

  both : (s t : Chars) (w : World) (k : World → List ℤ → List ℤ → Effect) → ((l m : List ℤ) → k (put w) l m ≡ sh (k w l m)) → on_both s t (put w) (k (put w)) ≡ sh (on_both s t w (k w))
  both Missing t w k h = refl
  both Endless Missing w k h = refl
  both (Ends l) Missing w k h = refl
  both Endless Endless w k h = refl
  both Endless (Ends m) w k h = refl
  both (Ends l) Endless w k h = refl
  both (Ends l) (Ends m) w k h = h l m

  turn_of : (n : ℕ) (w : World) (k : World → Effect) → ((n : ℕ) → k (record (put w) { turns = n }) ≡ sh (k (record w { turns = n }))) → turn_or n (put w) k ≡ sh (turn_or n w k)
  turn_of zero w k h = refl
  turn_of (suc n) w k h = h n

  turn : (w : World) (k : World → Effect) → ((n : ℕ) → k (record (put w) { turns = n }) ≡ sh (k (record w { turns = n }))) → on_turn (put w) k ≡ sh (on_turn w k)
  turn w k h = turn_of w.turns w k h

  jumps : (pc at : ℕ) (ops : List ℤ) (w : World) → jumped pc at ops (put w) ≡ sh (jumped pc at ops w)
  jumps pc at ops w = either w (nat_le at pc) (λ w. on_turn w (λ v. Goto at ops v)) (λ w. Goto at ops w) (turn w (λ v. Goto at ops v) (λ n. refl)) refl

  store : (ws : Option (List ℤ)) (ops : List ℤ) (w : World) → on_found ws (λ l. Next ops (with_memory (put w) l)) ≡ sh (on_found ws (λ l. Next ops (with_memory w l)))
  store ws ops w = found w ws (λ w l. Next ops (with_memory w l)) (λ l. refl)

  take_object : (x : ℤ) (extra : List ℤ) (h : Option Held) (ops : List ℤ) (w : World) → taken x extra h ops (put w) ≡ sh (taken x extra h ops w)
  take_object x extra None ops w = refl
  take_object x extra (Some h) ops w = found w (stored (with_words h.words (pos w.heap) extra) x (pos (w.heap + length extra))) (λ w l. Next ops (record w { words = l; heap = h.next })) (λ l. refl)

  make : (x : ℤ) (extra : List ℤ) (n : ℕ) (ops : List ℤ) (w : World) → made x extra n ops (put w) ≡ sh (made x extra n ops w)
  make x extra n ops w = take_object x extra (heap_taken (record { words = w.words; next = w.heap }) (length extra + n)) ops w

  make_many : (x : ℤ) (n : ℕ) (l : ℤ) (ops : List ℤ) (w : World) → made_many x n l ops (put w) ≡ sh (made_many x n l ops w)
  make_many x n (pos zero) ops w = refl
  make_many x n (pos (suc l)) ops w = make x (pos 0 ∷ pos (suc l) ∷ []) (suc l * n) ops w
  make_many x n (negsuc l) ops w = refl

  is_there : (w : World) (x : ℤ) (e : World → Effect) → e (put w) ≡ sh (e w) → where_there (put w) x (e (put w)) ≡ sh (where_there w x (e w))
  is_there w x e h = either w (are_there (length w.words) x 1) e (λ w. Unable) h refl

  copy_chars : (s : Chars) (y z : ℤ) (ops : List ℤ) (w : World) → copies_chars s y z ops (put w) ≡ sh (copies_chars s y z ops w)
  copy_chars s y (pos zero) ops w = refl
  copy_chars s y (pos (suc n)) ops w = chars s w (λ w l. on_found (placed w.words y (take n l ++ pos 0 ∷ [])) (λ m. Next ops (with_memory w m))) (λ l. store (placed w.words y (take n l ++ pos 0 ∷ [])) ops w)
  copy_chars s y (negsuc n) ops w = refl

  -- one more text
  more : (ops : List ℤ) (w : World) (text : List ℕ) → Next ops (printed (put w) text) ≡ sh (Next ops (printed w text))
  more ops w text = ap (λ l. Next ops (record w { out = l })) (append_assoc o w.out text)

  write_chars : (s : Chars) (ops : List ℤ) (w : World) → written_chars s ops (put w) ≡ sh (written_chars s ops w)
  write_chars Missing ops w = refl
  write_chars Endless ops w = turn w (λ v. Traps trap.NoEnd (pos 0) v) (λ n. refl)
  write_chars (Ends l) ops w = turn w (λ v. Next ops (printed v (low_bytes l))) (λ n. more ops (record w { turns = n }) (low_bytes l))

  write : (a : ℤ) (ops : List ℤ) (w : World) → written a ops (put w) ≡ sh (written a ops w)
  write (pos zero) ops w = refl
  write (pos (suc zero)) ops w = one w ops (λ w c rest. on_turn w (λ v. Next rest (printed v (low_byte c ∷ [])))) (λ c rest. turn w (λ v. Next rest (printed v (low_byte c ∷ []))) (λ n. more rest (record w { turns = n }) (low_byte c ∷ [])))
  write (pos (suc (suc zero))) ops w = two w ops (λ w x l rest. written_chars (chars_at w.words x l) rest w) (λ x l rest. write_chars (chars_at w.words x l) rest w)
  write (pos (suc (suc (suc zero)))) ops w = two w ops (λ w z n rest. on_turn w (λ v. Next rest (printed v (padded z n)))) (λ z n rest. turn w (λ v. Next rest (printed v (padded z n))) (λ k. more rest (record w { turns = k }) (padded z n)))
  write (pos (suc (suc (suc (suc zero))))) ops w = turn w (λ v. Next ops (printed v (10 ∷ []))) (λ n. more ops (record w { turns = n }) (10 ∷ []))
  write (pos (suc (suc (suc (suc (suc n)))))) ops w = refl
  write (negsuc n) ops w = refl

  call : (img : Image) (r : ProcRef) (a ops : List ℤ) (w : World) → calls img r a ops (put w) ≡ sh (calls img r a ops w)
  call img r a ops w =
      found w (procedure_of img r) (λ w q. on_found (copy_words (length w.words) q.params a) (λ n. on_turn w (λ v. Enter r q a n ops v)))
      (λ q. found w (copy_words (length w.words) q.params a) (λ w n. on_turn w (λ v. Enter r q a n ops v)) (λ n. turn w (λ v. Enter r q a n ops v) (λ k. refl)))

  call_with : (img : Image) (r : ProcRef) (ops : List ℤ) (w : World) → calls_with img r ops (put w) ≡ sh (calls_with img r ops w)
  call_with img r ops w =
      found w (procedure_of img r) (λ w q. on_args (slots q.params) ops (λ a rest. calls img r a rest w))
      (λ q. args w (slots q.params) ops (λ w a rest. calls img r a rest w) (λ a rest. call img r a rest w))

  receiver : (w : World) (a : List ℤ) (k : World → ℤ → Effect) → ((x : ℤ) → k (put w) x ≡ sh (k w x)) → on_receiver a (k (put w)) ≡ sh (on_receiver a (k w))
  receiver w [] k h = refl
  receiver w (x ∷ a) k h = h x

  tags : (w : World) (a : List ℤ) (k : World → ℤ → Effect) → ((x : ℤ) → k (put w) x ≡ sh (k w x)) → on_tag a (k (put w)) ≡ sh (on_tag a (k w))
  tags w [] k h = refl
  tags w (x ∷ []) k h = refl
  tags w (x ∷ g ∷ a) k h = h g

  method : (img : Image) (w : World) (x a : ℤ) (k : World → ProcRef → Effect) → ((r : ProcRef) → k (put w) r ≡ sh (k w r)) → pointer_method img (put w) x a (k (put w)) ≡ sh (pointer_method img w x a (k w))
  method img w x a k h = found w (word_at w.words (x -ℤ pos 1)) (λ w g. on_found (tag_method img g a) (k w)) (λ g. found w (tag_method img g a) k h)

  row_shifts : (img : Image) (u : ModuleImage) (m p fb pc : ℕ) (i : Opcode) (a b : ℤ) (ops : List ℤ) (w : World) → row img u m p fb pc i a b ops (put w) ≡ sh (row img u m p fb pc i a b ops w)
  row_shifts img u m p fb pc op.Int a b ops w = refl
  row_shifts img u m p fb pc op.Local a b ops w = words (pos fb +ℤ a) ops w
  row_shifts img u m p fb pc op.Global a b ops w = words (pos u.first +ℤ a) ops w
  row_shifts img u m p fb pc op.ExtVar a b ops w = found w (item u.variable_links a) (λ w x. word (pos x) ops w) (λ x. words (pos x) ops w)
  row_shifts img u m p fb pc op.Load a b ops w = one w ops (λ w x rest. on_found (word_at w.words x) (λ v. Next (v ∷ rest) w)) (λ x rest. found w (word_at w.words x) (λ w v. Next (v ∷ rest) w) (λ v. refl))
  row_shifts img u m p fb pc op.Store a b ops w = two w ops (λ w x v rest. on_found (stored w.words x v) (λ l. Next rest (with_memory w l))) (λ x v rest. store (stored w.words x v) rest w)
  row_shifts img u m p fb pc op.Copy a b ops w = count w a (λ w n. on_two ops (λ d s rest. on_found (copied w.words d s n) (λ l. Next rest (with_memory w l)))) (λ n. two w ops (λ w d s rest. on_found (copied w.words d s n) (λ l. Next rest (with_memory w l))) (λ d s rest. store (copied w.words d s n) rest w))
  row_shifts img u m p fb pc op.CopyRec a b ops w =
      count w a (λ w n. on_found (item u.types b) (λ t. on_three ops (λ d g s rest. on_found (copied w.words d s n) (λ l. if int_eq g (tag t) then Next rest (with_memory w l) else Traps trap.OtherType (pos 0) w))))
      (λ n. found w (item u.types b) (λ w t. on_three ops (λ d g s rest. on_found (copied w.words d s n) (λ l. if int_eq g (tag t) then Next rest (with_memory w l) else Traps trap.OtherType (pos 0) w)))
      (λ t. three w ops (λ w d g s rest. on_found (copied w.words d s n) (λ l. if int_eq g (tag t) then Next rest (with_memory w l) else Traps trap.OtherType (pos 0) w))
      (λ d g s rest. found w (copied w.words d s n) (λ w l. if int_eq g (tag t) then Next rest (with_memory w l) else Traps trap.OtherType (pos 0) w)
      (λ l. either w (int_eq g (tag t)) (λ w. Next rest (with_memory w l)) (λ w. Traps trap.OtherType (pos 0) w) refl refl))))
  row_shifts img u m p fb pc op.Offset a b ops w = one w ops (λ w x rest. word (x +ℤ a) rest w) (λ x rest. words (x +ℤ a) rest w)
  row_shifts img u m p fb pc op.Index a b ops w = two w ops (λ w x i rest. if is_within i a then word (x +ℤ (i *ℤ b)) rest w else Traps trap.IndexOutside (pos 0) w) (λ x i rest. either w (is_within i a) (λ w. word (x +ℤ (i *ℤ b)) rest w) (λ w. Traps trap.IndexOutside (pos 0) w) (words (x +ℤ (i *ℤ b)) rest w) refl)
  row_shifts img u m p fb pc op.IndexO a b ops w = three w ops (λ w x l i rest. if is_within i l then word (x +ℤ (i *ℤ a)) rest w else Traps trap.IndexOutside (pos 0) w) (λ x l i rest. either w (is_within i l) (λ w. word (x +ℤ (i *ℤ a)) rest w) (λ w. Traps trap.IndexOutside (pos 0) w) (words (x +ℤ (i *ℤ a)) rest w) refl)
  row_shifts img u m p fb pc op.Deref a b ops w = one w ops (λ w x rest. if is_zero x then Traps trap.Nil (pos 0) w else Next (x ∷ rest) w) (λ x rest. either w (is_zero x) (λ w. Traps trap.Nil (pos 0) w) (λ w. Next (x ∷ rest) w) refl refl)
  row_shifts img u m p fb pc op.Tagged a b ops w = one w ops (λ w x rest. if is_zero x then Traps trap.Nil (pos 0) w else on_found (word_at w.words (x -ℤ pos 1)) (λ g. Next (g ∷ x ∷ rest) w)) (λ x rest. either w (is_zero x) (λ w. Traps trap.Nil (pos 0) w) (λ w. on_found (word_at w.words (x -ℤ pos 1)) (λ g. Next (g ∷ x ∷ rest) w)) refl (found w (word_at w.words (x -ℤ pos 1)) (λ w g. Next (g ∷ x ∷ rest) w) (λ g. refl)))
  row_shifts img u m p fb pc op.Lenned a b ops w = one w ops (λ w x rest. if is_zero x then Traps trap.Nil (pos 0) w else on_found (word_at w.words (x -ℤ pos 1)) (λ g. Next (g ∷ x ∷ rest) w)) (λ x rest. either w (is_zero x) (λ w. Traps trap.Nil (pos 0) w) (λ w. on_found (word_at w.words (x -ℤ pos 1)) (λ g. Next (g ∷ x ∷ rest) w)) refl (found w (word_at w.words (x -ℤ pos 1)) (λ w g. Next (g ∷ x ∷ rest) w) (λ g. refl)))
  row_shifts img u m p fb pc op.Tag a b ops w = found w (item u.types a) (λ w t. word (tag t) ops w) (λ t. words (tag t) ops w)
  row_shifts img u m p fb pc op.IsP a b ops w =
      found w (item u.types a) (λ w t. on_one ops (λ x rest. on_found (pointer_passes img.types w.words x t) (λ yes. Next (truth yes ∷ rest) w)))
      (λ t. one w ops (λ w x rest. on_found (pointer_passes img.types w.words x t) (λ yes. Next (truth yes ∷ rest) w)) (λ x rest. found w (pointer_passes img.types w.words x t) (λ w yes. Next (truth yes ∷ rest) w) (λ yes. refl)))
  row_shifts img u m p fb pc op.IsR a b ops w =
      found w (item u.types a) (λ w t. on_one ops (λ g rest. on_found (tag_passes img.types g t) (λ yes. Next (truth yes ∷ rest) w)))
      (λ t. one w ops (λ w g rest. on_found (tag_passes img.types g t) (λ yes. Next (truth yes ∷ rest) w)) (λ g rest. found w (tag_passes img.types g t) (λ w yes. Next (truth yes ∷ rest) w) (λ yes. refl)))
  row_shifts img u m p fb pc op.GuardAt a b ops w =
      found w (item u.types a) (λ w t. on_one ops (λ x rest. on_found (word_at w.words x) (λ v. on_found (pointer_passes img.types w.words v t) (λ yes. if yes then Next (x ∷ rest) w else Traps trap.GuardFails (pos 0) w))))
      (λ t. one w ops (λ w x rest. on_found (word_at w.words x) (λ v. on_found (pointer_passes img.types w.words v t) (λ yes. if yes then Next (x ∷ rest) w else Traps trap.GuardFails (pos 0) w)))
      (λ x rest. found w (word_at w.words x) (λ w v. on_found (pointer_passes img.types w.words v t) (λ yes. if yes then Next (x ∷ rest) w else Traps trap.GuardFails (pos 0) w))
      (λ v. found w (pointer_passes img.types w.words v t) (λ w yes. if yes then Next (x ∷ rest) w else Traps trap.GuardFails (pos 0) w) (λ yes. either w yes (λ w. Next (x ∷ rest) w) (λ w. Traps trap.GuardFails (pos 0) w) refl refl))))
  row_shifts img u m p fb pc op.GuardR a b ops w =
      found w (item u.types a) (λ w t. on_one ops (λ g rest. on_found (tag_passes img.types g t) (λ yes. if yes then Next (g ∷ rest) w else Traps trap.GuardFails (pos 0) w)))
      (λ t. one w ops (λ w g rest. on_found (tag_passes img.types g t) (λ yes. if yes then Next (g ∷ rest) w else Traps trap.GuardFails (pos 0) w))
      (λ g rest. found w (tag_passes img.types g t) (λ w yes. if yes then Next (g ∷ rest) w else Traps trap.GuardFails (pos 0) w) (λ yes. either w yes (λ w. Next (g ∷ rest) w) (λ w. Traps trap.GuardFails (pos 0) w) refl refl)))
  row_shifts img u m p fb pc op.Drop a b ops w = one w ops (λ w v rest. Next rest w) (λ v rest. refl)
  row_shifts img u m p fb pc op.Add a b ops w = width w a (λ w n. on_two ops (λ x y rest. in_type n (x +ℤ y) rest w)) (λ n. two w ops (λ w x y rest. in_type n (x +ℤ y) rest w) (λ x y rest. typed n (x +ℤ y) rest w))
  row_shifts img u m p fb pc op.Sub a b ops w = width w a (λ w n. on_two ops (λ x y rest. in_type n (x -ℤ y) rest w)) (λ n. two w ops (λ w x y rest. in_type n (x -ℤ y) rest w) (λ x y rest. typed n (x -ℤ y) rest w))
  row_shifts img u m p fb pc op.Mul a b ops w = width w a (λ w n. on_two ops (λ x y rest. in_type n (x *ℤ y) rest w)) (λ n. two w ops (λ w x y rest. in_type n (x *ℤ y) rest w) (λ x y rest. typed n (x *ℤ y) rest w))
  row_shifts img u m p fb pc op.Div a b ops w = two w ops (λ w x y rest. if int_lt (pos 0) y then Next (int_div_euclid x y ∷ rest) w else Traps trap.NoDivisor (pos 0) w) (λ x y rest. either w (int_lt (pos 0) y) (λ w. Next (int_div_euclid x y ∷ rest) w) (λ w. Traps trap.NoDivisor (pos 0) w) refl refl)
  row_shifts img u m p fb pc op.Mod a b ops w = two w ops (λ w x y rest. if int_lt (pos 0) y then Next (int_rem_euclid x y ∷ rest) w else Traps trap.NoDivisor (pos 0) w) (λ x y rest. either w (int_lt (pos 0) y) (λ w. Next (int_rem_euclid x y ∷ rest) w) (λ w. Traps trap.NoDivisor (pos 0) w) refl refl)
  row_shifts img u m p fb pc op.Neg a b ops w = width w a (λ w n. on_one ops (λ v rest. in_type n (neg_ℤ v) rest w)) (λ n. one w ops (λ w v rest. in_type n (neg_ℤ v) rest w) (λ v rest. typed n (neg_ℤ v) rest w))
  row_shifts img u m p fb pc op.Abs a b ops w = width w a (λ w n. on_one ops (λ v rest. in_type n (magnitude v) rest w)) (λ n. one w ops (λ w v rest. in_type n (magnitude v) rest w) (λ v rest. typed n (magnitude v) rest w))
  row_shifts img u m p fb pc op.Eq a b ops w = compare int_eq ops w
  row_shifts img u m p fb pc op.Ne a b ops w = compare (λ x y. not (int_eq x y)) ops w
  row_shifts img u m p fb pc op.Lt a b ops w = compare int_lt ops w
  row_shifts img u m p fb pc op.Le a b ops w = compare (λ x y. not (int_lt y x)) ops w
  row_shifts img u m p fb pc op.Gt a b ops w = compare (λ x y. int_lt y x) ops w
  row_shifts img u m p fb pc op.Ge a b ops w = compare (λ x y. not (int_lt x y)) ops w
  row_shifts img u m p fb pc op.Not a b ops w = one w ops (λ w v rest. Next (truth (is_zero v) ∷ rest) w) (λ v rest. refl)
  row_shifts img u m p fb pc op.Union a b ops w = two w ops (λ w x y rest. Next (int_bit_or w32 x y ∷ rest) w) (λ x y rest. refl)
  row_shifts img u m p fb pc op.Minus a b ops w = two w ops (λ w x y rest. Next (int_bit_and w32 x (int_bit_not w32 y) ∷ rest) w) (λ x y rest. refl)
  row_shifts img u m p fb pc op.Meet a b ops w = two w ops (λ w x y rest. Next (int_bit_and w32 x y ∷ rest) w) (λ x y rest. refl)
  row_shifts img u m p fb pc op.Xor a b ops w = two w ops (λ w x y rest. Next (int_bit_xor w32 x y ∷ rest) w) (λ x y rest. refl)
  row_shifts img u m p fb pc op.Compl a b ops w = one w ops (λ w v rest. Next (int_bit_not w32 v ∷ rest) w) (λ v rest. refl)
  row_shifts img u m p fb pc op.Bit a b ops w = one w ops (λ w v rest. on_element v w (λ i. Next (set_from i i ∷ rest) w)) (λ v rest. element v w (λ w i. Next (set_from i i ∷ rest) w) (λ i. refl))
  row_shifts img u m p fb pc op.Bits a b ops w = two w ops (λ w x y rest. on_element x w (λ i. on_element y w (λ j. Next (set_from i j ∷ rest) w))) (λ x y rest. element x w (λ w i. on_element y w (λ j. Next (set_from i j ∷ rest) w)) (λ i. element y w (λ w j. Next (set_from i j ∷ rest) w) (λ j. refl)))
  row_shifts img u m p fb pc op.In a b ops w = two w ops (λ w v s rest. on_element v w (λ i. Next (truth (has_element i s) ∷ rest) w)) (λ v s rest. element v w (λ w i. Next (truth (has_element i s) ∷ rest) w) (λ i. refl))
  row_shifts img u m p fb pc op.Incl a b ops w =
      two w ops (λ w x v rest. on_found (word_at w.words x) (λ s. on_element v w (λ i. on_found (stored w.words x (int_bit_or w32 s (set_from i i))) (λ l. Next rest (with_memory w l)))))
      (λ x v rest. found w (word_at w.words x) (λ w s. on_element v w (λ i. on_found (stored w.words x (int_bit_or w32 s (set_from i i))) (λ l. Next rest (with_memory w l))))
      (λ s. element v w (λ w i. on_found (stored w.words x (int_bit_or w32 s (set_from i i))) (λ l. Next rest (with_memory w l))) (λ i. store (stored w.words x (int_bit_or w32 s (set_from i i))) rest w)))
  row_shifts img u m p fb pc op.Excl a b ops w =
      two w ops (λ w x v rest. on_found (word_at w.words x) (λ s. on_element v w (λ i. on_found (stored w.words x (int_bit_and w32 s (int_bit_not w32 (set_from i i)))) (λ l. Next rest (with_memory w l)))))
      (λ x v rest. found w (word_at w.words x) (λ w s. on_element v w (λ i. on_found (stored w.words x (int_bit_and w32 s (int_bit_not w32 (set_from i i)))) (λ l. Next rest (with_memory w l))))
      (λ s. element v w (λ w i. on_found (stored w.words x (int_bit_and w32 s (int_bit_not w32 (set_from i i)))) (λ l. Next rest (with_memory w l))) (λ i. store (stored w.words x (int_bit_and w32 s (int_bit_not w32 (set_from i i)))) rest w)))
  row_shifts img u m p fb pc op.Range a b ops w = width w a (λ w n. on_one ops (λ v rest. in_type n v rest w)) (λ n. one w ops (λ w v rest. in_type n v rest w) (λ v rest. typed n v rest w))
  row_shifts img u m p fb pc op.Chr a b ops w = one w ops (λ w v rest. if is_within v (pos 256) then Next (v ∷ rest) w else Traps trap.Overflow (pos 0) w) (λ v rest. either w (is_within v (pos 256)) (λ w. Next (v ∷ rest) w) (λ w. Traps trap.Overflow (pos 0) w) refl refl)
  row_shifts img u m p fb pc op.Odd a b ops w = one w ops (λ w v rest. Next (int_rem_euclid v (pos 2) ∷ rest) w) (λ v rest. refl)
  row_shifts img u m p fb pc op.Cap a b ops w = one w ops (λ w v rest. Next (capital v ∷ rest) w) (λ v rest. refl)
  row_shifts img u m p fb pc op.Ash a b ops w = two w ops (λ w x n rest. in_type 4 (shifted x n) rest w) (λ x n rest. typed 4 (shifted x n) rest w)
  row_shifts img u m p fb pc op.Inc a b ops w =
      width w a (λ w n. on_two ops (λ x d rest. on_found (word_at w.words x) (λ v. if in_width n (v +ℤ d) then on_found (stored w.words x (v +ℤ d)) (λ l. Next rest (with_memory w l)) else Traps trap.Overflow (pos 0) w)))
      (λ n. two w ops (λ w x d rest. on_found (word_at w.words x) (λ v. if in_width n (v +ℤ d) then on_found (stored w.words x (v +ℤ d)) (λ l. Next rest (with_memory w l)) else Traps trap.Overflow (pos 0) w))
      (λ x d rest. found w (word_at w.words x) (λ w v. if in_width n (v +ℤ d) then on_found (stored w.words x (v +ℤ d)) (λ l. Next rest (with_memory w l)) else Traps trap.Overflow (pos 0) w)
      (λ v. either w (in_width n (v +ℤ d)) (λ w. on_found (stored w.words x (v +ℤ d)) (λ l. Next rest (with_memory w l))) (λ w. Traps trap.Overflow (pos 0) w) (store (stored w.words x (v +ℤ d)) rest w) refl)))
  row_shifts img u m p fb pc op.Dec a b ops w =
      width w a (λ w n. on_two ops (λ x d rest. on_found (word_at w.words x) (λ v. if in_width n (v -ℤ d) then on_found (stored w.words x (v -ℤ d)) (λ l. Next rest (with_memory w l)) else Traps trap.Overflow (pos 0) w)))
      (λ n. two w ops (λ w x d rest. on_found (word_at w.words x) (λ v. if in_width n (v -ℤ d) then on_found (stored w.words x (v -ℤ d)) (λ l. Next rest (with_memory w l)) else Traps trap.Overflow (pos 0) w))
      (λ x d rest. found w (word_at w.words x) (λ w v. if in_width n (v -ℤ d) then on_found (stored w.words x (v -ℤ d)) (λ l. Next rest (with_memory w l)) else Traps trap.Overflow (pos 0) w)
      (λ v. either w (in_width n (v -ℤ d)) (λ w. on_found (stored w.words x (v -ℤ d)) (λ l. Next rest (with_memory w l))) (λ w. Traps trap.Overflow (pos 0) w) (store (stored w.words x (v -ℤ d)) rest w) refl)))
  row_shifts img u m p fb pc op.StrRel a b ops w =
      found w (below 6 a) (λ w r. on_four ops (λ x l y n rest. on_both (chars_at w.words x l) (chars_at w.words y n) w (λ s t. Next (truth (related r s t) ∷ rest) w)))
      (λ r. four w ops (λ w x l y n rest. on_both (chars_at w.words x l) (chars_at w.words y n) w (λ s t. Next (truth (related r s t) ∷ rest) w)) (λ x l y n rest. both (chars_at w.words x l) (chars_at w.words y n) w (λ w s t. Next (truth (related r s t) ∷ rest) w) (λ s t. refl)))
  row_shifts img u m p fb pc op.StrCopy a b ops w = four w ops (λ w x l y n rest. copies_chars (chars_at w.words x l) y n rest w) (λ x l y n rest. copy_chars (chars_at w.words x l) y n rest w)
  row_shifts img u m p fb pc op.Jump a b ops w = found w (below (length u.code) a) (λ w at. jumped pc at ops w) (λ at. jumps pc at ops w)
  row_shifts img u m p fb pc op.JumpF a b ops w =
      found w (below (length u.code) a) (λ w at. on_one ops (λ v rest. if is_zero v then jumped pc at rest w else Next rest w))
      (λ at. one w ops (λ w v rest. if is_zero v then jumped pc at rest w else Next rest w) (λ v rest. either w (is_zero v) (λ w. jumped pc at rest w) (λ w. Next rest w) (jumps pc at rest w) refl))
  row_shifts img u m p fb pc op.Trap a b ops w = found w (trap_of a) (λ w kind. Traps kind b w) (λ kind. refl)
  row_shifts img u m p fb pc op.Assert a b ops w = one w ops (λ w v rest. if is_zero v then Traps trap.AssertionFails a w else Next rest w) (λ v rest. either w (is_zero v) (λ w. Traps trap.AssertionFails a w) (λ w. Next rest w) refl refl)
  row_shifts img u m p fb pc op.NewR a b ops w =
      found w (item u.types a) (λ w t. on_found (slice_get img.types t) (λ d. on_one ops (λ x rest. where_there w x (made x (tag t ∷ []) d.words rest w))))
      (λ t. found w (slice_get img.types t) (λ w d. on_one ops (λ x rest. where_there w x (made x (tag t ∷ []) d.words rest w)))
      (λ d. one w ops (λ w x rest. where_there w x (made x (tag t ∷ []) d.words rest w)) (λ x rest. is_there w x (λ w. made x (tag t ∷ []) d.words rest w) (make x (tag t ∷ []) d.words rest w))))
  row_shifts img u m p fb pc op.NewA a b ops w = count w a (λ w n. on_one ops (λ x rest. where_there w x (made x (pos 0 ∷ []) n rest w))) (λ n. one w ops (λ w x rest. where_there w x (made x (pos 0 ∷ []) n rest w)) (λ x rest. is_there w x (λ w. made x (pos 0 ∷ []) n rest w) (make x (pos 0 ∷ []) n rest w)))
  row_shifts img u m p fb pc op.NewO a b ops w = count w a (λ w n. on_two ops (λ x l rest. where_there w x (made_many x n l rest w))) (λ n. two w ops (λ w x l rest. where_there w x (made_many x n l rest w)) (λ x l rest. is_there w x (λ w. made_many x n l rest w) (make_many x n l rest w)))
  row_shifts img u m p fb pc op.Proc a b ops w = found w (below (length u.procedures) a) (λ w q. word (proc_value (record { «module» = m; proc = q })) ops w) (λ q. words (proc_value (record { «module» = m; proc = q })) ops w)
  row_shifts img u m p fb pc op.ProcX a b ops w = found w (item u.procedure_links a) (λ w r. word (proc_value r) ops w) (λ r. words (proc_value r) ops w)
  row_shifts img u m p fb pc op.Call a b ops w = found w (below (length u.procedures) a) (λ w q. calls_with img (record { «module» = m; proc = q }) ops w) (λ q. call_with img (record { «module» = m; proc = q }) ops w)
  row_shifts img u m p fb pc op.CallX a b ops w = found w (item u.procedure_links a) (λ w r. calls_with img r ops w) (λ r. call_with img r ops w)
  row_shifts img u m p fb pc op.CallV a b ops w =
      count w a (λ w n. on_args n ops (λ args rest. on_one rest (λ v below. if is_zero v then Traps trap.Nil (pos 0) w else on_found (proc_of_value v) (λ r. calls img r args below w))))
      (λ n. args w n ops (λ w args rest. on_one rest (λ v below. if is_zero v then Traps trap.Nil (pos 0) w else on_found (proc_of_value v) (λ r. calls img r args below w)))
      (λ l rest. one w rest (λ w v below. if is_zero v then Traps trap.Nil (pos 0) w else on_found (proc_of_value v) (λ r. calls img r l below w))
      (λ v low. either w (is_zero v) (λ w. Traps trap.Nil (pos 0) w) (λ w. on_found (proc_of_value v) (λ r. calls img r l low w)) refl (found w (proc_of_value v) (λ w r. calls img r l low w) (λ r. call img r l low w)))))
  row_shifts img u m p fb pc op.CallP a b ops w =
      count w b (λ w n. on_args (suc n) ops (λ args rest. on_receiver args (λ x. if is_zero x then Traps trap.Nil (pos 0) w else pointer_method img w x a (λ r. calls img r args rest w))))
      (λ n. args w (suc n) ops (λ w args rest. on_receiver args (λ x. if is_zero x then Traps trap.Nil (pos 0) w else pointer_method img w x a (λ r. calls img r args rest w)))
      (λ l rest. receiver w l (λ w x. if is_zero x then Traps trap.Nil (pos 0) w else pointer_method img w x a (λ r. calls img r l rest w))
      (λ x. either w (is_zero x) (λ w. Traps trap.Nil (pos 0) w) (λ w. pointer_method img w x a (λ r. calls img r l rest w)) refl (method img w x a (λ w r. calls img r l rest w) (λ r. call img r l rest w)))))
  row_shifts img u m p fb pc op.CallR a b ops w =
      count w b (λ w n. on_args (suc (suc n)) ops (λ args rest. on_tag args (λ g. on_found (tag_method img g a) (λ r. calls img r args rest w))))
      (λ n. args w (suc (suc n)) ops (λ w args rest. on_tag args (λ g. on_found (tag_method img g a) (λ r. calls img r args rest w)))
      (λ l rest. tags w l (λ w g. on_found (tag_method img g a) (λ r. calls img r l rest w)) (λ g. found w (tag_method img g a) (λ w r. calls img r l rest w) (λ r. call img r l rest w))))
  row_shifts img u m p fb pc op.CallS a b ops w = found w (item u.types a) (λ w t. on_found (method_at (slice_get img.types t) b) (λ r. calls_with img r ops w)) (λ t. found w (method_at (slice_get img.types t) b) (λ w r. calls_with img r ops w) (λ r. call_with img r ops w))
  row_shifts img u m p fb pc op.Ret a b ops w = found w (slice_get u.procedures p) (λ w q. if q.has_result then Unable else Leave [] w) (λ q. either w q.has_result (λ w. Unable) (λ w. Leave [] w) refl refl)
  row_shifts img u m p fb pc op.RetV a b ops w = found w (slice_get u.procedures p) (λ w q. on_one ops (λ v rest. if q.has_result then Leave (v ∷ []) w else Unable)) (λ q. one w ops (λ w v rest. if q.has_result then Leave (v ∷ []) w else Unable) (λ v rest. either w q.has_result (λ w. Leave (v ∷ []) w) (λ w. Unable) refl refl))
  row_shifts img u m p fb pc op.Out a b ops w = write a ops w

  -- POINTS

  abbrev at : Point → Point
  at (Go m p fb acts pc ops w) = Go m p fb acts pc ops (put w)
  at (Over end w) = Over end (put w)

  left_shifts : (fb : ℕ) (acts : List Act) (given : List ℤ) (w : World) → left fb acts given (put w) ≡ at (left fb acts given w)
  left_shifts fb [] given w = refl
  left_shifts fb (a ∷ acts) given w = refl

  either_point : (b : Bool) (x y : Point) → (if b then at x else at y) ≡ at (if b then x else y)
  either_point true x y = refl
  either_point false x y = refl

  come_shifts : (img : Image) (u : ModuleImage) (m p fb : ℕ) (acts : List Act) (pc : ℕ) (v : World) (e : Effect) → come_to img u m p fb acts pc (put v) (sh e) ≡ at (come_to img u m p fb acts pc v e)
  come_shifts img u m p fb acts pc v (Next ops w) = refl
  come_shifts img u m p fb acts pc v (Goto to ops w) = refl
  come_shifts img u m p fb acts pc v (Enter r q args n ops w) =
      let need = slots q.params + q.locals + n in
      either_point (has_room img.room need acts w) (Go r.module r.proc w.stack (record { m = m; p = p; fb = fb; pc = suc pc; ops = ops } ∷ acts) q.entry [] (record w { words = entered w.words w.stack q args; stack = w.stack + need })) (Over (Trapped trap.StackFull (pos 0) m (position_at u.positions pc)) w)
  come_shifts img u m p fb acts pc v (Leave given w) = left_shifts fb acts given w
  come_shifts img u m p fb acts pc v (Traps kind number w) = refl
  come_shifts img u m p fb acts pc v (Spends w) = refl
  come_shifts img u m p fb acts pc v Unable = refl

  checked_shifts : (most m pc : ℕ) (x : Point) → checked most m pc (at x) ≡ at (checked most m pc x)
  checked_shifts most m pc (Go n p fb acts to ops w) = either_point (nat_le (length ops) most) (Go n p fb acts to ops w) (Over (Illegal m pc) w)
  checked_shifts most m pc (Over end w) = refl

  act_shifts : (img : Image) (u : ModuleImage) (m p fb : ℕ) (acts : List Act) (pc : ℕ) (ops : List ℤ) (w : World) (i : Option Instr) → act img u m p fb acts pc ops (put w) i ≡ at (act img u m p fb acts pc ops w i)
  act_shifts img u m p fb acts pc ops w None = refl
  act_shifts img u m p fb acts pc ops w (Some i) =
      ap (λ e. checked img.room.operands m pc (come_to img u m p fb acts pc (put w) e)) (row_shifts img u m p fb pc i.op i.a i.b ops w)
      ∙ ap (checked img.room.operands m pc) (come_shifts img u m p fb acts pc w (row img u m p fb pc i.op i.a i.b ops w))
      ∙ checked_shifts img.room.operands m pc (come_to img u m p fb acts pc w (row img u m p fb pc i.op i.a i.b ops w))

  act_in_shifts : (img : Image) (u : Option ModuleImage) (m p fb : ℕ) (acts : List Act) (pc : ℕ) (ops : List ℤ) (w : World) → act_in img u m p fb acts pc ops (put w) ≡ at (act_in img u m p fb acts pc ops w)
  act_in_shifts img None m p fb acts pc ops w = refl
  act_in_shifts img (Some u) m p fb acts pc ops w = act_shifts img u m p fb acts pc ops w (slice_get u.code pc)

  step_shifts : (img : Image) (x : Point) → step img (at x) ≡ at (step img x)
  step_shifts img (Go m p fb acts pc ops w) = act_in_shifts img (slice_get img.modules m) m p fb acts pc ops w
  step_shifts img (Over end w) = refl

  run_shifts : (img : Image) (n : ℕ) (x : Point) → run img n (at x) ≡ at (run img n x)
  run_shifts img zero x = refl
  run_shifts img (suc n) x = ap (run img n) (step_shifts img x) ∙ run_shifts img n (step img x)

  start_shifts : (img : Image) (r : ProcRef) (w : World) → start img r (put w) ≡ at (start img r w)
  start_shifts img r w = go (procedure_of img r)
    where
      go : (q : Option Procedure) → begins q r (suc img.room.globals) (put w) ≡ at (begins q r (suc img.room.globals) w)
      go None = refl
      go (Some q) = refl

  pub ends_shift : (img : Image) (r : ProcRef) (w : World) (end : End) (after : World) → table.Ends img r w end after → table.Ends img r (put w) end (put after)
  ends_shift img r w end after e = record { count = e.count; is = ap (run img e.count) (start_shifts img r w) ∙ run_shifts img e.count (start img r w) ∙ ap at e.is }
