-- What each row does where its conditions hold.
use Rattle.std.proofs.Common.{◌≡◌, ℕ, suc, List, [], ◌∷◌, ◌++◌, length, take, drop, reverse, Some, refl, ◌∙◌}
use Rattle.std.specs.Prelude.{ℤ, pos, ◌+◌, ◌*◌, ◌+ℤ◌, ◌-ℤ◌, ◌*ℤ◌, neg_ℤ, int_lt, Bool, true, false, not, nat_lt, nat_le, slice_get, if◌then◌else◌}
use Rattle.std.specs.Int.{w32, int_div_euclid, int_rem_euclid, int_bit_and, int_bit_or, int_bit_xor, int_bit_not}
use Rattle.std.specs.Ordering.{int_eq}
use Rattle.ob_trap.specs.declared.trap.Trap.{Trap}
use Rattle.ob_trap.specs.declared.trap.Trap.TheVariants as trap
use Rattle.ob_trap.specs.NumberLaws.{trap_again}
use Rattle.ob_trap.specs.Numbers.{trap_number}
use Rattle.ob_tree.specs.declared.proc_ref.ProcRef.{ProcRef}
use Rattle.ob_mem.specs.Words.{word_at, are_there, stored, copied}
use Rattle.ob_tdesc.specs.declared.descriptor.Descriptor.{Descriptor}
use Rattle.ob_instr.specs.declared.opcode.Opcode.{Opcode}
use Rattle.ob_instr.specs.declared.opcode.Opcode.TheVariants as op
use Rattle.ob_instr.specs.declared.procedure.Procedure.{Procedure}
use Rattle.ob_instr.specs.Parts.{slots}
use Rattle.ob_instr.specs.Image.{ModuleImage, Image, World}
use Rattle.ob_instr.specs.Rows.{Effect, Next, Goto, Enter, Leave, Traps, Spends, on_found, on_width, in_width, in_type, with_memory, truth, is_zero, is_within, magnitude, shifted, capital, set_from, has_element, tag, tag_passes, pointer_passes, Endless, Ends, chars_at, related, placed, copy_words, procedure_of, calls, calls_with, proc_value, method_at, made, padded, low_byte, low_bytes, printed}
use Rattle.ob_instr.specs.Table.{row}

-- an integer type's bytes
abbrev pub IsWidth : ℕ → Type 0
IsWidth n = (k : ℕ → Effect) → on_width (pos n) k ≡ k n

pub width_1 : IsWidth 1
width_1 k = refl

pub width_2 : IsWidth 2
width_2 k = refl

pub width_4 : IsWidth 4
width_4 k = refl

module _ (img : Image) (u : ModuleImage) (m p fb pc : ℕ) (w : World) where
  abbrev R : Opcode → ℤ → ℤ → List ℤ → Effect
  R o a b ops = row img u m p fb pc o a b ops w

  pub int_next : (a : ℤ) (ops : List ℤ) → R op.Int a (pos 0) ops ≡ Next (a ∷ ops) w
  int_next a ops = refl

  pub local_next : (a : ℕ) (ops : List ℤ) → in_width 4 (pos (fb + a)) ≡ true → R op.Local (pos a) (pos 0) ops ≡ Next (pos (fb + a) ∷ ops) w
  local_next a ops e = rw e refl

  pub global_next : (a : ℕ) (ops : List ℤ) → in_width 4 (pos (u.first + a)) ≡ true → R op.Global (pos a) (pos 0) ops ≡ Next (pos (u.first + a) ∷ ops) w
  global_next a ops e = rw e refl

  pub ext_var_next : (a x : ℕ) (ops : List ℤ) → slice_get u.variable_links a ≡ Some x → in_width 4 (pos x) ≡ true → R op.ExtVar (pos a) (pos 0) ops ≡ Next (pos x ∷ ops) w
  ext_var_next a x ops e f = rw (e, f) refl

  pub load_next : (x v : ℤ) (ops : List ℤ) → word_at w.words x ≡ Some v → R op.Load (pos 0) (pos 0) (x ∷ ops) ≡ Next (v ∷ ops) w
  load_next x v ops e = rw e refl

  pub store_next : (x v : ℤ) (l : List ℤ) (ops : List ℤ) → stored w.words x v ≡ Some l → R op.Store (pos 0) (pos 0) (v ∷ x ∷ ops) ≡ Next ops (with_memory w l)
  store_next x v l ops e = rw e refl

  pub copy_next : (d s : ℤ) (n : ℕ) (l : List ℤ) (ops : List ℤ) → copied w.words d s n ≡ Some l → R op.Copy (pos n) (pos 0) (s ∷ d ∷ ops) ≡ Next ops (with_memory w l)
  copy_next d s n l ops e = rw e refl

  pub copy_rec_next : (d g s : ℤ) (n b t : ℕ) (l : List ℤ) (ops : List ℤ) → slice_get u.types b ≡ Some t → copied w.words d s n ≡ Some l → int_eq g (tag t) ≡ true → R op.CopyRec (pos n) (pos b) (s ∷ g ∷ d ∷ ops) ≡ Next ops (with_memory w l)
  copy_rec_next d g s n b t l ops e f h = rw (e, f, h) refl

  pub copy_rec_traps : (d g s : ℤ) (n b t : ℕ) (l : List ℤ) (ops : List ℤ) → slice_get u.types b ≡ Some t → copied w.words d s n ≡ Some l → int_eq g (tag t) ≡ false → R op.CopyRec (pos n) (pos b) (s ∷ g ∷ d ∷ ops) ≡ Traps trap.OtherType (pos 0) w
  copy_rec_traps d g s n b t l ops e f h = rw (e, f, h) refl

  pub offset_next : (x a : ℤ) (ops : List ℤ) → in_width 4 (x +ℤ a) ≡ true → R op.Offset a (pos 0) (x ∷ ops) ≡ Next ((x +ℤ a) ∷ ops) w
  offset_next x a ops e = rw e refl

  pub index_next : (x i a b : ℤ) (ops : List ℤ) → is_within i a ≡ true → in_width 4 (x +ℤ (i *ℤ b)) ≡ true → R op.Index a b (i ∷ x ∷ ops) ≡ Next ((x +ℤ (i *ℤ b)) ∷ ops) w
  index_next x i a b ops e f = rw (e, f) refl

  pub index_traps : (x i a b : ℤ) (ops : List ℤ) → is_within i a ≡ false → R op.Index a b (i ∷ x ∷ ops) ≡ Traps trap.IndexOutside (pos 0) w
  index_traps x i a b ops e = rw e refl

  pub index_o_next : (x l i a : ℤ) (ops : List ℤ) → is_within i l ≡ true → in_width 4 (x +ℤ (i *ℤ a)) ≡ true → R op.IndexO a (pos 0) (i ∷ l ∷ x ∷ ops) ≡ Next ((x +ℤ (i *ℤ a)) ∷ ops) w
  index_o_next x l i a ops e f = rw (e, f) refl

  pub index_o_traps : (x l i a : ℤ) (ops : List ℤ) → is_within i l ≡ false → R op.IndexO a (pos 0) (i ∷ l ∷ x ∷ ops) ≡ Traps trap.IndexOutside (pos 0) w
  index_o_traps x l i a ops e = rw e refl

  pub deref_next : (x : ℤ) (ops : List ℤ) → is_zero x ≡ false → R op.Deref (pos 0) (pos 0) (x ∷ ops) ≡ Next (x ∷ ops) w
  deref_next x ops e = rw e refl

  pub deref_traps : (ops : List ℤ) → R op.Deref (pos 0) (pos 0) (pos 0 ∷ ops) ≡ Traps trap.Nil (pos 0) w
  deref_traps ops = refl

  pub tagged_traps : (ops : List ℤ) → R op.Tagged (pos 0) (pos 0) (pos 0 ∷ ops) ≡ Traps trap.Nil (pos 0) w
  tagged_traps ops = refl

  pub lenned_traps : (ops : List ℤ) → R op.Lenned (pos 0) (pos 0) (pos 0 ∷ ops) ≡ Traps trap.Nil (pos 0) w
  lenned_traps ops = refl

  pub tagged_next : (x g : ℤ) (ops : List ℤ) → is_zero x ≡ false → word_at w.words (x -ℤ pos 1) ≡ Some g → R op.Tagged (pos 0) (pos 0) (x ∷ ops) ≡ Next (g ∷ x ∷ ops) w
  tagged_next x g ops e f = rw (e, f) refl

  pub lenned_next : (x g : ℤ) (ops : List ℤ) → is_zero x ≡ false → word_at w.words (x -ℤ pos 1) ≡ Some g → R op.Lenned (pos 0) (pos 0) (x ∷ ops) ≡ Next (g ∷ x ∷ ops) w
  lenned_next x g ops e f = rw (e, f) refl

  pub tag_next : (a t : ℕ) (ops : List ℤ) → slice_get u.types a ≡ Some t → in_width 4 (tag t) ≡ true → R op.Tag (pos a) (pos 0) ops ≡ Next (tag t ∷ ops) w
  tag_next a t ops e f = rw (e, f) refl

  pub is_p_next : (x : ℤ) (a t : ℕ) (b : Bool) (ops : List ℤ) → slice_get u.types a ≡ Some t → pointer_passes img.types w.words x t ≡ Some b → R op.IsP (pos a) (pos 0) (x ∷ ops) ≡ Next (truth b ∷ ops) w
  is_p_next x a t b ops e f = rw (e, f) refl

  pub is_r_next : (g : ℤ) (a t : ℕ) (b : Bool) (ops : List ℤ) → slice_get u.types a ≡ Some t → tag_passes img.types g t ≡ Some b → R op.IsR (pos a) (pos 0) (g ∷ ops) ≡ Next (truth b ∷ ops) w
  is_r_next g a t b ops e f = rw (e, f) refl

  pub guard_at_next : (x v : ℤ) (a t : ℕ) (ops : List ℤ) → slice_get u.types a ≡ Some t → word_at w.words x ≡ Some v → pointer_passes img.types w.words v t ≡ Some true → R op.GuardAt (pos a) (pos 0) (x ∷ ops) ≡ Next (x ∷ ops) w
  guard_at_next x v a t ops e f h = rw (e, f, h) refl

  pub guard_r_next : (x : ℤ) (a t : ℕ) (ops : List ℤ) → slice_get u.types a ≡ Some t → tag_passes img.types x t ≡ Some true → R op.GuardR (pos a) (pos 0) (x ∷ ops) ≡ Next (x ∷ ops) w
  guard_r_next x a t ops e f = rw (e, f) refl

  pub guard_at_traps : (x v : ℤ) (a t : ℕ) (ops : List ℤ) → slice_get u.types a ≡ Some t → word_at w.words x ≡ Some v → pointer_passes img.types w.words v t ≡ Some false → R op.GuardAt (pos a) (pos 0) (x ∷ ops) ≡ Traps trap.GuardFails (pos 0) w
  guard_at_traps x v a t ops e f h = rw (e, f, h) refl

  pub guard_r_traps : (x : ℤ) (a t : ℕ) (ops : List ℤ) → slice_get u.types a ≡ Some t → tag_passes img.types x t ≡ Some false → R op.GuardR (pos a) (pos 0) (x ∷ ops) ≡ Traps trap.GuardFails (pos 0) w
  guard_r_traps x a t ops e f = rw (e, f) refl

  pub drop_next : (v : ℤ) (ops : List ℤ) → R op.Drop (pos 0) (pos 0) (v ∷ ops) ≡ Next ops w
  drop_next v ops = refl

  pub add_next : (n : ℕ) (x y : ℤ) (ops : List ℤ) → IsWidth n → in_width n (x +ℤ y) ≡ true → R op.Add (pos n) (pos 0) (y ∷ x ∷ ops) ≡ Next ((x +ℤ y) ∷ ops) w
  add_next n x y ops h e = h (λ k. in_type k (x +ℤ y) ops w) ∙ rw e refl

  pub add_traps : (n : ℕ) (x y : ℤ) (ops : List ℤ) → IsWidth n → in_width n (x +ℤ y) ≡ false → R op.Add (pos n) (pos 0) (y ∷ x ∷ ops) ≡ Traps trap.Overflow (pos 0) w
  add_traps n x y ops h e = h (λ k. in_type k (x +ℤ y) ops w) ∙ rw e refl

  pub sub_next : (n : ℕ) (x y : ℤ) (ops : List ℤ) → IsWidth n → in_width n (x -ℤ y) ≡ true → R op.Sub (pos n) (pos 0) (y ∷ x ∷ ops) ≡ Next ((x -ℤ y) ∷ ops) w
  sub_next n x y ops h e = h (λ k. in_type k (x -ℤ y) ops w) ∙ rw e refl

  pub sub_traps : (n : ℕ) (x y : ℤ) (ops : List ℤ) → IsWidth n → in_width n (x -ℤ y) ≡ false → R op.Sub (pos n) (pos 0) (y ∷ x ∷ ops) ≡ Traps trap.Overflow (pos 0) w
  sub_traps n x y ops h e = h (λ k. in_type k (x -ℤ y) ops w) ∙ rw e refl

  pub mul_next : (n : ℕ) (x y : ℤ) (ops : List ℤ) → IsWidth n → in_width n (x *ℤ y) ≡ true → R op.Mul (pos n) (pos 0) (y ∷ x ∷ ops) ≡ Next ((x *ℤ y) ∷ ops) w
  mul_next n x y ops h e = h (λ k. in_type k (x *ℤ y) ops w) ∙ rw e refl

  pub mul_traps : (n : ℕ) (x y : ℤ) (ops : List ℤ) → IsWidth n → in_width n (x *ℤ y) ≡ false → R op.Mul (pos n) (pos 0) (y ∷ x ∷ ops) ≡ Traps trap.Overflow (pos 0) w
  mul_traps n x y ops h e = h (λ k. in_type k (x *ℤ y) ops w) ∙ rw e refl

  pub div_next : (x y : ℤ) (ops : List ℤ) → int_lt (pos 0) y ≡ true → R op.Div (pos 0) (pos 0) (y ∷ x ∷ ops) ≡ Next (int_div_euclid x y ∷ ops) w
  div_next x y ops e = rw e refl

  pub div_traps : (x y : ℤ) (ops : List ℤ) → int_lt (pos 0) y ≡ false → R op.Div (pos 0) (pos 0) (y ∷ x ∷ ops) ≡ Traps trap.NoDivisor (pos 0) w
  div_traps x y ops e = rw e refl

  pub mod_next : (x y : ℤ) (ops : List ℤ) → int_lt (pos 0) y ≡ true → R op.Mod (pos 0) (pos 0) (y ∷ x ∷ ops) ≡ Next (int_rem_euclid x y ∷ ops) w
  mod_next x y ops e = rw e refl

  pub mod_traps : (x y : ℤ) (ops : List ℤ) → int_lt (pos 0) y ≡ false → R op.Mod (pos 0) (pos 0) (y ∷ x ∷ ops) ≡ Traps trap.NoDivisor (pos 0) w
  mod_traps x y ops e = rw e refl

  pub neg_next : (n : ℕ) (v : ℤ) (ops : List ℤ) → IsWidth n → in_width n (neg_ℤ v) ≡ true → R op.Neg (pos n) (pos 0) (v ∷ ops) ≡ Next (neg_ℤ v ∷ ops) w
  neg_next n v ops h e = h (λ k. in_type k (neg_ℤ v) ops w) ∙ rw e refl

  pub neg_traps : (n : ℕ) (v : ℤ) (ops : List ℤ) → IsWidth n → in_width n (neg_ℤ v) ≡ false → R op.Neg (pos n) (pos 0) (v ∷ ops) ≡ Traps trap.Overflow (pos 0) w
  neg_traps n v ops h e = h (λ k. in_type k (neg_ℤ v) ops w) ∙ rw e refl

  pub abs_next : (n : ℕ) (v : ℤ) (ops : List ℤ) → IsWidth n → in_width n (magnitude v) ≡ true → R op.Abs (pos n) (pos 0) (v ∷ ops) ≡ Next (magnitude v ∷ ops) w
  abs_next n v ops h e = h (λ k. in_type k (magnitude v) ops w) ∙ rw e refl

  pub abs_traps : (n : ℕ) (v : ℤ) (ops : List ℤ) → IsWidth n → in_width n (magnitude v) ≡ false → R op.Abs (pos n) (pos 0) (v ∷ ops) ≡ Traps trap.Overflow (pos 0) w
  abs_traps n v ops h e = h (λ k. in_type k (magnitude v) ops w) ∙ rw e refl

  pub range_next : (n : ℕ) (v : ℤ) (ops : List ℤ) → IsWidth n → in_width n (v) ≡ true → R op.Range (pos n) (pos 0) (v ∷ ops) ≡ Next (v ∷ ops) w
  range_next n v ops h e = h (λ k. in_type k (v) ops w) ∙ rw e refl

  pub range_traps : (n : ℕ) (v : ℤ) (ops : List ℤ) → IsWidth n → in_width n (v) ≡ false → R op.Range (pos n) (pos 0) (v ∷ ops) ≡ Traps trap.Overflow (pos 0) w
  range_traps n v ops h e = h (λ k. in_type k (v) ops w) ∙ rw e refl

  pub eq_next : (x y : ℤ) (ops : List ℤ) → R op.Eq (pos 0) (pos 0) (y ∷ x ∷ ops) ≡ Next (truth (int_eq x y) ∷ ops) w
  eq_next x y ops = refl

  pub ne_next : (x y : ℤ) (ops : List ℤ) → R op.Ne (pos 0) (pos 0) (y ∷ x ∷ ops) ≡ Next (truth (not (int_eq x y)) ∷ ops) w
  ne_next x y ops = refl

  pub lt_next : (x y : ℤ) (ops : List ℤ) → R op.Lt (pos 0) (pos 0) (y ∷ x ∷ ops) ≡ Next (truth (int_lt x y) ∷ ops) w
  lt_next x y ops = refl

  pub le_next : (x y : ℤ) (ops : List ℤ) → R op.Le (pos 0) (pos 0) (y ∷ x ∷ ops) ≡ Next (truth (not (int_lt y x)) ∷ ops) w
  le_next x y ops = refl

  pub gt_next : (x y : ℤ) (ops : List ℤ) → R op.Gt (pos 0) (pos 0) (y ∷ x ∷ ops) ≡ Next (truth (int_lt y x) ∷ ops) w
  gt_next x y ops = refl

  pub ge_next : (x y : ℤ) (ops : List ℤ) → R op.Ge (pos 0) (pos 0) (y ∷ x ∷ ops) ≡ Next (truth (not (int_lt x y)) ∷ ops) w
  ge_next x y ops = refl

  pub union_next : (x y : ℤ) (ops : List ℤ) → R op.Union (pos 0) (pos 0) (y ∷ x ∷ ops) ≡ Next (int_bit_or w32 x y ∷ ops) w
  union_next x y ops = refl

  pub minus_next : (x y : ℤ) (ops : List ℤ) → R op.Minus (pos 0) (pos 0) (y ∷ x ∷ ops) ≡ Next (int_bit_and w32 x (int_bit_not w32 y) ∷ ops) w
  minus_next x y ops = refl

  pub meet_next : (x y : ℤ) (ops : List ℤ) → R op.Meet (pos 0) (pos 0) (y ∷ x ∷ ops) ≡ Next (int_bit_and w32 x y ∷ ops) w
  meet_next x y ops = refl

  pub xor_next : (x y : ℤ) (ops : List ℤ) → R op.Xor (pos 0) (pos 0) (y ∷ x ∷ ops) ≡ Next (int_bit_xor w32 x y ∷ ops) w
  xor_next x y ops = refl

  pub not_next : (v : ℤ) (ops : List ℤ) → R op.Not (pos 0) (pos 0) (v ∷ ops) ≡ Next (truth (is_zero v) ∷ ops) w
  not_next v ops = refl

  pub compl_next : (v : ℤ) (ops : List ℤ) → R op.Compl (pos 0) (pos 0) (v ∷ ops) ≡ Next (int_bit_not w32 v ∷ ops) w
  compl_next v ops = refl

  pub odd_next : (v : ℤ) (ops : List ℤ) → R op.Odd (pos 0) (pos 0) (v ∷ ops) ≡ Next (int_rem_euclid v (pos 2) ∷ ops) w
  odd_next v ops = refl

  pub cap_next : (v : ℤ) (ops : List ℤ) → R op.Cap (pos 0) (pos 0) (v ∷ ops) ≡ Next (capital v ∷ ops) w
  cap_next v ops = refl

  pub chr_next : (v : ℤ) (ops : List ℤ) → is_within v (pos 256) ≡ true → R op.Chr (pos 0) (pos 0) (v ∷ ops) ≡ Next (v ∷ ops) w
  chr_next v ops e = rw e refl

  pub chr_traps : (v : ℤ) (ops : List ℤ) → is_within v (pos 256) ≡ false → R op.Chr (pos 0) (pos 0) (v ∷ ops) ≡ Traps trap.Overflow (pos 0) w
  chr_traps v ops e = rw e refl

  pub bit_next : (i : ℕ) (ops : List ℤ) → nat_lt i 32 ≡ true → R op.Bit (pos 0) (pos 0) (pos i ∷ ops) ≡ Next (set_from i i ∷ ops) w
  bit_next i ops e = rw e refl

  pub bit_traps : (i : ℕ) (ops : List ℤ) → nat_lt i 32 ≡ false → R op.Bit (pos 0) (pos 0) (pos i ∷ ops) ≡ Traps trap.NoElement (pos 0) w
  bit_traps i ops e = rw e refl

  pub bits_next : (i j : ℕ) (ops : List ℤ) → nat_lt i 32 ≡ true → nat_lt j 32 ≡ true → R op.Bits (pos 0) (pos 0) (pos j ∷ pos i ∷ ops) ≡ Next (set_from i j ∷ ops) w
  bits_next i j ops e f = rw (e, f) refl

  pub in_next : (i : ℕ) (s : ℤ) (ops : List ℤ) → nat_lt i 32 ≡ true → R op.In (pos 0) (pos 0) (s ∷ pos i ∷ ops) ≡ Next (truth (has_element i s) ∷ ops) w
  in_next i s ops e = rw e refl

  pub incl_next : (x s : ℤ) (i : ℕ) (l : List ℤ) (ops : List ℤ) → word_at w.words x ≡ Some s → nat_lt i 32 ≡ true → stored w.words x (int_bit_or w32 s (set_from i i)) ≡ Some l → R op.Incl (pos 0) (pos 0) (pos i ∷ x ∷ ops) ≡ Next ops (with_memory w l)
  incl_next x s i l ops e f h = rw (e, f, h) refl

  pub excl_next : (x s : ℤ) (i : ℕ) (l : List ℤ) (ops : List ℤ) → word_at w.words x ≡ Some s → nat_lt i 32 ≡ true → stored w.words x (int_bit_and w32 s (int_bit_not w32 (set_from i i))) ≡ Some l → R op.Excl (pos 0) (pos 0) (pos i ∷ x ∷ ops) ≡ Next ops (with_memory w l)
  excl_next x s i l ops e f h = rw (e, f, h) refl

  pub ash_next : (x n : ℤ) (ops : List ℤ) → in_width 4 (shifted x n) ≡ true → R op.Ash (pos 0) (pos 0) (n ∷ x ∷ ops) ≡ Next (shifted x n ∷ ops) w
  ash_next x n ops e = rw e refl

  pub ash_traps : (x n : ℤ) (ops : List ℤ) → in_width 4 (shifted x n) ≡ false → R op.Ash (pos 0) (pos 0) (n ∷ x ∷ ops) ≡ Traps trap.Overflow (pos 0) w
  ash_traps x n ops e = rw e refl

  pub inc_next : (n : ℕ) (x d v : ℤ) (l : List ℤ) (ops : List ℤ) → IsWidth n → word_at w.words x ≡ Some v → in_width n (v +ℤ d) ≡ true → stored w.words x (v +ℤ d) ≡ Some l → R op.Inc (pos n) (pos 0) (d ∷ x ∷ ops) ≡ Next ops (with_memory w l)
  inc_next n x d v l ops h e f g = h (λ k. on_found (word_at w.words x) (λ v. if in_width k (v +ℤ d) then on_found (stored w.words x (v +ℤ d)) (λ l. Next ops (with_memory w l)) else Traps trap.Overflow (pos 0) w)) ∙ rw (e, f, g) refl

  pub inc_traps : (n : ℕ) (x d v : ℤ) (ops : List ℤ) → IsWidth n → word_at w.words x ≡ Some v → in_width n (v +ℤ d) ≡ false → R op.Inc (pos n) (pos 0) (d ∷ x ∷ ops) ≡ Traps trap.Overflow (pos 0) w
  inc_traps n x d v ops h e f = h (λ k. on_found (word_at w.words x) (λ v. if in_width k (v +ℤ d) then on_found (stored w.words x (v +ℤ d)) (λ l. Next ops (with_memory w l)) else Traps trap.Overflow (pos 0) w)) ∙ rw (e, f) refl

  pub dec_next : (n : ℕ) (x d v : ℤ) (l : List ℤ) (ops : List ℤ) → IsWidth n → word_at w.words x ≡ Some v → in_width n (v -ℤ d) ≡ true → stored w.words x (v -ℤ d) ≡ Some l → R op.Dec (pos n) (pos 0) (d ∷ x ∷ ops) ≡ Next ops (with_memory w l)
  dec_next n x d v l ops h e f g = h (λ k. on_found (word_at w.words x) (λ v. if in_width k (v -ℤ d) then on_found (stored w.words x (v -ℤ d)) (λ l. Next ops (with_memory w l)) else Traps trap.Overflow (pos 0) w)) ∙ rw (e, f, g) refl

  pub dec_traps : (n : ℕ) (x d v : ℤ) (ops : List ℤ) → IsWidth n → word_at w.words x ≡ Some v → in_width n (v -ℤ d) ≡ false → R op.Dec (pos n) (pos 0) (d ∷ x ∷ ops) ≡ Traps trap.Overflow (pos 0) w
  dec_traps n x d v ops h e f = h (λ k. on_found (word_at w.words x) (λ v. if in_width k (v -ℤ d) then on_found (stored w.words x (v -ℤ d)) (λ l. Next ops (with_memory w l)) else Traps trap.Overflow (pos 0) w)) ∙ rw (e, f) refl

  pub str_rel_next : (a : ℕ) (x l y n : ℤ) (s t : List ℤ) (ops : List ℤ) → nat_lt a 6 ≡ true → chars_at w.words x l ≡ Ends s → chars_at w.words y n ≡ Ends t → R op.StrRel (pos a) (pos 0) (n ∷ y ∷ l ∷ x ∷ ops) ≡ Next (truth (related a s t) ∷ ops) w
  str_rel_next a x l y n s t ops e f h = rw (e, f, h) refl

  pub str_copy_next : (x l y : ℤ) (n : ℕ) (s c : List ℤ) (ops : List ℤ) → chars_at w.words x l ≡ Ends s → placed w.words y (take n s ++ pos 0 ∷ []) ≡ Some c → R op.StrCopy (pos 0) (pos 0) (pos (suc n) ∷ y ∷ l ∷ x ∷ ops) ≡ Next ops (with_memory w c)
  str_copy_next x l y n s c ops e f = rw (e, f) refl

  pub str_copy_traps : (x l y : ℤ) (n : ℕ) (ops : List ℤ) → chars_at w.words x l ≡ Endless → R op.StrCopy (pos 0) (pos 0) (pos (suc n) ∷ y ∷ l ∷ x ∷ ops) ≡ Traps trap.NoEnd (pos 0) w
  str_copy_traps x l y n ops e = rw e refl

  pub jump_ahead : (a : ℕ) (ops : List ℤ) → nat_lt a (length u.code) ≡ true → nat_le a pc ≡ false → R op.Jump (pos a) (pos 0) ops ≡ Goto a ops w
  jump_ahead a ops e f = rw (e, f) refl

  pub jump_back : (a t : ℕ) (ops : List ℤ) → nat_lt a (length u.code) ≡ true → nat_le a pc ≡ true → w.turns ≡ suc t → R op.Jump (pos a) (pos 0) ops ≡ Goto a ops (record w { turns = t })
  jump_back a t ops e f h = rw (e, f, h) refl

  pub jump_spends : (a : ℕ) (ops : List ℤ) → nat_lt a (length u.code) ≡ true → nat_le a pc ≡ true → w.turns ≡ 0 → R op.Jump (pos a) (pos 0) ops ≡ Spends w
  jump_spends a ops e f h = rw (e, f, h) refl

  pub jump_f_passes : (a : ℕ) (v : ℤ) (ops : List ℤ) → nat_lt a (length u.code) ≡ true → is_zero v ≡ false → R op.JumpF (pos a) (pos 0) (v ∷ ops) ≡ Next ops w
  jump_f_passes a v ops e f = rw (e, f) refl

  pub jump_f_ahead : (a : ℕ) (ops : List ℤ) → nat_lt a (length u.code) ≡ true → nat_le a pc ≡ false → R op.JumpF (pos a) (pos 0) (pos 0 ∷ ops) ≡ Goto a ops w
  jump_f_ahead a ops e f = rw (e, f) refl

  pub jump_f_back : (a t : ℕ) (ops : List ℤ) → nat_lt a (length u.code) ≡ true → nat_le a pc ≡ true → w.turns ≡ suc t → R op.JumpF (pos a) (pos 0) (pos 0 ∷ ops) ≡ Goto a ops (record w { turns = t })
  jump_f_back a t ops e f h = rw (e, f, h) refl

  pub jump_f_spends : (a : ℕ) (ops : List ℤ) → nat_lt a (length u.code) ≡ true → nat_le a pc ≡ true → w.turns ≡ 0 → R op.JumpF (pos a) (pos 0) (pos 0 ∷ ops) ≡ Spends w
  jump_f_spends a ops e f h = rw (e, f, h) refl

  pub trap_traps : (kind : Trap) (b : ℤ) (ops : List ℤ) → R op.Trap (pos (trap_number kind)) b ops ≡ Traps kind b w
  trap_traps kind b ops = rw (trap_again kind) refl

  pub assert_next : (a v : ℤ) (ops : List ℤ) → is_zero v ≡ false → R op.Assert a (pos 0) (v ∷ ops) ≡ Next ops w
  assert_next a v ops e = rw e refl

  pub assert_traps : (a : ℤ) (ops : List ℤ) → R op.Assert a (pos 0) (pos 0 ∷ ops) ≡ Traps trap.AssertionFails a w
  assert_traps a ops = refl

  pub new_r_is : (x : ℤ) (a t : ℕ) (d : Descriptor) (ops : List ℤ) → slice_get u.types a ≡ Some t → slice_get img.types t ≡ Some d → are_there (length w.words) x 1 ≡ true → R op.NewR (pos a) (pos 0) (x ∷ ops) ≡ made x (tag t ∷ []) d.words ops w
  new_r_is x a t d ops e f h = rw (e, f, h) refl

  pub new_a_is : (x : ℤ) (a : ℕ) (ops : List ℤ) → are_there (length w.words) x 1 ≡ true → R op.NewA (pos a) (pos 0) (x ∷ ops) ≡ made x (pos 0 ∷ []) a ops w
  new_a_is x a ops h = rw h refl

  pub new_o_is : (x : ℤ) (a n : ℕ) (ops : List ℤ) → are_there (length w.words) x 1 ≡ true → R op.NewO (pos a) (pos 0) (pos (suc n) ∷ x ∷ ops) ≡ made x (pos 0 ∷ pos (suc n) ∷ []) (suc n * a) ops w
  new_o_is x a n ops h = rw h refl

  pub proc_next : (a : ℕ) (ops : List ℤ) → nat_lt a (length u.procedures) ≡ true → in_width 4 (proc_value (record { «module» = m; proc = a })) ≡ true → R op.Proc (pos a) (pos 0) ops ≡ Next (proc_value (record { «module» = m; proc = a }) ∷ ops) w
  proc_next a ops e f = rw (e, f) refl

  pub proc_x_next : (a : ℕ) (r : ProcRef) (ops : List ℤ) → slice_get u.procedure_links a ≡ Some r → in_width 4 (proc_value r) ≡ true → R op.ProcX (pos a) (pos 0) ops ≡ Next (proc_value r ∷ ops) w
  proc_x_next a r ops e f = rw (e, f) refl

  pub call_is : (a : ℕ) (ops : List ℤ) → nat_lt a (length u.procedures) ≡ true → R op.Call (pos a) (pos 0) ops ≡ calls_with img (record { «module» = m; proc = a }) ops w
  call_is a ops e = rw e refl

  pub call_x_is : (a : ℕ) (r : ProcRef) (ops : List ℤ) → slice_get u.procedure_links a ≡ Some r → R op.CallX (pos a) (pos 0) ops ≡ calls_with img r ops w
  call_x_is a r ops e = rw e refl

  pub call_s_is : (a b t : ℕ) (r : ProcRef) (ops : List ℤ) → slice_get u.types a ≡ Some t → method_at (slice_get img.types t) (pos b) ≡ Some r → R op.CallS (pos a) (pos b) ops ≡ calls_with img r ops w
  call_s_is a b t r ops e f = rw (e, f) refl

  pub ret_leaves : (q : Procedure) (ops : List ℤ) → slice_get u.procedures p ≡ Some q → q.has_result ≡ false → R op.Ret (pos 0) (pos 0) ops ≡ Leave [] w
  ret_leaves q ops e f = rw (e, f) refl

  pub ret_v_leaves : (q : Procedure) (v : ℤ) (ops : List ℤ) → slice_get u.procedures p ≡ Some q → q.has_result ≡ true → R op.RetV (pos 0) (pos 0) (v ∷ ops) ≡ Leave (v ∷ []) w
  ret_v_leaves q v ops e f = rw (e, f) refl

  pub out_char_next : (t : ℕ) (c : ℤ) (ops : List ℤ) → w.turns ≡ suc t → R op.Out (pos 1) (pos 0) (c ∷ ops) ≡ Next ops (printed (record w { turns = t }) (low_byte c ∷ []))
  out_char_next t c ops e = rw e refl

  pub out_int_next : (t : ℕ) (z n : ℤ) (ops : List ℤ) → w.turns ≡ suc t → R op.Out (pos 3) (pos 0) (n ∷ z ∷ ops) ≡ Next ops (printed (record w { turns = t }) (padded z n))
  out_int_next t z n ops e = rw e refl

  pub out_ln_next : (t : ℕ) (ops : List ℤ) → w.turns ≡ suc t → R op.Out (pos 4) (pos 0) ops ≡ Next ops (printed (record w { turns = t }) (10 ∷ []))
  out_ln_next t ops e = rw e refl

  pub out_string_next : (t : ℕ) (x l : ℤ) (s : List ℤ) (ops : List ℤ) → chars_at w.words x l ≡ Ends s → w.turns ≡ suc t → R op.Out (pos 2) (pos 0) (l ∷ x ∷ ops) ≡ Next ops (printed (record w { turns = t }) (low_bytes s))
  out_string_next t x l s ops e f = rw (e, f) refl

  -- a call of a procedure with as many operands as it has slots
  pub calls_enters : (r : ProcRef) (q : Procedure) (args ops : List ℤ) (n t : ℕ) → procedure_of img r ≡ Some q → copy_words (length w.words) q.params args ≡ Some n → w.turns ≡ suc t → calls img r args ops w ≡ Enter r q args n ops (record w { turns = t })
  calls_enters r q args ops n t e f h = rw (e, f, h) refl

  pub calls_spends : (r : ProcRef) (q : Procedure) (args ops : List ℤ) (n : ℕ) → procedure_of img r ≡ Some q → copy_words (length w.words) q.params args ≡ Some n → w.turns ≡ 0 → calls img r args ops w ≡ Spends w
  calls_spends r q args ops n e f h = rw (e, f, h) refl

  pub calls_with_is : (r : ProcRef) (q : Procedure) (ops : List ℤ) → procedure_of img r ≡ Some q → nat_le (slots q.params) (length ops) ≡ true → calls_with img r ops w ≡ calls img r (reverse (take (slots q.params) ops)) (drop (slots q.params) ops) w
  calls_with_is r q ops e f = rw (e, f) refl
