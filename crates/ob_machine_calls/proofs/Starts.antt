-- What the rows of calls do where their last operands begin at a place.
use Rattle.std.proofs.Common.{◌≡◌, ℕ, zero, suc, ◌+◌, ◌-◌, ◌<◌, ◌≤◌, Bool, true, false, List, [], ◌∷◌, ◌++◌, length, take, drop, get_or, Option, Some, None, refl, sym, ap, ◌∙◌, arith}
use Rattle.std.specs.Prelude.{ℤ, pos, negsuc, reverse, nat_le, if◌then◌else◌, slice_get}
use Rattle.std.proofs.lemmas.Bool.Decides.{nat_tests}
use Rattle.std.proofs.lemmas.Option.{slice_get_within, get_or_from_slice_get}
use Rattle.std.proofs.lemmas.List.{take_all, take_more, drop_more, reverse-append}
use Rattle.ob_trap.specs.declared.trap.Trap.TheVariants as trap
use Rattle.ob_tree.specs.declared.proc_ref.ProcRef.{ProcRef}
use Rattle.ob_instr.specs.Image.{Image, World}
use Rattle.ob_instr.specs.Rows.{Effect, Traps, Unable, on_found, on_count, on_args, on_one, on_receiver, on_tag, is_zero, calls, proc_of_value, tag_method, pointer_method}
use Rattle.ob_machine_calls.specs.Starts.{start_of}
use Rattle.ob_machine_calls.proofs.Operands.{args_are, args_missing}

split : (xs : List ℤ) (n : ℕ) (k : List ℤ → List ℤ → Effect) (b : Bool) → nat_le n (length xs) ≡ b → on_args n (reverse xs) k ≡ on_found (if b then Some (length xs - n) else None) (λ from. k (drop from xs) (reverse (take from xs)))
split xs n k true e =
    let le : n ≤ length xs = grind (arith, nat_tests) in
    args_are xs n (length xs - n) k (omega arith)
split xs n k false e =
    let lt : length xs < n = grind (arith, nat_tests) in
    args_missing xs n k lt

-- so many operands and some more, from where they begin
pub counted : (xs : List ℤ) (a : ℤ) (more : ℕ) (f : ℕ → ℕ) (k : List ℤ → List ℤ → Effect) → ((n : ℕ) → f n ≡ more + n) → on_count a (λ n. on_args (f n) (reverse xs) k) ≡ on_found (start_of (length xs) a more) (λ from. k (drop from xs) (reverse (take from xs)))
counted xs (pos n) more f k h = ap (λ j. on_args j (reverse xs) k) (h n) ∙ split xs (more + n) k (nat_le (more + n) (length xs)) refl
counted xs (negsuc n) more f k h = refl

pub first_one : (xs : List ℤ) (i : ℕ) (x : ℤ) → slice_get xs i ≡ Some x → drop i xs ≡ x ∷ drop (i + 1) xs
first_one xs i x e = drop_more xs i x (slice_get_within xs i x e) ∙ ap (λ y. y ∷ drop (i + 1) xs) (get_or_from_slice_get xs i x x e)

pub last_one : (xs : List ℤ) (i : ℕ) (x : ℤ) → slice_get xs i ≡ Some x → reverse (take (i + 1) xs) ≡ x ∷ reverse (take i xs)
last_one xs i x e = ap reverse (take_more xs i x (slice_get_within xs i x e) ∙ ap (λ y. take i xs ++ y ∷ []) (get_or_from_slice_get xs i x x e)) ∙ reverse-append (take i xs) (x ∷ [])

pub from_start : (xs : List ℤ) (a : ℤ) (more : ℕ) (f : ℕ → ℕ) (k : List ℤ → List ℤ → Effect) (o : Option ℕ) (e : Effect) → ((n : ℕ) → f n ≡ more + n) → o ≡ start_of (length xs) a more → on_found o (λ from. k (drop from xs) (reverse (take from xs))) ≡ e → on_count a (λ n. on_args (f n) (reverse xs) k) ≡ e
from_start xs a more f k o e h eo ee = counted xs a more f k h ∙ ap (λ p. on_found p (λ from. k (drop from xs) (reverse (take from xs)))) (sym eo) ∙ ee

pub last_is : (xs : List ℤ) (i : ℕ) (v : ℤ) (k : ℤ → Effect) → i + 1 ≡ length xs → slice_get xs i ≡ Some v → on_one (reverse xs) (λ x rest. k x) ≡ k v
last_is xs i v k ei ev =
    let whole : reverse xs ≡ v ∷ reverse (take i xs) = ap reverse (sym (take_all (i + 1) xs (omega (arith, ei)))) ∙ last_one xs i v ev in
    ap (λ l. on_one l (λ x rest. k x)) whole

pub none_is : (xs : List ℤ) (k : ℤ → Effect) → length xs ≡ 0 → on_one (reverse xs) (λ x rest. k x) ≡ Unable
none_is [] k e = refl
none_is (x ∷ xs) k e = absurd (omega (arith, e))

not_zero : (v : ℤ) → (v ≡ pos 0 → ⊥) → is_zero v ≡ false
not_zero (pos zero) n = absurd (n refl)
not_zero (pos (suc z)) n = refl
not_zero (negsuc z) n = refl

-- VALUES

module _ (img : Image) (xs : List ℤ) (w : World) where
  abbrev value_part : List ℤ → List ℤ → Effect
  value_part args rest = on_one rest (λ v below. if is_zero v then Traps trap.Nil (pos 0) w else on_found (proc_of_value v) (λ r. calls img r args below w))

  pub value_found : (a : ℤ) (from below : ℕ) (v : ℤ) → Some from ≡ start_of (length xs) a 0 → from ≡ below + 1 → slice_get xs below ≡ Some v → on_count a (λ n. on_args n (reverse xs) (λ args rest. on_one rest (λ v below. if is_zero v then Traps trap.Nil (pos 0) w else on_found (proc_of_value v) (λ r. calls img r args below w)))) ≡ (if is_zero v then Traps trap.Nil (pos 0) w else on_found (proc_of_value v) (λ r. calls img r (drop from xs) (reverse (take below xs)) w))
  value_found a from below v e eb ev =
      let ops : reverse (take from xs) ≡ v ∷ reverse (take below xs) = ap (λ k. reverse (take k xs)) eb ∙ last_one xs below v ev in
      from_start xs a 0 (λ n. n) value_part (Some from) (if is_zero v then Traps trap.Nil (pos 0) w else on_found (proc_of_value v) (λ r. calls img r (drop from xs) (reverse (take below xs)) w)) (λ n. omega arith) e (ap (value_part (drop from xs)) ops)

  pub value_called : (a : ℤ) (from below : ℕ) (v : ℤ) (o : Option ProcRef) → Some from ≡ start_of (length xs) a 0 → from ≡ below + 1 → slice_get xs below ≡ Some v → (v ≡ pos 0 → ⊥) → o ≡ proc_of_value v → on_count a (λ n. on_args n (reverse xs) (λ args rest. on_one rest (λ v below. if is_zero v then Traps trap.Nil (pos 0) w else on_found (proc_of_value v) (λ r. calls img r args below w)))) ≡ on_found o (λ r. calls img r (drop from xs) (reverse (take below xs)) w)
  value_called a from below v o e eb ev n eo = value_found a from below v e eb ev ∙ ap (λ b. if b then Traps trap.Nil (pos 0) w else on_found (proc_of_value v) (λ r. calls img r (drop from xs) (reverse (take below xs)) w)) (not_zero v n) ∙ ap (λ o. on_found o (λ r. calls img r (drop from xs) (reverse (take below xs)) w)) (sym eo)

  -- POINTERS

  abbrev pointer_part : ℤ → List ℤ → List ℤ → Effect
  pointer_part number args rest = on_receiver args (λ x. if is_zero x then Traps trap.Nil (pos 0) w else pointer_method img w x number (λ r. calls img r args rest w))

  pub pointer_found : (b number : ℤ) (from : ℕ) (x : ℤ) → Some from ≡ start_of (length xs) b 1 → slice_get xs from ≡ Some x → on_count b (λ n. on_args (suc n) (reverse xs) (λ args rest. on_receiver args (λ x. if is_zero x then Traps trap.Nil (pos 0) w else pointer_method img w x number (λ r. calls img r args rest w)))) ≡ (if is_zero x then Traps trap.Nil (pos 0) w else pointer_method img w x number (λ r. calls img r (drop from xs) (reverse (take from xs)) w))
  pointer_found b number from x e ex =
      let rest = reverse (take from xs) in
      let args : drop from xs ≡ x ∷ drop (from + 1) xs = first_one xs from x ex in
      let at : on_receiver (drop from xs) (λ y. if is_zero y then Traps trap.Nil (pos 0) w else pointer_method img w y number (λ r. calls img r (drop from xs) rest w)) ≡ (if is_zero x then Traps trap.Nil (pos 0) w else pointer_method img w x number (λ r. calls img r (drop from xs) rest w)) = ap (λ l. on_receiver l (λ y. if is_zero y then Traps trap.Nil (pos 0) w else pointer_method img w y number (λ r. calls img r (drop from xs) rest w))) args in
      from_start xs b 1 suc (pointer_part number) (Some from) (if is_zero x then Traps trap.Nil (pos 0) w else pointer_method img w x number (λ r. calls img r (drop from xs) rest w)) (λ n. omega arith) e at

  pub pointer_called : (b number : ℤ) (from : ℕ) (x : ℤ) (o : Option ProcRef) → Some from ≡ start_of (length xs) b 1 → slice_get xs from ≡ Some x → (x ≡ pos 0 → ⊥) → ((k : ProcRef → Effect) → pointer_method img w x number k ≡ on_found o k) → on_count b (λ n. on_args (suc n) (reverse xs) (λ args rest. on_receiver args (λ x. if is_zero x then Traps trap.Nil (pos 0) w else pointer_method img w x number (λ r. calls img r args rest w)))) ≡ on_found o (λ r. calls img r (drop from xs) (reverse (take from xs)) w)
  pointer_called b number from x o e ex n eo = pointer_found b number from x e ex ∙ ap (λ b. if b then Traps trap.Nil (pos 0) w else pointer_method img w x number (λ r. calls img r (drop from xs) (reverse (take from xs)) w)) (not_zero x n) ∙ eo (λ r. calls img r (drop from xs) (reverse (take from xs)) w)

  -- RECORDS

  abbrev record_part : ℤ → List ℤ → List ℤ → Effect
  record_part number args rest = on_tag args (λ g. on_found (tag_method img g number) (λ r. calls img r args rest w))

  tagged : (xs : List ℤ) (i : ℕ) (g : ℤ) (k : ℤ → Effect) → slice_get xs (i + 1) ≡ Some g → on_tag (drop i xs) k ≡ k g
  tagged xs i g k e =
      let lt = slice_get_within xs (i + 1) g e in
      ap (λ l. on_tag l k) (drop_more xs i g (omega (arith, lt)) ∙ ap (λ l. get_or xs i g ∷ l) (first_one xs (i + 1) g e))

  pub record_found : (b number : ℤ) (from : ℕ) (g : ℤ) → Some from ≡ start_of (length xs) b 2 → slice_get xs (from + 1) ≡ Some g → on_count b (λ n. on_args (suc (suc n)) (reverse xs) (λ args rest. on_tag args (λ g. on_found (tag_method img g number) (λ r. calls img r args rest w)))) ≡ on_found (tag_method img g number) (λ r. calls img r (drop from xs) (reverse (take from xs)) w)
  record_found b number from g e eg =
      from_start xs b 2 (λ n. suc (suc n)) (record_part number) (Some from) (on_found (tag_method img g number) (λ r. calls img r (drop from xs) (reverse (take from xs)) w)) (λ n. omega arith) e (tagged xs from g (λ g. on_found (tag_method img g number) (λ r. calls img r (drop from xs) (reverse (take from xs)) w)) eg)
