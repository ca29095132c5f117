-- What the rows of calls do, in the order in which the code looks at them.
use Rattle.std.proofs.Common.{◌≡◌, ℕ, ◌+◌, ◌<◌, ◌≤◌, true, false, List, length, take, drop, Some, ap, ◌∙◌, arith}
use Rattle.std.specs.Prelude.{ℤ, reverse, nat_le, if◌then◌else◌}
use Rattle.std.proofs.lemmas.Bool.Decides.{nat_tests}
use Rattle.std.proofs.lemmas.List.{length-reverse, reverse-reverse}
use Rattle.ob_tree.specs.declared.proc_ref.ProcRef.{ProcRef}
use Rattle.ob_instr.specs.declared.procedure.Procedure.{Procedure}
use Rattle.ob_instr.specs.Parts.{slots}
use Rattle.ob_instr.specs.Image.{Image, World}
use Rattle.ob_instr.specs.Rows.{Effect, Unable, on_found, on_args, calls, calls_with, procedure_of}
use Rattle.ob_machine_calls.proofs.Parts.{last_ones, first_ones}

-- a number of operands that are there
pub args_there : (xs : List ℤ) (n from : ℕ) (k : List ℤ → List ℤ → Effect) → from + n ≡ length xs → on_args n (reverse xs) k ≡ k (reverse (take n (reverse xs))) (drop n (reverse xs))
args_there xs n from k e =
    let le : n ≤ length (reverse xs) = omega (arith, length-reverse xs) in
    let t : nat_le n (length (reverse xs)) ≡ true = grind (arith, nat_tests) in
    ap (λ b. if b then k (reverse (take n (reverse xs))) (drop n (reverse xs)) else Unable) t

pub args_are : (xs : List ℤ) (n from : ℕ) (k : List ℤ → List ℤ → Effect) → from + n ≡ length xs → on_args n (reverse xs) k ≡ k (drop from xs) (reverse (take from xs))
args_are xs n from k e = args_there xs n from k e ∙ ap (λ l. k (reverse l) (drop n (reverse xs))) (last_ones xs n from e) ∙ ap (λ l. k l (drop n (reverse xs))) (reverse-reverse (drop from xs)) ∙ ap (k (drop from xs)) (first_ones xs n from e)

pub args_missing : (xs : List ℤ) (n : ℕ) (k : List ℤ → List ℤ → Effect) → length xs < n → on_args n (reverse xs) k ≡ Unable
args_missing xs n k lt =
    let r = length-reverse xs in
    let t : nat_le n (length (reverse xs)) ≡ false = grind (arith, nat_tests) in
    ap (λ b. if b then k (reverse (take n (reverse xs))) (drop n (reverse xs)) else Unable) t

pub with_is : (img : Image) (r : ProcRef) (q : Procedure) (xs : List ℤ) (n from : ℕ) (w : World) → procedure_of img r ≡ Some q → n ≡ slots q.params → from + n ≡ length xs → calls_with img r (reverse xs) w ≡ calls img r (drop from xs) (reverse (take from xs)) w
with_is img r q xs n from w ep en e =
    let args = args_are xs (slots q.params) from (λ args rest. calls img r args rest w) (omega arith) in
    ap (λ o. on_found o (λ p. on_args (slots p.params) (reverse xs) (λ args rest. calls img r args rest w))) ep ∙ args
