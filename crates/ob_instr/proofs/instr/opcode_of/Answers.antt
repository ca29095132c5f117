use Rattle.std.proofs.Common.{◌≡◌, ◌<◌, ◌≤◌, ◌-◌, suc, zero, ℕ, Some, None, get_or, refl, sym, arith}
use Rattle.std.proofs.lemmas.Option.{slice_get_past, slice_get-get_or}
use Rattle.ob_instr.specs.declared.opcode.Opcode.TheVariants.{Int}
use Rattle.ob_instr.specs.declared.opcode.TheConstants.{OPCODES}
use Rattle.ob_instr.specs.Spelling.{opcode_at}
use Rattle.ob_instr.proofs.instr.opcode_of.Goals as goal

past : (n : ℕ) → 71 < n → opcode_at n ≡ None
past zero lt = refl
past (suc n) lt = slice_get_past OPCODES n (omega arith)

within : (n : ℕ) → 0 < n → n ≤ 71 → Some (get_or OPCODES (n - 1) Int) ≡ opcode_at n
within zero lt le = absurd (omega arith)
within (suc n) lt le =
    let e : suc n - 1 ≡ n = omega arith in
    rw e (sym (slice_get-get_or OPCODES n Int (omega arith)))

pub returns : goal.returns
returns c = within c.args.byte (omega arith) (omega arith)

none : (n : ℕ) → n < 1 → None ≡ opcode_at n
none zero lt = refl
none (suc n) lt = absurd (omega arith)

pub returns-then-byte-lt1 : goal.returns-then-byte-lt1
returns-then-byte-lt1 c = none c.args.byte c.if-byte-lt1.true

pub returns-then-byte-gt71 : goal.returns-then-byte-gt71
returns-then-byte-gt71 c = sym (past c.args.byte c.if-byte-gt71.true)
