use Rattle.std.proofs.Common.{[], ◌∷◌}
use Rattle.std.proofs.lemmas.Result.{on_ok_weaker}
use Rattle.ob_instr.specs.declared.opcode.Opcode.TheVariants as op
use Rattle.ob_scheme.specs.Lines.{Number, plain, bare, jump_if_false}
use Rattle.ob_scheme.specs.Statements.{word_at}
use Rattle.ob_scheme.proofs.Appends.{put_two}
use Rattle.ob_gstmt.proofs.choices.put_bound.Goals as goal

pub returns : goal.returns
returns c = on_ok_weaker c.put_compared.result (λ h. put_two c.args.code.now c.put_word.new.code c.put_compared.new.code (word_at c.args.word) (plain op.Int (Number c.args.bound.now) ∷ bare c.args.op ∷ jump_if_false c.args.next ∷ []) c.in_ok-put_word.ensures h) c.put_compared.ensures
