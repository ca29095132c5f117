use Rattle.std.proofs.Common.{[], ◌∷◌}
use Rattle.std.proofs.lemmas.Result.{on_ok_weaker}
use Rattle.ob_scheme.specs.Lines.{bare}
use Rattle.ob_scheme.specs.Statements.{word_at, within}
use Rattle.ob_scheme.proofs.Appends.{put_two}
use Rattle.ob_gstmt.proofs.loops.put_word_within.Goals as goal

pub returns : goal.returns
returns g c = on_ok_weaker c.put_within.result (λ h. put_two c.args.code.now c.put_word.new.code c.put_within.new.code (word_at c.args.word) (bare (within (g.S.Scope.context c.args.scope.now) c.args.step.now) ∷ []) c.in_ok-put_word.ensures h) c.put_within.ensures
