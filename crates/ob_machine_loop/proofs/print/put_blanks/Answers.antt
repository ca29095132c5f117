use Rattle.std.proofs.Common.{◌∙◌}
use Rattle.std.proofs.lemmas.Result.{err_from_is_err_and}
use Rattle.ob_machine_loop.proofs.Blanks.{blanks_front}
use Rattle.ob_machine_loop.proofs.print.put_blanks.Goals as goal

pub returns-in_err-write_all-clause-bytes : goal.returns-in_err-write_all-clause-bytes
returns-in_err-write_all-clause-bytes g c =
    let p = err_from_is_err_and c.from_residual.result c.from_residual.ensures.1 in
    rw p.1 (λ tells. blanks_front _ _ _ c.loop.counter _ (c.loop.invariant.1 tells) c.loop-test.true (c.in_err-write_all.ensures.bytes (c.loop.invariant.0 ∙ tells)))
