use Rattle.std.proofs.Common.{sym, ◌∙◌}
use Rattle.ob_shell_lines.proofs.Limits.{next_stops, next_goes_on}
use Rattle.ob_shell_lines.proofs.lines.next_line.Goals as goal

pub returns-then-passes-clause-stops : goal.returns-then-passes-clause-stops
returns-then-passes-clause-stops c = λ more b.
    next_stops c.args.total c.args.rest.now c.first_line.result.0.now c.first_line.result.1.now more c.requires.part c.first_line.ensures.line b (sym c.passes.ensures ∙ c.if-passes.true)

pub returns-clause-goes_on : goal.returns-clause-goes_on
returns-clause-goes_on c = λ more b.
    next_goes_on c.args.total c.args.rest.now c.first_line.result.0.now c.first_line.result.1.now more c.requires.part c.first_line.ensures.line b (sym c.passes.ensures ∙ c.if-passes.false)
