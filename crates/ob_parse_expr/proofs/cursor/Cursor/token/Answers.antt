use Rattle.std.proofs.Common.{sym, ◌∙◌}
use Rattle.ob_parse_expr.proofs.Lefts.{took, not_took}
use Rattle.ob_parse_expr.proofs.cursor.Cursor.token.Goals as goal

pub returns-then-eq-clause-value : goal.returns-then-eq-clause-value
returns-then-eq-clause-value c = rw (← c.self.view_is)
    (took c.args.symbol c.self.inside.next c.in-Some.t c.self.inside.source _ c.in-Some.is (sym c.eq.ensures ∙ c.if-eq.true) c.go_on.ensures)

pub returns-else-eq-clause-value : goal.returns-else-eq-clause-value
returns-else-eq-clause-value c = rw (← c.self.view_is) (not_took c.args.symbol c.self.inside.next c.in-Some.t c.self.inside.source c.in-Some.is (sym c.eq.ensures ∙ c.if-eq.false))
