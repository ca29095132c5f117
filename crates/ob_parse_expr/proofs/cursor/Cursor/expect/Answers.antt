use Rattle.std.proofs.Common.{sym, ◌∙◌}
use Rattle.ob_parse_expr.proofs.Lefts.{takes, not_took}
use Rattle.ob_parse_expr.proofs.cursor.Cursor.expect.Goals as goal

pub returns-then-eq : goal.returns-then-eq
returns-then-eq c = rw (← c.self.view_is)
    (takes c.args.symbol c.self.inside.next c.in-Some.t c.self.inside.source _ c.in-Some.is (sym c.eq.ensures ∙ c.if-eq.true) c.next_behind-self-inside.ensures)

pub returns-else-eq : goal.returns-else-eq
returns-else-eq c = rw (← c.self.view_is) (not_took c.args.symbol c.self.inside.next c.in-Some.t c.self.inside.source c.in-Some.is (sym c.eq.ensures ∙ c.if-eq.false))
