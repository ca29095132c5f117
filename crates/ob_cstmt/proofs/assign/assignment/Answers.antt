use Rattle.ob_rules.specs.Expressions as exprs
use Rattle.ob_cstmt.proofs.Assignments.{assignment_noted}
use Rattle.ob_cstmt.proofs.assign.assignment.Goals as goal

pub returns-clause-noted : goal.returns-clause-noted
returns-clause-noted g c =
    assignment_noted c.assigns_if.result (g.S.Surroundings.around c.args.here.now) (exprs.named_of c.args.designator.now) c.args.at (exprs.phrase_of c.args.value.now) _ c.in_ok-place.place c.in_ok-x.x c.args.book.now c.assigned_place.new.book c.check_expr.new.book c.assigns_if.new.book
    c.types.ensures.map c.in_ok-place.ensures.made c.in_ok-place.ensures.noted c.in_ok-x.ensures.made c.in_ok-x.ensures.noted c.assigns_if.ensures.noted
