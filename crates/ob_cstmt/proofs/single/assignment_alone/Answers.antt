use Rattle.std.proofs.Common.{◌≡◌}
use Rattle.ob_rules.specs.Books.{book_after}
use Rattle.ob_rules.specs.Expressions as exprs
use Rattle.ob_rules.specs.Statements as spec
use Rattle.ob_cstmt.proofs.Steps.{alone_made, always}
use Rattle.ob_cstmt.proofs.single.assignment_alone.Goals as goal

pub returns-clause-made : goal.returns-clause-made
returns-clause-made g c = alone_made c.alone.result _ _ c.alone.ensures c.in_ok-made.ensures.made

pub returns-clause-noted : goal.returns-clause-noted
returns-clause-noted g c =
    let u = g.S.Surroundings.around c.args.here.now in
    always {P = c.assignment.new.book ≡ book_after c.args.book.now (spec.assignment u (exprs.named_of c.args.target.now) c.args.at (exprs.phrase_of c.args.value.now)).notes} c.alone.result c.in_ok-made.ensures.noted
