use Rattle.ob_rules.specs.Expressions as spec
use Rattle.ob_cexpr.proofs.ConstantLaws.{constant_node, constant_noted}
use Rattle.ob_cexpr.proofs.walk.check_constant.Goals as goal

pub returns-clause-made : goal.returns-clause-made
returns-clause-made g c =
    constant_node (g.S.Surroundings.around c.args.here.now) (spec.phrase_of c.args.e.now) c.start_of.result c.in_ok-x.x c.is_quiet-quiet.result c.args.book.now c.set_aside-before.new.self c.check_expr.new.book _ c.set_aside-before.ensures.aside c.in_ok-x.ensures.noted c.in_ok-x.ensures.made c.is_quiet-quiet.ensures c.start_of.ensures c.constant_if.ensures.made

pub returns-clause-noted : goal.returns-clause-noted
returns-clause-noted g c =
    constant_noted (g.S.Surroundings.around c.args.here.now) (spec.phrase_of c.args.e.now) c.start_of.result c.in_ok-x.x c.is_quiet-quiet.result c.set_aside-before.result c.args.book.now c.set_aside-before.new.self c.check_expr.new.book c.put_back.new.self _ c.set_aside-before.ensures.aside c.in_ok-x.ensures.noted c.in_ok-x.ensures.made c.is_quiet-quiet.ensures c.set_aside-before.ensures.broken c.put_back.ensures c.start_of.ensures c.constant_if.ensures.noted
