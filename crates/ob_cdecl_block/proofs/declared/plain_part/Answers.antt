use Rattle.ob_cdecl_scopes.specs.Scopes.{around_of}
use Rattle.ob_rules.specs.Declarations.{nothing_later}
use Rattle.ob_cdecl.specs.Order.{plain_in_order}
use Rattle.ob_cdecl_block.proofs.ToldLaws.{plain_taken, plain_later}
use Rattle.ob_cdecl_block.proofs.declared.plain_part.Goals as goal

pub returns-clause-noted : goal.returns-clause-noted
returns-clause-noted g c =
    let n = (plain_in_order c.args.decls.now (around_of g.E.Types.types c.args.scope.now)).part.notes in
    c.in_ok-append_notes.ensures (nothing_later n) (plain_taken c.new-plain.result c.plain_in_order.new.book c.take_later-later.new.book n c.new-plain.ensures c.in_ok-plain_in_order.ensures.noted c.take_later-later.ensures.left)

pub returns-clause-later : goal.returns-clause-later
returns-clause-later g c =
    let n = (plain_in_order c.args.decls.now (around_of g.E.Types.types c.args.scope.now)).part.notes in
    plain_later c.new-plain.result c.plain_in_order.new.book n c.take_later-later.result c.new-plain.ensures c.in_ok-plain_in_order.ensures.noted c.take_later-later.ensures.taken
