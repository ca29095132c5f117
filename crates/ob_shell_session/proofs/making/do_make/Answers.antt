use Rattle.std.proofs.Common.{◌∙◌, List, Ok, ap, sym, arith}
use Rattle.ob_tree.specs.declared.name.Name.{Name}
use Rattle.ob_shell_session.proofs.Makes.{make_ordered, make_unordered}
use Rattle.ob_shell_session.proofs.making.do_make.Goals as goal

pub returns-in-Ok-clause-does : goal.returns-in-Ok-clause-does
returns-in-Ok-clause-does g c = λ w s h tf to.
    make_ordered c.args.name.now c.as_slice-names.result.now w (g.O.Sink.taken c.args.out.now) (g.O.Sink.taken c.do_turns.new.out) (g.F.Shelf.files c.args.folder.now) _ (g.F.Shelf.files c.do_turns.new.folder) s c.do_turns.result
    (c.in-Ok.ensures.order tf ∙ ap (λ (xs : List Name). Ok xs) (sym c.as_slice-names.ensures)) (c.in-Ok.ensures.files tf) h
    (λ few k. c.do_turns.ensures.does w s (omega (arith, few)) k (c.in-Ok.ensures.told ∙ tf) to)

pub returns-in-Err-clause-does : goal.returns-in-Err-clause-does
returns-in-Err-clause-does g c = λ w s h tf to.
    make_unordered w c.args.name.now c.in-Err.fault (g.O.Sink.tells c.args.out.now) (g.O.Sink.taken c.args.out.now) (g.O.Sink.taken c.refuse_order.new.out) (g.F.Shelf.files c.args.folder.now) _ s c.refuse_order.result (c.in-Err.ensures.order tf) to h (c.in-Err.ensures.files tf) c.refuse_order.ensures.does
