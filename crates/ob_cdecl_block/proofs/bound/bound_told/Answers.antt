use Rattle.ob_cdecl_scopes.specs.Scopes.{around_of}
use Rattle.ob_rules.specs.Names.{map_of}
use Rattle.ob_rules.specs.Headings.{reversed, forwards_judged}
use Rattle.ob_cdecl_block.proofs.ToldLaws.{bound_around, forwards_noted, bound_noted}
use Rattle.ob_cdecl_block.proofs.bound.bound_told.Goals as goal

pub returns-clause-around : goal.returns-clause-around
returns-clause-around g c = λ n hs e k.
    bound_around c.args.level hs (around_of g.E.Types.types c.args.scope.now) (around_of g.E.Types.types c.bind_at.new.scope) e (c.in_ok-bind_at.ensures.around n (reversed hs.before) k)

pub returns-clause-noted : goal.returns-clause-noted
returns-clause-noted g c = λ n hs e k.
    let t = g.E.Types.types in
    let u = around_of t c.args.scope.now in
    let v = around_of t c.bind_at.new.scope in
    let r = reversed hs.before in
    bound_noted c.args.level c.args.later.now hs u v c.args.book.now c.bind_at.new.book c.all_fields_judged.new.book c.append_notes.new.book e
    (bound_around c.args.level hs u v e (c.in_ok-bind_at.ensures.around n r k))
    (c.in_ok-bind_at.ensures.noted n r k)
    (c.in_ok-all_fields_judged.ensures n hs.before k)
    (c.in_ok-append_notes.ensures (forwards_judged (map_of hs.around) r r) (forwards_noted hs u c.new-forwards.result c.forwards_judged.new.book e c.new-forwards.ensures (c.forwards_judged.ensures n r k)))
