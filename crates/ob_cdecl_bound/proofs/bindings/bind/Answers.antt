use Rattle.ob_cdecl_scopes.specs.Scopes.{around_of}
use Rattle.ob_cdecl_bound.proofs.Bare.{around_bound, notes_bound}
use Rattle.ob_cdecl_bound.proofs.bindings.bind.Goals as goal

pub returns-clause-around : goal.returns-clause-around
returns-clause-around g c = λ n hs k. around_bound (around_of g.E.Types.types c.args.scope.now) (around_of g.E.Types.types c.bind_all.new.scope) n c.args.heads.now hs k c.in_ok-bind_all.ensures.around

pub returns-clause-noted : goal.returns-clause-noted
returns-clause-noted g c = λ n hs k. notes_bound (around_of g.E.Types.types c.args.scope.now) n c.args.heads.now hs c.args.book.now c.bind_all.new.book k c.in_ok-bind_all.ensures.noted
