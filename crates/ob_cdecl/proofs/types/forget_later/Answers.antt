-- What was left for later goes where the name is taken.
use Rattle.std.proofs.Common.{◌≡◌, sym, ◌∙◌}
use Rattle.ob_cdecl_scopes.specs.Scopes.{around_of}
use Rattle.ob_cdecl.proofs.BookJoins.{forgets}
use Rattle.ob_cdecl.proofs.types.forget_later.Goals as goal

pub returns-then-is_known_in_scope : goal.returns-then-is_known_in_scope
returns-then-is_known_in_scope g c = λ n e.
    forgets (around_of g.E.Types.types c.args.scope.now) c.args.x.now c.args.notes.now c.take_later.new.book n e (sym c.is_known_in_scope.ensures ∙ c.if-is_known_in_scope.true) c.take_later.ensures.left
