use Rattle.std.proofs.Common.{◌≡◌, ◌≤◌, refl, arith}
use Rattle.ob_types.specs.TypedView.{stmts_view}
use Rattle.ob_gproc.specs.Scoped.{context_of}
use Rattle.ob_gproc.proofs.Counting.{words_behind, row_is}
use Rattle.ob_gproc.proofs.code.put_procedure.Goals as goal

pub overflow_sub-result : goal.overflow_sub-result
overflow_sub-result g c =
    let h = words_behind (context_of (g.T.Types.types c.args.scope.now.types.now) c.args.scope.now.unit.now c.args.parameters.now c.args.locals.now) c.in_ok-slots.slots.total (stmts_view c.args.body.now) c.in_ok-words.words.total c.in_ok-next.next c.in_ok-next.ensures.next in
    omega (arith, h)

pub returns-clause-row : goal.returns-clause-row
returns-clause-row g c =
    row_is (context_of (g.T.Types.types c.args.scope.now.types.now) c.args.scope.now.unit.now c.args.parameters.now c.args.locals.now) (stmts_view c.args.body.now) c.args.outcome.now _ c.place-entry.result c.in_ok-next.next c.in_ok-slots.slots.total c.in_ok-words.words.total _ c.in_ok-params.params c.has_result.result
    c.place-entry.ensures c.in_ok-params.ensures c.in_ok-next.ensures.next c.in_ok-words.ensures.total refl c.has_result.ensures
