use Rattle.std.proofs.Common.{◌+◌, drop, arith}
use Rattle.ob_cdecl_scopes.specs.Scopes.{around_of}
use Rattle.ob_cdecl_field.proofs.LoopLaws.{step_at, end_at}
use Rattle.ob_cdecl_block.specs.Steps.{headings}
use Rattle.ob_cdecl_block.proofs.HeadingLaws.{headings_begin, headings_more, headings_end_around, headings_end_kept}
use Rattle.ob_cdecl_block.proofs.declared.headings_told.Goals as goal

pub declarations-init : goal.declarations-init
declarations-init g c = headings_begin c.args.decls.now (around_of g.E.Types.types c.args.scope.now) c.new-heads.result c.new-heads.ensures

pub declarations-preserved : goal.declarations-preserved
declarations-preserved g c =
    let t = g.E.Types.types in
    let xs = c.args.decls.now in
    let i = c.declarations.d-index in
    headings_more (headings xs (around_of t c.args.scope.now)) c.d-item.result (drop (i + 1) xs) (drop i xs) (around_of t c.declarations.scope) (around_of t c.add_heading_if.new.scope) c.declarations.heads c.add_heading_if.new.heads
    (step_at xs i c.d-item.result (omega arith) c.d-item.is) c.declarations.invariant
    c.in_ok-add_heading_if.ensures.around
    c.in_ok-add_heading_if.ensures.heads

pub returns-clause-around : goal.returns-clause-around
returns-clause-around g c =
    let xs = c.args.decls.now in
    headings_end_around (headings xs (around_of g.E.Types.types c.args.scope.now)) (drop c.declarations.d-index xs) (around_of g.E.Types.types c.declarations.scope) c.declarations.heads (end_at xs c.declarations.d-index (omega arith)) c.declarations.invariant

pub returns-clause-heads : goal.returns-clause-heads
returns-clause-heads g c =
    let xs = c.args.decls.now in
    headings_end_kept xs (around_of g.E.Types.types c.args.scope.now) (drop c.declarations.d-index xs) (around_of g.E.Types.types c.declarations.scope) c.declarations.heads (end_at xs c.declarations.d-index (omega arith)) c.declarations.invariant
