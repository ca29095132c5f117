use Rattle.std.proofs.Common.{drop}
use Rattle.ob_cdecl_scopes.specs.Scopes.{around_of}
use Rattle.ob_cdecl_block.specs.Steps.{headings}
use Rattle.ob_cdecl_block.proofs.HeadingLaws.{HeadingsSo}
use Rattle.ob_cdecl_block.proofs.declared.headings_told.Given as goal

abbrev pub invariant-declarations : goal.invariant-declarations
invariant-declarations g l = HeadingsSo (headings l.decls (around_of g.E.Types.types l.fn.scope)) (drop l.d-index l.decls) (around_of g.E.Types.types l.scope) l.heads
