use Rattle.std.proofs.Common.{◌≡◌, drop}
use Rattle.ob_cdecl_scopes.specs.Scopes.{around_of}
use Rattle.ob_rules.specs.Books.{book_after}
use Rattle.ob_rules.specs.Declarations.{imports_declared}
use Rattle.ob_cdecl.proofs.imports.imports_declared.Given as goal

abbrev pub invariant-imports : goal.invariant-imports
invariant-imports g l = record {
  around : (imports_declared (drop l.item-index l.imports) (around_of g.E.Types.types l.scope)).around ≡ (imports_declared l.imports (around_of g.E.Types.types l.fn.scope)).around;
  notes : book_after l.book (imports_declared (drop l.item-index l.imports) (around_of g.E.Types.types l.scope)).part.notes ≡ book_after l.fn.book (imports_declared l.imports (around_of g.E.Types.types l.fn.scope)).part.notes;
}
