use Rattle.std.proofs.Common.{◌≡◌, drop}
use Rattle.std.specs.Option.{option_copied}
use Rattle.ob_cdecl_scopes.specs.Scopes.{around_of}
use Rattle.ob_rules.specs.Books.{book_after}
use Rattle.ob_cdecl_field.specs.ParameterMakes.{names_declared}
use Rattle.ob_cdecl_field.proofs.params.declare_names.Given as goal

abbrev pub invariant-names : goal.invariant-names
invariant-names g l = record {
  around : (names_declared (around_of g.E.Types.types l.scope) l.mode (option_copied l.of) (drop l.x-index l.names)).around ≡ (names_declared (around_of g.E.Types.types l.fn.scope) l.mode (option_copied l.of) l.names).around;
  notes : book_after l.book (names_declared (around_of g.E.Types.types l.scope) l.mode (option_copied l.of) (drop l.x-index l.names)).notes ≡ book_after l.fn.book (names_declared (around_of g.E.Types.types l.fn.scope) l.mode (option_copied l.of) l.names).notes;
}
