use Rattle.std.proofs.Common.{◌≡◌, drop}
use Rattle.std.specs.Option.{option_copied}
use Rattle.ob_cdecl_scopes.specs.Scopes.{around_of}
use Rattle.ob_rules.specs.Books.{book_after}
use Rattle.ob_rules.specs.Declarations.{together, variables_with}
use Rattle.ob_cdecl.specs.Seen.{contents_of}
use Rattle.ob_cdecl.specs.Order.{typing_only}
use Rattle.ob_cdecl.proofs.variables.variables_with.Given as goal

abbrev pub invariant-names : goal.invariant-names
invariant-names g l = record {
  around : (variables_with (drop l.d-index l.names) (typing_only (option_copied l.of)) (around_of g.E.Types.types l.scope)).around ≡ (variables_with l.names (typing_only (option_copied l.of)) (around_of g.E.Types.types l.fn.scope)).around;
  notes : book_after l.book (variables_with (drop l.d-index l.names) (typing_only (option_copied l.of)) (around_of g.E.Types.types l.scope)).part.notes ≡ book_after l.fn.book (variables_with l.names (typing_only (option_copied l.of)) (around_of g.E.Types.types l.fn.scope)).part.notes;
  contents : together (contents_of l.contents) (variables_with (drop l.d-index l.names) (typing_only (option_copied l.of)) (around_of g.E.Types.types l.scope)).part.contents ≡ together (contents_of l.fn.contents) (variables_with l.names (typing_only (option_copied l.of)) (around_of g.E.Types.types l.fn.scope)).part.contents;
}
