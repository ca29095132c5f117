use Rattle.std.proofs.Common.{◌≡◌, drop}
use Rattle.ob_cdecl_scopes.specs.Scopes.{around_of}
use Rattle.ob_rules.specs.Books.{book_after}
use Rattle.ob_rules.specs.Declarations.{together}
use Rattle.ob_cdecl.specs.Seen.{contents_of}
use Rattle.ob_cdecl.specs.Growing.{Grows}
use Rattle.ob_cdecl.specs.Order.{plain_in_order}
use Rattle.ob_cdecl.proofs.order.plain_in_order.Given as goal

abbrev pub invariant-declarations : goal.invariant-declarations
invariant-declarations g l = record {
  around : (plain_in_order (drop l.d-index l.decls) (around_of g.E.Types.types l.scope)).around ≡ (plain_in_order l.decls (around_of g.E.Types.types l.fn.scope)).around;
  notes : book_after l.book (plain_in_order (drop l.d-index l.decls) (around_of g.E.Types.types l.scope)).part.notes ≡ book_after l.fn.book (plain_in_order l.decls (around_of g.E.Types.types l.fn.scope)).part.notes;
  contents : together (contents_of l.contents) (plain_in_order (drop l.d-index l.decls) (around_of g.E.Types.types l.scope)).part.contents ≡ together (contents_of l.fn.contents) (plain_in_order l.decls (around_of g.E.Types.types l.fn.scope)).part.contents;
  grows : Grows (around_of g.E.Types.types l.fn.scope) (around_of g.E.Types.types l.scope);
}
