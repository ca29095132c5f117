use Rattle.std.proofs.Common.{◌≡◌, drop, map}
use Rattle.ob_cdecl_scopes.specs.Scopes.{around_of}
use Rattle.ob_rules.specs.Books.{book_after}
use Rattle.ob_cdecl_heading.specs.Kept.{seen}
use Rattle.ob_cdecl_bound.specs.Running.{run, start, put, chosen}
use Rattle.ob_cdecl_bound.proofs.bindings.bind_record.Given as goal

abbrev pub invariant-heads : goal.invariant-heads
invariant-heads g l = record {
  around : put (around_of g.E.Types.types l.scope) (run (chosen (map seen l.heads) l.name) (around_of g.E.Types.types l.scope) (start (around_of g.E.Types.types l.scope)) (map seen (drop l.head-index l.heads))) ≡ put (around_of g.E.Types.types l.fn.scope) (run (chosen (map seen l.heads) l.name) (around_of g.E.Types.types l.fn.scope) (start (around_of g.E.Types.types l.fn.scope)) (map seen l.heads));
  notes : book_after l.book (run (chosen (map seen l.heads) l.name) (around_of g.E.Types.types l.scope) (start (around_of g.E.Types.types l.scope)) (map seen (drop l.head-index l.heads))).notes ≡ book_after l.fn.book (run (chosen (map seen l.heads) l.name) (around_of g.E.Types.types l.fn.scope) (start (around_of g.E.Types.types l.fn.scope)) (map seen l.heads)).notes;
}
