use Rattle.std.proofs.Common.{◌≡◌, drop, map}
use Rattle.ob_cdecl_scopes.specs.Scopes.{around_of}
use Rattle.ob_rules.specs.Books.{book_after}
use Rattle.ob_cdecl_heading.specs.Kept.{seen}
use Rattle.ob_cdecl_bound.specs.Running.{run, start, put, record_bound}
use Rattle.ob_cdecl_bound.proofs.bindings.bind_records.Given as goal

abbrev pub invariant-names : goal.invariant-names
invariant-names g l = record {
  around : put (around_of g.E.Types.types l.scope) (run (record_bound (map seen l.heads)) (around_of g.E.Types.types l.scope) (start (around_of g.E.Types.types l.scope)) (drop l.name-index l.names)) ≡ put (around_of g.E.Types.types l.fn.scope) (run (record_bound (map seen l.heads)) (around_of g.E.Types.types l.fn.scope) (start (around_of g.E.Types.types l.fn.scope)) l.names);
  notes : book_after l.book (run (record_bound (map seen l.heads)) (around_of g.E.Types.types l.scope) (start (around_of g.E.Types.types l.scope)) (drop l.name-index l.names)).notes ≡ book_after l.fn.book (run (record_bound (map seen l.heads)) (around_of g.E.Types.types l.fn.scope) (start (around_of g.E.Types.types l.fn.scope)) l.names).notes;
}
