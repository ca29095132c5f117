use Rattle.std.proofs.Common.{◌≡◌, ◌++◌, drop, map}
use Rattle.ob_cdecl_scopes.specs.Scopes.{around_of}
use Rattle.ob_rules.specs.Books.{book_after}
use Rattle.ob_rules.specs.Judged.{notes_of}
use Rattle.ob_rules.specs.Expressions.{phrase_of}
use Rattle.ob_rules.specs.Types.{array_length}
use Rattle.ob_cdecl_type.specs.Nested.{lengths_in}
use Rattle.ob_cdecl_type.proofs.arrays.lengths_of.Given as goal

abbrev pub invariant-lengths : goal.invariant-lengths
invariant-lengths g l = record {
  all : l.all.items ++ lengths_in (around_of g.E.Types.types l.scope) (map phrase_of (drop l.e-index l.lengths)) ≡ lengths_in (around_of g.E.Types.types l.scope) (map phrase_of l.lengths);
  notes : book_after l.book (notes_of (map (array_length (around_of g.E.Types.types l.scope)) (map phrase_of (drop l.e-index l.lengths)))) ≡ book_after l.fn.book (notes_of (map (array_length (around_of g.E.Types.types l.scope)) (map phrase_of l.lengths)));
}
