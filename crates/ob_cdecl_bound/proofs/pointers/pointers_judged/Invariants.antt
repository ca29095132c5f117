use Rattle.std.proofs.Common.{◌≡◌, [], drop}
use Rattle.ob_cdecl_scopes.specs.Scopes.{around_of}
use Rattle.ob_rules.specs.Books.{book_after}
use Rattle.ob_rules.specs.Judged.{Notes, no_notes}
use Rattle.ob_rules.specs.Declarations.{judge_pointers}
use Rattle.ob_cdecl_bound.specs.Told.{left_pointers, at_notes}
use Rattle.ob_cdecl_bound.proofs.pointers.pointers_judged.Given as goal

abbrev pub invariant-all : goal.invariant-all
invariant-all g l = (t : Notes) × (l.book ≡ book_after l.fn.book t) × (judge_pointers (around_of g.E.Types.types l.scope) (left_pointers l.all) (left_pointers (drop l.left-index l.all)) (at_notes l.progress t) ≡ judge_pointers (around_of g.E.Types.types l.scope) (left_pointers l.all) (left_pointers l.all) (record { judged = []; unsound = []; through = []; rings = []; notes = no_notes }))
