use Rattle.std.proofs.Common.{◌≡◌, drop}
use Rattle.ob_rules.specs.Books.{book_after}
use Rattle.ob_rules.specs.Declarations.{all_judged, field_judged}
use Rattle.ob_cdecl_bound.proofs.fields.fields_judged.Given as goal

abbrev pub invariant-left : goal.invariant-left
invariant-left g l = book_after l.book (all_judged (field_judged (g.T.Types.types l.types)) (drop l.one-index l.left)) ≡ book_after l.fn.book (all_judged (field_judged (g.T.Types.types l.types)) l.left)
