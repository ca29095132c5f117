use Rattle.std.proofs.Common.{◌≡◌, drop, map}
use Rattle.ob_rules.specs.Books.{book_after}
use Rattle.ob_rules.specs.Headings.{forwards_judged}
use Rattle.ob_cdecl_heading.specs.Kept.{seen}
use Rattle.ob_cdecl_heading.proofs.forwards.judge_forwards.Given as goal

abbrev pub invariant-heads : goal.invariant-heads
invariant-heads g l = book_after l.book (forwards_judged (g.T.Types.types l.types) (map seen l.heads) (map seen (drop l.head-index l.heads))) ≡ book_after l.fn.book (forwards_judged (g.T.Types.types l.types) (map seen l.heads) (map seen l.heads))
