use Rattle.std.proofs.Common.{◌≡◌, ◌≤◌, length, take}
use Rattle.std.specs.Prelude.{reverse}
use Rattle.ob_rules.specs.Books.{book_after}
use Rattle.ob_rules.specs.Declarations.{all_judged, field_judged}
use Rattle.ob_cdecl_block.specs.Steps.{kept_later}
use Rattle.ob_cdecl_block.proofs.bound.heads_judged.Given as goal

abbrev pub invariant-heads : goal.invariant-heads
invariant-heads g l = record {
  within : l.i ≤ length l.heads;
  noted : book_after l.book (all_judged (field_judged (g.T.Types.types l.types)) (kept_later (reverse (take l.i l.heads)))) ≡ book_after l.fn.book (all_judged (field_judged (g.T.Types.types l.types)) (kept_later (reverse l.heads)));
}

abbrev pub decreases-heads : goal.decreases-heads
decreases-heads g l = l.i
