use Rattle.std.proofs.Common.{◌≡◌, drop, map}
use Rattle.std.specs.List.{find}
use Rattle.ob_rules.specs.Headings.{answers}
use Rattle.ob_cdecl_heading.specs.Kept.{seen}
use Rattle.ob_cdecl_heading.proofs.forwards.answer_of.Given as goal

abbrev pub invariant-heads : goal.invariant-heads
invariant-heads l = find (answers (seen l.forward)) (map seen l.heads) ≡ find (answers (seen l.forward)) (map seen (drop l.head-index l.heads))
