use Rattle.std.proofs.Common.{◌≡◌, ◌+◌, ◌≤◌, drop}
use Rattle.std.specs.Prelude.{min}
use Rattle.ob_layout.specs.Lists.{sum_of}
use Rattle.ob_layout.specs.Used.{used}
use Rattle.ob_layout.proofs.limits.words_of_texts.Given as goal

abbrev pub invariant-texts : goal.invariant-texts
invariant-texts l = (l.total ≤ 4294967296) × (min (l.total + sum_of (λ t. t.words) (used (drop l.text-index l.texts))) 4294967296 ≡ min (sum_of (λ t. t.words) (used l.texts)) 4294967296)
