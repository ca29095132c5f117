use Rattle.std.proofs.Common.{◌≡◌, ◌-◌, ◌≤◌, length, drop}
use Rattle.ob_scan.specs.Vocabulary.{is_text}
use Rattle.ob_scan.proofs.words.is_text.Given as goal

abbrev pub invariant-same : goal.invariant-same
invariant-same l = record { within : l.n ≤ length l.text; so_far : is_text l.text l.word ≡ is_text (drop l.n l.text) (drop l.n l.word) }

abbrev pub decreases-same : goal.decreases-same
decreases-same l = length l.text - l.n
