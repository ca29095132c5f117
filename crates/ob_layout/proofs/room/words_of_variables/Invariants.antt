use Rattle.std.proofs.Common.{◌≡◌, ◌+◌, ◌≤◌, drop}
use Rattle.std.specs.Prelude.{min}
use Rattle.ob_layout.specs.Lists.{sum_of}
use Rattle.ob_layout.specs.Words.{words_of}
use Rattle.ob_layout.proofs.room.words_of_variables.Given as goal

abbrev pub invariant-variables : goal.invariant-variables
invariant-variables g l = (l.total ≤ 4294967296) × (min (l.total + sum_of (λ v. words_of (g.T.Types.types l.types) v.of) (drop l.variable-index l.variables)) 4294967296 ≡ min (sum_of (λ v. words_of (g.T.Types.types l.types) v.of) l.variables) 4294967296)
