use Rattle.std.proofs.Common.{◌≡◌, drop}
use Rattle.std.specs.List.{list_any}
use Rattle.ob_layout.specs.Words.{most_words}
use Rattle.ob_layout.specs.Room.{above, bound_procedures}
use Rattle.ob_layout.proofs.limits.has_large_table.Given as goal

abbrev pub invariant-types : goal.invariant-types
invariant-types l = list_any (λ t. above most_words (bound_procedures t.desc)) (drop l.of-index l.all) ≡ list_any (λ t. above most_words (bound_procedures t.desc)) l.all
