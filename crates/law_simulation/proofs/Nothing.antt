-- How many words are all 0.
use Rattle.std.proofs.Common.{◌≡◌, ℕ, length}
use Rattle.std.specs.Prelude.{pos}
use Rattle.std.proofs.lemmas.List.{length-replicate}
use Rattle.law_simulation.specs.Nothing.{none}

pub none_length : (n : ℕ) → length (none n) ≡ n
unfolding none
none_length n = length-replicate n (pos 0)
