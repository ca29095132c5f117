-- The forms of the example of matching procedure types, worked out.
use Rattle.std.proofs.Common.{refl}
use Rattle.law_simulation.specs.Matching.{TypesMatch}

pub matching : TypesMatch
matching = (refl, λ e. absurd cc)
