-- Bases of record types that are there.
use Rattle.std.specs.Prelude.{ℕ, suc, ◌<◌, List, [], ◌∷◌, IfSome}
use Rattle.ob_obj.specs.declared.parts.RecordType.{RecordType}
use Rattle.ob_obj.specs.Images.{base_number}

-- The base of each of the types of a module has a number below its own. The own types have the numbers
-- from one on, and these have the numbers from n on.
abbrev pub BasesStand : ℕ → List ℕ → ℕ → List RecordType → Type 0
BasesStand first links n [] = Unit {0}
BasesStand first links n (t ∷ own) = IfSome (base_number first links t.base) (λ b. b < n) × BasesStand first links (suc n) own
