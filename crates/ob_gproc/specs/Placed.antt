-- Where the things of a list stand, found by their names.
use Rattle.std.specs.Prelude.{◌≡◌, ℕ, ◌+◌, List, unwrap_or}
use Rattle.ob_layout.specs.Index.{Positions, at_name}

-- what stands before the first of a name; of one that is not there, all that stands
abbrev pub place_of : Positions → ℕ → List ℕ → ℕ
place_of m total x = unwrap_or (at_name m x) total

abbrev pub ArePlaces : Positions → ℕ → (List ℕ → ℕ) → Type 0
ArePlaces m total place = (x : List ℕ) → place_of m total x ≡ place x
