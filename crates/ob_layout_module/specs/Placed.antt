-- Fields one behind the other.
use Rattle.std.specs.Prelude.{ℕ, ◌+◌, List, [], ◌∷◌}
use Rattle.ob_types.specs.declared.types.TypeRef.{TypeRef}
use Rattle.ob_types.specs.declared.desc.Field.{Field}
use Rattle.ob_layout.specs.LaidOut.{kept}

-- fields behind so many words, those above the limit as the next number
abbrev pub placed_behind : (TypeRef → ℕ) → ℕ → List Field → List Field
placed_behind words at [] = []
placed_behind words at (f ∷ fs) = record f { place = at } ∷ placed_behind words (kept (at + words f.of)) fs
