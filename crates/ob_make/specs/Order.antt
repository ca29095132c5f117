-- The order in which modules have their turns.
use Rattle.std.specs.Prelude.{ℕ, suc, ◌+◌, List, [], ◌∷◌, Bool, true, false, nat_le, length, None, Result, Ok, Err}
use Rattle.ob_link.specs.Walk.{Steps, has, visit}
use Rattle.ob_make.specs.Seen.{Seen, needs}

-- why there is no order
pub data MakeEnd : Type 0 where
  -- a need of this module stands on the path to it
  Cycle : (m : List ℕ) → MakeEnd
  -- a module more is met than there may be: the one with this number
  TooMany : (count : ℕ) → MakeEnd

abbrev pub newest : List ℕ → List (List ℕ) → List ℕ
newest name [] = name
newest name (n ∷ path) = n

-- where there is room for one more, the module of the name is met
abbrev pub met_if : Bool → List ℕ → Result (List ℕ) MakeEnd
met_if true name = Ok name
met_if false name = Err (TooMany 256)

-- The walk goes through the needs, as they are before the line. It has met those that it left and those on its path, and it meets at most
-- 255 modules.
abbrev pub steps : {K : Type 0} → Seen K → Steps (List ℕ) MakeEnd
steps s = record {
  passes = λ left name. has name left;
  finds = λ left path name. met_if (nat_le (suc (length left + length path)) 255) name;
  imports = needs s;
  cycles = λ path name. Cycle (newest name path);
  refuses = λ left x. None;
}

-- THE ORDER in which module m is made: depth first, each module behind its needs, m last. No path is longer than 255 modules, so no visit
-- is deeper than 257.
abbrev pub order : {K : Type 0} → Seen K → List ℕ → Result (List (List ℕ)) MakeEnd
order s m = visit (steps s) 257 [] m []
