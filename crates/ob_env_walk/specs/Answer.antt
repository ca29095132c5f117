-- What a compile answers of the interfaces below its module: the walk, then the stored uses, then the fit.
use Rattle.std.specs.Prelude.{ℕ, Bool, List, Option}
use Rattle.ob_tree.specs.declared.names.QName.{QName}
use Rattle.ob_types.specs.declared.face.Aspect.{Aspect}
use Rattle.ob_env.specs.Faces.{Face}
use Rattle.ob_env.specs.Answer.{Standing, standing}
use Rattle.ob_env_walk.specs.Walk.{Entry, Walked, Left, walk}

-- a walk that ended early, or what a whole one comes to
pub data Reached (K : Type 0) : Type 0 where
  Stopped : (walked : Walked K) → Reached K
  Whole : (answer : Standing K) → Reached K

abbrev pub after_walk : {K : Type 0} → (List (Face K) → Standing K) → Walked K → Reached K
after_walk build (Left faces) = Whole (build faces)
after_walk build w = Stopped w

-- THE ANSWER for a module with these imports
abbrev pub env_answer : {K : Type 0} → (K → K → Bool) → (List (Face K) → QName → Aspect → Option K) → (List ℕ → Entry K) → List ℕ → List (List ℕ) → Reached K
env_answer agree has find root imports = after_walk (standing agree has) (walk find root imports)
