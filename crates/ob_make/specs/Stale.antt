-- Which modules are stale, and what is done of a module at its turn.
use Rattle.std.specs.Prelude.{ℕ, List, Bool, true, false, not, ◌&&◌, ◌||◌, Option, bytes_eq}
use Rattle.std.specs.List.{list_any}
use Rattle.ob_tree.specs.declared.names.QName.{QName}
use Rattle.ob_types.specs.declared.desc.Desc.{Desc}
use Rattle.ob_types.specs.declared.face.Aspect.{Aspect}
use Rattle.ob_env.specs.Faces.{Wanted, Face}
use Rattle.ob_env.specs.Stale.{Found, AsWanted, IsAbsent, IsChanged, compared}
use Rattle.ob_cmp.specs.Check.{Present, NotThere, TooLong, Refused, There, in_face}
use Rattle.ob_make.specs.Seen.{Has, Source, NoSource, Imports, Seen}
use Rattle.ob_make.specs.declared.turns.Turn.{Turn}
use Rattle.ob_make.specs.declared.turns.Turn.TheVariants as turn

-- How uses are met: when what is kept agrees with what there is, and what there is of an object and an aspect of an interface.
pub record Marks (K : Type 0) : Type 0 where
  pub agree : K → K → Bool
  pub has : QName → Desc → Aspect → Option K

abbrev pub is_met : {K : Type 0} → Found K → Bool
is_met AsWanted = true
is_met IsAbsent = false
is_met (IsChanged k) = false

-- whether the symbol file of its module meets a use: one that is not there, damaged or too long meets none
abbrev pub meets : {K : Type 0} → Marks K → Wanted K → Present (Face K) → Bool
meets marks w NotThere = false
meets marks w TooLong = false
meets marks w Refused = false
meets marks w (There f) = is_met (compared marks.agree w.kept (in_face marks.has f w.object w.aspect))

-- whether one of these uses is not met
abbrev pub fails : {K : Type 0} → Marks K → (List ℕ → Present (Face K)) → List (Wanted K) → Bool
fails marks find uses = list_any (λ w. not (meets marks w (find w.object.«module»))) uses

abbrev pub is_there : {X : Type 0} → Present X → Bool
is_there NotThere = false
is_there TooLong = false
is_there Refused = false
is_there (There x) = true

abbrev pub stale_with : {K : Type 0} → Marks K → (List ℕ → Present (Face K)) → Present (Has K) → Bool → Bool
stale_with marks find NotThere symbols = true
stale_with marks find TooLong symbols = true
stale_with marks find Refused symbols = true
stale_with marks find (There h) symbols = not symbols || fails marks find h.uses

-- A MODULE IS STALE where its object file or its symbol file is missing, damaged or too long, or where a use in its object file is not met.
abbrev pub is_stale : {K : Type 0} → Marks K → Seen K → List ℕ → Bool
is_stale marks s x = stale_with marks s.symbols (s.object x) (is_there (s.symbols x))

-- TURNS

abbrev pub is_sourceless : Source → Bool
is_sourceless NoSource = true
is_sourceless (Imports ms) = false

abbrev pub is_missing : {X : Type 0} → Present X → Bool
is_missing NotThere = true
is_missing TooLong = false
is_missing Refused = false
is_missing (There x) = false

-- one with neither source nor object file is passed over, unless it is the one that is made
abbrev pub is_passed : {K : Type 0} → Seen K → List ℕ → List ℕ → Bool
is_passed s m x = not (bytes_eq x m) && (is_sourceless (s.source x) && is_missing (s.object x))

abbrev pub turn_of : (passed stale sourceless : Bool) → Turn
turn_of true stale sourceless = turn.Stays
turn_of false false sourceless = turn.Stays
turn_of false true false = turn.Compiles
turn_of false true true = turn.LacksSource

-- WHAT IS DONE OF MODULE x when its turn comes in a make of m
abbrev pub turn_in : {K : Type 0} → Marks K → Seen K → List ℕ → List ℕ → Turn
turn_in marks s m x = turn_of (is_passed s m x) (is_stale marks s x) (is_sourceless (s.source x))
