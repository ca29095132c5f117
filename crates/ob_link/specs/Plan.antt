-- Which modules a load brings in, or why it is refused: once for modules whose uses keep texts and for those whose uses keep
-- prints.
use Rattle.std.specs.Prelude.{ℕ, ◌+◌, List, [], ◌∷◌, ◌++◌, Bool, true, false, ◌||◌, nat_lt, nat_le, if◌then◌else◌, length, Option, Some, None, Result, Ok, Err, bytes_eq, codes}
use Rattle.ob_tree.specs.declared.names.QName.{QName}
use Rattle.ob_types.specs.declared.face.Aspect.{Aspect}
use Rattle.ob_env.specs.Faces.{Wanted}
use Rattle.ob_link.specs.Walk.{Steps, visit, and_then, first_of, or_first, most_deep}

-- what a name has
pub data Entry (A : Type 0) : Type 0 where
  Missing : Entry A
  TooLong : Entry A
  Junk : Entry A
  Holds : A → Entry A

-- what a load asks of a module
pub record Asks (A K : Type 0) : Type 0 where
  pub name : A → List ℕ
  pub imports : A → List (List ℕ)
  -- its uses, in order, and whether what one keeps agrees with what is there
  pub uses : A → List (Wanted K)
  pub same : K → K → Bool
  -- what its object of a name has, with an aspect
  pub keeps : A → List ℕ → Aspect → Option K
  -- the first of its links that names nothing in these modules
  pub unlinked : List A → A → Option QName
  -- the words of its globals
  pub words : A → ℕ
  -- whether it has a command of a name
  pub has_command : A → List ℕ → Bool

pub data Refusal (K : Type 0) : Type 0 where
  NoObject : (m : List ℕ) → Refusal K
  Damaged : (m : List ℕ) → Refusal K
  Absent : (client : List ℕ) → (object : QName) → Refusal K
  Changed : (client : List ℕ) → (object : QName) → (aspect : Aspect) → (wanted found : K) → Refusal K
  Cycle : (m : List ℕ) → Refusal K
  NoRoom : (used asked : ℕ) → Refusal K
  TooMany : (count : ℕ) → Refusal K
  NoCommand : (m command : List ℕ) → Refusal K
  Long : (m : List ℕ) → Refusal K

-- the first module of a name
abbrev pub named : {A K : Type 0} → Asks A K → List ℕ → List A → Option A
named asks name [] = None
named asks name (x ∷ xs) = if bytes_eq name (asks.name x) then Some x else named asks name xs

abbrev pub is_there : {A : Type 0} → Option A → Bool
is_there None = false
is_there (Some x) = true

abbrev pub kept_by : {A K : Type 0} → Asks A K → Option A → List ℕ → Aspect → Option K
kept_by asks None name aspect = None
kept_by asks (Some x) name aspect = asks.keeps x name aspect

-- what an object has among these modules
abbrev pub present : {A K : Type 0} → Asks A K → List A → QName → Aspect → Option K
present asks xs q aspect = kept_by asks (named asks q.«module» xs) q.object aspect

-- USES, LINKS, NUMBER

abbrev pub use_against : {K : Type 0} → (K → K → Bool) → List ℕ → Wanted K → Option K → Option (Refusal K)
use_against same client u None = Some (Absent client u.object)
use_against same client u (Some found) = if same u.kept found then None else Some (Changed client u.object u.aspect u.kept found)

abbrev pub use_fails : {A K : Type 0} → Asks A K → List A → List ℕ → Wanted K → Option (Refusal K)
use_fails asks xs client u = use_against asks.same client u (present asks xs u.object u.aspect)

abbrev pub absent : {K : Type 0} → List ℕ → Option QName → Option (Refusal K)
absent client None = None
absent client (Some q) = Some (Absent client q)

-- the most modules that are loaded
abbrev pub most_modules : ℕ
most_modules = 255

abbrev pub too_many : {K : Type 0} → ℕ → Option (Refusal K)
too_many count = if nat_le count most_modules then None else Some (TooMany count)

-- what refuses a module whose imports are done, behind those that are loaded or planned
abbrev pub fails : {A K : Type 0} → Asks A K → List A → A → Option (Refusal K)
fails asks xs x =
    or_first (first_of (use_fails asks xs (asks.name x)) (asks.uses x))
    (or_first (absent (asks.name x) (asks.unlinked xs x))
    (too_many (length xs + 1)))

-- THE WALK

abbrev pub newest : List ℕ → List (List ℕ) → List ℕ
newest name [] = name
newest name (n ∷ path) = n

abbrev pub entered : {A K : Type 0} → List ℕ → Entry A → Result A (Refusal K)
entered name Missing = Err (NoObject name)
entered name TooLong = Err (Long name)
entered name Junk = Err (Damaged name)
entered name (Holds x) = Ok x

abbrev pub steps : {A K : Type 0} → Asks A K → (List ℕ → Entry A) → List A → Steps A (Refusal K)
steps asks entry loaded = record {
  passes = λ left name. bytes_eq name (codes "Out") || is_there (named asks name (loaded ++ left));
  finds = λ left path name. entered name (entry name);
  imports = asks.imports;
  cycles = λ path name. Cycle (newest name path);
  refuses = λ left x. fails asks (loaded ++ left) x;
}

-- THE PLAN

-- the most words of all globals
abbrev pub most_globals : ℕ
most_globals = 262144

abbrev pub words_of : {A K : Type 0} → Asks A K → List A → ℕ
words_of asks [] = 0
words_of asks (x ∷ xs) = asks.words x + words_of asks xs

abbrev pub has_command : {A K : Type 0} → Asks A K → Option A → List ℕ → Bool
has_command asks None command = false
has_command asks (Some x) command = asks.has_command x command

-- behind the whole walk: room for the globals, and the command
abbrev pub planned : {A K : Type 0} → Asks A K → List A → List ℕ → List ℕ → List A → Result (List A) (Refusal K)
planned asks loaded name command new =
    if nat_lt most_globals (words_of asks loaded + words_of asks new) then Err (NoRoom (words_of asks loaded) (words_of asks new))
    else if has_command asks (named asks name (loaded ++ new)) command then Ok new
    else Err (NoCommand name command)

-- The modules that a load brings in, in the order in which the walk leaves them. Out has no commands, whatever names have.
unfoldable pub plan : {A K : Type 0} → Asks A K → (List ℕ → Entry A) → List A → List ℕ → List ℕ → Result (List A) (Refusal K)
plan asks entry loaded name command =
    if bytes_eq name (codes "Out") then Err (NoObject name)
    else and_then (visit (steps asks entry loaded) most_deep [] name []) (planned asks loaded name command)
