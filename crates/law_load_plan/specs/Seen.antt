-- What a plan that is not refused has seen to.
use Rattle.std.specs.Prelude.{◌≡◌, ℕ, suc, ◌+◌, ◌≤◌, List, [], ◌∷◌, ◌++◌, Bool, true, false, ◌||◌, length, Some, None, bytes_eq, codes}
use Rattle.std.specs.List.{AllByRecursion}
use Rattle.ob_env.specs.Faces.{Wanted}
use Rattle.ob_link.specs.Plan.{Entry, Holds, Asks, is_there, named, present, most_modules, most_globals, words_of, has_command}

-- whether a module of this name is among these; Out always is
abbrev pub is_among : {A K : Type 0} → Asks A K → List A → List ℕ → Bool
is_among asks xs name = bytes_eq name (codes "Out") || is_there (named asks name xs)

abbrev pub IsAmong : {A K : Type 0} → Asks A K → List A → List ℕ → Type 0
IsAmong asks xs name = is_among asks xs name ≡ true

-- what a use keeps agrees with what its object has there
pub record IsMet {A K : Type 0} (asks : Asks A K) (xs : List A) (u : Wanted K) : Type 0 where
  pub found : K
  pub is : present asks xs u.object u.aspect ≡ Some found
  pub same : asks.same u.kept found ≡ true

-- A module goes behind these: they have all that it imports, none of its name, what agrees with each of its uses, what its links
-- name, and are fewer than may be loaded.
pub record GoesBehind {A K : Type 0} (asks : Asks A K) (before : List A) (x : A) : Type 0 where
  pub imports : AllByRecursion (IsAmong asks before) (asks.imports x)
  pub other : is_among asks before (asks.name x) ≡ false
  pub uses : AllByRecursion (IsMet asks before) (asks.uses x)
  pub links : asks.unlinked before x ≡ None
  pub few : suc (length before) ≤ most_modules

-- each of these goes behind those, and the ones before it
abbrev pub GoInTurn : {A K : Type 0} → Asks A K → List A → List A → Type 0
GoInTurn asks before [] = Unit {0}
GoInTurn asks before (x ∷ xs) = GoesBehind asks before x × GoInTurn asks (before ++ x ∷ []) xs

-- The modules of a plan go behind the loaded ones, are those that their names have, have room for their words, and the command is
-- among them.
pub record IsSeenTo {A K : Type 0} (asks : Asks A K) (entry : List ℕ → Entry A) (loaded : List A) (name command : List ℕ) (new : List A) : Type 0 where
  pub in_turn : GoInTurn asks loaded new
  pub found : AllByRecursion (λ x. entry (asks.name x) ≡ Holds x) new
  pub words : words_of asks loaded + words_of asks new ≤ most_globals
  pub command_there : has_command asks (named asks name (loaded ++ new)) command ≡ true

-- what a name has is a module of that name
abbrev pub AreNamed : {A K : Type 0} → Asks A K → (List ℕ → Entry A) → Type 0
AreNamed {A} asks entry = (name : List ℕ) (x : A) → entry name ≡ Holds x → asks.name x ≡ name
