-- What a line `make M` sees of the modules of a folder, and which modules a module needs. It is stated once: for files, whose uses keep
-- prints, and for libraries, whose uses keep texts.
use Rattle.std.specs.Prelude.{ℕ, List, [], ◌++◌, Bool, not, ◌&&◌, map as each, bytes_eq, codes}
use Rattle.std.specs.List.{filter}
use Rattle.ob_env.specs.Faces.{Wanted, Face}
use Rattle.ob_cmp.specs.Check.{Present, NotThere, TooLong, Refused, There}

-- what an object file says of its module
pub record Has (K : Type 0) : Type 0 where
  pub imports : List (List ℕ)
  pub uses : List (Wanted K)

-- The file M.Mod: there is none, or it is a module of another name; or it is there, with these imports, none where it is no module or too
-- long.
pub data Source : Type 0 where
  NoSource : Source
  Imports : (imports : List (List ℕ)) → Source

-- for each name of a module what its three files have
pub record Seen (K : Type 0) : Type 0 where
  pub object : List ℕ → Present (Has K)
  pub symbols : List ℕ → Present (Face K)
  pub source : List ℕ → Source

-- NEEDS

-- the imports, then the modules of the uses
abbrev pub object_needs : {K : Type 0} → Present (Has K) → List (List ℕ)
object_needs NotThere = []
object_needs TooLong = []
object_needs Refused = []
object_needs (There h) = h.imports ++ each (λ w. w.object.«module») h.uses

abbrev pub symbol_needs : {K : Type 0} → Present (Face K) → List (List ℕ)
symbol_needs NotThere = []
symbol_needs TooLong = []
symbol_needs Refused = []
symbol_needs (There f) = f.imports

abbrev pub source_needs : Source → List (List ℕ)
source_needs NoSource = []
source_needs (Imports ms) = ms

-- no module needs itself, and none needs Out
abbrev pub is_needed : List ℕ → List ℕ → Bool
is_needed x n = not (bytes_eq n x) && not (bytes_eq n (codes "Out"))

-- THE NEEDS OF A MODULE, in order. One that stands there twice is passed over at its second place.
abbrev pub needs : {K : Type 0} → Seen K → List ℕ → List (List ℕ)
needs s x = filter (is_needed x) (object_needs (s.object x) ++ (symbol_needs (s.symbols x) ++ source_needs (s.source x)))
