-- The walk through the needs of modules, as the code goes it.
use Rattle.std.specs.Prelude.{◌≡◌, ℕ, List, [], ◌∷◌, ◌++◌, Bool, false, cond, map as each, bytes_eq, Result, Ok, Err}
use Rattle.std.specs.List.{filter}
use Rattle.ob_cmp.specs.Check.{Present, NotThere, TooLong, Refused, There}
use Rattle.ob_make.specs.Seen.{Has, Seen, is_needed, symbol_needs, source_needs}
use Rattle.ob_make.specs.Order.{MakeEnd, Cycle, TooMany}
use Rattle.ob_make.specs.declared.fault.MakeFault.{MakeFault}
use Rattle.ob_make.specs.declared.fault.MakeFault.TheVariants as fault

-- a part of a walk, with the modules that it has left by its end
abbrev pub Goes : Result (List (List ℕ)) MakeEnd → List (List ℕ) → Result (Unit {0}) MakeFault → Type 0
Goes o left (Ok u) = o ≡ Ok left
Goes o left (Err (fault.Cycle m)) = o ≡ Err (Cycle m)
Goes o left (Err (fault.TooMany count)) = o ≡ Err (TooMany count)
Goes o left (Err fault.Folder) = Unit {0}
Goes o left (Err fault.Memory) = Unit {0}

-- ---- needs without those that stand twice one behind the other among the uses

abbrev pub begins : List ℕ → List (List ℕ) → Bool
begins n [] = false
begins n (m ∷ ms) = bytes_eq n m

abbrev pub singled : List (List ℕ) → List (List ℕ)
singled [] = []
singled (n ∷ ns) = cond (begins n ns) (singled ns) (n ∷ singled ns)

abbrev pub object_lean : {K : Type 0} → Present (Has K) → List (List ℕ)
object_lean NotThere = []
object_lean TooLong = []
object_lean Refused = []
object_lean (There h) = h.imports ++ singled (each (λ w. w.object.«module») h.uses)

abbrev pub lean_needs : {K : Type 0} → Seen K → List ℕ → List (List ℕ)
lean_needs s x = filter (is_needed x) (object_lean (s.object x) ++ (symbol_needs (s.symbols x) ++ source_needs (s.source x)))
