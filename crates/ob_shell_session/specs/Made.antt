-- What is left of a line `make` behind some of its turns, and what it does where there is no order.
use Rattle.std.specs.Prelude.{◌≡◌, ℕ, ◌+◌, List, [], Bool, true, false, length, Result, Err}
use Rattle.ob_make.specs.declared.fault.MakeFault.{MakeFault}
use Rattle.ob_make.specs.declared.fault.MakeFault.TheVariants as fault
use Rattle.ob_shell_reports.specs.declared.stop.Stop.{Stop}
use Rattle.ob_shell_reports.specs.declared.stop.Stop.TheVariants.{Folder, Memory}
use Rattle.ob_shell_reports.specs.Prints.{PrintDoes}
use Rattle.ob_shell_reports.specs.Texts.{refused, cycle_text, many_modules, made_text}
use Rattle.ob_shell_model.specs.Folds.{Answer, part}
use Rattle.ob_shell_model.specs.Making.{and_on, behind_turns}
use Rattle.ob_shell_model.specs.Bytes.{World, Change, maker}

-- behind turns it is told how many modules were compiled, so many of them before
abbrev pub told_behind : List ℕ → ℕ → Answer World Change → Answer World Change
told_behind m count a = and_on a (λ w. record { world = w; parts = part [] (made_text m (count + length a.parts)); refused = false })

-- the turns of these modules in a make of m, so many modules having been compiled, and the end of the line
abbrev pub rest_of_make : List ℕ → ℕ → List (List ℕ) → World → Answer World Change
rest_of_make m count xs w = told_behind m count (behind_turns maker m xs w)

-- what a make of m does at a fault of its order: it prints why there is none, or stops
abbrev pub NoOrder : Bool → List ℕ → List ℕ → List ℕ → MakeFault → Result Bool Stop → Type 0
NoOrder tells before now m (fault.Cycle a) result = PrintDoes tells before now (refused m (cycle_text a)) true result
NoOrder tells before now m (fault.TooMany count) result = PrintDoes tells before now (refused m many_modules) true result
NoOrder tells before now m fault.Folder result = (result ≡ Err Folder) × (now ≡ before)
NoOrder tells before now m fault.Memory result = (result ≡ Err Memory) × (now ≡ before)

-- how a turn stops a line
abbrev pub stop_at : MakeFault → Stop
stop_at (fault.Cycle a) = Memory
stop_at (fault.TooMany count) = Memory
stop_at fault.Folder = Folder
stop_at fault.Memory = Memory
