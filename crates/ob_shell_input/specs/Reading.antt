-- A script that is read by pieces.
use Rattle.std.specs.Prelude.{◌≡◌, ℕ, ◌≤◌, ◌<◌, ◌+◌, List, [], ◌∷◌, ◌++◌, Bool, true, false, ◌==◌, ◌&&◌, not, if◌then◌else◌, length, Option, Some, None, Result, Ok, Err}
use Rattle.ob_io.specs.Io.{Rose}
use Rattle.ob_shell_lines.specs.Lines.{lines_of}
use Rattle.ob_shell_lines.specs.Splits.{Stops, GoesOn}
use Rattle.ob_shell_input.specs.declared.next.NextFault.{NextFault}
use Rattle.ob_shell_input.specs.declared.next.NextFault.TheVariants as fault
use Rattle.ob_shell_input.specs.declared.next.Next.{Next}
use Rattle.ob_shell_input.specs.declared.next.Next.TheVariants as next

-- the fault of the script is answered only where its count rose
pub record NextCause {T : Type 0} (before now : ℕ) (result : Result T NextFault) : Type 0 where
  pub later : before ≤ now
  pub failed : result ≡ Err fault.Failed → Rose before now

-- the next bytes, of which there are none only at the end; a read that failed takes none
abbrev pub Fills : List ℕ → List ℕ → List ℕ → Result (Unit {0}) NextFault → Type 0
Fills old new ahead (Ok u) = (ahead ++ new ≡ old) × (ahead ≡ [] → old ≡ [])
Fills old new ahead (Err e) = (ahead ++ new ≡ old) × (ahead ≡ [])

-- the first of some bytes
abbrev pub TakesFirst : List ℕ → List ℕ → Option ℕ → Type 0
TakesFirst old new None = (old ≡ []) × (new ≡ [])
TakesFirst old new (Some b) = old ≡ b ∷ new

-- more bytes are taken, and not too many
abbrev pub TakesMore : ℕ → Next → Type 0
TakesMore at (next.Line taken) = (at < taken) × (taken ≤ 1048576)
TakesMore at (next.Last taken) = (at < taken) × (taken ≤ 1048576)
TakesMore at next.End = Unit {0}
TakesMore at next.Passes = Unit {0}

-- the first byte, or none at the end; a read that failed takes none
abbrev pub Takes : List ℕ → List ℕ → Result (Option ℕ) NextFault → Type 0
Takes old new (Ok None) = (old ≡ []) × (new ≡ [])
Takes old new (Ok (Some b)) = old ≡ b ∷ new
Takes old new (Err e) = new ≡ old

-- bytes of which none is the byte 10
abbrev pub is_open : List ℕ → Bool
is_open [] = true
is_open (b ∷ bs) = not (b == 10) && is_open bs

-- a byte goes before the first line that has ended, if there is one
abbrev pub before_ended : ℕ → List (List ℕ) → List (List ℕ)
before_ended b [] = []
before_ended b (l ∷ ls) = (b ∷ l) ∷ ls

-- the lines of some bytes whose byte 10 is among them
unfoldable pub ended : List ℕ → List (List ℕ)
ended [] = []
ended (b ∷ bs) = if b == 10 then [] ∷ ended bs else before_ended b (ended bs)

-- What of a script whose whole has so many bytes, of which so many were taken, the next line takes: the bytes before and behind.
abbrev pub NextDoes : ℕ → ℕ → List ℕ → List ℕ → List ℕ → Result Next NextFault → Type 0
NextDoes whole at old new line (Ok next.End) = (old ≡ []) × (new ≡ [])
NextDoes whole at old new line (Ok next.Passes) = Stops whole at (lines_of old)
NextDoes whole at old new line (Ok (next.Line taken)) = GoesOn whole at (lines_of old) line taken (lines_of new) × (old ≡ line ++ 10 ∷ new) × (is_open line ≡ true) × (taken + length new ≡ whole)
NextDoes whole at old new line (Ok (next.Last taken)) = GoesOn whole at (lines_of old) line taken (lines_of new) × (new ≡ []) × (taken ≡ whole)
NextDoes whole at old new line (Err fault.Failed) = (old ≡ line ++ new) × (is_open line ≡ true)
NextDoes whole at old new line (Err fault.Memory) = Unit {0}
