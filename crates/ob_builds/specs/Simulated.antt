-- Commands over builds, by the table and by the meaning of their sources.
use Rattle.std.specs.Prelude.{ℕ, zero, suc, ◌+◌, List, [], ◌++◌, true, length, take, map, Option, Some, None, ◌≡◌, ◌≤◌, ℤ}
use Rattle.ob_meaning.specs.Results.{Why, Trapped, Spent}
use Rattle.ob_meaning.specs.Commands.{System, Ended, nothing_loaded, command}
use Rattle.ob_machine.specs.declared.outcome.Outcome.{Outcome}
use Rattle.ob_machine.specs.declared.outcome.Outcome.TheVariants as outcome
use Rattle.ob_machine.specs.Machine.{made}
use Rattle.ob_link.specs.Plan.{most_globals, words_of, has_command, named}
use Rattle.ob_link.specs.Files.{planned}
use Rattle.ob_load.specs.Command.{Ran, ran}
use Rattle.ob_words.specs.declared.asked.Settings.{Settings}
use Rattle.ob_builds.specs.Builds.{Build, tree_of, asks, file_of}
use Rattle.ob_builds.specs.Afresh.{AreTogether}

-- BY THE MEANING

abbrev pub outcome_of : Option Why → Outcome
outcome_of None = outcome.Done
outcome_of (Some (Trapped kind number unit at)) = outcome.Trap kind number unit at
outcome_of (Some (Spent unit at)) = outcome.TurnsSpent unit at

-- the builds of the modules that have joined
abbrev pub joined : List Build → Ended → List Build
joined bs e = take (length e.system.program) bs

-- the command of the new modules' sources over those that are loaded
abbrev pub ended : Settings → System → List Build → List ℕ → List ℕ → Ended
ended s system new m name = command system (map tree_of new) s.heap s.turns (record { «module» = m; object = name })

-- BY THE TABLE

-- what a plan has seen to: room for the globals, and the command is there
pub record IsPlanned (bs new : List Build) (m name : List ℕ) : Type 0 where
  pub words : words_of asks (bs ++ new) ≤ most_globals
  pub command : has_command asks (named asks m (bs ++ new)) name ≡ true

-- a command by the table and by the meaning: the same text and end, and the same modules are loaded
pub record IsSameRun (bs : List Build) (r : Ran) (e : Ended) : Type 0 where
  pub outcome : r.outcome ≡ outcome_of e.why
  pub text : r.text ≡ e.out
  pub loaded : r.loaded ≡ map file_of (joined bs e)

-- the command of new builds' files over those that are loaded
abbrev pub ran_over : Settings → List Build → List ℤ → ℕ → List Build → List ℕ → List ℕ → Ran
ran_over s bs words heap new m name = ran (map file_of bs) words heap (planned (map file_of bs) m name (map file_of new)) s.turns

-- Words and the next free word of the heap stand for a system of these builds, as far as so many commands can tell: each that a plan
-- lets come is the same by the table and by the meaning, and behind it they stand so for the others.
abbrev pub StandFor : ℕ → Settings → List Build → System → List ℤ → ℕ → Type 0
StandFor zero s bs system words heap = Unit {0}
StandFor (suc commands) s bs system words heap =
    (new : List Build) (m name : List ℕ) → AreTogether [] (bs ++ new) → IsPlanned bs new m name →
    let r : Ran = ran_over s bs words heap new m name in
    let e : Ended = ended s system new m name in
    IsSameRun (bs ++ new) r e × StandFor commands s (joined (bs ++ new) e) e.system r.words r.heap

-- settings as words can say them
pub record AreSettings (s : Settings) : Type 0 where
  pub some_turns : 1 ≤ s.turns
  pub most_turns : s.turns ≤ 1000000000
  pub some_heap : 1 ≤ s.heap
  pub most_heap : s.heap ≤ 4194304

-- All commands behind one another, from the first, are the same by the table and by the meaning.
abbrev pub Simulation : Type 0
Simulation = (commands : ℕ) (s : Settings) → AreSettings s → StandFor commands s [] nothing_loaded (made s.heap).words (made s.heap).heap
