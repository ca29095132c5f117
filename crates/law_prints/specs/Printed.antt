-- What keeps prints in place of what keeps texts: of each text its print, and all else as it is.
use Rattle.std.specs.Prelude.{ℕ, List, map as each, Result, Ok, Err}
use Rattle.ob_tree.specs.declared.print.Print.{Print}
use Rattle.ob_fprint.specs.Print.{print_from}
use Rattle.ob_env.specs.Faces.{Wanted, printed}
use Rattle.ob_env.specs.Stale.{Found, AsWanted, IsAbsent, IsChanged, StaleUse}
use Rattle.ob_env.specs.Answer.{Standing, Stands, Stale, Unfit}
use Rattle.ob_env_walk.specs.Walk.{Entry, Missing, Junk, Holds, Walked, Left, NoInterface, Damaged, Cycle, TooMany}
use Rattle.ob_env_walk.specs.Answer.{Reached, Stopped, Whole}
use Rattle.ob_compile_model.specs.Compiling as c
use Rattle.ob_compile_model.specs.Compiling.{Refusal, Compiled}

abbrev pub Text : Type 0
Text = List ℕ

-- a use
abbrev pub wanted_printed : Wanted Text → Wanted Print
wanted_printed w = record { object = w.object; aspect = w.aspect; kept = print_from w.kept }

-- what is found for a module
abbrev pub entry_printed : Entry Text → Entry Print
entry_printed Missing = Missing
entry_printed Junk = Junk
entry_printed (Holds face) = Holds (printed face)

-- what a walk comes to
abbrev pub walked_printed : Walked Text → Walked Print
walked_printed (Left faces) = Left (each printed faces)
walked_printed (NoInterface m) = NoInterface m
walked_printed (Damaged m) = Damaged m
walked_printed (Cycle importer) = Cycle importer
walked_printed TooMany = TooMany

-- what a use meets
abbrev pub found_printed : Found Text → Found Print
found_printed AsWanted = AsWanted
found_printed IsAbsent = IsAbsent
found_printed (IsChanged text) = IsChanged (print_from text)

-- a use that is not met
abbrev pub stale_printed : StaleUse Text → StaleUse Print
stale_printed u = record { client = u.client; wanted = wanted_printed u.wanted; found = found_printed u.found }

-- what interfaces come to
abbrev pub standing_printed : Standing Text → Standing Print
standing_printed (Stands faces) = Stands (each printed faces)
standing_printed (Stale u) = Stale (stale_printed u)
standing_printed (Unfit q) = Unfit q

abbrev pub reached_printed : Reached Text → Reached Print
reached_printed (Stopped w) = Stopped (walked_printed w)
reached_printed (Whole s) = Whole (standing_printed s)

-- why a source is refused
abbrev pub refusal_printed : Refusal Text → Refusal Print
refusal_printed c.NoSource = c.NoSource
refusal_printed c.Long = c.Long
refusal_printed (c.Unread fault) = c.Unread fault
refusal_printed (c.Broken rule) = c.Broken rule
refusal_printed (c.Walk w) = c.Walk (walked_printed w)
refusal_printed (c.Unmet u) = c.Unmet (stale_printed u)
refusal_printed (c.NoFit q) = c.NoFit q
refusal_printed (c.Limit w) = c.Limit w

-- a module that was compiled
abbrev pub compiled_printed : Compiled Text → Compiled Print
compiled_printed d = record { tree = d.tree; against = each printed d.against; shows = printed d.shows }

-- WHAT A SOURCE GIVES, with prints for texts
abbrev pub result_printed : Result (Compiled Text) (Refusal Text) → Result (Compiled Print) (Refusal Print)
result_printed (Ok d) = Ok (compiled_printed d)
result_printed (Err r) = Err (refusal_printed r)
