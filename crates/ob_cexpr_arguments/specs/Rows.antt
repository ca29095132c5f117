-- Rows of actual parameters.
use Rattle.std.specs.Prelude.{List, [], ◌∷◌, Option, Some, None}
use Rattle.ob_types.specs.declared.types.Mode.{Mode}
use Rattle.ob_types.specs.declared.types.TypeRef.{TypeRef}
use Rattle.ob_types.specs.declared.typed.Actual.{Actual}
use Rattle.ob_rules.specs.Judged.{Judged}
use Rattle.ob_rules.specs.Names.{Around}
use Rattle.ob_rules.specs.Phrases.{Phrase}
use Rattle.ob_rules.specs.Calls.{actual}
use Rattle.ob_cexpr_call.specs.Rows.{row_with, row_before}

-- a row with one more, for the formal parameter that comes next, if there is one
abbrev pub row_behind : Around → Option (Mode × TypeRef) → Phrase → Option (List Actual) → Judged (List Actual)
row_behind u None p row = record { node = row_before row (p.value u).node; notes = (p.value u).notes }
row_behind u (Some f) p row = record { node = row_with row (actual u f.0 f.1 p).node; notes = (actual u f.0 f.1 p).notes }
