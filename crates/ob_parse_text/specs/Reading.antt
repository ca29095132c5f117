-- What an answer has of what its text is read as.
use Rattle.std.specs.Prelude.{◌≡◌, Result, Ok, Err}
use Rattle.ob_tree.specs.declared.decl.Module.{Module}
use Rattle.ob_parse_grammar.specs.TextReading.{NoModule, Scan, Parse}
use Rattle.ob_parse_text.specs.declared.fault.TextFault.{TextFault}
use Rattle.ob_parse_text.specs.declared.fault.TextFault.TheVariants as fault

-- an answer is that reading, or memory was wanting
abbrev pub IsReading : Result Module NoModule → Result Module TextFault → Type 0
IsReading r (Ok m) = r ≡ Ok m
IsReading r (Err (fault.Scan f)) = r ≡ Err (Scan f)
IsReading r (Err (fault.Parse f)) = r ≡ Err (Parse f)
IsReading r (Err fault.Memory) = Unit {0}
