-- What an answer says of a text.
use Rattle.std.specs.Prelude.{◌≡◌, Result, Ok, Err}
use Rattle.ob_tree.specs.declared.decl.Module.{Module}
use Rattle.ob_scan.specs.declared.fault.ScanFault.{ScanFault}
use Rattle.ob_scan.specs.declared.fault.ScanFault.TheVariants as scanning
use Rattle.ob_scan.specs.Scanning.{Input, Scans}
use Rattle.ob_parse_grammar.specs.Phrase.{Tokens}
use Rattle.ob_parse_grammar.specs.declared.fault.ParseFault.{ParseFault}
use Rattle.ob_parse_grammar.specs.declared.fault.ParseFault.TheVariants as parsing
use Rattle.ob_parse.specs.Parsed.{Says}
use Rattle.ob_parse_text.specs.declared.fault.TextFault.{TextFault}
use Rattle.ob_parse_text.specs.declared.fault.TextFault.TheVariants as fault

-- the text has tokens, and of each list of them this is what parsing it answers
abbrev pub Parses : Input → Result Module ParseFault → Type 0
Parses i r = (ts : Tokens) × Scans i (Ok ts) × ((us : Tokens) → Scans i (Ok us) → Says r us)

-- where scanning has a fault, it is the answer; else the answer is that of parsing the tokens
abbrev pub Answers : Input → Result Module TextFault → Type 0
Answers i (Ok m) = Parses i (Ok m)
Answers i (Err (fault.Scan f)) = (f ≡ scanning.Memory → ⊥) × Scans i (Err f)
Answers i (Err (fault.Parse f)) = (f ≡ parsing.Memory → ⊥) × Parses i (Err f)
Answers i (Err fault.Memory) = Unit {0}

-- whether a text has tokens
abbrev pub HasTokens : Input → Result (Unit {0}) ScanFault → Type 0
HasTokens i (Ok u) = (ts : Tokens) × Scans i (Ok ts)
HasTokens i (Err f) = Scans i (Err f)

-- two answers of which none is for want of memory are one
abbrev pub AreOne : Input → Result Module TextFault → Result Module TextFault → Type 0
AreOne i r q = Answers i r → Answers i q → (r ≡ Err fault.Memory → ⊥) → (q ≡ Err fault.Memory → ⊥) → r ≡ q
