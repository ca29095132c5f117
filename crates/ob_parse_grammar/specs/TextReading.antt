-- The module that a text is, or its first fault, as a function of its bytes.
use Rattle.std.specs.Prelude.{ℕ, zero, suc, Bool, true, false, List, [], ◌∷◌, length, Option, Some, None, Result, Ok, Err}
use Rattle.ob_tree.specs.declared.decl.Module.{Module}
use Rattle.ob_tree.specs.declared.pos.Pos.{Pos}
use Rattle.ob_tree.specs.declared.symbol.Symbol.TheVariants as s
use Rattle.ob_scan.specs.declared.fault.ScanFault.{ScanFault}
use Rattle.ob_scan.specs.Scanning.{Input, Step, Gives, Faults, step, start_of}
use Rattle.ob_parse_grammar.specs.declared.fault.ParseFault.{ParseFault}
use Rattle.ob_parse_grammar.specs.declared.fault.ParseFault.TheVariants as parsing
use Rattle.ob_parse_grammar.specs.Phrase.{Tokens, same}
use Rattle.ob_parse_grammar.specs.Reading.{Read, Found, Fails, Wrong, Deep}
use Rattle.ob_parse_grammar.specs.Declarations.{«module»}
use Rattle.ob_parse_grammar.specs.Grammar.{reads}
use Rattle.ob_parse_grammar.specs.Depth.{limit}
use Rattle.ob_parse_grammar.specs.Texts.{tokens_of}

-- why a text is no module
pub data NoModule : Type 0 where
  Scan : (fault : ScanFault) → NoModule
  Parse : (fault : ParseFault) → NoModule

-- ---- the first fault of scanning

abbrev pub unless_end : Bool → Option ScanFault → Option ScanFault
unless_end true more = None
unless_end false more = more

abbrev pub fault_behind : (Input → Option ScanFault) → Step → Option ScanFault
fault_behind more (Gives l j) = unless_end (same l.symbol s.End) (more j)
fault_behind more (Faults f) = Some f

-- among so many symbols from here on
unfoldable pub fault_within : ℕ → Input → Option ScanFault
fault_within zero i = None
fault_within (suc n) i = fault_behind (fault_within n) (step i)

-- each symbol but the end takes at least a byte
abbrev pub fault_of : Input → Option ScanFault
fault_of i = fault_within (suc (length i.text)) i

-- ---- the module

abbrev pub place_of : Tokens → Pos
place_of [] = record { line = 0; col = 0 }
place_of (t ∷ ts) = t.pos

abbrev pub parsed : Read Module → Result Module NoModule
parsed (Found m ts) = Ok m
parsed (Fails Wrong ts) = Err (Parse (parsing.Syntax (place_of ts)))
parsed (Fails Deep ts) = Err (Parse (parsing.TooDeep (place_of ts)))

abbrev pub by_fault : Option ScanFault → Input → Result Module NoModule
by_fault (Some f) i = Err (Scan f)
by_fault None i = parsed (reads limit «module» (tokens_of i))

-- WHAT A TEXT IS READ AS: a fault of scanning, wherever it is, or else the grammar's reading of its tokens
unfoldable pub reading : List ℕ → Result Module NoModule
reading text = by_fault (fault_of (start_of text)) (start_of text)
