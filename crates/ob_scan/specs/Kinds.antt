-- The test of a kind of bytes.
use Rattle.std.specs.Prelude.{ℕ, Bool, [], ◌∷◌, Option, None, Result, Ok, Err}
use Rattle.ob_tree.specs.declared.symbol.Symbol.{Symbol}
use Rattle.ob_scan.specs.declared.fault.ScanFault.{ScanFault}
use Rattle.ob_scan.specs.declared.symbols.Kind.{Kind}
use Rattle.ob_scan.specs.declared.symbols.Kind.TheVariants as kind
use Rattle.ob_scan.specs.Vocabulary.{is_digit, is_letter_or_digit, is_hex_digit, is_plain, Bytes, mark_of_two}

abbrev pub test_of : Kind → ℕ → Bool
test_of kind.LetterOrDigit b = is_letter_or_digit b
test_of kind.Digit b = is_digit b
test_of kind.HexDigit b = is_hex_digit b
test_of (kind.Plain q) b = is_plain q b

-- the mark that the first two bytes are
abbrev pub two_of : Bytes → Option Symbol
two_of [] = None
two_of (a ∷ []) = None
two_of (a ∷ b ∷ bs) = mark_of_two a b

-- a length and a symbol, the symbol first
abbrev pub symbol_first : Result (ℕ × Symbol) ScanFault → Result (Symbol × ℕ) ScanFault
symbol_first (Ok x) = Ok (x.1, x.0)
symbol_first (Err f) = Err f
