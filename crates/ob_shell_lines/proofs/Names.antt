-- Names of files are text.
use Rattle.std.proofs.Common.{◌≡◌, ℕ, zero, suc, ◌<◌, List, [], ◌∷◌, true, arith}
use Rattle.std.specs.Prelude.{◌&&◌, nat_le, nat_lt, ◌==◌, length}
use Rattle.std.specs.List.{list_all}
use Rattle.std.specs.Str.{IsUtf8, IsAscii}
use Rattle.std.proofs.lemmas.Bool.{and_parts, leb-true, eqb-true, or_cases}
use Rattle.std.proofs.lemmas.Str.{IsUtf8-from_ascii}
use Rattle.ob_parse_grammar.specs.Identifiers.{is_letter, is_letter_or_digit}
use Rattle.ob_shell_lines.specs.Lines.{name_byte, is_file_name}
use mathlib.Core.Logic.{◌⊎◌, inl, inr}

range : (b lo hi : ℕ) → hi < 128 → (nat_le lo b && nat_le b hi) ≡ true → b < 128
range b lo hi h q = let p = leb-true b hi (and_parts (nat_le lo b) (nat_le b hi) q).1 in omega (arith, p)

letter_small : (b : ℕ) → is_letter b ≡ true → b < 128
letter_small b e = two (or_cases (nat_le 65 b && nat_le b 90) (nat_le 97 b && nat_le b 122) e)
  where
    two : ((nat_le 65 b && nat_le b 90) ≡ true) ⊎ ((nat_le 97 b && nat_le b 122) ≡ true) → b < 128
    two (inl q) = range b 65 90 (omega arith) q
    two (inr q) = range b 97 122 (omega arith) q

letter_or_digit_small : (b : ℕ) → is_letter_or_digit b ≡ true → b < 128
letter_or_digit_small b e = two (or_cases (is_letter b) (nat_le 48 b && nat_le b 57) e)
  where
    two : (is_letter b ≡ true) ⊎ ((nat_le 48 b && nat_le b 57) ≡ true) → b < 128
    two (inl q) = letter_small b q
    two (inr q) = range b 48 57 (omega arith) q

byte_small : (b : ℕ) → name_byte b ≡ true → b < 128
byte_small b e = two (or_cases (is_letter_or_digit b) (b == 46) e)
  where
    two : (is_letter_or_digit b ≡ true) ⊎ ((b == 46) ≡ true) → b < 128
    two (inl q) = letter_or_digit_small b q
    two (inr q) = let p = eqb-true b 46 q in omega (arith, p)

ascii : (bs : List ℕ) → list_all name_byte bs ≡ true → IsAscii bs
ascii [] e i = omega arith
ascii (b ∷ bs) e zero = byte_small b (and_parts (name_byte b) (list_all name_byte bs) e).0
ascii (b ∷ bs) e (suc i) = ascii bs (and_parts (name_byte b) (list_all name_byte bs) e).1 i

name_ascii : (bs : List ℕ) → is_file_name bs ≡ true → IsAscii bs
name_ascii [] e i = omega arith
name_ascii (b ∷ bs) e zero = letter_or_digit_small b (and_parts (is_letter_or_digit b) (list_all name_byte bs && nat_lt (length bs) 80) e).0
name_ascii (b ∷ bs) e (suc i) = ascii bs (and_parts (list_all name_byte bs) (nat_lt (length bs) 80) (and_parts (is_letter_or_digit b) (list_all name_byte bs && nat_lt (length bs) 80) e).1).0 i

pub name_utf8 : (bs : List ℕ) → is_file_name bs ≡ true → IsUtf8 bs
name_utf8 bs e = IsUtf8-from_ascii bs (name_ascii bs e)
