-- Identifiers are words.
use Rattle.std.proofs.Common.{◌≡◌, ℕ, Bool, true, false, List, [], ◌∷◌, refl, sym, ap, ◌∙◌}
use Rattle.std.specs.Prelude.{not, ◌||◌, ◌==◌, nat_le, length}
use Rattle.std.specs.List.{list_all}
use Rattle.std.specs.Char.{is_ascii_alphabetic, is_ascii_alphanumeric}
use Rattle.std.specs.Int.{is_in_range}
use Rattle.std.proofs.lemmas.Bool.{and_parts, and_from, or_from, eqb-true}
use Rattle.ob_format.specs.Names.{is_letters, is_identifier}
use Rattle.law_names_distinct.specs.Parts.{is_mark}
use Rattle.law_names_distinct.specs.Named.{is_word}

no_mark : (c k : ℕ) → is_ascii_alphanumeric c ≡ true → is_ascii_alphanumeric k ≡ false → (c == k) ≡ false
no_mark c k a n = by (c == k) refl
  where
    by : (b : Bool) → (c == k) ≡ b → b ≡ false
    by true e = let bad : true ≡ false = sym a ∙ ap is_ascii_alphanumeric (eqb-true c k e) ∙ n in absurd cc
    by false e = refl

letter_or_digit : (c : ℕ) → is_ascii_alphanumeric c ≡ true → is_mark c ≡ false
letter_or_digit c a =
    or_from (c == 47) _ (no_mark c 47 a refl) (
    or_from (c == 58) _ (no_mark c 58 a refl) (
    or_from (c == 94) _ (no_mark c 94 a refl) (
    or_from (c == 91) _ (no_mark c 91 a refl) (
    or_from (c == 46) (c == 40) (no_mark c 46 a refl) (no_mark c 40 a refl)))))

turned : (u l d : Bool) → (u || l) ≡ true → (d || u) || l ≡ true
turned true l true e = refl
turned true l false e = refl
turned false true true e = refl
turned false true false e = refl
turned false false d e = absurd cc

no_marks : (b : Bool) → b ≡ false → not b ≡ true
no_marks b e = ap not e

letters_word : (cs : List ℕ) → list_all is_ascii_alphanumeric cs ≡ true → is_word cs ≡ true
letters_word [] e = refl
letters_word (c ∷ cs) e =
    let p = and_parts (is_ascii_alphanumeric c) (list_all is_ascii_alphanumeric cs) e in
    and_from (not (is_mark c)) (is_word cs) (no_marks (is_mark c) (letter_or_digit c p.0)) (letters_word cs p.1)

all_word : (x : List ℕ) → is_letters x ≡ true → is_word x ≡ true
all_word [] e = absurd cc
all_word (c ∷ cs) e =
    let p = and_parts (is_ascii_alphabetic c) (list_all is_ascii_alphanumeric cs) e in
    and_from (not (is_mark c)) (is_word cs) (no_marks (is_mark c) (letter_or_digit c (turned (is_in_range 65 90 c) (is_in_range 97 122 c) (is_in_range 48 57 c) p.0))) (letters_word cs p.1)

pub identifier_word : (x : List ℕ) → is_identifier x ≡ true → is_word x ≡ true
identifier_word x e = all_word x (and_parts (is_letters x) (nat_le (length x) 64) e).0
