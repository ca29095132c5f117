-- The names in a line of a script.
use Rattle.std.proofs.Common.{◌≡◌, ℕ, ◌+◌, ◌-◌, ◌*◌, ◌<◌, ◌≤◌, List, [], ◌∷◌, Bool, true, false, cond, refl, ap, ◌∙◌, codes, Option, Some, None, position, take, drop, bytes_eq, arith, ⊎_elim}
use Rattle.std.specs.Prelude.{zero, suc, nat_le, ◌&&◌, ◌⊎◌}
use Rattle.std.specs.Fmt.{digits}
use Rattle.std.proofs.lemmas.Bool.{leb-true, and_parts}
use Rattle.ob_demo.specs.Source.{module_name}
use Rattle.ob_parse_grammar.specs.Identifiers.{is_identifier}
use Rattle.ob_shell_lines.specs.Lines.{Line, Compile, Compare, Check, Make, Show, Demo, Command, Unknown, Nothing, when, demo_line, count_of, number_if, is_first_digit, is_digit, dotted, is_dot, line_of_two, line_of_three, line_of_words, line_of, words_of, without_return, is_file_name}

-- names of modules and commands are identifiers, and a demo has at most 60 modules
abbrev pub IsNamed : Line → Type 0
IsNamed (Compile file) = Unit {0}
IsNamed (Compare old new) = Unit {0}
IsNamed (Check m) = is_identifier m ≡ true
IsNamed (Make m) = is_identifier m ≡ true
IsNamed (Show m) = Unit {0}
IsNamed (Demo n) = n ≤ 60
IsNamed (Command m command) = (is_identifier m ≡ true) × (is_identifier command ≡ true)
IsNamed Unknown = Unit {0}
IsNamed Nothing = Unit {0}

by_test : (b : Bool) (l : Line) → (b ≡ true → IsNamed l) → IsNamed (when b l)
by_test true l h = h refl
by_test false l h = tt

by_if : (b : Bool) (x y : Line) → IsNamed x → IsNamed y → IsNamed (cond b x y)
by_if true x y h k = h
by_if false x y h k = k

up_to : (n : ℕ) (b : Bool) → nat_le n 60 ≡ b → IsNamed (demo_line (cond b (Some n) None))
up_to n true e = leb-true n 60 e
up_to n false e = tt

if_number : (b : Bool) (n : ℕ) → IsNamed (demo_line (number_if b n))
if_number true n = up_to n (nat_le n 60) refl
if_number false n = tt

of_count : (w : List ℕ) → IsNamed (demo_line (count_of w))
of_count [] = tt
of_count (a ∷ []) = if_number (is_first_digit a) (a - 48)
of_count (a ∷ b ∷ []) = if_number (is_first_digit a && is_digit b) ((a - 48) * 10 + (b - 48))
of_count (a ∷ b ∷ c ∷ more) = tt

of_dotted : (word : List ℕ) (at : Option ℕ) → IsNamed (dotted word at)
of_dotted word None = tt
of_dotted word (Some i) = by_test (is_identifier (take i word) && is_identifier (drop (i + 1) word)) (Command (take i word) (drop (i + 1) word)) (λ e. and_parts (is_identifier (take i word)) (is_identifier (drop (i + 1) word)) e)

of_two : (word other : List ℕ) → IsNamed (line_of_two word other)
of_two word other =
    by_if (bytes_eq word (codes "compile")) (when (is_file_name other) (Compile other)) _ (by_test (is_file_name other) (Compile other) (λ e. tt))
    (by_if (bytes_eq word (codes "check")) (when (is_identifier other) (Check other)) _ (by_test (is_identifier other) (Check other) (λ e. e))
    (by_if (bytes_eq word (codes "show")) (when (is_identifier other) (Show other)) _ (by_test (is_identifier other) (Show other) (λ e. tt))
    (by_if (bytes_eq word (codes "make")) (when (is_identifier other) (Make other)) _ (by_test (is_identifier other) (Make other) (λ e. e))
    (by_if (bytes_eq word (codes "demo")) (demo_line (count_of other)) Unknown (of_count other) tt))))

of_three : (word old new : List ℕ) → IsNamed (line_of_three word old new)
of_three word old new = by_if (bytes_eq word (codes "compare")) (when (is_file_name old && is_file_name new) (Compare old new)) Unknown (by_test (is_file_name old && is_file_name new) (Compare old new) (λ e. tt)) tt

of_words : (ws : List (List ℕ)) → IsNamed (line_of_words ws)
of_words [] = tt
of_words (word ∷ []) = of_dotted word (position is_dot word)
of_words (word ∷ other ∷ []) = of_two word other
of_words (word ∷ old ∷ new ∷ []) = of_three word old new
of_words (word ∷ a ∷ b ∷ c ∷ others) = tt

pub named : (l : List ℕ) → IsNamed (line_of l)
unfolding line_of
named l = of_words (words_of (without_return l))

-- THE LAST MODULE OF A DEMO

abbrev all_below : ℕ → (ℕ → Bool) → Bool
all_below zero test = true
all_below (suc k) test = test k && all_below k test

below : (k : ℕ) (test : ℕ → Bool) → all_below k test ≡ true → (n : ℕ) → n < k → test n ≡ true
below zero test e n h = absurd (omega (arith, h))
below (suc k) test e n h =
    let p = and_parts (test k) (all_below k test) e in
    ⊎_elim (λ (i : n ≡ k). ap test i ∙ p.0) (λ (i : n < k). below k test p.1 n i) (is_last k n h)
  where
    is_last : (k n : ℕ) → n < suc k → (n ≡ k) ⊎ (n < k)
    is_last k n h = grind (arith, h)

all_named : all_below 61 (λ n. is_identifier (module_name n)) ≡ true
unfolding digits
all_named = refl

pub module_named : (n : ℕ) → n ≤ 60 → is_identifier (module_name n) ≡ true
module_named n h = below 61 (λ n. is_identifier (module_name n)) all_named n (omega (arith, h))
