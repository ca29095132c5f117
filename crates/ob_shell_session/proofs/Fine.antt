-- The number of a demo that a line names.
use Rattle.std.proofs.Common.{◌≡◌, ℕ, ◌+◌, ◌-◌, ◌*◌, ◌≤◌, List, [], ◌∷◌, Bool, true, false, cond, refl, subst, codes, Option, Some, None, position, take, drop, bytes_eq, arith}
use Rattle.std.specs.Prelude.{nat_le, ◌&&◌}
use Rattle.std.proofs.lemmas.Bool.{leb-true, and_parts}
use Rattle.ob_parse_grammar.specs.Identifiers.{is_identifier}
use Rattle.ob_shell_lines.specs.Lines.{Line, Compile, Compare, Check, Show, Make, Demo, Command, Unknown, Nothing, when, demo_line, count_of, number_if, up_to_sixty, is_first_digit, is_digit, dotted, is_dot, line_of_two, line_of_words, line_of, words_of, without_return, is_file_name}

abbrev pub IsFine : Line → Type 0
IsFine (Compile file) = Unit {0}
IsFine (Compare old new) = Unit {0}
IsFine (Check m) = Unit {0}
IsFine (Show m) = Unit {0}
IsFine (Make m) = Unit {0}
IsFine (Demo n) = (1 ≤ n) × (n ≤ 60)
IsFine (Command m command) = Unit {0}
IsFine Unknown = Unit {0}
IsFine Nothing = Unit {0}

fine_when : (b : Bool) (l : Line) → IsFine l → IsFine (when b l)
fine_when true l h = h
fine_when false l h = tt

fine_if : (b : Bool) (x y : Line) → IsFine x → IsFine y → IsFine (cond b x y)
fine_if true x y h k = h
fine_if false x y h k = k

fine_upto : (n : ℕ) → 1 ≤ n → (b : Bool) → nat_le n 60 ≡ b → IsFine (demo_line (cond b (Some n) None))
fine_upto n h true e = (h, leb-true n 60 e)
fine_upto n h false e = tt

fine_sixty : (n : ℕ) → 1 ≤ n → IsFine (demo_line (up_to_sixty n))
fine_sixty n h = fine_upto n h (nat_le n 60) refl

fine_one : (a : ℕ) (b : Bool) → is_first_digit a ≡ b → IsFine (demo_line (number_if b (a - 48)))
fine_one a true e = let p = leb-true 49 a (and_parts (nat_le 49 a) (nat_le a 57) e).0 in fine_sixty (a - 48) (omega (arith, p))
fine_one a false e = tt

fine_two : (a c : ℕ) (b : Bool) → (is_first_digit a && is_digit c) ≡ b → IsFine (demo_line (number_if b ((a - 48) * 10 + (c - 48))))
fine_two a c true e = let p = leb-true 49 a (and_parts (nat_le 49 a) (nat_le a 57) (and_parts (is_first_digit a) (is_digit c) e).0).0 in fine_sixty ((a - 48) * 10 + (c - 48)) (omega (arith, p))
fine_two a c false e = tt

fine_count : (w : List ℕ) → IsFine (demo_line (count_of w))
fine_count [] = tt
fine_count (a ∷ []) = fine_one a (is_first_digit a) refl
fine_count (a ∷ c ∷ []) = fine_two a c (is_first_digit a && is_digit c) refl
fine_count (a ∷ b ∷ c ∷ more) = tt

fine_dotted : (word : List ℕ) (o : Option ℕ) → IsFine (dotted word o)
fine_dotted word None = tt
fine_dotted word (Some i) = fine_when (is_identifier (take i word) && is_identifier (drop (i + 1) word)) (Command (take i word) (drop (i + 1) word)) tt

fine_words_of_two : (word other : List ℕ) → IsFine (line_of_two word other)
fine_words_of_two word other =
    let make = cond (bytes_eq word (codes "demo")) (demo_line (count_of other)) Unknown in
    let show = cond (bytes_eq word (codes "make")) (when (is_identifier other) (Make other)) make in
    let check = cond (bytes_eq word (codes "show")) (when (is_identifier other) (Show other)) show in
    let compile = cond (bytes_eq word (codes "check")) (when (is_identifier other) (Check other)) check in
    fine_if (bytes_eq word (codes "compile")) (when (is_file_name other) (Compile other)) compile (fine_when (is_file_name other) (Compile other) tt)
    (fine_if (bytes_eq word (codes "check")) (when (is_identifier other) (Check other)) check (fine_when (is_identifier other) (Check other) tt)
    (fine_if (bytes_eq word (codes "show")) (when (is_identifier other) (Show other)) show (fine_when (is_identifier other) (Show other) tt)
    (fine_if (bytes_eq word (codes "make")) (when (is_identifier other) (Make other)) make (fine_when (is_identifier other) (Make other) tt)
    (fine_if (bytes_eq word (codes "demo")) (demo_line (count_of other)) Unknown (fine_count other) tt))))

fine_words : (ws : List (List ℕ)) → IsFine (line_of_words ws)
fine_words [] = tt
fine_words (word ∷ []) = fine_dotted word (position is_dot word)
fine_words (word ∷ other ∷ []) = fine_words_of_two word other
fine_words (word ∷ old ∷ new ∷ []) = fine_if (bytes_eq word (codes "compare")) (when (is_file_name old && is_file_name new) (Compare old new)) Unknown (fine_when (is_file_name old && is_file_name new) (Compare old new) tt) tt
fine_words (word ∷ a ∷ b ∷ c ∷ others) = tt

fine_line : (l : List ℕ) → IsFine (line_of l)
unfolding line_of
fine_line l = fine_words (words_of (without_return l))

pub fine_demo : (l : List ℕ) (n : ℕ) → line_of l ≡ Demo n → (1 ≤ n) × (n ≤ 60)
fine_demo l n e = subst IsFine e (fine_line l)
