-- The lines of a script, and what each says.
use Rattle.std.specs.Prelude.{ℕ, ◌+◌, ◌-◌, ◌*◌, List, [], ◌∷◌, Bool, true, false, ◌||◌, ◌&&◌, ◌==◌, nat_le, nat_lt, min, if◌then◌else◌, Option, Some, None, codes, take, drop, length, position, slice_index_or, bytes_eq}
use Rattle.std.specs.List.{list_all}
use Rattle.ob_parse_grammar.specs.Identifiers.{is_letter_or_digit, is_identifier}

pub data Line : Type 0 where
  Compile : (file : List ℕ) → Line
  Compare : (old new : List ℕ) → Line
  Check : (m : List ℕ) → Line
  Show : (m : List ℕ) → Line
  Make : (m : List ℕ) → Line
  Demo : (n : ℕ) → Line
  Command : (m command : List ℕ) → Line
  Unknown : Line
  Nothing : Line

-- LINES

-- a byte goes before the first of the lists
abbrev pub onto : ℕ → List (List ℕ) → List (List ℕ)
onto b [] = (b ∷ []) ∷ []
onto b (l ∷ ls) = (b ∷ l) ∷ ls

-- A line ends at a byte 10, or at the end of the script.
unfoldable pub lines_of : List ℕ → List (List ℕ)
lines_of [] = []
lines_of (b ∷ bs) = if b == 10 then [] ∷ lines_of bs else onto b (lines_of bs)

-- LIMITS

-- A line passes a limit where it has more than 1,024 bytes, or where it ends, with the byte 10, behind byte 1,048,576
-- of the script. It begins behind so many bytes.
abbrev pub passes : ℕ → ℕ → List ℕ → Bool
passes total at l = nat_lt 1024 (length l) || nat_lt 1048576 (min (at + length l + 1) total)

-- the lines before the first that passes a limit
unfoldable pub within : ℕ → ℕ → List (List ℕ) → List (List ℕ)
within total at [] = []
within total at (l ∷ ls) = if passes total at l then [] else l ∷ within total (at + length l + 1) ls

-- whether there is one that does
unfoldable pub exceeds : ℕ → ℕ → List (List ℕ) → Bool
exceeds total at [] = false
exceeds total at (l ∷ ls) = passes total at l || exceeds total (at + length l + 1) ls

-- WORDS

-- spaces and tabs
abbrev pub is_blank : ℕ → Bool
is_blank b = (b == 32) || (b == 9)

-- a byte before others: it is a word where a blank or nothing follows, or begins the first word of the others
abbrev pub joined : ℕ → List ℕ → List (List ℕ) → List (List ℕ)
joined b [] ws = (b ∷ []) ∷ ws
joined b (c ∷ cs) ws = if is_blank c then (b ∷ []) ∷ ws else onto b ws

-- the words of a line, which blanks separate
unfoldable pub words_of : List ℕ → List (List ℕ)
words_of [] = []
words_of (b ∷ bs) = if is_blank b then words_of bs else joined b bs (words_of bs)

-- a line without the byte 13 at its end
abbrev pub without_return : List ℕ → List ℕ
without_return l = if slice_index_or l (length l - 1) 0 == 13 then take (length l - 1) l else l

-- WHAT A LINE SAYS

abbrev pub name_byte : ℕ → Bool
name_byte b = is_letter_or_digit b || (b == 46)

-- 1 to 80 letters, digits and dots, of which the first is no dot
abbrev pub is_file_name : List ℕ → Bool
is_file_name [] = false
is_file_name (b ∷ bs) = is_letter_or_digit b && (list_all name_byte bs && nat_lt (length bs) 80)

abbrev pub when : Bool → Line → Line
when true l = l
when false l = Unknown

abbrev pub is_digit : ℕ → Bool
is_digit b = nat_le 48 b && nat_le b 57

-- a digit, but 0
abbrev pub is_first_digit : ℕ → Bool
is_first_digit b = nat_le 49 b && nat_le b 57

abbrev pub up_to_sixty : ℕ → Option ℕ
up_to_sixty n = if nat_le n 60 then Some n else None

abbrev pub number_if : Bool → ℕ → Option ℕ
number_if true n = up_to_sixty n
number_if false n = None

-- 1 to 60, of one or two digits without a zero in front
abbrev pub count_of : List ℕ → Option ℕ
count_of [] = None
count_of (a ∷ []) = number_if (is_first_digit a) (a - 48)
count_of (a ∷ b ∷ []) = number_if (is_first_digit a && is_digit b) ((a - 48) * 10 + (b - 48))
count_of (a ∷ b ∷ c ∷ more) = None

abbrev pub demo_line : Option ℕ → Line
demo_line None = Unknown
demo_line (Some n) = Demo n

abbrev pub is_dot : ℕ → Bool
is_dot b = b == 46

abbrev pub command_line : List ℕ → List ℕ → Line
command_line m command = when (is_identifier m && is_identifier command) (Command m command)

-- a word is split at its first dot
abbrev pub dotted : List ℕ → Option ℕ → Line
dotted word None = Unknown
dotted word (Some i) = command_line (take i word) (drop (i + 1) word)

abbrev pub line_of_two : List ℕ → List ℕ → Line
line_of_two word other =
    if bytes_eq word (codes "compile") then when (is_file_name other) (Compile other)
    else if bytes_eq word (codes "check") then when (is_identifier other) (Check other)
    else if bytes_eq word (codes "show") then when (is_identifier other) (Show other)
    else if bytes_eq word (codes "make") then when (is_identifier other) (Make other)
    else if bytes_eq word (codes "demo") then demo_line (count_of other)
    else Unknown

abbrev pub line_of_three : List ℕ → List ℕ → List ℕ → Line
line_of_three word old new = if bytes_eq word (codes "compare") then when (is_file_name old && is_file_name new) (Compare old new) else Unknown

-- what words say
abbrev pub line_of_words : List (List ℕ) → Line
line_of_words [] = Nothing
line_of_words (word ∷ []) = dotted word (position is_dot word)
line_of_words (word ∷ other ∷ []) = line_of_two word other
line_of_words (word ∷ old ∷ new ∷ []) = line_of_three word old new
line_of_words (word ∷ a ∷ b ∷ c ∷ others) = Unknown

unfoldable pub line_of : List ℕ → Line
line_of l = line_of_words (words_of (without_return l))

-- the lines of a script that are done
abbrev pub done_lines : List ℕ → List (List ℕ)
done_lines script = within (length script) 0 (lines_of script)
