-- The vocabulary: which bytes are which symbol.
use Rattle.std.specs.Prelude.{ℕ, ◌==◌, nat_eq, Bool, true, false, ◌||◌, ◌&&◌, not, nat_le, if◌then◌else◌, List, [], ◌∷◌, length, codes, Option, Some, None}
use Rattle.std.specs.Cmp.Lexicographic.{pointwise}
use Rattle.ob_tree.specs.declared.symbol.Symbol.{Symbol}
use Rattle.ob_tree.specs.declared.symbol.Symbol.TheVariants as s

abbrev pub Bytes : Type 0
Bytes = List ℕ

-- ---- bytes

abbrev pub is_between : ℕ → ℕ → ℕ → Bool
is_between low high b = nat_le low b && nat_le b high

abbrev pub is_digit : ℕ → Bool
is_digit b = is_between 48 57 b

abbrev pub is_letter : ℕ → Bool
is_letter b = is_between 65 90 b || is_between 97 122 b

abbrev pub is_letter_or_digit : ℕ → Bool
is_letter_or_digit b = is_letter b || is_digit b

-- 0 to 9, A to F
abbrev pub is_hex_digit : ℕ → Bool
is_hex_digit b = is_digit b || is_between 65 70 b

abbrev pub is_blank : ℕ → Bool
is_blank b = b == 9 || (b == 10 || (b == 13 || b == 32))

-- " and '
abbrev pub is_quote : ℕ → Bool
is_quote b = b == 34 || b == 39

-- what may stand in a string that begins with the mark q
abbrev pub is_plain : ℕ → ℕ → Bool
is_plain q b = nat_le b 127 && (not (b == 10) && not (b == q))

-- ---- texts

abbrev pub is_text : Bytes → Bytes → Bool
is_text text word = pointwise nat_eq text word

abbrev pub all_are : (ℕ → Bool) → Bytes → Bool
all_are f [] = true
all_are f (b ∷ bs) = f b && all_are f bs

-- bytes of one kind, and then this one
abbrev pub ends_in : (ℕ → Bool) → ℕ → Bytes → Bool
ends_in f c [] = false
ends_in f c (b ∷ []) = b == c
ends_in f c (b ∷ d ∷ bs) = f b && ends_in f c (d ∷ bs)

-- a letter, then letters and digits
abbrev pub is_word : Bytes → Bool
is_word [] = false
is_word (b ∷ bs) = is_letter b && all_are is_letter_or_digit bs

-- decimal digits
abbrev pub is_decimal : Bytes → Bool
is_decimal [] = false
is_decimal (b ∷ bs) = is_digit b && all_are is_digit bs

-- a digit, hexadecimal digits, and H or X
abbrev pub is_hex : ℕ → Bytes → Bool
is_hex c [] = false
is_hex c (b ∷ bs) = is_digit b && ends_in is_hex_digit c bs

-- a mark, what is plain, and the same mark
abbrev pub is_string : Bytes → Bool
is_string [] = false
is_string (q ∷ bs) = is_quote q && ends_in (is_plain q) q bs

-- ---- reserved words; any other is an identifier

abbrev pub word_from_return : Bytes → Symbol
word_from_return text =
    if is_text text (codes "RETURN") then s.KwReturn else (
    if is_text text (codes "THEN") then s.KwThen else (
    if is_text text (codes "TO") then s.KwTo else (
    if is_text text (codes "TYPE") then s.KwType else (
    if is_text text (codes "UNTIL") then s.KwUntil else (
    if is_text text (codes "VAR") then s.KwVar else (
    if is_text text (codes "WHILE") then s.KwWhile else (
    if is_text text (codes "WITH") then s.KwWith else (
    s.Ident))))))))

abbrev pub word_from_module : Bytes → Symbol
word_from_module text =
    if is_text text (codes "MODULE") then s.KwModule else (
    if is_text text (codes "NIL") then s.KwNil else (
    if is_text text (codes "OF") then s.KwOf else (
    if is_text text (codes "OR") then s.KwOr else (
    if is_text text (codes "POINTER") then s.KwPointer else (
    if is_text text (codes "PROCEDURE") then s.KwProcedure else (
    if is_text text (codes "RECORD") then s.KwRecord else (
    if is_text text (codes "REPEAT") then s.KwRepeat else (
    word_from_return text))))))))

abbrev pub word_from_end : Bytes → Symbol
word_from_end text =
    if is_text text (codes "END") then s.KwEnd else (
    if is_text text (codes "EXIT") then s.KwExit else (
    if is_text text (codes "FOR") then s.KwFor else (
    if is_text text (codes "IF") then s.KwIf else (
    if is_text text (codes "IMPORT") then s.KwImport else (
    if is_text text (codes "IN") then s.KwIn else (
    if is_text text (codes "IS") then s.KwIs else (
    if is_text text (codes "LOOP") then s.KwLoop else (
    if is_text text (codes "MOD") then s.KwMod else (
    word_from_module text)))))))))

abbrev pub word_symbol : Bytes → Symbol
word_symbol text =
    if is_text text (codes "ARRAY") then s.KwArray else (
    if is_text text (codes "BEGIN") then s.KwBegin else (
    if is_text text (codes "BY") then s.KwBy else (
    if is_text text (codes "CASE") then s.KwCase else (
    if is_text text (codes "CONST") then s.KwConst else (
    if is_text text (codes "DIV") then s.KwDiv else (
    if is_text text (codes "DO") then s.KwDo else (
    if is_text text (codes "ELSE") then s.KwElse else (
    if is_text text (codes "ELSIF") then s.KwElsif else (
    word_from_end text)))))))))

-- ---- marks

abbrev pub mark_of_one : ℕ → Option Symbol
mark_of_one b =
    if b == 43 then Some s.Plus else (
    if b == 45 then Some s.Minus else (
    if b == 42 then Some s.Star else (
    if b == 47 then Some s.Slash else (
    if b == 126 then Some s.Tilde else (
    if b == 38 then Some s.Ampersand else (
    if b == 46 then Some s.Dot else (
    if b == 44 then Some s.Comma else (
    if b == 59 then Some s.Semicolon else (
    if b == 124 then Some s.Bar else (
    if b == 40 then Some s.LeftRound else (
    if b == 91 then Some s.LeftSquare else (
    if b == 123 then Some s.LeftCurly else (
    if b == 94 then Some s.Caret else (
    if b == 61 then Some s.Equal else (
    if b == 35 then Some s.Hash else (
    if b == 60 then Some s.Less else (
    if b == 62 then Some s.Greater else (
    if b == 58 then Some s.Colon else (
    if b == 41 then Some s.RightRound else (
    if b == 93 then Some s.RightSquare else (
    if b == 125 then Some s.RightCurly else (
    None))))))))))))))))))))))

abbrev pub mark_of_two : ℕ → ℕ → Option Symbol
mark_of_two a b =
    if a == 58 && b == 61 then Some s.Becomes else (
    if a == 60 && b == 61 then Some s.LessEqual else (
    if a == 62 && b == 61 then Some s.GreaterEqual else (
    if a == 46 && b == 46 then Some s.DotDot else (
    None))))

abbrev pub mark_of : Bytes → Option Symbol
mark_of [] = None
mark_of (a ∷ []) = mark_of_one a
mark_of (a ∷ b ∷ []) = mark_of_two a b
mark_of (a ∷ b ∷ c ∷ bs) = None

-- ---- symbols

-- the symbol that these bytes are; an identifier has at most 64 characters
abbrev pub symbol_of : Bytes → Option Symbol
symbol_of text =
    if is_word text then (if nat_le (length text) 64 then Some (word_symbol text) else None)
    else (if is_decimal text || is_hex 72 text then Some s.Int
    else (if is_hex 88 text then Some s.Char
    else (if is_string text then Some s.Str else mark_of text)))
