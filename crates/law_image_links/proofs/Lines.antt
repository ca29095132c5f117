-- The words of the strings that lines lay down, one behind the other.
use Rattle.std.proofs.Common.{◌≡◌, ℕ, ◌+◌, List, [], ◌∷◌, ◌++◌, length, refl, sym, ap, ◌∙◌, arith, append_assoc, append-nil, length-append}
use Rattle.std.proofs.lemmas.List.{length-take-le, length-replicate}
use Rattle.std.specs.Prelude.{ℤ, pos, map, replicate}
use Rattle.ob_obj.specs.declared.parts.StringConst.{StringConst}
use Rattle.ob_obj.specs.Grammar.{words_of}
use Rattle.ob_meaning.specs.Values.{Program}
use Rattle.ob_scheme.specs.Lines.{Operand, Number, StringHere, OtherVariable, OtherProcedure, OtherType, Line}
use Rattle.ob_scheme.specs.Numbers.{Named, with_operand, with_line, with_lines}
use Rattle.law_simulation_relation.specs.Layout.{slots_words, variables_in}
use Rattle.law_simulation_relation.specs.Texts.{text_words, texts_in}
use Rattle.law_image_code.specs.Standing.{past, StringIs, StringsStand}

-- the words of a string that an operand names
abbrev pub operand_words : Operand → List ℤ
operand_words (Number z) = []
operand_words (StringHere text n) = text_words text n
operand_words (OtherVariable m x) = []
operand_words (OtherProcedure m x) = []
operand_words (OtherType own q) = []

abbrev pub lines_words : List Line → List ℤ
lines_words [] = []
lines_words (l ∷ ls) = operand_words l.a ++ (operand_words l.b ++ lines_words ls)

-- LINES BEHIND LINES

pub words_two : (a b : List Line) → lines_words (a ++ b) ≡ lines_words a ++ lines_words b
words_two [] b = refl
words_two (l ∷ a) b = ap (λ x. operand_words l.a ++ (operand_words l.b ++ x)) (words_two a b) ∙ ap (λ x. operand_words l.a ++ x) (sym (append_assoc (operand_words l.b) (lines_words a) (lines_words b))) ∙ sym (append_assoc (operand_words l.a) (operand_words l.b ++ lines_words a) (lines_words b))

pub two : (a b : List Line) (x y : List ℤ) → lines_words a ≡ x → lines_words b ≡ y → lines_words (a ++ b) ≡ x ++ y
two a b x y e f = words_two a b ∙ ap (λ z. z ++ lines_words b) e ∙ ap (λ z. x ++ z) f

-- behind them, or before them, lines without strings
pub then_none : (a b : List Line) (x : List ℤ) → lines_words a ≡ x → lines_words b ≡ [] → lines_words (a ++ b) ≡ x
then_none a b x e f = two a b x [] e f ∙ append-nil x

pub none_then : (a b : List Line) (y : List ℤ) → lines_words a ≡ [] → lines_words b ≡ y → lines_words (a ++ b) ≡ y
none_then a b y e f = two a b [] y e f

-- a line without strings
pub no_string : (l : Line) (ls : List Line) → operand_words l.a ≡ [] → operand_words l.b ≡ [] → lines_words (l ∷ ls) ≡ lines_words ls
no_string l ls e f = ap (λ x. x ++ (operand_words l.b ++ lines_words ls)) e ∙ ap (λ x. x ++ lines_words ls) f

-- THEIR NUMBER

pub text_length : (text : List ℕ) (n : ℕ) → length (text_words text n) ≡ n
text_length text n =
    let l = map pos text ++ replicate n (pos 0) in
    let h : length l ≡ length (map pos text) + n = length-append (map pos text) (replicate n (pos 0)) ∙ ap (λ k. length (map pos text) + k) (length-replicate n (pos 0)) in
    length-take-le n l (omega arith)

pub past_is : (o : Operand) (n : ℕ) → past o n ≡ n + length (operand_words o)
past_is (Number z) n = omega arith
past_is (StringHere text k) n = ap (λ m. n + m) (sym (text_length text k))
past_is (OtherVariable m x) n = omega arith
past_is (OtherProcedure m x) n = omega arith
past_is (OtherType own q) n = omega arith

one_more : (strings : List StringConst) (s : StringConst) → words_of (strings ++ s ∷ []) ≡ words_of strings + s.words
one_more [] s = omega arith
one_more (x ∷ strings) s = let h = one_more strings s in omega (arith, h)

operand_strings : (n : Named) (o : Operand) → words_of (with_operand n o).strings ≡ words_of n.strings + length (operand_words o)
operand_strings n (Number z) = omega arith
operand_strings n (StringHere text k) = one_more n.strings (record { text = text; words = k }) ∙ ap (λ m. words_of n.strings + m) (sym (text_length text k))
operand_strings n (OtherVariable m x) = omega arith
operand_strings n (OtherProcedure m x) = omega arith
operand_strings n (OtherType own q) = omega arith

-- the strings of a file are those of its lines
pub lines_strings : (n : Named) (ls : List Line) → words_of (with_lines n ls).strings ≡ words_of n.strings + length (lines_words ls)
lines_strings n [] = omega arith
lines_strings n (l ∷ ls) =
    let a = operand_strings n l.a in
    let b = operand_strings (with_operand n l.a) l.b in
    let r = lines_strings (with_line n l) ls in
    omega (arith, a, b, r, length-append (operand_words l.a) (operand_words l.b ++ lines_words ls), length-append (operand_words l.b) (lines_words ls))

-- STRINGS THAT STAND AMONG THE WORDS OF A MODULE

module _ (program : Program) (unit : List ℕ) where
  operand_stands : (o : Operand) (before behind : List ℤ) (at : ℕ) → texts_in program program unit ≡ before ++ (operand_words o ++ behind) → slots_words (variables_in program program unit) + length before ≡ at → StringIs program unit o at
  operand_stands (Number z) before behind at e f = tt
  operand_stands (StringHere text n) before behind at e f = record { before = before; behind = behind; is = e; offset = f }
  operand_stands (OtherVariable m x) before behind at e f = tt
  operand_stands (OtherProcedure m x) before behind at e f = tt
  operand_stands (OtherType own q) before behind at e f = tt

  next_at : (o : Operand) (before : List ℤ) (at : ℕ) → slots_words (variables_in program program unit) + length before ≡ at → slots_words (variables_in program program unit) + length (before ++ operand_words o) ≡ past o at
  next_at o before at f = let p = past_is o at in let l = length-append before (operand_words o) in omega (arith, f, p, l)

  pub strings_stand : (ls : List Line) (before behind : List ℤ) (at : ℕ) → texts_in program program unit ≡ before ++ (lines_words ls ++ behind) → slots_words (variables_in program program unit) + length before ≡ at → StringsStand program unit ls at
  strings_stand [] before behind at e f = tt
  strings_stand (l ∷ ls) before behind at e f =
      let x = operand_words l.a in
      let y = operand_words l.b in
      let z = lines_words ls in
      let first : texts_in program program unit ≡ before ++ (x ++ ((y ++ z) ++ behind)) = e ∙ ap (λ k. before ++ k) (append_assoc x (y ++ z) behind) in
      let second : texts_in program program unit ≡ (before ++ x) ++ (y ++ (z ++ behind)) = first ∙ ap (λ k. before ++ (x ++ k)) (append_assoc y z behind) ∙ sym (append_assoc before x (y ++ (z ++ behind))) in
      let third : texts_in program program unit ≡ ((before ++ x) ++ y) ++ (z ++ behind) = second ∙ sym (append_assoc (before ++ x) y (z ++ behind)) in
      let here = next_at l.a before at f in (
        operand_stands l.a before ((y ++ z) ++ behind) at first f,
        (operand_stands l.b (before ++ x) (z ++ behind) (past l.a at) second here, strings_stand ls ((before ++ x) ++ y) behind (past l.b (past l.a at)) third (next_at l.b (before ++ x) (past l.a at) here)),
      )
