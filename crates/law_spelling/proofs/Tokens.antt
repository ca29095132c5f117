-- A token that is an identifier has the text of one.
use Rattle.std.proofs.Common.{◌≡◌, ℕ, zero, suc, Bool, true, false, cond, [], ◌∷◌, length, take, Option, Some, None, Result, Err, refl, sym, ap, ◌∙◌}
use Rattle.std.specs.Prelude.{◌&&◌, ◌||◌, ◌==◌, nat_le}
use Rattle.std.specs.List.{list_all, AllByRecursion}
use Rattle.std.proofs.lemmas.Bool.{false≢true, and_parts}
use Rattle.ob_tree.specs.declared.symbol.Symbol.{Symbol}
use Rattle.ob_tree.specs.declared.symbol.Symbol.TheVariants as s
use Rattle.ob_tree.specs.declared.token.Token.{Token}
use Rattle.ob_tree.specs.declared.pos.Pos.{Pos}
use Rattle.ob_scan.specs.declared.fault.ScanFault.{ScanFault}
use Rattle.ob_scan.specs.declared.fault.ScanFault.TheVariants as fault
use Rattle.ob_scan.specs.Vocabulary.{Bytes, all_are, is_word, is_letter, is_letter_or_digit, is_decimal, is_hex, is_string, mark_of, mark_of_one, mark_of_two, word_symbol, symbol_of}
use Rattle.ob_scan.specs.Scanning.{Input, Gap, Behind, Unfinished, Step, Gives, Faults, or_shorter, longest, known, is_too_long, is_real, taken, token_in, after_gap, behind, step}
use Rattle.ob_parse_grammar.specs.Phrase.{Tokens, same}
use Rattle.ob_parse_grammar.specs.Texts.{listed, tokens_in}
use Rattle.std.specs.Char.{is_ascii_alphabetic, is_ascii_alphanumeric}
use Rattle.std.specs.Int.{is_in_range}
use Rattle.ob_format.specs.Names.{is_letters, is_identifier}
use Rattle.law_lists.proofs.Lists.{both_true}

-- whether a symbol is that of a name
abbrev pub is_name : Option Symbol → Bool
is_name (Some s.Ident) = true
is_name _ = false

-- a token with that symbol has the text of a name
abbrev pub IsNamedToken : Token → Type 0
IsNamedToken t = is_name (Some t.symbol) ≡ true → is_identifier t.text.now ≡ true

-- ---- one symbol

neither : (b : Bool) (x y : Option Symbol) → is_name x ≡ false → is_name y ≡ false → is_name (cond b x y) ≡ false
neither true x y e f = e
neither false x y e f = f

no_mark_of_one : (b : ℕ) → is_name (mark_of_one b) ≡ false
no_mark_of_one b = neither (b == 43) (Some s.Plus) _ refl (
    neither (b == 45) (Some s.Minus) _ refl (
    neither (b == 42) (Some s.Star) _ refl (
    neither (b == 47) (Some s.Slash) _ refl (
    neither (b == 126) (Some s.Tilde) _ refl (
    neither (b == 38) (Some s.Ampersand) _ refl (
    neither (b == 46) (Some s.Dot) _ refl (
    neither (b == 44) (Some s.Comma) _ refl (
    neither (b == 59) (Some s.Semicolon) _ refl (
    neither (b == 124) (Some s.Bar) _ refl (
    neither (b == 40) (Some s.LeftRound) _ refl (
    neither (b == 91) (Some s.LeftSquare) _ refl (
    neither (b == 123) (Some s.LeftCurly) _ refl (
    neither (b == 94) (Some s.Caret) _ refl (
    neither (b == 61) (Some s.Equal) _ refl (
    neither (b == 35) (Some s.Hash) _ refl (
    neither (b == 60) (Some s.Less) _ refl (
    neither (b == 62) (Some s.Greater) _ refl (
    neither (b == 58) (Some s.Colon) _ refl (
    neither (b == 41) (Some s.RightRound) _ refl (
    neither (b == 93) (Some s.RightSquare) _ refl (
    neither (b == 125) (Some s.RightCurly) _ refl (
    refl))))))))))))))))))))))

no_mark_of_two : (a b : ℕ) → is_name (mark_of_two a b) ≡ false
no_mark_of_two a b = neither (a == 58 && b == 61) (Some s.Becomes) _ refl (
    neither (a == 60 && b == 61) (Some s.LessEqual) _ refl (
    neither (a == 62 && b == 61) (Some s.GreaterEqual) _ refl (
    neither (a == 46 && b == 46) (Some s.DotDot) _ refl (
    refl))))

no_mark : (text : Bytes) → is_name (mark_of text) ≡ false
no_mark [] = refl
no_mark (a ∷ []) = no_mark_of_one a
no_mark (a ∷ b ∷ []) = no_mark_of_two a b
no_mark (a ∷ b ∷ c ∷ bs) = refl

all_of : (bs : Bytes) → all_are is_letter_or_digit bs ≡ list_all is_letter_or_digit bs
all_of [] = refl
all_of (b ∷ bs) = ap (λ (t : Bool). is_letter_or_digit b && t) (all_of bs)

turned : (u l d : Bool) → (u || l) || d ≡ true → (d || u) || l ≡ true
turned true l true e = refl
turned true l false e = refl
turned false true true e = refl
turned false true false e = refl
turned false false true e = refl
turned false false false e = e

letters : (cs : Bytes) → list_all is_letter_or_digit cs ≡ true → list_all is_ascii_alphanumeric cs ≡ true
letters [] e = refl
letters (c ∷ cs) e =
    let p = and_parts (is_letter_or_digit c) (list_all is_letter_or_digit cs) e in
    both_true (is_ascii_alphanumeric c) (list_all is_ascii_alphanumeric cs) (turned (is_in_range 65 90 c) (is_in_range 97 122 c) (is_in_range 48 57 c) p.0) (letters cs p.1)

word_named : (text : Bytes) → is_word text ≡ true → nat_le (length text) 64 ≡ true → is_identifier text ≡ true
word_named [] w l = absurd (false≢true w)
word_named (b ∷ bs) w l =
    let p = and_parts (is_letter b) (all_are is_letter_or_digit bs) w in
    both_true (is_letters (b ∷ bs)) (nat_le (suc (length bs)) 64) (both_true (is_ascii_alphabetic b) (list_all is_ascii_alphanumeric bs) p.0 (letters bs (sym (all_of bs) ∙ p.1))) l

symbol_named : (text : Bytes) → is_name (symbol_of text) ≡ true → is_identifier text ≡ true
symbol_named text e = go (is_word text) (nat_le (length text) 64) refl refl e
  where
    others : Option Symbol
    others = cond (is_decimal text || is_hex 72 text) (Some s.Int) (cond (is_hex 88 text) (Some s.Char) (cond (is_string text) (Some s.Str) (mark_of text)))

    none : is_name others ≡ false
    none = neither (is_decimal text || is_hex 72 text) _ _ refl (neither (is_hex 88 text) _ _ refl (neither (is_string text) _ _ refl (no_mark text)))

    go : (w l : Bool) → is_word text ≡ w → nat_le (length text) 64 ≡ l → is_name (cond w (cond l (Some (word_symbol text)) None) others) ≡ true → is_identifier text ≡ true
    go true true w l e = word_named text w l
    go true false w l e = absurd (false≢true e)
    go false l w m e = absurd (false≢true (sym none ∙ e))

-- ---- one token

abbrev IsFound : Bytes → Option (Symbol × ℕ) → Type 0
IsFound text None = Unit {0}
IsFound text (Some x) = symbol_of (take x.1 text) ≡ Some x.0

longest_found : (n : ℕ) (text : Bytes) → IsFound text (longest n text)
longest_found zero text = tt
longest_found (suc n) text = go (symbol_of (take (suc n) text)) refl (longest_found n text)
  where
    go : (o : Option Symbol) → symbol_of (take (suc n) text) ≡ o → IsFound text (longest n text) → IsFound text (or_shorter o (suc n) (longest n text))
    go None e h = h
    go (Some x) e h = e

abbrev IsNamedStep : Step → Type 0
IsNamedStep (Gives l j) = is_name (Some l.symbol) ≡ true → is_identifier l.text ≡ true
IsNamedStep (Faults f) = Unit {0}

known_named : (i : Input) (p : Pos) (o : Option (Symbol × ℕ)) → IsFound i.text o → IsNamedStep (taken i (known p o))
known_named i p None h = tt
known_named i p (Some x) h = λ e. symbol_named (take x.1 i.text) (ap is_name h ∙ e)

either_named : (i : Input) (b : Bool) (f : ScanFault) (r : Result (Symbol × ℕ) ScanFault) → IsNamedStep (taken i r) → IsNamedStep (taken i (cond b (Err f) r))
either_named i true f r h = tt
either_named i false f r h = h

token_named : (p : Pos) (text : Bytes) → IsNamedStep (token_in p text)
token_named p [] = λ e. absurd (false≢true e)
token_named p (b ∷ bs) =
    let i : Input = record { text = b ∷ bs; pos = p } in
    either_named i (is_too_long (b ∷ bs)) (fault.Limit p) _
    (either_named i (is_real (b ∷ bs)) (fault.Real p) _
    (known_named i p (longest (length (b ∷ bs)) (b ∷ bs)) (longest_found (length (b ∷ bs)) (b ∷ bs))))

gap_named : (g : Gap) → IsNamedStep (after_gap g)
gap_named (Behind i) = token_named i.pos i.text
gap_named (Unfinished start) = tt

step_named : (i : Input) → IsNamedStep (step i)
step_named i = gap_named (behind zero i.pos i.pos i.text)

-- ---- all tokens

pub tokens_named : (k : ℕ) (i : Input) → AllByRecursion IsNamedToken (tokens_in k i)
tokens_named zero i = tt
tokens_named (suc k) i = go (step i) (step_named i) (λ j. tokens_named k j)
  where
    ends : (b : Bool) (ts : Tokens) → AllByRecursion IsNamedToken ts → AllByRecursion IsNamedToken (cond b [] ts)
    ends true ts h = tt
    ends false ts h = h

    go : (r : Step) → IsNamedStep r → ((j : Input) → AllByRecursion IsNamedToken (tokens_in k j)) → AllByRecursion IsNamedToken (listed r (λ j. tokens_in k j))
    go (Gives l j) h more = (h, ends (same l.symbol s.End) (tokens_in k j) (more j))
    go (Faults f) h more = tt
