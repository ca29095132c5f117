-- A token that is a string has characters between its marks.
use Rattle.std.proofs.Common.{◌≡◌, ℕ, zero, suc, ◌<◌, ◌≤◌, Bool, true, false, cond, [], ◌∷◌, length, take, Option, Some, None, Result, Err, refl, sym, ap, ◌∙◌, arith}
use Rattle.std.specs.Prelude.{◌-◌, ◌&&◌, ◌||◌, ◌==◌, nat_le, nat_lt, codes}
use Rattle.std.specs.List.{AllByRecursion}
use Rattle.std.proofs.lemmas.Bool.{false≢true, and_parts, leb-true}
use Rattle.ob_tree.specs.declared.symbol.Symbol.{Symbol}
use Rattle.ob_tree.specs.declared.symbol.Symbol.TheVariants as s
use Rattle.ob_tree.specs.declared.token.Token.{Token}
use Rattle.ob_tree.specs.declared.pos.Pos.{Pos}
use Rattle.ob_scan.specs.declared.fault.ScanFault.{ScanFault}
use Rattle.ob_scan.specs.declared.fault.ScanFault.TheVariants as fault
use Rattle.ob_scan.specs.Vocabulary.{Bytes, is_text, is_word, is_decimal, is_hex, is_plain, is_quote, ends_in, is_string, mark_of, mark_of_one, mark_of_two, word_from_return, word_from_module, word_from_end, word_symbol, symbol_of}
use Rattle.ob_scan.specs.Scanning.{Input, Gap, Behind, Unfinished, Step, Gives, Faults, or_shorter, longest, known, is_too_long, is_real, taken, token_in, after_gap, behind, step}
use Rattle.ob_parse_grammar.specs.Phrase.{Tokens, same}
use Rattle.ob_parse_grammar.specs.Expressions.{between_marks}
use Rattle.ob_parse_grammar.specs.Texts.{listed, tokens_in}
use Rattle.law_typing.specs.Spelled.{are_bytes}
use Rattle.law_lists.proofs.Lists.{both_true}

-- whether a symbol is that of a string
abbrev pub is_str : Option Symbol → Bool
is_str (Some s.Str) = true
is_str _ = false

abbrev IsBetween : Bytes → Type 0
IsBetween text = are_bytes (between_marks text) ≡ true

-- a string has characters between its marks
abbrev pub IsSpelledToken : Token → Type 0
IsSpelledToken t = is_str (Some t.symbol) ≡ true → are_bytes (between_marks t.text.now) ≡ true

-- ---- one symbol

neither : (b : Bool) (x y : Option Symbol) → is_str x ≡ false → is_str y ≡ false → is_str (cond b x y) ≡ false
neither true x y e f = e
neither false x y e f = f

no_mark_of_one : (b : ℕ) → is_str (mark_of_one b) ≡ false
no_mark_of_one b = neither (b == 43) (Some s.Plus) _ refl (
    neither (b == 45) (Some s.Minus) _ refl (
    neither (b == 42) (Some s.Star) _ refl (
    neither (b == 47) (Some s.Slash) _ refl (
    neither (b == 126) (Some s.Tilde) _ refl (
    neither (b == 38) (Some s.Ampersand) _ refl (
    neither (b == 46) (Some s.Dot) _ refl (
    neither (b == 44) (Some s.Comma) _ refl (
    neither (b == 59) (Some s.Semicolon) _ refl (
    neither (b == 124) (Some s.Bar) _ refl (
    neither (b == 40) (Some s.LeftRound) _ refl (
    neither (b == 91) (Some s.LeftSquare) _ refl (
    neither (b == 123) (Some s.LeftCurly) _ refl (
    neither (b == 94) (Some s.Caret) _ refl (
    neither (b == 61) (Some s.Equal) _ refl (
    neither (b == 35) (Some s.Hash) _ refl (
    neither (b == 60) (Some s.Less) _ refl (
    neither (b == 62) (Some s.Greater) _ refl (
    neither (b == 58) (Some s.Colon) _ refl (
    neither (b == 41) (Some s.RightRound) _ refl (
    neither (b == 93) (Some s.RightSquare) _ refl (
    neither (b == 125) (Some s.RightCurly) _ refl (
    refl))))))))))))))))))))))

no_mark_of_two : (a b : ℕ) → is_str (mark_of_two a b) ≡ false
no_mark_of_two a b = neither (a == 58 && b == 61) (Some s.Becomes) _ refl (
    neither (a == 60 && b == 61) (Some s.LessEqual) _ refl (
    neither (a == 62 && b == 61) (Some s.GreaterEqual) _ refl (
    neither (a == 46 && b == 46) (Some s.DotDot) _ refl (
    refl))))

no_mark : (text : Bytes) → is_str (mark_of text) ≡ false
no_mark [] = refl
no_mark (a ∷ []) = no_mark_of_one a
no_mark (a ∷ b ∷ []) = no_mark_of_two a b
no_mark (a ∷ b ∷ c ∷ bs) = refl

abbrev NoStr : Symbol → Type 0
NoStr x = is_str (Some x) ≡ false

either_word : (b : Bool) (x y : Symbol) → NoStr x → NoStr y → NoStr (cond b x y)
either_word true x y e f = e
either_word false x y e f = f

return_word : (t : Bytes) → NoStr (word_from_return t)
return_word t =
    either_word (is_text t (codes "RETURN")) s.KwReturn _ refl (
    either_word (is_text t (codes "THEN")) s.KwThen _ refl (
    either_word (is_text t (codes "TO")) s.KwTo _ refl (
    either_word (is_text t (codes "TYPE")) s.KwType _ refl (
    either_word (is_text t (codes "UNTIL")) s.KwUntil _ refl (
    either_word (is_text t (codes "VAR")) s.KwVar _ refl (
    either_word (is_text t (codes "WHILE")) s.KwWhile _ refl (
    either_word (is_text t (codes "WITH")) s.KwWith _ refl (
    refl))))))))

module_word : (t : Bytes) → NoStr (word_from_module t)
module_word t =
    either_word (is_text t (codes "MODULE")) s.KwModule _ refl (
    either_word (is_text t (codes "NIL")) s.KwNil _ refl (
    either_word (is_text t (codes "OF")) s.KwOf _ refl (
    either_word (is_text t (codes "OR")) s.KwOr _ refl (
    either_word (is_text t (codes "POINTER")) s.KwPointer _ refl (
    either_word (is_text t (codes "PROCEDURE")) s.KwProcedure _ refl (
    either_word (is_text t (codes "RECORD")) s.KwRecord _ refl (
    either_word (is_text t (codes "REPEAT")) s.KwRepeat _ refl (
    return_word t))))))))

end_word : (t : Bytes) → NoStr (word_from_end t)
end_word t =
    either_word (is_text t (codes "END")) s.KwEnd _ refl (
    either_word (is_text t (codes "EXIT")) s.KwExit _ refl (
    either_word (is_text t (codes "FOR")) s.KwFor _ refl (
    either_word (is_text t (codes "IF")) s.KwIf _ refl (
    either_word (is_text t (codes "IMPORT")) s.KwImport _ refl (
    either_word (is_text t (codes "IN")) s.KwIn _ refl (
    either_word (is_text t (codes "IS")) s.KwIs _ refl (
    either_word (is_text t (codes "LOOP")) s.KwLoop _ refl (
    either_word (is_text t (codes "MOD")) s.KwMod _ refl (
    module_word t)))))))))

no_word : (t : Bytes) → NoStr (word_symbol t)
no_word t =
    either_word (is_text t (codes "ARRAY")) s.KwArray _ refl (
    either_word (is_text t (codes "BEGIN")) s.KwBegin _ refl (
    either_word (is_text t (codes "BY")) s.KwBy _ refl (
    either_word (is_text t (codes "CASE")) s.KwCase _ refl (
    either_word (is_text t (codes "CONST")) s.KwConst _ refl (
    either_word (is_text t (codes "DIV")) s.KwDiv _ refl (
    either_word (is_text t (codes "DO")) s.KwDo _ refl (
    either_word (is_text t (codes "ELSE")) s.KwElse _ refl (
    either_word (is_text t (codes "ELSIF")) s.KwElsif _ refl (
    end_word t)))))))))

-- ---- characters

plain_low : (q b : ℕ) → is_plain q b ≡ true → nat_lt b 256 ≡ true
plain_low q b e =
    let h : b ≤ 127 = leb-true b 127 (and_parts (nat_le b 127) _ e).0 in
    let k : b < 256 = omega (arith, h) in
    below b 256 k
  where
    below : (n limit : ℕ) → n < limit → nat_lt n limit ≡ true
    below n limit h = grind (arith, h)

-- up to the last mark
up_to : (q : ℕ) (bs : Bytes) → ends_in (is_plain q) q bs ≡ true → are_bytes (take (length bs - 1) bs) ≡ true
up_to q [] e = refl
up_to q (b ∷ []) e = refl
up_to q (b ∷ d ∷ bs) e =
    let p = and_parts (is_plain q b) (ends_in (is_plain q) q (d ∷ bs)) e in
    let n : length (b ∷ d ∷ bs) - 1 ≡ suc (length bs) = omega arith in
    let m : length (d ∷ bs) - 1 ≡ length bs = omega arith in
    ap (λ k. are_bytes (take k (b ∷ d ∷ bs))) n
    ∙ both_true (nat_lt b 256) (are_bytes (take (length bs) (d ∷ bs))) (plain_low q b p.0) (ap (λ k. are_bytes (take k (d ∷ bs))) (sym m) ∙ up_to q (d ∷ bs) p.1)

string_between : (text : Bytes) → is_string text ≡ true → IsBetween text
string_between [] e = refl
string_between (q ∷ bs) e =
    let n : length (q ∷ bs) - 2 ≡ length bs - 1 = omega arith in
    ap (λ k. are_bytes (take k bs)) n ∙ up_to q bs (and_parts (is_quote q) (ends_in (is_plain q) q bs) e).1

symbol_between : (text : Bytes) → is_str (symbol_of text) ≡ true → IsBetween text
symbol_between text e = go (is_word text) (nat_le (length text) 64) (is_decimal text || is_hex 72 text) (is_hex 88 text) (is_string text) refl e
  where
    go : (w l n c t : Bool) → is_string text ≡ t → is_str (cond w (cond l (Some (word_symbol text)) None) (cond n (Some s.Int) (cond c (Some s.Char) (cond t (Some s.Str) (mark_of text))))) ≡ true → IsBetween text
    go true true n c t i e = absurd (false≢true (sym (no_word text) ∙ e))
    go true false n c t i e = absurd (false≢true e)
    go false l true c t i e = absurd (false≢true e)
    go false l false true t i e = absurd (false≢true e)
    go false l false false true i e = string_between text i
    go false l false false false i e = absurd (false≢true (sym (no_mark text) ∙ e))

-- ---- one token

abbrev IsFound : Bytes → Option (Symbol × ℕ) → Type 0
IsFound text None = Unit {0}
IsFound text (Some x) = symbol_of (take x.1 text) ≡ Some x.0

longest_found : (n : ℕ) (text : Bytes) → IsFound text (longest n text)
longest_found zero text = tt
longest_found (suc n) text = go (symbol_of (take (suc n) text)) refl (longest_found n text)
  where
    go : (o : Option Symbol) → symbol_of (take (suc n) text) ≡ o → IsFound text (longest n text) → IsFound text (or_shorter o (suc n) (longest n text))
    go None e h = h
    go (Some x) e h = e

abbrev IsSpelledStep : Step → Type 0
IsSpelledStep (Gives l j) = is_str (Some l.symbol) ≡ true → IsBetween l.text
IsSpelledStep (Faults f) = Unit {0}

known_spelled : (i : Input) (p : Pos) (o : Option (Symbol × ℕ)) → IsFound i.text o → IsSpelledStep (taken i (known p o))
known_spelled i p None h = tt
known_spelled i p (Some x) h = λ e. symbol_between (take x.1 i.text) (ap is_str h ∙ e)

either_spelled : (i : Input) (b : Bool) (f : ScanFault) (r : Result (Symbol × ℕ) ScanFault) → IsSpelledStep (taken i r) → IsSpelledStep (taken i (cond b (Err f) r))
either_spelled i true f r h = tt
either_spelled i false f r h = h

token_spelled : (p : Pos) (text : Bytes) → IsSpelledStep (token_in p text)
token_spelled p [] = λ e. absurd (false≢true e)
token_spelled p (b ∷ bs) =
    let i : Input = record { text = b ∷ bs; pos = p } in
    either_spelled i (is_too_long (b ∷ bs)) (fault.Limit p) _
    (either_spelled i (is_real (b ∷ bs)) (fault.Real p) _
    (known_spelled i p (longest (length (b ∷ bs)) (b ∷ bs)) (longest_found (length (b ∷ bs)) (b ∷ bs))))

gap_spelled : (g : Gap) → IsSpelledStep (after_gap g)
gap_spelled (Behind i) = token_spelled i.pos i.text
gap_spelled (Unfinished start) = tt

step_spelled : (i : Input) → IsSpelledStep (step i)
step_spelled i = gap_spelled (behind zero i.pos i.pos i.text)

-- ---- all tokens

pub tokens_spelled : (k : ℕ) (i : Input) → AllByRecursion IsSpelledToken (tokens_in k i)
tokens_spelled zero i = tt
tokens_spelled (suc k) i = go (step i) (step_spelled i) (λ j. tokens_spelled k j)
  where
    ends : (b : Bool) (ts : Tokens) → AllByRecursion IsSpelledToken ts → AllByRecursion IsSpelledToken (cond b [] ts)
    ends true ts h = tt
    ends false ts h = h

    go : (r : Step) → IsSpelledStep r → ((j : Input) → AllByRecursion IsSpelledToken (tokens_in k j)) → AllByRecursion IsSpelledToken (listed r (λ j. tokens_in k j))
    go (Gives l j) h more = (h, ends (same l.symbol s.End) (tokens_in k j) (more j))
    go (Faults f) h more = tt
