-- What parsing a text answers is its reading.
use Rattle.std.proofs.Common.{◌≡◌, refl, sym, ap, subst, ◌∙◌, ℕ, zero, suc, ◌+◌, ◌<◌, Bool, true, false, List, [], ◌∷◌, length, Option, Some, None, Result, Ok, Err, arith}
use denote.Enum.Bare.{same_true, true_same}
use Rattle.ob_tree.specs.contracts.symbol.Symbol.{the_type}
use Rattle.ob_tree.specs.declared.symbol.Symbol.TheVariants as s
use Rattle.ob_tree.specs.declared.token.Token.{Token}
use Rattle.ob_tree.specs.declared.pos.Pos.{Pos}
use Rattle.ob_tree.specs.declared.decl.Module.{Module}
use Rattle.ob_scan.specs.declared.fault.ScanFault.{ScanFault}
use Rattle.ob_scan.specs.declared.fault.ScanFault.TheVariants as scanning
use Rattle.ob_scan.specs.Scanning.{Input, lexeme_of, Gives, Faults, step, start_of, Leads, Scans}
use Rattle.ob_parse_grammar.specs.Phrase.{Tokens, same}
use Rattle.ob_parse_grammar.specs.Reading.{Wrong, Deep, Read, Found, Fails}
use Rattle.ob_parse_grammar.specs.Declarations.{«module»}
use Rattle.ob_parse_grammar.specs.Grammar.{reads}
use Rattle.ob_parse_expr.specs.Contract.{IsAt}
use Rattle.ob_parse_grammar.specs.Texts.{tokens_of}
use Rattle.ob_parse_expr.proofs.Texts.{scans_these, step_whole}
use Rattle.ob_parse_grammar.specs.declared.fault.ParseFault.{ParseFault}
use Rattle.ob_parse_grammar.specs.declared.fault.ParseFault.TheVariants as parsing
use Rattle.ob_parse_grammar.specs.Depth.{limit}
use Rattle.ob_parse.specs.Parsed.{Says}
use Rattle.ob_parse_text.specs.declared.fault.TextFault.{TextFault}
use Rattle.ob_parse_text.specs.declared.fault.TextFault.TheVariants as fault
use Rattle.ob_parse_text.specs.Answers.{Answers, Parses}
use Rattle.ob_parse_grammar.specs.TextReading.{NoModule, Scan, Parse, unless_end, fault_behind, fault_within, fault_of, place_of, parsed, by_fault, reading}
use Rattle.ob_parse_text.specs.Reading.{IsReading}

-- ---- symbols

not_last : (t : Token) → (t.symbol ≡ s.End → ⊥) → (b : Bool) → same t.symbol s.End ≡ b → same t.symbol s.End ≡ false
not_last t n true q = absurd (n (same_true the_type tt t.symbol s.End q))
not_last t n false q = q

more_of : (t : Token) → (t.symbol ≡ s.End → ⊥) → same t.symbol s.End ≡ false
more_of t n = not_last t n (same t.symbol s.End) refl

shorter : (i k : Input) (t : Token) → step i ≡ Gives (lexeme_of t) k → (t.symbol ≡ s.End → ⊥) → length k.text < length i.text
shorter i k t h n = (step_whole i (lexeme_of t) k h).0 (more_of t n)

-- ---- faults of scanning

one_more : (n : ℕ) (i k : Input) (t : Token) → step i ≡ Gives (lexeme_of t) k → (t.symbol ≡ s.End → ⊥) → fault_within (suc n) i ≡ fault_within n k
unfolding fault_within
one_more n i k t h e = ap (fault_behind (fault_within n)) h ∙ ap (λ b. unless_end b (fault_within n k)) (more_of t e)

last_fault : (n : ℕ) (i : Input) (f : ScanFault) → step i ≡ Faults f → fault_within (suc n) i ≡ Some f
unfolding fault_within
last_fault n i f e = ap (fault_behind (fault_within n)) e

last_token : (n : ℕ) (i k : Input) (t : Token) → step i ≡ Gives (lexeme_of t) k → t.symbol ≡ s.End → fault_within (suc n) i ≡ None
unfolding fault_within
last_token n i k t e q = ap (fault_behind (fault_within n)) e ∙ ap (λ b. unless_end b (fault_within n k)) (true_same the_type t.symbol s.End q)

fault_found : (n : ℕ) (i : Input) (front : List Token) (j : Input) (f : ScanFault) → length i.text < n → Leads i front j → step j ≡ Faults f → fault_within n i ≡ Some f
fault_found zero i front j f h l e = absurd (omega arith)
fault_found (suc n) i [] j f h l e = last_fault n i f (ap step l ∙ e)
fault_found (suc n) i (u ∷ us) j f h l e =
    let less = shorter i l.0 u l.1 l.2 in
    one_more n i l.0 u l.1 l.2 ∙ fault_found n l.0 us j f (omega arith) l.3 e

none_found : (n : ℕ) (i : Input) (front : List Token) (t : Token) (j k : Input) → length i.text < n → Leads i front j → step j ≡ Gives (lexeme_of t) k → t.symbol ≡ s.End → fault_within n i ≡ None
none_found zero i front t j k h l e q = absurd (omega arith)
none_found (suc n) i [] t j k h l e q = last_token n i k t (ap step l ∙ e) q
none_found (suc n) i (u ∷ us) t j k h l e q =
    let less = shorter i l.0 u l.1 l.2 in
    one_more n i l.0 u l.1 l.2 ∙ none_found n l.0 us t j k (omega arith) l.3 e q

enough : (i : Input) → length i.text < suc (length i.text)
enough i = omega arith

no_fault : (i : Input) (ts : Tokens) → Scans i (Ok ts) → fault_of i ≡ None
no_fault i ts h = none_found (suc (length i.text)) i h.0 h.1 h.2 h.3 (enough i) h.5 h.6 h.7

abbrev IsFaulty : Input → ScanFault → Type 0
IsFaulty i f = (ts : List Token) × (j : Input) × Leads i ts j × (step j ≡ Faults f)

faulty : (i : Input) (f : ScanFault) → (f ≡ scanning.Memory → ⊥) → Scans i (Err f) → IsFaulty i f
faulty i scanning.Memory n h = absurd (n refl)
faulty i (scanning.Symbol p) n h = h
faulty i (scanning.Real p) n h = h
faulty i (scanning.Limit p) n h = h

a_fault : (i : Input) (f : ScanFault) → IsFaulty i f → fault_of i ≡ Some f
a_fault i f h = fault_found (suc (length i.text)) i h.0 h.1 f (enough i) h.2 h.3

-- ---- answers of parsing

place_is : (ts : Tokens) (pos : Pos) → IsAt ts pos → pos ≡ place_of ts
place_is [] pos h = h
place_is (t ∷ ts) pos h = h

abbrev said : Result Module ParseFault → Result Module NoModule
said (Ok m) = Ok m
said (Err f) = Err (Parse f)

is_said : (r : Result Module ParseFault) (ts : Tokens) → (r ≡ Err parsing.Memory → ⊥) → Says r ts → parsed (reads limit «module» ts) ≡ said r
is_said (Ok m) ts n h = ap parsed h
is_said (Err parsing.Memory) ts n h = absurd (n refl)
is_said (Err (parsing.Syntax pos)) ts n h = ap parsed h.1 ∙ ap (λ w. Err (Parse (parsing.Syntax w))) (sym (place_is h.0 pos h.2))
is_said (Err (parsing.TooDeep pos)) ts n h = ap parsed h.1 ∙ ap (λ w. Err (Parse (parsing.TooDeep w))) (sym (place_is h.0 pos h.2))

by_tokens : (i : Input) (r : Result Module ParseFault) → (r ≡ Err parsing.Memory → ⊥) → Parses i r → by_fault (fault_of i) i ≡ said r
by_tokens i r n h = ap (λ o. by_fault o i) (no_fault i h.0 h.1) ∙ is_said r (tokens_of i) n (h.2 (tokens_of i) (scans_these i h.0 h.1))

abbrev parsed_as : Module → Result Module ParseFault
parsed_as m = Ok m

abbrev unparsed : ParseFault → Result Module ParseFault
unparsed f = Err f

ok_no_memory : (m : Module) → parsed_as m ≡ Err parsing.Memory → ⊥
ok_no_memory m e = cc

no_memory : (f : ParseFault) → (f ≡ parsing.Memory → ⊥) → unparsed f ≡ Err parsing.Memory → ⊥
no_memory f n e = n (value f parsing.Memory e)
  where
    value : (f g : ParseFault) → unparsed f ≡ unparsed g → f ≡ g
    value f g e = cc

-- ---- the law

pub is_reading : (text : List ℕ) (r : Result Module TextFault) → Answers (start_of text) r → IsReading (reading text) r
unfolding reading
is_reading text (Ok m) h = by_tokens (start_of text) (Ok m) (ok_no_memory m) h
is_reading text (Err (fault.Scan f)) h = ap (λ o. by_fault o (start_of text)) (a_fault (start_of text) f (faulty (start_of text) f h.0 h.1))
is_reading text (Err (fault.Parse f)) h = by_tokens (start_of text) (Err f) (no_memory f h.0) h.1
is_reading text (Err fault.Memory) h = tt
