-- A text has one answer.
use Rattle.std.proofs.Common.{◌≡◌, refl, sym, ap, subst, ◌∙◌, List, [], ◌∷◌, map, Result, Ok, Err}
use Rattle.ob_tree.specs.declared.symbol.Symbol.TheVariants as s
use Rattle.ob_tree.specs.declared.token.Token.{Token}
use Rattle.ob_tree.specs.declared.pos.Pos.{Pos}
use Rattle.ob_tree.specs.declared.decl.Module.{Module}
use Rattle.ob_scan.specs.declared.fault.ScanFault.{ScanFault}
use Rattle.ob_scan.specs.declared.fault.ScanFault.TheVariants as scanning
use Rattle.ob_scan.specs.Scanning.{Input, Lexeme, lexeme_of, Gives, Faults, step, Leads, Scans}
use Rattle.ob_parse_grammar.specs.Phrase.{Tokens}
use Rattle.ob_parse_grammar.specs.Reading.{Wrong, Deep, Read, Found, Fails}
use Rattle.ob_parse_grammar.specs.Declarations.{«module»}
use Rattle.ob_parse_grammar.specs.Grammar.{reads}
use Rattle.ob_parse_expr.specs.Contract.{IsAt}
use Rattle.ob_parse_grammar.specs.declared.fault.ParseFault.{ParseFault}
use Rattle.ob_parse_grammar.specs.declared.fault.ParseFault.TheVariants as parsing
use Rattle.ob_parse_grammar.specs.Depth.{limit}
use Rattle.ob_parse.specs.Parsed.{Says}
use Rattle.ob_parse_text.specs.declared.fault.TextFault.{TextFault}
use Rattle.ob_parse_text.specs.declared.fault.TextFault.TheVariants as fault
use Rattle.ob_parse_text.specs.Answers.{Answers, Parses}
use Rattle.ob_parse_text.proofs.Bare.{bares}
use Rattle.ob_parse_text.proofs.Tokens.{scanned_bare}

-- ---- tokens

lexemes_bare : (ts : Tokens) → map lexeme_of (bares ts) ≡ map lexeme_of ts
lexemes_bare [] = refl
lexemes_bare (t ∷ ts) = ap (λ w. lexeme_of t ∷ w) (lexemes_bare ts)

pub same_lexemes : (i : Input) (ts us : Tokens) → Scans i (Ok ts) → Scans i (Ok us) → map lexeme_of ts ≡ map lexeme_of us
same_lexemes i ts us h g =
    sym (lexemes_bare ts) ∙ ap (map lexeme_of) (sym (scanned_bare i ts h) ∙ scanned_bare i us g) ∙ lexemes_bare us

-- ---- faults of scanning

gives_not : (l : Lexeme) (k : Input) (f : ScanFault) → Gives l k ≡ Faults f → ⊥
gives_not l k f e = cc

lexeme_is : (l m : Lexeme) (i j : Input) → Gives l i ≡ Gives m j → l ≡ m
lexeme_is l m i j e = cc

input_is : (l m : Lexeme) (i j : Input) → Gives l i ≡ Gives m j → i ≡ j
input_is l m i j e = cc

fault_is : (f g : ScanFault) → Faults f ≡ Faults g → f ≡ g
fault_is f g e = cc

apart : (i : Input) (ts : List Token) (t : Token) (j k : Input) → Leads i ts j → step j ≡ Gives (lexeme_of t) k → t.symbol ≡ s.End
    → (us : List Token) (m : Input) (f : ScanFault) → Leads i us m → step m ≡ Faults f → ⊥
apart i [] t j k h e q [] m f g d = gives_not (lexeme_of t) k f (sym e ∙ (ap step (sym h ∙ g) ∙ d))
apart i [] t j k h e q (v ∷ vs) m f g d = g.2 (ap (λ l. l.symbol) (lexeme_is _ _ _ _ (sym g.1 ∙ (ap step h ∙ e))) ∙ q)
apart i (u ∷ us) t j k h e q [] m f g d = gives_not (lexeme_of u) h.0 f (sym h.1 ∙ (ap step g ∙ d))
apart i (u ∷ us) t j k h e q (v ∷ vs) m f g d =
    let K : Input → Type 0 = λ w. Leads w vs m in
    apart h.0 us t j k h.3 e q vs m f (subst K (input_is _ _ _ _ (sym g.1 ∙ h.1)) g.3) d

one_fault : (i : Input) (ts : List Token) (j : Input) (f : ScanFault) → Leads i ts j → step j ≡ Faults f
    → (us : List Token) (m : Input) (g : ScanFault) → Leads i us m → step m ≡ Faults g → f ≡ g
one_fault i [] j f h e [] m g k d = fault_is f g (sym e ∙ (ap step (sym h ∙ k) ∙ d))
one_fault i [] j f h e (v ∷ vs) m g k d = absurd (gives_not (lexeme_of v) k.0 f (sym k.1 ∙ (ap step h ∙ e)))
one_fault i (u ∷ us) j f h e [] m g k d = absurd (gives_not (lexeme_of u) h.0 g (sym h.1 ∙ (ap step k ∙ d)))
one_fault i (u ∷ us) j f h e (v ∷ vs) m g k d =
    let K : Input → Type 0 = λ w. Leads w vs m in
    one_fault h.0 us j f h.3 e vs m g (subst K (input_is _ _ _ _ (sym k.1 ∙ h.1)) k.3) d

abbrev IsFaulty : Input → ScanFault → Type 0
IsFaulty i f = (ts : List Token) × (j : Input) × Leads i ts j × (step j ≡ Faults f)

faulty : (i : Input) (f : ScanFault) → (f ≡ scanning.Memory → ⊥) → Scans i (Err f) → IsFaulty i f
faulty i scanning.Memory n h = absurd (n refl)
faulty i (scanning.Symbol p) n h = h
faulty i (scanning.Real p) n h = h
faulty i (scanning.Limit p) n h = h

has_none : (i : Input) (ts : Tokens) (f : ScanFault) → Scans i (Ok ts) → IsFaulty i f → ⊥
has_none i ts f h g = apart i h.0 h.1 h.2 h.3 h.5 h.6 h.7 g.0 g.1 f g.2 g.3

-- ---- answers of parsing

abbrev place : Tokens → Pos
place [] = record { line = 0; col = 0 }
place (t ∷ ts) = t.pos

abbrev said : Read Module → Result Module ParseFault
said (Found m r) = Ok m
said (Fails Wrong r) = Err (parsing.Syntax (place r))
said (Fails Deep r) = Err (parsing.TooDeep (place r))

place_is : (ts : Tokens) (pos : Pos) → IsAt ts pos → pos ≡ place ts
place_is [] pos h = h
place_is (t ∷ ts) pos h = h

is_said : (r : Result Module ParseFault) (ts : Tokens) → (r ≡ Err parsing.Memory → ⊥) → Says r ts → r ≡ said (reads limit «module» ts)
is_said (Ok m) ts n h = ap said (sym h)
is_said (Err parsing.Memory) ts n h = absurd (n refl)
is_said (Err (parsing.Syntax pos)) ts n h = ap (λ w. Err (parsing.Syntax w)) (place_is h.0 pos h.2) ∙ ap said (sym h.1)
is_said (Err (parsing.TooDeep pos)) ts n h = ap (λ w. Err (parsing.TooDeep w)) (place_is h.0 pos h.2) ∙ ap said (sym h.1)

one_parse : (i : Input) (r q : Result Module ParseFault) → (r ≡ Err parsing.Memory → ⊥) → (q ≡ Err parsing.Memory → ⊥) → Parses i r → Parses i q → r ≡ q
one_parse i r q n m h g = is_said r h.0 n (h.2 h.0 h.1) ∙ sym (is_said q h.0 m (g.2 h.0 h.1))

-- ---- answers of a text

abbrev of_parse : Result Module ParseFault → Result Module TextFault
of_parse (Ok m) = Ok m
of_parse (Err f) = Err (fault.Parse f)

abbrev parsed : Module → Result Module ParseFault
parsed m = Ok m

abbrev unparsed : ParseFault → Result Module ParseFault
unparsed f = Err f

ok_no_memory : (m : Module) → parsed m ≡ Err parsing.Memory → ⊥
ok_no_memory m e = cc

no_memory : (f : ParseFault) → (f ≡ parsing.Memory → ⊥) → unparsed f ≡ Err parsing.Memory → ⊥
no_memory f n e = n (value f parsing.Memory e)
  where
    value : (f g : ParseFault) → unparsed f ≡ unparsed g → f ≡ g
    value f g e = cc

pub one_answer : (i : Input) (r q : Result Module TextFault) → Answers i r → Answers i q → (r ≡ Err fault.Memory → ⊥) → (q ≡ Err fault.Memory → ⊥) → r ≡ q
one_answer i (Ok m) (Ok n) a b x y = ap of_parse (one_parse i (Ok m) (Ok n) (ok_no_memory m) (ok_no_memory n) a b)
one_answer i (Ok m) (Err (fault.Scan g)) a b x y = absurd (has_none i a.0 g a.1 (faulty i g b.0 b.1))
one_answer i (Ok m) (Err (fault.Parse g)) a b x y = ap of_parse (one_parse i (Ok m) (Err g) (ok_no_memory m) (no_memory g b.0) a b.1)
one_answer i (Ok m) (Err fault.Memory) a b x y = absurd (y refl)
one_answer i (Err (fault.Scan f)) (Ok n) a b x y = absurd (has_none i b.0 f b.1 (faulty i f a.0 a.1))
one_answer i (Err (fault.Scan f)) (Err (fault.Scan g)) a b x y =
    let u = faulty i f a.0 a.1 in
    let v = faulty i g b.0 b.1 in
    ap (λ w. Err (fault.Scan w)) (one_fault i u.0 u.1 f u.2 u.3 v.0 v.1 g v.2 v.3)
one_answer i (Err (fault.Scan f)) (Err (fault.Parse g)) a b x y = absurd (has_none i b.1.0 f b.1.1 (faulty i f a.0 a.1))
one_answer i (Err (fault.Scan f)) (Err fault.Memory) a b x y = absurd (y refl)
one_answer i (Err (fault.Parse f)) (Ok n) a b x y = ap of_parse (one_parse i (Err f) (Ok n) (no_memory f a.0) (ok_no_memory n) a.1 b)
one_answer i (Err (fault.Parse f)) (Err (fault.Scan g)) a b x y = absurd (has_none i a.1.0 g a.1.1 (faulty i g b.0 b.1))
one_answer i (Err (fault.Parse f)) (Err (fault.Parse g)) a b x y = ap of_parse (one_parse i (Err f) (Err g) (no_memory f a.0) (no_memory g b.0) a.1 b.1)
one_answer i (Err (fault.Parse f)) (Err fault.Memory) a b x y = absurd (y refl)
one_answer i (Err fault.Memory) q a b x y = absurd (x refl)
