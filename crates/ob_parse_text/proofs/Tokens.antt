-- The tokens of a text, and what parsing them says.
use Rattle.std.proofs.Common.{◌≡◌, refl, sym, ap, subst, ◌∙◌, ℕ, zero, suc, ◌<◌, Bool, true, false, cond, [], ◌∷◌, ◌++◌, length, Result, Ok, Err, arith}
use Rattle.ob_tree.specs.declared.symbol.Symbol.TheVariants as s
use Rattle.std.specs.Result.{IsErrAnd}
use denote.Enum.Bare.{sameb, same_true, true_same}
use Rattle.ob_tree.specs.contracts.symbol.Symbol.{the_type}
use Rattle.ob_tree.specs.declared.token.Token.{Token}
use Rattle.ob_tree.specs.declared.pos.Pos.{Pos}
use Rattle.ob_tree.specs.declared.decl.Module.{Module}
use Rattle.ob_scan.specs.declared.fault.ScanFault.{ScanFault}
use Rattle.ob_scan.specs.Scanning.{Input, Lexeme, lexeme_of, Step, Gives, Faults, step, Leads, Scans}
use Rattle.ob_parse_grammar.specs.Phrase.{Tokens, same}
use Rattle.ob_parse_grammar.specs.Reading.{Fault, Read, Found, Fails}
use Rattle.ob_parse_grammar.specs.Declarations.{«module»}
use Rattle.ob_parse_grammar.specs.Grammar.{reads}
use Rattle.ob_parse_grammar.proofs.Basics.{false_not_true}
use Rattle.ob_parse_expr.specs.Contract.{IsAt}
use Rattle.ob_parse_grammar.specs.Texts.{token_of, listed, tokens_in, tokens_of}
use Rattle.ob_parse_expr.proofs.Texts.{step_whole, same_bound}
use Rattle.ob_parse_grammar.specs.declared.fault.ParseFault.{ParseFault}
use Rattle.ob_parse_grammar.specs.declared.fault.ParseFault.TheVariants as parsing
use Rattle.ob_parse_grammar.specs.Depth.{limit}
use Rattle.ob_parse.specs.Parsed.{Says}
use Rattle.ob_parse.proofs.Ends.{ends_before}
use Rattle.ob_parse_text.specs.Answers.{Parses, HasTokens}
use Rattle.ob_parse_text.proofs.Bare.{bares, seen, module_read}

-- ---- where the end is among them

token_is : (t u : Token) (ts us : Tokens) → (t ∷ ts) ≡ (u ∷ us) → t ≡ u
token_is t u ts us e = cc

tokens_are : (t u : Token) (ts us : Tokens) → (t ∷ ts) ≡ (u ∷ us) → ts ≡ us
tokens_are t u ts us e = cc

-- scanning has no fault, and the end is the last
abbrev EndsSo : Input → Tokens → Tokens → Type 0
EndsSo i r ts = (r ≡ []) × Scans i (Ok ts)

end_scanned : (k : ℕ) (i : Input) (x : Tokens) (t : Token) (r : Tokens) → tokens_in k i ≡ x ++ t ∷ r → t.symbol ≡ s.End → EndsSo i r (tokens_in k i)
end_scanned zero i [] t r e h = let none : ⊥ = cc in absurd none
end_scanned zero i (u ∷ us) t r e h = let none : ⊥ = cc in absurd none
end_scanned (suc k) i x t r e h = by_step (step i) refl x e (λ j us g. end_scanned k j us t r g h)
  where
    by_end : (l : Lexeme) (j : Input) (b : Bool) → same l.symbol s.End ≡ b → step i ≡ Gives l j → (x : Tokens) → (token_of l ∷ cond b [] (tokens_in k j)) ≡ x ++ t ∷ r
        → ((us : Tokens) → tokens_in k j ≡ us ++ t ∷ r → EndsSo j r (tokens_in k j)) → EndsSo i r (token_of l ∷ cond b [] (tokens_in k j))
    by_end l j true q a [] g rest = (sym (tokens_are _ _ _ _ g), ([], token_of l, i, j, refl, refl, a, same_true the_type tt l.symbol s.End q))
    by_end l j true q a (u ∷ []) g rest = let none : ⊥ = cc in absurd none
    by_end l j true q a (u ∷ v ∷ vs) g rest = let none : ⊥ = cc in absurd none
    by_end l j false q a [] g rest = absurd (false_not_true _ q (true_same the_type l.symbol s.End (ap (λ w. w.symbol) (token_is _ _ _ _ g) ∙ h)))
    by_end l j false q a (u ∷ us) g rest =
        let o = rest us (tokens_are _ _ _ _ g) in
        let w = o.1 in
        (o.0, (token_of l ∷ w.0, w.1, w.2, w.3, ap (λ z. token_of l ∷ z) w.4, (j, a, (λ m. false_not_true _ q (true_same the_type l.symbol s.End m)), w.5), w.6, w.7))

    by_step : (u : Step) → step i ≡ u → (x : Tokens) → listed u (λ j. tokens_in k j) ≡ x ++ t ∷ r
        → ((j : Input) (us : Tokens) → tokens_in k j ≡ us ++ t ∷ r → EndsSo j r (tokens_in k j)) → EndsSo i r (listed u (λ j. tokens_in k j))
    by_step (Faults f) q [] g rest = let none : ⊥ = cc in absurd none
    by_step (Faults f) q (u ∷ us) g rest = let none : ⊥ = cc in absurd none
    by_step (Gives l j) q x g rest = by_end l j (same l.symbol s.End) refl q x g (rest j)

pub is_end : (t : Token) → sameb the_type t.symbol s.End ≡ true → t.symbol ≡ s.End
is_end t h = same_true the_type tt t.symbol s.End h

-- the fault of a scanner is the answer
pub fault_is : (i : Input) (f : ScanFault) (r : Result (Unit {0}) ScanFault) → Scans i (Err f) → IsErrAnd r (λ g. g ≡ f) → HasTokens i r
fault_is i f (Ok u) h q = absurd q
fault_is i f (Err g) h q = let P : ScanFault → Type 0 = λ e. Scans i (Err e) in subst P (sym q) h

-- ---- of whatever tokens are scanned

-- the text's cursor shows them bare
front_bare : (i : Input) (front : Tokens) (t : Token) (j k : Input) → Leads i front j → step j ≡ Gives (lexeme_of t) k → t.symbol ≡ s.End → tokens_of i ≡ bares (front ++ t ∷ [])
front_bare i [] t j k h g e =
    let at : step i ≡ Gives (lexeme_of t) k = ap step h ∙ g in
    let last : same t.symbol s.End ≡ true = true_same the_type t.symbol s.End e in
    rw (at, last) refl
front_bare i (u ∷ us) t j k h g e = by_rest (front_bare h.0 us t j k h.3 g e)
  where
    not_last : (b : Bool) → same u.symbol s.End ≡ b → same u.symbol s.End ≡ false
    not_last true q = absurd (h.2 (same_true the_type tt u.symbol s.End q))
    not_last false q = q

    by_rest : tokens_of h.0 ≡ bares (us ++ t ∷ []) → tokens_of i ≡ bares (u ∷ (us ++ t ∷ []))
    by_rest r =
        let more : same u.symbol s.End ≡ false = not_last (same u.symbol s.End) refl in
        let less = (step_whole i (lexeme_of u) h.0 h.1).0 more in
        let own : length h.0.text < suc (length h.0.text) = omega arith in
        let rest : tokens_in (length i.text) h.0 ≡ tokens_of h.0 = same_bound (length i.text) (suc (length h.0.text)) h.0 less own in
        rw (h.1, more, rest) (ap (λ w. token_of (lexeme_of u) ∷ w) r)

pub scanned_bare : (i : Input) (ts : Tokens) → Scans i (Ok ts) → tokens_of i ≡ bares ts
scanned_bare i ts h = front_bare i h.0 h.1 h.2 h.3 h.5 h.6 h.7 ∙ ap bares (sym h.4)

found_bare : (u : Read Module) (m : Module) → seen (λ x. x) u ≡ Found m [] → u ≡ Found m []
found_bare (Found x []) m e = e
found_bare (Found x (t ∷ r)) m e = let none : ⊥ = cc in absurd none
found_bare (Fails k r) m e = let none : ⊥ = cc in absurd none

at_bare : (r : Tokens) (pos : Pos) → IsAt (bares r) pos → IsAt r pos
at_bare [] pos h = h
at_bare (t ∷ r) pos h = h

abbrev failing : Fault → Tokens → Read Module
failing k r = Fails k r

fails_bare : (u : Read Module) (k : Fault) (r : Tokens) (pos : Pos) → seen (λ x. x) u ≡ Fails k r → IsAt r pos → (w : Tokens) × (u ≡ Fails k w) × IsAt w pos
fails_bare (Found x w) k r pos e h = let none : ⊥ = cc in absurd none
fails_bare (Fails l w) k r pos e h =
    let K : Tokens → Type 0 = λ v. IsAt v pos in
    (w, ap (λ m. Fails m w) (kind l k (bares w) r e), at_bare w pos (subst K (sym (rest l k (bares w) r e)) h))
  where
    kind : (l k : Fault) (v r : Tokens) → failing l v ≡ failing k r → l ≡ k
    kind l k v r e = cc

    rest : (l k : Fault) (v r : Tokens) → failing l v ≡ failing k r → v ≡ r
    rest l k v r e = cc

-- what parsing answers of bare tokens it answers of any like them
says_bare : (ts : Tokens) (r : Result Module ParseFault) → Says r (bares ts) → Says r ts
says_bare ts (Ok m) h = found_bare (reads limit «module» ts) m (sym (module_read limit ts) ∙ h)
says_bare ts (Err parsing.Memory) h = tt
says_bare ts (Err (parsing.Syntax pos)) h = fails_bare (reads limit «module» ts) _ h.0 pos (sym (module_read limit ts) ∙ h.1) h.2
says_bare ts (Err (parsing.TooDeep pos)) h = fails_bare (reads limit «module» ts) _ h.0 pos (sym (module_read limit ts) ∙ h.1) h.2

-- what parsing the text's cursor answers it answers of whatever tokens are scanned
pub parses : (i : Input) (ts : Tokens) (r : Result Module ParseFault) (us : Tokens) → Scans i (Ok ts) → us ≡ tokens_of i → Says r us → Parses i r
parses i ts r us h e q =
    let P : Tokens → Type 0 = λ w. Says r w in
    (ts, h, λ ws g. says_bare ws r (subst P (e ∙ scanned_bare i ws g) q))

-- a text whose front is read as a module is scanned with no fault, and is read whole
pub parses_whole : (i : Input) (m : Module) (us : Tokens) (new : Tokens) → us ≡ tokens_of i → reads limit «module» us ≡ Found m new → Parses i (Ok m)
parses_whole i m us new e q =
    let b = ends_before us m new q in
    let o = end_scanned (suc (length i.text)) i b.0 b.1 new (sym e ∙ b.2) b.3 in
    parses i (tokens_of i) (Ok m) us o.1 e (q ∙ ap (λ w. Found m w) o.0)
