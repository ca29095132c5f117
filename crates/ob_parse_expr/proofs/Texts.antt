-- The tokens of a text, one at a time.
use Rattle.std.proofs.Common.{◌≡◌, refl, sym, ap, subst, ◌∙◌, ℕ, zero, suc, ◌<◌, ◌≤◌, Bool, true, false, cond, if◌then◌else◌, ◌==◌, ◌&&◌, ◌||◌, nat_le, [], ◌∷◌, ◌++◌, length, take, drop, Option, Some, None, Result, Ok, Err, ⊎_elim, arith}
use Rattle.std.proofs.lemmas.List.{length-drop}
use Rattle.ob_tree.specs.declared.symbol.Symbol.{Symbol}
use Rattle.ob_tree.specs.declared.symbol.Symbol.TheVariants as s
use Rattle.ob_tree.specs.declared.token.Token.{Token}
use Rattle.ob_tree.specs.declared.pos.Pos.{Pos}
use Rattle.ob_scan.specs.declared.fault.ScanFault.{ScanFault}
use Rattle.ob_scan.specs.declared.fault.ScanFault.TheVariants as fault
use Rattle.ob_scan.specs.Vocabulary.{Bytes, symbol_of, is_word, is_decimal, is_hex, is_string, is_blank, word_symbol, mark_of, mark_of_one, mark_of_two}
use Rattle.ob_scan.specs.Scanning.{Input, Lexeme, lexeme_of, Step, Gives, Faults, Gap, Behind, Unfinished, behind, opens, closes, further, next_pos, token_in, taken, after_gap, step, symbol_at, known, longest, or_shorter, is_too_long, is_real, Steps, Leads, Scans}
use Rattle.ob_scan.proofs.Beginnings.{symbol_within}
use Rattle.ob_parse_grammar.specs.Phrase.{Tokens, same}
use denote.Enum.Bare.{same_true, true_same}
use Rattle.ob_tree.specs.contracts.symbol.Symbol.{the_type}
use Rattle.ob_parse_grammar.proofs.Basics.{chosen, false_not_true}
use Rattle.ob_parse_grammar.specs.Texts.{token_of, listed, tokens_in, tokens_of}
use Rattle.ob_parse_expr.specs.Left.{left, name_fits, NamesFit}
use Rattle.ob_parse_expr.specs.declared.source.Source.TheVariants as source

-- ---- what stands in a step

same_behind : (a b : Input) → Behind a ≡ Behind b → a ≡ b
same_behind a b e = cc

same_lexeme : (l m : Lexeme) (i j : Input) → Gives l i ≡ Gives m j → l ≡ m
same_lexeme l m i j e = cc

same_input : (l m : Lexeme) (i j : Input) → Gives l i ≡ Gives m j → i ≡ j
same_input l m i j e = cc

-- ---- a gap lengthens nothing

gap_short : (d : ℕ) (start here : Pos) (text : Bytes) (j : Input) → behind d start here text ≡ Behind j → length j.text ≤ length text
gap_short zero start here [] j h = rw (sym (same_behind _ j h)) (omega arith)
gap_short (suc d) start here [] j h = let none : ⊥ = cc in absurd none
gap_short zero start here (a ∷ []) j h = ⊎_elim (λ c. rw (sym (same_behind _ j c.1)) (omega arith)) (λ c. rw (sym (same_behind _ j c.1)) (omega arith)) (chosen (is_blank a) _ _ (Behind j) h)
gap_short (suc d) start here (a ∷ []) j h = let none : ⊥ = cc in absurd none
gap_short zero start here (a ∷ b ∷ bs) j h = ⊎_elim
    (λ c. let l = gap_short (suc zero) here (further here 2) bs j c.1 in omega arith)
    (λ (c : (opens a b ≡ false) × (cond (is_blank a) (behind zero start (next_pos here a) (b ∷ bs)) (Behind (record { text = a ∷ b ∷ bs; pos = here })) ≡ Behind j)). ⊎_elim
    (λ e. gap_one (λ k. gap_short zero start (next_pos here a) (b ∷ bs) j k) e.1)
    (λ (e : (is_blank a ≡ false) × (Behind (record { text = a ∷ b ∷ bs; pos = here }) ≡ Behind j)). rw (sym (same_behind (record { text = a ∷ b ∷ bs; pos = here }) j e.1)) (omega arith))
    (chosen (is_blank a) _ _ (Behind j) c.1))
    (chosen (opens a b) _ _ (Behind j) h)
  where
    gap_one : (behind zero start (next_pos here a) (b ∷ bs) ≡ Behind j → length j.text ≤ length (b ∷ bs)) → behind zero start (next_pos here a) (b ∷ bs) ≡ Behind j → length j.text ≤ length (a ∷ b ∷ bs)
    gap_one shorter e = let l = shorter e in omega arith
gap_short (suc d) start here (a ∷ b ∷ bs) j h = ⊎_elim
    (λ c. let l = gap_short (suc (suc d)) start (further here 2) bs j c.1 in omega arith)
    (λ c. ⊎_elim
    (λ e. let l = gap_short d start (further here 2) bs j e.1 in omega arith)
    (λ e. let l = gap_short (suc d) start (next_pos here a) (b ∷ bs) j e.1 in omega arith)
    (chosen (closes a b) _ _ (Behind j) c.1))
    (chosen (opens a b) _ _ (Behind j) h)

-- ---- names fit

abbrev named : Option Symbol → Bool
named None = false
named (Some x) = same x s.Ident

record NoName (o : Option Symbol) : Type 0 where
  is : named o ≡ false

none_named : NoName None
none_named = record { is = refl }

later : (b : Bool) (x : Symbol) (o : Option Symbol) → same x s.Ident ≡ false → NoName o → NoName (if b then Some x else o)
later true x o h g = record { is = h }
later false x o h g = g

one_is_no_name : (b : ℕ) → NoName (mark_of_one b)
one_is_no_name b =
    later (b == 43) s.Plus _ refl (later (b == 45) s.Minus _ refl (later (b == 42) s.Star _ refl (later (b == 47) s.Slash _ refl (
    later (b == 126) s.Tilde _ refl (later (b == 38) s.Ampersand _ refl (later (b == 46) s.Dot _ refl (later (b == 44) s.Comma _ refl (
    later (b == 59) s.Semicolon _ refl (later (b == 124) s.Bar _ refl (later (b == 40) s.LeftRound _ refl (later (b == 91) s.LeftSquare _ refl (
    later (b == 123) s.LeftCurly _ refl (later (b == 94) s.Caret _ refl (later (b == 61) s.Equal _ refl (later (b == 35) s.Hash _ refl (
    later (b == 60) s.Less _ refl (later (b == 62) s.Greater _ refl (later (b == 58) s.Colon _ refl (later (b == 41) s.RightRound _ refl (
    later (b == 93) s.RightSquare _ refl (later (b == 125) s.RightCurly _ refl (none_named))))))))))))))))))))))

two_is_no_name : (a b : ℕ) → NoName (mark_of_two a b)
two_is_no_name a b =
    later (a == 58 && b == 61) s.Becomes _ refl (later (a == 60 && b == 61) s.LessEqual _ refl (later (a == 62 && b == 61) s.GreaterEqual _ refl (later (a == 46 && b == 46) s.DotDot _ refl (
    none_named))))

mark_is_no_name : (text : Bytes) → NoName (mark_of text)
mark_is_no_name [] = none_named
mark_is_no_name (a ∷ []) = one_is_no_name a
mark_is_no_name (a ∷ b ∷ []) = two_is_no_name a b
mark_is_no_name (a ∷ b ∷ c ∷ bs) = none_named

-- what is no word
abbrev others : Bytes → Option Symbol
others text =
    if is_decimal text || is_hex 72 text then Some s.Int else (if is_hex 88 text then Some s.Char else (if is_string text then Some s.Str else mark_of text))

-- an identifier has at most 64 characters
pub ident_short : (text : Bytes) (x : Symbol) → symbol_of text ≡ Some x → same x s.Ident ≡ true → nat_le (length text) 64 ≡ true
ident_short text x e h = by_word (is_word text) (nat_le (length text) 64) refl e
  where
    others_no_name : NoName (others text)
    others_no_name = later (is_decimal text || is_hex 72 text) s.Int _ refl (later (is_hex 88 text) s.Char _ refl (later (is_string text) s.Str _ refl (mark_is_no_name text)))

    by_word : (w n : Bool) → nat_le (length text) 64 ≡ n → cond w (cond n (Some (word_symbol text)) None) (others text) ≡ Some x → nat_le (length text) 64 ≡ true
    by_word true true k g = k
    by_word true false k g = let none : ⊥ = cc in absurd none
    by_word false n k g = absurd (false_not_true (named (others text)) others_no_name.is (ap named g ∙ h))

longest_of : (k : ℕ) (text : Bytes) (x : Symbol × ℕ) → longest k text ≡ Some x → symbol_of (take x.1 text) ≡ Some x.0
longest_of zero text x e = let none : ⊥ = cc in absurd none
longest_of (suc k) text x e = by_front (symbol_of (take (suc k) text)) refl e (λ g. longest_of k text x g)
  where
    some_value : (a b : Symbol × ℕ) → Some a ≡ Some b → a ≡ b
    some_value a b e = cc

    by_front : (o : Option Symbol) → symbol_of (take (suc k) text) ≡ o → or_shorter o (suc k) (longest k text) ≡ Some x → (longest k text ≡ Some x → symbol_of (take x.1 text) ≡ Some x.0) → symbol_of (take x.1 text) ≡ Some x.0
    by_front None q g rest = rest g
    by_front (Some y) q g rest =
        let K : Symbol × ℕ → Type 0 = λ w. symbol_of (take w.1 text) ≡ Some w.0 in
        subst K (some_value (y, suc k) x g) q

abbrev ok : Symbol × ℕ → Result (Symbol × ℕ) ScanFault
ok x = Ok x

ok_value : (a b : Symbol × ℕ) → ok a ≡ ok b → a ≡ b
ok_value a b e = cc

err_not : (f : ScanFault) (x : Symbol × ℕ) {C : Type 0} → Err f ≡ ok x → C
err_not f x e = let none : ⊥ = cc in absurd none

symbol_found : (p : Pos) (text : Bytes) (x : Symbol × ℕ) → symbol_at p text ≡ Ok x → symbol_of (take x.1 text) ≡ Some x.0
symbol_found p text x e = by_long (is_too_long text) (is_real text) (longest (length text) text) refl e
  where
    by_long : (t u : Bool) (o : Option (Symbol × ℕ)) → longest (length text) text ≡ o → cond t (Err (fault.Limit p)) (cond u (Err (fault.Real p)) (known p o)) ≡ ok x → symbol_of (take x.1 text) ≡ Some x.0
    by_long true u o q h = err_not (fault.Limit p) x h
    by_long false true o q h = err_not (fault.Real p) x h
    by_long false false None q h = err_not (fault.Symbol p) x h
    by_long false false (Some y) q h = longest_of (length text) text x (q ∙ ap (λ w. Some w) (ok_value y x h))

-- ---- a token, and how much it takes

abbrev Whole : Bytes → Lexeme → Input → Type 0
Whole text l j = (same l.symbol s.End ≡ false → length j.text < length text) × (name_fits (token_of l) ≡ true)

fits_if : (b c : Bool) → (b ≡ true → c ≡ true) → cond b c true ≡ true
fits_if true c h = h refl
fits_if false c h = refl

token_whole : (p : Pos) (text : Bytes) (l : Lexeme) (j : Input) → token_in p text ≡ Gives l j → Whole text l j
token_whole p [] l j h =
    let K : Lexeme → Type 0 = λ m. Whole [] m j in
    subst K (same_lexeme _ l _ j h) ((λ e. absurd (false_not_true true e refl)), refl)
token_whole p (b ∷ bs) l j h = by_answer (symbol_at p (b ∷ bs)) refl h
  where
    by_answer : (r : Result (Symbol × ℕ) ScanFault) → symbol_at p (b ∷ bs) ≡ r → taken (record { text = b ∷ bs; pos = p }) r ≡ Gives l j → Whole (b ∷ bs) l j
    by_answer (Err f) q g = let none : ⊥ = cc in absurd none
    by_answer (Ok x) q g =
        let w = symbol_within p (b ∷ bs) x q in
        let less : length (drop x.1 (b ∷ bs)) < length (b ∷ bs) = omega (arith, length-drop x.1 (b ∷ bs), w.0, w.1) in
        let fits = fits_if (same x.0 s.Ident) (nat_le (length (take x.1 (b ∷ bs))) 64) (λ k. ident_short (take x.1 (b ∷ bs)) x.0 (symbol_found p (b ∷ bs) x q) k) in
        let K : Lexeme → Type 0 = λ m. name_fits (token_of m) ≡ true in
        let J : Input → Type 0 = λ i. length i.text < length (b ∷ bs) in
        ((λ e. subst J (same_input _ l _ j g) less), subst K (same_lexeme _ l _ j g) fits)

pub step_whole : (i : Input) (l : Lexeme) (j : Input) → step i ≡ Gives l j → Whole i.text l j
step_whole i l j h = by_gap (behind zero i.pos i.pos i.text) refl h
  where
    by_gap : (g : Gap) → behind zero i.pos i.pos i.text ≡ g → after_gap g ≡ Gives l j → Whole i.text l j
    by_gap (Unfinished p) q e = let none : ⊥ = cc in absurd none
    by_gap (Behind k) q e =
        let w = token_whole k.pos k.text l j e in
        let short = gap_short zero i.pos i.pos i.text k q in
        ((λ n. let less = w.0 n in omega arith), w.1)

-- ---- how many there are

pub same_bound : (k m : ℕ) (i : Input) → length i.text < k → length i.text < m → tokens_in k i ≡ tokens_in m i
same_bound zero m i h g = absurd (omega arith)
same_bound (suc k) zero i h g = absurd (omega arith)
same_bound (suc k) (suc m) i h g = by_step (step i) refl (λ j a b. same_bound k m j a b)
  where
    by_end : (l : Lexeme) (j : Input) (b : Bool) → same l.symbol s.End ≡ b → step i ≡ Gives l j → ((j' : Input) → length j'.text < k → length j'.text < m → tokens_in k j' ≡ tokens_in m j')
        → (token_of l ∷ cond b [] (tokens_in k j)) ≡ (token_of l ∷ cond b [] (tokens_in m j))
    by_end l j true q e rest = refl
    by_end l j false q e rest =
        let less = (step_whole i l j e).0 q in
        let a : length j.text < k = omega arith in
        let b : length j.text < m = omega arith in
        ap (λ w. token_of l ∷ w) (rest j a b)

    by_step : (u : Step) → step i ≡ u → ((j : Input) → length j.text < k → length j.text < m → tokens_in k j ≡ tokens_in m j) → listed u (λ j. tokens_in k j) ≡ listed u (λ j. tokens_in m j)
    by_step (Faults f) q rest = refl
    by_step (Gives l j) q rest = by_end l j (same l.symbol s.End) refl q rest

pub names_fit_in : (k : ℕ) (i : Input) → NamesFit (tokens_in k i)
names_fit_in zero i = refl
names_fit_in (suc k) i = by_step (step i) refl (λ j. names_fit_in k j)
  where
    both : (a b : Bool) → a ≡ true → b ≡ true → (a && b) ≡ true
    both true b e h = h
    both false b e h = e

    by_end : (j : Input) (b : Bool) → NamesFit (tokens_in k j) → NamesFit (cond b [] (tokens_in k j))
    by_end j true h = refl
    by_end j false h = h

    by_step : (u : Step) → step i ≡ u → ((j : Input) → NamesFit (tokens_in k j)) → NamesFit (listed u (λ j. tokens_in k j))
    by_step (Faults f) q rest = refl
    by_step (Gives l j) q rest = both _ _ (step_whole i l j q).1 (by_end j (same l.symbol s.End) (rest j))

-- ---- the next one

abbrev pub ok_of : Result Token ScanFault → Option Token
ok_of (Ok t) = Some t
ok_of (Err f) = None

-- what a call of the scanner leaves
pub turn : (i : Input) (r : Result Token ScanFault) (j : Input) → Steps (step i) i r j → left (ok_of r) (source.Scanned j) ≡ tokens_of i
turn i r j h = by_step (step i) refl r h
  where
    by_end : (t : Token) (b : Bool) → same t.symbol s.End ≡ b → step i ≡ Gives (lexeme_of t) j
        → (token_of (lexeme_of t) ∷ cond b [] (tokens_of j)) ≡ (token_of (lexeme_of t) ∷ cond b [] (tokens_in (length i.text) j))
    by_end t true q e = refl
    by_end t false q e =
        let less = (step_whole i (lexeme_of t) j e).0 q in
        let own : length j.text < suc (length j.text) = omega arith in
        ap (λ w. token_of (lexeme_of t) ∷ w) (same_bound (suc (length j.text)) (length i.text) j own less)

    by_step : (u : Step) → step i ≡ u → (r : Result Token ScanFault) → Steps u i r j → left (ok_of r) (source.Scanned j) ≡ listed u (λ k. tokens_in (length i.text) k)
    by_step (Faults f) q (Ok t) g = absurd g
    by_step (Faults f) q (Err k) g = refl
    by_step (Gives l k) q (Err f) g = absurd g
    by_step (Gives l k) q (Ok t) g =
        let K : Lexeme → Input → Type 0 = λ m n. (token_of (lexeme_of t) ∷ cond (same t.symbol s.End) [] (tokens_of j)) ≡ (token_of m ∷ cond (same m.symbol s.End) [] (tokens_in (length i.text) n)) in
        let e : step i ≡ Gives (lexeme_of t) j = q ∙ ap (λ m. Gives m k) (sym g.0) ∙ ap (λ n. Gives (lexeme_of t) n) (sym g.1) in
        subst (λ m. K m k) g.0 (subst (λ n. K (lexeme_of t) n) g.1 (by_end t (same t.symbol s.End) refl e))

-- ---- what is scanned

abbrev Ended : Input → Tokens → Input → Input → Type 0
Ended i ts j k = (front : Tokens) × (t : Token) × (ts ≡ front ++ t ∷ []) × Leads i front j × (step j ≡ Gives (lexeme_of t) k) × (t.symbol ≡ s.End)

ended : (i : Input) (front : Tokens) (t : Token) (j k : Input) → Leads i front j → step j ≡ Gives (lexeme_of t) k → t.symbol ≡ s.End → Ended i (tokens_of i) j k
ended i [] t j k h g e =
    let at : step i ≡ Gives (lexeme_of t) k = ap step h ∙ g in
    let last : same t.symbol s.End ≡ true = true_same the_type t.symbol s.End e in
    ([], token_of (lexeme_of t), rw (at, last) refl, h, g, e)
ended i (u ∷ us) t j k h g e = by_rest (ended h.0 us t j k h.3 g e)
  where
    not_last : (b : Bool) → same u.symbol s.End ≡ b → same u.symbol s.End ≡ false
    not_last true q = absurd (h.2 (same_true the_type tt u.symbol s.End q))
    not_last false q = q

    by_rest : Ended h.0 (tokens_of h.0) j k → Ended i (tokens_of i) j k
    by_rest r =
        let more : same u.symbol s.End ≡ false = not_last (same u.symbol s.End) refl in
        let less = (step_whole i (lexeme_of u) h.0 h.1).0 more in
        let own : length h.0.text < suc (length h.0.text) = omega arith in
        let rest : tokens_in (length i.text) h.0 ≡ tokens_of h.0 = same_bound (length i.text) (suc (length h.0.text)) h.0 less own in
        (token_of (lexeme_of u) ∷ r.0, r.1, rw (h.1, more, rest) (ap (λ w. token_of (lexeme_of u) ∷ w) r.2), (h.0, h.1, h.2, r.3), r.4, r.5)

-- where the scanner finds no fault, these are tokens that it gives
pub scans_these : (i : Input) (ts : Tokens) → Scans i (Ok ts) → Scans i (Ok (tokens_of i))
scans_these i ts h = let r = ended i h.0 h.1 h.2 h.3 h.5 h.6 h.7 in (r.0, r.1, h.2, h.3, r.2, r.3, r.4, r.5)
