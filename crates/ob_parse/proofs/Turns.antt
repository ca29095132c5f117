-- What is repeated takes a token each time, and how it starts.
use Rattle.std.proofs.Common.{◌≡◌, refl, sym, ap, ◌∙◌, ℕ, Bool, true, false, ◌||◌, ◌-◌, ◌≤◌, cond, List, [], ◌∷◌, append-nil}
use Rattle.ob_tree.specs.declared.symbol.Symbol.TheVariants as s
use Rattle.ob_tree.specs.declared.symbol.Symbol.{Symbol}
use Rattle.ob_tree.specs.declared.token.Token.{Token}
use Rattle.ob_tree.specs.declared.pos.Pos.{Pos}
use Rattle.ob_tree.specs.declared.decl.Decl.{Decl}
use Rattle.ob_parse_grammar.specs.Phrase.{Tokens, same, Procedure, Phrase, many, fork}
use Rattle.ob_parse_grammar.proofs.Basics.{found_value}
use Rattle.ob_parse_expr.specs.Contract.{IsAt}
use Rattle.ob_parse_grammar.specs.Reading.{Read, Found, Fails, Wrong, Deep, ◌>>=◌, starts, take_word}
use Rattle.ob_parse_grammar.specs.Expressions.{next_of, separated}
use Rattle.ob_parse_grammar.specs.Types.{section, field_list}
use Rattle.ob_parse_grammar.specs.Declarations.{constant, named_type, variables, block, procedure_item, import_item, forward, procedure}
use Rattle.ob_parse_grammar.specs.Grammar.{reads, begins, is_full}
use Rattle.ob_parse_grammar.proofs.Fine.{every}
use Rattle.ob_parse_grammar.proofs.Local.{Takes}
use Rattle.ob_parse_grammar.proofs.Loops.{takes, after, JoinsOn, deeper, not_full}

pub takes_section : (d : ℕ) → Takes (begins (next_of s.Semicolon section)) (reads d (next_of s.Semicolon section))
unfolding every
takes_section d = takes d (next_of s.Semicolon section) refl refl

pub takes_field_list : (d : ℕ) → Takes (begins (next_of s.Semicolon field_list)) (reads d (next_of s.Semicolon field_list))
unfolding every
takes_field_list d = takes d (next_of s.Semicolon field_list) refl refl

pub takes_import_item : (d : ℕ) → Takes (begins (next_of s.Comma import_item)) (reads d (next_of s.Comma import_item))
unfolding every
takes_import_item d = takes d (next_of s.Comma import_item) refl refl

pub takes_constant : (d : ℕ) → Takes (begins constant) (reads d constant)
unfolding every
takes_constant d = takes d constant refl refl

pub takes_named_type : (d : ℕ) → Takes (begins named_type) (reads d named_type)
unfolding every
takes_named_type d = takes d named_type refl refl

pub takes_variables : (d : ℕ) → Takes (begins variables) (reads d variables)
unfolding every
takes_variables d = takes d variables refl refl

pub takes_block : (d : ℕ) → Takes (begins block) (reads d block)
unfolding every
takes_block d = takes d block refl refl

pub takes_procedure_item : (d : ℕ) → Takes (begins procedure_item) (reads d procedure_item)
unfolding every
takes_procedure_item d = takes d procedure_item refl refl

or_no : (b : Bool) → (b || false) ≡ b
or_no true = refl
or_no false = refl

pub constant_starts : (ts : Tokens) → starts (begins constant) ts ≡ starts (λ x. same x s.Ident) ts
constant_starts [] = refl
constant_starts (t ∷ ts) = or_no _ ∙ or_no _

pub named_type_starts : (ts : Tokens) → starts (begins named_type) ts ≡ starts (λ x. same x s.Ident) ts
named_type_starts [] = refl
named_type_starts (t ∷ ts) = or_no _ ∙ or_no _

pub variables_starts : (ts : Tokens) → starts (begins variables) ts ≡ starts (λ x. same x s.Ident) ts
variables_starts [] = refl
variables_starts (t ∷ ts) = or_no _ ∙ or_no _ ∙ or_no _

pub procedure_item_starts : (ts : Tokens) → starts (begins procedure_item) ts ≡ starts (λ x. same x s.KwProcedure) ts
procedure_item_starts [] = refl
procedure_item_starts (t ∷ ts) = or_no _

-- a list with its first item, and nothing more yet
pub joins_first : {A : Type 0} (d : ℕ) (p : Phrase (List A)) (xs : List A) (ts : Tokens) (whole : Read (List (List A))) → whole ≡ after (xs ∷ []) (reads d (many p) ts) → JoinsOn whole d p xs ts
joins_first d p xs ts whole h = (xs ∷ [], sym (append-nil xs), h)

-- what stands where a symbol was taken
pub taken_at : (x : Symbol) (ts : Tokens) (t : Token) (r : Tokens) (pos : Pos) → take_word x ts ≡ Found t r → pos ≡ t.pos → IsAt ts pos
taken_at x [] t r pos h e = let none : ⊥ = cc in absurd none
taken_at x (u ∷ us) t r pos h e = by_test (same u.symbol x) h
  where
    by_test : (b : Bool) → cond b (Found u us) (Fails Wrong (u ∷ us)) ≡ Found t r → IsAt (u ∷ us) pos
    by_test true g = e ∙ sym (ap (λ w. w.pos) (found_value u t us r g))
    by_test false g = let none : ⊥ = cc in absurd none

-- ---- a first item

abbrev with_first : {A : Type 0} → A → List A → Tokens → Read (A × List A)
with_first x ys rest = Found (x, ys) rest

abbrev put_first : {A : Type 0} → A × List A → Tokens → Read (List A)
put_first z rest = Found (z.0 ∷ z.1) rest

gathered : {A : Type 0} (x : A) (r : Read (List A)) → ((r >>= with_first x) >>= put_first) ≡ after (x ∷ []) r
gathered x (Found ys rest) = refl
gathered x (Fails k rest) = refl

pub separated_first : {A : Type 0} (d : ℕ) (by : Symbol) (p : Phrase A) (ts : Tokens) (x : A) (mid : Tokens) → reads d p ts ≡ Found x mid
    → reads d (separated by p) ts ≡ after (x ∷ []) (reads d (many (next_of by p)) mid)
separated_first d by p ts x mid h = rw h (gathered x (reads d (many (next_of by p)) mid))

-- ---- PROCEDURE, and what is behind it

abbrev forked : Phrase Decl
forked = fork s.KwProcedure Procedure forward

forward_starts : (ts : Tokens) → starts (begins forward) ts ≡ starts (λ x. same x s.Caret) ts
forward_starts [] = refl
forward_starts (t ∷ ts) = or_no _

-- no level is left for a procedure
pub fork_deep : (d : ℕ) (ts : Tokens) (t : Token) (r : Tokens) (pos : Pos) → take_word s.KwProcedure ts ≡ Found t r → pos ≡ t.pos → starts (λ x. same x s.Caret) r ≡ false → d ≡ 0
    → (us : Tokens) × (reads d forked ts ≡ Fails Deep us) × IsAt us pos
fork_deep d ts t r pos h e st zero =
    let off = forward_starts r ∙ st in
    let full : is_full d ≡ true = rw zero refl in
    (ts, rw (h, off, full) refl, taken_at s.KwProcedure ts t r pos h e)

-- a procedure takes a level
pub fork_on : (d : ℕ) (ts : Tokens) (t : Token) (r : Tokens) → take_word s.KwProcedure ts ≡ Found t r → starts (λ x. same x s.Caret) r ≡ false → 1 ≤ d → reads d forked ts ≡ reads (d - 1) procedure r
fork_on d ts t r h st some =
    let off = forward_starts r ∙ st in
    rw (h, off, not_full d some) (deeper d Procedure r some)
