-- The language's tables, and reading to a depth.
use Rattle.std.proofs.Common.{◌≡◌, refl, sym, ◌∙◌, ℕ, zero, suc, Bool, true, false, ◌||◌, [], ◌∷◌, ◌++◌, inl, inr, ⊎_elim}
use Rattle.ob_tree.specs.declared.symbol.Symbol.TheVariants as s
use Rattle.ob_parse_grammar.specs.Phrase.{Tokens, Nest, AnExpr, AType, Statements, Negated, Procedure, Tree, Phrase, Spelling, spells_as}
use Rattle.ob_parse_grammar.specs.Reading.{Read, Found, Fails, Deep, Reader, Set, starts, may_be_empty, first, read_as}
use Rattle.ob_parse_grammar.specs.Grammar.{rule, spells, read, reads, begins, read_void, first_of, empty_of, IsVoid, is_full}
use Rattle.ob_parse_grammar.specs.Declarations.{«module»}
use Rattle.ob_parse_grammar.proofs.Basics.{chosen, found_value, found_rest, false_not_true}
use Rattle.ob_parse_grammar.proofs.Exact.{Good}
use Rattle.ob_parse_grammar.proofs.Fine.{every, more, fine, good, within, within_starts, within_stops}

-- what may lengthen what is spelled already
abbrev more_expr : Set
more_expr s.Equal = true
more_expr s.Hash = true
more_expr s.Less = true
more_expr s.LessEqual = true
more_expr s.Greater = true
more_expr s.GreaterEqual = true
more_expr s.KwIn = true
more_expr s.KwIs = true
more_expr s.Plus = true
more_expr s.Minus = true
more_expr s.KwOr = true
more_expr s.Star = true
more_expr s.Slash = true
more_expr s.KwDiv = true
more_expr s.KwMod = true
more_expr s.Ampersand = true
more_expr s.Dot = true
more_expr s.LeftSquare = true
more_expr s.Caret = true
more_expr s.LeftRound = true
more_expr _ = false

abbrev more_factor : Set
more_factor s.Dot = true
more_factor s.LeftSquare = true
more_factor s.Caret = true
more_factor s.LeftRound = true
more_factor _ = false

abbrev more_type : Set
more_type s.Dot = true
more_type s.LeftRound = true
more_type s.Colon = true
more_type _ = false

abbrev is_becomes : Set
is_becomes s.Becomes = true
is_becomes _ = false

abbrev pub more_of : Nest → Set
more_of AnExpr x = more_expr x
more_of AType x = more_type x
more_of Statements x = first_of Statements x || (more_expr x || (is_becomes x || first_of AnExpr x))
more_of Negated x = more_factor x
more_of Procedure x = false

-- the rule agrees with the tables
pub record Agrees (n : Nest) : Type 0 where
  pub one_ahead : fine first_of empty_of more_of (rule n) ≡ true
  pub no_less : within (first first_of empty_of (rule n)) (first_of n) ≡ true
  no_more : within (first_of n) (first first_of empty_of (rule n)) ≡ true
  behind : within (more first_of empty_of more_of (rule n)) (more_of n) ≡ true
  void : may_be_empty first_of empty_of (rule n) ≡ empty_of n

pub agrees : (n : Nest) → Agrees n
unfolding every
agrees AnExpr = record { one_ahead = refl; no_less = refl; no_more = refl; behind = refl; void = refl }
agrees AType = record { one_ahead = refl; no_less = refl; no_more = refl; behind = refl; void = refl }
agrees Statements = record { one_ahead = refl; no_less = refl; no_more = refl; behind = refl; void = refl }
agrees Negated = record { one_ahead = refl; no_less = refl; no_more = refl; behind = refl; void = refl }
agrees Procedure = record { one_ahead = refl; no_less = refl; no_more = refl; behind = refl; void = refl }

module _ (full : Bool) (S : (n : Nest) → Spelling (Tree n)) (R : (n : Nest) → Reader (Tree n)) (nested : (n : Nest) → Good (S n) (R n) (first_of n) (empty_of n) (more_of n))
    (none_left : (n : Nest) → full ≡ true → empty_of n ≡ false → (x : Tree n) (ts : Tokens) → S n x ts → ⊥) where
  by_rule : (n : Nest) → Good (spells_as S (rule n)) (read_as first_of empty_of full R (rule n)) (first_of n) (empty_of n) (more_of n)
  by_rule n =
      let A = agrees n in
      let G = good first_of empty_of more_of full S R nested none_left (rule n) A.one_ahead in
      record {
        sound = G.sound;
        begins = λ x a h. ⊎_elim
            (λ (b : (a ≡ []) × (may_be_empty first_of empty_of (rule n) ≡ true)). inl (b.0, sym A.void ∙ b.1))
            (λ h'. inr (within_starts _ _ A.no_less a h')) (G.begins x a h);
        only = λ x a r h stop. G.only x a r h (within_stops _ _ A.behind r stop);
      }

void_sound : (n : Nest) (ts : Tokens) (x : Tree n) (r : Tokens) → read_void n ts ≡ Found x r → (a : Tokens) × (ts ≡ a ++ r) × ((a ≡ []) × IsVoid n x)
void_sound AnExpr ts x r h = let none : ⊥ = cc in absurd none
void_sound AType ts x r h = let none : ⊥ = cc in absurd none
void_sound Statements ts x r h = ([], found_rest _ x ts r h, (refl, sym (found_value _ x ts r h)))
void_sound Negated ts x r h = let none : ⊥ = cc in absurd none
void_sound Procedure ts x r h = let none : ⊥ = cc in absurd none

void_empty : (n : Nest) (x : Tree n) → IsVoid n x → empty_of n ≡ true
void_empty AnExpr x v = absurd v
void_empty AType x v = absurd v
void_empty Statements x v = refl
void_empty Negated x v = absurd v
void_empty Procedure x v = absurd v

-- where no level is left, nothing is spelled that is not empty
pub none_left : (d : ℕ) (n : Nest) → is_full d ≡ true → empty_of n ≡ false → (x : Tree n) (ts : Tokens) → spells d n x ts → ⊥
none_left zero n h e x ts s = false_not_true (empty_of n) e (void_empty n x s.1)
none_left (suc d) n h e x ts s = false_not_true false refl h

void_only : (n : Nest) (x : Tree n) (r : Tokens) → IsVoid n x → starts (more_of n) r ≡ false → read zero n r ≡ Found x r
void_only AnExpr x r v stop = absurd v
void_only AType x r v stop = absurd v
void_only Statements x r v stop = let halt : starts (first_of Statements) r ≡ false = stops r stop in rw (halt, v) refl
  where
    left : (a b : Bool) → (a || b) ≡ false → a ≡ false
    left true b e = e
    left false b e = refl

    stops : (r : Tokens) → starts (more_of Statements) r ≡ false → starts (first_of Statements) r ≡ false
    stops [] h = refl
    stops (t ∷ r) h = left _ _ h
void_only Negated x r v stop = absurd v
void_only Procedure x r v stop = absurd v

abbrev deep : (n : Nest) → Tokens → Read (Tree n)
deep n ts = Fails Deep ts

deep_not_found : (n : Nest) (ts : Tokens) (x : Tree n) (r : Tokens) → deep n ts ≡ Found x r → (a : Tokens) × (ts ≡ a ++ r) × ((a ≡ []) × IsVoid n x)
deep_not_found n ts x r h = let none : ⊥ = cc in absurd none

pub good_read : (d : ℕ) (n : Nest) → Good (spells d n) (read d n) (first_of n) (empty_of n) (more_of n)
good_read zero n = record {
  sound = λ ts x r h. ⊎_elim
      (λ (c : (starts (first_of n) ts ≡ true) × (deep n ts ≡ Found x r)). deep_not_found n ts x r c.1)
      (λ c. void_sound n ts x r c.1) (chosen (starts (first_of n) ts) _ _ (Found x r) h);
  begins = λ x a h. inl (h.0, void_empty n x h.1);
  only = λ x a r h stop. rw h.0 (void_only n x r h.1 stop);
}
good_read (suc d) n = by_rule (is_full d) (spells d) (read d) (good_read d) (none_left d) n

-- whatever phrase needs one token of lookahead
pub good_phrase : {A : Type 0} (d : ℕ) (p : Phrase A) → fine first_of empty_of more_of p ≡ true → Good (spells_as (spells d) p) (reads d p) (begins p) (may_be_empty first_of empty_of p) (more first_of empty_of more_of p)
good_phrase d p h = good first_of empty_of more_of (is_full d) (spells d) (read d) (good_read d) (none_left d) p h

pub module_fine : fine first_of empty_of more_of «module» ≡ true
unfolding every
module_fine = refl
