-- When one token of lookahead is enough, which is a test that computes.
use Rattle.std.proofs.Common.{◌≡◌, refl, sym, ap, subst, ◌∙◌, Bool, true, false, ◌||◌, ◌&&◌, not, List, [], ◌∷◌, ◌++◌, ◌⊎◌, inl, inr}
use Rattle.std.proofs.lemmas.Bool.{and_parts}
use denote.Enum.Bare.{same_true, true_same}
use Rattle.ob_tree.specs.contracts.symbol.Symbol.{the_type}
use Rattle.ob_tree.specs.declared.symbol.Symbol.{Symbol}
use Rattle.ob_tree.specs.declared.symbol.Symbol.TheVariants as s
use Rattle.ob_tree.specs.declared.token.Token.{Token}
use Rattle.ob_parse_grammar.specs.Phrase.{Tokens, same, Nest, Tree, Phrase, word, both, made, maybe, many, either, nest, fork, Spelling, spells_as}
use Rattle.ob_parse_grammar.specs.Reading.{Found, Fails, Wrong, Reader, Set, starts, take_word, may_be_empty, first, read_as}
use Rattle.ob_parse_grammar.proofs.Basics.{Apart, Begins, false_not_true, chosen, found_value, found_rest}
use Rattle.ob_parse_grammar.proofs.Exact.{Good, good_made, good_both, good_maybe, good_many, good_either, good_fork}

abbrev all_symbols : List Symbol
all_symbols =
    s.Ident ∷ s.Int ∷ s.Char ∷ s.Str ∷ s.KwArray ∷ s.KwBegin ∷ s.KwBy ∷ s.KwCase ∷ s.KwConst ∷ s.KwDiv
    ∷ s.KwDo ∷ s.KwElse ∷ s.KwElsif ∷ s.KwEnd ∷ s.KwExit ∷ s.KwFor ∷ s.KwIf ∷ s.KwImport ∷ s.KwIn ∷ s.KwIs
    ∷ s.KwLoop ∷ s.KwMod ∷ s.KwModule ∷ s.KwNil ∷ s.KwOf ∷ s.KwOr ∷ s.KwPointer ∷ s.KwProcedure ∷ s.KwRecord ∷ s.KwRepeat
    ∷ s.KwReturn ∷ s.KwThen ∷ s.KwTo ∷ s.KwType ∷ s.KwUntil ∷ s.KwVar ∷ s.KwWhile ∷ s.KwWith ∷ s.Plus ∷ s.Minus
    ∷ s.Star ∷ s.Slash ∷ s.Tilde ∷ s.Ampersand ∷ s.Dot ∷ s.Comma ∷ s.Semicolon ∷ s.Bar ∷ s.LeftRound ∷ s.LeftSquare
    ∷ s.LeftCurly ∷ s.Becomes ∷ s.Caret ∷ s.Equal ∷ s.Hash ∷ s.Less ∷ s.Greater ∷ s.LessEqual ∷ s.GreaterEqual ∷ s.DotDot
    ∷ s.Colon ∷ s.RightRound ∷ s.RightSquare ∷ s.RightCurly ∷ s.End ∷ []

abbrev all_in : Set → List Symbol → Bool
all_in f [] = true
all_in f (x ∷ xs) = f x && all_in f xs

abbrev has : Symbol → List Symbol → Bool
has x [] = false
has x (y ∷ ys) = same x y || has x ys

listed : (x : Symbol) → has x all_symbols ≡ true
listed s.Ident = refl
listed _ = refl

or_cases : (a b : Bool) → (a || b) ≡ true → (a ≡ true) ⊎ (b ≡ true)
or_cases true b e = inl refl
or_cases false b e = inr e

found_in : (f : Set) (x : Symbol) (xs : List Symbol) → all_in f xs ≡ true → has x xs ≡ true → f x ≡ true
found_in f x [] h e = absurd (false_not_true false refl e)
found_in f x (y ∷ ys) h e = by_place (and_parts (f y) (all_in f ys) h) (or_cases _ _ e) (λ h' e'. found_in f x ys h' e')
  where
    by_place : (f y ≡ true) × (all_in f ys ≡ true) → (same x y ≡ true) ⊎ (has x ys ≡ true) → (all_in f ys ≡ true → has x ys ≡ true → f x ≡ true) → f x ≡ true
    by_place p (inl q) rest = rw (same_true the_type tt x y q) p.0
    by_place p (inr q) rest = rest p.1 q

unfoldable pub every : Set → Bool
every f = all_in f all_symbols

pub every_at : (f : Set) → every f ≡ true → (x : Symbol) → f x ≡ true
unfolding every
every_at f h x = found_in f x all_symbols h (listed x)

abbrev pub apart : Set → Set → Bool
apart f g = every (λ x. not (f x && g x))

abbrev pub within : Set → Set → Bool
within f g = every (λ x. not (f x) || g x)

not_true : (b : Bool) → not b ≡ true → b ≡ false
not_true true e = sym e
not_true false e = refl

pub apart_at : (f g : Set) → apart f g ≡ true → Apart f g
apart_at f g h = record { at = λ x. not_true (f x && g x) (every_at (λ y. not (f y && g y)) h x) }

implied : (a b : Bool) → (not a || b) ≡ true → b ≡ false → a ≡ false
implied true b e h = absurd (false_not_true b h e)
implied false b e h = refl

implies : (a b : Bool) → (not a || b) ≡ true → a ≡ true → b ≡ true
implies true b e h = e
implies false b e h = absurd (false_not_true false refl h)

pub within_starts : (f g : Set) → within f g ≡ true → (a : Tokens) → starts f a ≡ true → starts g a ≡ true
within_starts f g h [] e = e
within_starts f g h (t ∷ a) e = implies (f t.symbol) (g t.symbol) (every_at (λ y. not (f y) || g y) h t.symbol) e

pub within_stops : (f g : Set) → within f g ≡ true → (a : Tokens) → starts g a ≡ false → starts f a ≡ false
within_stops f g h [] e = refl
within_stops f g h (t ∷ a) e = implied (f t.symbol) (g t.symbol) (every_at (λ y. not (f y) || g y) h t.symbol) e

module _ (first_of : Nest → Set) (empty_of : Nest → Bool) (more_of : Nest → Set) where
  -- the symbols that may lengthen what is spelled already
  abbrev pub more : {A : Type 0} → Phrase A → Set
  more (word x) t = false
  more (both p q) t = more q t || (may_be_empty first_of empty_of q && more p t)
  more (made f p) t = more p t
  more (maybe p) t = first first_of empty_of p t || more p t
  more (many p) t = first first_of empty_of p t || more p t
  more (either p q) t = more p t || more q t
  more (nest n) t = more_of n t
  more (fork x n p) t = more p t || more_of n t

  abbrev pub fine : {A : Type 0} → Phrase A → Bool
  fine (word x) = true
  fine (both p q) = fine p && (fine q && apart (more p) (first first_of empty_of q))
  fine (made f p) = fine p
  fine (maybe p) = fine p && not (may_be_empty first_of empty_of p)
  fine (many p) = fine p && (not (may_be_empty first_of empty_of p) && apart (more p) (first first_of empty_of p))
  fine (either p q) = fine p && (fine q && (not (may_be_empty first_of empty_of p) && (not (may_be_empty first_of empty_of q) && apart (first first_of empty_of p) (first first_of empty_of q))))
  fine (nest n) = true
  fine (fork x n p) = fine p && (not (may_be_empty first_of empty_of p) && (not (empty_of n) && apart (first first_of empty_of p) (first_of n)))

  word_sound : (x : Symbol) (ts : Tokens) (t : Token) (r : Tokens) → take_word x ts ≡ Found t r → (a : Tokens) × (ts ≡ a ++ r) × spells_as (λ n y us. ⊥) (word x) t a
  word_sound x [] t r h = let none : ⊥ = cc in absurd none
  word_sound x (u ∷ us) t r h = by_test (chosen (same u.symbol x) _ _ (Found t r) h)
    where
      by_test : ((same u.symbol x ≡ true) × (Found u us ≡ Found t r)) ⊎ ((same u.symbol x ≡ false) × (Fails Wrong (u ∷ us) ≡ Found t r)) → (a : Tokens) × (u ∷ us ≡ a ++ r) × spells_as (λ n y us. ⊥) (word x) t a
      by_test (inl c) =
          let et = found_value u t us r c.1 in
          let er = found_rest u t us r c.1 in
          let K : Token → Type 0 = λ w. w.symbol ≡ x in
          (t ∷ [], (ap (λ w. w ∷ us) et ∙ ap (λ w. t ∷ w) er), (refl, subst K et (same_true the_type tt u.symbol x c.0)))
      by_test (inr c) = let none : ⊥ = let e = c.1 in cc in absurd none

  word_begins : (x : Symbol) (t : Token) (a : Tokens) → spells_as (λ n y us. ⊥) (word x) t a → Begins (λ y. same y x) false a
  word_begins x t a h = let E : Tokens → Type 0 = λ w. starts (λ y. same y x) w ≡ true in inr (subst E (sym h.0) (true_same the_type t.symbol x h.1))

  word_only : (x : Symbol) (t : Token) (a r : Tokens) → spells_as (λ n y us. ⊥) (word x) t a → take_word x (a ++ r) ≡ Found t r
  word_only x t a r h = rw (h.0, true_same the_type t.symbol x h.1) refl

  module _ (full : Bool) (S : (n : Nest) → Spelling (Tree n)) (R : (n : Nest) → Reader (Tree n)) (nested : (n : Nest) → Good (S n) (R n) (first_of n) (empty_of n) (more_of n))
      (none_left : (n : Nest) → full ≡ true → empty_of n ≡ false → (x : Tree n) (ts : Tokens) → S n x ts → ⊥) where
    pub good : {A : Type 0} (p : Phrase A) → fine p ≡ true → Good (spells_as S p) (read_as first_of empty_of full R p) (first first_of empty_of p) (may_be_empty first_of empty_of p) (more p)
    good (word x) h = record { sound = word_sound x; begins = word_begins x; only = λ t a r s stop. word_only x t a r s }
    good (both p q) h =
        let u = and_parts _ _ h in let v = and_parts _ _ u.1 in
        good_both (spells_as S p) (read_as first_of empty_of full R p) (first first_of empty_of p) (may_be_empty first_of empty_of p) (more p) (good p u.0)
        (spells_as S q) (read_as first_of empty_of full R q) (first first_of empty_of q) (may_be_empty first_of empty_of q) (more q) (good q v.0) (apart_at _ _ v.1)
    good (made f p) h = good_made f (spells_as S p) (read_as first_of empty_of full R p) (first first_of empty_of p) (may_be_empty first_of empty_of p) (more p) (good p h)
    good (maybe p) h =
        let u = and_parts _ _ h in
        let E : Bool → Type 0 = λ e. Good (spells_as S p) (read_as first_of empty_of full R p) (first first_of empty_of p) e (more p) in
        good_maybe (spells_as S p) (read_as first_of empty_of full R p) (first first_of empty_of p) (more p) (subst E (not_true _ u.1) (good p u.0))
    good (many p) h =
        let u = and_parts _ _ h in let v = and_parts _ _ u.1 in
        let E : Bool → Type 0 = λ e. Good (spells_as S p) (read_as first_of empty_of full R p) (first first_of empty_of p) e (more p) in
        good_many (spells_as S p) (read_as first_of empty_of full R p) (first first_of empty_of p) (more p) (subst E (not_true _ v.0) (good p u.0)) (apart_at _ _ v.1)
    good (either p q) h =
        let u = and_parts _ _ h in let v = and_parts _ _ u.1 in let w = and_parts _ _ v.1 in let z = and_parts _ _ w.1 in
        let ep = not_true _ w.0 in let eq = not_true _ z.0 in
        let E : Bool → Type 0 = λ e. Good (spells_as S p) (read_as first_of empty_of full R p) (first first_of empty_of p) e (more p) in
        let F : Bool → Type 0 = λ e. Good (spells_as S q) (read_as first_of empty_of full R q) (first first_of empty_of q) e (more q) in
        let W : Bool → Type 0 = λ e. Good (spells_as S (either p q)) (read_as first_of empty_of full R (either p q)) (first first_of empty_of (either p q)) e (more (either p q)) in
        let none : false ≡ (may_be_empty first_of empty_of p || may_be_empty first_of empty_of q) = rw (ep, eq) refl in
        subst W none (good_either (spells_as S p) (read_as first_of empty_of full R p) (first first_of empty_of p) (more p) (subst E ep (good p u.0))
        (spells_as S q) (read_as first_of empty_of full R q) (first first_of empty_of q) (more q) (subst F eq (good q v.0)) (apart_at _ _ z.1))
    good (nest n) h = nested n
    good (fork x n p) h =
        let u = and_parts _ _ h in let v = and_parts _ _ u.1 in let w = and_parts _ _ v.1 in
        let ep = not_true _ v.0 in let en = not_true _ w.0 in
        let E : Bool → Type 0 = λ e. Good (spells_as S p) (read_as first_of empty_of full R p) (first first_of empty_of p) e (more p) in
        let F : Bool → Type 0 = λ e. Good (S n) (R n) (first_of n) e (more_of n) in
        good_fork x full (spells_as S p) (read_as first_of empty_of full R p) (first first_of empty_of p) (more p) (subst E ep (good p u.0))
        (S n) (R n) (first_of n) (more_of n) (subst F en (nested n)) (apart_at _ _ w.1) (λ e y ts t. none_left n e en y ts t)
