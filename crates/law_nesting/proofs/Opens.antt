-- Each token that a phrase may start with begins something that it spells.
use Rattle.std.proofs.Common.{◌≡◌, refl, sym, ℕ, ◌≤◌, Bool, true, false, List, [], ◌∷◌, ◌++◌, Some, None, ◌⊎◌, inl, inr, ⊎_elim, append-nil}
use Rattle.std.proofs.lemmas.Bool.{and_parts}
use denote.Enum.Bare.{same_true}
use Rattle.ob_tree.specs.contracts.symbol.Symbol.{the_type}
use Rattle.ob_tree.specs.declared.symbol.Symbol.{Symbol}
use Rattle.ob_tree.specs.declared.token.Token.{Token}
use Rattle.ob_parse_grammar.specs.Phrase.{Nest, Tree, Phrase, word, both, made, maybe, many, either, nest, fork}
use Rattle.ob_parse_grammar.specs.Reading.{Set, may_be_empty, first}
use Rattle.ob_parse_grammar.proofs.Basics.{false_not_true}
use Rattle.law_nesting.specs.Levels.{Placed, Placing, places_as}
use Rattle.law_lists.proofs.Lists.{at_most, either_true}

-- something is placed so
abbrev pub Sampled : {A : Type 0} → Placing A → Type 0
Sampled {A} P = (x : A) × (us : List Placed) × P x us

-- no token spells something
abbrev pub Void : {A : Type 0} → Placing A → Type 0
Void {A} P = (x : A) × P x []

-- each token of the set begins something, inside k levels at least
abbrev pub Opens : {A : Type 0} → ℕ → Placing A → Set → Type 0
Opens {A} k P f = (t : Token) → f t.symbol ≡ true → (x : A) × (i : ℕ) × (c : List Placed) × (k ≤ i) × P x ((i, t) ∷ c)

module _ (t₀ : Token) (P : (n : Nest) → Placing (Tree n)) (k : ℕ) (sample : (n : Nest) → Sampled (P n)) where
  abbrev tok : Symbol → Token
  tok x = record t₀ { symbol = x }

  pub sampled_as : {A : Type 0} (p : Phrase A) → Sampled (places_as P k p)
  sampled_as (word x) = (tok x, (k, tok x) ∷ [], (refl, refl))
  sampled_as (both p q) = let a = sampled_as p in let b = sampled_as q in ((a.0, b.0), a.1 ++ b.1, (a.1, b.1, refl, a.2, b.2))
  sampled_as (made f p) = let a = sampled_as p in (f a.0, a.1, (a.0, refl, a.2))
  sampled_as (maybe p) = (None, [], refl)
  sampled_as (many p) = ([], [], refl)
  sampled_as (either p q) = let a = sampled_as p in (a.0, a.1, inl a.2)
  sampled_as (nest n) = sample n
  sampled_as (fork x n p) = let a = sampled_as p in (a.0, (k, tok x) ∷ a.1, (tok x, a.1, refl, inl (refl, a.2)))

  module _ (first_of : Nest → Set) (empty_of : Nest → Bool) (void : (n : Nest) → empty_of n ≡ true → Void (P n)) (opens : (n : Nest) → Opens k (P n) (first_of n)) where
    void_as : {A : Type 0} (p : Phrase A) → may_be_empty first_of empty_of p ≡ true → Void (places_as P k p)
    void_as (word x) h = absurd (false_not_true false refl h)
    void_as (both p q) h = let u = and_parts _ _ h in let a = void_as p u.0 in let b = void_as q u.1 in ((a.0, b.0), ([], [], refl, a.1, b.1))
    void_as (made f p) h = let a = void_as p h in (f a.0, (a.0, refl, a.1))
    void_as (maybe p) h = (None, refl)
    void_as (many p) h = ([], refl)
    void_as (either p q) h =
        ⊎_elim (λ (c : may_be_empty first_of empty_of p ≡ true). let a = void_as p c in (a.0, inl a.1)) (λ c. let a = void_as q c in (a.0, inr a.1)) (either_true _ _ h)
    void_as (nest n) h = void n h
    void_as (fork x n p) h = absurd (false_not_true false refl h)

    pub opens_as : {A : Type 0} (p : Phrase A) → Opens k (places_as P k p) (first first_of empty_of p)
    opens_as (word x) t h = (t, k, [], at_most k, (refl, same_true the_type tt t.symbol x h))
    opens_as (both p q) t h =
        ⊎_elim
        (λ (c : first first_of empty_of p t.symbol ≡ true).
        let a = opens_as p t c in let b = sampled_as q in
        ((a.0, b.0), a.1, a.2 ++ b.1, a.3, ((a.1, t) ∷ a.2, b.1, refl, a.4, b.2)))
        (λ c. let u = and_parts _ _ c in let a = void_as p u.0 in let b = opens_as q t u.1 in
        ((a.0, b.0), b.1, b.2, b.3, ([], (b.1, t) ∷ b.2, refl, a.1, b.4)))
        (either_true _ _ h)
    opens_as (made f p) t h = let a = opens_as p t h in (f a.0, a.1, a.2, a.3, (a.0, refl, a.4))
    opens_as (maybe p) t h = let a = opens_as p t h in (Some a.0, a.1, a.2, a.3, a.4)
    opens_as (many p) t h =
        let a = opens_as p t h in (a.0 ∷ [], a.1, a.2, a.3, ((a.1, t) ∷ a.2, [], sym (append-nil ((a.1, t) ∷ a.2)), a.4, refl))
    opens_as (either p q) t h =
        ⊎_elim
        (λ (c : first first_of empty_of p t.symbol ≡ true). let a = opens_as p t c in (a.0, a.1, a.2, a.3, inl a.4))
        (λ c. let a = opens_as q t c in (a.0, a.1, a.2, a.3, inr a.4)) (either_true _ _ h)
    opens_as (nest n) t h = opens n t h
    opens_as (fork x n p) t h =
        let a = sampled_as p in (a.0, k, a.1, at_most k, (t, a.1, same_true the_type tt t.symbol x h, inl (refl, a.2)))
