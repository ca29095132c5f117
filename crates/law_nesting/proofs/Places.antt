-- What is spelled is placed, and what is placed is spelled.
use Rattle.std.proofs.Common.{◌≡◌, refl, sym, ap, ◌∙◌, ℕ, zero, suc, ◌≤◌, Bool, true, false, not, List, [], ◌∷◌, ◌++◌, Some, None, inl, inr, ⊎_elim, append_assoc}
use Rattle.std.proofs.lemmas.Bool.{and_parts}
use Rattle.std.proofs.lemmas.List.{map-append}
use Rattle.ob_parse_grammar.specs.Phrase.{Tokens, Nest, Tree, Phrase, word, both, made, maybe, many, either, nest, fork, Spelling, spells_as, spells_many}
use Rattle.ob_parse_grammar.specs.Reading.{Set}
use Rattle.ob_parse_grammar.specs.Grammar.{rule, spells}
use Rattle.ob_parse_grammar.proofs.Fine.{fine}
use Rattle.law_nesting.specs.Levels.{Placed, token_of, tokens_of, AllWithin, Placing, places_as, places_many, places}

pub not_false : (b : Bool) → not b ≡ true → b ≡ false
not_false true e = sym e
not_false false e = refl

pub within_append : (d : ℕ) (a b : List Placed) → AllWithin d a → AllWithin d b → AllWithin d (a ++ b)
within_append d [] b h g = g
within_append d (u ∷ a) b h g = (h.0, within_append d a b h.1 g)

tokens_join : (ts a' b' : Tokens) (a b : List Placed) → ts ≡ a' ++ b' → a' ≡ tokens_of a → b' ≡ tokens_of b → ts ≡ tokens_of (a ++ b)
tokens_join ts a' b' a b e f g = e ∙ ap (λ z. z ++ b') f ∙ ap (λ z. tokens_of a ++ z) g ∙ sym (map-append token_of a b)

pub front_join : (a b : List Placed) (r : Tokens) → tokens_of a ++ (tokens_of b ++ r) ≡ tokens_of (a ++ b) ++ r
front_join a b r = sym (append_assoc (tokens_of a) (tokens_of b) r) ∙ ap (λ z. z ++ r) (sym (map-append token_of a b))

-- the tokens have places, and no more than D levels
abbrev pub Within : {A : Type 0} → ℕ → Placing A → A → Tokens → Type 0
Within D P x ts = (us : List Placed) × (ts ≡ tokens_of us) × AllWithin D us × P x us

abbrev pub Places : {A : Type 0} → ℕ → Placing A → Spelling A → Type 0
Places {A} D P S = (x : A) (ts : Tokens) → S x ts → Within D P x ts

within_many : {A : Type 0} (D : ℕ) (P : Placing A) (S : Spelling A) → Places D P S → Places D (places_many P) (spells_many S)
within_many D P S H [] ts s = ([], s, tt, refl)
within_many D P S H (x ∷ xs) ts s =
    let a = H x s.0 s.3 in let b = within_many D P S H xs s.1 s.4 in
    (a.0 ++ b.0, tokens_join ts s.0 s.1 a.0 b.0 s.2 a.1 b.1, within_append D a.0 b.0 a.2 b.2, (a.0, b.0, refl, a.3, b.3))

module _ (first_of : Nest → Set) (empty_of : Nest → Bool) (more_of : Nest → Set) (S : (n : Nest) → Spelling (Tree n)) (P : (n : Nest) → Placing (Tree n)) (k D : ℕ) (room : k ≤ D)
    (nested : (n : Nest) → Places D (P n) (S n)) (more_room : (n : Nest) → empty_of n ≡ false → (x : Tree n) (ts : Tokens) → S n x ts → suc k ≤ D) where
  pub within_as : {A : Type 0} (p : Phrase A) → fine first_of empty_of more_of p ≡ true → Places D (places_as P k p) (spells_as S p)
  within_as (word x) h t ts s = ((k, t) ∷ [], s.0, (room, tt), (refl, s.1))
  within_as (both p q) h x ts s =
      let u = and_parts _ _ h in let v = and_parts _ _ u.1 in
      let a = within_as p u.0 x.0 s.0 s.3 in let b = within_as q v.0 x.1 s.1 s.4 in
      (a.0 ++ b.0, tokens_join ts s.0 s.1 a.0 b.0 s.2 a.1 b.1, within_append D a.0 b.0 a.2 b.2, (a.0, b.0, refl, a.3, b.3))
  within_as (made f p) h y ts s = let a = within_as p h s.0 ts s.2 in (a.0, a.1, a.2, (s.0, s.1, a.3))
  within_as (maybe p) h None ts s = ([], s, tt, refl)
  within_as (maybe p) h (Some x) ts s = let u = and_parts _ _ h in within_as p u.0 x ts s
  within_as (many p) h xs ts s =
      let u = and_parts _ _ h in within_many D (places_as P k p) (spells_as S p) (λ x us w. within_as p u.0 x us w) xs ts s
  within_as (either p q) h x ts (inl s) = let u = and_parts _ _ h in let a = within_as p u.0 x ts s in (a.0, a.1, a.2, inl a.3)
  within_as (either p q) h x ts (inr s) =
      let u = and_parts _ _ h in let v = and_parts _ _ u.1 in let a = within_as q v.0 x ts s in (a.0, a.1, a.2, inr a.3)
  within_as (nest n) h x ts s = nested n x ts s
  within_as (fork w n p) h x ts s =
      let u = and_parts _ _ h in let v = and_parts _ _ u.1 in let z = and_parts _ _ v.1 in
      ⊎_elim
      (λ (c : spells_as S p x s.1). let a = within_as p u.0 x s.1 c in
      ((k, s.0) ∷ a.0, s.2 ∙ ap (λ y. s.0 ∷ y) a.1, (room, a.2), (s.0, a.0, s.3, inl (refl, a.3))))
      (λ c. let a = nested n x s.1 c in
      ((suc k, s.0) ∷ a.0, s.2 ∙ ap (λ y. s.0 ∷ y) a.1, (more_room n (not_false _ z.0) x s.1 c, a.2), (s.0, a.0, s.3, inr (refl, a.3))))
      s.4

-- ---- back

abbrev pub Lowers : {A : Type 0} → Placing A → Spelling A → Type 0
Lowers {A} P S = (x : A) (us : List Placed) → P x us → S x (tokens_of us)

lower_join : (us a b : List Placed) → us ≡ a ++ b → tokens_of us ≡ tokens_of a ++ tokens_of b
lower_join us a b e = ap (λ z. tokens_of z) e ∙ map-append token_of a b

lower_many : {A : Type 0} (P : Placing A) (S : Spelling A) → Lowers P S → Lowers (places_many P) (spells_many S)
lower_many P S H [] us s = ap (λ z. tokens_of z) s
lower_many P S H (x ∷ xs) us s = (tokens_of s.0, tokens_of s.1, lower_join us s.0 s.1 s.2, H x s.0 s.3, lower_many P S H xs s.1 s.4)

pub lower_as : (P : (n : Nest) → Placing (Tree n)) (S : (n : Nest) → Spelling (Tree n)) → ((n : Nest) → Lowers (P n) (S n)) → (k : ℕ) → {A : Type 0} (p : Phrase A) → Lowers (places_as P k p) (spells_as S p)
lower_as P S H k (word x) t us s = (ap (λ z. tokens_of z) s.0, s.1)
lower_as P S H k (both p q) x us s = (tokens_of s.0, tokens_of s.1, lower_join us s.0 s.1 s.2, lower_as P S H k p x.0 s.0 s.3, lower_as P S H k q x.1 s.1 s.4)
lower_as P S H k (made f p) y us s = (s.0, s.1, lower_as P S H k p s.0 us s.2)
lower_as P S H k (maybe p) None us s = ap (λ z. tokens_of z) s
lower_as P S H k (maybe p) (Some x) us s = lower_as P S H k p x us s
lower_as P S H k (many p) xs us s = lower_many (places_as P k p) (spells_as S p) (λ x vs w. lower_as P S H k p x vs w) xs us s
lower_as P S H k (either p q) x us (inl s) = inl (lower_as P S H k p x us s)
lower_as P S H k (either p q) x us (inr s) = inr (lower_as P S H k q x us s)
lower_as P S H k (nest n) x us s = H n x us s
lower_as P S H k (fork w n p) x us s =
    ⊎_elim
    (λ (c : (us ≡ (k, s.0) ∷ s.1) × places_as P k p x s.1). (s.0, tokens_of s.1, ap (λ z. tokens_of z) c.0, s.2, inl (lower_as P S H k p x s.1 c.1)))
    (λ c. (s.0, tokens_of s.1, ap (λ z. tokens_of z) c.0, s.2, inr (H n x s.1 c.1)))
    s.3

pub lower : (j k : ℕ) (n : Nest) → Lowers (places j k n) (spells j n)
lower zero k n x us s = (ap (λ z. tokens_of z) s.0, s.1)
lower (suc j) k n x us s = lower_as (places j (suc k)) (spells j) (lower j (suc k)) (suc k) (rule n) x us s
