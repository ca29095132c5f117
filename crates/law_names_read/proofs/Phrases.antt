-- What holds along a phrase of the grammar, with what spells its parts in few tokens.
use Rattle.std.proofs.Common.{◌≡◌, ◌⊎◌, inl, inr, ℕ, ◌≤◌, List, [], ◌∷◌, ◌++◌, length, length-append, Option, Some, None, ap, ◌∙◌, subst, arith}
use Rattle.std.specs.Prelude.{IfSome}
use Rattle.std.specs.List.{AllByRecursion}
use Rattle.ob_tree.specs.declared.token.Token.{Token}
use Rattle.ob_parse_grammar.specs.Phrase.{Tokens, Nest, Tree, Phrase, word, both, made, maybe, many, either, nest, fork, Spelling, spells_as, spells_maybe, spells_many}

-- whatever is nested
abbrev pub Any : (n : Nest) → Spelling (Tree n)
Any n x ts = Unit {0}

-- ---- a spelling, whatever is nested

module _ (S : (n : Nest) → Spelling (Tree n)) where
  some_loose : {A : Type 0} (T U : Spelling A) → ((x : A) (ts : Tokens) → T x ts → U x ts) → (o : Option A) (ts : Tokens) → spells_maybe T o ts → spells_maybe U o ts
  some_loose T U f None ts h = h
  some_loose T U f (Some x) ts h = f x ts h

  each_loose : {A : Type 0} (T U : Spelling A) → ((x : A) (ts : Tokens) → T x ts → U x ts) → (xs : List A) (ts : Tokens) → spells_many T xs ts → spells_many U xs ts
  each_loose T U f [] ts h = h
  each_loose T U f (x ∷ xs) ts h = (h.0, h.1, h.2, f x h.0 h.3, each_loose T U f xs h.1 h.4)

  either_loose : {A : Type 0} (T U V : Spelling A) → ((x : A) (ts : Tokens) → T x ts → U x ts) → (x : A) (ts : Tokens) → T x ts ⊎ V x ts → U x ts ⊎ Unit {0}
  either_loose T U V f x ts (inl k) = inl (f x ts k)
  either_loose T U V f x ts (inr k) = inr tt

  pub loose : {A : Type 0} (p : Phrase A) (x : A) (ts : Tokens) → spells_as S p x ts → spells_as Any p x ts
  loose (word s) t ts h = h
  loose (both p q) x ts h = (h.0, h.1, h.2, loose p x.0 h.0 h.3, loose q x.1 h.1 h.4)
  loose (made f p) y ts h = (h.0, h.1, loose p h.0 ts h.2)
  loose (maybe p) o ts h = some_loose (spells_as S p) (spells_as Any p) (λ x us k. loose p x us k) o ts h
  loose (many p) xs ts h = each_loose (spells_as S p) (spells_as Any p) (λ x us k. loose p x us k) xs ts h
  loose (either p q) x ts (inl h) = inl (loose p x ts h)
  loose (either p q) x ts (inr h) = inr (loose q x ts h)
  loose (nest n) x ts h = tt
  loose (fork s n p) x ts h = (h.0, h.1, h.2, h.3, either_loose (spells_as S p) (spells_as Any p) (S n) (λ y us k. loose p y us k) x h.1 h.4)

-- ---- what holds of words and of what is nested, and of what is made in few tokens

module _ (PW : Token → Type 0) (PN : (n : Nest) → Tree n → Type 0) (most : ℕ) where
  -- spelled by few tokens
  abbrev pub IsFew : {A : Type 0} → Phrase A → A → Type 0
  IsFew p x = (ts : Tokens) × (length ts ≤ most) × spells_as Any p x ts

  abbrev pub Holds : {A : Type 0} → Phrase A → A → Type 0
  Holds (word s) t = (t.symbol ≡ s) × PW t
  Holds (both p q) x = Holds p x.0 × Holds q x.1
  Holds (made {A} f p) y = (x : A) × (f x ≡ y) × Holds p x × IsFew p x
  Holds (maybe p) o = IfSome o (λ x. Holds p x)
  Holds (many p) xs = AllByRecursion (λ x. Holds p x) xs
  Holds (either p q) x = Holds p x ⊎ Holds q x
  Holds (nest n) x = PN n x
  Holds (fork s n p) x = PN n x ⊎ Holds p x

  -- few tokens, of which it holds
  abbrev pub AllWords : Tokens → Type 0
  AllWords ts = AllByRecursion PW ts × (length ts ≤ most)

  left : (a b ts : Tokens) → ts ≡ a ++ b → AllWords ts → AllWords a
  left a b ts e all = (go a (subst (AllByRecursion PW) e all.0), let n = ap length e ∙ length-append a b in let m = all.1 in omega (arith, n, m))
    where
      go : (a : Tokens) → AllByRecursion PW (a ++ b) → AllByRecursion PW a
      go [] all = tt
      go (t ∷ a) all = (all.0, go a all.1)

  right : (a b ts : Tokens) → ts ≡ a ++ b → AllWords ts → AllWords b
  right a b ts e all = (go a (subst (AllByRecursion PW) e all.0), let n = ap length e ∙ length-append a b in let m = all.1 in omega (arith, n, m))
    where
      go : (a : Tokens) → AllByRecursion PW (a ++ b) → AllByRecursion PW b
      go [] all = all
      go (t ∷ a) all = go a all.1

  abbrev Keeps : {A : Type 0} → Spelling A → (A → Type 0) → Type 0
  Keeps {A} S P = (x : A) (us : Tokens) → AllWords us → S x us → P x

  if_some : {A : Type 0} (S : Spelling A) (P : A → Type 0) → Keeps S P → (o : Option A) (ts : Tokens) → AllWords ts → spells_maybe S o ts → IfSome o P
  if_some S P f None ts all h = tt
  if_some S P f (Some x) ts all h = f x ts all h

  each : {A : Type 0} (S : Spelling A) (P : A → Type 0) → Keeps S P → (xs : List A) (ts : Tokens) → AllWords ts → spells_many S xs ts → AllByRecursion P xs
  each S P f [] ts all h = tt
  each S P f (x ∷ xs) ts all h = (f x h.0 (left h.0 h.1 ts h.2 all) h.3, each S P f xs h.1 (right h.0 h.1 ts h.2 all) h.4)

  split : {A : Type 0} (S T : Spelling A) (P Q : A → Type 0) → Keeps S P → Keeps T Q → (x : A) (us : Tokens) → AllWords us → S x us ⊎ T x us → Q x ⊎ P x
  split S T P Q f g x us all (inl k) = inr (f x us all k)
  split S T P Q f g x us all (inr k) = inl (g x us all k)

  module _ (S : (n : Nest) → Spelling (Tree n)) (nested : (n : Nest) (x : Tree n) (ts : Tokens) → AllWords ts → S n x ts → PN n x) where
    pub holds : {A : Type 0} (p : Phrase A) (x : A) (ts : Tokens) → AllWords ts → spells_as S p x ts → Holds p x
    holds (word s) t ts all h = (h.1, (subst (AllByRecursion PW) h.0 all.0).0)
    holds (both p q) x ts all h = (holds p x.0 h.0 (left h.0 h.1 ts h.2 all) h.3, holds q x.1 h.1 (right h.0 h.1 ts h.2 all) h.4)
    holds (made f p) y ts all h = (h.0, h.1, holds p h.0 ts all h.2, (ts, all.1, loose S p h.0 ts h.2))
    holds (maybe p) o ts all h = if_some (spells_as S p) (λ x. Holds p x) (λ x us a k. holds p x us a k) o ts all h
    holds (many p) xs ts all h = each (spells_as S p) (λ x. Holds p x) (λ x us a k. holds p x us a k) xs ts all h
    holds (either p q) x ts all (inl h) = inl (holds p x ts all h)
    holds (either p q) x ts all (inr h) = inr (holds q x ts all h)
    holds (nest n) x ts all h = nested n x ts all h
    holds (fork s n p) x ts all h = split (spells_as S p) (S n) (λ x. Holds p x) (λ x. PN n x) (λ y us a k. holds p y us a k) (λ y us a k. nested n y us a k) x h.1 (right (h.0 ∷ []) h.1 ts h.2 all) h.4
