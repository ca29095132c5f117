-- What holds along a phrase of the grammar, where it holds of words and of what is nested.
use Rattle.std.proofs.Common.{◌≡◌, ◌⊎◌, inl, inr, List, [], ◌∷◌, ◌++◌, Option, Some, None, subst}
use Rattle.std.specs.Prelude.{IfSome}
use Rattle.std.specs.List.{AllByRecursion}
use Rattle.ob_tree.specs.declared.token.Token.{Token}
use Rattle.ob_parse_grammar.specs.Phrase.{Tokens, Nest, Tree, Phrase, word, both, made, maybe, many, either, nest, fork, Spelling, spells_as, spells_maybe, spells_many}

-- what holds of words, and of what is nested
module _ (PW : Token → Type 0) (PN : (n : Nest) → Tree n → Type 0) where
  abbrev pub Holds : {A : Type 0} → Phrase A → A → Type 0
  Holds (word s) t = (t.symbol ≡ s) × PW t
  Holds (both p q) x = Holds p x.0 × Holds q x.1
  Holds (made {A} f p) y = (x : A) × (f x ≡ y) × Holds p x
  Holds (maybe p) o = IfSome o (λ x. Holds p x)
  Holds (many p) xs = AllByRecursion (λ x. Holds p x) xs
  Holds (either p q) x = Holds p x ⊎ Holds q x
  Holds (nest n) x = PN n x
  Holds (fork s n p) x = PN n x ⊎ Holds p x

  abbrev AllWords : Tokens → Type 0
  AllWords ts = AllByRecursion PW ts

  left : (a b ts : Tokens) → ts ≡ a ++ b → AllWords ts → AllWords a
  left a b ts e all = go a (subst AllWords e all)
    where
      go : (a : Tokens) → AllWords (a ++ b) → AllWords a
      go [] all = tt
      go (t ∷ a) all = (all.0, go a all.1)

  right : (a b ts : Tokens) → ts ≡ a ++ b → AllWords ts → AllWords b
  right a b ts e all = go a (subst AllWords e all)
    where
      go : (a : Tokens) → AllWords (a ++ b) → AllWords b
      go [] all = all
      go (t ∷ a) all = go a all.1

  abbrev Keeps : {A : Type 0} → Spelling A → (A → Type 0) → Type 0
  Keeps {A} S P = (x : A) (us : Tokens) → AllWords us → S x us → P x

  if_some : {A : Type 0} (S : Spelling A) (P : A → Type 0) → Keeps S P → (o : Option A) (ts : Tokens) → AllWords ts → spells_maybe S o ts → IfSome o P
  if_some S P f None ts all h = tt
  if_some S P f (Some x) ts all h = f x ts all h

  each : {A : Type 0} (S : Spelling A) (P : A → Type 0) → Keeps S P → (xs : List A) (ts : Tokens) → AllWords ts → spells_many S xs ts → AllByRecursion P xs
  each S P f [] ts all h = tt
  each S P f (x ∷ xs) ts all h = (f x h.0 (left h.0 h.1 ts h.2 all) h.3, each S P f xs h.1 (right h.0 h.1 ts h.2 all) h.4)

  split : {A : Type 0} (S T : Spelling A) (P Q : A → Type 0) → Keeps S P → Keeps T Q → (x : A) (us : Tokens) → AllWords us → S x us ⊎ T x us → Q x ⊎ P x
  split S T P Q f g x us all (inl k) = inr (f x us all k)
  split S T P Q f g x us all (inr k) = inl (g x us all k)

  module _ (S : (n : Nest) → Spelling (Tree n)) (nested : (n : Nest) (x : Tree n) (ts : Tokens) → AllWords ts → S n x ts → PN n x) where
    pub holds : {A : Type 0} (p : Phrase A) (x : A) (ts : Tokens) → AllWords ts → spells_as S p x ts → Holds p x
    holds (word s) t ts all h = (h.1, (subst AllWords h.0 all).0)
    holds (both p q) x ts all h = (holds p x.0 h.0 (left h.0 h.1 ts h.2 all) h.3, holds q x.1 h.1 (right h.0 h.1 ts h.2 all) h.4)
    holds (made f p) y ts all h = (h.0, h.1, holds p h.0 ts all h.2)
    holds (maybe p) o ts all h = if_some (spells_as S p) (λ x. Holds p x) (λ x us a k. holds p x us a k) o ts all h
    holds (many p) xs ts all h = each (spells_as S p) (λ x. Holds p x) (λ x us a k. holds p x us a k) xs ts all h
    holds (either p q) x ts all (inl h) = inl (holds p x ts all h)
    holds (either p q) x ts all (inr h) = inr (holds q x ts all h)
    holds (nest n) x ts all h = nested n x ts all h
    holds (fork s n p) x ts all h = split (spells_as S p) (S n) (λ x. Holds p x) (λ x. PN n x) (λ y us a k. holds p y us a k) (λ y us a k. nested n y us a k) x h.1 (right (h.0 ∷ []) h.1 ts h.2 all) h.4
