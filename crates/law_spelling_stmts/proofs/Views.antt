-- Chains of types that a view tells as they are known where the rules judge: their arrays, and the words of arrays of characters.
use Rattle.std.proofs.Common.{◌≡◌, ℕ, zero, suc, ◌*◌, ◌<◌, Bool, true, false, Option, Some, None, refl, sym, ap, subst, ◌∙◌, arith}
use Rattle.std.specs.Prelude.{◌&&◌, nat_lt}
use Rattle.std.proofs.lemmas.Bool.{false≢true, and_parts}
use Rattle.ob_tree.specs.declared.names.QName.{QName}
use Rattle.ob_tree.specs.declared.ident.Mark.{Mark}
use Rattle.ob_types.specs.declared.types.Basic.{Basic}
use Rattle.ob_types.specs.declared.types.Basic.TheVariants as basic
use Rattle.ob_types.specs.declared.types.TypeRef.{TypeRef}
use Rattle.ob_types.specs.declared.types.TypeRef.TheVariants as ref
use Rattle.ob_types.specs.declared.desc.Desc.{Desc}
use Rattle.ob_types.specs.declared.desc.Desc.TheVariants as desc
use Rattle.ob_types.specs.Tests.{target_of, follow, target, type_eq, same_at, shape_at}
use Rattle.ob_types.specs.AssigningTests.{has_room, takes_text}
use Rattle.ob_layout.specs.Words.{described_words, words_within, words_of}

-- an alias or an array
abbrev pub is_flat : Desc → Bool
is_flat (desc.Alias m t) = true
is_flat (desc.Array m n t) = true
is_flat d = false

-- ---- chains of aliases that end

abbrev pub ends_at : (TypeRef → Bool) → Option TypeRef → Bool
ends_at f None = true
ends_at f (Some u) = f u

-- the chain of aliases from the type on has at most n types
abbrev pub ends : (QName → Option Desc) → ℕ → TypeRef → Bool
ends map n (ref.Basic b) = true
ends map zero (ref.Named q) = false
ends map (suc n) (ref.Named q) = ends_at (ends map n) (target_of (map q))

module _ (view : QName → Option Desc) where
  -- a type that stands for a basic one has one word
  basic_words : (n k : ℕ) (t : TypeRef) (b : Basic) → target view k t ≡ ref.Basic b → words_within view n t ≡ 1
  unfolding target
  basic_words zero k t b e = refl
  basic_words (suc n) k (ref.Basic c) b e = refl
  basic_words (suc n) zero (ref.Named q) b e = absurd cc
  basic_words (suc n) (suc k) (ref.Named q) b e = by (view q) e (λ u i. basic_words n k u b i)
    where
      by : (o : Option Desc) → follow (target_of o) (ref.Named q) (λ u. target view k u) ≡ ref.Basic b → ((u : TypeRef) → target view k u ≡ ref.Basic b → words_within view n u ≡ 1) → described_words (words_within view n) o ≡ 1
      by (Some (desc.Alias m u)) i more = more u i
      by None i more = absurd cc
      by (Some (desc.Const v)) i more = absurd cc
      by (Some (desc.Var m t)) i more = absurd cc
      by (Some (desc.Proc s)) i more = absurd cc
      by (Some (desc.Array m c t)) i more = absurd cc
      by (Some (desc.OpenArray m t)) i more = absurd cc
      by (Some (desc.Pointer m t)) i more = absurd cc
      by (Some (desc.ProcType m s)) i more = absurd cc
      by (Some (desc.Record r)) i more = absurd cc

  module _ (q : QName) (m : Mark) (c : ℕ) (of : TypeRef) (is : view q ≡ Some (desc.Array m c of)) (one : (n : ℕ) → words_within view n of ≡ 1) where
    array_words : (n : ℕ) → words_within view (suc n) (ref.Named q) ≡ c * 1
    array_words n = ap (described_words (words_within view n)) is ∙ ap (λ w. c * w) (one n)

    here : (n : ℕ) (p : QName) → ref.Named p ≡ ref.Named q → words_within view (suc n) (ref.Named p) ≡ c * 1
    here n p e = subst (λ t. words_within view (suc n) t ≡ c * 1) (sym e) (array_words n)

    -- an array has as many words as elements of one word, where its chain ends
    chain_words : (n k : ℕ) (t : TypeRef) → ends view n t ≡ true → target view k t ≡ ref.Named q → words_within view n t ≡ c * 1
    unfolding target
    chain_words n zero (ref.Basic b) h e = absurd cc
    chain_words n (suc k) (ref.Basic b) h e = absurd cc
    chain_words zero k (ref.Named p) h e = absurd (false≢true h)
    chain_words (suc n) zero (ref.Named p) h e = here n p e
    chain_words (suc n) (suc k) (ref.Named p) h e = by (view p) refl h e (λ u i j. chain_words n k u i j)
      where
        by : (o : Option Desc) → view p ≡ o → ends_at (ends view n) (target_of o) ≡ true → follow (target_of o) (ref.Named p) (λ u. target view k u) ≡ ref.Named q → ((u : TypeRef) → ends view n u ≡ true → target view k u ≡ ref.Named q → words_within view n u ≡ c * 1) → words_within view (suc n) (ref.Named p) ≡ c * 1
        by (Some (desc.Alias a u)) i h e more = ap (described_words (words_within view n)) i ∙ more u h e
        by None i h e more = here n p e
        by (Some (desc.Const v)) i h e more = here n p e
        by (Some (desc.Var a t)) i h e more = here n p e
        by (Some (desc.Proc s)) i h e more = here n p e
        by (Some (desc.Array a d t)) i h e more = here n p e
        by (Some (desc.OpenArray a t)) i h e more = here n p e
        by (Some (desc.Pointer a t)) i h e more = here n p e
        by (Some (desc.ProcType a s)) i h e more = here n p e
        by (Some (desc.Record r)) i h e more = here n p e

module _ (known view : QName → Option Desc) (told : (q : QName) (d : Desc) → is_flat d ≡ true → known q ≡ Some d → view q ≡ Some d) where
  -- the array at which a chain ends
  array_target : (n : ℕ) (t : TypeRef) (q : QName) (m : Mark) (c : ℕ) (of : TypeRef) → known q ≡ Some (desc.Array m c of) → target known n t ≡ ref.Named q → target view n t ≡ ref.Named q
  unfolding target
  array_target zero t q m c of i e = e
  array_target (suc n) (ref.Basic b) q m c of i e = absurd cc
  array_target (suc n) (ref.Named p) q m c of i e = by (known p) refl e (λ u j. array_target n u q m c of i j)
    where
      stays : ref.Named p ≡ ref.Named q → follow (target_of (view p)) (ref.Named p) (λ u. target view n u) ≡ ref.Named q
      stays e =
          let same : p ≡ q = cc in
          let array : view p ≡ Some (desc.Array m c of) = ap view same ∙ told q (desc.Array m c of) refl i in
          ap (λ o. follow (target_of o) (ref.Named p) (λ u. target view n u)) array ∙ e

      by : (o : Option Desc) → known p ≡ o → follow (target_of o) (ref.Named p) (λ u. target known n u) ≡ ref.Named q → ((u : TypeRef) → target known n u ≡ ref.Named q → target view n u ≡ ref.Named q) → follow (target_of (view p)) (ref.Named p) (λ u. target view n u) ≡ ref.Named q
      by (Some (desc.Alias a u)) j e more = ap (λ o. follow (target_of o) (ref.Named p) (λ u. target view n u)) (told p (desc.Alias a u) refl j) ∙ more u e
      by None j e more = stays e
      by (Some (desc.Const v)) j e more = stays e
      by (Some (desc.Var a t)) j e more = stays e
      by (Some (desc.Proc s)) j e more = stays e
      by (Some (desc.Array a d t)) j e more = stays e
      by (Some (desc.OpenArray a t)) j e more = stays e
      by (Some (desc.Pointer a t)) j e more = stays e
      by (Some (desc.ProcType a s)) j e more = stays e
      by (Some (desc.Record r)) j e more = stays e

  -- the basic type at which a chain ends
  basic_target : (n : ℕ) (t : TypeRef) (b : Basic) → target known n t ≡ ref.Basic b → target view n t ≡ ref.Basic b
  unfolding target
  basic_target zero t b e = e
  basic_target (suc n) (ref.Basic c) b e = e
  basic_target (suc n) (ref.Named p) b e = by (known p) refl e (λ u j. basic_target n u b j)
    where
      by : (o : Option Desc) → known p ≡ o → follow (target_of o) (ref.Named p) (λ u. target known n u) ≡ ref.Basic b → ((u : TypeRef) → target known n u ≡ ref.Basic b → target view n u ≡ ref.Basic b) → follow (target_of (view p)) (ref.Named p) (λ u. target view n u) ≡ ref.Basic b
      by (Some (desc.Alias a u)) j e more = ap (λ o. follow (target_of o) (ref.Named p) (λ u. target view n u)) (told p (desc.Alias a u) refl j) ∙ more u e
      by None j e more = absurd cc
      by (Some (desc.Const v)) j e more = absurd cc
      by (Some (desc.Var a t)) j e more = absurd cc
      by (Some (desc.Proc s)) j e more = absurd cc
      by (Some (desc.Array a d t)) j e more = absurd cc
      by (Some (desc.OpenArray a t)) j e more = absurd cc
      by (Some (desc.Pointer a t)) j e more = absurd cc
      by (Some (desc.ProcType a s)) j e more = absurd cc
      by (Some (desc.Record r)) j e more = absurd cc

  -- characters
  of_char : (t : TypeRef) → same_at known t (ref.Basic basic.Char) ≡ true → (n : ℕ) → words_within view n t ≡ 1
  unfolding same_at target
  of_char t e n = by (target known 201 t) refl e
    where
      by : (s : TypeRef) → target known 201 t ≡ s → type_eq s (ref.Basic basic.Char) ≡ true → words_within view n t ≡ 1
      by (ref.Basic b) i h = basic_words view n 201 t b (basic_target 201 t b i)
      by (ref.Named q) i h = absurd (false≢true h)

  -- a fixed array is the view's
  pub shape_told : (t q : TypeRef) (m : Mark) (c : ℕ) (of : TypeRef) → target known 201 t ≡ q → shape_at known q ≡ Some (desc.Array m c of) → (p : QName) × ((q ≡ ref.Named p) × (known p ≡ Some (desc.Array m c of)))
  shape_told t (ref.Basic b) m c of i e = absurd cc
  shape_told t (ref.Named p) m c of i e = (p, (refl, e))

  -- an array that takes a string has room for it
  pub takes_room : (close : (t : TypeRef) → ends view 201 t ≡ true) (t : TypeRef) (n : ℕ) → takes_text known t n ≡ true → n < words_of view t
  unfolding takes_text
  takes_room close t n e = by (shape_at known (target known 201 t)) refl e
    where
      fits : (m : Mark) (c : ℕ) (of : TypeRef) → shape_at known (target known 201 t) ≡ Some (desc.Array m c of) → nat_lt n c && same_at known of (ref.Basic basic.Char) ≡ true → n < words_of view t
      fits m c of i h =
          let p = and_parts (nat_lt n c) (same_at known of (ref.Basic basic.Char)) h in
          let r = shape_told t (target known 201 t) m c of refl i in
          let w = chain_words view r.0 m c of (told r.0 (desc.Array m c of) refl r.1.1) (of_char of p.1) 201 201 t (close t) (array_target 201 t r.0 m c of r.1.1 r.1.0) in
          let l : n < c = grind (arith, p.0) in
          omega (arith, w, l)

      by : (o : Option Desc) → shape_at known (target known 201 t) ≡ o → has_room known o n ≡ true → n < words_of view t
      by (Some (desc.Array m c of)) i h = fits m c of i h
      by None i h = absurd (false≢true h)
      by (Some (desc.Const v)) i h = absurd (false≢true h)
      by (Some (desc.Var a t)) i h = absurd (false≢true h)
      by (Some (desc.Proc s)) i h = absurd (false≢true h)
      by (Some (desc.Alias a t)) i h = absurd (false≢true h)
      by (Some (desc.OpenArray a t)) i h = absurd (false≢true h)
      by (Some (desc.Pointer a t)) i h = absurd (false≢true h)
      by (Some (desc.ProcType a s)) i h = absurd (false≢true h)
      by (Some (desc.Record r)) i h = absurd (false≢true h)
