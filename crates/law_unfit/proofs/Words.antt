-- The words of types among interfaces of builds keep their limit.
use Rattle.std.proofs.Common.{◌≡◌, ℕ, zero, suc, ◌+◌, ◌*◌, true, List, [], ◌∷◌, Option, Some, None, refl, sym, ap, subst, ◌∙◌, arith}
use Rattle.std.specs.Prelude.{MatchOption, IsTrue}
use Rattle.std.specs.List.{AllByRecursion}
use Rattle.ob_tree.specs.declared.names.QName.{QName}
use Rattle.ob_types.specs.declared.types.TypeRef.{TypeRef}
use Rattle.ob_types.specs.declared.types.TypeRef.TheVariants as ref
use Rattle.ob_types.specs.declared.desc.Desc.{Desc}
use Rattle.ob_types.specs.declared.desc.Desc.TheVariants as desc
use Rattle.ob_types.specs.Maps.{is_type, stands_on, IsHeld, IsWithin}
use Rattle.ob_layout.specs.Words.{described_words, words_within, words_of}
use Rattle.law_lists.proofs.Lists.{all_from}
use Rattle.law_local_files.specs.Agreeing.{Map}
use Rattle.law_typing_env.specs.Near.{core}
use Rattle.law_typing_env.specs.Shallow.{passes_to, IsShallow}
use Rattle.law_unfit.proofs.Followed.{type_kind}

abbrev pub Line : Map → ℕ → Option Desc → Type 0
Line types n o = MatchOption o ⊥ (λ d. IsTrue (is_type d) × AllByRecursion (λ t. IsShallow types n t) (passes_to d))

passes_stood : (P : TypeRef → Type 0) (d : Desc) → AllByRecursion P (stands_on d) → AllByRecursion P (passes_to d)
passes_stood P (desc.Alias m t) h = h
passes_stood P (desc.Array m n t) h = h
passes_stood P (desc.OpenArray m t) h = tt
passes_stood P (desc.Record r) h = tt
passes_stood P (desc.Const v) h = tt
passes_stood P (desc.Var m t) h = tt
passes_stood P (desc.Proc s) h = tt
passes_stood P (desc.Pointer m t) h = tt
passes_stood P (desc.ProcType m s) h = tt

pub passes_core : (d : Desc) → passes_to (core d) ≡ passes_to d
passes_core (desc.Alias m t) = refl
passes_core (desc.Array m n t) = refl
passes_core (desc.OpenArray m t) = refl
passes_core (desc.Record r) = refl
passes_core (desc.Const v) = refl
passes_core (desc.Var m t) = refl
passes_core (desc.Proc s) = refl
passes_core (desc.Pointer m t) = refl
passes_core (desc.ProcType m s) = refl

words_alike : (f g : TypeRef → ℕ) (d : Desc) → AllByRecursion (λ t. f t ≡ g t) (passes_to d) → described_words f (Some d) ≡ described_words g (Some d)
words_alike f g (desc.Alias m t) h = h.0
words_alike f g (desc.Array m n t) h = ap (λ w. n * w) h.0
words_alike f g (desc.OpenArray m t) h = refl
words_alike f g (desc.Record r) h = refl
words_alike f g (desc.Const v) h = refl
words_alike f g (desc.Var m t) h = refl
words_alike f g (desc.Proc s) h = refl
words_alike f g (desc.Pointer m t) h = refl
words_alike f g (desc.ProcType m s) h = refl

module _ (types : Map) where
  -- a chain that ends has lines of aliases and arrays that end
  pub line_of : (n : ℕ) (t : TypeRef) → IsWithin types n t → IsShallow types n t
  unfolding IsWithin IsShallow
  line_of zero (ref.Basic b) h = tt
  line_of (suc n) (ref.Basic b) h = tt
  line_of zero (ref.Named q) h = h
  line_of (suc n) (ref.Named q) h = by (types q) h (λ t k. line_of n t k)
    where
      by : (o : Option Desc) → MatchOption o ⊥ (λ d. IsTrue (is_type d) × AllByRecursion (λ t. IsWithin types n t) (stands_on d)) → ((t : TypeRef) → IsWithin types n t → IsShallow types n t) → Line types n o
      by None h r = h
      by (Some d) h r = (h.0, passes_stood (λ t. IsShallow types n t) d (all_from (λ t. IsWithin types n t) (λ t. IsShallow types n t) r (stands_on d) h.1))

  -- more steps change no words where lines end
  words_stay : (n : ℕ) (t : TypeRef) → IsShallow types n t → words_within types (suc n) t ≡ words_within types n t
  unfolding IsShallow
  words_stay zero (ref.Basic b) h = refl
  words_stay (suc n) (ref.Basic b) h = refl
  words_stay zero (ref.Named q) h = absurd h
  words_stay (suc n) (ref.Named q) h = by (types q) h (λ t k. words_stay n t k)
    where
      by : (o : Option Desc) → Line types n o → ((t : TypeRef) → IsShallow types n t → words_within types (suc n) t ≡ words_within types n t) → described_words (words_within types (suc n)) o ≡ described_words (words_within types n) o
      by None h r = absurd h
      by (Some d) h r = words_alike (words_within types (suc n)) (words_within types n) d (all_from (λ t. IsShallow types n t) (λ t. words_within types (suc n) t ≡ words_within types n t) r (passes_to d) h.1)

  line_more : (n : ℕ) (t : TypeRef) → IsShallow types n t → IsShallow types (suc n) t
  unfolding IsShallow
  line_more zero (ref.Basic b) h = tt
  line_more (suc n) (ref.Basic b) h = tt
  line_more zero (ref.Named q) h = absurd h
  line_more (suc n) (ref.Named q) h = by (types q) h (λ t k. line_more n t k)
    where
      by : (o : Option Desc) → Line types n o → ((t : TypeRef) → IsShallow types n t → IsShallow types (suc n) t) → Line types (suc n) o
      by None h r = h
      by (Some d) h r = (h.0, all_from (λ t. IsShallow types n t) (λ t. IsShallow types (suc n) t) r (passes_to d) h.1)

  pub words_all : (k n : ℕ) (t : TypeRef) → k + n ≡ 201 → IsShallow types n t → words_within types n t ≡ words_of types t
  words_all zero n t e h = let k : n ≡ 201 = omega (arith, e) in ap (λ m. words_within types m t) k
  words_all (suc k) n t e h = sym (words_stay n t h) ∙ words_all k (suc n) t (omega (arith, e)) (line_more n t h)

-- lines by one map are lines by another that says the same, but for members and sizes of records
module _
    (V F : Map) (P : TypeRef → Type 0)
    (says : (q : QName) (e : Desc) → P (ref.Named q) → V q ≡ Some e → is_type e ≡ true → (d : Desc) × ((F q ≡ Some d) × (core d ≡ core e)))
    (leads : (q : QName) (e : Desc) → P (ref.Named q) → V q ≡ Some e → is_type e ≡ true → AllByRecursion P (passes_to e))
    (held : (q : QName) → P (ref.Named q) → IsHeld V (ref.Named q))
  where
    all_two : (Q R : TypeRef → Type 0) → ((t : TypeRef) → P t → Q t → R t) → (ts : List TypeRef) → AllByRecursion P ts → AllByRecursion Q ts → AllByRecursion R ts
    all_two Q R f [] p q = tt
    all_two Q R f (t ∷ ts) p q = (f t p.0 q.0, all_two Q R f ts p.1 q.1)

    pub line_now : (n : ℕ) (t : TypeRef) → P t → IsShallow V n t → IsShallow F n t
    unfolding IsShallow
    line_now zero (ref.Basic b) p h = tt
    line_now (suc n) (ref.Basic b) p h = tt
    line_now zero (ref.Named q) p h = h
    line_now (suc n) (ref.Named q) p h = by (V q) refl h (λ t k l. line_now n t k l)
      where
        by : (o : Option Desc) → V q ≡ o → Line V n o → ((t : TypeRef) → P t → IsShallow V n t → IsShallow F n t) → Line F n (F q)
        by None i h r = absurd h
        by (Some e) i h r =
            let s = says q e p i h.0 in
            let same : passes_to s.0 ≡ passes_to e = sym (passes_core s.0) ∙ ap passes_to s.1.1 ∙ passes_core e in
            subst (Line F n) (sym s.1.0) (
              sym (type_kind s.0) ∙ ap is_type s.1.1 ∙ type_kind e ∙ h.0,
              subst (AllByRecursion (λ t. IsShallow F n t)) (sym same) (all_two (λ t. IsShallow V n t) (λ t. IsShallow F n t) r (passes_to e) (leads q e p i h.0) h.1),
            )

    pub line_then : (n : ℕ) (t : TypeRef) → P t → IsShallow F n t → IsShallow V n t
    unfolding IsShallow
    line_then zero (ref.Basic b) p h = tt
    line_then (suc n) (ref.Basic b) p h = tt
    line_then zero (ref.Named q) p h = h
    line_then (suc n) (ref.Named q) p h = by (V q) refl (held q p) h (λ t k l. line_then n t k l)
      where
        by : (o : Option Desc) → V q ≡ o → MatchOption o ⊥ (λ d. IsTrue (is_type d)) → Line F n (F q) → ((t : TypeRef) → P t → IsShallow F n t → IsShallow V n t) → Line V n o
        by None i k h r = absurd k
        by (Some e) i k h r =
            let s = says q e p i k in
            let same : passes_to s.0 ≡ passes_to e = sym (passes_core s.0) ∙ ap passes_to s.1.1 ∙ passes_core e in
            let l : Line F n (Some s.0) = subst (Line F n) s.1.0 h in
            (k, all_two (λ t. IsShallow F n t) (λ t. IsShallow V n t) r (passes_to e) (leads q e p i k) (subst (AllByRecursion (λ t. IsShallow F n t)) same l.1))
