-- The form of a type that a program declares is what its declaration says.
use Rattle.std.proofs.Common.{◌≡◌, ℕ, zero, suc, List, [], ◌∷◌, map as each, Option, Some, None, refl, ap, subst, ◌∙◌}
use Rattle.std.specs.Prelude.{MatchOption, IsTrue}
use Rattle.std.specs.List.{AllByRecursion}
use Rattle.ob_tree.specs.declared.names.QName.{QName}
use Rattle.ob_types.specs.declared.types.TypeRef.{TypeRef}
use Rattle.ob_types.specs.declared.types.TypeRef.TheVariants as ref
use Rattle.ob_types.specs.declared.types.Mode.{Mode}
use Rattle.ob_types.specs.declared.types.Signature.{Signature}
use Rattle.ob_types.specs.declared.desc.Desc.{Desc}
use Rattle.ob_types.specs.declared.desc.Desc.TheVariants as desc
use Rattle.ob_types.specs.declared.desc.Field.{Field}
use Rattle.ob_types.specs.Maps.{is_type, stands_on, listed, signature_types, IsWithin}
use Rattle.ob_meaning.specs.Values.{Program, Form, ProcedureForm, ArrayForm, OpenForm, RecordForm, AField, Formals, AResult, AFormal, result_formals, formals_before, formals_of, joined, own_fields, base_line, base_fields, line_of, fields_of, described, form_within, form_in, record_in, description, number_of_types}
use Rattle.law_typing_forms.proofs.Chains.{chains_end}
use Rattle.law_typing_forms.specs.Said.{ChainsEnd, IsSound}
use Rattle.law_lists.proofs.Lists.{all_back, all_front}

-- where two ways to know types agree on what a description stands on, they agree on what it says
module _ (f g : TypeRef → Form) where
  own_agree : (q : QName) (fs : List Field) → AllByRecursion (λ t. f t ≡ g t) (each (λ x. x.of) fs) → own_fields f q fs ≡ own_fields g q fs
  own_agree q [] h = refl
  own_agree q (x ∷ fs) h = ap (λ t. AField q x.name t (own_fields f q fs)) h.0 ∙ ap (λ k. AField q x.name (g x.of) k) (own_agree q fs h.1)

  line_agree : (o : Option TypeRef) → AllByRecursion (λ t. f t ≡ g t) (listed o) → base_line f o ≡ base_line g o
  line_agree None h = refl
  line_agree (Some t) h = ap line_of h.0

  fields_agree : (o : Option TypeRef) → AllByRecursion (λ t. f t ≡ g t) (listed o) → base_fields f o ≡ base_fields g o
  fields_agree None h = refl
  fields_agree (Some t) h = ap fields_of h.0

  before_agree : (ks : List (Mode × TypeRef)) (a b : Formals) → AllByRecursion (λ t. f t ≡ g t) (each (λ k. k.1) ks) → a ≡ b → formals_before f ks a ≡ formals_before g ks b
  before_agree [] a b h e = e
  before_agree (k ∷ ks) a b h e = ap (λ t. AFormal k.0 t (formals_before f ks a)) h.0 ∙ ap (λ r. AFormal k.0 (g k.1) r) (before_agree ks a b h.1 e)

  result_agree : (o : Option TypeRef) → AllByRecursion (λ t. f t ≡ g t) (listed o) → result_formals f o ≡ result_formals g o
  result_agree None h = refl
  result_agree (Some t) h = ap (λ x. AResult x) h.0

  formals_agree : (s : Signature) → AllByRecursion (λ t. f t ≡ g t) (signature_types s) → formals_of f s ≡ formals_of g s
  formals_agree s h =
      before_agree s.params (result_formals f s.result) (result_formals g s.result) (all_front (λ t. f t ≡ g t) (each (λ k. k.1) s.params) (listed s.result) h)
      (result_agree s.result (all_back (λ t. f t ≡ g t) (each (λ k. k.1) s.params) (listed s.result) h))

  pub agree : (q : QName) (d : Desc) → AllByRecursion (λ t. f t ≡ g t) (stands_on d) → described f q (Some d) ≡ described g q (Some d)
  agree q (desc.Const v) h = refl
  agree q (desc.Var m t) h = refl
  agree q (desc.Proc s) h = refl
  agree q (desc.Alias m t) h = h.0
  agree q (desc.Array m n t) h = ap (λ x. ArrayForm n x) h.0
  agree q (desc.OpenArray m t) h = ap (λ x. OpenForm x) h.0
  agree q (desc.Pointer m t) h = refl
  agree q (desc.ProcType m s) h = ap (λ x. ProcedureForm x) (formals_agree s h)
  agree q (desc.Record r) h =
      let b = all_front (λ t. f t ≡ g t) (listed r.base) (each (λ x. x.of) r.fields) h in
      let o = all_back (λ t. f t ≡ g t) (listed r.base) (each (λ x. x.of) r.fields) h in
      ap (λ l. RecordForm (q ∷ l) (joined (base_fields f r.base) (own_fields f q r.fields))) (line_agree r.base b)
      ∙ ap (λ k. RecordForm (q ∷ base_line g r.base) (joined k (own_fields f q r.fields))) (fields_agree r.base b)
      ∙ ap (λ k. RecordForm (q ∷ base_line g r.base) (joined (base_fields g r.base) k)) (own_agree q r.fields o)

pub all_from : (P Q : TypeRef → Type 0) → ((t : TypeRef) → P t → Q t) → (ts : List TypeRef) → AllByRecursion P ts → AllByRecursion Q ts
all_from P Q f [] h = tt
all_from P Q f (t ∷ ts) h = (f t h.0, all_from P Q f ts h.1)

module _ (types : QName → Option Desc) where
  pub parts_within : (n : ℕ) (q : QName) (d : Desc) → types q ≡ Some d → IsWithin types (suc n) (ref.Named q) → AllByRecursion (λ t. IsWithin types n t) (stands_on d)
  unfolding IsWithin
  parts_within n q d e h = (subst (λ (o : Option Desc). MatchOption o ⊥ (λ d. IsTrue (is_type d) × AllByRecursion (λ t. IsWithin types n t) (stands_on d))) e h).1

  pub nowhere : (q : QName) → IsWithin types 0 (ref.Named q) → ⊥
  unfolding IsWithin
  nowhere q h = h

  pub none_within : (n : ℕ) (q : QName) → types q ≡ None → IsWithin types (suc n) (ref.Named q) → ⊥
  unfolding IsWithin
  none_within n q e h = subst (λ (o : Option Desc). MatchOption o ⊥ (λ d. IsTrue (is_type d) × AllByRecursion (λ t. IsWithin types n t) (stands_on d))) e h

  -- one step more is none where no chain is longer
  form_more : (n : ℕ) (t : TypeRef) → IsWithin types n t → form_within types n t ≡ form_within types (suc n) t
  form_more zero (ref.Basic b) h = refl
  form_more zero (ref.Named q) h = absurd (nowhere q h)
  form_more (suc n) (ref.Basic b) h = refl
  form_more (suc n) (ref.Named q) h = by (types q) refl (λ t h. form_more n t h)
    where
      by : (o : Option Desc) → types q ≡ o → ((t : TypeRef) → IsWithin types n t → form_within types n t ≡ form_within types (suc n) t) → described (form_within types n) q o ≡ described (form_within types (suc n)) q o
      by None e r = refl
      by (Some d) e r = agree (form_within types n) (form_within types (suc n)) q d (all_from (λ t. IsWithin types n t) (λ t. form_within types n t ≡ form_within types (suc n) t) r (stands_on d) (parts_within n q d e h))

  form_at : (n : ℕ) (q : QName) (d : Desc) → types q ≡ Some d → IsWithin types n (ref.Named q) → form_within types n (ref.Named q) ≡ described (form_within types n) q (Some d)
  form_at zero q d e h = absurd (nowhere q h)
  form_at (suc n) q d e h = ap (λ o. described (form_within types n) q o) e ∙ agree (form_within types n) (form_within types (suc n)) q d (all_from (λ t. IsWithin types n t) (λ t. form_within types n t ≡ form_within types (suc n) t) (form_more n) (stands_on d) (parts_within n q d e h))

-- WHAT A DECLARED TYPE IS
pub form_ends : (program : Program) → ChainsEnd program → (q : QName) (d : Desc) → description program q ≡ Some d → record_in program q ≡ described (form_in program) q (Some d)
form_ends program ends q d e = form_at (description program) (number_of_types program) q d e (chains_end program ends q d e)

pub form_described : (program : Program) → IsSound program → (q : QName) (d : Desc) → description program q ≡ Some d → record_in program q ≡ described (form_in program) q (Some d)
form_described program sound q d e = form_ends program sound.ends q d e
