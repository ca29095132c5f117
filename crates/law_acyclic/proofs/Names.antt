-- Types of a module that differ in name, and what they are with what is bound to them.
use Rattle.std.proofs.Common.{◌≡◌, ◌≢◌, inl, inr, refl, sym, ap, ◌∙◌, List, [], ◌∷◌, Option, Some, None}
use Rattle.std.specs.Prelude.{bytes_eq}
use Rattle.std.specs.List.{find}
use Rattle.ob_types.specs.declared.typed.TypedType.{TypedType}
use Rattle.ob_rules.specs.Declarations.{described, all_described}
use Rattle.law_typing_forms.specs.Said.{IsOneOf}
use Rattle.law_names_distinct.specs.Distinct.{AreDistinct}
use Rattle.law_body_context.proofs.Lists.{one_all}
use Rattle.law_acyclic.proofs.Blocks.{AreOne}

module _ (X : List TypedType) where
  abbrev pub for_name : TypedType → Option TypedType
  for_name t = find (λ b. bytes_eq b.name t.name) X

  pub name_same : (o : Option TypedType) (t : TypedType) → (described o t).name ≡ t.name
  name_same None t = refl
  name_same (Some b) t = refl

  pub there : (ts : List TypedType) (t : TypedType) → IsOneOf ts t → IsOneOf (all_described X ts) (described (for_name t) t)
  there [] t i = absurd i
  there (s ∷ ts) t (inl e) = inl (ap (λ (s : TypedType). described (for_name s) s) e)
  there (s ∷ ts) t (inr i) = inr (there ts t i)

  pub from_type : (ts : List TypedType) (y : TypedType) → IsOneOf (all_described X ts) y → (t : TypedType) × (IsOneOf ts t × (described (for_name t) t ≡ y))
  from_type [] y i = absurd i
  from_type (s ∷ ts) y (inl e) = (s, (inl refl, e))
  from_type (s ∷ ts) y (inr i) = let r = from_type ts y i in (r.0, (inr r.1.0, r.1.1))

  same_of : (ts : List TypedType) → AreDistinct (λ (t : TypedType). t.name) (all_described X ts) → (a b : TypedType) → IsOneOf ts a → IsOneOf ts b → a.name ≡ b.name → a ≡ b
  same_of [] d a b i j e = absurd i
  same_of (t ∷ ts) d a b (inl i) (inl j) e = sym i ∙ j
  same_of (t ∷ ts) d a b (inl i) (inr j) e = absurd (one_all (λ (y : TypedType). y.name ≢ (described (for_name t) t).name) (all_described X ts) (described (for_name b) b) d.0 (there ts b j) (name_same (for_name b) b ∙ sym e ∙ sym (ap (λ (y : TypedType). y.name) i) ∙ sym (name_same (for_name t) t)))
  same_of (t ∷ ts) d a b (inr i) (inl j) e = absurd (one_all (λ (y : TypedType). y.name ≢ (described (for_name t) t).name) (all_described X ts) (described (for_name a) a) d.0 (there ts a i) (name_same (for_name a) a ∙ e ∙ sym (ap (λ (y : TypedType). y.name) j) ∙ sym (name_same (for_name t) t)))
  same_of (t ∷ ts) d a b (inr i) (inr j) e = same_of ts d.1 a b i j e

  pub one_of : (ts : List TypedType) → AreDistinct (λ (t : TypedType). t.name) (all_described X ts) → AreOne ts
  one_of ts d a b i j e = ap (λ (t : TypedType). t.desc) (same_of ts d a b i j e)
