-- No two procedures of a family are bound to one type, since they would have one name.
use Rattle.std.proofs.Common.{◌≡◌, ℕ, List, [], ◌∷◌, ◌++◌, map as each, Option, Some, None, refl, sym, ap, ◌∙◌}
use Rattle.std.specs.Prelude.{Bool, true, false, bytes_eq, codes, if◌then◌else◌}
use Rattle.std.specs.List.{AllByRecursion, IsDistinct}
use Rattle.std.proofs.lemmas.Bool.{false≢true}
use Rattle.std.proofs.lemmas.Map.Keys.{IsDistinct-head, IsDistinct-tail}
use Rattle.ob_tree.specs.declared.names.QName.{QName}
use Rattle.ob_types.specs.declared.typed.Binding.{Binding}
use Rattle.ob_types.specs.declared.typed.Family.{Family}
use Rattle.ob_types.specs.TypedSyntax.{Procedure, Module}
use Rattle.ob_meaning.specs.Values.{Program}
use Rattle.ob_meaning.specs.Meaning.{is_bound, declared_among}
use Rattle.ob_env.specs.Shown.{shown}
use Rattle.law_simulation_relation.proofs.Names.{bytes_true, bytes_same}
use Rattle.law_image_tables.specs.Families.{IsBoundOnce, AreBoundOnce}
use Rattle.law_image_tables.proofs.Families.{bound_family}
use Rattle.law_program_image.specs.Families.{IsBinding, HasBindings, BindingsAreOnce}

module _ (program : Program) (m : Module) (h : HasBindings program m) where
  abbrev Bound : Procedure → Type 0
  Bound p = (b : Binding) → p.binding ≡ Some b → IsBinding (shown h.faces) h.checked p b

  none : (x : List ℕ) (q : QName) (f : Family) → x ≡ q.object ++ codes "." ++ f.name → (ps : List Procedure) → AllByRecursion Bound ps → AllByRecursion (λ y. bytes_eq x y ≡ false) (each (λ p. p.name) ps) → declared_among ps q f ≡ None
  none x q f n [] k d = refl
  none x q f n (p ∷ ps) k d = by (is_bound p.binding q f) refl (none x q f n ps k.1 d.1)
    where
      other : (o : Option Binding) → p.binding ≡ o → is_bound o q f ≡ true → ⊥
      other None e is = absurd cc
      other (Some b) e is =
          let same = bound_family b q f is in
          let name : p.name ≡ x = (k.0 b e).name ∙ ap (λ (y : QName). y.object ++ codes "." ++ b.family.name) same.0 ∙ ap (λ (y : Family). q.object ++ codes "." ++ y.name) same.1 ∙ sym n in
          false≢true (sym d.0 ∙ ap (bytes_eq x) name ∙ bytes_same x)

      by : (b : Bool) → is_bound p.binding q f ≡ b → declared_among ps q f ≡ None → (if b then Some (record { «module» = q.«module»; object = p.name }) else declared_among ps q f) ≡ None
      by true e r = absurd (other p.binding refl e)
      by false e r = r

  once : (ps : List Procedure) → AllByRecursion Bound ps → IsDistinct bytes_eq (each (λ p. p.name) ps) → AreBoundOnce m.name ps
  once [] k d = tt
  once (p ∷ ps) k d = (one p.binding refl, once ps k.1 (IsDistinct-tail bytes_eq p.name (each (λ p. p.name) ps) d))
    where
      one : (o : Option Binding) → p.binding ≡ o → IsBoundOnce m.name o ps
      one None e = tt
      one (Some b) e =
          let x = k.0 b e in (
            bytes_true b.owner.«module» h.checked.name x.family.own ∙ sym (ap (λ (z : Module). z.name) h.is),
            none p.name b.owner b.family x.name ps k.1 (IsDistinct-head bytes_eq p.name (each (λ p. p.name) ps) d),
          )

pub bindings_are_once : BindingsAreOnce
bindings_are_once program m h d = once program m h m.procedures h.bindings d
