-- What stands around a body is held by its map.
use Rattle.std.proofs.Common.{◌≡◌, refl, sym, ap, ◌∙◌, subst, ℕ, List, [], ◌∷◌, Option, Some, Bool, true, false, inl, inr}
use Rattle.std.specs.Prelude.{bytes_eq, cond}
use Rattle.std.specs.List.{AllByRecursion, find}
use Rattle.ob_tree.specs.declared.names.QName.{QName}
use Rattle.ob_types.specs.declared.types.TypeRef.{TypeRef}
use Rattle.ob_types.specs.declared.types.TypeRef.TheVariants as ref
use Rattle.ob_types.specs.declared.value.Value.{Value}
use Rattle.ob_types.specs.declared.desc.Desc.{Desc}
use Rattle.ob_types.specs.declared.typed.TypedType.{TypedType}
use Rattle.ob_types.specs.Maps.{IsHeld}
use Rattle.law_simulation_relation.proofs.Names.{bytes_same}
use Rattle.ob_rules.specs.Shapes.{same_name}
use Rattle.ob_rules.specs.Names.{Around, map_of, type_desc, own_desc, out_string}
use Rattle.law_typing.specs.Forms.{IsKnown}
use Rattle.law_body_context.specs.Knows.{HasName, IsTypeDesc, StandsBy, Stands, IsDescribed, Knows}

module _ (IsConstant : Value → Type 0) where
  own_found : (own : List TypedType) → AllByRecursion (IsDescribed IsConstant) own → (x : List ℕ) → HasName own x → IsTypeDesc (own_desc (find (λ t. bytes_eq t.name x) own))
  own_found [] d x h = absurd h.1.0
  own_found (t ∷ ts) d x h = by (bytes_eq t.name x) refl (λ g. own_found ts d.1 x g)
    where
      other : bytes_eq t.name x ≡ false → HasName (t ∷ ts) x → HasName ts x
      other e (s, (inl f, g)) = let bad : true ≡ false = sym (bytes_same t.name) ∙ ap (λ (y : List ℕ). bytes_eq t.name y) (ap (λ (r : TypedType). r.name) f ∙ g) ∙ e in absurd cc
      other e (s, (inr i, g)) = (s, (i, g))

      by : (b : Bool) → bytes_eq t.name x ≡ b → (HasName ts x → IsTypeDesc (own_desc (find (λ t. bytes_eq t.name x) ts))) → IsTypeDesc (own_desc (cond b (Some t) (find (λ t. bytes_eq t.name x) ts)))
      by true e f = d.0.type
      by false e f = f (other e h)

  known_by : (u : Around) → AllByRecursion (IsDescribed IsConstant) u.own → (t : TypeRef) → Stands u.unit u.shown u.own t → IsKnown (map_of u) t
  known_by u d (ref.Basic b) h = (tt, tt)
  known_by u d (ref.Named q) h = (h.0, by (bytes_eq q.«module» u.unit) refl h.1)
    where
      by : (b : Bool) → bytes_eq q.«module» u.unit ≡ b → StandsBy b u.shown u.own q → IsHeld (map_of u) (ref.Named q)
      by true e k = subst IsTypeDesc (sym (ap (λ x. type_desc x (same_name q out_string) u q) e)) (own_found u.own d q.object k)
      by false e k = subst IsTypeDesc (sym (ap (λ x. type_desc x (same_name q out_string) u q) e ∙ ap (λ x. type_desc false x u q) h.0)) k

  pub known_is : (unit : List ℕ) (shown : QName → Option Desc) (u : Around) → Knows IsConstant unit shown u → (t : TypeRef) → Stands unit shown u.own t → IsKnown (map_of u) t
  known_is unit shown u k t h = known_by u k.own t (subst (λ n. Stands n u.shown u.own t) (sym k.unit_is) (subst (λ f. Stands unit f u.own t) (sym k.shown_is) h))
