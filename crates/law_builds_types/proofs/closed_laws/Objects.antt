-- The objects of a module: a type that is reached is found among them as a type, and what is so of its declarations is so of all.
use Rattle.std.proofs.Common.{◌≡◌, ◌⊎◌, inl, inr, ℕ, Bool, true, false, List, [], ◌∷◌, ◌++◌, map as each, Option, Some, refl, sym, ap, subst, ◌∙◌}
use Rattle.std.specs.Prelude.{cond, bytes_eq, MatchOption, IsTrue}
use Rattle.std.specs.List.{filter, AllByRecursion}
use Rattle.std.specs.List.Sorted.{IsStrictlySortedBy}
use Rattle.std.specs.Ordering.{is_eq}
use Rattle.std.specs.declared.cmp.Ordering.{Ordering}
use Rattle.std.specs.declared.cmp.Ordering.TheVariants as order
use Rattle.std.proofs.lemmas.Map.Text.{is_eq-slice_cmp}
use Rattle.ob_types.specs.declared.desc.Desc.{Desc}
use Rattle.ob_types.specs.declared.desc.Desc.TheVariants as desc
use Rattle.ob_types.specs.declared.typed.TypedConstant.{TypedConstant}
use Rattle.ob_types.specs.declared.typed.TypedType.{TypedType}
use Rattle.ob_types.specs.Maps.{is_type}
use Rattle.ob_types.specs.TypedSyntax.{Module}
use Rattle.ob_desc.specs.Grammar.{is_shown, seen}
use Rattle.ob_layout.specs.Lists.{put_before, put_in, in_order}
use Rattle.ob_env.specs.Faces.{object_named}
use Rattle.ob_uses_roots.specs.Counts.{own_name}
use Rattle.ob_uses.specs.Closed.{is_among}
use Rattle.ob_uses.specs.Objects.{signature_of, is_exported, constant_object, variable_object, procedure_object, in_places, type_object, types_among, reached_types, by_name, objects_of}
use Rattle.law_simulation_relation.proofs.Names.{bytes_same, bytes_true}
use Rattle.law_spelling.proofs.Lists.{all_sure, all_filtered, all_in_order}
use Rattle.law_spelling.proofs.Objects.{objects_rise}
use Rattle.law_typing_forms.specs.Said.{IsOneOf}
use Rattle.law_typing_forms.proofs.Modules.{of_all}
use Rattle.law_typing_env.proofs.Shown.{object_found}
use Rattle.law_typing_env.proofs.Views.{one_each}
use Rattle.law_builds_types.proofs.closed_laws.Lists.{one_kept}
use Rattle.law_lists.proofs.Lists.{all_both, all_each, all_from}

abbrev Object : Type 0
Object = List ℕ × Desc

abbrev pub IsTypeIn : Option Desc → Type 0
IsTypeIn o = MatchOption o ⊥ (λ d. IsTrue (is_type d))

pub seen_type : (d : Desc) → is_type (seen (in_places d)) ≡ is_type d
seen_type (desc.Const v) = refl
seen_type (desc.Var m t) = refl
seen_type (desc.Proc s) = refl
seen_type (desc.Alias m t) = refl
seen_type (desc.Array m n t) = refl
seen_type (desc.OpenArray m t) = refl
seen_type (desc.Pointer m t) = refl
seen_type (desc.ProcType m s) = refl
seen_type (desc.Record r) = refl

-- ---- in their order

-- an item of a list that rises is found by its name
pub exact : (os : List Object) (o : Object) → IsStrictlySortedBy by_name os → IsOneOf os o → object_named os o.0 ≡ Some o.1
unfolding IsStrictlySortedBy
exact [] o s h = absurd h
exact (p ∷ os) o s (inl e) = subst (λ (x : Object). object_named (p ∷ os) x.0 ≡ Some x.1) e (ap (λ (b : Bool). cond b (Some p.1) (object_named os p.0)) (bytes_same p.0))
exact (p ∷ os) o s (inr k) = ap (λ (b : Bool). cond b (Some p.1) (object_named os o.0)) (by (bytes_eq o.0 p.0) refl (of_all (λ z. by_name p z ≡ order.Less) os o s.0 k)) ∙ exact os o s.1 k
  where
    by : (b : Bool) → bytes_eq o.0 p.0 ≡ b → by_name p o ≡ order.Less → bytes_eq o.0 p.0 ≡ false
    by true e less =
        let same : p.0 ≡ o.0 = sym (bytes_true o.0 p.0 e) in
        let bad : true ≡ false = sym (bytes_same p.0) ∙ ap (bytes_eq p.0) same ∙ sym (is_eq-slice_cmp p.0 o.0) ∙ ap is_eq less in
        absurd cc
    by false e less = e

-- a type of that name
record TypeNamed (os : List Object) (x : List ℕ) : Type 0 where
  o : Object
  there : IsOneOf os o
  name : o.0 ≡ x
  type : is_type o.1 ≡ true

abbrev AreTypes : List Object → Type 0
AreTypes os = AllByRecursion (λ p. is_type p.1 ≡ true) os

put_keeps : (o : Object) (os : List Object) (z : Object) → IsOneOf os z → IsOneOf (put_in by_name o os) z
put_keeps o [] z h = absurd h
put_keeps o (p ∷ ps) z h = by (by_name o p) h (put_keeps o ps z)
  where
    by : (r : Ordering) → (p ≡ z) ⊎ IsOneOf ps z → (IsOneOf ps z → IsOneOf (put_in by_name o ps) z) → IsOneOf (put_before r o p ps (put_in by_name o ps)) z
    by order.Less h f = inr h
    by order.Equal h f = h
    by order.Greater (inl e) f = inl e
    by order.Greater (inr k) f = inr (f k)

put_there : (o : Object) (os : List Object) → is_type o.1 ≡ true → AreTypes os → TypeNamed (put_in by_name o os) o.0
put_there o [] ty all = record { o = o; there = inl refl; name = refl; type = ty }
put_there o (p ∷ ps) ty all = by (by_name o p) refl (put_there o ps ty all.1)
  where
    by : (r : Ordering) → by_name o p ≡ r → TypeNamed (put_in by_name o ps) o.0 → TypeNamed (put_before r o p ps (put_in by_name o ps)) o.0
    by order.Less e k = record { o = o; there = inl refl; name = refl; type = ty }
    by order.Equal e k = record { o = p; there = inl refl; name = sym (bytes_true o.0 p.0 (sym (is_eq-slice_cmp o.0 p.0) ∙ ap is_eq e)); type = all.0 }
    by order.Greater e k = record { o = k.o; there = inr k.there; name = k.name; type = k.type }

put_more : (o : Object) (os : List Object) (x : List ℕ) → TypeNamed os x → TypeNamed (put_in by_name o os) x
put_more o os x k = record { o = k.o; there = put_keeps o os k.o k.there; name = k.name; type = k.type }

types_ordered : (ts : List Object) (o : Object) → AreTypes ts → IsOneOf ts o → TypeNamed (in_order by_name ts) o.0
types_ordered [] o all h = absurd h
types_ordered (t ∷ ts) o all (inl e) = subst (λ (x : Object). TypeNamed (in_order by_name (t ∷ ts)) x.0) e (put_there t (in_order by_name ts) all.0 (all_in_order by_name (λ p. is_type p.1 ≡ true) ts all.1))
types_ordered (t ∷ ts) o all (inr k) = put_more t (in_order by_name ts) o.0 (types_ordered ts o all.1 k)

-- of items of one name the last stays
last_ordered : (xs ts : List Object) (o : Object) → AreTypes ts → IsOneOf ts o → TypeNamed (in_order by_name (xs ++ ts)) o.0
last_ordered [] ts o all h = types_ordered ts o all h
last_ordered (x ∷ xs) ts o all h = put_more x (in_order by_name (xs ++ ts)) o.0 (last_ordered xs ts o all h)

-- ---- of a module

module _ (m : Module) where
  abbrev constants : List Object
  constants = each constant_object (filter (λ c. is_shown c.mark) m.constants)

  abbrev variables : List Object
  variables = each variable_object (filter (λ v. is_shown v.mark) m.variables)

  abbrev procedures : List Object
  procedures = each procedure_object (filter is_exported m.procedures)

  abbrev kept : List TypedType
  kept = types_among m (reached_types m)

  types_are : AllByRecursion (λ t. is_type t.desc ≡ true) m.types → AreTypes (each type_object kept)
  types_are h =
      all_each type_object (λ p. is_type p.1 ≡ true) kept
      (all_filtered (λ t. is_among (reached_types m) (own_name m t)) (λ t. is_type (type_object t).1 ≡ true) m.types
      (all_from (λ t. is_type t.desc ≡ true) (λ t. is_among (reached_types m) (own_name m t) ≡ true → is_type (type_object t).1 ≡ true) (λ t k i. seen_type t.desc ∙ k) m.types h))

  -- a type that is reached is an object, and a type
  pub type_at : AllByRecursion (λ t. is_type t.desc ≡ true) m.types → (t : TypedType) → IsOneOf m.types t → is_among (reached_types m) (own_name m t) ≡ true → IsTypeIn (object_named (objects_of m) t.name)
  type_at types t there e =
      let one = one_kept (λ t. is_among (reached_types m) (own_name m t)) m.types t e there in
      let k = last_ordered (constants ++ variables ++ procedures) (each type_object kept) (type_object t) (types_are types) (one_each type_object kept t one) in
      subst (λ (x : List ℕ). IsTypeIn (object_named (objects_of m) x)) k.name (subst IsTypeIn (sym (exact (objects_of m) k.o (objects_rise m) k.there)) k.type)

  -- what is so of each declaration that is shown is so of each object
  module _ (P : Desc → Type 0) where
    abbrev Has : Object → Type 0
    Has o = P o.1

    pub objects_have : ((c : TypedConstant) → P (desc.Const c.value)) → AllByRecursion (λ v. is_shown v.mark ≡ true → P (desc.Var v.mark v.of)) m.variables → AllByRecursion (λ p. is_exported p ≡ true → P (desc.Proc (signature_of p))) m.procedures
        → AllByRecursion (λ t. is_among (reached_types m) (own_name m t) ≡ true → P (seen (in_places t.desc))) m.types → (x : List ℕ) (d : Desc) → object_named (objects_of m) x ≡ Some d → P d
    objects_have cs vs ps ts x d e =
        of_all Has (objects_of m) (x, d)
        (all_in_order by_name Has (constants ++ variables ++ procedures ++ each type_object kept)
        (all_both Has (constants ++ variables ++ procedures) (each type_object kept)
        (all_both Has (constants ++ variables) procedures
        (all_both Has constants variables
        (all_each constant_object Has (filter (λ c. is_shown c.mark) m.constants) (all_sure (λ c. Has (constant_object c)) cs (filter (λ c. is_shown c.mark) m.constants)))
        (all_each variable_object Has (filter (λ v. is_shown v.mark) m.variables) (all_filtered (λ v. is_shown v.mark) (λ v. Has (variable_object v)) m.variables vs)))
        (all_each procedure_object Has (filter is_exported m.procedures) (all_filtered is_exported (λ p. Has (procedure_object p)) m.procedures ps)))
        (all_each type_object Has kept (all_filtered (λ t. is_among (reached_types m) (own_name m t)) (λ t. Has (type_object t)) m.types ts))))
        (object_found (objects_of m) x d e)
