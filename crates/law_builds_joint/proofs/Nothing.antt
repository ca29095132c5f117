-- What a module shows that is no type has not the name of a type.
use Rattle.std.proofs.Common.{◌≡◌, ◌≢◌, ⊎_elim, inl, inr, refl, sym, ap, ◌∙◌, subst, ℕ, Bool, true, false, List, [], ◌∷◌, ◌++◌, map as each, Some, None}
use Rattle.std.specs.Prelude.{cond}
use Rattle.std.specs.List.{AllByRecursion, filter}
use Rattle.ob_types.specs.declared.desc.Desc.{Desc}
use Rattle.ob_types.specs.declared.desc.Desc.TheVariants as desc
use Rattle.ob_types.specs.declared.typed.TypedConstant.{TypedConstant}
use Rattle.ob_types.specs.declared.typed.TypedType.{TypedType}
use Rattle.ob_types.specs.declared.typed.TypedVariable.{TypedVariable}
use Rattle.ob_types.specs.Maps.{is_type}
use Rattle.ob_types.specs.TypedSyntax.{Procedure, Module}
use Rattle.ob_desc.specs.Grammar.{is_shown, seen}
use Rattle.ob_layout.specs.LaidOut.{type_named}
use Rattle.ob_uses_roots.specs.Counts.{own_name}
use Rattle.ob_uses.specs.Objects.{is_exported, constant_object, variable_object, procedure_object, in_places, type_object, types_among, reached_types, by_name, objects_of}
use Rattle.ob_uses.specs.Closed.{is_among}
use Rattle.law_typing_forms.specs.Said.{IsOneOf}
use Rattle.law_typing_forms.proofs.Modules.{of_all, other_name}
use Rattle.law_typing_env.proofs.Shown.{one_joined, one_filtered, one_mapped, one_ordered, object_found}
use Rattle.law_builds_joint.specs.Named.{ProceduresAreNoTypes, ObjectsAreNoTypes}

-- none of these types has the name
abbrev pub NoneNamed : List TypedType → List ℕ → Type 0
NoneNamed ts x = (t : TypedType) → IsOneOf ts t → t.name ≢ x

unnamed : (ts : List TypedType) (x : List ℕ) → NoneNamed ts x → type_named ts x ≡ None
unnamed [] x n = refl
unnamed (t ∷ ts) x n = ap (λ (b : Bool). cond b (Some t.desc) (type_named ts x)) (other_name x t.name (λ e. n t (inl refl) (sym e))) ∙ unnamed ts x (λ s i. n s (inr i))

seen_type : (d : Desc) → is_type (seen (in_places d)) ≡ is_type d
seen_type (desc.Const v) = refl
seen_type (desc.Var m t) = refl
seen_type (desc.Proc s) = refl
seen_type (desc.Alias m t) = refl
seen_type (desc.Array m n t) = refl
seen_type (desc.OpenArray m t) = refl
seen_type (desc.Pointer m t) = refl
seen_type (desc.ProcType m s) = refl
seen_type (desc.Record r) = refl

filtered_true : {A : Type 0} (f : A → Bool) (xs : List A) (x : A) → IsOneOf (filter f xs) x → f x ≡ true
filtered_true f [] x h = absurd h
filtered_true f (y ∷ ys) x h = by (f y) refl h (λ k. filtered_true f ys x k)
  where
    by : (b : Bool) → f y ≡ b → IsOneOf (cond b (y ∷ filter f ys) (filter f ys)) x → (IsOneOf (filter f ys) x → f x ≡ true) → f x ≡ true
    by true e (inl same) r = subst (λ z. f z ≡ true) same e
    by true e (inr k) r = r k
    by false e k r = r k

module _ (m : Module) (types : AllByRecursion (λ t. is_type t.desc ≡ true) m.types) (constants : (k : TypedConstant) → IsOneOf m.constants k → NoneNamed m.types k.name) (variables : (v : TypedVariable) → IsOneOf m.variables v → NoneNamed m.types v.name) (procedures : ProceduresAreNoTypes m) where
  abbrev Object : Type 0
  Object = List ℕ × Desc

  of_procedure : (p : Procedure) → IsOneOf m.procedures p → is_exported p ≡ true → NoneNamed m.types p.name
  of_procedure p i e t j = of_all (λ (y : TypedType). y.name ≢ p.name) m.types t (of_all (λ (q : Procedure). is_exported q ≡ true → AllByRecursion (λ (y : TypedType). y.name ≢ q.name) m.types) m.procedures p procedures i e) j

  none_named : (o : Object) → IsOneOf (objects_of m) o → is_type o.1 ≡ false → NoneNamed m.types o.0
  none_named o j plain =
      let cs = each constant_object (filter (λ c. is_shown c.mark) m.constants) in
      let vs = each variable_object (filter (λ v. is_shown v.mark) m.variables) in
      let ps = each procedure_object (filter is_exported m.procedures) in
      let ts = each type_object (types_among m (reached_types m)) in
      ⊎_elim
      (λ k. ⊎_elim
      (λ k. ⊎_elim
      (λ k. let y = one_mapped constant_object (filter (λ c. is_shown c.mark) m.constants) o k in subst (NoneNamed m.types) (ap (λ (z : Object). z.0) y.1.1) (constants y.0 (one_filtered (λ c. is_shown c.mark) m.constants y.0 y.1.0)))
      (λ k. let y = one_mapped variable_object (filter (λ v. is_shown v.mark) m.variables) o k in subst (NoneNamed m.types) (ap (λ (z : Object). z.0) y.1.1) (variables y.0 (one_filtered (λ v. is_shown v.mark) m.variables y.0 y.1.0)))
      (one_joined cs vs o k))
      (λ k. let y = one_mapped procedure_object (filter is_exported m.procedures) o k in subst (NoneNamed m.types) (ap (λ (z : Object). z.0) y.1.1) (of_procedure y.0 (one_filtered is_exported m.procedures y.0 y.1.0) (filtered_true is_exported m.procedures y.0 y.1.0)))
      (one_joined (cs ++ vs) ps o k))
      (λ k.
      let y = one_mapped type_object (types_among m (reached_types m)) o k in
      let there = one_filtered (λ t. is_among (reached_types m) (own_name m t)) m.types y.0 y.1.0 in
      let bad : true ≡ false = sym (of_all (λ (t : TypedType). is_type t.desc ≡ true) m.types y.0 types there) ∙ sym (seen_type y.0.desc) ∙ ap (λ (z : Object). is_type z.1) y.1.1 ∙ plain in
      absurd cc)
      (one_joined ((cs ++ vs) ++ ps) ts o (one_ordered by_name (((cs ++ vs) ++ ps) ++ ts) o j))

  pub no_types : ObjectsAreNoTypes m
  no_types x d e plain = unnamed m.types x (none_named (x, d) (object_found (objects_of m) x d e) plain)
