-- What the interfaces of builds show of types is what is seen of the declarations.
use Rattle.std.proofs.Common.{◌≡◌, ◌≢◌, ◌⊎◌, ⊎_elim, inl, inr, ℕ, List, [], ◌∷◌, ◌++◌, map as each, Some, refl, sym, ap, subst, ◌∙◌}
use Rattle.std.specs.Prelude.{Bool, true, false, bytes_eq, cond, if◌then◌else◌}
use Rattle.std.specs.List.{filter, AllByRecursion}
use Rattle.ob_tree.specs.declared.names.QName.{QName}
use Rattle.ob_types.specs.declared.desc.Desc.{Desc}
use Rattle.ob_types.specs.declared.typed.TypedType.{TypedType}
use Rattle.ob_types.specs.Maps.{is_type}
use Rattle.ob_types.specs.TypedSyntax.{Module}
use Rattle.ob_meaning.specs.Values.{type_named, description}
use Rattle.law_simulation_relation.proofs.Names.{bytes_same}
use Rattle.ob_format.specs.Format.{◌>>=◌}
use Rattle.ob_desc.specs.Grammar.{is_shown, seen}
use Rattle.ob_env.specs.Faces.{Face, object_named, face_named, described}
use Rattle.ob_uses_roots.specs.Counts.{own_name}
use Rattle.ob_uses.specs.Objects.{is_exported, constant_object, variable_object, procedure_object, in_places, type_object, types_among, reached_types, by_name, objects_of}
use Rattle.ob_uses.specs.Closed.{is_among}
use Rattle.law_names_distinct.specs.Distinct.{AreDistinct}
use Rattle.law_typing_forms.specs.Said.{IsOneOf}
use Rattle.law_typing_forms.proofs.Modules.{of_all, other_name}
use Rattle.law_typing_env.proofs.Shown.{one_joined, one_filtered, one_mapped, one_ordered, object_found}
use Rattle.ob_builds.specs.Builds.{Text, Build, shows_of, tree_of, name_of}
use Rattle.law_program_runs.specs.Builds.{program_of}

-- an object that is a type is a type of the module
type_of : (m : Module) (o : List ℕ × Desc) → IsOneOf (objects_of m) o → is_type o.1 ≡ true → (t : TypedType) × (IsOneOf m.types t × ((t.name ≡ o.0) × (seen (in_places t.desc) ≡ o.1)))
type_of m o j ty =
    let cs = each constant_object (filter (λ c. is_shown c.mark) m.constants) in
    let vs = each variable_object (filter (λ v. is_shown v.mark) m.variables) in
    let ps = each procedure_object (filter is_exported m.procedures) in
    let ts = each type_object (types_among m (reached_types m)) in
    ⊎_elim
    (λ k. ⊎_elim
    (λ k. ⊎_elim
    (λ k. let x = one_mapped constant_object (filter (λ c. is_shown c.mark) m.constants) o k in let bad : false ≡ true = ap (λ (o : List ℕ × Desc). is_type o.1) x.1.1 ∙ ty in absurd cc)
    (λ k. let x = one_mapped variable_object (filter (λ v. is_shown v.mark) m.variables) o k in let bad : false ≡ true = ap (λ (o : List ℕ × Desc). is_type o.1) x.1.1 ∙ ty in absurd cc)
    (one_joined cs vs o k))
    (λ k. let x = one_mapped procedure_object (filter is_exported m.procedures) o k in let bad : false ≡ true = ap (λ (o : List ℕ × Desc). is_type o.1) x.1.1 ∙ ty in absurd cc)
    (one_joined (cs ++ vs) ps o k))
    (λ k.
    let x = one_mapped type_object (types_among m (reached_types m)) o k in
    let there = one_filtered (λ t. is_among (reached_types m) (own_name m t)) m.types x.0 x.1.0 in
    (x.0, (there, (ap (λ (o : List ℕ × Desc). o.0) x.1.1, ap (λ (o : List ℕ × Desc). o.1) x.1.1))))
    (one_joined ((cs ++ vs) ++ ps) ts o (one_ordered by_name (((cs ++ vs) ++ ps) ++ ts) o j))

-- a type is the one of its name
pub found_type : (ts : List TypedType) (t : TypedType) → AreDistinct (λ t. t.name) ts → IsOneOf ts t → type_named ts t.name ≡ Some t.desc
found_type [] t differ i = absurd i
found_type (u ∷ ts) t differ (inl e) = subst (λ (z : TypedType). (if bytes_eq z.name u.name then Some u.desc else type_named ts z.name) ≡ Some z.desc) e (ap (λ (b : Bool). if b then Some u.desc else type_named ts u.name) (bytes_same u.name))
found_type (u ∷ ts) t differ (inr k) = ap (λ (b : Bool). if b then Some u.desc else type_named ts t.name) (other_name t.name u.name (of_all (λ z. z.name ≢ u.name) ts t differ.0 k)) ∙ found_type ts t differ.1 k

pub shown_type : (m : Module) → AreDistinct (λ t. t.name) m.types → (x : List ℕ) (d : Desc) → object_named (objects_of m) x ≡ Some d → is_type d ≡ true → (e : Desc) × ((type_named m.types x ≡ Some e) × (seen (in_places e) ≡ d))
shown_type m differ x d e ty =
    let t = type_of m (x, d) (object_found (objects_of m) x d e) ty in
    (t.0.desc, (subst (λ y. type_named m.types y ≡ Some t.0.desc) t.1.1.0 (found_type m.types t.0 differ t.1.0), t.1.1.1))

-- a build shows its tree, whose types differ in name
pub record Showing (b : Build) : Type 0 where
  pub name : name_of b ≡ (tree_of b).name
  pub objects : (shows_of b).objects ≡ objects_of (tree_of b)
  pub types : AreDistinct (λ t. t.name) (tree_of b).types

pub builds_show : (bs : List Build) → AllByRecursion Showing bs → (q : QName) (d : Desc) → described (each shows_of bs) q ≡ Some d → is_type d ≡ true → (e : Desc) × ((description (program_of bs) q ≡ Some e) × (seen (in_places e) ≡ d))
builds_show [] h q d e ty = absurd cc
builds_show (b ∷ bs) h q d e ty = by (bytes_eq q.«module» (name_of b)) refl e (λ e. builds_show bs h.1 q d e ty)
  where
    by : (k : Bool) → bytes_eq q.«module» (name_of b) ≡ k → (cond k (Some (shows_of b)) (face_named (each shows_of bs) q.«module») >>= λ (f : Face Text). object_named f.objects q.object) ≡ Some d → (described (each shows_of bs) q ≡ Some d → (e : Desc) × ((description (program_of bs) q ≡ Some e) × (seen (in_places e) ≡ d))) → (e : Desc) × ((description (program_of (b ∷ bs)) q ≡ Some e) × (seen (in_places e) ≡ d))
    by true i e r =
        let s = shown_type (tree_of b) h.0.types q.object d (ap (λ os. object_named os q.object) (sym h.0.objects) ∙ e) ty in
        (s.0, (ap (λ (k : Bool). if k then type_named (tree_of b).types q.object else description (program_of bs) q) (ap (bytes_eq q.«module») (sym h.0.name) ∙ i) ∙ s.1.0, s.1.1))
    by false i e r =
        let s = r e in
        (s.0, (ap (λ (k : Bool). if k then type_named (tree_of b).types q.object else description (program_of bs) q) (ap (bytes_eq q.«module») (sym h.0.name) ∙ i) ∙ s.1.0, s.1.1))
