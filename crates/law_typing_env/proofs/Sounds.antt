-- Modules that stand over interfaces of one age make a sound program.
use Rattle.std.proofs.Common.{◌≡◌, ⊎_elim, ℕ, List, [], ◌++◌, map as each, Some, None, refl, sym, ap, subst, ◌∙◌}
use Rattle.std.specs.Prelude.{true, false}
use Rattle.std.specs.List.{filter, AllByRecursion}
use Rattle.ob_tree.specs.declared.names.QName.{QName}
use Rattle.ob_tree.specs.declared.ident.Mark.{Mark}
use Rattle.ob_types.specs.declared.types.TypeRef.{TypeRef}
use Rattle.ob_types.specs.declared.desc.Desc.{Desc}
use Rattle.ob_types.specs.declared.desc.Desc.TheVariants as desc
use Rattle.ob_types.specs.declared.desc.RecordDesc.{RecordDesc}
use Rattle.ob_types.specs.Maps.{is_type}
use Rattle.ob_types.specs.TypedSyntax.{Module}
use Rattle.ob_meaning.specs.Values.{Program, description}
use Rattle.law_simulation_relation.specs.Relation.{IsLength}
use Rattle.ob_desc.specs.Grammar.{is_shown, seen}
use Rattle.ob_env.specs.Faces.{Face, described}
use Rattle.ob_uses_roots.specs.Counts.{own_name}
use Rattle.ob_uses.specs.Objects.{is_exported, constant_object, variable_object, procedure_object, in_places, type_object, types_among, reached_types, by_name, objects_of}
use Rattle.ob_uses.specs.Closed.{is_among}
use Rattle.ob_rules.specs.Names.{out_string}
use Rattle.law_typing_forms.specs.Formed.{IsMethodOf}
use Rattle.law_typing_forms.specs.Said.{IsOneOf, HaveNames, IsSound}
use Rattle.law_typing_forms.specs.Whole.{IsWhole}
use Rattle.law_typing_forms.proofs.Modules.{of_all, type_there}
use Rattle.law_typing_env.specs.Ages.{IsShownBy, AreShown}
use Rattle.law_typing_env.specs.Ordered.{StandInOrder}
use Rattle.law_typing_env.proofs.Shown.{one_joined, one_filtered, one_mapped, one_ordered, face_found, object_found}
use Rattle.law_typing_env.proofs.Ordered.{program_sound}

module _ (program : Program) (whole : IsWhole program) where
  abbrev at : Module → List ℕ → QName
  at m x = record { «module» = m.name; object = x }

  object_declared : (m : Module) (o : List ℕ × Desc) → IsOneOf program m → IsOneOf (objects_of m) o → is_type o.1 ≡ true → (e : Desc) × ((description program (at m o.0) ≡ Some e) × (seen (in_places e) ≡ o.1))
  object_declared m o i j ty =
      let cs = each constant_object (filter (λ c. is_shown c.mark) m.constants) in
      let vs = each variable_object (filter (λ v. is_shown v.mark) m.variables) in
      let ps = each procedure_object (filter is_exported m.procedures) in
      let ts = each type_object (types_among m (reached_types m)) in
      ⊎_elim
      (λ k. ⊎_elim
      (λ k. ⊎_elim
      (λ k. let x = one_mapped constant_object (filter (λ c. is_shown c.mark) m.constants) o k in let bad : false ≡ true = ap (λ (o : List ℕ × Desc). is_type o.1) x.1.1 ∙ ty in absurd cc)
      (λ k. let x = one_mapped variable_object (filter (λ v. is_shown v.mark) m.variables) o k in let bad : false ≡ true = ap (λ (o : List ℕ × Desc). is_type o.1) x.1.1 ∙ ty in absurd cc)
      (one_joined cs vs o k))
      (λ k. let x = one_mapped procedure_object (filter is_exported m.procedures) o k in let bad : false ≡ true = ap (λ (o : List ℕ × Desc). is_type o.1) x.1.1 ∙ ty in absurd cc)
      (one_joined (cs ++ vs) ps o k))
      (λ k.
      let x = one_mapped type_object (types_among m (reached_types m)) o k in
      let there = one_filtered (λ t. is_among (reached_types m) (own_name m t)) m.types x.0 x.1.0 in
      subst (λ (o : List ℕ × Desc). (e : Desc) × ((description program (at m o.0) ≡ Some e) × (seen (in_places e) ≡ o.1))) x.1.1 (x.0.desc, (type_there program whole m x.0 i there, refl)))
      (one_joined ((cs ++ vs) ++ ps) ts o (one_ordered by_name (((cs ++ vs) ++ ps) ++ ts) o j))

  -- WHAT INTERFACES SHOW OF TYPES is what is seen of the declarations
  pub types_shown : {K : Type 0} (faces : List (Face K)) → AreShown program faces → (q : QName) (d : Desc) → described faces q ≡ Some d → is_type d ≡ true → (e : Desc) × ((description program q ≡ Some e) × (seen (in_places e) ≡ d))
  types_shown faces age q d e ty =
      let f = face_found faces q d e in
      let s : IsShownBy program f.f = of_all (λ f. IsShownBy program f) faces f.f age f.there in
      let o : IsOneOf (objects_of s.m) (q.object, d) = subst (λ os. IsOneOf os (q.object, d)) s.objects (object_found f.f.objects q.object d f.object) in
      let n : q.«module» ≡ s.m.name = f.name ∙ s.name in
      subst (λ (x : List ℕ). (e : Desc) × ((description program (let p : QName = record { «module» = x; object = q.object } in p) ≡ Some e) × (seen (in_places e) ≡ d))) (sym n) (object_declared s.m (q.object, d) s.there o ty)

-- MODULES IN ORDER make a sound program, where the rest is so
pub sound_in_order : (program : Program) → StandInOrder [] program
    → ((q : QName) (m : Mark) (n : ℕ) (t : TypeRef) → description program q ≡ Some (desc.Array m n t) → IsLength n)
    → ((q : QName) (r : RecordDesc) → description program q ≡ Some (desc.Record r) → HaveNames r.fields)
    → ((q : QName) (r : RecordDesc) → description program q ≡ Some (desc.Record r) → AllByRecursion (λ m. IsMethodOf program q m) r.methods)
    → description program out_string ≡ None
    → IsSound program
sound_in_order program h lengths fields methods out =
    let s = program_sound program h in
    record { held = s.held; ends = s.ends; keeps = s.keeps; lengths = lengths; fields = fields; methods = methods; out = out }
