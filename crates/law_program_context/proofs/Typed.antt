-- The types of the parameters and the results of procedures are types of the program.
use Rattle.std.proofs.Common.{◌≡◌, ℕ, Bool, true, false, List, [], ◌∷◌, ◌++◌, map as each, Option, Some, None, inl, inr, refl, sym, ap, subst, ◌∙◌}
use Rattle.std.specs.Prelude.{bytes_eq, is_some, if◌then◌else◌, MatchOption, IsTrue}
use Rattle.std.specs.Option.{option_map}
use Rattle.std.specs.List.{AllByRecursion}
use Rattle.ob_tree.specs.declared.names.QName.{QName}
use Rattle.ob_types.specs.declared.types.TypeRef.{TypeRef}
use Rattle.ob_types.specs.declared.types.TypeRef.TheVariants as ref
use Rattle.ob_types.specs.declared.desc.Desc.{Desc}
use Rattle.ob_types.specs.declared.desc.Desc.TheVariants as desc
use Rattle.ob_types.specs.declared.typed.TypedType.{TypedType}
use Rattle.ob_types.specs.declared.typed.TypedParameter.{TypedParameter}
use Rattle.ob_types.specs.declared.typed.TypedProcedure.{TypedProcedure}
use Rattle.ob_types.specs.Maps.{is_type, listed}
use Rattle.ob_types.specs.TypedSyntax.{Procedure, Module}
use Rattle.ob_types.specs.TypedView.{procedure_view, module_view}
use Rattle.ob_meaning.specs.Values.{Program, description, procedure_named, procedure_of}
use Rattle.law_simulation_relation.proofs.Names.{bytes_true}
use Rattle.ob_layout.specs.LaidOut.{laid_type, laid_out}
use Rattle.ob_env.specs.Faces.{described}
use Rattle.ob_env.specs.Shown.{blank, shown}
use Rattle.ob_rules.specs.Shapes.{is_held}
use Rattle.law_typing_forms.specs.Said.{IsOneOf}
use Rattle.law_typing_forms.specs.Whole.{IsWhole}
use Rattle.law_typing_forms.proofs.Modules.{of_all, type_there}
use Rattle.law_typing_env.proofs.Shown.{one_mapped}
use Rattle.law_typing_env.proofs.Sounds.{types_shown}
use Rattle.law_typing.specs.Makes.{IfThere}
use Rattle.law_body_context.specs.Knows.{HasName, Grows, StandsBy, Stands}
use Rattle.law_typing_values.specs.Laws.{AreTypesOf}
use Rattle.law_typing_values.proofs.Values.{values_are_made}
use Rattle.law_program_context.specs.Judged.{IsJudgedModule}
use Rattle.law_program_context.proofs.Age.{age_in}
use Rattle.law_program_context.specs.JudgedLaws.{ProceduresTyped, ValuesHad}

-- ---- what is found

procedure_found : (ps : List Procedure) (x : List ℕ) (p : Procedure) → procedure_named ps x ≡ Some p → IsOneOf ps p
procedure_found [] x p e = absurd cc
procedure_found (q ∷ ps) x p e = by (bytes_eq x q.name) e (λ f. procedure_found ps x p f)
  where
    by : (b : Bool) → (if b then Some q else procedure_named ps x) ≡ Some p → (procedure_named ps x ≡ Some p → IsOneOf ps p) → IsOneOf (q ∷ ps) p
    by true e r = inl (let h : q ≡ p = cc in h)
    by false e r = inr (r e)

pub record Found (ms : List Module) (p : Procedure) : Type 0 where
  pub m : Module
  pub there : IsOneOf ms m
  pub has : IsOneOf m.procedures p

module_found : (ms : List Module) (q : QName) (p : Procedure) → procedure_of ms q ≡ Some p → Found ms p
module_found [] q p e = absurd cc
module_found (m ∷ ms) q p e = by (bytes_eq q.«module» m.name) e (λ f. module_found ms q p f)
  where
    by : (b : Bool) → (if b then procedure_named m.procedures q.object else procedure_of ms q) ≡ Some p → (procedure_of ms q ≡ Some p → Found ms p) → Found (m ∷ ms) p
    by true e r = record { m = m; there = inl refl; has = procedure_found m.procedures q.object p e }
    by false e r = let f = r e in record { m = f.m; there = inr f.there; has = f.has }

-- ---- types

blank_type : (d : Desc) → is_type (blank d) ≡ is_type d
blank_type (desc.Const v) = refl
blank_type (desc.Var m t) = refl
blank_type (desc.Proc s) = refl
blank_type (desc.Alias m t) = refl
blank_type (desc.Array m n t) = refl
blank_type (desc.OpenArray m t) = refl
blank_type (desc.Pointer m t) = refl
blank_type (desc.ProcType m s) = refl
blank_type (desc.Record r) = refl

laid_names : (types : QName → Option Desc) (m : Module) (ts : List TypedType) → Grows ts (each (laid_type types m) ts)
laid_names types m [] x h = absurd h.1.0
laid_names types m (t ∷ ts) x (s, (inl e, f)) = (laid_type types m t, (inl refl, ap (λ (r : TypedType). r.name) e ∙ f))
laid_names types m (t ∷ ts) x (s, (inr i, f)) = let r = laid_names types m ts x (s, (i, f)) in (r.0, (inr r.1.0, r.1.1))

module _ (program : Program) (whole : IsWhole program) where
  some_held : (q : QName) (d : Desc) → description program q ≡ Some d → is_held (description program) (ref.Named q) ≡ true
  some_held q d e = ap is_some e

  module _ (m : Module) (there : IsOneOf program m) (j : IsJudgedModule program m) where
    -- a type of the module
    own_held : (q : QName) → bytes_eq q.«module» j.checked.name ≡ true → HasName j.checked.types q.object → is_held (description program) (ref.Named q) ≡ true
    own_held q u h =
        let l = laid_out j.types (module_view j.checked) in
        let n = laid_names j.types (module_view j.checked) j.checked.types q.object h in
        let i : IsOneOf m.types n.0 = subst (λ (k : Module). IsOneOf k.types n.0) (sym j.is) n.1.0 in
        let unit : q.«module» ≡ m.name = bytes_true q.«module» j.checked.name u ∙ sym (ap (λ (k : Module). k.name) j.is) in
        some_held q n.0.desc
        (ap (λ (x : List ℕ). description program (let p : QName = record { «module» = x; object = q.object } in p)) unit
        ∙ ap (λ (x : List ℕ). description program (let p : QName = record { «module» = m.name; object = x } in p)) (sym n.1.1)
        ∙ type_there program whole m n.0 there i)

    -- one that another module shows
    other_held : (q : QName) → MatchOption (shown j.faces q) ⊥ (λ d. IsTrue (is_type d)) → is_held (description program) (ref.Named q) ≡ true
    other_held q h = by (described j.faces q) refl h
      where
        by : (o : Option Desc) → described j.faces q ≡ o → MatchOption (option_map blank o) ⊥ (λ d. IsTrue (is_type d)) → is_held (description program) (ref.Named q) ≡ true
        by None e h = absurd h
        by (Some d) e h = let s = types_shown program whole j.faces (age_in program m j) q d e (sym (blank_type d) ∙ h) in some_held q s.0 s.1.0

    stands_held : (t : TypeRef) → Stands j.checked.name (shown j.faces) j.checked.types t → is_held (description program) t ≡ true
    stands_held (ref.Basic b) h = refl
    stands_held (ref.Named q) h = by (bytes_eq q.«module» j.checked.name) refl h.1
      where
        by : (b : Bool) → bytes_eq q.«module» j.checked.name ≡ b → StandsBy b (shown j.faces) j.checked.types q → is_held (description program) (ref.Named q) ≡ true
        by true e h = own_held q e h
        by false e h = other_held q h

    result_held : (r : Option TypeRef) → IfThere (Stands j.checked.name (shown j.faces) j.checked.types) r → AreTypesOf program (listed r)
    result_held None h = tt
    result_held (Some t) h = (stands_held t h, tt)

    all_held : (ps : List TypedParameter) (ts : List TypeRef) → AllByRecursion (λ (x : TypedParameter). Stands j.checked.name (shown j.faces) j.checked.types x.of) ps → AreTypesOf program ts → AreTypesOf program (each (λ x. x.of) ps ++ ts)
    all_held [] ts h k = k
    all_held (p ∷ ps) ts h k = (stands_held p.of h.0, all_held ps ts h.1 k)

    procedure_typed : (p : Procedure) → IsOneOf m.procedures p → AreTypesOf program (each (λ x. x.of) p.parameters ++ listed p.result)
    procedure_typed p i =
        let k : IsOneOf (each procedure_view j.checked.procedures) p = subst (λ (x : Module). IsOneOf x.procedures p) j.is i in
        let x = one_mapped procedure_view j.checked.procedures p k in
        let f : TypedProcedure = x.0 in
        let h = of_all _ j.checked.procedures f j.bodies.procedures x.1.0 in
        subst (λ (y : Procedure). AreTypesOf program (each (λ x. x.of) y.parameters ++ listed y.result)) x.1.1 (all_held f.parameters (listed f.result) h.parameters (result_held f.result h.answer))

-- THE LAWS

pub procedures_typed : ProceduresTyped
procedures_typed program whole judged q p e =
    let f = module_found program q p e in
    procedure_typed program whole f.m f.there (of_all (IsJudgedModule program) program f.m judged f.there) p f.has

pub values_had : ValuesHad
values_had program whole judged q s i is = values_are_made program (procedures_typed program whole judged) q s i is
