-- What introduces a method in a checked module is a bound procedure of the program that has the module.
use Rattle.std.proofs.Common.{◌≡◌, ◌≢◌, refl, sym, ap, ◌∙◌, subst, ℕ, zero, suc, List, [], ◌∷◌, ◌++◌, map as each, Option, Some, None, inl, inr}
use Rattle.std.specs.Prelude.{Bool, true, false, bytes_eq, codes, ◌&&◌, if◌then◌else◌}
use Rattle.std.specs.List.{AllByRecursion}
use Rattle.std.proofs.lemmas.Bool.{false≢true, and_parts}
use Rattle.ob_tree.specs.declared.names.QName.{QName}
use Rattle.ob_tree.specs.declared.ident.Mark.{Mark}
use Rattle.ob_types.specs.declared.types.Mode.{Mode}
use Rattle.ob_types.specs.declared.types.Mode.TheVariants as mode
use Rattle.ob_types.specs.declared.types.TypeRef.{TypeRef}
use Rattle.ob_types.specs.declared.types.TypeRef.TheVariants as ref
use Rattle.ob_types.specs.declared.desc.Desc.{Desc}
use Rattle.ob_types.specs.declared.desc.Desc.TheVariants as desc
use Rattle.ob_types.specs.declared.desc.Method.{Method}
use Rattle.ob_types.specs.declared.desc.Receiver.{Receiver}
use Rattle.ob_types.specs.declared.desc.Receiver.TheVariants as receiver
use Rattle.ob_types.specs.declared.typed.Binding.{Binding}
use Rattle.ob_types.specs.declared.typed.Family.{Family}
use Rattle.ob_types.specs.declared.typed.TypedParameter.{TypedParameter}
use Rattle.ob_types.specs.declared.typed.TypedProcedure.{TypedProcedure}
use Rattle.ob_types.specs.declared.typed.TypedModule.{TypedModule}
use Rattle.ob_types.specs.Tests.{alias_of, follow, target, shape_at}
use Rattle.ob_types.specs.TypedSyntax.{Procedure, Module}
use Rattle.ob_types.specs.TypedView.{procedure_view}
use Rattle.ob_meaning.specs.Values.{same_name, Program, Form, BasicForm, PointerForm, ProcedureForm, ArrayForm, OpenForm, RecordForm, description, form_in, record_in, procedure_of}
use Rattle.ob_meaning.specs.Meaning.{same_family, is_bound, declared_among, declared_for}
use Rattle.law_simulation_relation.specs.Typed.{passing_for, result_form, ReceiverOk}
use Rattle.law_simulation_relation.proofs.Names.{bytes_true, bytes_same, name_true, name_same}
use Rattle.ob_rules.specs.Shapes.{shape, record_of, record_if, pointed, pointed_record}
use Rattle.ob_rules.specs.Names.{map_of}
use Rattle.law_body_context.specs.Judged.{mode_of, AreOf}
use Rattle.law_body_context.proofs.Receivers.{received_as}
use Rattle.law_typing_forms.specs.Formed.{AreParameters, behind, introduced, IsMethodOf}
use Rattle.law_typing_forms.specs.Said.{IsOneOf, ChainsEnd}
use Rattle.law_typing_forms.specs.Whole.{Different, IsPassed, HeadingOk, IsWhole}
use Rattle.law_typing_forms.proofs.Finds as finds
use Rattle.law_typing_forms.proofs.Modules.{of_all, other_name, own, procedure_there}
use Rattle.law_typing_forms.proofs.Within.{form_ends}
use Rattle.law_methods_bound.specs.There.{passed_as, introducing, Receives, IsIntroduced}
use Rattle.law_methods_bound.specs.Methods.{TypesAreSaid, IsNamedSo, HasChecked, IntroducedAreMethods}

-- ---- the form of a receiver

module _ (map : QName → Option Desc) (program : Program) (ends : ChainsEnd program) (said : TypesAreSaid map program) where
  abbrev form : TypeRef → Form
  form = form_in program

  alias_form : (t u : TypeRef) → alias_of map t ≡ Some u → form t ≡ form u
  alias_form (ref.Basic b) u e = absurd cc
  alias_form (ref.Named q) u e =
      let h = finds.is_alias (map q) u e in
      let k = said q (desc.Alias h.0 u) h.1 in
      form_ends program ends q (desc.Alias k.0 u) k.1

  target_form : (n : ℕ) (t : TypeRef) → form (target map n t) ≡ form t
  unfolding target
  target_form zero t = refl
  target_form (suc n) t = by (alias_of map t) refl (λ u. target_form n u)
    where
      by : (o : Option TypeRef) → alias_of map t ≡ o → ((u : TypeRef) → form (target map n u) ≡ form u) → form (follow o t (λ u. target map n u)) ≡ form t
      by None e r = refl
      by (Some u) e r = r u ∙ sym (alias_form t u e)

  record_form : (t : TypeRef) (q : QName) → record_of map t ≡ Some q → form t ≡ record_in program q
  record_form t q e = let h = finds.is_record (target map 201 t) (shape map t) q e in sym (target_form 201 t) ∙ ap form h.0

  pointer_form : (t u : TypeRef) → pointed map t ≡ Some u → form t ≡ PointerForm u
  pointer_form t u e = let h = finds.is_pointer (shape map t) u e in by (target map 201 t) refl h.0 h.1
    where
      by : (v : TypeRef) → target map 201 t ≡ v → (m : Mark) → shape_at map v ≡ Some (desc.Pointer m u) → form t ≡ PointerForm u
      by (ref.Basic b) is m e = absurd cc
      by (ref.Named q) is m e =
          let k = said q (desc.Pointer m u) e in
          sym (target_form 201 t) ∙ ap form is ∙ form_ends program ends q (desc.Pointer k.0 u) k.1

  pointer_record : (t : TypeRef) (q : QName) → pointed_record map t ≡ Some q → (u : TypeRef) × (form t ≡ PointerForm u) × (form u ≡ record_in program q)
  pointer_record t q e = by (pointed map t) refl e
    where
      by : (o : Option TypeRef) → pointed map t ≡ o → record_if map o ≡ Some q → (u : TypeRef) × (form t ≡ PointerForm u) × (form u ≡ record_in program q)
      by None is e = absurd cc
      by (Some u) is e = (u, pointer_form t u is, record_form u q e)

  received : (kind : Receiver) (q : QName) (x : TypedParameter) (rest : List TypedParameter) → x.passing ≡ passed_as kind → received_as map kind x.of ≡ Some q → ReceiverOk program kind q (x ∷ rest)
  received receiver.Record q x rest p e = (p, record_form x.of q e)
  received receiver.Pointer q x rest p e = (p, pointer_record x.of q e)

-- ---- parameters

mode_is : (m : Mode) (f : Form) → mode_of (passing_for m f) ≡ m
mode_is mode.Value (OpenForm t) = refl
mode_is mode.Value (ArrayForm n t) = refl
mode_is mode.Value (RecordForm line fs) = refl
mode_is mode.Value (BasicForm b) = refl
mode_is mode.Value (PointerForm t) = refl
mode_is mode.Value (ProcedureForm s) = refl
mode_is mode.Var (OpenForm t) = refl
mode_is mode.Var (ArrayForm n t) = refl
mode_is mode.Var (RecordForm line fs) = refl
mode_is mode.Var (BasicForm b) = refl
mode_is mode.Var (PointerForm t) = refl
mode_is mode.Var (ProcedureForm s) = refl

pub parameters_are : (program : Program) (xs : List TypedParameter) (ks : List (Mode × TypeRef)) → AreOf xs ks → AllByRecursion (IsPassed program) xs → AreParameters program xs ks
parameters_are program [] [] a p = tt
parameters_are program [] (k ∷ ks) a p = absurd a
parameters_are program (x ∷ xs) [] a p = absurd a
parameters_are program (x ∷ xs) (k ∷ ks) a p =
    let same : p.0.mode ≡ k.0 = sym (mode_is p.0.mode (form_in program x.of)) ∙ ap mode_of (sym p.0.passing) ∙ a.0.1 in
    (ap (form_in program) a.0.0, (p.0.passing ∙ ap (λ m. passing_for m (form_in program x.of)) same ∙ ap (λ t. passing_for k.0 (form_in program t)) a.0.0, parameters_are program xs ks a.1 p.1))

-- ---- the procedure that is bound

pub bound_same : (b : Binding) → is_bound (Some b) b.owner b.family ≡ true
bound_same b = ap (λ z. z && same_family b.family b.family) (name_same b.owner) ∙ ap (λ z. z && bytes_eq b.family.name b.family.name) (name_same b.family.owner) ∙ bytes_same b.family.name

named_by : (p : Procedure) → IsNamedSo p → (o : Option Binding) → p.binding ≡ o → (q : QName) (f : Family) → is_bound o q f ≡ true → p.name ≡ q.object ++ codes "." ++ f.name
named_by p n None e q f is = absurd (false≢true is)
named_by p n (Some b) e q f is =
    let h = and_parts (same_name b.owner q) (same_family b.family f) is in
    let k = and_parts (same_name b.family.owner f.owner) (bytes_eq b.family.name f.name) h.1 in
    n b e ∙ ap (λ (x : QName). x.object ++ codes "." ++ b.family.name) (name_true b.owner q h.0) ∙ ap (λ (x : List ℕ). q.object ++ codes "." ++ x) (bytes_true b.family.name f.name k.1)

abbrev pub called : QName → Family → QName
called q f = record { «module» = q.«module»; object = q.object ++ codes "." ++ f.name }

pub declared_one : (ps : List Procedure) → AllByRecursion IsNamedSo ps → (q : QName) (f : Family) (p : Procedure) → IsOneOf ps p → is_bound p.binding q f ≡ true → declared_among ps q f ≡ Some (called q f)
declared_one [] n q f p i is = absurd i
declared_one (x ∷ ps) n q f p i is = by (is_bound x.binding q f) refl i (λ j. declared_one ps n.1 q f p j is)
  where
    by : (b : Bool) → is_bound x.binding q f ≡ b → IsOneOf (x ∷ ps) p → (IsOneOf ps p → declared_among ps q f ≡ Some (called q f)) → (if b then Some (record { «module» = q.«module»; object = x.name }) else declared_among ps q f) ≡ Some (called q f)
    by true e i r = ap (λ (y : List ℕ). let z : QName = record { «module» = q.«module»; object = y } in Some z) (named_by x n.0 x.binding refl q f e)
    by false e (inl s) r = absurd (false≢true (sym e ∙ ap (λ (z : Procedure). is_bound z.binding q f) s ∙ is))
    by false e (inr j) r = r j

pub declared_in : (ms : List Module) → Different (λ m. m.name) ms → (m : Module) → IsOneOf ms m → (x : List ℕ) (f : Family) → (let q : QName = record { «module» = m.name; object = x } in declared_for ms q f ≡ declared_among m.procedures q f)
declared_in [] d m i x f = absurd i
declared_in (y ∷ ms) d m (inl e) x f =
    subst (λ (m : Module). let q : QName = record { «module» = m.name; object = x } in declared_for (y ∷ ms) q f ≡ declared_among m.procedures q f) e
    (let q : QName = record { «module» = y.name; object = x } in ap (λ b. if b then declared_among y.procedures q f else declared_for ms q f) (bytes_same y.name))
declared_in (y ∷ ms) d m (inr i) x f =
    let q : QName = record { «module» = m.name; object = x } in
    ap (λ b. if b then declared_among y.procedures q f else declared_for ms q f) (other_name m.name y.name (of_all (λ z. z.name ≢ y.name) ms m d.0 i))
    ∙ declared_in ms d.1 m i x f

viewed : (ps : List TypedProcedure) (p : TypedProcedure) → IsOneOf ps p → IsOneOf (each procedure_view ps) (procedure_view p)
viewed [] p i = absurd i
viewed (x ∷ ps) p (inl e) = inl (ap procedure_view e)
viewed (x ∷ ps) p (inr i) = inr (viewed ps p i)

-- ---- a method

module _ (program : Program) (ends : ChainsEnd program) (whole : IsWhole program) (shown : QName → Option Desc) (checked : TypedModule) (has : HasChecked program shown checked) where
  in_module : (x : List ℕ) (k : Method) → (let q : QName = record { «module» = has.m.name; object = x } in IsIntroduced shown checked q k → IsMethodOf program q k)
  in_module x k i =
      let q : QName = record { «module» = has.m.name; object = x } in
      let p = procedure_view i.p in
      let here : IsOneOf has.m.procedures p = subst (λ ps. IsOneOf ps p) (sym has.procedures) (viewed checked.procedures i.p i.there) in
      let f = introduced q k in
      let bound : is_bound p.binding q f ≡ true = ap (λ o. is_bound o q f) i.binding ∙ bound_same (introducing q k) in
      let n : QName = called q f in
      let w = i.receives.w in
      let said = has.said w i.receives.unit_is i.receives.shown_is i.receives.told in
      let heading : HeadingOk program p = of_all (HeadingOk program) has.m.procedures p (own program whole has.m has.there).headings here in
      let passed : AllByRecursion (IsPassed program) i.rest = (subst (AllByRecursion (IsPassed program)) i.parameters heading.0).1 in
      record {
        name = n;
        p = p;
        declared = declared_in program whole.names has.m has.there x f ∙ declared_one has.m.procedures has.named q f p here bound;
        found = ap (λ (y : List ℕ). let z : QName = record { «module» = has.m.name; object = y } in procedure_of program z) (sym i.name) ∙ procedure_there program whole has.m p has.there here;
        receives = subst (ReceiverOk program k.receiver q) (sym i.parameters) (received (map_of w) program ends said k.receiver q i.self i.rest i.receives.passed i.receives.is);
        result = ap (result_form program) i.result;
        parameters = subst (λ ps. AreParameters program (behind ps) k.signature.params) (sym i.parameters) (parameters_are program i.rest k.signature.params i.are passed);
      }

pub introduced_are_methods : IntroducedAreMethods
introduced_are_methods program ends whole shown checked has q k unit i =
    let same : record { «module» = has.m.name; object = q.object } ≡ q = ap (λ (y : List ℕ). let z : QName = record { «module» = y; object = q.object } in z) (has.name ∙ sym unit) in
    subst (λ z. IsMethodOf program z k) same (in_module program ends whole shown checked has q.object k (subst (λ z. IsIntroduced shown checked z k) (sym same) i))
