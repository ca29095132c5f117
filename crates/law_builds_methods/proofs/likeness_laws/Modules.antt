-- The bound procedures of a checked module of a program are like the methods of their families.
use Rattle.std.proofs.Common.{◌≡◌, ◌≢◌, refl, sym, ap, ◌∙◌, subst, ℕ, List, [], ◌∷◌, map as each, Some, inl, inr}
use Rattle.std.specs.Prelude.{Bool, true, false}
use Rattle.std.specs.List.{AllByRecursion}
use Rattle.std.proofs.lemmas.Bool.{false≢true}
use Rattle.std.proofs.lemmas.Slice.Eq.{bytes_eq-Decides}
use Rattle.ob_tree.specs.declared.names.QName.{QName}
use Rattle.ob_types.specs.declared.desc.Desc.{Desc}
use Rattle.ob_types.specs.declared.desc.Desc.TheVariants as desc
use Rattle.ob_types.specs.declared.desc.Field.{Field}
use Rattle.ob_types.specs.declared.desc.Method.{Method}
use Rattle.ob_types.specs.declared.desc.RecordDesc.{RecordDesc}
use Rattle.ob_types.specs.declared.typed.Binding.{Binding}
use Rattle.ob_types.specs.declared.typed.Family.{Family}
use Rattle.ob_types.specs.declared.typed.TypedType.{TypedType}
use Rattle.ob_types.specs.declared.typed.TypedProcedure.{TypedProcedure}
use Rattle.ob_types.specs.TypedSyntax.{Procedure, Module}
use Rattle.ob_types.specs.TypedView.{module_view, procedure_view}
use Rattle.ob_meaning.specs.Values.{same_name, Program, description, procedure_of}
use Rattle.ob_meaning.specs.Meaning.{is_bound, declared_for}
use Rattle.ob_layout.specs.Members.{method_named}
use Rattle.ob_env.specs.Shown.{shown}
use Rattle.law_simulation_relation.specs.Typed.{ReceiverOk, result_form}
use Rattle.law_simulation_relation.proofs.Names.{name_true, name_same}
use Rattle.ob_rules.specs.Names.{Around, map_of}
use Rattle.ob_rules.specs.Headings.{self_parameter}
use Rattle.law_names_distinct.specs.Fields as distinct
use Rattle.law_names_distinct.specs.Distinct.{AreDistinct}
use Rattle.law_names_distinct.proofs.FieldBlocks.{fields_differ}
use Rattle.law_typing_forms.specs.Formed.{AreParameters, behind, IsMethodOf, Formed}
use Rattle.law_typing_forms.specs.Said.{IsOneOf, IsSound, IsFreshName, HaveNames}
use Rattle.law_typing_forms.specs.Whole.{IsPassed, HeadingOk, IsWhole}
use Rattle.law_typing_forms.proofs.Modules.{of_all, own, procedure_there}
use Rattle.law_typing_env.specs.Views.{FieldsDiffer}
use Rattle.law_typing_env.proofs.Views.{one_each, ruled_formed}
use Rattle.law_methods_introduced.specs.Families.{view, IsFamily}
use Rattle.law_methods_introduced.proofs.Families.{families_there}
use Rattle.law_program_image.specs.Like.{IsLike}
use Rattle.law_program_image.proofs.Named.{bindings_are_named}
use Rattle.law_methods_bound.specs.Methods.{IsNamedSo}
use Rattle.law_methods_bound.proofs.Methods.{parameters_are, bound_same, called, declared_one, declared_in}
use Rattle.law_builds_methods.proofs.belonging_laws.Methods.{viewed_named}
use Rattle.law_builds_methods.specs.likeness_laws.Checked.{HasText, CheckedAreLike}
use Rattle.law_builds_methods.proofs.likeness_laws.Headings.{IsIn, IsMatched, IsHeading, headed}
use Rattle.law_builds_methods.proofs.likeness_laws.Methods.{method_found, self_received, passed_declared, matching_likely}

-- ---- names of fields

fresh : (x : List ℕ) (fs : List Field) → AllByRecursion (λ f. f.name ≢ x) fs → IsFreshName x fs
fresh x [] h = tt
fresh x (f ∷ fs) h = (λ e. h.0 (sym e), fresh x fs h.1)

have_names : (fs : List Field) → AreDistinct (λ f. f.name) fs → HaveNames fs
have_names [] h = tt
have_names (f ∷ fs) h = (fresh f.name fs h.0, have_names fs h.1)

desc_differs : (d : Desc) → distinct.FieldsDiffer d → FieldsDiffer d
desc_differs (desc.Record r) h = have_names r.fields h
desc_differs (desc.Const v) h = tt
desc_differs (desc.Var m t) h = tt
desc_differs (desc.Proc s) h = tt
desc_differs (desc.Alias m t) h = tt
desc_differs (desc.Array m n t) h = tt
desc_differs (desc.OpenArray m t) h = tt
desc_differs (desc.Pointer m t) h = tt
desc_differs (desc.ProcType m s) h = tt

all_differ : (ts : List TypedType) → distinct.AreApart ts → AllByRecursion (λ t. FieldsDiffer t.desc) ts
all_differ [] h = tt
all_differ (t ∷ ts) h = (desc_differs t.desc h.0, all_differ ts h.1)

-- ---- a module

module _ (program : Program) (sound : IsSound program) (whole : IsWhole program) (m : Module) (there : IsOneOf program m) (text : HasText program m) where
  name_is : m.name ≡ text.typed.name
  name_is = ap (λ (x : Module). x.name) text.is

  procedures_are : m.procedures ≡ each procedure_view text.typed.procedures
  procedures_are = ap (λ (x : Module). x.procedures) text.is

  -- what is known in the module is so in the program
  formed_in : (w : Around) → IsIn (shown text.faces) text.typed w → Formed (map_of w) program
  formed_in w h =
      ruled_formed program sound whole text.faces w
      (record {
        m = m;
        checked = module_view text.typed;
        types = text.types;
        there = there;
        laid = record { name = name_is; types_are = ap (λ (x : Module). x.types) text.is; fields = all_differ text.typed.types (fields_differ (shown text.faces) text.tree text.typed text.checked_is) };
        unit = h.unit_is ∙ sym name_is;
        own = h.own;
        interfaces = h.shown_is;
        age = text.age;
      })

  named : AllByRecursion IsNamedSo m.procedures
  named = subst (AllByRecursion IsNamedSo) (sym procedures_are) (viewed_named text.typed.procedures (bindings_are_named (shown text.faces) text.tree text.typed text.checked_is text.differ text.named))

  module _ (p : Procedure) (here : IsOneOf m.procedures p) (b : Binding) (bound : p.binding ≡ Some b) (r : RecordDesc) (k : Method) (is : description program b.family.owner ≡ Some (desc.Record r)) (found : method_named b.family.name r.methods ≡ Some k) where
    k_there : IsOneOf r.methods k × (k.name ≡ b.family.name)
    k_there = method_found b.family.name r.methods k found

    method : IsMethodOf program b.family.owner k
    method = of_all (λ m. IsMethodOf program b.family.owner m) r.methods k (sound.methods b.family.owner r is) k_there.0

    -- where the record introduces the method itself
    itself : b.owner.«module» ≡ m.name → b.family.owner ≡ b.owner → IsLike program p b k
    itself unit e =
        let q : QName = record { «module» = m.name; object = b.owner.object } in
        let q_is : q ≡ b.owner = ap (λ (x : List ℕ). let z : QName = record { «module» = x; object = b.owner.object } in z) (sym unit) in
        let f : Family = b.family in
        let is_it : is_bound p.binding q f ≡ true = ap (λ o. is_bound o q f) bound ∙ ap (λ z. is_bound (Some b) z f) q_is ∙ bound_same b in
        let declared : declared_for program q f ≡ Some (called q f) = declared_in program whole.names m there b.owner.object f ∙ declared_one m.procedures named q f p here is_it in
        let family : record { owner = b.family.owner; name = k.name } ≡ f = ap (λ (x : List ℕ). let z : Family = record { owner = b.family.owner; name = x } in z) k_there.1 in
        let mine : declared_for program q f ≡ Some method.name = ap (λ z. declared_for program z f) (q_is ∙ sym e) ∙ ap (declared_for program b.family.owner) (sym family) ∙ method.declared in
        let names : Some (called q f) ≡ Some method.name = sym declared ∙ mine in
        let name : called q f ≡ method.name = cc in
        let at : record { «module» = m.name; object = p.name } ≡ called q f = ap (λ (x : List ℕ). let z : QName = record { «module» = m.name; object = x } in z) (of_all IsNamedSo m.procedures p named here b bound) in
        let both : Some method.p ≡ Some p = sym method.found ∙ ap (procedure_of program) (sym (at ∙ name)) ∙ procedure_there program whole m p there here in
        let same : method.p ≡ p = cc in
        record {
          receives = subst (λ o. ReceiverOk program k.receiver o p.parameters) e (subst (λ (x : Procedure). ReceiverOk program k.receiver b.family.owner x.parameters) same method.receives);
          result = subst (λ (x : Procedure). result_form program x.result ≡ result_form program k.signature.result) same method.result;
          parameters = subst (λ (x : Procedure). AreParameters program (behind x.parameters) k.signature.params) same method.parameters;
        }

  module _ (p : TypedProcedure) (here : IsOneOf m.procedures (procedure_view p)) (b : Binding) (h : IsHeading (shown text.faces) text.typed p b) (r : RecordDesc) (k : Method) (is : description program b.family.owner ≡ Some (desc.Record r)) (found : method_named b.family.name r.methods ≡ Some k) where
    passed : AllByRecursion (IsPassed program) h.q.parameters
    passed = (subst (AllByRecursion (IsPassed program)) h.parameters (of_all (HeadingOk program) m.procedures (procedure_view p) (own program whole m there).headings here).0).1

    -- where another record introduces it
    matched : IsMatched (shown text.faces) text.typed h.called h.k h.q b.family.owner h.method → IsLike program (procedure_view p) b k
    matched a =
        let at = method_found b.family.name r.methods k found in
        let formed = formed_in a.w a.inside in
        let self = self_parameter h.x h.k in
        let mine : IsMethodOf program b.family.owner k = of_all (λ m. IsMethodOf program b.family.owner m) r.methods k (sound.methods b.family.owner r is) at.0 in
        let receives : ReceiverOk program h.k.receiver h.k.owner (self ∷ h.q.parameters) = self_received program (map_of h.w) (formed_in h.w h.inside) h.x h.k h.q.parameters h.k.receiver h.receives in
        let l = matching_likely program (map_of a.w) formed k h.method b.family.owner h.k.owner h.k.owner h.called (at.1 ∙ h.name) mine a.found h.k.receiver a.kind h.q.signature a.match
        (passed_declared program h.q.parameters h.q.signature.params h.are passed) self h.q.parameters receives (parameters_are program h.q.parameters h.q.signature.params h.are passed) in
        record {
          receives = subst (λ ps. ReceiverOk program k.receiver b.owner ps) (sym h.parameters) (subst (λ o. ReceiverOk program k.receiver o (self ∷ h.q.parameters)) (sym h.owner) l.receives);
          result = ap (result_form program) h.result ∙ l.result_is;
          parameters = subst (λ ps. AreParameters program (behind ps) k.signature.params) (sym h.parameters) l.parameters;
        }

  abbrev Heading : TypedProcedure → Type 0
  Heading p = (b : Binding) → p.binding ≡ Some b → IsHeading (shown text.faces) text.typed p b

  abbrev HasFamily : TypedProcedure → Type 0
  HasFamily p = (b : Binding) → p.binding ≡ Some b → IsFamily (view (shown text.faces) text.typed) text.typed.name b

  abbrev Like : Procedure → Type 0
  Like p = (b : Binding) → p.binding ≡ Some b → (r : RecordDesc) (k : Method) → description program b.family.owner ≡ Some (desc.Record r) → method_named b.family.name r.methods ≡ Some k → IsLike program p b k

  like : (p : TypedProcedure) → IsOneOf m.procedures (procedure_view p) → Heading p → HasFamily p → Like (procedure_view p)
  like p here heading family b bound r k is found =
      let h = heading b bound in
      let unit : b.owner.«module» ≡ m.name = (bytes_eq-Decides b.owner.«module» text.typed.name).0 (family b bound).own ∙ sym name_is in
      by (same_name b.family.owner b.owner) refl h unit
    where
      by : (c : Bool) → same_name b.family.owner b.owner ≡ c → IsHeading (shown text.faces) text.typed p b → b.owner.«module» ≡ m.name → IsLike program (procedure_view p) b k
      by true e h unit = itself (procedure_view p) here b bound r k is found unit (name_true b.family.owner b.owner e)
      by false e h unit = matched p here b h r k is found (h.matches (λ same. false≢true (sym e ∙ ap (same_name b.family.owner) (h.owner ∙ sym same) ∙ name_same b.family.owner)))

  all_like : (ps : List TypedProcedure) → ((p : TypedProcedure) → IsOneOf ps p → IsOneOf m.procedures (procedure_view p)) → AllByRecursion Heading ps → AllByRecursion HasFamily ps → AllByRecursion Like (each procedure_view ps)
  all_like [] i h f = tt
  all_like (p ∷ ps) i h f = (like p (i p (inl refl)) h.0 f.0, all_like ps (λ x j. i x (inr j)) h.1 f.1)

pub checked_like : CheckedAreLike
checked_like program sound whole m there text =
    let same = procedures_are program sound whole m there text in
    subst (AllByRecursion (Like program sound whole m there text)) (sym same)
    (all_like program sound whole m there text text.typed.procedures
    (λ p i. subst (λ ps. IsOneOf ps (procedure_view p)) (sym same) (one_each procedure_view text.typed.procedures p i))
    (headed (shown text.faces) text.tree text.typed text.bases text.plainly text.checked_is text.differ text.named)
    (families_there (shown text.faces) text.tree text.typed text.checked_is text.differ text.named))
