-- A module of a program that was checked over interfaces of the program's modules: what it introduces are methods of the program.
use Rattle.std.proofs.Common.{◌≡◌, refl, sym, ap, ◌∙◌, subst, ℕ, suc, List, [], ◌∷◌, map as each, Option, Some, None}
use Rattle.std.specs.Prelude.{Bool, true, false, bytes_eq, if◌then◌else◌}
use Rattle.std.specs.List.{AllByRecursion}
use Rattle.std.specs.Option.{option_map}
use Rattle.ob_tree.specs.declared.names.QName.{QName}
use Rattle.ob_tree.specs.declared.ident.Mark.{Mark}
use Rattle.ob_tree.specs.declared.ident.Mark.TheVariants as mark
use Rattle.ob_types.specs.declared.types.Basic.TheVariants as basic
use Rattle.ob_types.specs.declared.types.TypeRef.{TypeRef}
use Rattle.ob_types.specs.declared.types.TypeRef.TheVariants as ref
use Rattle.ob_types.specs.declared.desc.Desc.{Desc}
use Rattle.ob_types.specs.declared.desc.Desc.TheVariants as desc
use Rattle.ob_types.specs.declared.desc.Method.{Method}
use Rattle.ob_types.specs.declared.desc.RecordDesc.{RecordDesc}
use Rattle.ob_types.specs.declared.typed.Binding.{Binding}
use Rattle.ob_types.specs.declared.typed.TypedType.{TypedType}
use Rattle.ob_types.specs.declared.typed.TypedProcedure.{TypedProcedure}
use Rattle.ob_types.specs.declared.typed.TypedModule.{TypedModule}
use Rattle.ob_types.specs.TypedSyntax.{Module}
use Rattle.ob_types.specs.TypedView.{procedure_view, module_view}
use Rattle.ob_meaning.specs.Values.{Program, type_named, description}
use Rattle.ob_layout.specs.LaidOut.{words_in, procedures_in, numbered, laid_desc, laid_type, laid_out}
use Rattle.ob_env.specs.Faces.{Face, described}
use Rattle.ob_env.specs.Shown.{blank, shown}
use Rattle.ob_desc.specs.Grammar.{seen}
use Rattle.ob_uses.specs.Objects.{in_places}
use Rattle.law_simulation_relation.proofs.Names.{bytes_true}
use Rattle.ob_rules.specs.Shapes.{same_name}
use Rattle.ob_rules.specs.Names.{Around, map_of, type_desc, out_string}
use Rattle.law_typing_forms.specs.Formed.{IsMethodOf}
use Rattle.law_typing_forms.specs.Said.{IsOneOf, ChainsEnd}
use Rattle.law_typing_forms.specs.Whole.{IsWhole}
use Rattle.law_typing_forms.proofs.Modules.{of_all, type_there}
use Rattle.law_typing_env.specs.Ages.{AreShown}
use Rattle.law_typing_env.proofs.Sounds.{types_shown}
use Rattle.law_typing_env.proofs.Views.{one_each, type_found, own_found}
use Rattle.law_program_image.specs.Named.{IsNamed}
use Rattle.law_methods_bound.specs.Bound.{methods_of}
use Rattle.law_methods_bound.specs.There.{is_record, type_of, IsIntroduced, type_in}
use Rattle.law_methods_bound.specs.Methods.{IsTypeSaid, TypesAreSaid, IsNamedSo, HasChecked}
use Rattle.law_methods_bound.proofs.Methods.{introduced_are_methods}

pub viewed_named : (ps : List TypedProcedure) → AllByRecursion IsNamed ps → AllByRecursion IsNamedSo (each procedure_view ps)
viewed_named [] h = tt
viewed_named (p ∷ ps) h = (h.0, viewed_named ps h.1)

-- the methods of a type of a module
abbrev pub AreMethods : Program → QName → List Method → Type 0
AreMethods program q ks = AllByRecursion (λ k. IsMethodOf program q k) ks

abbrev pub TypesHave : Program → List ℕ → List TypedType → Type 0
TypesHave program unit ts = AllByRecursion (λ t. AreMethods program (record { «module» = unit; object = t.name }) (methods_of t.desc)) ts

numbered_are : (program : Program) (q : QName) (n : ℕ) (ks : List Method) → AreMethods program q ks → AreMethods program q (numbered n ks)
numbered_are program q n [] h = tt
numbered_are program q n (k ∷ ks) h = (record { name = h.0.name; p = h.0.p; declared = h.0.declared; found = h.0.found; receives = h.0.receives; result = h.0.result; parameters = h.0.parameters }, numbered_are program q (suc n) ks h.1)

laid_are : (program : Program) (q : QName) (words procedures : TypeRef → ℕ) (x : QName) (d : Desc) → AreMethods program q (methods_of d) → AreMethods program q (methods_of (laid_desc words procedures x d))
laid_are program q words procedures x (desc.Record r) h = numbered_are program q _ r.methods h
laid_are program q words procedures x (desc.Const v) h = h
laid_are program q words procedures x (desc.Var k t) h = h
laid_are program q words procedures x (desc.Proc s) h = h
laid_are program q words procedures x (desc.Alias k t) h = h
laid_are program q words procedures x (desc.Array k n t) h = h
laid_are program q words procedures x (desc.OpenArray k t) h = h
laid_are program q words procedures x (desc.Pointer k t) h = h
laid_are program q words procedures x (desc.ProcType k s) h = h

-- what is seen of a declaration is an alias where it is one
alias_seen : (e : Desc) (m : Mark) (t : TypeRef) → seen (in_places e) ≡ desc.Alias m t → e ≡ desc.Alias m t
alias_seen (desc.Record r) m t h = absurd cc
alias_seen (desc.Const v) m t h = h
alias_seen (desc.Var k u) m t h = h
alias_seen (desc.Proc s) m t h = h
alias_seen (desc.Alias k u) m t h = h
alias_seen (desc.Array k n u) m t h = h
alias_seen (desc.OpenArray k u) m t h = h
alias_seen (desc.Pointer k u) m t h = h
alias_seen (desc.ProcType k s) m t h = h

pointer_seen : (e : Desc) (m : Mark) (t : TypeRef) → seen (in_places e) ≡ desc.Pointer m t → e ≡ desc.Pointer m t
pointer_seen (desc.Record r) m t h = absurd cc
pointer_seen (desc.Const v) m t h = h
pointer_seen (desc.Var k u) m t h = h
pointer_seen (desc.Proc s) m t h = h
pointer_seen (desc.Alias k u) m t h = h
pointer_seen (desc.Array k n u) m t h = h
pointer_seen (desc.OpenArray k u) m t h = h
pointer_seen (desc.Pointer k u) m t h = h
pointer_seen (desc.ProcType k s) m t h = h

module _ (program : Program) (ends : ChainsEnd program) (whole : IsWhole program) {K : Type 0} (faces : List (Face K)) (age : AreShown program faces) (m : Module) (there : IsOneOf program m) (checked : TypedModule) (types : QName → Option Desc) (is : m ≡ laid_out types (module_view checked)) (named : AllByRecursion IsNamed checked.procedures) where
  name_is : m.name ≡ checked.name
  name_is = ap (λ (x : Module). x.name) is

  -- what the interfaces show
  shown_said : (q : QName) (x : Desc) → described faces q ≡ Some x → IsTypeSaid program q (blank x)
  shown_said q (desc.Alias k t) e = let h = types_shown program whole faces age q (desc.Alias k t) e refl in (k, h.1.0 ∙ ap (λ (z : Desc). Some z) (alias_seen h.0 k t h.1.1))
  shown_said q (desc.Pointer k t) e = let h = types_shown program whole faces age q (desc.Pointer k t) e refl in (k, h.1.0 ∙ ap (λ (z : Desc). Some z) (pointer_seen h.0 k t h.1.1))
  shown_said q (desc.Record r) e = tt
  shown_said q (desc.Const v) e = tt
  shown_said q (desc.Var k t) e = tt
  shown_said q (desc.Proc s) e = tt
  shown_said q (desc.Array k n t) e = tt
  shown_said q (desc.OpenArray k t) e = tt
  shown_said q (desc.ProcType k s) e = tt

  -- what the module has
  declared : (q : QName) (d : Desc) → q.«module» ≡ checked.name → type_of checked.types q.object ≡ Some d → (x : QName) × (description program q ≡ Some (laid_desc (words_in types (module_view checked)) (procedures_in types (module_view checked)) x d))
  declared q d unit e =
      let c = module_view checked in
      let k = own_found checked.types q.object d e in
      let laid = laid_type types c k.t in
      let in_m : IsOneOf m.types laid = subst (λ (x : Module). IsOneOf x.types laid) (sym is) (one_each (laid_type types c) c.types k.t k.there) in
      let at : description program (record { «module» = m.name; object = k.t.name }) ≡ Some laid.desc = type_there program whole m laid there in_m in (
        record { «module» = c.name; object = k.t.name },
        ap (λ (x : List ℕ). description program (let p : QName = record { «module» = x; object = q.object } in p)) (unit ∙ sym name_is)
            ∙ ap (λ (x : List ℕ). description program (let p : QName = record { «module» = m.name; object = x } in p)) (sym k.name) ∙ at
            ∙ ap (λ (d : Desc). Some (laid_desc (words_in types c) (procedures_in types c) (record { «module» = c.name; object = k.t.name }) d)) k.desc,
      )

  own_said : (own : List TypedType) → ((x : List ℕ) (d : Desc) → is_record d ≡ false → type_of own x ≡ Some d → type_of checked.types x ≡ Some d) → (q : QName) (d : Desc) → q.«module» ≡ checked.name → type_of own q.object ≡ Some d → IsTypeSaid program q d
  own_said own told q (desc.Alias k t) unit e = (k, (declared q (desc.Alias k t) unit (told q.object (desc.Alias k t) refl e)).1)
  own_said own told q (desc.Pointer k t) unit e = (k, (declared q (desc.Pointer k t) unit (told q.object (desc.Pointer k t) refl e)).1)
  own_said own told q (desc.Record r) unit e = tt
  own_said own told q (desc.Const v) unit e = tt
  own_said own told q (desc.Var k t) unit e = tt
  own_said own told q (desc.Proc s) unit e = tt
  own_said own told q (desc.Array k n t) unit e = tt
  own_said own told q (desc.OpenArray k t) unit e = tt
  own_said own told q (desc.ProcType k s) unit e = tt

  said : (w : Around) → w.unit ≡ checked.name → w.shown ≡ shown faces → ((x : List ℕ) (d : Desc) → is_record d ≡ false → type_of w.own x ≡ Some d → type_of checked.types x ≡ Some d) → TypesAreSaid (map_of w) program
  said w unit shows told q d e = by (bytes_eq q.«module» w.unit) (same_name q out_string) refl e
    where
      by_face : (o : Option Desc) → described faces q ≡ o → option_map blank o ≡ Some d → IsTypeSaid program q d
      by_face None f e = absurd cc
      by_face (Some x) f e = let same : blank x ≡ d = cc in subst (IsTypeSaid program q) same (shown_said q x f)

      by : (b c : Bool) → bytes_eq q.«module» w.unit ≡ b → type_desc b c w q ≡ Some d → IsTypeSaid program q d
      by true c n e = own_said w.own told q d (bytes_true q.«module» w.unit n ∙ unit) e
      by false true n e = let same : desc.OpenArray mark.Hidden (ref.Basic basic.Char) ≡ d = cc in subst (IsTypeSaid program q) same tt
      by false false n e = by_face (described faces q) refl (sym (ap (λ f. f q) shows) ∙ e)

  has : HasChecked program (shown faces) checked
  has = record {
    m = m;
    there = there;
    name = name_is;
    procedures = ap (λ (x : Module). x.procedures) is;
    named = subst (λ (x : Module). AllByRecursion IsNamedSo x.procedures) (sym is) (viewed_named checked.procedures named);
    said = said;
  }

  methods_are : (q : QName) → q.«module» ≡ checked.name → (ks : List Method) → AllByRecursion (IsIntroduced (shown faces) checked q) ks → AreMethods program q ks
  methods_are q unit [] h = tt
  methods_are q unit (k ∷ ks) h = (introduced_are_methods program ends whole (shown faces) checked has q k unit h.0, methods_are q unit ks h.1)

  types_have : (ts : List TypedType) → AllByRecursion (λ t. AllByRecursion (IsIntroduced (shown faces) checked (type_in checked t)) (methods_of t.desc)) ts → TypesHave program checked.name (each (laid_type types (module_view checked)) ts)
  types_have [] h = tt
  types_have (t ∷ ts) h =
      let c = module_view checked in
      let q : QName = type_in checked t in
      (laid_are program q (words_in types c) (procedures_in types c) q t.desc (methods_are q refl (methods_of t.desc) h.0), types_have ts h.1)

  pub module_has : AllByRecursion (λ t. AllByRecursion (IsIntroduced (shown faces) checked (type_in checked t)) (methods_of t.desc)) checked.types → TypesHave program m.name m.types
  module_has h = subst (λ (x : Module). TypesHave program x.name x.types) (sym is) (types_have checked.types h)

-- a record of the program is one of a module
pub found_in : (program : Program) (ms : List Module) → AllByRecursion (λ (m : Module). TypesHave program m.name m.types) ms → (q : QName) (r : RecordDesc) → description ms q ≡ Some (desc.Record r) → AreMethods program q r.methods
found_in program [] h q r e = absurd cc
found_in program (m ∷ ms) h q r e = by (bytes_eq q.«module» m.name) refl e (λ e. found_in program ms h.1 q r e)
  where
    one : (ts : List TypedType) → TypesHave program m.name ts → (t : TypedType) → IsOneOf ts t → AreMethods program (record { «module» = m.name; object = t.name }) (methods_of t.desc)
    one ts h t i = of_all (λ (t : TypedType). AreMethods program (record { «module» = m.name; object = t.name }) (methods_of t.desc)) ts t h i

    by : (b : Bool) → bytes_eq q.«module» m.name ≡ b → (if b then type_named m.types q.object else description ms q) ≡ Some (desc.Record r) → (description ms q ≡ Some (desc.Record r) → AreMethods program q r.methods) → AreMethods program q r.methods
    by true n e rest =
        let k = type_found m.types q.object (desc.Record r) e in
        let same : record { «module» = m.name; object = k.t.name } ≡ q =
        ap (λ (x : List ℕ). let z : QName = record { «module» = m.name; object = x } in z) k.name
        ∙ ap (λ (x : List ℕ). let z : QName = record { «module» = x; object = q.object } in z) (sym (bytes_true q.«module» m.name n)) in
        subst (λ d. AreMethods program q (methods_of d)) k.desc (subst (λ z. AreMethods program z (methods_of k.t.desc)) same (one m.types h.0 k.t k.there))
    by false n e rest = rest e
