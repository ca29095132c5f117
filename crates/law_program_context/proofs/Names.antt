-- What is known around a body is so in the program.
use Rattle.std.proofs.Common.{◌≡◌, ⊎_elim, refl, sym, ap, ◌∙◌, subst, ℕ, ◌≤◌, List, [], ◌∷◌, Option, Some, None, Bool, true, false, arith}
use Rattle.std.specs.Prelude.{◌&&◌, bytes_eq, codes, nat_lt}
use Rattle.std.specs.List.{AllByRecursion}
use Rattle.std.proofs.lemmas.Bool.Decides.{nat_tests}
use Rattle.ob_tree.specs.declared.names.QName.{QName}
use Rattle.ob_types.specs.declared.types.Mode.{Mode}
use Rattle.ob_types.specs.declared.types.TypeRef.{TypeRef}
use Rattle.ob_types.specs.declared.types.Signature.{Signature}
use Rattle.ob_types.specs.declared.desc.Desc.{Desc}
use Rattle.ob_types.specs.declared.types.Mode.TheVariants as mode
use Rattle.ob_types.specs.declared.typed.Variable.{Variable}
use Rattle.ob_types.specs.declared.typed.TypedParameter.{TypedParameter}
use Rattle.ob_types.specs.declared.typed.TypedProcedure.{TypedProcedure}
use Rattle.ob_types.specs.declared.typed.TypedModule.{TypedModule}
use Rattle.ob_types.specs.Maps.{listed}
use Rattle.ob_types.specs.Maps as maps
use Rattle.ob_types.specs.TypedSyntax.{Module}
use Rattle.ob_types.specs.TypedView.{procedure_view}
use Rattle.ob_meaning.specs.Values.{Program, procedure_of, Form, BasicForm, PointerForm, ProcedureForm, ArrayForm, OpenForm, RecordForm, form_in, Formals, Held}
use Rattle.law_simulation_relation.specs.Layout.{static_held}
use Rattle.law_simulation_relation.specs.Relation.{FormOk, Scalar}
use Rattle.law_simulation_relation.specs.Typed.{result_form}
use Rattle.law_simulation_relation.specs.Passed.{passing_for}
use Rattle.law_simulation_relation.proofs.Names.{bytes_sym}
use Rattle.ob_rules.specs.declared.entity.Entity.{Entity}
use Rattle.ob_rules.specs.declared.entity.Entity.TheVariants as entity
use Rattle.ob_rules.specs.declared.entity.Known.{Known}
use Rattle.ob_rules.specs.declared.entity.Received.{Received}
use Rattle.ob_rules.specs.Designators.{same_variable}
use Rattle.ob_rules.specs.Declarations.{Contents}
use Rattle.ob_rules.specs.Names.{Around, map_of, find_name, is_enclosing, is_out}
use Rattle.law_typing_forms.specs.Formed.{IsDeclared, AreParameters, IsProcedureOf, Formed}
use Rattle.law_typing_forms.specs.Said.{IsOneOf}
use Rattle.law_typing_forms.specs.Whole.{IsPassed, HeadingOk, IsWhole}
use Rattle.law_typing_forms.proofs.Modules.{own, procedure_there}
use Rattle.law_typing.specs.Makes.{IfThere}
use Rattle.law_typing.specs.Forms.{IsKnown, AreKnown, ResultIs, SignatureIs}
use Rattle.law_typing.specs.Known.{ConstantIs, VariableIs, ProcedureIs, ReceiverIs}
use Rattle.law_typing.specs.Laws.{Having}
use Rattle.law_typing.specs.Redefined.{AreRedefined}
use Rattle.law_typing.specs.Surrounded.{IsSurrounded}
use Rattle.law_body_context.specs.Knows.{EntityStands}
use Rattle.law_program_context.proofs.Introduced.{of_one_kind}
use Rattle.law_program_context.proofs.Receivers.{receiver_is}
use Rattle.law_body_context.specs.Judged.{IsReceived, ReceiverStands, mode_of, AreOf, IsGlobal, IsInside, StandsIn, IsProcedureIn, IsForwardIn, VariableStands, NameIs, StandsAround}
use Rattle.law_body_context.proofs.Lists.{one_all, find_has}
use Rattle.law_body_context.proofs.Held.{one_mapped}
use Rattle.law_typing_values.proofs.Equal.{matching_are_alike}
use Rattle.law_typing_values.proofs.Matching.{parameters_so, signatures_same}
use Rattle.law_program_context.specs.Left.{IsModuleOf, AreConstantsShown, HasProcedures, AreFormed, IsLeft}
use Rattle.law_program_context.specs.Laws.{ProceduresSurrounded, ModulesSurrounded}
use Rattle.law_program_context.proofs.Standing.{known_is}
use Rattle.law_program_context.proofs.Variables.{global_is, local_is, parameter_is}

-- THE MODE OF A PASSING

mode_for : (m : Mode) (f : Form) → mode_of (passing_for m f) ≡ m
mode_for mode.Value (OpenForm t) = refl
mode_for mode.Value (BasicForm b) = refl
mode_for mode.Value (PointerForm t) = refl
mode_for mode.Value (ProcedureForm s) = refl
mode_for mode.Value (ArrayForm n t) = refl
mode_for mode.Value (RecordForm line fs) = refl
mode_for mode.Var (OpenForm t) = refl
mode_for mode.Var (BasicForm b) = refl
mode_for mode.Var (PointerForm t) = refl
mode_for mode.Var (ProcedureForm s) = refl
mode_for mode.Var (ArrayForm n t) = refl
mode_for mode.Var (RecordForm line fs) = refl

module _ (program : Program) where
  -- a parameter of that mode and type is passed as these ask for
  passed_as : (x : TypedParameter) (k : Mode × TypeRef) → IsPassed program x → x.of ≡ k.1 → mode_of x.passing ≡ k.0 → x.passing ≡ passing_for k.0 (form_in program k.1)
  passed_as x k h e f =
      let m : h.mode ≡ k.0 = sym (mode_for h.mode (form_in program x.of)) ∙ ap mode_of (sym h.passing) ∙ f in
      h.passing ∙ ap (λ m. passing_for m (form_in program x.of)) m ∙ ap (λ t. passing_for k.0 (form_in program t)) e

  are_parameters : (ps : List TypedParameter) (ks : List (Mode × TypeRef)) → AllByRecursion (λ x. IsPassed program x) ps → AreOf ps ks → AreParameters program ps ks
  are_parameters [] [] h a = tt
  are_parameters [] (k ∷ ks) h a = absurd a
  are_parameters (p ∷ ps) [] h a = absurd a
  are_parameters (p ∷ ps) (k ∷ ks) h a = (ap (form_in program) a.0.0, (passed_as p k h.0 a.0.0 a.0.1, are_parameters ps ks h.1 a.1))

-- what is found by a name holds what all hold
at_name : (P : Known → Type 0) (ks : List Known) (x : List ℕ) (k : Known) → AllByRecursion P ks → find_name ks x ≡ Some k → P k
at_name P ks x k h e = subst (IfThere P) e (find_has P (λ k. bytes_eq k.name x) ks h)

module _ (program : Program) (has : Formals → QName → Bool) (shown : QName → Option Desc) (checked : TypedModule) (m : Module) (whole : IsWhole program) (is : IsModuleOf program checked m) (out : is_out checked.name ≡ false) (constants : AreConstantsShown shown) (values : HasProcedures program (Having has)) (redefined : AreRedefined program) where
  abbrev Has : Formals → QName → Type 0
  Has = Having has

  -- a procedure of the checked module is one of the program's
  viewed_there : (p : TypedProcedure) → IsOneOf checked.procedures p → IsOneOf m.procedures (procedure_view p)
  viewed_there p i = subst (λ ps. IsOneOf ps (procedure_view p)) (sym is.procedures) (one_mapped procedure_view checked.procedures p i)

  heading : (p : TypedProcedure) → IsOneOf checked.procedures p → HeadingOk program (procedure_view p)
  heading p i = one_all (HeadingOk program) m.procedures (procedure_view p) (own program whole m is.there).headings (viewed_there p i)

  module _ (held : List Held) (result : Option TypeRef) (content : Contents) (p : Option TypedProcedure) (all_formed : AreFormed program shown checked content) (u : Around) (around : StandsAround ConstantIs shown checked content p u) (formed : Formed (map_of u) program) (left : IsLeft program u) (receivers : (r : Received) (v : Variable) (t : TypeRef) → u.receiver ≡ Some r → same_variable v r.variable ≡ true → VariableIs program Has checked.name held result (map_of u) v t → ReceiverIs program (map_of u) r t) (inside : (scope : ℕ) (v : Variable) (t : TypeRef) → scope ≤ u.scope → nat_lt 1 scope ≡ true → IsInside (StandsIn ConstantIs shown checked content u.own) p v t → VariableIs program Has checked.name held result (map_of u) v t) where
    known : (t : TypeRef) → StandsIn ConstantIs shown checked content u.own t → IsKnown (map_of u) t
    known t h = known_is ConstantIs checked.name shown u around.knows t h

    -- VARIABLES

    second_false : (a b : Bool) → a ≡ true → (a && b) ≡ false → b ≡ false
    second_false true b e f = f
    second_false false b e f = absurd cc

    variable_at : (k : Known) (v : Variable) (t : TypeRef) → k.scope ≤ u.scope → VariableStands ConstantIs shown checked content u.own p u.level k.scope v t → is_enclosing u k.scope ≡ false → VariableIs program Has checked.name held result (map_of u) v t
    variable_at k v t b h e = by (nat_lt 1 k.scope) refl
      where
        by : (c : Bool) → nat_lt 1 k.scope ≡ c → VariableIs program Has checked.name held result (map_of u) v t
        by false f =
            let g = h.outside f in
            global_is program whole Has checked.name result (map_of u) formed left.steady held m is.there (sym is.name) v t
            (subst (λ xs. IsGlobal checked.name xs v t) (sym is.variables) g.0) (subst (AllByRecursion (λ v. FormOk program (form_in program v.of))) (sym is.variables) is.forms) (known t g.1)
        by true f = inside k.scope v t b f (h.inside f (second_false (nat_lt 1 k.scope) (nat_lt k.scope u.level) f e))

    variables : (x : List ℕ) (k : Known) (v : Variable) (t : TypeRef) → find_name u.known x ≡ Some k → k.what ≡ entity.Variable v t → is_enclosing u k.scope ≡ false → VariableIs program Has checked.name held result (map_of u) v t
    variables x k v t e f g =
        variable_at k v t (at_name (λ (k : Known). k.scope ≤ u.scope) u.known x k around.below e)
        (subst (NameIs ConstantIs shown checked content u.own p u.level k.scope) f (at_name (λ (k : Known). NameIs ConstantIs shown checked content u.own p u.level k.scope k.what) u.known x k around.names e)) g

    -- PROCEDURES

    known_params : (ks : List (Mode × TypeRef)) → AllByRecursion (λ k. StandsIn ConstantIs shown checked content u.own k.1) ks → AreKnown (map_of u) ks
    known_params [] h = tt
    known_params (k ∷ ks) h = (known k.1 h.0, known_params ks h.1)

    result_held : (r : Option TypeRef) → IfThere (StandsIn ConstantIs shown checked content u.own) r → AllByRecursion (λ t. maps.IsHeld (map_of u) t) (listed r)
    result_held None h = tt
    result_held (Some t) h = ((known t h).1, tt)

    procedure_is : (q : QName) (s : Signature) → IsProcedureIn ConstantIs shown checked content u.own q s → ProcedureIs program Has checked.name held result (map_of u) q s
    procedure_is q s h =
        let v = procedure_view h.p in
        let found : procedure_of program q ≡ Some v = ap (procedure_of program) (h.name ∙ ap (λ (n : List ℕ). record { «module» = n; object = h.p.name }) (sym is.name)) ∙ procedure_there program whole m v is.there (viewed_there h.p h.there) in
        let parameters = are_parameters program h.p.parameters s.params (heading h.p h.there).0 h.parameters in
        let result_is : result_form program v.result ≡ result_form program s.result = ap (result_form program) h.result in
        let of : IsProcedureOf program q s = record { p = v; found = found; result = result_is; parameters = parameters } in
        let signature : SignatureIs program (map_of u) s = record {
          params = known_params s.params h.params;
          result = subst (ResultIs program) h.result (one_all (λ (p : TypedProcedure). ResultIs program p.result) checked.procedures h.p is.results h.there);
          result_held = result_held s.result h.result_stands;
        } in
        record {
          p = v;
          found = found;
          result_is = result_is;
          parameters = parameters;
          signature = signature;
          own = λ e. values q s of e;
        }

    procedures : (x : List ℕ) (k : Known) (q : QName) (s : Signature) → find_name u.known x ≡ Some k → k.what ≡ entity.Procedure q s → ProcedureIs program Has checked.name held result (map_of u) q s
    procedures x k q s e f = procedure_is q s (subst (NameIs ConstantIs shown checked content u.own p u.level k.scope) f (at_name (λ (k : Known). NameIs ConstantIs shown checked content u.own p u.level k.scope k.what) u.known x k around.names e))

    -- one that is known by a forward declaration alone
    declared : (ks : List (Mode × TypeRef)) → AllByRecursion (λ k. StandsIn ConstantIs shown checked content u.own k.1) ks → AllByRecursion (λ k. IsDeclared k.1) ks
    declared [] h = tt
    declared (k ∷ ks) h = ((known k.1 h.0).0, declared ks h.1)

    result_so : (r t : Option TypeRef) → result_form program t ≡ result_form program r → IfThere (StandsIn ConstantIs shown checked content u.own) t → ResultIs program r → ResultIs program t
    result_so r None e h k = tt
    result_so None (Some t) e h k = absurd cc
    result_so (Some r) (Some t) e h k = let f : form_in program t ≡ form_in program r = cc in ((known t h).0, subst Scalar (sym f) k.1)

    forward_is : (q : QName) (s : Signature) → IsForwardIn ConstantIs shown checked content u.own q s → ProcedureIs program Has checked.name held result (map_of u) q s
    forward_is q s h =
        let is = procedure_is q h.t h.procedure in
        let alike = matching_are_alike program (map_of h.w) (all_formed h.w h.within) s h.t (declared s.params h.params) (declared h.t.params h.procedure.params) h.alike in
        let same = signatures_same program h.t s (sym alike) in
        let parameters = parameters_so program is.p.parameters h.t.params s.params same.0 is.parameters in
        let result_is : result_form program is.p.result ≡ result_form program s.result = is.result_is ∙ same.1 in
        let of : IsProcedureOf program q s = record { p = is.p; found = is.found; result = result_is; parameters = parameters } in
        let signature : SignatureIs program (map_of u) s = record {
          params = known_params s.params h.params;
          result = result_so h.t.result s.result (sym same.1) h.result_stands is.signature.result;
          result_held = result_held s.result h.result_stands;
        } in
        record {
          p = is.p;
          found = is.found;
          result_is = result_is;
          parameters = parameters;
          signature = signature;
          own = λ e. values q s of e;
        }

    forwards : (x : List ℕ) (k : Known) (q : QName) (s : Signature) → find_name u.known x ≡ Some k → k.what ≡ entity.Forward q s → ProcedureIs program Has checked.name held result (map_of u) q s
    forwards x k q s e f = forward_is q s (subst (NameIs ConstantIs shown checked content u.own p u.level k.scope) f (at_name (λ (k : Known). NameIs ConstantIs shown checked content u.own p u.level k.scope k.what) u.known x k around.names e))

    -- CONSTANTS, TYPES AND IMPORTS

    entity_at : (x : List ℕ) (k : Known) (w : Entity) → find_name u.known x ≡ Some k → k.what ≡ w → EntityStands ConstantIs checked.name shown u.own w
    entity_at x k w e f = subst (EntityStands ConstantIs checked.name shown u.own) f (at_name (λ (k : Known). EntityStands ConstantIs checked.name shown u.own k.what) u.known x k around.knows.known e)

    -- the whole
    surrounded : ResultIs program result → u.result ≡ result → IsSurrounded program Has checked.name held result u
    surrounded plain same = record {
      formed = formed;
      steady = left.steady;
      variables = variables;
      constants = λ x k v e f. entity_at x k (entity.Constant v) e f;
      procedures = procedures;
      forwards = forwards;
      types = λ x k t e f. known t (entity_at x k (entity.TypeName t) e f);
      imports = λ x k n e f. ap (bytes_eq n) around.knows.unit_is ∙ entity_at x k (entity.Module n) e f;
      guards = subst (AllByRecursion (λ (g : Variable × Option TypeRef). IfThere (IsKnown (map_of u)) g.1)) (sym around.guards) tt;
      shown_constants = λ q v e. constants q v (ap (λ (f : QName → Option Desc). f q) (sym around.knows.shown_is) ∙ e);
      values = λ q s i k e. values q s i e;
      result_is = same;
      result_plain = plain;
      receivers = receivers;
      redefined = redefined;
      kinds = of_one_kind (map_of u) program formed left.introduced;
      outside = bytes_sym (codes "Out") u.unit ∙ ap (λ (n : List ℕ). bytes_eq n (codes "Out")) around.knows.unit_is ∙ out;
    }

pub procedures_surrounded : ProceduresSurrounded
procedures_surrounded program has shown checked m whole is out constants values redefined p i different forms content all_formed u around left =
    let v = procedure_view p in
    let held = static_held program v in
    let h = heading program has shown checked m whole is out constants values redefined p i in
    let formed = all_formed u around.within in
    let received : (r : Received) → u.receiver ≡ Some r → IsReceived ConstantIs shown checked content p r = λ r e. subst (ReceiverStands ConstantIs shown checked content (Some p)) e around.receiver in
    surrounded program has shown checked m whole is out constants values redefined held p.result content (Some p) all_formed u around formed left
    (λ r w t e s k. let x = received r e in receiver_is program whole (Having has) checked.name p.result (map_of u) formed left.steady v different x.x x.there (one_all (λ (y : TypedParameter). IsPassed program y) p.parameters x.x h.0 x.there) r x.is (map_of x.w) (all_formed x.w x.within) x.record_is w t s k)
    (λ scope w t b e g.
    let k = known_is ConstantIs checked.name shown u around.knows t g.1 in
    ⊎_elim
    (λ l. local_is program whole (Having has) checked.name p.result (map_of u) formed left.steady v different w t l forms k)
    (λ l. parameter_is program whole (Having has) checked.name p.result (map_of u) formed left.steady v different w t l h.0 k)
    g.0)
    (one_all (λ (p : TypedProcedure). ResultIs program p.result) checked.procedures p is.results i)
    around.result

no_scope : (k n : ℕ) → k ≤ n → n ≡ 1 → nat_lt 1 k ≡ true → ⊥
no_scope k n h e f = grind (arith, nat_tests)

pub modules_surrounded : ModulesSurrounded
modules_surrounded program has shown checked m whole is out constants values redefined held content all_formed u around one none left = surrounded program has shown checked m whole is out constants values redefined held None content None all_formed u around (all_formed u around.within) left (λ r v t e s k. let bad : None ≡ Some r = sym none ∙ e in absurd cc) (λ scope v t b e g. absurd (no_scope scope u.scope b one e)) tt around.result
