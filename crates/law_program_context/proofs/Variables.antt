-- Variables and parameters by their names.
use Rattle.std.proofs.Common.{◌≡◌, refl, sym, ap, ◌∙◌, subst, ℕ, List, ◌++◌, map, Option, Bool, true, false}
use Rattle.std.specs.List.{AllByRecursion}
use Rattle.ob_tree.specs.declared.names.QName.{QName}
use Rattle.ob_types.specs.declared.types.Mode.{Mode}
use Rattle.ob_types.specs.declared.types.Mode.TheVariants as mode
use Rattle.ob_types.specs.declared.types.TypeRef.{TypeRef}
use Rattle.ob_types.specs.declared.typed.Passing.{Passing}
use Rattle.ob_types.specs.declared.typed.Passing.TheVariants as passing
use Rattle.ob_types.specs.declared.typed.Variable.{Variable}
use Rattle.ob_types.specs.declared.typed.Variable.TheVariants as variable
use Rattle.ob_types.specs.declared.typed.TypedVariable.{TypedVariable}
use Rattle.ob_types.specs.declared.typed.TypedParameter.{TypedParameter}
use Rattle.ob_types.specs.TypedSyntax.{Procedure, Module}
use Rattle.ob_meaning.specs.Values.{Program, Form, BasicForm, PointerForm, ProcedureForm, ArrayForm, OpenForm, RecordForm, form_in, Held, Own, Referred, Formals, Copied}
use Rattle.ob_meaning.specs.Calls.{held_variable, hidden_held, hidden_of_all}
use Rattle.law_simulation_relation.specs.Layout.{form_named, static_parameter, static_held}
use Rattle.law_simulation_relation.specs.Relation.{FormOk, AreDifferent}
use Rattle.law_simulation_relation.specs.Typed as typed
use Rattle.law_simulation_relation.specs.Typed.{IsOwn, IsReferred, IsCopied}
use Rattle.law_simulation_relation.specs.Passed.{passing_for, IsOpen, IsClosed}
use Rattle.ob_rules.specs.Shapes.{Map, is_open, is_structured, is_record, by_value, by_var, passing_of}
use Rattle.ob_rules.specs.Designators.{is_var_record}
use Rattle.law_typing_forms.specs.Formed.{Formed}
use Rattle.law_typing_forms.specs.Said.{IsOneOf}
use Rattle.law_typing_forms.specs.Steady.{IsSteady}
use Rattle.law_typing_forms.specs.Whole.{IsPassed, IsWhole}
use Rattle.law_typing_forms.proofs.Modules.{variable_there}
use Rattle.law_typing_forms.proofs.Sorts.{passing_form}
use Rattle.law_typing.specs.Forms.{IsKnown}
use Rattle.law_typing.specs.Known.{VariableIs}
use Rattle.law_body_context.specs.Judged.{IsGlobal, IsLocal, IsParameter}
use Rattle.law_body_context.proofs.Lists.{one_left, one_right, one_all}
use Rattle.law_body_context.proofs.Held.{form_there, kind_there, one_mapped}

pub closed_form : (program : Program) (t : Form) → FormOk program t → IsClosed t
closed_form program (OpenForm t) h = h
closed_form program (BasicForm b) h = tt
closed_form program (PointerForm t) h = tt
closed_form program (ProcedureForm s) h = tt
closed_form program (ArrayForm n t) h = tt
closed_form program (RecordForm line fs) h = tt

open_of : (m : Mode) (f : Form) → passing.OpenArray ≡ passing_for m f → IsOpen f
open_of mode.Value (OpenForm t) e = tt
open_of mode.Value (BasicForm b) e = absurd cc
open_of mode.Value (PointerForm t) e = absurd cc
open_of mode.Value (ProcedureForm s) e = absurd cc
open_of mode.Value (ArrayForm n t) e = absurd cc
open_of mode.Value (RecordForm line fs) e = absurd cc
open_of mode.Var (OpenForm t) e = tt
open_of mode.Var (BasicForm b) e = absurd cc
open_of mode.Var (PointerForm t) e = absurd cc
open_of mode.Var (ProcedureForm s) e = absurd cc
open_of mode.Var (ArrayForm n t) e = absurd cc
open_of mode.Var (RecordForm line fs) e = absurd cc

value_record : (a b : Bool) → by_value a b ≡ passing.VariableRecord → ⊥
value_record true b e = absurd cc
value_record false true e = absurd cc
value_record false false e = absurd cc

var_is_record : (a b : Bool) → by_var a b ≡ passing.VariableRecord → b ≡ true
var_is_record true b e = absurd cc
var_is_record false true e = refl
var_is_record false false e = absurd cc

passed_record : (types : Map) (m : Mode) (t : TypeRef) → passing_of types m t ≡ passing.VariableRecord → is_record types t ≡ true
passed_record types mode.Value t e = absurd (value_record (is_open types t) (is_structured types t) e)
passed_record types mode.Var t e = var_is_record (is_open types t) (is_record types t) e

module _ (program : Program) (whole : IsWhole program) (Has : Formals → QName → Type 0) (unit : List ℕ) (result : Option TypeRef) (types : Map) (formed : Formed types program) (steady : IsSteady types) where
  -- of the module
  global_variable : (held : List Held) (m : Module) → IsOneOf program m → (x : TypedVariable) → IsOneOf m.variables x → FormOk program (form_in program x.of) → IsKnown types x.of → VariableIs program Has unit held result types (variable.Module m.name x.name) x.of
  global_variable held m i x j f k =
      let v = variable_there program whole m x i j in
      record { fits = (v.there, v.form); declared = k; var_record = λ e. absurd cc; passed = closed_form program (form_in program x.of) f }

  pub global_is : (held : List Held) (m : Module) → IsOneOf program m → unit ≡ m.name → (v : Variable) (t : TypeRef) → IsGlobal unit m.variables v t → AllByRecursion (λ v. FormOk program (form_in program v.of)) m.variables → IsKnown types t → VariableIs program Has unit held result types v t
  global_is held m i n v t g f k =
      let h = global_variable held m i g.0 g.1.0 (one_all (λ (v : TypedVariable). FormOk program (form_in program v.of)) m.variables g.0 f g.1.0) (subst (IsKnown types) g.1.1.1 k) in
      subst (λ w. VariableIs program Has unit held result types w t) (sym (g.1.1.0 ∙ ap (λ (y : List ℕ). variable.Module y g.0.name) n)) (subst (λ s. VariableIs program Has unit held result types (variable.Module m.name g.0.name) s) (sym g.1.1.1) h)

  -- OF A PROCEDURE

  module _ (p : Procedure) (different : AreDifferent (static_held program p)) where
    abbrev held : List Held
    held = static_held program p

    abbrev Is : Variable → TypeRef → Type 0
    Is v t = VariableIs program Has unit held result types v t

    local_there : (x : TypedVariable) → IsOneOf p.locals x → IsOneOf held (held_variable program x)
    local_there x i = one_right (map (static_parameter program) p.parameters) (map (held_variable program) p.locals ++ map hidden_held (hidden_of_all p.body)) (held_variable program x) (one_left (map (held_variable program) p.locals) (map hidden_held (hidden_of_all p.body)) (held_variable program x) (one_mapped (held_variable program) p.locals x i))

    local_variable : (x : TypedVariable) → IsOneOf p.locals x → FormOk program (form_in program x.of) → IsKnown types x.of → Is (variable.Local x.name) x.of
    local_variable x i f k =
        let h = held_variable program x in
        let j = local_there x i in
        record { fits = (kind_there IsOwn held different h j tt, form_there held different h j); declared = k; var_record = λ e. absurd cc; passed = closed_form program (form_in program x.of) f }

    pub local_is : (v : Variable) (t : TypeRef) → IsLocal p.locals v t → AllByRecursion (λ v. FormOk program (form_in program v.of)) p.locals → IsKnown types t → Is v t
    local_is v t g f k =
        let h = local_variable g.0 g.1.0 (one_all (λ (v : TypedVariable). FormOk program (form_in program v.of)) p.locals g.0 f g.1.0) (subst (IsKnown types) g.1.1.1 k) in
        subst (λ w. Is w t) (sym g.1.1.0) (subst (λ s. Is (variable.Local g.0.name) s) (sym g.1.1.1) h)

    -- the slot of a parameter
    pub slot_is : (how : Passing) (x : List ℕ) (of : TypeRef) (m : Mode) → how ≡ passing_for m (form_in program of) → IsOneOf held (static_parameter program (record { name = x; passing = how; of = of })) → typed.ParameterOk program Has unit held result how x × (form_named held x ≡ form_in program of)
    slot_is passing.Scalar x of m e i = (kind_there IsOwn held different (Own x (form_in program of)) i tt, form_there held different (Own x (form_in program of)) i)
    slot_is passing.Structure x of m e i = (kind_there (IsCopied 1) held different (Copied x 1 (form_in program of)) i refl, form_there held different (Copied x 1 (form_in program of)) i)
    slot_is passing.OpenArray x of m e i =
        let f = form_there held different (Copied x 2 (form_in program of)) i in
        ((kind_there (IsCopied 2) held different (Copied x 2 (form_in program of)) i refl, subst IsOpen (sym f) (open_of m (form_in program of) e)), f)
    slot_is passing.Variable x of m e i = (kind_there (IsReferred 1) held different (Referred x 1 (form_in program of)) i refl, form_there held different (Referred x 1 (form_in program of)) i)
    slot_is passing.VariableRecord x of m e i = (kind_there (IsReferred 2) held different (Referred x 2 (form_in program of)) i refl, form_there held different (Referred x 2 (form_in program of)) i)
    slot_is passing.VariableOpenArray x of m e i = (kind_there (IsReferred 2) held different (Referred x 2 (form_in program of)) i refl, form_there held different (Referred x 2 (form_in program of)) i)

    record_of : (how : Passing) (x : List ℕ) (t : TypeRef) (m : Mode) → how ≡ passing_for m (form_in program t) → IsKnown types t → is_var_record (variable.Parameter how x) ≡ true → is_record types t ≡ true
    record_of passing.VariableRecord x t m e k v = passed_record types m t (passing_form types program formed steady m t k.1 k.0 ∙ sym e)
    record_of passing.Scalar x t m e k v = absurd cc
    record_of passing.Structure x t m e k v = absurd cc
    record_of passing.OpenArray x t m e k v = absurd cc
    record_of passing.Variable x t m e k v = absurd cc
    record_of passing.VariableOpenArray x t m e k v = absurd cc

    pub parameter_there : (x : TypedParameter) → IsOneOf p.parameters x → IsOneOf held (static_parameter program x)
    parameter_there x i = one_left (map (static_parameter program) p.parameters) (map (held_variable program) p.locals ++ map hidden_held (hidden_of_all p.body)) (static_parameter program x) (one_mapped (static_parameter program) p.parameters x i)

    parameter_variable : (x : TypedParameter) → IsOneOf p.parameters x → IsPassed program x → IsKnown types x.of → Is (variable.Parameter x.passing x.name) x.of
    parameter_variable x i a k = record {
      fits = slot_is x.passing x.name x.of a.mode a.passing (parameter_there x i);
      declared = k;
      var_record = λ e. record_of x.passing x.name x.of a.mode a.passing k e;
      passed = (a.mode, a.passing);
    }

    pub parameter_is : (v : Variable) (t : TypeRef) → IsParameter p.parameters v t → AllByRecursion (λ x. IsPassed program x) p.parameters → IsKnown types t → Is v t
    parameter_is v t g a k =
        let h = parameter_variable g.0 g.1.0 (one_all (λ (x : TypedParameter). IsPassed program x) p.parameters g.0 a g.1.0) (subst (IsKnown types) g.1.1.1 k) in
        subst (λ w. Is w t) (sym g.1.1.0) (subst (λ s. Is (variable.Parameter g.0.passing g.0.name) s) (sym g.1.1.1) h)
