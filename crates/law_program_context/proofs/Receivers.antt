-- The receiver of a procedure by its name, of the type that a map says.
use Rattle.std.proofs.Common.{◌≡◌, refl, sym, ap, ◌∙◌, subst, ℕ, List, Option, Some, None, true}
use Rattle.ob_tree.specs.declared.names.QName.{QName}
use Rattle.ob_types.specs.declared.types.TypeRef.{TypeRef}
use Rattle.ob_types.specs.declared.typed.Passing.{Passing}
use Rattle.ob_types.specs.declared.typed.Passing.TheVariants as passing
use Rattle.ob_types.specs.declared.typed.Variable.{Variable}
use Rattle.ob_types.specs.declared.typed.Variable.TheVariants as variable
use Rattle.ob_types.specs.declared.typed.TypedParameter.{TypedParameter}
use Rattle.ob_types.specs.TypedSyntax.{Procedure}
use Rattle.ob_meaning.specs.Values.{Program, PointerForm, RecordForm, Fields, form_in, record_in, Formals}
use Rattle.law_simulation_relation.specs.Layout.{form_named, static_held}
use Rattle.law_simulation_relation.specs.Relation.{AreDifferent, Sub, itself}
use Rattle.law_simulation_relation.proofs.Names.{bytes_true}
use Rattle.ob_rules.specs.declared.entity.Received.{Received}
use Rattle.ob_rules.specs.Shapes.{Map, record_of, pointed}
use Rattle.ob_rules.specs.Designators.{same_variable}
use Rattle.law_typing_forms.specs.Formed.{Formed}
use Rattle.law_typing_forms.specs.Said.{IsOneOf}
use Rattle.law_typing_forms.specs.Steady.{IsSteady}
use Rattle.law_typing_forms.specs.Whole.{IsPassed, IsWhole}
use Rattle.law_typing_forms.proofs.Shapes as shapes
use Rattle.law_typing.specs.Known.{pointee, VariableIs, ReceiverIs}
use Rattle.law_body_context.specs.Judged.{IsReceivedAs}
use Rattle.law_program_context.proofs.Variables.{slot_is, parameter_there}

apart : {t : TypeRef} {line : List QName} {fs : Fields} → PointerForm t ≡ RecordForm line fs → ⊥
apart e = absurd cc

same_base : {t u : TypeRef} → PointerForm t ≡ PointerForm u → t ≡ u
same_base e = cc

module _ (program : Program) (whole : IsWhole program) (Has : Formals → QName → Type 0) (unit : List ℕ) (result : Option TypeRef) (types : Map) (formed : Formed types program) (steady : IsSteady types) (p : Procedure) (different : AreDifferent (static_held program p)) where
  module _ (x : TypedParameter) (there : IsOneOf p.parameters x) (passed : IsPassed program x) where
    -- a variable of its name has its form
    named_form : (v : Variable) (t : TypeRef) → same_variable v (variable.Parameter x.passing x.name) ≡ true → VariableIs program Has unit (static_held program p) result types v t → form_in program t ≡ form_in program x.of
    named_form (variable.Module m y) t e h = absurd cc
    named_form (variable.Local y) t e h = absurd cc
    named_form (variable.Parameter how y) t e h = sym h.fits.1 ∙ ap (form_named (static_held program p)) (bytes_true y x.name e) ∙ (slot_is program whole Has unit result types formed steady p different x.passing x.name x.of passed.mode passed.passing (parameter_there program whole Has unit result types formed steady p different x there)).1

    module _ (owner : QName) (map : Map) (known : Formed map program) where
      -- a record by VAR
      of_record : (t : TypeRef) → form_in program t ≡ form_in program x.of → record_of map x.of ≡ Some owner → (o : Option TypeRef) → pointed types t ≡ o → (q : QName) → record_of types (pointee t o) ≡ Some q → Sub (record_in program q) (record_in program owner)
      of_record t same k None e q f =
          let a = shapes.record_form map program known x.of owner k in
          let b = shapes.record_form types program formed t q f in
          let g : record_in program q ≡ record_in program owner = sym b.form ∙ same ∙ a.form in
          subst (λ z. Sub (record_in program q) z) g itself
      of_record t same k (Some s) e q f =
          let a = shapes.record_form map program known x.of owner k in
          absurd (apart (sym (shapes.pointer_form types program formed t s e) ∙ same ∙ a.form ∙ a.is.is))

      -- a pointer
      of_pointer : (t : TypeRef) → form_in program t ≡ form_in program x.of → IsReceivedAs map passing.Scalar x.of owner → (o : Option TypeRef) → pointed types t ≡ o → (q : QName) → record_of types (pointee t o) ≡ Some q → Sub (record_in program q) (record_in program owner)
      of_pointer t same k None e q f =
          let a = shapes.pointed_record_form map program known x.of owner k in
          let b = shapes.record_form types program formed t q f in
          absurd (apart (sym a.form ∙ sym same ∙ b.form ∙ b.is.is))
      of_pointer t same k (Some s) e q f =
          let a = shapes.pointed_record_form map program known x.of owner k in
          let b = shapes.record_form types program formed s q f in
          let u : s ≡ a.u = same_base (sym (shapes.pointer_form types program formed t s e) ∙ same ∙ a.form) in
          let g : record_in program q ≡ record_in program owner = sym b.form ∙ ap (form_in program) u ∙ a.to.form in
          subst (λ z. Sub (record_in program q) z) g itself

      of_receiver : (t : TypeRef) → form_in program t ≡ form_in program x.of → (how : Passing) → IsReceivedAs map how x.of owner → (q : QName) → record_of types (pointee t (pointed types t)) ≡ Some q → Sub (record_in program q) (record_in program owner)
      of_receiver t same passing.VariableRecord k q f = of_record t same k (pointed types t) refl q f
      of_receiver t same passing.Scalar k q f = of_pointer t same k (pointed types t) refl q f
      of_receiver t same passing.Structure k q f = absurd k
      of_receiver t same passing.OpenArray k q f = absurd k
      of_receiver t same passing.Variable k q f = absurd k
      of_receiver t same passing.VariableOpenArray k q f = absurd k

    pub receiver_is : (r : Received) → r.variable ≡ variable.Parameter x.passing x.name → (map : Map) → Formed map program → IsReceivedAs map x.passing x.of r.owner → (v : Variable) (t : TypeRef) → same_variable v r.variable ≡ true → VariableIs program Has unit (static_held program p) result types v t → ReceiverIs program types r t
    receiver_is r is map known k v t e h =
        let same = named_form v t (ap (same_variable v) (sym is) ∙ e) h in
        record { below = λ q f. of_receiver r.owner map known t same x.passing k q f }
