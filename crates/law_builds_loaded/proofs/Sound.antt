-- What sound programs have: variables with first values, and declarations that describe their types.
use Rattle.std.proofs.Common.{◌≡◌, List, [], ◌∷◌, ◌++◌, map as each, Option, Some, None, refl, sym, subst}
use Rattle.std.specs.Prelude.{MatchOption, IsTrue}
use Rattle.std.specs.List.{AllByRecursion}
use Rattle.ob_types.specs.declared.types.TypeRef.{TypeRef}
use Rattle.ob_types.specs.declared.types.TypeRef.TheVariants as ref
use Rattle.ob_types.specs.declared.desc.Desc.{Desc}
use Rattle.ob_types.specs.declared.typed.TypedVariable.{TypedVariable}
use Rattle.ob_types.specs.Maps.{is_type, IsHeld}
use Rattle.ob_types.specs.Relations.{Is, is_open}
use Rattle.ob_types.specs.TypedSyntax.{Module}
use Rattle.ob_meaning.specs.Values.{Program, description, form_in}
use Rattle.ob_meaning.specs.Calls.{held_variable}
use Rattle.law_simulation_relation.specs.Linked.{OwnFormsOk}
use Rattle.law_simulation_relation.specs.Relation.{FormOk}
use Rattle.law_typing_forms.specs.Said.{IsSound}
use Rattle.law_typing_forms.proofs.Built.{built}
use Rattle.law_typing_forms.proofs.Shapes.{basic_is}
use Rattle.law_typing_env.specs.Ordered.{StandInOrder}
use Rattle.law_typing_env.specs.Words.{AreLaidInOrder}
use Rattle.law_typing_env.proofs.Shallows.{program_shallow}
use Rattle.law_typing_env.proofs.Sizing.{program_sized}
use Rattle.law_typing_env.proofs.Whole.{describes_all}
use Rattle.law_builds_loaded.specs.Sound.{VariablesHaveForms, OrderedDescribe}

module _ (program : Program) (sound : IsSound program) where
  form_built : (t : TypeRef) → IsHeld (description program) t → (Is (description program) is_open t → ⊥) → FormOk program (form_in program t)
  form_built (ref.Basic b) h never = subst (FormOk program) (sym (basic_is program b)) tt
  form_built (ref.Named q) h never = by (description program q) refl h
    where
      by : (o : Option Desc) → description program q ≡ o → MatchOption o ⊥ (λ d. IsTrue (is_type d)) → FormOk program (form_in program (ref.Named q))
      by None e h = absurd h
      by (Some d) e h = let n = sound.ends q d e in built program sound n.0 (ref.Named q) n.1 never

  variables_ok : (vs : List TypedVariable) → AllByRecursion (λ v. IsHeld (description program) v.of) vs → AllByRecursion (λ v. Is (description program) is_open v.of → ⊥) vs → OwnFormsOk program (each (held_variable program) vs)
  variables_ok [] h never = tt
  variables_ok (v ∷ vs) h never = (form_built v.of h.0 never.0, variables_ok vs h.1 never.1)

pub variables_have_forms : VariablesHaveForms
variables_have_forms program sound m h never = variables_ok program sound m.variables h never

stand_laid : (before : Program) (ms : List Module) → AreLaidInOrder before ms → StandInOrder before ms
stand_laid before [] h = tt
stand_laid before (m ∷ ms) h = (h.0.over, stand_laid (before ++ m ∷ []) ms h.1)

pub ordered_describe : OrderedDescribe
ordered_describe program sound whole laid =
    let d = describes_all program sound (program_sized program sound whole laid) (program_shallow program (stand_laid [] program laid)) in
    record { sizes = d.sizes; elements = d.elements; opens = d.opens; element_sizes = d.element_sizes; records = d.records; fields = d.fields }
