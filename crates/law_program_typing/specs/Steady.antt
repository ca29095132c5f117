-- Where what is known around the bodies of modules is steady.
use Rattle.std.specs.Prelude.{List, [], ◌∷◌, Option}
use Rattle.std.specs.List.{AllByRecursion}
use Rattle.ob_tree.specs.declared.names.QName.{QName}
use Rattle.ob_types.specs.declared.desc.Desc.{Desc}
use Rattle.ob_types.specs.declared.typed.TypedProcedure.{TypedProcedure}
use Rattle.ob_types.specs.declared.typed.TypedModule.{TypedModule}
use Rattle.ob_types.specs.TypedSyntax.{Module}
use Rattle.ob_meaning.specs.Values.{Program}
use Rattle.ob_env.specs.Shown.{shown}
use Rattle.ob_rules.specs.Names.{map_of}
use Rattle.ob_rules.specs.Declarations.{Contents}
use Rattle.law_typing_forms.specs.Steady.{IsSteady}
use Rattle.law_typing_env.specs.Views.{FieldsDiffer}
use Rattle.law_typing.specs.Known.{ConstantIs}
use Rattle.law_body_context.specs.Judged.{ProcedureIsJudged}
use Rattle.law_program_context.specs.Judged.{IsJudgedModule}

-- the maps of types around the bodies of procedures are steady
abbrev pub AreSteady : (shown : QName → Option Desc) (checked : TypedModule) (content : Contents) (ps : List TypedProcedure) → AllByRecursion (ProcedureIsJudged ConstantIs shown checked content) ps → Type 0
AreSteady shown checked content [] h = Unit {0}
AreSteady shown checked content (p ∷ ps) h = IsSteady (map_of h.0.body.u) × AreSteady shown checked content ps h.1

-- around all bodies of a module; and the fields of each of its records differ
pub record IsSteadyModule (program : Program) (m : Module) (j : IsJudgedModule program m) : Type 0 where
  pub fields : AllByRecursion (λ t. FieldsDiffer t.desc) j.checked.types
  pub procedures : AreSteady (shown j.faces) j.checked j.bodies.content j.checked.procedures j.bodies.procedures
  pub body : IsSteady (map_of j.bodies.body.u)

-- so it is of each of these modules
abbrev pub AreSteadyModules : (program : Program) (ms : List Module) → AllByRecursion (IsJudgedModule program) ms → Type 0
AreSteadyModules program [] h = Unit {0}
AreSteadyModules program (m ∷ ms) h = IsSteadyModule program m h.0 × AreSteadyModules program ms h.1
