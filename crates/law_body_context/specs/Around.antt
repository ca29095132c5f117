-- What holds around the bodies of a module, where they are judged.
use Rattle.std.specs.Prelude.{List, [], ◌∷◌, Option}
use Rattle.std.specs.List.{AllByRecursion}
use Rattle.ob_tree.specs.declared.names.QName.{QName}
use Rattle.ob_types.specs.declared.value.Value.{Value}
use Rattle.ob_types.specs.declared.desc.Desc.{Desc}
use Rattle.ob_types.specs.declared.typed.TypedProcedure.{TypedProcedure}
use Rattle.ob_types.specs.declared.typed.TypedModule.{TypedModule}
use Rattle.ob_rules.specs.Names.{Around}
use Rattle.ob_rules.specs.Declarations.{Contents}
use Rattle.law_body_context.specs.Judged.{ProcedureIsJudged, BodiesAreJudged}

module _ (P : Around → Type 0) (IsConstant : Value → Type 0) (shown : QName → Option Desc) (m : TypedModule) where
  -- it holds of what stands around the body of each of these procedures
  abbrev pub IsAroundEach : (content : Contents) (ps : List TypedProcedure) → AllByRecursion (ProcedureIsJudged IsConstant shown m content) ps → Type 0
  IsAroundEach content [] h = Unit {0}
  IsAroundEach content (p ∷ ps) h = P h.0.body.u × IsAroundEach content ps h.1

  -- and around the body of the module
  pub record IsAround (j : BodiesAreJudged IsConstant shown m) : Type 0 where
    pub procedures : IsAroundEach j.content m.procedures j.procedures
    pub body : P j.body.u
