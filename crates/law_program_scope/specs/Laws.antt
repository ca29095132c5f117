-- The laws: bodies of judged modules name no variables but those of their procedures and of modules, and FOR has steps other than 0.
use Rattle.std.specs.Prelude.{Option}
use Rattle.std.specs.List.{AllByRecursion}
use Rattle.ob_tree.specs.declared.names.QName.{QName}
use Rattle.ob_types.specs.declared.desc.Desc.{Desc}
use Rattle.ob_types.specs.declared.typed.TypedModule.{TypedModule}
use Rattle.ob_types.specs.TypedView.{module_view}
use Rattle.ob_meaning.specs.Values.{Program}
use Rattle.ob_layout.specs.LaidOut.{laid_out}
use Rattle.law_typing.specs.Known.{ConstantIs}
use Rattle.law_body_context.specs.Judged.{BodiesAreJudged}
use Rattle.law_program_context.specs.Judged.{AreJudgedModules}
use Rattle.law_program_scope.specs.Scoped.{BodiesAreScoped}

-- A checked module whose bodies were judged, its records laid out by any descriptions; for its code by any others.
abbrev pub ModulesAreScoped : Type 0
ModulesAreScoped = (shown : QName → Option Desc) (m : TypedModule) → BodiesAreJudged ConstantIs shown m → (laid types : QName → Option Desc) → BodiesAreScoped types (laid_out laid (module_view m))

-- Each module of a program of judged modules, for its code by any descriptions.
abbrev pub ProgramsAreScoped : Type 0
ProgramsAreScoped = (program : Program) → AreJudgedModules program → AllByRecursion (λ m. (types : QName → Option Desc) → BodiesAreScoped types m) program
