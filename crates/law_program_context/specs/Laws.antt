-- The laws: what stands around the bodies of a checked module is as it is in a program, and the bodies are well typed.
use Rattle.std.specs.Prelude.{◌≡◌, List, Option, Some, None, Bool, false}
use Rattle.std.specs.List.{AllByRecursion}
use Rattle.ob_tree.specs.declared.names.QName.{QName}
use Rattle.ob_types.specs.declared.desc.Desc.{Desc}
use Rattle.ob_types.specs.declared.typed.TypedProcedure.{TypedProcedure}
use Rattle.ob_types.specs.declared.typed.TypedModule.{TypedModule}
use Rattle.ob_types.specs.declared.typed.TypedStmt.{TypedStmt}
use Rattle.ob_types.specs.TypedSyntax.{Procedure, Module}
use Rattle.ob_types.specs.TypedView.{procedure_view, stmts_view}
use Rattle.ob_meaning.specs.Values.{Program, form_in, Formals, Held}
use Rattle.law_simulation_relation.specs.Layout.{static_held}
use Rattle.law_simulation_relation.specs.Relation.{FormOk, AreDifferent}
use Rattle.law_simulation_relation.specs.Typed.{StmtsOk}
use Rattle.ob_rules.specs.Names.{Around, is_out}
use Rattle.ob_rules.specs.Declarations.{Contents}
use Rattle.law_typing_forms.specs.Said.{IsOneOf}
use Rattle.law_typing_forms.specs.Whole.{IsWhole}
use Rattle.law_typing.specs.Known.{ConstantIs}
use Rattle.law_typing.specs.Laws.{Having}
use Rattle.law_typing.specs.Redefined.{AreRedefined}
use Rattle.law_typing.specs.Surrounded.{IsSurrounded}
use Rattle.law_body_context.specs.Judged.{StandsAround, IsJudged}
use Rattle.law_program_context.specs.Left.{IsModuleOf, AreConstantsShown, HasProcedures, AreFormed, IsLeft}

-- Around the body of a procedure, whose variables have different names and can be built; constants that are shown are constants,
-- procedures may be values, and redefinitions are alike.
abbrev pub ProceduresSurrounded : Type 0
ProceduresSurrounded =
    (program : Program) (has : Formals → QName → Bool) (shown : QName → Option Desc) (checked : TypedModule) (m : Module) → IsWhole program → IsModuleOf program checked m → is_out checked.name ≡ false → AreConstantsShown shown → HasProcedures program (Having has) → AreRedefined program
    → (p : TypedProcedure) → IsOneOf checked.procedures p → AreDifferent (static_held program (procedure_view p)) → AllByRecursion (λ v. FormOk program (form_in program v.of)) p.locals
    → (content : Contents) → AreFormed program shown checked content → (u : Around) → StandsAround ConstantIs shown checked content (Some p) u → IsLeft program u
    → IsSurrounded program (Having has) checked.name (static_held program (procedure_view p)) p.result u

-- Around the body of the module, which has no variables of its own but those that FOR and CASE keep.
abbrev pub ModulesSurrounded : Type 0
ModulesSurrounded =
    (program : Program) (has : Formals → QName → Bool) (shown : QName → Option Desc) (checked : TypedModule) (m : Module) → IsWhole program → IsModuleOf program checked m → is_out checked.name ≡ false → AreConstantsShown shown → HasProcedures program (Having has) → AreRedefined program
    → (held : List Held) (content : Contents) → AreFormed program shown checked content → (u : Around) → StandsAround ConstantIs shown checked content None u → u.scope ≡ 1 → u.receiver ≡ None → IsLeft program u
    → IsSurrounded program (Having has) checked.name held None u

-- A body that is judged in such surroundings is well typed, where its variables have different names.
abbrev pub BodiesFit : Type 0
BodiesFit =
    (program : Program) (has : Formals → QName → Bool) (shown : QName → Option Desc) (checked : TypedModule) (content : Contents) (f : Option TypedProcedure) (body : List TypedStmt) (j : IsJudged ConstantIs shown checked content f body)
    → (p : Procedure) → p.body ≡ stmts_view body → AreDifferent (static_held program p)
    → IsSurrounded program (Having has) checked.name (static_held program p) p.result j.u
    → StmtsOk program (Having has) checked.name (static_held program p) p.result p.body false
