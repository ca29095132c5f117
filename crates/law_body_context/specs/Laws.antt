-- The laws: where the bodies of a checked module are judged, and the variables that their FOR and CASE keep.
use Rattle.std.specs.Prelude.{◌≡◌, ℕ, List, map, Option, Some, Bool, true, false, bytes_eq}
use Rattle.std.specs.List.{AllByRecursion}
use Rattle.ob_tree.specs.declared.names.QName.{QName}
use Rattle.ob_tree.specs.declared.ident.Import.{Import}
use Rattle.ob_tree.specs.declared.expr.Expr.{Expr}
use Rattle.ob_tree.specs.declared.stmt.Stmt.{Stmt}
use Rattle.ob_tree.specs.declared.decl.Module.{Module as Tree}
use Rattle.ob_types.specs.declared.types.TypeRef.{TypeRef}
use Rattle.ob_types.specs.declared.desc.Desc.{Desc}
use Rattle.ob_types.specs.declared.typed.TypedStmt.{TypedStmt}
use Rattle.ob_types.specs.declared.typed.TypedModule.{TypedModule}
use Rattle.ob_types.specs.TypedSyntax.{Procedure}
use Rattle.ob_types.specs.TypedView.{stmts_view}
use Rattle.ob_meaning.specs.Values.{Formals, Program}
use Rattle.law_simulation_relation.specs.Layout.{static_held}
use Rattle.law_simulation_relation.specs.Relation.{AreDifferent}
use Rattle.ob_rules.specs.Names.{Around}
use Rattle.ob_rules.specs.Expressions.{phrase_of, constant_value}
use Rattle.ob_rules.specs.Statements.{judging, in_turn}
use Rattle.ob_rules.specs.Declarations.{checked, target_of}
use Rattle.law_typing.specs.Makes.{Makes}
use Rattle.law_typing.specs.Known.{ConstantIs}
use Rattle.law_typing.specs.Spelled.{is_spelled}
use Rattle.law_typing.specs.Bodies.{in_all, hidden_places, AreHidden}
use Rattle.law_typing.specs.Laws.{Having}
use Rattle.law_names_procedures.specs.Procedures.{ShowBases, is_named_plainly}
use Rattle.law_names_procedures.specs.Procedures as said
use Rattle.law_body_context.specs.Spelled.{tree_spelled}
use Rattle.law_body_context.specs.Knows.{Knows}
use Rattle.law_body_context.specs.Judged.{BodiesAreJudged}

-- anywhere in a module, an expression that is constant comes to a constant
abbrev pub ConstantsAre : List ℕ → (QName → Option Desc) → Type 0
ConstantsAre unit shown = (u : Around) → Knows ConstantIs unit shown u → (x : Expr) → is_spelled x ≡ true → Makes ConstantIs (constant_value u (phrase_of x))

-- no import is of the module itself
abbrev pub AreOthers : List ℕ → List Import → Type 0
AreOthers unit imports = AllByRecursion (λ i. bytes_eq (target_of i).name unit ≡ false) imports

-- Each body of a checked module is judged where what is known is as the module has it, where the bases of pointers that are shown are shown
-- too, and procedures are named by identifiers.
abbrev pub BodiesJudged : Type 0
BodiesJudged =
    (shown : QName → Option Desc) (tree : Tree) (m : TypedModule) → checked shown tree ≡ Some m → tree_spelled tree ≡ true → ShowBases shown tree.name.name → said.all_true (map is_named_plainly tree.decls) ≡ true → AreOthers tree.name.name tree.imports
    → ConstantsAre tree.name.name shown → BodiesAreJudged ConstantIs shown m

-- A checked module whose listed imports are others imports others alone.
abbrev pub ImportsAreOthers : Type 0
ImportsAreOthers = (shown : QName → Option Desc) (tree : Tree) (m : TypedModule) → checked shown tree ≡ Some m → AllByRecursion (λ x. bytes_eq x tree.name.name ≡ false) m.imports → AreOthers tree.name.name tree.imports

-- A procedure whose variables have different names has those that the FOR and CASE of its text keep.
abbrev pub HiddenStand : Type 0
HiddenStand =
    (program : Program) (has : Formals → QName → Bool) (unit : List ℕ) (result : Option TypeRef) (u : Around) (xs : List Stmt) (ys : List TypedStmt) → (in_turn (map judging xs) u).node ≡ Some ys
    → (p : Procedure) → p.body ≡ stmts_view ys → AreDifferent (static_held program p)
    → AreHidden program (Having has) unit (static_held program p) result (in_all (map hidden_places xs))
