-- The view of each alternative of the checked tree.
use Rattle.std.proofs.Common.{◌≡◌, List, ℕ, sym, ap, ◌∙◌, Option, Some, None}
use Rattle.std.specs.Prelude.{ℤ}
use Rattle.std.specs.Option.{option_map}
use Rattle.ob_tree.specs.declared.pos.Pos.{Pos}
use Rattle.ob_tree.specs.declared.names.QName.{QName}
use Rattle.ob_types.specs.declared.types.TypeRef.{TypeRef}
use Rattle.ob_types.specs.declared.types.Signature.{Signature}
use Rattle.ob_types.specs.declared.value.Value.{Value}
use Rattle.ob_types.specs.declared.typed.Width.{Width}
use Rattle.ob_types.specs.declared.typed.Variable.{Variable}
use Rattle.ob_types.specs.declared.typed.Guarded.{Guarded}
use Rattle.ob_types.specs.declared.typed.Comparison.{Comparison}
use Rattle.ob_types.specs.declared.typed.Unary.{Unary}
use Rattle.ob_types.specs.declared.typed.Binary.{Binary}
use Rattle.ob_types.specs.declared.typed.Connective.{Connective}
use Rattle.ob_types.specs.declared.typed.Callee.{Callee}
use Rattle.ob_types.specs.declared.typed.Assigned.{Assigned}
use Rattle.ob_types.specs.declared.typed.Update.{Update}
use Rattle.ob_types.specs.declared.typed.Made.{Made}
use Rattle.ob_types.specs.declared.typed.Designator.{Designator}
use Rattle.ob_types.specs.declared.typed.Designator.TheVariants as d
use Rattle.ob_types.specs.declared.typed.Designator.TheOpen.{Designator-F, TypedExpr-F}
use Rattle.ob_types.specs.declared.typed.Designator.TheFolds.{fold-roll-Designator, fold-roll-TypedExpr}
use Rattle.ob_types.specs.declared.typed.TypedExpr.{TypedExpr}
use Rattle.ob_types.specs.declared.typed.TypedExpr.TheVariants as e
use Rattle.ob_types.specs.declared.typed.Actual.{Actual}
use Rattle.ob_types.specs.declared.typed.TypedStmt.{TypedStmt}
use Rattle.ob_types.specs.declared.typed.TypedStmt.TheVariants as s
use Rattle.ob_types.specs.declared.typed.TypedStmt.TheOpen.{TypedStmt-F}
use Rattle.ob_types.specs.declared.typed.TypedStmt.TheFolds.{fold-roll-TypedStmt}
use Rattle.ob_types.specs.declared.typed.TypedBranch.{TypedBranch}
use Rattle.ob_types.specs.declared.typed.TypedCase.{TypedCase}
use Rattle.ob_types.specs.TypedSyntax.{Desig, OfVariable, Field, Index, Deref, Guard, Expr, Constant, ValueOf, ProcedureValue, Monadic, Dyadic, Logical, CompareTexts, IsPointer, IsRecord, Length, Call, CallVariable, Stmt, Assign, CallProper, Updated, Copy, New, NewOpenArray, Assert, Halt, If, Case, While, Repeat, For, Loop, Exit, Return, With, NoElse, Else}
use Rattle.ob_types.specs.TypedView.{OneActual, designator_layer, expr_layer, actual_layer, designator_view, expr_view, actuals_view, OneBranch, LabelledBody, stmt_layer, branch_layer, case_layer, stmt_view, stmts_view, branches_view, cases_view}

pub view_variable : (v : Variable) (t : TypeRef) → designator_view (d.Variable v t) ≡ OfVariable v t
view_variable v t = ap designator_view (sym (d.rolls-Variable v t)) ∙ fold-roll-Designator Desig Expr OneActual designator_layer expr_layer actual_layer (Designator-F.Variable v t)

pub view_field : (x : Designator) (owner : QName) (name : List ℕ) (t : TypeRef) → designator_view (d.Field x owner name t) ≡ Field (designator_view x) owner name t
view_field x owner name t = ap designator_view (sym (d.rolls-Field x owner name t)) ∙ fold-roll-Designator Desig Expr OneActual designator_layer expr_layer actual_layer (Designator-F.Field x owner name t)

pub view_index : (x : Designator) (n : Option ℕ) (i : TypedExpr) (at : Pos) (t : TypeRef) → designator_view (d.Index x n i at t) ≡ Index (designator_view x) n (expr_view i) at t
view_index x n i at t = ap designator_view (sym (d.rolls-Index x n i at t)) ∙ fold-roll-Designator Desig Expr OneActual designator_layer expr_layer actual_layer (Designator-F.Index x n i at t)

pub view_deref : (x : Designator) (at : Pos) (t : TypeRef) → designator_view (d.Deref x at t) ≡ Deref (designator_view x) at t
view_deref x at t = ap designator_view (sym (d.rolls-Deref x at t)) ∙ fold-roll-Designator Desig Expr OneActual designator_layer expr_layer actual_layer (Designator-F.Deref x at t)

pub view_guard : (x : Designator) (g : Guarded) (target : QName) (at : Pos) (t : TypeRef) → designator_view (d.Guard x g target at t) ≡ Guard (designator_view x) g target at t
view_guard x g target at t = ap designator_view (sym (d.rolls-Guard x g target at t)) ∙ fold-roll-Designator Desig Expr OneActual designator_layer expr_layer actual_layer (Designator-F.Guard x g target at t)

pub view_constant : (v : Value) → expr_view (e.Constant v) ≡ Constant v
view_constant v = ap expr_view (sym (e.rolls-Constant v)) ∙ fold-roll-TypedExpr Desig Expr OneActual designator_layer expr_layer actual_layer (TypedExpr-F.Constant v)

pub view_value_of : (x : Designator) → expr_view (e.Designator x) ≡ ValueOf (designator_view x)
view_value_of x = ap expr_view (sym (e.rolls-Designator x)) ∙ fold-roll-TypedExpr Desig Expr OneActual designator_layer expr_layer actual_layer (TypedExpr-F.Designator x)

pub view_procedure_value : (name : QName) (signature : Signature) → expr_view (e.Procedure name signature) ≡ ProcedureValue name signature
view_procedure_value name signature = ap expr_view (sym (e.rolls-Procedure name signature)) ∙ fold-roll-TypedExpr Desig Expr OneActual designator_layer expr_layer actual_layer (TypedExpr-F.Procedure name signature)

pub view_monadic : (op : Unary) (x : TypedExpr) (at : Pos) → expr_view (e.Unary op x at) ≡ Monadic op (expr_view x) at
view_monadic op x at = ap expr_view (sym (e.rolls-Unary op x at)) ∙ fold-roll-TypedExpr Desig Expr OneActual designator_layer expr_layer actual_layer (TypedExpr-F.Unary op x at)

pub view_dyadic : (op : Binary) (x : TypedExpr) (y : TypedExpr) (at : Pos) → expr_view (e.Binary op x y at) ≡ Dyadic op (expr_view x) (expr_view y) at
view_dyadic op x y at = ap expr_view (sym (e.rolls-Binary op x y at)) ∙ fold-roll-TypedExpr Desig Expr OneActual designator_layer expr_layer actual_layer (TypedExpr-F.Binary op x y at)

pub view_logical : (op : Connective) (x : TypedExpr) (y : TypedExpr) → expr_view (e.Logical op x y) ≡ Logical op (expr_view x) (expr_view y)
view_logical op x y = ap expr_view (sym (e.rolls-Logical op x y)) ∙ fold-roll-TypedExpr Desig Expr OneActual designator_layer expr_layer actual_layer (TypedExpr-F.Logical op x y)

pub view_compare_texts : (r : Comparison) (x : TypedExpr) (y : TypedExpr) (at : Pos) → expr_view (e.CompareTexts r x y at) ≡ CompareTexts r (expr_view x) (expr_view y) at
view_compare_texts r x y at = ap expr_view (sym (e.rolls-CompareTexts r x y at)) ∙ fold-roll-TypedExpr Desig Expr OneActual designator_layer expr_layer actual_layer (TypedExpr-F.CompareTexts r x y at)

pub view_is_pointer : (x : TypedExpr) (target : QName) → expr_view (e.IsPointer x target) ≡ IsPointer (expr_view x) target
view_is_pointer x target = ap expr_view (sym (e.rolls-IsPointer x target)) ∙ fold-roll-TypedExpr Desig Expr OneActual designator_layer expr_layer actual_layer (TypedExpr-F.IsPointer x target)

pub view_is_record : (x : Designator) (target : QName) → expr_view (e.IsRecord x target) ≡ IsRecord (designator_view x) target
view_is_record x target = ap expr_view (sym (e.rolls-IsRecord x target)) ∙ fold-roll-TypedExpr Desig Expr OneActual designator_layer expr_layer actual_layer (TypedExpr-F.IsRecord x target)

pub view_length : (x : Designator) → expr_view (e.Length x) ≡ Length (designator_view x)
view_length x = ap expr_view (sym (e.rolls-Length x)) ∙ fold-roll-TypedExpr Desig Expr OneActual designator_layer expr_layer actual_layer (TypedExpr-F.Length x)

pub view_call : (callee : Callee) (xs : List Actual) (at : Pos) (t : Option TypeRef) → expr_view (e.Call callee xs at t) ≡ Call callee (actuals_view xs) at t
view_call callee xs at t = ap expr_view (sym (e.rolls-Call callee xs at t)) ∙ fold-roll-TypedExpr Desig Expr OneActual designator_layer expr_layer actual_layer (TypedExpr-F.Call callee xs at t)

pub view_call_variable : (x : Designator) (xs : List Actual) (at : Pos) (t : Option TypeRef) → expr_view (e.CallVariable x xs at t) ≡ CallVariable (designator_view x) (actuals_view xs) at t
view_call_variable x xs at t = ap expr_view (sym (e.rolls-CallVariable x xs at t)) ∙ fold-roll-TypedExpr Desig Expr OneActual designator_layer expr_layer actual_layer (TypedExpr-F.CallVariable x xs at t)

pub view_assign : (x : Designator) (assigned : Assigned) (y : TypedExpr) (at : Pos) → stmt_view (s.Assign x assigned y at) ≡ Assign (designator_view x) assigned (expr_view y) at
view_assign x assigned y at = ap stmt_view (sym (s.rolls-Assign x assigned y at)) ∙ fold-roll-TypedStmt Stmt OneBranch LabelledBody stmt_layer branch_layer case_layer (TypedStmt-F.Assign x assigned y at)

pub view_call_proper : (x : TypedExpr) → stmt_view (s.Call x) ≡ CallProper (expr_view x)
view_call_proper x = ap stmt_view (sym (s.rolls-Call x)) ∙ fold-roll-TypedStmt Stmt OneBranch LabelledBody stmt_layer branch_layer case_layer (TypedStmt-F.Call x)

pub view_updated : (op : Update) (x : Designator) (y : TypedExpr) (at : Pos) → stmt_view (s.Update op x y at) ≡ Updated op (designator_view x) (expr_view y) at
view_updated op x y at = ap stmt_view (sym (s.rolls-Update op x y at)) ∙ fold-roll-TypedStmt Stmt OneBranch LabelledBody stmt_layer branch_layer case_layer (TypedStmt-F.Update op x y at)

pub view_copy : (x : TypedExpr) (y : Designator) (at : Pos) → stmt_view (s.Copy x y at) ≡ Copy (expr_view x) (designator_view y) at
view_copy x y at = ap stmt_view (sym (s.rolls-Copy x y at)) ∙ fold-roll-TypedStmt Stmt OneBranch LabelledBody stmt_layer branch_layer case_layer (TypedStmt-F.Copy x y at)

pub view_new : (x : Designator) (made : Made) (at : Pos) → stmt_view (s.New x made at) ≡ New (designator_view x) made at
view_new x made at = ap stmt_view (sym (s.rolls-New x made at)) ∙ fold-roll-TypedStmt Stmt OneBranch LabelledBody stmt_layer branch_layer case_layer (TypedStmt-F.New x made at)

pub view_new_open_array : (x : Designator) (element : TypeRef) (n : TypedExpr) (at : Pos) → stmt_view (s.NewOpenArray x element n at) ≡ NewOpenArray (designator_view x) element (expr_view n) at
view_new_open_array x element n at = ap stmt_view (sym (s.rolls-NewOpenArray x element n at)) ∙ fold-roll-TypedStmt Stmt OneBranch LabelledBody stmt_layer branch_layer case_layer (TypedStmt-F.NewOpenArray x element n at)

pub view_assert : (x : TypedExpr) (n : ℤ) (at : Pos) → stmt_view (s.Assert x n at) ≡ Assert (expr_view x) n at
view_assert x n at = ap stmt_view (sym (s.rolls-Assert x n at)) ∙ fold-roll-TypedStmt Stmt OneBranch LabelledBody stmt_layer branch_layer case_layer (TypedStmt-F.Assert x n at)

pub view_halt : (n : ℤ) (at : Pos) → stmt_view (s.Halt n at) ≡ Halt n at
view_halt n at = ap stmt_view (sym (s.rolls-Halt n at)) ∙ fold-roll-TypedStmt Stmt OneBranch LabelledBody stmt_layer branch_layer case_layer (TypedStmt-F.Halt n at)

pub view_if : (bs : List TypedBranch) (otherwise : List TypedStmt) → stmt_view (s.If bs otherwise) ≡ If (branches_view bs) (stmts_view otherwise)
view_if bs otherwise = ap stmt_view (sym (s.rolls-If bs otherwise)) ∙ fold-roll-TypedStmt Stmt OneBranch LabelledBody stmt_layer branch_layer case_layer (TypedStmt-F.If bs otherwise)

pub view_case_none : (x : TypedExpr) (cs : List TypedCase) (at : Pos) → stmt_view (s.Case x cs None at) ≡ Case (expr_view x) (cases_view cs) NoElse at
view_case_none x cs at = ap stmt_view (sym (s.rolls-Case x cs None at)) ∙ fold-roll-TypedStmt Stmt OneBranch LabelledBody stmt_layer branch_layer case_layer (TypedStmt-F.Case x cs None at)

pub view_case_some : (x : TypedExpr) (cs : List TypedCase) (body : List TypedStmt) (at : Pos) → stmt_view (s.Case x cs (Some body) at) ≡ Case (expr_view x) (cases_view cs) (Else (stmts_view body)) at
view_case_some x cs body at = ap stmt_view (sym (s.rolls-Case x cs (Some body) at)) ∙ fold-roll-TypedStmt Stmt OneBranch LabelledBody stmt_layer branch_layer case_layer (TypedStmt-F.Case x cs (Some body) at)

pub view_while : (x : TypedExpr) (body : List TypedStmt) (at : Pos) → stmt_view (s.While x body at) ≡ While (expr_view x) (stmts_view body) at
view_while x body at = ap stmt_view (sym (s.rolls-While x body at)) ∙ fold-roll-TypedStmt Stmt OneBranch LabelledBody stmt_layer branch_layer case_layer (TypedStmt-F.While x body at)

pub view_repeat : (body : List TypedStmt) (x : TypedExpr) (at : Pos) → stmt_view (s.Repeat body x at) ≡ Repeat (stmts_view body) (expr_view x) at
view_repeat body x at = ap stmt_view (sym (s.rolls-Repeat body x at)) ∙ fold-roll-TypedStmt Stmt OneBranch LabelledBody stmt_layer branch_layer case_layer (TypedStmt-F.Repeat body x at)

pub view_for : (v : Variable) (width : Width) (x : TypedExpr) (y : TypedExpr) (step : ℤ) (body : List TypedStmt) (at : Pos) → stmt_view (s.For v width x y step body at) ≡ For v width (expr_view x) (expr_view y) step (stmts_view body) at
view_for v width x y step body at = ap stmt_view (sym (s.rolls-For v width x y step body at)) ∙ fold-roll-TypedStmt Stmt OneBranch LabelledBody stmt_layer branch_layer case_layer (TypedStmt-F.For v width x y step body at)

pub view_loop : (body : List TypedStmt) (at : Pos) → stmt_view (s.Loop body at) ≡ Loop (stmts_view body) at
view_loop body at = ap stmt_view (sym (s.rolls-Loop body at)) ∙ fold-roll-TypedStmt Stmt OneBranch LabelledBody stmt_layer branch_layer case_layer (TypedStmt-F.Loop body at)

pub view_exit : stmt_view s.Exit ≡ Exit
view_exit = ap stmt_view (sym s.rolls-Exit) ∙ fold-roll-TypedStmt Stmt OneBranch LabelledBody stmt_layer branch_layer case_layer TypedStmt-F.Exit

pub view_return : (x : Option TypedExpr) → stmt_view (s.Return x) ≡ Return (option_map expr_view x)
view_return x = ap stmt_view (sym (s.rolls-Return x)) ∙ fold-roll-TypedStmt Stmt OneBranch LabelledBody stmt_layer branch_layer case_layer (TypedStmt-F.Return x)

pub view_with_none : (bs : List TypedBranch) (at : Pos) → stmt_view (s.With bs None at) ≡ With (branches_view bs) NoElse at
view_with_none bs at = ap stmt_view (sym (s.rolls-With bs None at)) ∙ fold-roll-TypedStmt Stmt OneBranch LabelledBody stmt_layer branch_layer case_layer (TypedStmt-F.With bs None at)

pub view_with_some : (bs : List TypedBranch) (body : List TypedStmt) (at : Pos) → stmt_view (s.With bs (Some body) at) ≡ With (branches_view bs) (Else (stmts_view body)) at
view_with_some bs body at = ap stmt_view (sym (s.rolls-With bs (Some body) at)) ∙ fold-roll-TypedStmt Stmt OneBranch LabelledBody stmt_layer branch_layer case_layer (TypedStmt-F.With bs (Some body) at)
