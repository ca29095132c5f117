-- Code does not end before it begins.
use Rattle.std.proofs.Common.{ℕ, suc, ◌≤◌, List, [], ◌∷◌, arith}
use Rattle.std.specs.Prelude.{Option, Some, None}
use Rattle.ob_types.specs.declared.typed.Passing.TheVariants as passing
use Rattle.ob_types.specs.declared.typed.Variable.{Variable}
use Rattle.ob_types.specs.declared.typed.Variable.TheVariants as variable
use Rattle.ob_types.specs.declared.typed.Guarded.TheVariants as guarded
use Rattle.ob_types.specs.declared.typed.Connective.TheVariants as connective
use Rattle.ob_types.specs.declared.typed.Unary.{Unary}
use Rattle.ob_types.specs.declared.typed.Unary.TheVariants as unary
use Rattle.ob_types.specs.declared.typed.Assigned.{Assigned}
use Rattle.ob_types.specs.declared.typed.Assigned.TheVariants as assigned
use Rattle.ob_types.specs.declared.typed.Label.{Label}
use Rattle.ob_types.specs.TypedSyntax.{Desig, OfVariable, Field, Index, Deref, Guard, Expr, Constant, ValueOf, ProcedureValue, Monadic, Dyadic, Logical, CompareTexts, IsPointer, IsRecord, Length, Call, CallVariable, Actuals, NoActual, AnActual, Stmt, Assign, CallProper, Updated, Copy, New, NewOpenArray, Assert, Halt, If, Case, While, Repeat, For, Loop, Exit, Return, With, Stmts, Nothing, Then, Branches, NoBranch, Branch, Cases, NoCase, OneCase, Otherwise, NoElse, Else}
use Rattle.ob_meaning.specs.Values.{Program, Form, BasicForm, PointerForm, ProcedureForm, ArrayForm, OpenForm, RecordForm}
use Rattle.law_simulation_relation.specs.Ends.{end_variable, end_tagged_variable, end_unary, is_open, type_form, end_place, end_tagged, end_open, end_expr, end_tag, end_length, end_address, end_record, end_array, end_actuals, end_target, end_assigned, end_labels, end_optional, end_stmt, end_stmts, end_branches, end_cases, end_else}

pub variable_ends : (v : Variable) (pc : ℕ) → suc pc ≤ end_variable v pc
variable_ends (variable.Module m x) pc = omega arith
variable_ends (variable.Local x) pc = omega arith
variable_ends (variable.Parameter passing.Scalar x) pc = omega arith
variable_ends (variable.Parameter passing.Structure x) pc = omega arith
variable_ends (variable.Parameter passing.OpenArray x) pc = omega arith
variable_ends (variable.Parameter passing.Variable x) pc = omega arith
variable_ends (variable.Parameter passing.VariableRecord x) pc = omega arith
variable_ends (variable.Parameter passing.VariableOpenArray x) pc = omega arith

tagged_variable_ends : (v : Variable) (pc : ℕ) → pc ≤ end_tagged_variable v pc
tagged_variable_ends (variable.Module m x) pc = omega arith
tagged_variable_ends (variable.Local x) pc = omega arith
tagged_variable_ends (variable.Parameter passing.Scalar x) pc = omega arith
tagged_variable_ends (variable.Parameter passing.Structure x) pc = omega arith
tagged_variable_ends (variable.Parameter passing.OpenArray x) pc = omega arith
tagged_variable_ends (variable.Parameter passing.Variable x) pc = omega arith
tagged_variable_ends (variable.Parameter passing.VariableRecord x) pc = omega arith
tagged_variable_ends (variable.Parameter passing.VariableOpenArray x) pc = omega arith

unary_ends : (o : Unary) (pc : ℕ) → pc ≤ end_unary o pc
unary_ends (unary.Negate v) pc = omega arith
unary_ends unary.Not pc = omega arith
unary_ends unary.Complement pc = omega arith
unary_ends (unary.Abs v) pc = omega arith
unary_ends unary.Cap pc = omega arith
unary_ends unary.Chr pc = omega arith
unary_ends (unary.Long v) pc = omega arith
unary_ends unary.Odd pc = omega arith
unary_ends unary.Ord pc = omega arith
unary_ends (unary.Short v) pc = omega arith
unary_ends unary.Element pc = omega arith

open_ends : (t : Form) (pc m n : ℕ) → pc ≤ m → pc ≤ n → pc ≤ is_open t m n
open_ends (BasicForm x) pc m n h k = k
open_ends (PointerForm x) pc m n h k = k
open_ends (ProcedureForm x) pc m n h k = k
open_ends (ArrayForm x y) pc m n h k = k
open_ends (OpenForm x) pc m n h k = h
open_ends (RecordForm x y) pc m n h k = k

module _ (program : Program) where
  mutual
    pub place_ends : (d : Desig) (pc : ℕ) → suc pc ≤ end_place program d pc
    place_ends (OfVariable v t) pc = variable_ends v pc
    place_ends (Field d o x t) pc = let h = place_ends d pc in omega (arith, h)
    place_ends (Index d (Some n) i at t) pc = let h = place_ends d pc in let k = expr_ends i (end_place program d pc) in omega (arith, h, k)
    place_ends (Index d None i at t) pc = let h = open_ends_at d pc in let k = expr_ends i (end_open program d pc) in omega (arith, h, k)
    place_ends (Deref d at t) pc = let h = place_ends d pc in omega (arith, h)
    place_ends (Guard d guarded.Pointer q at t) pc = let h = place_ends d pc in omega (arith, h)
    place_ends (Guard d guarded.Record q at t) pc = let h = tagged_ends d pc in omega (arith, h)

    tagged_ends : (d : Desig) (pc : ℕ) → pc ≤ end_tagged program d pc
    tagged_ends (OfVariable v t) pc = tagged_variable_ends v pc
    tagged_ends (Field d o x t) pc = let h = place_ends d pc in omega (arith, h)
    tagged_ends (Index d (Some n) i at t) pc = let h = place_ends d pc in let k = expr_ends i (end_place program d pc) in omega (arith, h, k)
    tagged_ends (Index d None i at t) pc = let h = open_ends_at d pc in let k = expr_ends i (end_open program d pc) in omega (arith, h, k)
    tagged_ends (Deref d at t) pc = let h = place_ends d pc in omega (arith, h)
    tagged_ends (Guard d guarded.Pointer q at t) pc = let h = place_ends d pc in omega (arith, h)
    tagged_ends (Guard d guarded.Record q at t) pc = let h = tagged_ends d pc in omega (arith, h)

    open_ends_at : (d : Desig) (pc : ℕ) → pc ≤ end_open program d pc
    open_ends_at (OfVariable v t) pc = omega arith
    open_ends_at (Deref d at t) pc = let h = place_ends d pc in omega (arith, h)
    open_ends_at (Field d o x t) pc = omega arith
    open_ends_at (Index d n i at t) pc = omega arith
    open_ends_at (Guard d g q at t) pc = omega arith

    pub expr_ends : (e : Expr) (pc : ℕ) → pc ≤ end_expr program e pc
    expr_ends (Constant x) pc = omega arith
    expr_ends (ValueOf d) pc = let h = place_ends d pc in omega (arith, h)
    expr_ends (ProcedureValue q signature) pc = omega arith
    expr_ends (Monadic o e at) pc = let h = expr_ends e pc in let k = unary_ends o (end_expr program e pc) in omega (arith, h, k)
    expr_ends (Dyadic o x y at) pc = let h = expr_ends x pc in let k = expr_ends y (end_expr program x pc) in omega (arith, h, k)
    expr_ends (Logical connective.And x y) pc = let h = expr_ends x pc in let k = expr_ends y (suc (end_expr program x pc)) in omega (arith, h, k)
    expr_ends (Logical connective.Or x y) pc = let h = expr_ends x pc in let k = expr_ends y (suc (suc (suc (end_expr program x pc)))) in omega (arith, h, k)
    expr_ends (CompareTexts r x y at) pc = let h = array_ends x pc in let k = array_ends y (end_array program x pc) in omega (arith, h, k)
    expr_ends (IsPointer e q) pc = let h = expr_ends e pc in omega (arith, h)
    expr_ends (IsRecord d q) pc = let h = tag_ends d pc in omega (arith, h)
    expr_ends (Length d) pc = length_ends d pc
    expr_ends (Call f es at t) pc = let h = actuals_end es pc in omega (arith, h)
    expr_ends (CallVariable d es at t) pc = let h = place_ends d pc in let k = actuals_end es (suc (end_place program d pc)) in omega (arith, h, k)

    tag_ends : (d : Desig) (pc : ℕ) → pc ≤ end_tag program d pc
    tag_ends (Guard d g q at t) pc = let h = tag_ends d pc in omega (arith, h)
    tag_ends (OfVariable v t) pc = omega arith
    tag_ends (Field d o x t) pc = omega arith
    tag_ends (Index d n i at t) pc = omega arith
    tag_ends (Deref d at t) pc = omega arith

    length_ends : (d : Desig) (pc : ℕ) → pc ≤ end_length program d pc
    length_ends (Deref d at t) pc = let h = place_ends d pc in omega (arith, h)
    length_ends (OfVariable v t) pc = omega arith
    length_ends (Field d o x t) pc = omega arith
    length_ends (Index d n i at t) pc = omega arith
    length_ends (Guard d g q at t) pc = omega arith

    address_ends : (e : Expr) (pc : ℕ) → pc ≤ end_address program e pc
    address_ends (ValueOf d) pc = let h = place_ends d pc in omega (arith, h)
    address_ends (Constant x) pc = omega arith
    address_ends (ProcedureValue q signature) pc = omega arith
    address_ends (Monadic o e at) pc = omega arith
    address_ends (Dyadic o x y at) pc = omega arith
    address_ends (Logical o x y) pc = omega arith
    address_ends (CompareTexts r x y at) pc = omega arith
    address_ends (IsPointer e q) pc = omega arith
    address_ends (IsRecord d q) pc = omega arith
    address_ends (Length d) pc = omega arith
    address_ends (Call f es at t) pc = omega arith
    address_ends (CallVariable d es at t) pc = omega arith

    record_ends : (e : Expr) (pc : ℕ) → pc ≤ end_record program e pc
    record_ends (ValueOf d) pc = tagged_ends d pc
    record_ends (Constant x) pc = omega arith
    record_ends (ProcedureValue q signature) pc = omega arith
    record_ends (Monadic o e at) pc = omega arith
    record_ends (Dyadic o x y at) pc = omega arith
    record_ends (Logical o x y) pc = omega arith
    record_ends (CompareTexts r x y at) pc = omega arith
    record_ends (IsPointer e q) pc = omega arith
    record_ends (IsRecord d q) pc = omega arith
    record_ends (Length d) pc = omega arith
    record_ends (Call f es at t) pc = omega arith
    record_ends (CallVariable d es at t) pc = omega arith

    array_ends : (e : Expr) (pc : ℕ) → pc ≤ end_array program e pc
    array_ends (ValueOf d) pc = let h = place_ends d pc in open_ends (type_form program d) pc (end_open program d pc) (suc (end_place program d pc)) (open_ends_at d pc) (omega (arith, h))
    array_ends (Constant x) pc = omega arith
    array_ends (ProcedureValue q signature) pc = omega arith
    array_ends (Monadic o e at) pc = omega arith
    array_ends (Dyadic o x y at) pc = omega arith
    array_ends (Logical o x y) pc = omega arith
    array_ends (CompareTexts r x y at) pc = omega arith
    array_ends (IsPointer e q) pc = omega arith
    array_ends (IsRecord d q) pc = omega arith
    array_ends (Length d) pc = omega arith
    array_ends (Call f es at t) pc = omega arith
    array_ends (CallVariable d es at t) pc = omega arith

    actuals_end : (es : Actuals) (pc : ℕ) → pc ≤ end_actuals program es pc
    actuals_end NoActual pc = omega arith
    actuals_end (AnActual passing.Scalar t e rest) pc = let h = expr_ends e pc in let k = actuals_end rest (end_expr program e pc) in omega (arith, h, k)
    actuals_end (AnActual passing.Structure t e rest) pc = let h = address_ends e pc in let k = actuals_end rest (end_address program e pc) in omega (arith, h, k)
    actuals_end (AnActual passing.Variable t e rest) pc = let h = address_ends e pc in let k = actuals_end rest (end_address program e pc) in omega (arith, h, k)
    actuals_end (AnActual passing.VariableRecord t e rest) pc = let h = record_ends e pc in let k = actuals_end rest (end_record program e pc) in omega (arith, h, k)
    actuals_end (AnActual passing.OpenArray t e rest) pc = let h = array_ends e pc in let k = actuals_end rest (end_array program e pc) in omega (arith, h, k)
    actuals_end (AnActual passing.VariableOpenArray t e rest) pc = let h = array_ends e pc in let k = actuals_end rest (end_array program e pc) in omega (arith, h, k)

  pub target_ends : (d : Desig) (pc : ℕ) → pc ≤ end_target program d pc
  target_ends (OfVariable (variable.Module m x) t) pc = omega arith
  target_ends (OfVariable (variable.Local x) t) pc = omega arith
  target_ends (OfVariable (variable.Parameter passing.Scalar x) t) pc = omega arith
  target_ends (OfVariable (variable.Parameter passing.Structure x) t) pc = omega arith
  target_ends (OfVariable (variable.Parameter passing.OpenArray x) t) pc = omega arith
  target_ends (OfVariable (variable.Parameter passing.Variable x) t) pc = omega arith
  target_ends (OfVariable (variable.Parameter passing.VariableRecord x) t) pc = omega arith
  target_ends (OfVariable (variable.Parameter passing.VariableOpenArray x) t) pc = omega arith
  target_ends (Field d o x t) pc = let h = place_ends (Field d o x t) pc in omega (arith, h)
  target_ends (Index d n i at t) pc = let h = place_ends (Index d n i at t) pc in omega (arith, h)
  target_ends (Deref d at t) pc = tagged_ends (Deref d at t) pc
  target_ends (Guard d g q at t) pc = tagged_ends (Guard d g q at t) pc

  assigned_ends : (how : Assigned) (d : Desig) (e : Expr) (pc : ℕ) → suc pc ≤ end_assigned program how d e pc
  assigned_ends assigned.Scalar d e pc = let h = place_ends d pc in let k = expr_ends e (end_place program d pc) in omega (arith, h, k)
  assigned_ends assigned.Text d e pc = let h = place_ends d pc in let k = address_ends e (end_place program d pc) in omega (arith, h, k)
  assigned_ends assigned.Array d e pc = let h = place_ends d pc in let k = address_ends e (end_place program d pc) in omega (arith, h, k)
  assigned_ends (assigned.Record q) d e pc = let h = target_ends d pc in let k = address_ends e (end_target program d pc) in omega (arith, h, k)

  pub labels_end : (ls : List Label) (pc : ℕ) → suc pc ≤ end_labels program ls pc
  labels_end [] pc = omega arith
  labels_end (l ∷ ls) pc = let h = labels_end ls (suc (suc (suc (suc (suc (suc (suc (suc (suc (suc (suc pc))))))))))) in omega (arith, h)

  optional_ends : (e : Option Expr) (pc : ℕ) → pc ≤ end_optional program e pc
  optional_ends None pc = omega arith
  optional_ends (Some e) pc = expr_ends e pc

  mutual
    pub stmt_ends : (t : Stmt) (pc : ℕ) → pc ≤ end_stmt program t pc
    stmt_ends (Assign d how e at) pc = let h = assigned_ends how d e pc in omega (arith, h)
    stmt_ends (CallProper e) pc = expr_ends e pc
    stmt_ends (Updated o d e at) pc = let h = place_ends d pc in let k = expr_ends e (end_place program d pc) in omega (arith, h, k)
    stmt_ends (Copy e d at) pc = let h = array_ends e pc in let k = array_ends (ValueOf d) (end_array program e pc) in omega (arith, h, k)
    stmt_ends (New d what at) pc = let h = place_ends d pc in omega (arith, h)
    stmt_ends (NewOpenArray d t n at) pc = let h = place_ends d pc in let k = expr_ends n (end_place program d pc) in omega (arith, h, k)
    stmt_ends (Assert e number at) pc = let h = expr_ends e pc in omega (arith, h)
    stmt_ends (Halt number at) pc = omega arith
    stmt_ends (If branches otherwise) pc = let h = branches_end branches pc in let k = stmts_end otherwise (end_branches program branches pc) in omega (arith, h, k)
    stmt_ends (Case e cases otherwise at) pc =
        let h = expr_ends e (suc pc) in
        let k = cases_end cases (suc (end_expr program e (suc pc))) in
        let m = else_ends otherwise (end_cases program cases (suc (end_expr program e (suc pc)))) in omega (arith, h, k, m)
    stmt_ends (While e body at) pc = let h = expr_ends e pc in let k = stmts_end body (suc (end_expr program e pc)) in omega (arith, h, k)
    stmt_ends (Repeat body e at) pc = let h = stmts_end body pc in let k = expr_ends e (end_stmts program body pc) in omega (arith, h, k)
    stmt_ends (For v w start stop step body at) pc =
        let p1 = end_expr program stop (suc pc) in
        let p2 = end_variable v (suc p1) in
        let p3 = end_expr program start p2 in
        let l = suc p3 in
        let bd = suc (suc (suc (suc (suc (end_variable v l))))) in
        let h = expr_ends stop (suc pc) in
        let h2 = variable_ends v (suc p1) in
        let h3 = expr_ends start p2 in
        let h4 = variable_ends v l in
        let h5 = stmts_end body bd in
        let h6 = variable_ends v (end_stmts program body bd) in omega (arith, h, h2, h3, h4, h5, h6)
    stmt_ends (Loop body at) pc = let h = stmts_end body pc in omega (arith, h)
    stmt_ends Exit pc = omega arith
    stmt_ends (Return e) pc = let h = optional_ends e pc in omega (arith, h)
    stmt_ends (With branches otherwise at) pc = let h = branches_end branches pc in let k = else_ends otherwise (end_branches program branches pc) in omega (arith, h, k)

    pub stmts_end : (t : Stmts) (pc : ℕ) → pc ≤ end_stmts program t pc
    stmts_end Nothing pc = omega arith
    stmts_end (Then t rest) pc = let h = stmt_ends t pc in let k = stmts_end rest (end_stmt program t pc) in omega (arith, h, k)

    pub branches_end : (t : Branches) (pc : ℕ) → pc ≤ end_branches program t pc
    branches_end NoBranch pc = omega arith
    branches_end (Branch test body rest) pc =
        let p1 = end_expr program test pc in
        let p2 = end_stmts program body (suc p1) in
        let h = expr_ends test pc in
        let k = stmts_end body (suc p1) in
        let m = branches_end rest (suc p2) in omega (arith, h, k, m)

    pub cases_end : (t : Cases) (pc : ℕ) → pc ≤ end_cases program t pc
    cases_end NoCase pc = omega arith
    cases_end (OneCase labels body rest) pc =
        let p1 = end_labels program labels pc in
        let p2 = end_stmts program body p1 in
        let h = labels_end labels pc in
        let k = stmts_end body p1 in
        let m = cases_end rest (suc p2) in omega (arith, h, k, m)

    pub else_ends : (t : Otherwise) (pc : ℕ) → pc ≤ end_else program t pc
    else_ends NoElse pc = omega arith
    else_ends (Else body) pc = stmts_end body pc
