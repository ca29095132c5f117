-- Names of other modules that have a spelling, and all else that fits: what statements say is coded.
use Rattle.std.proofs.Common.{List, [], ◌∷◌, ◌++◌, Some, None}
use Rattle.std.specs.Prelude.{ℕ, Bool, true}
use Rattle.ob_tree.specs.declared.names.QName.{QName}
use Rattle.ob_types.specs.declared.types.TypeRef.{TypeRef}
use Rattle.ob_types.specs.declared.types.TypeRef.TheVariants as ref
use Rattle.ob_types.specs.declared.value.Value.TheVariants as literal
use Rattle.ob_types.specs.declared.typed.Passing.{Passing}
use Rattle.ob_types.specs.declared.typed.Passing.TheVariants as passing
use Rattle.ob_types.specs.declared.typed.Variable.{Variable}
use Rattle.ob_types.specs.declared.typed.Variable.TheVariants as variable
use Rattle.ob_types.specs.declared.typed.Callee.{Callee}
use Rattle.ob_types.specs.declared.typed.Callee.TheVariants as callee
use Rattle.ob_types.specs.declared.typed.Assigned.{Assigned}
use Rattle.ob_types.specs.declared.typed.Assigned.TheVariants as assigned
use Rattle.ob_types.specs.declared.typed.Made.{Made}
use Rattle.ob_types.specs.declared.typed.Made.TheVariants as made
use Rattle.ob_types.specs.TypedSyntax.{Desig, OfVariable, Field, Index, Deref, Guard, Expr, Constant, ValueOf, ProcedureValue, Monadic, Dyadic, Logical, CompareTexts, IsPointer, IsRecord, Length, Call, CallVariable, Actuals, NoActual, AnActual, Stmt, Assign, CallProper, Updated, Copy, New, NewOpenArray, Assert, Halt, If, Case, While, Repeat, For, Loop, Exit, Return, With, Stmts, Nothing, Then, Branches, NoBranch, Branch, Cases, NoCase, OneCase, Otherwise, NoElse, Else}
use Rattle.ob_format.specs.Names.{name}
use Rattle.ob_uses_roots.specs.Counts.{Count, Shapes, Layouts, both, counts_of_call, counts_of_held_call, counts_of_designator, counts_of_expr, counts_of_actuals, made_counts, counts_of, counts_of_all, counts_of_branches, counts_of_cases, counts_of_else}
use Rattle.ob_scheme.specs.Context.{Context, words}
use Rattle.law_local_judged.specs.Agreement.{IsIn}
use Rattle.law_local_judged.specs.Said.{CountsIn}
use Rattle.law_links_names.specs.Mentions.{Any}
use Rattle.law_links_names.specs.Trees.{VariableNamed, CalleeNamed, DesigNamed, ExprNamed, ActualsNamed, StmtNamed, StmtsNamed, BranchesNamed, CasesNamed, ElseNamed}
use Rattle.law_links_types.specs.Trees.{IsRecordType, CalleeRecorded, DesigRecorded, ExprRecorded, ActualsRecorded, AssignedRecorded, MadeRecorded, StmtRecorded, StmtsRecorded, BranchesRecorded, CasesRecorded, ElseRecorded}
use Rattle.law_spelling.specs.Coded.{VariableIsCoded, RecordIsCoded, TypeIsCoded, CalleeIsCoded, PassedIsCoded, DesigIsCoded, ExprIsCoded, ActualsAreCoded, AssignedIsCoded, MadeIsCoded, StmtIsCoded, StmtsAreCoded, BranchesAreCoded, CasesAreCoded, ElseIsCoded}
use Rattle.law_spelling_stmts.specs.Fits.{PassedFits, DesigFits, ExprFits, ActualsFit, StmtFits, StmtsFit, BranchesFit, CasesFit, ElseFits}

pub counts_front : (P : QName → Type 0) (xs ys : List Count) → CountsIn P (xs ++ ys) → CountsIn P xs
counts_front P [] ys h = tt
counts_front P (Shapes t ∷ xs) ys h = (h.0, counts_front P xs ys h.1)
counts_front P (Layouts t ∷ xs) ys h = counts_front P xs ys h

pub counts_rest : (P : QName → Type 0) (xs ys : List Count) → CountsIn P (xs ++ ys) → CountsIn P ys
counts_rest P [] ys h = h
counts_rest P (Shapes t ∷ xs) ys h = counts_rest P xs ys h.1
counts_rest P (Layouts t ∷ xs) ys h = counts_rest P xs ys h

-- what is said of variables, of procedures, of record types and of types makes their names names
pub record AreNames (c : Context) (Var Proc Held : QName → Type 0) : Type 0 where
  pub variable : (q : QName) → Var q → name.fits q.«module» × name.fits q.object
  pub procedure : (q : QName) → Proc q → name.fits q.«module» × name.fits q.object
  pub record_type : (q : QName) → IsRecordType c.types c.unit.name q → RecordIsCoded c q
  pub type : (t : TypeRef) → IsIn Held t → TypeIsCoded c t

module _ (c : Context) (Var Proc Held : QName → Type 0) (names : AreNames c Var Proc Held) where
  abbrev U : List ℕ
  U = c.unit.name

  abbrev W : TypeRef → ℕ
  W t = words c t

  front : (xs ys : List Count) → CountsIn Held (xs ++ ys) → CountsIn Held xs
  front xs ys h = counts_front Held xs ys h

  rest : (xs ys : List Count) → CountsIn Held (xs ++ ys) → CountsIn Held ys
  rest xs ys h = counts_rest Held xs ys h

  variable_coded : (v : Variable) → VariableNamed c.types U Var Proc Any v → VariableIsCoded c v
  variable_coded (variable.Module m x) h = λ e. names.variable (record { «module» = m; object = x }) (h e)
  variable_coded (variable.Local x) h = tt
  variable_coded (variable.Parameter how x) h = tt

  callee_coded : (f : Callee) → CalleeNamed c.types U Var Proc Any f → CalleeRecorded c.types U f → CalleeIsCoded c f
  callee_coded (callee.Declared q) h r = λ e. names.procedure q (h e)
  callee_coded (callee.Bound family receiver) h r = tt
  callee_coded (callee.Super base family receiver) h r = names.record_type base r.stands.type
  callee_coded (callee.Out p) h r = tt

  passed_coded : (how : Passing) (t : TypeRef) (e : Expr) → PassedFits W how t e → PassedIsCoded c how t e
  passed_coded passing.Structure t (Constant (literal.Str text)) h = h
  passed_coded passing.Structure t (Constant (literal.Bool b)) h = tt
  passed_coded passing.Structure t (Constant (literal.Char n)) h = tt
  passed_coded passing.Structure t (Constant (literal.Int z)) h = tt
  passed_coded passing.Structure t (Constant (literal.Set n)) h = tt
  passed_coded passing.Structure t (Constant literal.Nil) h = tt
  passed_coded passing.Structure t (ValueOf d) h = tt
  passed_coded passing.Structure t (ProcedureValue q signature) h = tt
  passed_coded passing.Structure t (Monadic o e at) h = tt
  passed_coded passing.Structure t (Dyadic o a b at) h = tt
  passed_coded passing.Structure t (Logical o a b) h = tt
  passed_coded passing.Structure t (CompareTexts r a b at) h = tt
  passed_coded passing.Structure t (IsPointer e target) h = tt
  passed_coded passing.Structure t (IsRecord d target) h = tt
  passed_coded passing.Structure t (Length d) h = tt
  passed_coded passing.Structure t (Call f es at u) h = tt
  passed_coded passing.Structure t (CallVariable d es at u) h = tt
  passed_coded passing.Scalar t e h = tt
  passed_coded passing.OpenArray t e h = tt
  passed_coded passing.Variable t e h = tt
  passed_coded passing.VariableRecord t e h = tt
  passed_coded passing.VariableOpenArray t e h = tt

  mutual
    desig_coded : (d : Desig) → CountsIn Held (counts_of_designator d) → DesigNamed c.types U Var Proc Any d → DesigRecorded c.types U d → DesigFits W d → DesigIsCoded c d
    desig_coded (OfVariable v t) h n r f = (variable_coded v n, names.type t h.0)
    desig_coded (Field d owner x t) h n r f = (desig_coded d (front (counts_of_designator d) (Shapes t ∷ []) h) n r f, names.type t (rest (counts_of_designator d) (Shapes t ∷ []) h).0)
    desig_coded (Index d k i at t) h n r f =
        let a = front (counts_of_designator d ++ counts_of_expr i) (both t) h in (
          desig_coded d (front (counts_of_designator d) (counts_of_expr i) a) n.0 r.0 f.0,
          (expr_coded i (rest (counts_of_designator d) (counts_of_expr i) a) n.1 r.1 f.1.0, (f.1.1.0, (names.type t (rest (counts_of_designator d ++ counts_of_expr i) (both t) h).0, f.1.1.1))),
        )
    desig_coded (Deref d at t) h n r f = (desig_coded d (front (counts_of_designator d) (Shapes t ∷ []) h) n r f.0, f.1)
    desig_coded (Guard d g target at t) h n r f =
        let cs = Shapes t ∷ Shapes (ref.Named target) ∷ [] in
        (desig_coded d (front (counts_of_designator d) cs h) n.0 r.0 f.0, (names.record_type target r.1, (f.1, names.type t (rest (counts_of_designator d) cs h).0)))

    expr_coded : (x : Expr) → CountsIn Held (counts_of_expr x) → ExprNamed c.types U Var Proc Any x → ExprRecorded c.types U x → ExprFits W x → ExprIsCoded c x
    expr_coded (Constant v) h n r f = f
    expr_coded (ValueOf d) h n r f = desig_coded d h n r f
    expr_coded (ProcedureValue q signature) h n r f = λ e. names.procedure q (n e)
    expr_coded (Monadic o e at) h n r f = (expr_coded e h n r f.0, f.1)
    expr_coded (Dyadic o a b at) h n r f = (expr_coded a (front (counts_of_expr a) (counts_of_expr b) h) n.0 r.0 f.0, (expr_coded b (rest (counts_of_expr a) (counts_of_expr b) h) n.1 r.1 f.1.0, f.1.1))
    expr_coded (Logical o a b) h n r f = (expr_coded a (front (counts_of_expr a) (counts_of_expr b) h) n.0 r.0 f.0, expr_coded b (rest (counts_of_expr a) (counts_of_expr b) h) n.1 r.1 f.1)
    expr_coded (CompareTexts o a b at) h n r f = (expr_coded a (front (counts_of_expr a) (counts_of_expr b) h) n.0 r.0 f.0, (expr_coded b (rest (counts_of_expr a) (counts_of_expr b) h) n.1 r.1 f.1.0, f.1.1))
    expr_coded (IsPointer x target) h n r f = (expr_coded x (front (counts_of_expr x) (Shapes (ref.Named target) ∷ []) h) n.0 r.0 f, names.record_type target r.1)
    expr_coded (IsRecord d target) h n r f = (desig_coded d (front (counts_of_designator d) (Shapes (ref.Named target) ∷ []) h) n.0 r.0 f, names.record_type target r.1)
    expr_coded (Length d) h n r f = desig_coded d h n r f
    expr_coded (Call g es at t) h n r f = (actuals_coded es (front (counts_of_actuals es) (counts_of_call g es t) h) n.1 r.1 f.0, (callee_coded g n.0 r.0, f.1))
    expr_coded (CallVariable d es at t) h n r f =
        let a = front (counts_of_designator d ++ counts_of_actuals es) (counts_of_held_call es t) h in
        (desig_coded d (front (counts_of_designator d) (counts_of_actuals es) a) n.0 r.0 f.0, (actuals_coded es (rest (counts_of_designator d) (counts_of_actuals es) a) n.1 r.1 f.1.0, f.1.1))

    actuals_coded : (es : Actuals) → CountsIn Held (counts_of_actuals es) → ActualsNamed c.types U Var Proc Any es → ActualsRecorded c.types U es → ActualsFit W es → ActualsAreCoded c es
    actuals_coded NoActual h n r f = tt
    actuals_coded (AnActual how t e es) h n r f = (expr_coded e (front (counts_of_expr e) (counts_of_actuals es) h) n.0 r.0 f.0, (passed_coded how t e f.1.0, actuals_coded es (rest (counts_of_expr e) (counts_of_actuals es) h) n.2 r.2 f.1.1))

  assigned_coded : (how : Assigned) (d : Desig) → AssignedRecorded c.types U how d → AssignedIsCoded c how
  assigned_coded assigned.Scalar d r = tt
  assigned_coded assigned.Text d r = tt
  assigned_coded assigned.Array d r = tt
  assigned_coded (assigned.Record q) d r = names.record_type q r.type

  made_coded : (what : Made) (d : Desig) → MadeRecorded c.types U what d → MadeIsCoded c what
  made_coded (made.Record q) d r = names.record_type q r.stands.type
  made_coded (made.Array t) d r = tt

  mutual
    stmt_coded : (l : Bool) (s : Stmt) → CountsIn Held (counts_of s) → StmtNamed c.types U Var Proc Any s → StmtRecorded c.types U s → StmtFits W l s → StmtIsCoded c l s
    stmt_coded l (Assign d how e at) h n r f =
        let a = front (counts_of_designator d ++ counts_of_expr e) _ h in
        (desig_coded d (front (counts_of_designator d) (counts_of_expr e) a) n.0 r.0 f.0, (expr_coded e (rest (counts_of_designator d) (counts_of_expr e) a) n.1 r.1 f.1.0, (assigned_coded how d r.2, f.1.1)))
    stmt_coded l (CallProper e) h n r f = expr_coded e h n r f
    stmt_coded l (Updated o d e at) h n r f = (desig_coded d (front (counts_of_designator d) (counts_of_expr e) h) n.0 r.0 f.0, (expr_coded e (rest (counts_of_designator d) (counts_of_expr e) h) n.1 r.1 f.1.0, f.1.1))
    stmt_coded l (Copy e d at) h n r f = (expr_coded e (front (counts_of_expr e) (counts_of_designator d) h) n.0 r.0 f.0, (desig_coded d (rest (counts_of_expr e) (counts_of_designator d) h) n.1 r.1 f.1.0, f.1.1))
    stmt_coded l (New d what at) h n r f = (desig_coded d (front (counts_of_designator d) (made_counts what) h) n.0 r.0 f.0, (made_coded what d r.1, f.1))
    stmt_coded l (NewOpenArray d t e at) h n r f =
        let a = front (counts_of_designator d ++ counts_of_expr e) (Layouts t ∷ []) h in
        (desig_coded d (front (counts_of_designator d) (counts_of_expr e) a) n.0 r.0 f.0, (expr_coded e (rest (counts_of_designator d) (counts_of_expr e) a) n.1 r.1 f.1.0, f.1.1))
    stmt_coded l (Assert e number at) h n r f = (expr_coded e h n r f.0, f.1)
    stmt_coded l (Halt number at) h n r f = f
    stmt_coded l (If branches otherwise) h n r f = (branches_coded l branches (front (counts_of_branches branches) (counts_of_all otherwise) h) n.0 r.0 f.0, stmts_coded l otherwise (rest (counts_of_branches branches) (counts_of_all otherwise) h) n.1 r.1 f.1)
    stmt_coded l (Case e cases otherwise at) h n r f =
        let a = front (counts_of_expr e ++ counts_of_cases cases) (counts_of_else otherwise) h in (
          expr_coded e (front (counts_of_expr e) (counts_of_cases cases) a) n.0 r.0 f.0,
          (cases_coded l cases (rest (counts_of_expr e) (counts_of_cases cases) a) n.1 r.1 f.1.0, (else_coded l otherwise (rest (counts_of_expr e ++ counts_of_cases cases) (counts_of_else otherwise) h) n.2 r.2 f.1.1.0, f.1.1.1)),
        )
    stmt_coded l (While e body at) h n r f = (expr_coded e (front (counts_of_expr e) (counts_of_all body) h) n.0 r.0 f.0, (stmts_coded l body (rest (counts_of_expr e) (counts_of_all body) h) n.1 r.1 f.1.0, f.1.1))
    stmt_coded l (Repeat body e at) h n r f = (stmts_coded l body (front (counts_of_all body) (counts_of_expr e) h) n.0 r.0 f.0, (expr_coded e (rest (counts_of_all body) (counts_of_expr e) h) n.1 r.1 f.1.0, f.1.1))
    stmt_coded l (For v w start stop step body at) h n r f =
        let a = front (counts_of_expr start ++ counts_of_expr stop) (counts_of_all body) h in (
          variable_coded v n.0,
          (
            expr_coded start (front (counts_of_expr start) (counts_of_expr stop) a) n.1 r.0 f.0,
            (expr_coded stop (rest (counts_of_expr start) (counts_of_expr stop) a) n.2 r.1 f.1.0, (f.1.1.0, (stmts_coded l body (rest (counts_of_expr start ++ counts_of_expr stop) (counts_of_all body) h) n.3 r.2 f.1.1.1.0, f.1.1.1.1))),
          ),
        )
    stmt_coded l (Loop body at) h n r f = (stmts_coded true body h n r f.0, f.1)
    stmt_coded l Exit h n r f = f
    stmt_coded l (Return None) h n r f = tt
    stmt_coded l (Return (Some e)) h n r f = expr_coded e h n r f
    stmt_coded l (With branches otherwise at) h n r f = (branches_coded l branches (front (counts_of_branches branches) (counts_of_else otherwise) h) n.0 r.0 f.0, (else_coded l otherwise (rest (counts_of_branches branches) (counts_of_else otherwise) h) n.1 r.1 f.1.0, f.1.1))

    pub stmts_coded : (l : Bool) (ss : Stmts) → CountsIn Held (counts_of_all ss) → StmtsNamed c.types U Var Proc Any ss → StmtsRecorded c.types U ss → StmtsFit W l ss → StmtsAreCoded c l ss
    stmts_coded l Nothing h n r f = tt
    stmts_coded l (Then s ss) h n r f = (stmt_coded l s (front (counts_of s) (counts_of_all ss) h) n.0 r.0 f.0, stmts_coded l ss (rest (counts_of s) (counts_of_all ss) h) n.1 r.1 f.1)

    branches_coded : (l : Bool) (bs : Branches) → CountsIn Held (counts_of_branches bs) → BranchesNamed c.types U Var Proc Any bs → BranchesRecorded c.types U bs → BranchesFit W l bs → BranchesAreCoded c l bs
    branches_coded l NoBranch h n r f = tt
    branches_coded l (Branch test body bs) h n r f =
        let a = front (counts_of_expr test ++ counts_of_all body) (counts_of_branches bs) h in
        (expr_coded test (front (counts_of_expr test) (counts_of_all body) a) n.0 r.0 f.0, (stmts_coded l body (rest (counts_of_expr test) (counts_of_all body) a) n.1 r.1 f.1.0, branches_coded l bs (rest (counts_of_expr test ++ counts_of_all body) (counts_of_branches bs) h) n.2 r.2 f.1.1))

    cases_coded : (l : Bool) (cs : Cases) → CountsIn Held (counts_of_cases cs) → CasesNamed c.types U Var Proc Any cs → CasesRecorded c.types U cs → CasesFit W l cs → CasesAreCoded c l cs
    cases_coded l NoCase h n r f = tt
    cases_coded l (OneCase labels body cs) h n r f = (f.0, (stmts_coded l body (front (counts_of_all body) (counts_of_cases cs) h) n.0 r.0 f.1.0, cases_coded l cs (rest (counts_of_all body) (counts_of_cases cs) h) n.1 r.1 f.1.1))

    else_coded : (l : Bool) (o : Otherwise) → CountsIn Held (counts_of_else o) → ElseNamed c.types U Var Proc Any o → ElseRecorded c.types U o → ElseFits W l o → ElseIsCoded c l o
    else_coded l NoElse h n r f = tt
    else_coded l (Else body) h n r f = stmts_coded l body h n r f
