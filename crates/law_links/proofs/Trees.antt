-- What the trees of a checked module name of other modules counts: variables and procedures as they are mentioned, record types as the
-- types of its variables lead to them.
use Rattle.std.proofs.Common.{◌≡◌, ℕ, false, List, [], ◌∷◌, ◌++◌, Option, Some, None, sym, subst}
use Rattle.std.specs.Prelude.{bytes_eq, codes}
use Rattle.std.specs.List.{AllByRecursion}
use Rattle.ob_tree.specs.declared.names.QName.{QName}
use Rattle.ob_types.specs.declared.types.TypeRef.{TypeRef}
use Rattle.ob_types.specs.declared.types.TypeRef.TheVariants as ref
use Rattle.ob_types.specs.declared.desc.Desc.{Desc}
use Rattle.ob_types.specs.declared.typed.Passing.{Passing}
use Rattle.ob_types.specs.declared.typed.Passing.TheVariants as passing
use Rattle.ob_types.specs.declared.typed.Variable.{Variable}
use Rattle.ob_types.specs.declared.typed.Variable.TheVariants as variable
use Rattle.ob_types.specs.declared.typed.Guarded.{Guarded}
use Rattle.ob_types.specs.declared.typed.Guarded.TheVariants as guarded
use Rattle.ob_types.specs.declared.typed.Callee.{Callee}
use Rattle.ob_types.specs.declared.typed.Callee.TheVariants as callee
use Rattle.ob_types.specs.declared.typed.Assigned.{Assigned}
use Rattle.ob_types.specs.declared.typed.Assigned.TheVariants as assigned
use Rattle.ob_types.specs.declared.typed.Made.{Made}
use Rattle.ob_types.specs.declared.typed.Made.TheVariants as made
use Rattle.ob_types.specs.declared.typed.TypedType.{TypedType}
use Rattle.ob_types.specs.Tests.{target}
use Rattle.ob_types.specs.TypedKinds.{variable_type}
use Rattle.ob_types.specs.TypedSyntax.{Desig, OfVariable, Field, Index, Deref, Guard, Expr, Constant, ValueOf, ProcedureValue, Monadic, Dyadic, Logical, CompareTexts, IsPointer, IsRecord, Length, Call, CallVariable, Actuals, NoActual, AnActual, Stmt, Assign, CallProper, Updated, Copy, New, NewOpenArray, Assert, Halt, If, Case, While, Repeat, For, Loop, Exit, Return, With, Stmts, Nothing, Then, Branches, NoBranch, Branch, Cases, NoCase, OneCase, Otherwise, NoElse, Else}
use Rattle.ob_env.specs.Faces.{described}
use Rattle.ob_uses_roots.specs.Counts.{Count, Shapes, Layouts, both, own_name, counts_of_designator, counts_of_expr, counts_of_actuals, counts_of_call, counts_of_held_call, counts_of_optional, target_counts, made_counts, counts_of, counts_of_all, counts_of_branches, counts_of_cases, counts_of_else}
use Rattle.ob_scheme.specs.Descriptions.{name_in}
use Rattle.ob_compile_model.specs.Compiling.{Compiled}
use Rattle.law_load_plan.specs.Compiled.{Text, is_variable, is_procedure, is_record}
use Rattle.law_links_names.specs.Mentions.{Any}
use Rattle.law_links_names.specs.Trees.{VariableNamed, NameNamed, TypeNamed, TagNamed, GuardNamed, CalleeNamed, PassedNamed, DesigNamed, ExprNamed, ActualsNamed, AssignedNamed, MadeNamed, ResultNamed, StmtNamed, StmtsNamed, BranchesNamed, CasesNamed, ElseNamed}
use Rattle.law_links_types.specs.Trees.{StandsForOne, GuardRecorded, CalleeRecorded, PassedRecorded, DesigRecorded, ExprRecorded, ActualsRecorded, AssignedRecorded, MadeRecorded, ResultRecorded, StmtRecorded, StmtsRecorded, BranchesRecorded, CasesRecorded, ElseRecorded}
use Rattle.law_links.specs.Linked.{types_of, IsCounted}
use Rattle.law_links.proofs.Near.{IsNear, On, stands_near, points_near, CountIn, AreIn, base_near, counted}
use Rattle.law_lists.proofs.Lists.{all_back, all_front}

module _ (c : Compiled Text) (V P : QName → Type 0) (variable_so : (q : QName) → V q → IsCounted is_variable c q) (procedure_so : (q : QName) → P q → IsCounted is_procedure c q) (own : AllByRecursion (λ (t : TypedType). IsNear c (own_name c.tree t)) c.tree.types) (out : (q : QName) (d : Desc) → described c.against q ≡ Some d → bytes_eq q.«module» (codes "Out") ≡ false) where
  abbrev types : QName → Option Desc
  types = types_of c

  abbrev unit : List ℕ
  unit = c.tree.name

  abbrev CV : QName → Type 0
  CV q = IsCounted is_variable c q

  abbrev CP : QName → Type 0
  CP q = IsCounted is_procedure c q

  abbrev CR : QName → Type 0
  CR q = IsCounted is_record c q

  front : (xs ys : List Count) → AreIn c (xs ++ ys) → AreIn c xs
  front xs ys h = all_front (CountIn c) xs ys h

  rest : (xs ys : List Count) → AreIn c (xs ++ ys) → AreIn c ys
  rest xs ys h = all_back (CountIn c) xs ys h

  -- ---- types

  type_named : (t : TypeRef) → On c t → StandsForOne types unit t → TypeNamed types unit CV CP CR t
  type_named t h s = subst (λ w. NameNamed types unit CV CP CR (name_in w)) (sym s.stands.same) (λ e. counted c out s.name s.stands.type e (stands_near c t s.name h s.stands))

  type_on : (d : Desig) → AreIn c (counts_of_designator d) → On c (variable_type d)
  type_on (OfVariable v t) h = h.0
  type_on (Field d owner name t) h = (rest (counts_of_designator d) (Shapes t ∷ []) h).0
  type_on (Index d n e at t) h = (rest (counts_of_designator d ++ counts_of_expr e) (both t) h).0
  type_on (Deref d at t) h = (rest (counts_of_designator d) (Shapes t ∷ []) h).0
  type_on (Guard d g target at t) h = (rest (counts_of_designator d) (Shapes t ∷ Shapes (ref.Named target) ∷ []) h).0

  tag_named : (d : Desig) → AreIn c (counts_of_designator d) → StandsForOne types unit (variable_type d) → TagNamed types unit CV CP CR d
  tag_named d h s = λ e. type_named (variable_type d) (type_on d h) s

  variable_named : (v : Variable) → VariableNamed types unit V P Any v → VariableNamed types unit CV CP CR v
  variable_named (variable.Module m x) h = λ e. variable_so (record { «module» = m; object = x }) (h e)
  variable_named (variable.Local x) h = tt
  variable_named (variable.Parameter how x) h = tt

  guard_named : (g : Guarded) (d : Desig) → AreIn c (counts_of_designator d) → GuardRecorded types unit g d → GuardNamed types unit CV CP CR g d
  guard_named guarded.Pointer d h s = tt
  guard_named guarded.Record d h s = tag_named d h s

  callee_named : (f : Callee) → CalleeNamed types unit V P Any f → CalleeRecorded types unit f → CalleeNamed types unit CV CP CR f
  callee_named (callee.Declared q) h s = λ e. procedure_so q (h e)
  callee_named (callee.Bound family receiver) h s = tt
  callee_named (callee.Super base family receiver) h s = λ e. counted c out base s.stands.type e (base_near c own base s)
  callee_named (callee.Out p) h s = tt

  passed_named : (how : Passing) (e : Expr) → AreIn c (counts_of_expr e) → PassedRecorded types unit how e → PassedNamed types unit CV CP CR how e
  passed_named passing.VariableRecord (ValueOf d) h s = tag_named d h s
  passed_named passing.VariableRecord (Constant v) h s = tt
  passed_named passing.VariableRecord (ProcedureValue q g) h s = tt
  passed_named passing.VariableRecord (Monadic o e at) h s = tt
  passed_named passing.VariableRecord (Dyadic o a b at) h s = tt
  passed_named passing.VariableRecord (Logical o a b) h s = tt
  passed_named passing.VariableRecord (CompareTexts r a b at) h s = tt
  passed_named passing.VariableRecord (IsPointer e target) h s = tt
  passed_named passing.VariableRecord (IsRecord d target) h s = tt
  passed_named passing.VariableRecord (Length d) h s = tt
  passed_named passing.VariableRecord (Call f es at t) h s = tt
  passed_named passing.VariableRecord (CallVariable d es at t) h s = tt
  passed_named passing.Scalar e h s = tt
  passed_named passing.Structure e h s = tt
  passed_named passing.OpenArray e h s = tt
  passed_named passing.Variable e h s = tt
  passed_named passing.VariableOpenArray e h s = tt

  -- ---- expressions

  mutual
    desig_named : (d : Desig) → AreIn c (counts_of_designator d) → DesigNamed types unit V P Any d → DesigRecorded types unit d → DesigNamed types unit CV CP CR d
    desig_named (OfVariable v t) h n r = variable_named v n
    desig_named (Field d owner name t) h n r = desig_named d (front (counts_of_designator d) (Shapes t ∷ []) h) n r
    desig_named (Index d k e at t) h n r =
        let i = front (counts_of_designator d ++ counts_of_expr e) (both t) h in
        (desig_named d (front (counts_of_designator d) (counts_of_expr e) i) n.0 r.0, expr_named e (rest (counts_of_designator d) (counts_of_expr e) i) n.1 r.1)
    desig_named (Deref d at t) h n r = desig_named d (front (counts_of_designator d) (Shapes t ∷ []) h) n r
    desig_named (Guard d g target at t) h n r =
        let cs = Shapes t ∷ Shapes (ref.Named target) ∷ [] in
        let i = front (counts_of_designator d) cs h in
        (desig_named d i n.0 r.0, (λ e. counted c out target r.1 e (rest (counts_of_designator d) cs h).1.0), guard_named g d i r.2)

    expr_named : (x : Expr) → AreIn c (counts_of_expr x) → ExprNamed types unit V P Any x → ExprRecorded types unit x → ExprNamed types unit CV CP CR x
    expr_named (Constant v) h n r = tt
    expr_named (ValueOf d) h n r = desig_named d h n r
    expr_named (ProcedureValue q signature) h n r = λ e. procedure_so q (n e)
    expr_named (Monadic o e at) h n r = expr_named e h n r
    expr_named (Dyadic o a b at) h n r = (expr_named a (front (counts_of_expr a) (counts_of_expr b) h) n.0 r.0, expr_named b (rest (counts_of_expr a) (counts_of_expr b) h) n.1 r.1)
    expr_named (Logical o a b) h n r = (expr_named a (front (counts_of_expr a) (counts_of_expr b) h) n.0 r.0, expr_named b (rest (counts_of_expr a) (counts_of_expr b) h) n.1 r.1)
    expr_named (CompareTexts o a b at) h n r = (expr_named a (front (counts_of_expr a) (counts_of_expr b) h) n.0 r.0, expr_named b (rest (counts_of_expr a) (counts_of_expr b) h) n.1 r.1)
    expr_named (IsPointer x target) h n r =
        let cs = Shapes (ref.Named target) ∷ [] in
        (expr_named x (front (counts_of_expr x) cs h) n.0 r.0, λ e. counted c out target r.1 e (rest (counts_of_expr x) cs h).0)
    expr_named (IsRecord d target) h n r =
        let cs = Shapes (ref.Named target) ∷ [] in
        (desig_named d (front (counts_of_designator d) cs h) n.0 r.0, λ e. counted c out target r.1 e (rest (counts_of_designator d) cs h).0)
    expr_named (Length d) h n r = desig_named d h n r
    expr_named (Call f es at t) h n r = (callee_named f n.0 r.0, actuals_named es (front (counts_of_actuals es) (counts_of_call f es t) h) n.1 r.1)
    expr_named (CallVariable d es at t) h n r =
        let i = front (counts_of_designator d ++ counts_of_actuals es) (counts_of_held_call es t) h in
        (desig_named d (front (counts_of_designator d) (counts_of_actuals es) i) n.0 r.0, actuals_named es (rest (counts_of_designator d) (counts_of_actuals es) i) n.1 r.1)

    actuals_named : (es : Actuals) → AreIn c (counts_of_actuals es) → ActualsNamed types unit V P Any es → ActualsRecorded types unit es → ActualsNamed types unit CV CP CR es
    actuals_named NoActual h n r = tt
    actuals_named (AnActual how t e more) h n r =
        let i = front (counts_of_expr e) (counts_of_actuals more) h in
        (expr_named e i n.0 r.0, passed_named how e i r.1, actuals_named more (rest (counts_of_expr e) (counts_of_actuals more) h) n.2 r.2)

  -- ---- statements

  assigned_named : (how : Assigned) (d : Desig) → AreIn c (counts_of_designator d) → AssignedRecorded types unit how d → AssignedNamed types unit CV CP CR how d
  assigned_named assigned.Scalar d h s = tt
  assigned_named assigned.Text d h s = tt
  assigned_named assigned.Array d h s = tt
  assigned_named (assigned.Record q) d h s = λ tag e. counted c out q s.type e (stands_near c (variable_type d) q (type_on d h) s)

  made_named : (what : Made) (d : Desig) → AreIn c (counts_of_designator d) → MadeRecorded types unit what d → MadeNamed types unit CV CP CR what
  made_named (made.Record q) d h s = λ e. counted c out q s.stands.type e (points_near c (variable_type d) q (type_on d h) s)
  made_named (made.Array t) d h s = tt

  result_named : (o : Option Expr) → AreIn c (counts_of_optional o) → ResultNamed types unit V P Any o → ResultRecorded types unit o → ResultNamed types unit CV CP CR o
  result_named None h n r = tt
  result_named (Some e) h n r = expr_named e h n r

  mutual
    stmt_named : (s : Stmt) → AreIn c (counts_of s) → StmtNamed types unit V P Any s → StmtRecorded types unit s → StmtNamed types unit CV CP CR s
    stmt_named (Assign d how e at) h n r =
        let i = front (counts_of_designator d ++ counts_of_expr e) (target_counts how (variable_type d)) h in
        let j = front (counts_of_designator d) (counts_of_expr e) i in
        (desig_named d j n.0 r.0, expr_named e (rest (counts_of_designator d) (counts_of_expr e) i) n.1 r.1, assigned_named how d j r.2)
    stmt_named (CallProper e) h n r = expr_named e h n r
    stmt_named (Updated o d e at) h n r = (desig_named d (front (counts_of_designator d) (counts_of_expr e) h) n.0 r.0, expr_named e (rest (counts_of_designator d) (counts_of_expr e) h) n.1 r.1)
    stmt_named (Copy e d at) h n r = (expr_named e (front (counts_of_expr e) (counts_of_designator d) h) n.0 r.0, desig_named d (rest (counts_of_expr e) (counts_of_designator d) h) n.1 r.1)
    stmt_named (New d what at) h n r = let i = front (counts_of_designator d) (made_counts what) h in (desig_named d i n.0 r.0, made_named what d i r.1)
    stmt_named (NewOpenArray d t k at) h n r =
        let i = front (counts_of_designator d ++ counts_of_expr k) (Layouts t ∷ []) h in
        (desig_named d (front (counts_of_designator d) (counts_of_expr k) i) n.0 r.0, expr_named k (rest (counts_of_designator d) (counts_of_expr k) i) n.1 r.1)
    stmt_named (Assert e number at) h n r = expr_named e h n r
    stmt_named (Halt number at) h n r = tt
    stmt_named (If branches otherwise) h n r = (branches_named branches (front (counts_of_branches branches) (counts_of_all otherwise) h) n.0 r.0, stmts_named otherwise (rest (counts_of_branches branches) (counts_of_all otherwise) h) n.1 r.1)
    stmt_named (Case e cases otherwise at) h n r =
        let i = front (counts_of_expr e ++ counts_of_cases cases) (counts_of_else otherwise) h in
        (expr_named e (front (counts_of_expr e) (counts_of_cases cases) i) n.0 r.0, cases_named cases (rest (counts_of_expr e) (counts_of_cases cases) i) n.1 r.1, else_named otherwise (rest (counts_of_expr e ++ counts_of_cases cases) (counts_of_else otherwise) h) n.2 r.2)
    stmt_named (While e body at) h n r = (expr_named e (front (counts_of_expr e) (counts_of_all body) h) n.0 r.0, stmts_named body (rest (counts_of_expr e) (counts_of_all body) h) n.1 r.1)
    stmt_named (Repeat body e at) h n r = (stmts_named body (front (counts_of_all body) (counts_of_expr e) h) n.0 r.0, expr_named e (rest (counts_of_all body) (counts_of_expr e) h) n.1 r.1)
    stmt_named (For v w start stop step body at) h n r =
        let i = front (counts_of_expr start ++ counts_of_expr stop) (counts_of_all body) h in
        (variable_named v n.0, expr_named start (front (counts_of_expr start) (counts_of_expr stop) i) n.1 r.0, expr_named stop (rest (counts_of_expr start) (counts_of_expr stop) i) n.2 r.1, stmts_named body (rest (counts_of_expr start ++ counts_of_expr stop) (counts_of_all body) h) n.3 r.2)
    stmt_named (Loop body at) h n r = stmts_named body h n r
    stmt_named Exit h n r = tt
    stmt_named (Return e) h n r = result_named e h n r
    stmt_named (With branches otherwise at) h n r = (branches_named branches (front (counts_of_branches branches) (counts_of_else otherwise) h) n.0 r.0, else_named otherwise (rest (counts_of_branches branches) (counts_of_else otherwise) h) n.1 r.1)

    pub stmts_named : (ss : Stmts) → AreIn c (counts_of_all ss) → StmtsNamed types unit V P Any ss → StmtsRecorded types unit ss → StmtsNamed types unit CV CP CR ss
    stmts_named Nothing h n r = tt
    stmts_named (Then s more) h n r = (stmt_named s (front (counts_of s) (counts_of_all more) h) n.0 r.0, stmts_named more (rest (counts_of s) (counts_of_all more) h) n.1 r.1)

    branches_named : (bs : Branches) → AreIn c (counts_of_branches bs) → BranchesNamed types unit V P Any bs → BranchesRecorded types unit bs → BranchesNamed types unit CV CP CR bs
    branches_named NoBranch h n r = tt
    branches_named (Branch test body more) h n r =
        let i = front (counts_of_expr test ++ counts_of_all body) (counts_of_branches more) h in
        (expr_named test (front (counts_of_expr test) (counts_of_all body) i) n.0 r.0, stmts_named body (rest (counts_of_expr test) (counts_of_all body) i) n.1 r.1, branches_named more (rest (counts_of_expr test ++ counts_of_all body) (counts_of_branches more) h) n.2 r.2)

    cases_named : (cs : Cases) → AreIn c (counts_of_cases cs) → CasesNamed types unit V P Any cs → CasesRecorded types unit cs → CasesNamed types unit CV CP CR cs
    cases_named NoCase h n r = tt
    cases_named (OneCase labels body more) h n r = (stmts_named body (front (counts_of_all body) (counts_of_cases more) h) n.0 r.0, cases_named more (rest (counts_of_all body) (counts_of_cases more) h) n.1 r.1)

    else_named : (o : Otherwise) → AreIn c (counts_of_else o) → ElseNamed types unit V P Any o → ElseRecorded types unit o → ElseNamed types unit CV CP CR o
    else_named NoElse h n r = tt
    else_named (Else body) h n r = stmts_named body h n r
