-- Maps that agree on what a module reads say the same of it.
use Rattle.std.proofs.Common.{List, [], ◌∷◌, Option, Some, None}
use Rattle.std.specs.List.{AllByRecursion}
use Rattle.ob_tree.specs.declared.names.QName.{QName}
use Rattle.ob_types.specs.declared.types.TypeRef.{TypeRef}
use Rattle.ob_types.specs.declared.types.TypeRef.TheVariants as ref
use Rattle.ob_types.specs.declared.value.Value.TheVariants as literal
use Rattle.ob_types.specs.declared.desc.Desc.{Desc}
use Rattle.ob_types.specs.declared.desc.Desc.TheVariants as desc
use Rattle.ob_types.specs.declared.typed.Passing.{Passing}
use Rattle.ob_types.specs.declared.typed.Passing.TheVariants as passing
use Rattle.ob_types.specs.declared.typed.Callee.{Callee}
use Rattle.ob_types.specs.declared.typed.Callee.TheVariants as callee
use Rattle.ob_types.specs.declared.typed.Assigned.{Assigned}
use Rattle.ob_types.specs.declared.typed.Assigned.TheVariants as assigned
use Rattle.ob_types.specs.declared.typed.Made.{Made}
use Rattle.ob_types.specs.declared.typed.Made.TheVariants as made
use Rattle.ob_types.specs.declared.typed.Binding.{Binding}
use Rattle.ob_types.specs.declared.typed.TypedType.{TypedType}
use Rattle.ob_types.specs.declared.typed.TypedVariable.{TypedVariable}
use Rattle.ob_types.specs.declared.typed.TypedParameter.{TypedParameter}
use Rattle.ob_types.specs.Maps.{listed}
use Rattle.ob_types.specs.TypedKinds.{variable_type}
use Rattle.ob_types.specs.TypedSyntax.{Desig, OfVariable, Field, Index, Deref, Guard, Expr, Constant, ValueOf, ProcedureValue, Monadic, Dyadic, Logical, CompareTexts, IsPointer, IsRecord, Length, Call, CallVariable, Actuals, NoActual, AnActual, Stmt, Assign, CallProper, Updated, Copy, New, NewOpenArray, Assert, Halt, If, Case, While, Repeat, For, Loop, Exit, Return, With, Stmts, Nothing, Then, Branches, NoBranch, Branch, Cases, NoCase, OneCase, Otherwise, NoElse, Else, Procedure, Module}
use Rattle.ob_uses_roots.specs.Counts.{own_name}
use Rattle.ob_env.specs.Faces.{described}
use Rattle.law_local_files.specs.Agreeing.{Map, On, IsNear}
use Rattle.law_local_files.specs.Laws.{over, view, IsLaid}
use Rattle.law_local_files.specs.Read.{CalleeRead, RoomRead, DesigRead, ExprRead, ActualsRead, ResultRead, AssignedRead, MadeRead, StmtRead, StmtsRead, BranchesRead, CasesRead, ElseRead, PassedRead, ParameterRead, BindingRead, ProcedureRead, TypeRead, ModuleRead}
use Rattle.law_local_files.proofs.Laid.{laid_read}
use Rattle.law_image_links.specs.Same.{PassedSame, ParameterSame, CalleeSame, DesigSame, ExprSame, ActualsSame, ResultSame, AssignedSame, MadeSame, StmtSame, StmtsSame, BranchesSame, CasesSame, ElseSame, BindingSame, ProcedureSame, BaseSame, DescSame, ModuleSame, IsSameSize}
use Rattle.law_builds_seen.specs.Seen.{CalleeSeen, DesigSeen, ExprSeen, ActualsSeen, ResultSeen, StmtSeen, StmtsSeen, BranchesSeen, CasesSeen, ElseSeen, BindingSeen, ProcedureSeen, ModuleSeen}
use Rattle.law_builds_joint.specs.Agreement.{AgreeAs, ReadAreSame}

module _ (a b : Map) (Shapes Layouts : QName → Type 0) (agree : AgreeAs a b Shapes Layouts) where
  passed : (how : Passing) (e : Expr) (t : TypeRef) → RoomRead Shapes Layouts how e t → PassedSame a b how e t
  passed passing.Structure (Constant (literal.Str text)) t h = agree.layouts t h
  passed passing.Structure e t h = tt
  passed how e t h = tt

  called : (k : Callee) → CalleeRead Shapes Layouts k → CalleeSeen a k → CalleeSame a b k
  called (callee.Declared q) h s = tt
  called (callee.Bound f k) h s = agree.families f h s
  called (callee.Super base f k) h s = agree.families f h s
  called (callee.Out o) h s = tt

  mutual
    desig : (d : Desig) → DesigRead Shapes Layouts d → DesigSeen a d → DesigSame a b d
    desig (OfVariable v t) h s = agree.shapes t h
    desig (Field d o x t) h s = (desig d h.0 s.0, (agree.fields o x h.1 s.1, agree.shapes t h.2))
    desig (Index d n i at t) h s = (desig d h.0 s.0, (expr i h.1 s.1, agree.shapes t h.2, agree.layouts t h.3))
    desig (Deref d at t) h s = (desig d h.0 s, agree.shapes t h.1)
    desig (Guard d g q at t) h s = (desig d h.0 s, agree.shapes t h.1)

    expr : (e : Expr) → ExprRead Shapes Layouts e → ExprSeen a e → ExprSame a b e
    expr (Constant v) h s = tt
    expr (ValueOf d) h s = desig d h s
    expr (ProcedureValue q signature) h s = tt
    expr (Monadic o e at) h s = expr e h s
    expr (Dyadic o x y at) h s = (expr x h.0 s.0, expr y h.1 s.1)
    expr (Logical o x y) h s = (expr x h.0 s.0, expr y h.1 s.1)
    expr (CompareTexts r x y at) h s = (expr x h.0 s.0, expr y h.1 s.1)
    expr (IsPointer e q) h s = expr e h s
    expr (IsRecord d q) h s = desig d h s
    expr (Length d) h s = desig d h s
    expr (Call k es at t) h s = (actuals es h.0 s.0, called k h.1 s.1)
    expr (CallVariable d es at t) h s = (desig d h.0 s.0, actuals es h.1 s.1)

    actuals : (es : Actuals) → ActualsRead Shapes Layouts es → ActualsSeen a es → ActualsSame a b es
    actuals NoActual h s = tt
    actuals (AnActual how t e rest) h s = (passed how e t h.1, (expr e h.0 s.0, actuals rest h.2 s.1))

  result : (o : Option Expr) → ResultRead Shapes Layouts o → ResultSeen a o → ResultSame a b o
  result None h s = tt
  result (Some e) h s = expr e h s

  assigned_to : (how : Assigned) (d : Desig) → AssignedRead Shapes Layouts how d → AssignedSame a b how d
  assigned_to assigned.Scalar d h = tt
  assigned_to assigned.Text d h = tt
  assigned_to assigned.Array d h = agree.layouts (variable_type d) h
  assigned_to (assigned.Record q) d h = agree.layouts (ref.Named q) h

  made_of : (what : Made) → MadeRead Shapes Layouts what → MadeSame a b what
  made_of (made.Record q) h = tt
  made_of (made.Array t) h = agree.layouts t h

  mutual
    stmt : (s : Stmt) → StmtRead Shapes Layouts s → StmtSeen a s → StmtSame a b s
    stmt (Assign d how e at) h s = (desig d h.0 s.0, (expr e h.1 s.1, assigned_to how d h.2))
    stmt (CallProper e) h s = expr e h s
    stmt (Updated o d e at) h s = (desig d h.0 s.0, expr e h.1 s.1)
    stmt (Copy e d at) h s = (expr e h.0 s.0, desig d h.1 s.1)
    stmt (New d what at) h s = (desig d h.0 s, made_of what h.1)
    stmt (NewOpenArray d t n at) h s = (desig d h.0 s.0, (expr n h.1 s.1, agree.layouts t h.2))
    stmt (Assert e number at) h s = expr e h s
    stmt (Halt number at) h s = tt
    stmt (If bs otherwise) h s = (branches bs h.0 s.0, stmts otherwise h.1 s.1)
    stmt (Case e cs otherwise at) h s = (expr e h.0 s.0, (cases cs h.1 s.1, else_of otherwise h.2 s.2))
    stmt (While e body at) h s = (expr e h.0 s.0, stmts body h.1 s.1)
    stmt (Repeat body e at) h s = (stmts body h.0 s.0, expr e h.1 s.1)
    stmt (For v w start stop step body at) h s = (expr start h.0 s.0, (expr stop h.1 s.1, stmts body h.2 s.2))
    stmt (Loop body at) h s = stmts body h s
    stmt Exit h s = tt
    stmt (Return e) h s = result e h s
    stmt (With bs otherwise at) h s = (branches bs h.0 s.0, else_of otherwise h.1 s.1)

    stmts : (ss : Stmts) → StmtsRead Shapes Layouts ss → StmtsSeen a ss → StmtsSame a b ss
    stmts Nothing h s = tt
    stmts (Then x rest) h s = (stmt x h.0 s.0, stmts rest h.1 s.1)

    branches : (bs : Branches) → BranchesRead Shapes Layouts bs → BranchesSeen a bs → BranchesSame a b bs
    branches NoBranch h s = tt
    branches (Branch test body rest) h s = (expr test h.0 s.0, (stmts body h.1 s.1, branches rest h.2 s.2))

    cases : (cs : Cases) → CasesRead Shapes Layouts cs → CasesSeen a cs → CasesSame a b cs
    cases NoCase h s = tt
    cases (OneCase labels body rest) h s = (stmts body h.0 s.0, cases rest h.1 s.1)

    else_of : (o : Otherwise) → ElseRead Shapes Layouts o → ElseSeen a o → ElseSame a b o
    else_of NoElse h s = tt
    else_of (Else body) h s = stmts body h s

  -- ---- declarations

  parameter : (how : Passing) (t : TypeRef) → PassedRead Shapes Layouts how t → ParameterSame a b how t
  parameter passing.Scalar t h = tt
  parameter passing.Structure t h = agree.layouts t h
  parameter passing.OpenArray t h = agree.opens t h
  parameter passing.Variable t h = tt
  parameter passing.VariableRecord t h = tt
  parameter passing.VariableOpenArray t h = tt

  parameters : (xs : List TypedParameter) → AllByRecursion (ParameterRead Shapes Layouts) xs → AllByRecursion (λ x. ParameterSame a b x.passing x.of) xs
  parameters [] h = tt
  parameters (x ∷ xs) h = (parameter x.passing x.of h.0, parameters xs h.1)

  variables : (vs : List TypedVariable) → AllByRecursion (λ v. On Layouts v.of) vs → AllByRecursion (λ v. IsSameSize a b v.of) vs
  variables [] h = tt
  variables (v ∷ vs) h = (agree.layouts v.of h.0, variables vs h.1)

  binding : (o : Option Binding) → BindingRead Shapes Layouts o → BindingSeen a o → BindingSame a b o
  binding None h s = tt
  binding (Some k) h s = agree.families k.family h s

  procedures : (ps : List Procedure) → AllByRecursion (ProcedureRead Shapes Layouts) ps → AllByRecursion (ProcedureSeen a) ps → AllByRecursion (ProcedureSame a b) ps
  procedures [] h s = tt
  procedures (p ∷ ps) h s = (
    record {
      binding = binding p.binding h.0.binding s.0.binding;
      parameters = parameters p.parameters h.0.parameters;
      locals = variables p.locals h.0.locals;
      body = stmts p.body h.0.body s.0.body;
    },
    procedures ps h.1 s.1,
  )

  base : (o : Option TypeRef) → AllByRecursion (On Shapes) (listed o) → BaseSame a b o
  base None h = tt
  base (Some t) h = (agree.shapes t h.0).name

  described_so : (q : QName) (d : Desc) → TypeRead Shapes Layouts q d → DescSame a b d
  described_so q (desc.Record r) h = base r.base h.1
  described_so q (desc.Const v) h = tt
  described_so q (desc.Var m t) h = tt
  described_so q (desc.Proc s) h = tt
  described_so q (desc.Alias m t) h = tt
  described_so q (desc.Array m n t) h = tt
  described_so q (desc.OpenArray m t) h = tt
  described_so q (desc.Pointer m t) h = tt
  described_so q (desc.ProcType m s) h = tt

  types : (m : Module) (ts : List TypedType) → AllByRecursion (λ t. TypeRead Shapes Layouts (own_name m t) t.desc) ts → AllByRecursion (λ t. DescSame a b t.desc) ts
  types m [] h = tt
  types m (t ∷ ts) h = (described_so (own_name m t) t.desc h.0, types m ts h.1)

  same : (m : Module) → ModuleRead Shapes Layouts m → ModuleSeen a m → ModuleSame a b m
  same m h s = record {
    types = types m m.types h.types;
    variables = variables m.variables h.variables;
    procedures = procedures m.procedures h.procedures s.procedures;
    body = stmts m.body h.body s.body;
  }

pub read_are_same : ReadAreSame
read_are_same faces m tied other agree seen =
    let S : QName → Type 0 = IsNear (view faces m) (over faces m) in
    let L : QName → Type 0 = IsLaid (view faces m) (over faces m) in
    same (view faces m) other S L agree (over faces m) (laid_read (described faces) m S L tied.read) seen
