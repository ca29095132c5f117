-- The checked tree, as trees that meaning and code are read from. Operators, names, types and other leaves are those of the
-- checked tree itself.
use Rattle.std.specs.Prelude.{ℕ, ℤ, List, Option}
use Rattle.ob_tree.specs.declared.pos.Pos.{Pos}
use Rattle.ob_tree.specs.declared.names.QName.{QName}
use Rattle.ob_tree.specs.declared.ident.Mark.{Mark}
use Rattle.ob_types.specs.declared.types.TypeRef.{TypeRef}
use Rattle.ob_types.specs.declared.types.Signature.{Signature}
use Rattle.ob_types.specs.declared.value.Value.{Value}
use Rattle.ob_types.specs.declared.typed.Width.{Width}
use Rattle.ob_types.specs.declared.typed.Passing.{Passing}
use Rattle.ob_types.specs.declared.typed.Variable.{Variable}
use Rattle.ob_types.specs.declared.typed.Guarded.{Guarded}
use Rattle.ob_types.specs.declared.typed.Comparison.{Comparison}
use Rattle.ob_types.specs.declared.typed.Unary.{Unary}
use Rattle.ob_types.specs.declared.typed.Binary.{Binary}
use Rattle.ob_types.specs.declared.typed.Connective.{Connective}
use Rattle.ob_types.specs.declared.typed.Callee.{Callee}
use Rattle.ob_types.specs.declared.typed.Assigned.{Assigned}
use Rattle.ob_types.specs.declared.typed.Update.{Update}
use Rattle.ob_types.specs.declared.typed.Made.{Made}
use Rattle.ob_types.specs.declared.typed.Label.{Label}
use Rattle.ob_types.specs.declared.typed.TypedConstant.{TypedConstant}
use Rattle.ob_types.specs.declared.typed.TypedType.{TypedType}
use Rattle.ob_types.specs.declared.typed.TypedVariable.{TypedVariable}
use Rattle.ob_types.specs.declared.typed.TypedParameter.{TypedParameter}
use Rattle.ob_types.specs.declared.typed.Binding.{Binding}

-- designators, expressions and actual parameters
mutual
  pub data Desig : Type 0 where
    OfVariable : (v : Variable) → (of : TypeRef) → Desig
    Field : (d : Desig) → (owner : QName) → (name : List ℕ) → (of : TypeRef) → Desig
    Index : (d : Desig) → (length : Option ℕ) → (index : Expr) → (at : Pos) → (of : TypeRef) → Desig
    Deref : (d : Desig) → (at : Pos) → (of : TypeRef) → Desig
    Guard : (d : Desig) → (guarded : Guarded) → (target : QName) → (at : Pos) → (of : TypeRef) → Desig

  pub data Expr : Type 0 where
    Constant : (v : Value) → Expr
    ValueOf : (d : Desig) → Expr
    ProcedureValue : (name : QName) → (signature : Signature) → Expr
    Monadic : (op : Unary) → (e : Expr) → (at : Pos) → Expr
    Dyadic : (op : Binary) → (a b : Expr) → (at : Pos) → Expr
    Logical : (op : Connective) → (a b : Expr) → Expr
    CompareTexts : (relation : Comparison) → (a b : Expr) → (at : Pos) → Expr
    IsPointer : (e : Expr) → (target : QName) → Expr
    IsRecord : (d : Desig) → (target : QName) → Expr
    Length : (d : Desig) → Expr
    Call : (callee : Callee) → (es : Actuals) → (at : Pos) → (result : Option TypeRef) → Expr
    CallVariable : (d : Desig) → (es : Actuals) → (at : Pos) → (result : Option TypeRef) → Expr

  pub data Actuals : Type 0 where
    NoActual : Actuals
    AnActual : (passing : Passing) → (formal : TypeRef) → (e : Expr) → (rest : Actuals) → Actuals

-- statements, the branches of IF and WITH, the cases of CASE, and what stands behind ELSE
mutual
  pub data Stmt : Type 0 where
    Assign : (d : Desig) → (assigned : Assigned) → (e : Expr) → (at : Pos) → Stmt
    CallProper : (e : Expr) → Stmt
    Updated : (op : Update) → (d : Desig) → (e : Expr) → (at : Pos) → Stmt
    Copy : (e : Expr) → (d : Desig) → (at : Pos) → Stmt
    New : (d : Desig) → (made : Made) → (at : Pos) → Stmt
    NewOpenArray : (d : Desig) → (element : TypeRef) → (length : Expr) → (at : Pos) → Stmt
    Assert : (e : Expr) → (number : ℤ) → (at : Pos) → Stmt
    Halt : (number : ℤ) → (at : Pos) → Stmt
    If : (branches : Branches) → (otherwise : Stmts) → Stmt
    Case : (e : Expr) → (cases : Cases) → (otherwise : Otherwise) → (at : Pos) → Stmt
    While : (e : Expr) → (body : Stmts) → (at : Pos) → Stmt
    Repeat : (body : Stmts) → (e : Expr) → (at : Pos) → Stmt
    For : (v : Variable) → (width : Width) → (start stop : Expr) → (step : ℤ) → (body : Stmts) → (at : Pos) → Stmt
    Loop : (body : Stmts) → (at : Pos) → Stmt
    Exit : Stmt
    Return : (e : Option Expr) → Stmt
    With : (branches : Branches) → (otherwise : Otherwise) → (at : Pos) → Stmt

  pub data Stmts : Type 0 where
    Nothing : Stmts
    Then : (s : Stmt) → (rest : Stmts) → Stmts

  pub data Branches : Type 0 where
    NoBranch : Branches
    Branch : (test : Expr) → (body : Stmts) → (rest : Branches) → Branches

  pub data Cases : Type 0 where
    NoCase : Cases
    OneCase : (labels : List Label) → (body : Stmts) → (rest : Cases) → Cases

  pub data Otherwise : Type 0 where
    NoElse : Otherwise
    Else : (body : Stmts) → Otherwise

pub record Procedure : Type 0 where
  pub name : List ℕ
  pub mark : Mark
  pub at : Pos
  pub binding : Option Binding
  pub parameters : List TypedParameter
  pub result : Option TypeRef
  pub locals : List TypedVariable
  pub body : Stmts

-- what the text names and the tree has nothing of
pub record Mentions : Type 0 where
  pub objects : List QName
  pub types : List TypeRef
  pub lengths : List Desig

pub record Module : Type 0 where
  pub name : List ℕ
  pub imports : List (List ℕ)
  pub constants : List TypedConstant
  pub types : List TypedType
  pub variables : List TypedVariable
  pub procedures : List Procedure
  pub body : Stmts
  pub mentioned : Mentions
