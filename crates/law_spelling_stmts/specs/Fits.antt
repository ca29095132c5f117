-- What is asked of statements beside the names in them: that positions, constants, lengths of arrays, labels and numbers have room, that a
-- string leaves room in the array that takes it, and that EXIT stands in a LOOP.
use Rattle.std.specs.Prelude.{◌≡◌, ℕ, ◌<◌, ◌^◌, length, Option, IfSome, Bool, true, false, FitsSigned}
use Rattle.std.specs.Int.{w32}
use Rattle.std.specs.List.{AllByRecursion}
use Rattle.ob_tree.specs.declared.names.QName.{QName}
use Rattle.ob_types.specs.declared.types.TypeRef.{TypeRef}
use Rattle.ob_types.specs.declared.desc.Desc.{Desc}
use Rattle.ob_types.specs.declared.value.Value.TheVariants as literal
use Rattle.ob_types.specs.declared.typed.Passing.{Passing}
use Rattle.ob_types.specs.declared.typed.Passing.TheVariants as passing
use Rattle.ob_types.specs.TypedSyntax.{Desig, OfVariable, Field, Index, Deref, Guard, Expr, Constant, ValueOf, ProcedureValue, Monadic, Dyadic, Logical, CompareTexts, IsPointer, IsRecord, Length, Call, CallVariable, Actuals, NoActual, AnActual, Stmt, Assign, CallProper, Updated, Copy, New, NewOpenArray, Assert, Halt, If, Case, While, Repeat, For, Loop, Exit, Return, With, Stmts, Nothing, Then, Branches, NoBranch, Branch, Cases, NoCase, OneCase, Otherwise, NoElse, Else, Procedure}
use Rattle.ob_layout.specs.Words.{words_of}
use Rattle.law_spelling.specs.Coded.{PosFits, ConstantIsCoded, LabelIsCoded}

-- by the words of types
module _ (words : TypeRef → ℕ) where
  -- a string that is passed by value leaves room for its 0X in the words of its parameter
  abbrev pub PassedFits : Passing → TypeRef → Expr → Type 0
  PassedFits passing.Structure t (Constant (literal.Str text)) = length text < words t
  PassedFits how t e = Unit {0}

  abbrev mutual
    pub DesigFits : Desig → Type 0
    DesigFits (OfVariable v t) = Unit {0}
    DesigFits (Field d owner x t) = DesigFits d
    DesigFits (Index d n i at t) = DesigFits d × (ExprFits i × (PosFits at × IfSome n (λ k. k < 2 ^ 31)))
    DesigFits (Deref d at t) = DesigFits d × PosFits at
    DesigFits (Guard d g target at t) = DesigFits d × PosFits at

    pub ExprFits : Expr → Type 0
    ExprFits (Constant v) = ConstantIsCoded v
    ExprFits (ValueOf d) = DesigFits d
    ExprFits (ProcedureValue q signature) = Unit {0}
    ExprFits (Monadic o e at) = ExprFits e × PosFits at
    ExprFits (Dyadic o a b at) = ExprFits a × (ExprFits b × PosFits at)
    ExprFits (Logical o a b) = ExprFits a × ExprFits b
    ExprFits (CompareTexts r a b at) = ExprFits a × (ExprFits b × PosFits at)
    ExprFits (IsPointer e target) = ExprFits e
    ExprFits (IsRecord d target) = DesigFits d
    ExprFits (Length d) = DesigFits d
    ExprFits (Call callee es at t) = ActualsFit es × PosFits at
    ExprFits (CallVariable d es at t) = DesigFits d × (ActualsFit es × PosFits at)

    pub ActualsFit : Actuals → Type 0
    ActualsFit NoActual = Unit {0}
    ActualsFit (AnActual how t e rest) = ExprFits e × (PassedFits how t e × ActualsFit rest)

  -- inside a LOOP or not
  abbrev mutual
    pub StmtFits : Bool → Stmt → Type 0
    StmtFits l (Assign d how e at) = DesigFits d × (ExprFits e × PosFits at)
    StmtFits l (CallProper e) = ExprFits e
    StmtFits l (Updated o d e at) = DesigFits d × (ExprFits e × PosFits at)
    StmtFits l (Copy e d at) = ExprFits e × (DesigFits d × PosFits at)
    StmtFits l (New d what at) = DesigFits d × PosFits at
    StmtFits l (NewOpenArray d t n at) = DesigFits d × (ExprFits n × PosFits at)
    StmtFits l (Assert e number at) = ExprFits e × (FitsSigned w32 number × PosFits at)
    StmtFits l (Halt number at) = FitsSigned w32 number × PosFits at
    StmtFits l (If branches otherwise) = BranchesFit l branches × StmtsFit l otherwise
    StmtFits l (Case e cases otherwise at) = ExprFits e × (CasesFit l cases × (ElseFits l otherwise × PosFits at))
    StmtFits l (While e body at) = ExprFits e × (StmtsFit l body × PosFits at)
    StmtFits l (Repeat body e at) = StmtsFit l body × (ExprFits e × PosFits at)
    StmtFits l (For v w start stop step body at) = ExprFits start × (ExprFits stop × (FitsSigned w32 step × (StmtsFit l body × PosFits at)))
    StmtFits l (Loop body at) = StmtsFit true body × PosFits at
    StmtFits l Exit = l ≡ true
    StmtFits l (Return e) = IfSome e ExprFits
    StmtFits l (With branches otherwise at) = BranchesFit l branches × (ElseFits l otherwise × PosFits at)

    pub StmtsFit : Bool → Stmts → Type 0
    StmtsFit l Nothing = Unit {0}
    StmtsFit l (Then s rest) = StmtFits l s × StmtsFit l rest

    pub BranchesFit : Bool → Branches → Type 0
    BranchesFit l NoBranch = Unit {0}
    BranchesFit l (Branch test body rest) = ExprFits test × (StmtsFit l body × BranchesFit l rest)

    pub CasesFit : Bool → Cases → Type 0
    CasesFit l NoCase = Unit {0}
    CasesFit l (OneCase labels body rest) = AllByRecursion LabelIsCoded labels × (StmtsFit l body × CasesFit l rest)

    pub ElseFits : Bool → Otherwise → Type 0
    ElseFits l NoElse = Unit {0}
    ElseFits l (Else body) = StmtsFit l body

-- a procedure, with the place where it is named
pub record BodyFits (types : QName → Option Desc) (p : Procedure) : Type 0 where
  pub at : PosFits p.at
  pub body : StmtsFit (words_of types) false p.body
