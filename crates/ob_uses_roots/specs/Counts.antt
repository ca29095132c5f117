-- Where the text of a module counts for its uses: the types whose shapes count, with those near them, and the types whose layout counts.
use Rattle.std.specs.Prelude.{Bool, true, false, List, [], ◌∷◌, ◌++◌, map as each, Option, Some, None}
use Rattle.std.specs.List.{flat_map}
use Rattle.ob_tree.specs.declared.names.QName.{QName}
use Rattle.ob_types.specs.declared.types.Mode.{Mode}
use Rattle.ob_types.specs.declared.types.Mode.TheVariants as mode
use Rattle.ob_types.specs.declared.types.TypeRef.{TypeRef}
use Rattle.ob_types.specs.declared.types.TypeRef.TheVariants as ref
use Rattle.ob_types.specs.declared.desc.Desc.{Desc}
use Rattle.ob_types.specs.declared.desc.Desc.TheVariants as desc
use Rattle.ob_types.specs.declared.desc.Method.{Method}
use Rattle.ob_types.specs.declared.typed.Callee.{Callee}
use Rattle.ob_types.specs.declared.typed.Callee.TheVariants as callee
use Rattle.ob_types.specs.declared.typed.Assigned.{Assigned}
use Rattle.ob_types.specs.declared.typed.Assigned.TheVariants as assigned
use Rattle.ob_types.specs.declared.typed.Made.{Made}
use Rattle.ob_types.specs.declared.typed.Made.TheVariants as made
use Rattle.ob_types.specs.declared.typed.Binding.{Binding}
use Rattle.ob_types.specs.declared.typed.TypedParameter.{TypedParameter}
use Rattle.ob_types.specs.declared.typed.TypedVariable.{TypedVariable}
use Rattle.ob_types.specs.declared.typed.TypedType.{TypedType}
use Rattle.ob_types.specs.TypedSyntax.{Desig, OfVariable, Field, Index, Deref, Guard, Expr, Constant, ValueOf, ProcedureValue, Monadic, Dyadic, Logical, CompareTexts, IsPointer, IsRecord, Length, Call, CallVariable, Actuals, NoActual, AnActual, Stmt, Assign, CallProper, Updated, Copy, New, NewOpenArray, Assert, Halt, If, Case, While, Repeat, For, Loop, Exit, Return, With, Stmts, Nothing, Then, Branches, NoBranch, Branch, Cases, NoCase, OneCase, Otherwise, NoElse, Else, Procedure, Module}
use Rattle.ob_types.specs.TypedKinds.{variable_type}
use Rattle.ob_types.specs.Maps.{listed, signature_types}
use Rattle.ob_types.specs.declared.typed.Passing.{Passing}
use Rattle.ob_types.specs.declared.typed.Passing.TheVariants as passing
use Rattle.ob_layout.specs.Members.{method_in}

-- ---- words of the tree

-- how a parameter of a heading is passed
abbrev pub mode_of : Passing → Mode
mode_of passing.Scalar = mode.Value
mode_of passing.Structure = mode.Value
mode_of passing.OpenArray = mode.Value
mode_of passing.Variable = mode.Var
mode_of passing.VariableRecord = mode.Var
mode_of passing.VariableOpenArray = mode.Var

-- the name of a type of the module
abbrev pub own_name : Module → TypedType → QName
own_name m t = record { «module» = m.name; object = t.name }

-- the shapes of this type and of those near it, or the layout of the records in whose words its own are counted
pub data Count : Type 0 where
  Shapes : (t : TypeRef) → Count
  Layouts : (t : TypeRef) → Count

abbrev pub shapes : List TypeRef → List Count
shapes ts = each Shapes ts

abbrev pub both : TypeRef → List Count
both t = Shapes t ∷ Layouts t ∷ []

-- ---- designators, expressions: the type of each, and of each prefix; the layout of the element at each index

-- the parameters and the result of a procedure that is called; the receiver is the first actual parameter of a bound one, and is no parameter
abbrev pub has_receiver : Callee → Bool
has_receiver (callee.Declared q) = false
has_receiver (callee.Bound family receiver) = true
has_receiver (callee.Super base family receiver) = true
has_receiver (callee.Out p) = false

abbrev pub formals : Actuals → List Count
formals NoActual = []
formals (AnActual how t e rest) = Shapes t ∷ formals rest

abbrev pub behind_first : Actuals → Actuals
behind_first NoActual = NoActual
behind_first (AnActual how t e rest) = rest

abbrev pub without_receiver : Bool → Actuals → Actuals
without_receiver true es = behind_first es
without_receiver false es = es

-- what a call counts beside its actual parameters
abbrev pub counts_of_call : Callee → Actuals → Option TypeRef → List Count
counts_of_call callee es t = formals (without_receiver (has_receiver callee) es) ++ shapes (listed t)

abbrev pub counts_of_held_call : Actuals → Option TypeRef → List Count
counts_of_held_call es t = formals es ++ shapes (listed t)

abbrev mutual
  pub counts_of_designator : Desig → List Count
  counts_of_designator (OfVariable v t) = Shapes t ∷ []
  counts_of_designator (Field d owner name t) = counts_of_designator d ++ Shapes t ∷ []
  counts_of_designator (Index d n e at t) = counts_of_designator d ++ counts_of_expr e ++ both t
  counts_of_designator (Deref d at t) = counts_of_designator d ++ Shapes t ∷ []
  counts_of_designator (Guard d g target at t) = counts_of_designator d ++ Shapes t ∷ Shapes (ref.Named target) ∷ []

  pub counts_of_expr : Expr → List Count
  counts_of_expr (Constant v) = []
  counts_of_expr (ValueOf d) = counts_of_designator d
  counts_of_expr (ProcedureValue q signature) = shapes (signature_types signature)
  counts_of_expr (Monadic op e at) = counts_of_expr e
  counts_of_expr (Dyadic op a b at) = counts_of_expr a ++ counts_of_expr b
  counts_of_expr (Logical op a b) = counts_of_expr a ++ counts_of_expr b
  counts_of_expr (CompareTexts r a b at) = counts_of_expr a ++ counts_of_expr b
  counts_of_expr (IsPointer e target) = counts_of_expr e ++ Shapes (ref.Named target) ∷ []
  counts_of_expr (IsRecord d target) = counts_of_designator d ++ Shapes (ref.Named target) ∷ []
  counts_of_expr (Length d) = counts_of_designator d
  counts_of_expr (Call callee es at t) = counts_of_actuals es ++ counts_of_call callee es t
  counts_of_expr (CallVariable d es at t) = counts_of_designator d ++ counts_of_actuals es ++ counts_of_held_call es t

  pub counts_of_actuals : Actuals → List Count
  counts_of_actuals NoActual = []
  counts_of_actuals (AnActual how t e rest) = counts_of_expr e ++ counts_of_actuals rest

abbrev pub counts_of_optional : Option Expr → List Count
counts_of_optional None = []
counts_of_optional (Some e) = counts_of_expr e

-- ---- statements: the layout of the target of each structured assignment, and of the elements of the arrays that NEW makes

abbrev pub target_counts : Assigned → TypeRef → List Count
target_counts assigned.Scalar t = []
target_counts assigned.Text t = Layouts t ∷ []
target_counts assigned.Array t = Layouts t ∷ []
target_counts (assigned.Record q) t = Layouts t ∷ []

-- an array has the words of its elements
abbrev pub made_counts : Made → List Count
made_counts (made.Record q) = []
made_counts (made.Array t) = Layouts t ∷ []

abbrev mutual
  pub counts_of : Stmt → List Count
  counts_of (Assign d how e at) = counts_of_designator d ++ counts_of_expr e ++ target_counts how (variable_type d)
  counts_of (CallProper e) = counts_of_expr e
  counts_of (Updated op d e at) = counts_of_designator d ++ counts_of_expr e
  counts_of (Copy e d at) = counts_of_expr e ++ counts_of_designator d
  counts_of (New d what at) = counts_of_designator d ++ made_counts what
  counts_of (NewOpenArray d t n at) = counts_of_designator d ++ counts_of_expr n ++ Layouts t ∷ []
  counts_of (Assert e number at) = counts_of_expr e
  counts_of (Halt number at) = []
  counts_of (If branches otherwise) = counts_of_branches branches ++ counts_of_all otherwise
  counts_of (Case e cases otherwise at) = counts_of_expr e ++ counts_of_cases cases ++ counts_of_else otherwise
  counts_of (While e body at) = counts_of_expr e ++ counts_of_all body
  counts_of (Repeat body e at) = counts_of_all body ++ counts_of_expr e
  counts_of (For v w start end step body at) = counts_of_expr start ++ counts_of_expr end ++ counts_of_all body
  counts_of (Loop body at) = counts_of_all body
  counts_of Exit = []
  counts_of (Return e) = counts_of_optional e
  counts_of (With branches otherwise at) = counts_of_branches branches ++ counts_of_else otherwise

  pub counts_of_all : Stmts → List Count
  counts_of_all Nothing = []
  counts_of_all (Then s rest) = counts_of s ++ counts_of_all rest

  pub counts_of_branches : Branches → List Count
  counts_of_branches NoBranch = []
  counts_of_branches (Branch test body rest) = counts_of_expr test ++ counts_of_all body ++ counts_of_branches rest

  pub counts_of_cases : Cases → List Count
  counts_of_cases NoCase = []
  counts_of_cases (OneCase labels body rest) = counts_of_all body ++ counts_of_cases rest

  pub counts_of_else : Otherwise → List Count
  counts_of_else NoElse = []
  counts_of_else (Else body) = counts_of_all body

-- ---- declarations: the type of each; the layout of each variable, field and value parameter, of each array type's element and of each record's base

abbrev pub formal_counts : Mode × TypeRef → List Count
formal_counts (mode.Value, t) = both t
formal_counts (mode.Var, t) = Shapes t ∷ []

abbrev pub counts_of_desc : Desc → List Count
counts_of_desc (desc.Array m n t) = both t
counts_of_desc (desc.OpenArray m t) = both t
counts_of_desc (desc.ProcType m s) = flat_map formal_counts s.params ++ shapes (listed s.result)
counts_of_desc (desc.Record r) = flat_map both (listed r.base) ++ flat_map (λ f. both f.of) r.fields
counts_of_desc d = []

abbrev pub counts_of_type : Module → TypedType → List Count
counts_of_type m t = Shapes (ref.Named (own_name m t)) ∷ counts_of_desc t.desc

abbrev pub counts_of_variable : TypedVariable → List Count
counts_of_variable v = both v.of

abbrev pub counts_of_parameter : TypedParameter → List Count
counts_of_parameter x = formal_counts (mode_of x.passing, x.of)

-- the parameters and the result of the bound procedure that is redefined, as the record that introduces it has them
abbrev pub counts_of_method : Option Method → List Count
counts_of_method None = []
counts_of_method (Some p) = shapes (signature_types p.signature)

abbrev pub counts_of_binding : (QName → Option Desc) → Option Binding → List Count
counts_of_binding map None = []
counts_of_binding map (Some b) = counts_of_method (method_in map b.family.owner b.family.name)

abbrev pub counts_of_procedure : (QName → Option Desc) → Procedure → List Count
counts_of_procedure map p = flat_map counts_of_parameter p.parameters ++ shapes (listed p.result) ++ flat_map counts_of_variable p.locals ++ counts_of_binding map p.binding ++ counts_of_all p.body

-- each object of another module that the text names, with the types near those that are types; what MAX and MIN name; and the designators of LEN
abbrev pub counts_of_mentioned : Module → List Count
counts_of_mentioned m = each (λ q. Shapes (ref.Named q)) m.mentioned.objects ++ shapes m.mentioned.types ++ flat_map counts_of_designator m.mentioned.lengths

-- ALL that counts in a module
abbrev pub counts_of_module : (QName → Option Desc) → Module → List Count
counts_of_module map m =
    counts_of_mentioned m ++ flat_map (counts_of_type m) m.types ++ flat_map counts_of_variable m.variables
    ++ flat_map (counts_of_procedure map) m.procedures ++ counts_of_all m.body
