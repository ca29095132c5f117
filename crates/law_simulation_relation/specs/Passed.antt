-- How variables are passed by their forms, and what the parts of statements are, as far as their types do not say it.
use Rattle.std.specs.Prelude.{◌≡◌, ℕ, List, [], ◌∷◌}
use Rattle.ob_types.specs.declared.types.Basic.{Basic}
use Rattle.ob_types.specs.declared.types.Basic.TheVariants as basic
use Rattle.ob_types.specs.declared.types.Mode.{Mode}
use Rattle.ob_types.specs.declared.types.Mode.TheVariants as mode
use Rattle.ob_types.specs.declared.types.TypeRef.TheVariants as ref
use Rattle.ob_types.specs.declared.value.Value.TheVariants as literal
use Rattle.ob_types.specs.declared.typed.Passing.{Passing}
use Rattle.ob_types.specs.declared.typed.Passing.TheVariants as passing
use Rattle.ob_types.specs.declared.typed.Variable.{Variable}
use Rattle.ob_types.specs.declared.typed.Variable.TheVariants as variable
use Rattle.ob_types.specs.declared.typed.Guarded.TheVariants as guarded
use Rattle.ob_types.specs.declared.typed.OutProcedure.{OutProcedure}
use Rattle.ob_types.specs.declared.typed.OutProcedure.TheVariants as out
use Rattle.ob_types.specs.declared.typed.Callee.{Callee}
use Rattle.ob_types.specs.declared.typed.Callee.TheVariants as callee
use Rattle.ob_types.specs.TypedSyntax.{Desig, Guard, Expr, Constant, ValueOf, Actuals, NoActual, AnActual}
use Rattle.ob_meaning.specs.Values.{Form, ArrayForm, OpenForm, RecordForm}

abbrev pub passing_for : Mode → Form → Passing
passing_for mode.Value (OpenForm t) = passing.OpenArray
passing_for mode.Value (ArrayForm n t) = passing.Structure
passing_for mode.Value (RecordForm line fs) = passing.Structure
passing_for mode.Value t = passing.Scalar
passing_for mode.Var (OpenForm t) = passing.VariableOpenArray
passing_for mode.Var (RecordForm line fs) = passing.VariableRecord
passing_for mode.Var t = passing.Variable

abbrev pub IsOpen : Form → Type 0
IsOpen (OpenForm t) = Unit {0}
IsOpen t = ⊥

-- no open array: those are parameters, and what pointers point to
abbrev pub IsClosed : Form → Type 0
IsClosed (OpenForm t) = ⊥
IsClosed t = Unit {0}

-- a parameter is passed as one of its form, and no other variable is an open array
abbrev pub IsPassed : Variable → Form → Type 0
IsPassed (variable.Module m x) t = IsClosed t
IsPassed (variable.Local x) t = IsClosed t
IsPassed (variable.Parameter how x) t = (m : Mode) × (how ≡ passing_for m t)

-- no guarded pointer: by another name its variable could be given what does not extend the guard's type
abbrev pub IsUnguarded : Desig → Type 0
IsUnguarded (Guard d guarded.Pointer q at t) = ⊥
IsUnguarded d = Unit {0}

abbrev pub IsString : Expr → Type 0
IsString (Constant (literal.Str text)) = Unit {0}
IsString e = ⊥

abbrev pub IsVariable : Expr → Type 0
IsVariable (ValueOf d) = Unit {0}
IsVariable e = ⊥

-- parameters by value of these types
abbrev pub AreOfBasics : List Basic → Actuals → Type 0
AreOfBasics [] NoActual = Unit {0}
AreOfBasics [] (AnActual how t e rest) = ⊥
AreOfBasics (b ∷ bs) NoActual = ⊥
AreOfBasics (b ∷ bs) (AnActual how t e rest) = (how ≡ passing.Scalar) × (t ≡ ref.Basic b) × AreOfBasics bs rest

-- one array of characters or string
abbrev pub IsOneText : Actuals → Type 0
IsOneText (AnActual how t e NoActual) = how ≡ passing.OpenArray
IsOneText es = ⊥

abbrev pub AreOut : OutProcedure → Actuals → Type 0
AreOut out.Char es = AreOfBasics (basic.Char ∷ []) es
AreOut out.Str es = IsOneText es
AreOut out.Int es = AreOfBasics (basic.LongInt ∷ basic.LongInt ∷ []) es
AreOut out.Ln es = AreOfBasics [] es

-- a call of Out has the parameters of that procedure
abbrev pub CalleeTakes : Callee → Actuals → Type 0
CalleeTakes (callee.Out o) es = AreOut o es
CalleeTakes c es = Unit {0}
