-- Which procedures may be values of variables of a procedure type.
use Rattle.std.specs.Prelude.{Bool, true, false, ◌&&◌, List, [], ◌∷◌, Option, Some, None}
use Rattle.ob_tree.specs.declared.names.QName.{QName}
use Rattle.ob_types.specs.declared.types.Mode.{Mode}
use Rattle.ob_types.specs.declared.types.TypeRef.{TypeRef}
use Rattle.ob_types.specs.declared.typed.TypedParameter.{TypedParameter}
use Rattle.ob_types.specs.AssigningTests.{is_value}
use Rattle.ob_types.specs.TypedSyntax.{Procedure}
use Rattle.ob_meaning.specs.Values.{Program, Form, Formals, NoResult, AResult, AFormal, description, procedure_of, form_in}
use Rattle.law_simulation_relation.specs.Typed.{passing_for}
use Rattle.ob_rules.specs.Shapes.{is_held}
use Rattle.law_typing_values.specs.Same.{same_form, same_passing}

-- the type is one of the program, and of that form
abbrev pub is_of : Program → TypeRef → Form → Bool
is_of program t f = is_held (description program) t && same_form (form_in program t) f

-- a parameter is of that form, and passed so
abbrev pub takes : Program → TypedParameter → Mode → Form → Bool
takes program p m f = is_of program p.of f && same_passing p.passing (passing_for m f)

abbrev pub gives : Program → Option TypeRef → Formals → Bool
gives program None NoResult = true
gives program None (AResult f) = false
gives program None (AFormal m f fs) = false
gives program (Some t) NoResult = false
gives program (Some t) (AResult f) = is_of program t f
gives program (Some t) (AFormal m f fs) = false

-- parameters and a result are what a procedure type takes and gives
abbrev pub takes_all : Program → List TypedParameter → Option TypeRef → Formals → Bool
takes_all program [] r fs = gives program r fs
takes_all program (p ∷ ps) r NoResult = false
takes_all program (p ∷ ps) r (AResult f) = false
takes_all program (p ∷ ps) r (AFormal m f fs) = takes program p m f && takes_all program ps r fs

abbrev pub fits : Program → Formals → Option Procedure → Bool
fits program fs None = false
fits program fs (Some p) = takes_all program p.parameters p.result fs

-- A procedure of the program that stands by itself may be the value of a variable of a procedure type where its parameters and its
-- result are what that type takes and gives.
abbrev pub values : Program → Formals → QName → Bool
values program fs q = is_value q && fits program fs (procedure_of program q)
