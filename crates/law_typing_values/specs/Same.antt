-- Equality of forms and of passings, as it is computed.
use Rattle.std.specs.Prelude.{Bool, true, false, ◌&&◌, List, [], ◌∷◌, nat_eq, bytes_eq}
use Rattle.ob_tree.specs.declared.names.QName.{QName}
use Rattle.ob_types.specs.declared.typed.Passing.{Passing}
use Rattle.ob_types.specs.declared.typed.Passing.TheVariants as passing
use Rattle.ob_types.specs.Tests.{basic_number, type_eq, modes_alike}
use Rattle.ob_meaning.specs.Values.{Form, BasicForm, PointerForm, ProcedureForm, ArrayForm, OpenForm, RecordForm, Fields, NoField, AField, Formals, NoResult, AResult, AFormal, same_name}

abbrev pub same_line : List QName → List QName → Bool
same_line [] [] = true
same_line [] (r ∷ rs) = false
same_line (q ∷ qs) [] = false
same_line (q ∷ qs) (r ∷ rs) = same_name q r && same_line qs rs

abbrev mutual
  pub same_form : Form → Form → Bool
  same_form (BasicForm a) (BasicForm b) = nat_eq (basic_number a) (basic_number b)
  same_form (PointerForm t) (PointerForm u) = type_eq t u
  same_form (ProcedureForm fs) (ProcedureForm gs) = same_formals fs gs
  same_form (ArrayForm n a) (ArrayForm k b) = nat_eq n k && same_form a b
  same_form (OpenForm a) (OpenForm b) = same_form a b
  same_form (RecordForm line fs) (RecordForm other gs) = same_line line other && same_fields fs gs
  same_form a b = false

  pub same_fields : Fields → Fields → Bool
  same_fields NoField NoField = true
  same_fields NoField (AField p y u gs) = false
  same_fields (AField o x t fs) NoField = false
  same_fields (AField o x t fs) (AField p y u gs) = same_name o p && (bytes_eq x y && (same_form t u && same_fields fs gs))

  pub same_formals : Formals → Formals → Bool
  same_formals NoResult NoResult = true
  same_formals (AResult t) (AResult u) = same_form t u
  same_formals (AFormal m t fs) (AFormal k u gs) = modes_alike m k && (same_form t u && same_formals fs gs)
  same_formals fs gs = false

abbrev pub same_passing : Passing → Passing → Bool
same_passing passing.Scalar passing.Scalar = true
same_passing passing.Structure passing.Structure = true
same_passing passing.OpenArray passing.OpenArray = true
same_passing passing.Variable passing.Variable = true
same_passing passing.VariableRecord passing.VariableRecord = true
same_passing passing.VariableOpenArray passing.VariableOpenArray = true
same_passing a b = false
