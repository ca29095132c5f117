-- What the rules owe of procedures that redefine others.
use Rattle.std.specs.Prelude.{◌≡◌, List, [], ◌∷◌, Some}
use Rattle.ob_tree.specs.declared.names.QName.{QName}
use Rattle.ob_types.specs.declared.desc.Receiver.{Receiver}
use Rattle.ob_types.specs.declared.typed.Family.{Family}
use Rattle.ob_types.specs.declared.typed.TypedParameter.{TypedParameter}
use Rattle.ob_types.specs.TypedSyntax.{Procedure}
use Rattle.ob_meaning.specs.Values.{Program, procedure_of, bases_in}
use Rattle.ob_meaning.specs.Meaning.{declared_for, nearest}
use Rattle.law_simulation_relation.specs.Typed.{IsRecordType, ReceiverOk, result_form}
use Rattle.law_simulation_calls.specs.Signatures.{Alike}
use Rattle.law_image_tables.specs.Declared.{above}

-- alike but for the first, which is the receiver
abbrev pub AlikeBehind : Program → List TypedParameter → List TypedParameter → Type 0
AlikeBehind program [] qs = ⊥
AlikeBehind program (p ∷ ps) [] = ⊥
AlikeBehind program (p ∷ ps) (q ∷ qs) = Alike program ps qs

-- A procedure that is declared for a record type is there. Where it redefines the one that is nearest to the type's base, it has the same
-- result, parameters that are alike but for the receiver, and a receiver of the same kind, which is of the type.
pub record Redefines (program : Program) (d : QName) (f : Family) (p : Procedure) (r : QName) : Type 0 where
  pub procedure : Procedure
  pub is : procedure_of program r ≡ Some procedure
  pub result : result_form program procedure.result ≡ result_form program p.result
  pub parameters : AlikeBehind program p.parameters procedure.parameters
  pub receiver : (k : Receiver) (t : QName) → ReceiverOk program k t p.parameters → ReceiverOk program k d procedure.parameters

abbrev pub RedefinitionsKept : Program → Type 0
RedefinitionsKept program = (d : QName) (f : Family) (r q : QName) (p : Procedure) → IsRecordType program d → declared_for program d f ≡ Some r → nearest program (above (bases_in program d)) f ≡ Some q → procedure_of program q ≡ Some p → Redefines program d f p r
