-- What is asked of bound procedures that redefine others.
use Rattle.std.specs.Prelude.{◌≡◌, ℕ, List, Some}
use Rattle.ob_tree.specs.declared.names.QName.{QName}
use Rattle.ob_types.specs.declared.types.Mode.{Mode}
use Rattle.ob_types.specs.declared.types.TypeRef.{TypeRef}
use Rattle.ob_types.specs.declared.desc.Method.{Method}
use Rattle.ob_types.specs.declared.desc.Receiver.{Receiver}
use Rattle.ob_types.specs.declared.typed.Family.{Family}
use Rattle.ob_types.specs.TypedSyntax.{Procedure}
use Rattle.ob_meaning.specs.Values.{Program, procedure_of, bases_in, record_in}
use Rattle.ob_meaning.specs.Meaning.{nearest}
use Rattle.law_simulation_relation.specs.Relation.{Sub}
use Rattle.law_simulation_relation.specs.Typed.{IsRecordType, ReceiverOk, result_form}
use Rattle.ob_rules.specs.Shapes.{Map, AMethod, member}
use Rattle.law_typing_forms.specs.Formed.{AreParameters, behind}

-- The procedure of a family that is nearest to a record type gives what p gives and takes, behind its receiver, what p takes; its receiver is
-- of that kind, and takes the record.
pub record IsRedefined (program : Program) (f : Family) (k : Receiver) (p : Procedure) (d : QName) : Type 0 where
  pub name : QName
  pub procedure : Procedure
  pub near : nearest program (bases_in program d) f ≡ Some name
  pub found : procedure_of program name ≡ Some procedure
  pub result : result_form program procedure.result ≡ result_form program p.result
  pub parameters : (ks : List (Mode × TypeRef)) → AreParameters program (behind p.parameters) ks → AreParameters program (behind procedure.parameters) ks
  pub t : QName
  pub receives : ReceiverOk program k t procedure.parameters
  pub above : Sub (record_in program d) (record_in program t)

-- a record type that extends one to which a procedure is bound has a procedure of that family, bound to it or redefined
abbrev pub AreRedefined : Program → Type 0
AreRedefined program =
    (t : QName) (f : Family) (k : Receiver) (q : QName) (p : Procedure) → IsRecordType program t → nearest program (bases_in program t) f ≡ Some q → procedure_of program q ≡ Some p → ReceiverOk program k t p.parameters
    → (d : QName) → IsRecordType program d → Sub (record_in program d) (record_in program t) → IsRedefined program f k p d

-- bound procedures of one name, of a record type and of one that it extends, have receivers of one kind
abbrev pub AreOfOneKind : Program → Map → Type 0
AreOfOneKind program map = (q b i o : QName) (x : List ℕ) (k m : Method) → Sub (record_in program q) (record_in program b) → member map q x ≡ Some (AMethod i k) → member map b x ≡ Some (AMethod o m) → k.receiver ≡ m.receiver
