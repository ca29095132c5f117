-- What an image has of the procedures that are bound to record types.
use Rattle.std.specs.Prelude.{◌≡◌, ℕ, List, [], ◌∷◌, Some, pos, slice_get}
use Rattle.ob_tree.specs.declared.names.QName.{QName}
use Rattle.ob_types.specs.declared.desc.Receiver.{Receiver}
use Rattle.ob_types.specs.declared.typed.Family.{Family}
use Rattle.ob_types.specs.declared.typed.TypedParameter.{TypedParameter}
use Rattle.ob_types.specs.TypedSyntax.{Procedure}
use Rattle.ob_instr.specs.Rows.{method_at}
use Rattle.ob_meaning.specs.Values.{Program, procedure_of, bases_in, record_in}
use Rattle.ob_meaning.specs.Meaning.{nearest}
use Rattle.law_simulation_relation.specs.Layout.{type_number}
use Rattle.law_simulation_relation.specs.Relation.{Sub, number_of}
use Rattle.law_simulation_relation.specs.Typed.{IsRecordType, ReceiverOk, result_form}
use Rattle.law_simulation_relation.specs.Setting.{Setting, has_of}
use Rattle.law_simulation_calls.specs.Signatures.{Alike}

-- the table of a record type has, at the number of each family, the procedure that is declared nearest to the type
abbrev pub TablesStand : Setting → (Family → ℕ) → Type 0
TablesStand c methods = (t : QName) (f : Family) (q : QName) → IsRecordType c.program t → nearest c.program (bases_in c.program t) f ≡ Some q → method_at (slice_get c.img.types (type_number c.img.types t)) (pos (methods f)) ≡ Some (number_of c.program (has_of c) c.img q)

-- a receiver that a record can be: it is of a type that the record's type extends
abbrev pub ReceiverTakes : Program → Receiver → QName → TypedParameter → Type 0
ReceiverTakes program k d p = (t : QName) × ReceiverOk program k t (p ∷ []) × Sub (record_in program d) (record_in program t)

-- parameters that are alike but for the receiver, which takes the records of a type
abbrev pub Redefined : Program → Receiver → QName → List TypedParameter → List TypedParameter → Type 0
Redefined program k d [] qs = ⊥
Redefined program k d (p ∷ ps) [] = ⊥
Redefined program k d (p ∷ ps) (q ∷ qs) = ReceiverTakes program k d q × Alike program ps qs

-- the procedure of a family that is nearest to a type, with the result and the parameters of one that is bound to a base
pub record Redefinition (c : Setting) (f : Family) (k : Receiver) (p : Procedure) (d : QName) : Type 0 where
  pub q : QName
  pub procedure : Procedure
  pub near : nearest c.program (bases_in c.program d) f ≡ Some q
  pub is : procedure_of c.program q ≡ Some procedure
  pub result : result_form c.program procedure.result ≡ result_form c.program p.result
  pub parameters : Redefined c.program k d p.parameters procedure.parameters

-- each record type that extends one to which a procedure is bound has a procedure of that family, alike but for the receiver
abbrev pub FamiliesStand : Setting → Type 0
FamiliesStand c = (t : QName) (f : Family) (k : Receiver) (q : QName) (p : Procedure) → IsRecordType c.program t → nearest c.program (bases_in c.program t) f ≡ Some q → procedure_of c.program q ≡ Some p → ReceiverOk c.program k t p.parameters → (d : QName) → IsRecordType c.program d → Sub (record_in c.program d) (record_in c.program t) → Redefinition c f k p d
