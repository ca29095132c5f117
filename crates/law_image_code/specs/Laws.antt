-- The law: what is well typed is as the code wants its parts.
use Rattle.std.specs.Prelude.{◌≡◌, ℕ, List, Option, Some, Bool, true}
use Rattle.ob_tree.specs.declared.names.QName.{QName}
use Rattle.ob_types.specs.declared.types.TypeRef.{TypeRef}
use Rattle.ob_types.specs.TypedSyntax.{Stmts, Procedure}
use Rattle.ob_meaning.specs.Values.{Program, procedure_of, fields_of, form_in, record_in, Held, Formals}
use Rattle.ob_scheme.specs.Context.{Context}
use Rattle.law_simulation_relation.specs.Relation.{FieldIn}
use Rattle.law_simulation_relation.specs.Typed as typed
use Rattle.law_simulation_relation.specs.Typed.{IsRecordForm}
use Rattle.law_image_code.specs.Fits.{IsKnown, IsNamed, IsRecordType, StmtsFit}
use Rattle.law_image_code.specs.There.{StmtsThere}

-- procedures that may be values
abbrev pub Having : (Formals → QName → Bool) → Formals → QName → Type 0
Having has fs q = has fs q ≡ true

-- The names of a program, as the code of a procedure looks them up.
pub record NamesStand (program : Program) (has : Formals → QName → Bool) (c : Context) : Type 0 where
  -- record types of the module are among its own
  pub known : (q : QName) → typed.IsRecordType program q → IsKnown c q
  -- a record type has a name of its own
  pub named : (t : TypeRef) → IsRecordForm (form_in program t) → IsRecordType program c t
  -- a field is where the type that declares it has it
  pub fields : (t : TypeRef) (o : QName) (x : List ℕ) → FieldIn (fields_of (form_in program t)) o x → FieldIn (fields_of (record_in program o)) o x
  -- procedures have names
  pub procedures : (q : QName) (p : Procedure) → procedure_of program q ≡ Some p → IsNamed q.object
  pub values : (fs : Formals) (q : QName) → has fs q ≡ true → IsNamed q.object

abbrev pub TypedStatementsFit : Type 0
TypedStatementsFit = (program : Program) (has : Formals → QName → Bool) (c : Context) (unit : List ℕ) (held : List Held) (result : Option TypeRef) (xs : Stmts) (in_loop : Bool) → NamesStand program has c → typed.StmtsOk program (Having has) unit held result xs in_loop → StmtsThere c xs → StmtsFit program c xs
