-- What an image has of the procedures that variables may have as values.
use Rattle.std.specs.Prelude.{◌≡◌, ◌<◌, Some, true}
use Rattle.ob_tree.specs.declared.names.QName.{QName}
use Rattle.ob_types.specs.TypedSyntax.{Procedure}
use Rattle.ob_instr.specs.Rows.{in_width, proc_value}
use Rattle.ob_meaning.specs.Values.{procedure_of, Formals}
use Rattle.law_simulation_relation.specs.Relation.{number_of}
use Rattle.law_simulation_relation.specs.Setting.{Setting, has_of}

-- a procedure of the program whose number is small enough to be told by its value, which is a word
pub record IsNumbered (c : Setting) (q : QName) : Type 0 where
  pub p : Procedure
  pub is : procedure_of c.program q ≡ Some p
  pub below : (number_of c.program (has_of c) c.img q).proc < 65536
  pub fits : in_width 4 (proc_value (number_of c.program (has_of c) c.img q)) ≡ true

abbrev pub ValuesNumbered : Setting → Type 0
ValuesNumbered c = (fs : Formals) (q : QName) → has_of c fs q → IsNumbered c q
