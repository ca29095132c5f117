-- What is declared has different names.
use Rattle.law_program_names.proofs.Different.{modules_differ, names_differ}
use Rattle.law_program_names.proofs.Fields.{fields_have_names, nothing_of_out}
use Rattle.law_program_names.proofs.declarations_differ.Goals as goal

pub returns-clause-modules : goal.returns-clause-modules
returns-clause-modules c = modules_differ

pub returns-clause-names : goal.returns-clause-names
returns-clause-names c = names_differ

pub returns-clause-fields : goal.returns-clause-fields
returns-clause-fields c = fields_have_names

pub returns-clause-out : goal.returns-clause-out
returns-clause-out c = nothing_of_out
