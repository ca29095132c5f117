-- The types of a checked module.
use Rattle.law_names_compiled.proofs.Modules.{types_differ, read_types_differ}
use Rattle.law_names_compiled.proofs.Compiled.{compiled_types_differ}
use Rattle.law_names_compiled.proofs.types_differ.Goals as goal

pub returns-clause-rules : goal.returns-clause-rules
returns-clause-rules c = types_differ

pub returns-clause-read : goal.returns-clause-read
returns-clause-read c = read_types_differ

pub returns-clause-compiled : goal.returns-clause-compiled
returns-clause-compiled c = compiled_types_differ
