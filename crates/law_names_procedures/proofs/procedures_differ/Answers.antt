-- The names of procedures.
use Rattle.law_names_procedures.proofs.Modules.{procedures_are_apart}
use Rattle.law_names_procedures.proofs.Texts.{headings_are_named}
use Rattle.law_names_procedures.proofs.Compiled.{compiled_apart}
use Rattle.law_names_procedures.proofs.procedures_differ.Goals as goal

pub returns-clause-rules : goal.returns-clause-rules
returns-clause-rules c = procedures_are_apart

pub returns-clause-read : goal.returns-clause-read
returns-clause-read c = headings_are_named

pub returns-clause-compiled : goal.returns-clause-compiled
returns-clause-compiled c = compiled_apart
