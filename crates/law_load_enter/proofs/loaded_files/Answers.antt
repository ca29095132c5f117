-- The object files of loaded builds.
use Rattle.law_load_enter.proofs.Whole.{names_are_shown, words_are_counted, commands_are_there, loaded_fit, loaded_enter}
use Rattle.law_load_enter.proofs.loaded_files.Goals as goal

pub returns-clause-names : goal.returns-clause-names
returns-clause-names c = names_are_shown

pub returns-clause-words : goal.returns-clause-words
returns-clause-words c = words_are_counted

pub returns-clause-commands : goal.returns-clause-commands
returns-clause-commands c = commands_are_there

pub returns-clause-fits : goal.returns-clause-fits
returns-clause-fits c = loaded_fit

pub returns-clause-enterable : goal.returns-clause-enterable
returns-clause-enterable c = loaded_enter
