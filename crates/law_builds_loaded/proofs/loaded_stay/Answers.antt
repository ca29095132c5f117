-- What stays.
use Rattle.law_builds_loaded.proofs.Staying.{ordered_stay}
use Rattle.law_builds_loaded.proofs.Loaded.{loaded_forms_stay, loaded_values_stay}
use Rattle.law_builds_loaded.proofs.loaded_stay.Goals as goal

pub returns-clause-ordered : goal.returns-clause-ordered
returns-clause-ordered c = ordered_stay

pub returns-clause-forms : goal.returns-clause-forms
returns-clause-forms c = loaded_forms_stay

pub returns-clause-values : goal.returns-clause-values
returns-clause-values c = loaded_values_stay
