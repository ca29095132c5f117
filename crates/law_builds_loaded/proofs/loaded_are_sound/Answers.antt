-- What sound programs have, and that loaded ones are sound.
use Rattle.law_builds_loaded.proofs.Sound.{variables_have_forms, ordered_describe}
use Rattle.law_builds_loaded.proofs.Owing.{loaded_are_sound, loaded_variables, loaded_describe}
use Rattle.law_builds_loaded.proofs.loaded_are_sound.Goals as goal

pub returns-clause-sound : goal.returns-clause-sound
returns-clause-sound c = loaded_are_sound

pub returns-clause-forms : goal.returns-clause-forms
returns-clause-forms c = variables_have_forms

pub returns-clause-variables : goal.returns-clause-variables
returns-clause-variables c = loaded_variables

pub returns-clause-ordered : goal.returns-clause-ordered
returns-clause-ordered c = ordered_describe

pub returns-clause-described : goal.returns-clause-described
returns-clause-described c = loaded_describe
