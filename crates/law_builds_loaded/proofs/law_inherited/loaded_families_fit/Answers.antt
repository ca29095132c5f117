-- The families of loaded builds.
use Rattle.law_builds_loaded.proofs.inherited_laws.Loaded.{loaded_have_bindings, loaded_families_fit}
use Rattle.law_builds_loaded.proofs.law_inherited.loaded_families_fit.Goals as goal

pub returns-clause-bindings : goal.returns-clause-bindings
returns-clause-bindings c = loaded_have_bindings

pub returns-clause-fit : goal.returns-clause-fit
returns-clause-fit c = loaded_families_fit
