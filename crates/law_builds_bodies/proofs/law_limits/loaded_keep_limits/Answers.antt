-- Modules keep the limits of activations and operands.
use Rattle.law_builds_bodies.proofs.limits_laws.Loaded.{compiled_keep, loaded_keep}
use Rattle.law_builds_bodies.proofs.law_limits.loaded_keep_limits.Goals as goal

pub returns-clause-compiled : goal.returns-clause-compiled
returns-clause-compiled c = compiled_keep

pub returns-clause-loaded : goal.returns-clause-loaded
returns-clause-loaded c = loaded_keep
