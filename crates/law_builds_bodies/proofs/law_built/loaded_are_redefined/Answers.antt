-- Redefinitions.
use Rattle.law_builds_bodies.proofs.built_laws.Nearest.{like_are_nearest, loaded_are_redefined}
use Rattle.law_builds_bodies.proofs.law_built.loaded_are_redefined.Goals as goal

pub returns : goal.returns
returns c = record { program = like_are_nearest; loaded = loaded_are_redefined }
