-- Procedures.
use Rattle.law_builds_bodies.proofs.built_laws.Places.{places_are_those}
use Rattle.law_builds_bodies.proofs.built_laws.Procedures.{procedures_are_given}
use Rattle.law_builds_bodies.proofs.law_built.procedures_are_given.Goals as goal

pub returns : goal.returns
returns c = record { places = places_are_those; procedures = procedures_are_given }
