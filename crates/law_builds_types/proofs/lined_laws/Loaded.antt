-- Lines of types are short in the program of builds that are loaded together.
use Rattle.law_program_runs.specs.Builds.{program_of}
use Rattle.law_builds_loaded.proofs.Loaded.{loaded_stand}
use Rattle.law_builds_types.specs.lined_laws.Lined.{LoadedAreLined}
use Rattle.law_builds_types.proofs.lined_laws.Ordered.{ordered_are_lined}

pub loaded_are_lined : LoadedAreLined
loaded_are_lined written ruled bs l = ordered_are_lined (program_of bs) (loaded_stand written ruled bs l)
