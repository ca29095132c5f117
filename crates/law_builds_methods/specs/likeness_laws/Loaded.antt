-- The bound procedures of builds that are loaded together: the law.
use Rattle.ob_builds.specs.Local.{Locality}
use Rattle.ob_builds.specs.Written.{BuildsAreWritten}
use Rattle.law_program_image.specs.Premises.{TypesDiffer, LoadedAreSound}
use Rattle.law_builds_loaded.specs.Loaded.{LoadedAreWhole}
use Rattle.law_builds_loaded.specs.inherited_laws.Laws.{LoadedAreLike}
use Rattle.law_builds_types.specs.pointed_laws.Pointed.{LoadedShowBases}

-- THE BOUND PROCEDURES of each module of builds that are loaded together are like the methods of their families.
abbrev pub LoadedLike : Type 0
LoadedLike = BuildsAreWritten → Locality → TypesDiffer → LoadedAreSound → LoadedAreWhole → LoadedShowBases → LoadedAreLike
