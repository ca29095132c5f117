-- The laws of builds that a session takes for granted.
use Rattle.ob_builds.specs.Local.{Locality}
use Rattle.ob_builds.specs.Simulated.{Simulation}
use Rattle.ob_builds.specs.Written.{BuildsAreWritten}

-- WHAT IS TAKEN FOR GRANTED: laws of builds, that speak of no session and no folder
pub record Promises : Type 0 where
  -- a build is the same against all interfaces that have the texts of its uses
  pub locality : Locality
  -- commands by the table are those of the meaning
  pub simulation : Simulation
  -- what is written of a build has a spelling
  pub written : BuildsAreWritten
