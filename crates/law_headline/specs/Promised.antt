-- All that the headline takes for granted of builds is there.
use Rattle.ob_builds.specs.Promises.{Promises}

-- THE LAW: a build is the same against all interfaces that have the texts of its uses; what is written of it has a spelling; and commands by
-- the machine's table are those of the meaning.
abbrev pub Promised : Type 0
Promised = Promises
