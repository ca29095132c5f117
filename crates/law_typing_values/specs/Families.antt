-- Where families of bound procedures stand, redefinitions are as well typed trees ask for.
use Rattle.law_simulation_relation.specs.Setting.{Setting}
use Rattle.law_simulation_calls.specs.Tables.{FamiliesStand}
use Rattle.law_typing.specs.Redefined.{AreRedefined}

abbrev pub FamiliesRedefined : Type 0
FamiliesRedefined = (c : Setting) → FamiliesStand c → AreRedefined c.program
