use Rattle.std.proofs.Common.{◌≡◌, ◌++◌, drop, take, map}
use Rattle.std.specs.List.{filter}
use Rattle.ob_uses.specs.Objects.{formal_of}
use Rattle.ob_uses_interface.proofs.copies.formals_of.Given as goal

abbrev pub invariant-parameters : goal.invariant-parameters
invariant-parameters l = l.all ≡ map formal_of (take l.parameter-index l.parameters)
