use Rattle.std.proofs.Common.{◌≡◌, ◌++◌, drop, take, map}
use Rattle.std.specs.List.{filter}
use Rattle.ob_uses_interface.proofs.copies.copy_params.Given as goal

abbrev pub invariant-params : goal.invariant-params
invariant-params l = l.all ≡ take l.param-index l.params
