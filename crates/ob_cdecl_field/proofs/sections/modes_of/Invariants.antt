use Rattle.std.proofs.Common.{◌≡◌, take}
use Rattle.ob_cdecl_field.specs.ParameterMakes.{modes_all}
use Rattle.ob_cdecl_field.proofs.sections.modes_of.Given as goal

abbrev pub invariant-names : goal.invariant-names
invariant-names l = l.all ≡ modes_all l.mode l.of (take l._name-index l.names)
