use Rattle.std.proofs.Common.{◌≡◌, take}
use Rattle.ob_cdecl_field.specs.ParameterMakes.{inside_all}
use Rattle.ob_cdecl_field.proofs.sections.known_inside.Given as goal

abbrev pub invariant-names : goal.invariant-names
invariant-names l = l.all ≡ inside_all l.passing l.of (take l.x-index l.names)
