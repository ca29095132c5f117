use Rattle.std.proofs.Common.{◌≡◌, drop}
use Rattle.std.specs.Prelude.{◌==◌}
use Rattle.std.specs.List.{list_any}
use Rattle.ob_cdecl_heading.proofs.owner.has_slash.Given as goal

abbrev pub invariant-bytes : goal.invariant-bytes
invariant-bytes l = list_any (λ c. c == 47) l.name ≡ list_any (λ c. c == 47) (drop l.byte-index l.name)
