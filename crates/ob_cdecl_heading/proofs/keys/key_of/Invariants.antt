use Rattle.std.proofs.Common.{◌≡◌, ◌++◌, drop}
use Rattle.ob_cdecl_heading.specs.Keys.{key}
use Rattle.ob_cdecl_heading.proofs.keys.key_of.Given as goal

abbrev pub invariant-bytes : goal.invariant-bytes
invariant-bytes l = l.all.items ++ key (drop l.byte-index l.name) l.object ≡ key l.name l.object
