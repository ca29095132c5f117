use Rattle.std.proofs.Common.{◌≡◌, ◌≤◌, length, drop}
use Rattle.ob_cdecl_block.specs.Steps.{type_names}
use Rattle.ob_cdecl_block.proofs.declared.type_names.Given as goal

abbrev pub invariant-declarations : goal.invariant-declarations
invariant-declarations l = record {
  within : l.i ≤ length l.decls;
  names : l.names ≡ type_names (drop l.i l.decls);
}

abbrev pub decreases-declarations : goal.decreases-declarations
decreases-declarations l = l.i
