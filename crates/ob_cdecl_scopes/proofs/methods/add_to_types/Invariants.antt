use Rattle.std.proofs.Common.{◌≡◌, ◌++◌, map, take, drop}
use Rattle.ob_rules.specs.Headings.{change_type, with_method}
use Rattle.ob_cdecl_scopes.specs.Naming.{type_name}
use Rattle.ob_cdecl_scopes.proofs.methods.add_to_types.Given as goal

abbrev pub invariant-types : goal.invariant-types
invariant-types l = record {
  all : l.types ≡ change_type l.owner (λ r. with_method r l.method) (take l.t-index l.fn.types) ++ drop l.t-index l.fn.types;
  names : map type_name l.types ≡ map type_name l.fn.types;
}
