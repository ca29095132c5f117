use Rattle.std.proofs.Common.{rules}
use Rattle.ob_rules.specs.Headings.{with_method}
use Rattle.ob_cdecl_scopes.specs.Naming.{type_name}
use Rattle.ob_cdecl_scopes.proofs.Changing.{next_changed, still_named}
use Rattle.ob_cdecl_scopes.proofs.methods.add_to_types.Goals as goal

pub returns-in_err-add_to_type-clause-names : goal.returns-in_err-add_to_type-clause-names
returns-in_err-add_to_type-clause-names c = still_named type_name c.types.types c.args.types.now c.types.t-index c.t-item.result c.add_to_type.new.t c.add_to_type.ensures.name c.types.invariant.names

pub types-preserved : goal.types-preserved
types-preserved c = record {
  all = next_changed c.args.owner.now (λ r. with_method r c.args.method.now) c.args.types.now c.types.types c.types.t-index c.t-item.result c.add_to_type.new.t c.types.invariant.all (search rules) c.in_ok-add_to_type.ensures.ok;
  names = still_named type_name c.types.types c.args.types.now c.types.t-index c.t-item.result c.add_to_type.new.t c.add_to_type.ensures.name c.types.invariant.names;
}
