use Rattle.std.proofs.Common.{List, refl, map}
use Rattle.std.specs.List.{filter, flat_map}
use Rattle.ob_types.specs.declared.types.Mode.{Mode}
use Rattle.ob_types.specs.declared.types.TypeRef.{TypeRef}
use Rattle.ob_uses.proofs.Leading.{turn, over, params_cons}
use Rattle.ob_uses.proofs.leads.add_params.Goals as goal

pub params-preserved : goal.params-preserved
params-preserved c = turn c.args.alone c.args.own.now (λ (xs : List (Mode × TypeRef)). map (λ p. p.1) xs) params_cons c.args.params.now c.params.param-index c.param-item.result c.params.left.items c.add_type.new.left.items _ c.params-test.true c.param-item.is c.in_ok-add_type.ensures c.params.invariant

pub returns : goal.returns
returns c = over c.args.alone c.args.own.now (λ (xs : List (Mode × TypeRef)). map (λ p. p.1) xs) refl c.args.params.now c.params.param-index c.params.left.items _ c.params-test.false c.params.invariant
