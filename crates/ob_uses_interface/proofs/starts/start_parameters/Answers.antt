use Rattle.std.proofs.Common.{true, List, refl, map}
use Rattle.std.specs.List.{filter, flat_map}
use Rattle.ob_types.specs.declared.typed.TypedParameter.{TypedParameter}
use Rattle.ob_uses.specs.Objects.{formal_of}
use Rattle.ob_uses.proofs.Leading.{turn, over}
use Rattle.ob_uses_interface.proofs.Starting.{variables_cons, procedures_cons}
use Rattle.ob_uses_interface.proofs.starts.start_parameters.Goals as goal

pub parameters-preserved : goal.parameters-preserved
parameters-preserved c = turn true c.args.own.now (λ (xs : List TypedParameter). map (λ p. p.1) (map formal_of xs)) (λ _ _. refl) c.args.parameters.now c.parameters.parameter-index c.parameter-item.result c.parameters.left.items c.add_type.new.left.items _ c.parameters-test.true c.parameter-item.is c.in_ok-add_type.ensures c.parameters.invariant

pub returns : goal.returns
returns c = over true c.args.own.now (λ (xs : List TypedParameter). map (λ p. p.1) (map formal_of xs)) refl c.args.parameters.now c.parameters.parameter-index c.parameters.left.items _ c.parameters-test.false c.parameters.invariant
