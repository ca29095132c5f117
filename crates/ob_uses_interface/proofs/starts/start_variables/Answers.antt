use Rattle.std.proofs.Common.{true, List, refl, map}
use Rattle.std.specs.List.{filter, flat_map}
use Rattle.ob_types.specs.declared.typed.TypedVariable.{TypedVariable}
use Rattle.ob_desc.specs.Grammar.{is_shown}
use Rattle.ob_uses.proofs.Leading.{turn, over}
use Rattle.ob_uses_interface.proofs.Starting.{variables_cons, procedures_cons}
use Rattle.ob_uses_interface.proofs.starts.start_variables.Goals as goal

pub variables-preserved : goal.variables-preserved
variables-preserved c = turn true c.args.own.now (λ (xs : List TypedVariable). map (λ v. v.of) (filter (λ v. is_shown v.mark) xs)) variables_cons c.args.variables.now c.variables.variable-index c.variable-item.result c.variables.left.items c.start_variable.new.left.items _ c.variables-test.true c.variable-item.is c.in_ok-start_variable.ensures c.variables.invariant

pub returns : goal.returns
returns c = over true c.args.own.now (λ (xs : List TypedVariable). map (λ v. v.of) (filter (λ v. is_shown v.mark) xs)) refl c.args.variables.now c.variables.variable-index c.variables.left.items _ c.variables-test.false c.variables.invariant
