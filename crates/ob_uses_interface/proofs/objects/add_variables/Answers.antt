use Rattle.std.proofs.Common.{List, [], ◌∷◌, refl, map}
use Rattle.std.specs.List.{filter}
use Rattle.ob_types.specs.declared.typed.TypedVariable.{TypedVariable}
use Rattle.ob_desc.specs.Grammar.{is_shown}
use Rattle.ob_uses_interface.specs.Entries.{entry_of}
use Rattle.ob_uses.specs.Objects.{variable_object}
use Rattle.ob_uses.proofs.Looping.{one_more, all_done}
use Rattle.ob_uses_interface.proofs.Objecting.{entries_cons}
use Rattle.ob_uses_interface.proofs.objects.add_variables.Goals as goal

pub variables-preserved : goal.variables-preserved
variables-preserved c =
    one_more (λ (x : TypedVariable). map (entry_of c.args.«module».now) (map variable_object (filter (λ (v : TypedVariable). is_shown v.mark) (x ∷ [])))) (λ (xs : List TypedVariable). map (entry_of c.args.«module».now) (map variable_object (filter (λ (v : TypedVariable). is_shown v.mark) (xs)))) (λ x xs. entries_cons c.args.«module».now variable_object (λ (v : TypedVariable). is_shown v.mark) (x) (xs))
    c.args.variables.now c.variables.variable-index c.variable-item.result c.variables.found.items c.add_variable.new.found.items _ c.variables-test.true c.variable-item.is c.in_ok-add_variable.ensures c.variables.invariant

pub returns : goal.returns
returns c = all_done (λ (xs : List TypedVariable). map (entry_of c.args.«module».now) (map variable_object (filter (λ (v : TypedVariable). is_shown v.mark) (xs)))) refl c.args.variables.now c.variables.variable-index c.variables.found.items _ c.variables-test.false c.variables.invariant
