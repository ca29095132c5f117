use Rattle.std.proofs.Common.{◌≡◌, ◌++◌, drop, map}
use Rattle.std.specs.List.{filter}
use Rattle.ob_types.specs.declared.typed.TypedVariable.{TypedVariable}
use Rattle.ob_desc.specs.Grammar.{is_shown}
use Rattle.ob_uses_interface.specs.Entries.{entry_of}
use Rattle.ob_uses.specs.Objects.{variable_object}
use Rattle.ob_uses_interface.proofs.objects.add_variables.Given as goal

abbrev pub invariant-variables : goal.invariant-variables
invariant-variables l = l.found.items ++ map (entry_of l.«module») (map variable_object (filter (λ (v : TypedVariable). is_shown v.mark) ((drop l.variable-index l.variables)))) ≡ l.initial.found.items ++ map (entry_of l.«module») (map variable_object (filter (λ (v : TypedVariable). is_shown v.mark) (l.variables)))
