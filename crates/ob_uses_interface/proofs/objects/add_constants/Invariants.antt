use Rattle.std.proofs.Common.{◌≡◌, ◌++◌, drop, map}
use Rattle.std.specs.List.{filter}
use Rattle.ob_types.specs.declared.typed.TypedConstant.{TypedConstant}
use Rattle.ob_desc.specs.Grammar.{is_shown}
use Rattle.ob_uses_interface.specs.Entries.{entry_of}
use Rattle.ob_uses.specs.Objects.{constant_object}
use Rattle.ob_uses_interface.proofs.objects.add_constants.Given as goal

abbrev pub invariant-constants : goal.invariant-constants
invariant-constants l = l.found.items ++ map (entry_of l.«module») (map constant_object (filter (λ (c : TypedConstant). is_shown c.mark) ((drop l.constant-index l.constants)))) ≡ l.initial.found.items ++ map (entry_of l.«module») (map constant_object (filter (λ (c : TypedConstant). is_shown c.mark) (l.constants)))
