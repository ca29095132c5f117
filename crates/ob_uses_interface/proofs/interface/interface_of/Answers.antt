use Rattle.std.proofs.Common.{map, sym, ap, ◌∙◌}
use Rattle.ob_types.specs.TypedView.{module_view}
use Rattle.ob_env.specs.Faces.{use_of, object_of}
use Rattle.ob_uses.specs.Objects.{objects_of}
use Rattle.ob_uses_interface.proofs.Interfacing.{uses_back, interface_is}
use Rattle.ob_uses_interface.proofs.interface.interface_of.Goals as goal

pub returns-clause-value : goal.returns-clause-value
returns-clause-value g c =
    interface_is c.args.«module».now.name c.in_ok-imports.imports c.args.«module».now.imports c.in_ok-objects.objects (map (object_of c.args.«module».now.name) (objects_of (module_view c.args.«module».now))) c.in_ok-uses.uses _
    (c.in_ok-imports.ensures ∙ c.as_slice.ensures) c.in_ok-objects.ensures (sym (uses_back c.in_ok-uses.uses) ∙ ap (map use_of) c.in_ok-uses.ensures.value)

pub returns-clause-steps : goal.returns-clause-steps
returns-clause-steps g c = λ names all.
    interface_is c.args.«module».now.name c.in_ok-imports.imports c.args.«module».now.imports c.in_ok-objects.objects (map (object_of c.args.«module».now.name) (objects_of (module_view c.args.«module».now))) c.in_ok-uses.uses _
    (c.in_ok-imports.ensures ∙ c.as_slice.ensures) c.in_ok-objects.ensures (sym (uses_back c.in_ok-uses.uses) ∙ ap (map use_of) (c.in_ok-uses.ensures.steps names all))
