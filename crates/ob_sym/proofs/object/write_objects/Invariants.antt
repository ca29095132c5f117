use Rattle.std.proofs.Common.{◌≡◌, ◌++◌, length, take}
use Rattle.std.specs.Int.{w32, to_be_bytes}
use Rattle.std.specs.List.{flat_map}
use Rattle.ob_sym.specs.Grammar.{object_in}
use Rattle.ob_sym.proofs.object.write_objects.Given as goal

abbrev pub invariant-loop-object : goal.invariant-loop-object
invariant-loop-object l = l.out.items ≡ l.fn.out.items ++ to_be_bytes w32 (length l.objects) ++ flat_map (object_in l.«module»).spell (take l.object-index l.objects)
