-- A call that waits.
use Rattle.std.specs.Prelude.{List, reverse, ℤ}
use Rattle.ob_instr.specs.Image.{Act}
use Rattle.ob_machine_calls.specs.declared.calls.Place.{Place}

-- at a place, with operands, the last one last
abbrev pub waiting_at : Place → List ℤ → Act
waiting_at p operands = record { m = p.unit; p = p.procedure; fb = p.first; pc = p.next; ops = reverse operands }
