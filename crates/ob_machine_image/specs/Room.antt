-- The room of the machine.
use Rattle.ob_instr.specs.Image.{Room}

abbrev pub room : Room
room = record { globals = 262144; stack = 1048576; activations = 4096; operands = 256 }
