-- The code so far, and the code with more lines behind it.
use Rattle.std.specs.Prelude.{ℕ, List, [], ◌++◌, length, slice_set}
use Rattle.ob_instr.specs.declared.instr.Instr.{Instr}
use Rattle.ob_instr.specs.declared.procedure.Position.{Position}
use Rattle.ob_scheme.specs.Lines.{Line}
use Rattle.ob_tree.specs.declared.names.QName.{QName}
use Rattle.ob_scheme.specs.Numbers.{Named, nothing_named, instrs_in, with_lines, positions_at, with_one, same_type}

pub record Coded : Type 0 where
  pub instrs : List Instr
  pub positions : List Position
  pub named : Named

abbrev pub nothing_coded : ℕ → Coded
nothing_coded words = record { instrs = []; positions = []; named = nothing_named words }

unfoldable pub appended : Coded → List Line → Coded
appended c ls = record { instrs = c.instrs ++ instrs_in c.named ls; positions = c.positions ++ positions_at (length c.instrs) ls; named = with_lines c.named ls }

-- the index of the next line
abbrev pub place_in : Coded → ℕ
place_in c = length c.instrs

-- one instruction written anew
unfoldable pub with_instr : Coded → ℕ → Instr → Coded
with_instr c n i = record c { instrs = slice_set c.instrs n i }

-- a record type of another module named, with no code
abbrev pub with_type : Coded → QName → Coded
with_type c q = record c { named = record c.named { types = with_one same_type c.named.types q } }
