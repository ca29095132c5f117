-- How many lines the code of procedures has.
use Rattle.std.specs.Prelude.{ℕ, ◌+◌, List, [], ◌∷◌, Option}
use Rattle.ob_tree.specs.declared.names.QName.{QName}
use Rattle.ob_types.specs.declared.desc.Desc.{Desc}
use Rattle.ob_types.specs.TypedSyntax.{Procedure}
use Rattle.ob_gproc_length.specs.Lengths.{stmts_lines}

-- each ends in a line of its own
abbrev pub procedures_lines : (QName → Option Desc) → List Procedure → ℕ
procedures_lines types [] = 0
procedures_lines types (p ∷ ps) = stmts_lines types p.body + 1 + procedures_lines types ps
