use Rattle.std.specs.Prelude.{map}
use Rattle.std.proofs.Common.{◌≡◌, ◌≤◌, ◌+◌, drop}
use Rattle.ob_types.specs.TypedView.{procedure_view}
use Rattle.ob_gproc_length.specs.Lengths.{capped}
use Rattle.ob_gproc_length.specs.Whole.{procedures_lines}
use Rattle.ob_gproc_length.proofs.limits.lines_of_procedures.Given as goal

-- the lines so far, and those of the rest, are those of the whole
abbrev pub invariant-procedures : goal.invariant-procedures
invariant-procedures g l = (capped (l.lines + procedures_lines (g.T.Types.types l.types) (map procedure_view (drop l.procedure-index l.procedures))) ≡ capped (procedures_lines (g.T.Types.types l.types) (map procedure_view l.procedures))) × (l.lines ≤ 262145)
