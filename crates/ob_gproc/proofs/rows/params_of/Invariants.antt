use Rattle.std.proofs.Common.{◌≡◌, ◌++◌, drop}
use Rattle.ob_gproc.specs.Parts.{params_in}
use Rattle.ob_gproc.proofs.rows.params_of.Given as goal

-- the kinds so far, and those of the rest
abbrev pub invariant-parameters : goal.invariant-parameters
invariant-parameters g l = l.params ++ params_in (g.T.Types.types l.types) (drop l.parameter-index l.parameters) ≡ params_in (g.T.Types.types l.types) l.parameters
