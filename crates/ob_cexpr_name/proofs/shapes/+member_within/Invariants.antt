use Rattle.ob_cexpr_name.proofs.shapes.+member_within.Given as goal

abbrev pub decreases-member_within : goal.decreases-member_within
decreases-member_within g l = l.left
