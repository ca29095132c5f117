use Rattle.ob_cexpr_call.proofs.bound.+nearest_sound.Given as goal

abbrev pub decreases-nearest_sound : goal.decreases-nearest_sound
decreases-nearest_sound g l = l.left
