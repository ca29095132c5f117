use Rattle.ob_layout_module.proofs.sums.+words_at.Given as goal

abbrev pub decreases-words_at : goal.decreases-words_at
decreases-words_at l = l.steps
