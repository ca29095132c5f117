use Rattle.ob_demo.proofs.+put_procedures.Given as goal

abbrev pub decreases-put_procedures : goal.decreases-put_procedures
decreases-put_procedures l = l.count
