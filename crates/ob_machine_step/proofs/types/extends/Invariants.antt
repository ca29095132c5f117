use Rattle.ob_machine_step.proofs.types.extends.Given as goal

abbrev pub ghosts-tests : goal.ghosts-tests
ghosts-tests a = record { name = a.blank.name; parts = a.blank.parts }
