use Rattle.ob_parse.proofs.modules.read_module.Goals as goal

pub returns : goal.returns
returns c = rw (← c.nest_limit.ensures) c.whole.ensures
