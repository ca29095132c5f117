use Rattle.ob_cexpr_name.proofs.here.types.Goals as goal

pub returns-clause-map : goal.returns-clause-map
returns-clause-map g c = g.met.S.Surroundings.all_types c.args.here.now
