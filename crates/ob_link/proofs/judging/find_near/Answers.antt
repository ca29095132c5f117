use Rattle.std.proofs.Common.{◌++◌}
use Rattle.ob_link.proofs.Near.{found_itself}
use Rattle.ob_link.proofs.judging.find_near.Goals as goal

pub returns-else-eq-clause-near : goal.returns-else-eq-clause-near
returns-else-eq-clause-near c = found_itself c.args.name.now (c.args.loaded.now ++ c.args.new.now) _ c.find.ensures

pub returns-in-None-clause-near : goal.returns-in-None-clause-near
returns-in-None-clause-near c = found_itself c.args.name.now (c.args.loaded.now ++ c.args.new.now) _ c.find-in-None.ensures
