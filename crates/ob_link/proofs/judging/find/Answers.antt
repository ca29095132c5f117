use Rattle.ob_link.proofs.Places.{found_first, found_second}
use Rattle.ob_link.proofs.judging.find.Goals as goal

pub returns-in-Some : goal.returns-in-Some
returns-in-Some c = found_first c.args.name.now c.args.loaded.now c.args.new.now c.in-Some.member.now c.in-Some.ensures

pub returns-in-None : goal.returns-in-None
returns-in-None c = found_second c.args.name.now c.args.loaded.now c.args.new.now _ c.in-None.ensures c.find-in-None.ensures
