use Rattle.ob_link.proofs.Made.{all_fit}
use Rattle.ob_load.specs.Standing.{Standing}
use Rattle.ob_load.proofs.Starts.{few_in, can_in, all_in}
use Rattle.ob_load.proofs.system.System.enter.Goals as goal

pub add-requires-clause-fits : goal.add-requires-clause-fits
add-requires-clause-fits c = all_fit c.args.files c.args.self.now.machine.image c.requires

pub add-requires-clause-few : goal.add-requires-clause-few
add-requires-clause-few c =
    let s : Standing = record { members = c.self.inside.loaded; machine = c.self.inside.machine } in
    few_in s c.args.files c.count-count.result c.self.invariant c.count-count.ensures.count c.count-count.ensures.most (can_in s c.args.self.now c.args.files c.self.view_is c.requires)

pub invariant_of-self-in-Ok : goal.invariant_of-self-in-Ok
invariant_of-self-in-Ok c =
    let s : Standing = record { members = c.self.inside.loaded; machine = c.self.inside.machine } in
    all_in s (record { members = c.add.new.self; machine = c.enter.new.self }) c.args.files c.self.invariant (can_in s c.args.self.now c.args.files c.self.view_is c.requires) (record { members = c.in_ok-add.ensures; machine = c.in-Ok.ensures.1 })
