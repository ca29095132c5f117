use Rattle.std.proofs.Common.{◌≤◌, length, ap, arith}
use Rattle.ob_load.specs.Standing.{Standing}
use Rattle.ob_load.proofs.Starts.{modules_in, first_in}
use Rattle.ob_load.proofs.system.System.keep.Goals as goal

pub cut-requires-2 : goal.cut-requires-2
cut-requires-2 c =
    let s : Standing = record { members = c.self.inside.loaded; machine = c.self.inside.machine } in
    omega (arith, modules_in s c.self.invariant, c.requires, ap (λ (x : Standing). length x.members) c.self.view_is)

pub invariant_of-self : goal.invariant_of-self
invariant_of-self c =
    let s : Standing = record { members = c.self.inside.loaded; machine = c.self.inside.machine } in
    let le : c.args.modules ≤ length c.self.inside.loaded = omega (arith, c.requires, ap (λ (x : Standing). length x.members) c.self.view_is) in
    first_in s (record { members = c.cut.new.self; machine = c.cut-2.new.self }) c.args.modules c.self.invariant le (record { members = c.cut.ensures; machine = c.cut-2.ensures })
