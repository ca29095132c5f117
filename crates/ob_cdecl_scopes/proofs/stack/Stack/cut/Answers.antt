use Rattle.std.proofs.Common.{length, arith, ap, ◌∙◌}
use Rattle.std.proofs.lemmas.List.{length-drop}
use Rattle.ob_cdecl_scopes.proofs.Stacking.{dropped, cut_to}
use Rattle.ob_cdecl_scopes.proofs.stack.Stack.cut.Goals as goal

pub names-preserved : goal.names-preserved
names-preserved c =
    let i = c.names.invariant in
    let d = dropped c.args.self.now c.names.self c.pop.new.self c.args.left c.pop.ensures i.0 i.1 (omega (arith, c.len.ensures, c.names-test.true)) in
    let shorter = ap length c.pop.ensures ∙ length-drop 1 c.names.self in
    (d.0, d.1, omega (arith, shorter, i.2, c.len.ensures, c.names-test.true))

pub returns : goal.returns
returns c = cut_to c.args.self.now c.names.self c.args.left c.names.invariant.0 c.names.invariant.1 c.names.invariant.2 (omega (arith, c.len.ensures, c.names-test.false))
