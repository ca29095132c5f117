use Rattle.std.proofs.Common.{◌≡◌, OnOk, subst}
use Rattle.ob_cdecl_scopes.specs.Scopes.{around_of}
use Rattle.ob_rules.specs.Names.{Around}
use Rattle.ob_rules.specs.Types.{written}
use Rattle.ob_cdecl.proofs.OrderLaws.{type_opened}
use Rattle.ob_cdecl.proofs.types.type_declared.Goals as goal

pub returns-clause-around : goal.returns-clause-around
returns-clause-around g c =
    let u = around_of g.E.Types.types c.args.scope.now in
    let w = around_of g.E.Types.types c.type_judged.new.scope in
    let P : Around → Type 0 = λ x. OnOk c.type_judged.result (w ≡ x) in
    subst P (type_opened c.args.d.now (written c.args.node.now) u) c.type_judged.ensures.around
