use Rattle.std.proofs.Common.{rules, Some, None, sym, subst}
use Rattle.ob_cdecl_scopes.specs.Stacks.{Puts}
use Rattle.ob_cdecl_scopes.proofs.Places.{puts}
use Rattle.ob_cdecl_scopes.proofs.stack.put_back.Goals as goal

pub returns-in-None : goal.returns-in-None
returns-in-None c = subst (λ b. Puts c.args.places.now c.remove.new.self c.args.name.now b) (sym c.in-None.is) (puts c.args.name.now c.args.places.now c.remove.new.self None c.remove.ensures.updates)

pub returns-in-Some-get_mut : goal.returns-in-Some-get_mut
returns-in-Some-get_mut c =
    let new = c.get_mut.follows.lender c.in-Some.place in
    subst (λ b. Puts c.args.places.now new c.args.name.now b) (sym c.in-Some.is) (puts c.args.name.now c.args.places.now new (Some c.in-Some.place) ((c.get_mut.follows.holds c.in-Some.place).3 (search rules)))
