use Rattle.std.proofs.Common.{◌≡◌, length, refl, ap, sym, ◌∙◌, arith}
use Rattle.ob_tdesc.proofs.Tables.{length_list}
use Rattle.ob_tdesc.proofs.Kept.{kept_same}
use Rattle.ob_tdesc.proofs.descriptors.Descriptors.reserve.Goals as goal

pub invariant_of-self : goal.invariant_of-self
invariant_of-self c = kept_same c.self.inside _ c.self.invariant c.reserve.ensures.items refl (omega arith) (omega arith) (omega arith)

pub invariant_of-self-in_err-reserve-2 : goal.invariant_of-self-in_err-reserve-2
invariant_of-self-in_err-reserve-2 c = kept_same c.self.inside _ c.self.invariant c.reserve.ensures.items c.reserve-2.ensures.items (omega arith) (omega arith) (omega arith)

pub invariant_of-self-2 : goal.invariant_of-self-2
invariant_of-self-2 c =
    let long : length c.args.self.now.list ≡ length c.self.inside.entries.items = ap length (sym (ap (λ v. v.list) c.self.view_is)) ∙ length_list c.self.inside.methods.items c.self.inside.entries.items in
    let few = c.requires in
    kept_same c.self.inside _ c.self.invariant c.reserve.ensures.items c.reserve-2.ensures.items (omega (arith, few)) (omega (arith, c.in_ok-reserve.ensures.ok)) (omega (arith, c.in_ok-reserve-2.ensures.ok))
