use Rattle.std.proofs.Common.{◌≡◌, ◌≤◌, ◌-◌, length, List, map, take, sym, ap, subst, ◌∙◌, arith}
use Rattle.std.proofs.lemmas.List.{length-take}
use Rattle.ob_link.specs.Members.{Known}
use Rattle.ob_link.proofs.Places.{names_cut}
use Rattle.ob_link.proofs.loaded.Loaded.cut_last.Goals as goal

pub invariant_of-self : goal.invariant_of-self
invariant_of-self c =
    let ks = c.self.inside.members.items in
    let k = c.len-last.result - 1 in
    let at : k ≡ length ks - 1 = ap (λ n. n - 1) (c.len-last.ensures ∙ c.self.inside.members.ok.0) in
    let few : length (take k ks) ≤ 255 = omega (arith, length-take k ks, c.self.invariant.1) in (
      c.cut_last.ensures ∙ names_cut c.self.inside.names ks k c.self.invariant.0 at ∙ ap (λ (l : List Known). map (λ x. x.name) l) (sym c.truncate.ensures.items),
      subst (λ (l : List Known). length l ≤ 255) (sym c.truncate.ensures.items) few,
    )
