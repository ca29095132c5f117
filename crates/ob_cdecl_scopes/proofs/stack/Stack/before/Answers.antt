use Rattle.std.proofs.Common.{◌≡◌, ◌<◌, ◌∙◌, ap, sym, ◌-◌, ◌+◌, length, arith, Some}
use Rattle.std.proofs.lemmas.List.{length-reverse, length-map}
use Rattle.std.specs.Prelude.{reverse}
use Rattle.ob_cdecl_scopes.specs.Stacks.{before_at, name_of}
use Rattle.ob_cdecl_scopes.proofs.Stacking.{before_place}
use Rattle.ob_cdecl_scopes.proofs.stack.Stack.before.Goals as goal

pub returns : goal.returns
returns c =
    let ks = c.self.inside.keys.items in
    let long : length c.args.self.now ≡ length ks = ap length (sym c.self.view_is) ∙ length-map (reverse ks) name_of ∙ length-reverse ks in
    let lt : c.args.place < length ks = omega (arith, c.requires) in
    ap (λ k. Some k.before) c.index.ensures ∙ before_place ks c.args.place c.index.result.now c.self.invariant.0 lt ∙ ap (λ l. before_at l (length l - (c.args.place + 1))) c.self.view_is
