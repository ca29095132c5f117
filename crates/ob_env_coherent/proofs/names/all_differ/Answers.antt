use Rattle.std.proofs.Common.{◌≡◌, ℕ, suc, ◌-◌, ◌<◌, true, List, length, get_or, sym, ap, subst, ◌∙◌, arith}
use Rattle.std.specs.Option.{is_some}
use Rattle.ob_layout.specs.Index.{at_name}
use Rattle.ob_env_coherent.proofs.Distinct.{HasFrom, twice_here}
use Rattle.ob_env_coherent.proofs.names.all_differ.Goals as goal

pub returns-then-is_some : goal.returns-then-is_some
returns-then-is_some c =
    let below : c.loop-at.at - 1 < length c.args.names.now = omega arith in
    let one : c.loop-at.at ≡ suc (c.loop-at.at - 1) = omega arith in
    let name : c.as_bytes.result.now ≡ get_or c.args.names.now (c.loop-at.at - 1) c.as_bytes.result.now = subst (λ (x : List ℕ). x ≡ get_or c.args.names.now (c.loop-at.at - 1) x) (sym c.as_bytes.ensures) c.index-names-at.is in
    let has = subst (λ (n : ℕ). HasFrom c.loop-at.later.positions n c.args.names.now) one c.loop-at.invariant.has in
    let there : is_some (at_name c.loop-at.later.positions c.as_bytes.result.now) ≡ true = ap is_some (sym c.get.ensures) ∙ sym c.if-is_some.ensures in
    sym (twice_here c.args.names.now (c.loop-at.at - 1) c.as_bytes.result.now c.loop-at.later.positions below name has there)
