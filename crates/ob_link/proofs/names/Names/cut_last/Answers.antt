use Rattle.std.proofs.Common.{◌≡◌, suc, ◌-◌, ◌<◌, length, sym, subst, ◌∙◌, arith}
use Rattle.ob_link.specs.Index.{IsIndexed, Forgets}
use Rattle.ob_link.proofs.Indexing.{indexed_less}
use Rattle.ob_link.proofs.names.Names.cut_last.Goals as goal

pub invariant_of-self : goal.invariant_of-self
invariant_of-self c =
    let list = c.self.inside.names.items in
    let k = c.len-last.result - 1 in
    let n : c.len-last.result ≡ length list = c.len-last.ensures ∙ c.self.inside.names.ok.0 in
    let some : 0 < length list = subst (λ l. 0 < length l) (sym c.self.view_is) c.requires in
    let long : length list ≡ suc k = omega (arith, n, some) in
    let forgets : Forgets c.self.inside.index.places c.forget.new.self.places c.index.result.now k = subst (λ x. Forgets c.self.inside.index.places c.forget.new.self.places x k) c.as_bytes.ensures c.forget.ensures in
    subst (IsIndexed c.forget.new.self.places) (sym c.truncate.ensures.items) (indexed_less c.self.inside.index.places c.forget.new.self.places list k c.index.result.now long c.index.ensures c.self.invariant forgets)
