use Rattle.std.proofs.Common.{◌≡◌, suc, ◌-◌, ◌<◌, length, get_or, take, ap, sym, subst, ◌∙◌, arith}
use Rattle.std.specs.Prelude.{map}
use Rattle.std.proofs.lemmas.List.{take-map, length-take, length-map}
use Rattle.ob_machine_image.specs.Names.{name_of}
use Rattle.ob_machine_image.specs.Index.{IsIndexed}
use Rattle.ob_machine_image.proofs.Bases.{bases_cut}
use Rattle.ob_machine_image.proofs.Indexing.{indexed_less}
use Rattle.ob_machine_image.proofs.types.Types.cut_last.Goals as goal

pub invariant_of-self : goal.invariant_of-self
invariant_of-self c =
    let t = c.self.inside in
    let list = t.table.list in
    let k = c.len-last.result - 1 in
    let n : c.len-last.result ≡ length list = c.len-last.ensures ∙ t.names.ok.0 ∙ ap length c.self.invariant.0 ∙ length-map list name_of in
    let some : 0 < length list = subst (λ l. 0 < length l) (sym c.self.view_is) c.requires in
    let long : length list ≡ suc k = omega (arith, n, some) in
    let at : c.index.result.now ≡ get_or (map name_of list) k c.index.result.now = subst (λ l. c.index.result.now ≡ get_or l k c.index.result.now) c.self.invariant.0 c.index.ensures in
    let e : c.cut.new.self.list ≡ take k list = c.cut.ensures.list in
    let short = length-take k list in (
      c.truncate.ensures.items ∙ ap (take k) c.self.invariant.0 ∙ take-map name_of k list ∙ ap (map name_of) (sym e),
      rw e (omega (arith, c.self.invariant.1)),
      rw e (bases_cut k list c.self.invariant.2),
      subst (IsIndexed c.forget.new.self.modules) (sym e) (indexed_less t.index.modules c.forget.new.self.modules list k c.index.result.now long at c.self.invariant.3 c.forget.ensures),
    )
