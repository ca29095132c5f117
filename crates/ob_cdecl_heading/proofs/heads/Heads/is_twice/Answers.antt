use Rattle.std.proofs.Common.{List, ℕ, map, ap, ◌∙◌}
use Rattle.std.specs.Prelude.{Bool, bytes_eq, reverse, Option}
use Rattle.std.specs.List.{find}
use Rattle.ob_rules.specs.Headings.{head_twice, bound_before}
use Rattle.ob_cdecl_heading.specs.declared.head.Head.{Head as Kept}
use Rattle.ob_cdecl_heading.specs.declared.heads.Latest.{Latest}
use Rattle.ob_cdecl_heading.specs.Keys.{key}
use Rattle.ob_cdecl_heading.specs.Kept.{seen}
use Rattle.ob_cdecl_heading.specs.Index.{entries, comes_after}
use Rattle.ob_cdecl_heading.proofs.KeyLaws.{after_by}
use Rattle.ob_cdecl_heading.proofs.heads.Heads.is_twice.Goals as goal

pub returns : goal.returns
returns c =
    let f = c.args.forward in
    let x = c.args.name.now in
    let q = c.args.owner.now in
    let items = c.self.inside.items.items in
    let F : List ℕ → Bool = λ k. comes_after f (find (λ l. bytes_eq l.key k) c.self.inside.latest) in
    let G : List Latest → Bool = λ ls. comes_after f (find (λ l. bytes_eq l.key (key x q.object)) ls) in
    let H : List Kept → Bool = λ hs. head_twice f (bound_before (map seen (reverse hs)) q x) in
    c.is_after.ensures ∙ ap (comes_after f) c.find.ensures ∙ ap F (c.as_bytes-2.ensures ∙ c.in_ok-key.ensures ∙ ap (key x) c.as_bytes.ensures) ∙ ap G c.self.invariant ∙ after_by f (reverse items) q x ∙ ap H c.self.view_is
