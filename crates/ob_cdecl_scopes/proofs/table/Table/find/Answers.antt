use Rattle.std.proofs.Common.{ap, ◌∙◌}
use Rattle.std.specs.Prelude.{bytes_eq, slice_get}
use Rattle.std.specs.List.{find}
use Rattle.ob_cdecl_scopes.specs.Stacks.{latest}
use Rattle.ob_cdecl_scopes.proofs.Finding.{finds, finds_none}
use Rattle.ob_cdecl_scopes.proofs.table.Table.find.Goals as goal

pub returns-in-None : goal.returns-in-None
returns-in-None g c =
    let name = g.T.Named.name in
    let x = c.args.name.now in
    let items = c.self.inside.items.items in
    finds_none name items x (c.in-None.ensures ∙ ap (λ l. latest l x) c.self.invariant) ∙ ap (λ l. find (λ y. bytes_eq (name y) x) l) c.self.view_is

pub returns-in-Some : goal.returns-in-Some
returns-in-Some g c =
    let name = g.T.Named.name in
    let x = c.args.name.now in
    let items = c.self.inside.items.items in
    c.item_at.ensures ∙ ap (λ l. slice_get l c.in-Some.place) c.deref.ensures.value ∙ finds name items x c.in-Some.place (c.in-Some.ensures ∙ ap (λ l. latest l x) c.self.invariant) ∙ ap (λ l. find (λ y. bytes_eq (name y) x) l) c.self.view_is
