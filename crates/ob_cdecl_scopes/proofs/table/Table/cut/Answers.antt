use Rattle.std.proofs.Common.{◌-◌, length, map, drop, ap, sym, ◌∙◌}
use Rattle.std.specs.Prelude.{reverse}
use Rattle.ob_cdecl_scopes.proofs.Finding.{reverse_taken, drop_mapped}
use Rattle.ob_cdecl_scopes.proofs.table.Table.cut.Goals as goal

pub invariant_of-self : goal.invariant_of-self
invariant_of-self g c =
    let name = g.T.Named.name in
    let items = c.self.inside.items.items in
    c.cut.ensures ∙ ap (λ l. drop (length l - c.args.left) l) c.self.invariant ∙ drop_mapped name c.args.left (reverse items) ∙ ap (map name) (sym (reverse_taken items c.args.left) ∙ ap reverse (sym c.truncate.ensures.items))

pub returns : goal.returns
returns g c =
    ap reverse c.truncate.ensures.items ∙ reverse_taken c.self.inside.items.items c.args.left ∙ ap (λ l. drop (length l - c.args.left) l) c.self.view_is
