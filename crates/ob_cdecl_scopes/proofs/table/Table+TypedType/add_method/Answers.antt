use Rattle.std.proofs.Common.{length, map, drop, sym, ap, ◌∙◌}
use Rattle.std.specs.Prelude.{reverse}
use Rattle.ob_rules.specs.Headings.{change_type, with_method}
use Rattle.ob_rules.proofs.BookLaws.{on_ok}
use Rattle.ob_cdecl_scopes.specs.Naming.{type_name}
use Rattle.ob_cdecl_scopes.proofs.Changing.{change_reversed, same_reversed, whole_front}
use Rattle.ob_cdecl_scopes.proofs.table.Table+TypedType.add_method.Goals as goal

pub invariant_of-self : goal.invariant_of-self
invariant_of-self c =
    let items = c.self.inside.items.items in
    let news = c.add_to_types.new.types in
    let whole = whole_front type_name c.self.inside.items.len news (drop (length news) items) c.deref_mut.result.now c.deref_mut.ensures.len c.add_to_types.ensures.names in
    c.self.invariant ∙ same_reversed type_name items news (c.add_to_types.ensures.names ∙ ap (map type_name) c.deref_mut.ensures.value) ∙ ap (λ l. map type_name (reverse l)) (sym whole)

pub returns : goal.returns
returns c =
    let items = c.self.inside.items.items in
    let news = c.add_to_types.new.types in
    let x = c.args.owner.now in
    let whole = whole_front type_name c.self.inside.items.len news (drop (length news) items) c.deref_mut.result.now c.deref_mut.ensures.len c.add_to_types.ensures.names in
    on_ok c.add_to_types.result
    (λ e. ap reverse (whole ∙ e ∙ ap (change_type x (λ r. with_method r c.args.method.now)) c.deref_mut.ensures.value) ∙ change_reversed x (λ r. with_method r c.args.method.now) items ∙ ap (change_type x (λ r. with_method r c.args.method.now)) c.self.view_is)
    c.add_to_types.ensures.ok
