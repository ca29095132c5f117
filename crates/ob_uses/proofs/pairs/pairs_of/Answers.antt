use Rattle.std.proofs.Common.{◌&&◌, ◌++◌, ap, ◌∙◌}
use Rattle.std.specs.List.{filter}
use Rattle.ob_types.specs.Relations.{is_record}
use Rattle.ob_types.specs.AssigningTests.{described as is_described}
use Rattle.ob_types.specs.TypedView.{module_view}
use Rattle.ob_layout.specs.Lists.{in_order}
use Rattle.ob_uses_roots.specs.Noted.{noted}
use Rattle.ob_uses.specs.Order.{by_pair}
use Rattle.ob_uses.specs.Ways.{is_foreign}
use Rattle.ob_uses.proofs.Pairing.{pairs_are, finite_names}
use Rattle.ob_uses.proofs.pairs.pairs_of.Goals as goal

pub returns-clause-steps : goal.returns-clause-steps
unfolding noted
returns-clause-steps g c = λ names all.
    let m = module_view c.args.«module».now in
    c.in_ok-pairs.ensures
    ∙ ap (in_order by_pair) (c.in_ok-keep_layouts.ensures ∙ ap (λ l. l ++ filter (λ p. is_foreign m.name p.object && is_described is_record (g.T.Types.types c.args.types.now p.object)) c.in_ok-flat.flat.keys)
    (c.in_ok-keep_shapes.ensures ∙ ap (λ l. l ++ filter (λ p. is_foreign m.name p.object) c.in_ok-near.near.keys) c.new-found.ensures.items))
    ∙ pairs_are (g.T.Types.types c.args.types.now) m names all c.as_slice-shapes.result.now c.as_slice-layouts.result.now c.in_ok-near.near.keys c.in_ok-flat.flat.keys
    (c.as_slice-shapes.ensures ∙ ap (λ n. n.shapes) c.in_ok-noted.ensures) (c.as_slice-layouts.ensures ∙ ap (λ n. n.layouts) c.in_ok-noted.ensures) c.in_ok-near.ensures c.in_ok-flat.ensures

pub returns-clause-value : goal.returns-clause-value
returns-clause-value g c =
    let f = g.T.Types.finite c.args.types.now in
    returns-clause-steps g c f.0 (finite_names (g.T.Types.types c.args.types.now) f)
