use Rattle.std.proofs.Common.{sym, ap, ◌∙◌}
use Rattle.std.specs.Option.{option_map}
use Rattle.ob_types.specs.declared.typed.TypedType.{TypedType}
use Rattle.ob_layout.proofs.Names.{by_index, by_index_none}
use Rattle.ob_env.specs.Viewed.{type_found}
use Rattle.ob_env.proofs.view.own_type.Goals as goal

pub returns-in-None : goal.returns-in-None
returns-in-None c =
    let f = by_index_none (λ (t : TypedType). t.name) c.args.own.now.positions c.args.types.now c.args.name.now c.requires c.in-None.ensures in
    sym (type_found c.args.types.now c.args.name.now ∙ ap (option_map (λ (t : TypedType). t.desc)) f)

pub returns-in-None-item_at : goal.returns-in-None-item_at
returns-in-None-item_at c =
    let f = by_index (λ (t : TypedType). t.name) c.args.own.now.positions c.args.types.now c.args.name.now c.in-Some.at c.requires c.in-Some.ensures in
    ap (option_map (λ (t : TypedType). t.desc)) (c.in-None-item_at.ensures ∙ sym f) ∙ sym (type_found c.args.types.now c.args.name.now)

pub returns-in-Some-item_at : goal.returns-in-Some-item_at
returns-in-Some-item_at c =
    let f = by_index (λ (t : TypedType). t.name) c.args.own.now.positions c.args.types.now c.args.name.now c.in-Some.at c.requires c.in-Some.ensures in
    ap (option_map (λ (t : TypedType). t.desc)) (c.in-Some-item_at.ensures ∙ sym f) ∙ sym (type_found c.args.types.now c.args.name.now)
