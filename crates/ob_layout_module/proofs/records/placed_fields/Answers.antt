use Rattle.std.proofs.Common.{◌≡◌, ◌+◌, ◌++◌, ◌∷◌, [], List, drop, map, length, subst, sym, ap, ◌∙◌}
use Rattle.std.proofs.lemmas.List.{drop_more}
use Rattle.ob_types.specs.declared.types.TypeRef.{TypeRef}
use Rattle.ob_types.specs.declared.desc.Field.{Field}
use Rattle.ob_types.specs.TypedView.{module_view}
use Rattle.ob_env.specs.Faces.{faces_of, described}
use Rattle.ob_layout.specs.LaidOut.{words_in}
use Rattle.ob_layout_module.specs.Placed.{placed_behind}
use Rattle.ob_layout_module.proofs.Keeping.{placed_step}
use Rattle.ob_layout_module.proofs.records.placed_fields.Goals as goal

pub fields-preserved : goal.fields-preserved
fields-preserved c =
    placed_step (words_in (described (faces_of c.args.view.now.env.now)) (module_view c.args.view.now.«module».now)) c.fields.all c.in_ok-one.one c.fields.at c.next_place-at.result c.args.fields.now c.fields.field-index c.field-item.result c.push.new.self
    (placed_behind (words_in (described (faces_of c.args.view.now.env.now)) (module_view c.args.view.now.«module».now)) c.args.from c.args.fields.now)
    c.fields-test.true c.field-item.is c.fields.invariant c.in_ok-one.ensures c.in_ok-push.ensures.ok c.next_place-at.ensures
