use Rattle.std.proofs.Common.{rules, of_calls, sym, []}
use Rattle.std.proofs.lemmas.Fn.{always_returns_same}
use Rattle.ob_types.specs.declared.face.Aspect.TheVariants as aspect
use Rattle.ob_types.specs.Spelled.{aspect_number}
use Rattle.ob_link.specs.Members.{by_export_name}
use Rattle.ob_link.proofs.Search.{export_there, no_export}
use Rattle.ob_link.proofs.finding.exported.Goals as goal

pub returns-in-Ok : goal.returns-in-Ok
returns-in-Ok c =
    let h = c.in-Ok.ensures.position (λ e. by_export_name (e.name, aspect_number e.aspect) (c.args.name.now, aspect_number c.args.aspect)) (always_returns_same _ _ _ (λ a r f k. search (rules, of_calls))) in
    sym (export_there c.args.name.now c.args.aspect c.args.exports.now c.in-Ok.place c.index-exports-place.result c.requires c.in-Ok.ensures.bound h)

pub returns-in-Err : goal.returns-in-Err
returns-in-Err c =
    let h = c.in-Err.ensures.position (λ e. by_export_name (e.name, aspect_number e.aspect) (c.args.name.now, aspect_number c.args.aspect)) (always_returns_same _ _ _ (λ a r f k. search (rules, of_calls))) in
    sym (no_export c.args.name.now c.args.aspect c.args.exports.now _ (record { name = []; aspect = aspect.Shape; print = record { 0 = [] } }) c.requires h)

pub returns-then-is_at : goal.returns-then-is_at
returns-then-is_at c = sym (export_there c.args.name.now c.args.aspect c.args.exports.now c.args.near c.index-exports-near.result c.requires (c.is_at.ensures.there c.if-is_at.true) (c.is_at.ensures.same c.if-is_at.true))
