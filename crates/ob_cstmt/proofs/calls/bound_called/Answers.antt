use Rattle.std.proofs.Common.{◌≡◌, sym, ap, ◌∙◌, [], true, false}
use Rattle.ob_rules.specs.declared.meant.Where.TheVariants.{AsStatement}
use Rattle.ob_rules.specs.Books.{book_after}
use Rattle.ob_rules.specs.Calls as calls
use Rattle.ob_rules.specs.Designators as designators
use Rattle.ob_rules.specs.Judged.{◌▷◌}
use Rattle.ob_rules.specs.Statements as spec
use Rattle.ob_rules.proofs.BookLaws.{after_none}
use Rattle.ob_cstmt.proofs.CallLaws.{bound_made, bound_noted}
use Rattle.ob_cstmt.proofs.calls.bound_called.Goals as goal

pub returns-then-sound-clause-made : goal.returns-then-sound-clause-made
returns-then-sound-clause-made g c =
    bound_made c.nearest_called.result (g.S.Surroundings.around c.args.here.now) c.args.start c.args.chosen true (sym c.if-sound.true ∙ c.is_nearest_sound-sound.ensures) c.nearest_called.ensures.made

pub returns-then-sound-clause-noted : goal.returns-then-sound-clause-noted
returns-then-sound-clause-noted g c =
    bound_noted c.nearest_called.result (g.S.Surroundings.around c.args.here.now) c.args.start c.args.chosen true c.args.book.now c.nearest_called.new.book (sym c.if-sound.true ∙ c.is_nearest_sound-sound.ensures) c.nearest_called.ensures.noted

pub returns-else-sound-clause-made : goal.returns-else-sound-clause-made
returns-else-sound-clause-made g c =
    let u = g.S.Surroundings.around c.args.here.now in
    let nearest : false ≡ calls.nearest_sound u 201 (calls.where_from c.args.chosen c.args.chosen.base) c.args.chosen.method.name = sym c.if-sound.false ∙ c.is_nearest_sound-sound.ensures in
    ap (λ b. (designators.as_call (calls.call_bound_sound b u AsStatement c.args.start c.args.chosen []) ▷ spec.done).node) nearest

pub returns-else-sound-clause-noted : goal.returns-else-sound-clause-noted
returns-else-sound-clause-noted g c =
    let u = g.S.Surroundings.around c.args.here.now in
    let nearest : false ≡ calls.nearest_sound u 201 (calls.where_from c.args.chosen c.args.chosen.base) c.args.chosen.method.name = sym c.if-sound.false ∙ c.is_nearest_sound-sound.ensures in
    sym (after_none c.args.book.now) ∙ ap (λ b. book_after c.args.book.now (designators.as_call (calls.call_bound_sound b u AsStatement c.args.start c.args.chosen []) ▷ spec.done).notes) nearest
