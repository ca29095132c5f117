use Rattle.std.proofs.Common.{◌≡◌, refl, sym, ap, ◌∙◌, map, drop, ◌+◌, List, [], ◌∷◌, Some}
use Rattle.ob_types.specs.declared.typed.Label.{Label}
use Rattle.ob_rules.specs.Books.{book_after}
use Rattle.ob_rules.specs.Expressions as exprs
use Rattle.ob_rules.specs.Statements as spec
use Rattle.ob_rules.proofs.BookLaws.{after_none}
use Rattle.ob_cstmt_parts.specs.Seen.{rejoined}
use Rattle.ob_cstmt_parts.proofs.RowSteps.{begins, ends}
use Rattle.ob_cstmt.proofs.Steps.{map_from, map_over, labels_step}
use Rattle.ob_cstmt.proofs.labels.check_labels.Goals as goal

pub labels-init : goal.labels-init
labels-init g c =
    let w = spec.labels (g.S.Surroundings.around c.args.here.now) c.args.selects c.args.before.now (map exprs.ranged_of c.args.labels.now) in
    (begins w.found.node ∙ ap (λ xs. rejoined (Some xs) w.found.node) (sym c.new.ensures), refl, refl)

pub labels-preserved : goal.labels-preserved
labels-preserved g c =
    let u = g.S.Surroundings.around c.args.here.now in
    let i = c.labels.element-index in
    let rest = map exprs.ranged_of (drop (i + 1) c.args.labels.now) in
    let split : map exprs.ranged_of (drop i c.args.labels.now) ≡ exprs.ranged_of c.element-item.result ∷ rest = map_from exprs.ranged_of c.args.labels.now i c.element-item.result c.labels-test.true ∙ ap (λ y. exprs.ranged_of y ∷ rest) (sym c.element-item.is) in
    let one = λ (bs : List Label). spec.label u c.args.selects bs (exprs.ranged_of c.element-item.result) in
    labels_step u c.args.selects (exprs.ranged_of c.element-item.result) rest c.labels.before c.add_label.new.before c.in_ok-label.label c.labels.all c.in_ok-all.all _ c.labels.book c.check_label.new.book _ _
    (c.in_ok-label.ensures.made ∙ ap (λ bs. (one bs).node) c.as_slice.ensures)
    (c.in_ok-label.ensures.noted ∙ ap (λ bs. book_after c.labels.book (one bs).notes) c.as_slice.ensures)
    c.in_ok-add_label.ensures
    c.in_ok-all.ensures
    (c.labels.invariant.0 ∙ ap (λ rs. rejoined c.labels.all (spec.labels u c.args.selects c.labels.before rs).found.node) split)
    (c.labels.invariant.1 ∙ ap (λ rs. book_after c.labels.book (spec.labels u c.args.selects c.labels.before rs).found.notes) split)
    (c.labels.invariant.2 ∙ ap (λ rs. (spec.labels u c.args.selects c.labels.before rs).before) split)

pub returns-clause-made : goal.returns-clause-made
returns-clause-made g c =
    let u = g.S.Surroundings.around c.args.here.now in
    sym (c.labels.invariant.0 ∙ ap (λ rs. rejoined c.labels.all (spec.labels u c.args.selects c.labels.before rs).found.node) (map_over exprs.ranged_of c.args.labels.now c.labels.element-index c.labels-test.false) ∙ ends c.labels.all)

pub returns-clause-noted : goal.returns-clause-noted
returns-clause-noted g c =
    let u = g.S.Surroundings.around c.args.here.now in
    sym (c.labels.invariant.1 ∙ ap (λ rs. book_after c.labels.book (spec.labels u c.args.selects c.labels.before rs).found.notes) (map_over exprs.ranged_of c.args.labels.now c.labels.element-index c.labels-test.false) ∙ after_none c.labels.book)

pub returns-clause-before : goal.returns-clause-before
returns-clause-before g c =
    let u = g.S.Surroundings.around c.args.here.now in
    sym (c.labels.invariant.2 ∙ ap (λ rs. (spec.labels u c.args.selects c.labels.before rs).before) (map_over exprs.ranged_of c.args.labels.now c.labels.element-index c.labels-test.false))
