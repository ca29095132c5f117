use Rattle.std.proofs.Common.{◌≡◌, drop, map}
use Rattle.ob_rules.specs.Books.{book_after}
use Rattle.ob_rules.specs.Expressions as exprs
use Rattle.ob_rules.specs.Statements as spec
use Rattle.ob_cstmt_parts.specs.Seen.{rejoined}
use Rattle.ob_cstmt.proofs.labels.check_labels.Given as goal

abbrev pub invariant-labels : goal.invariant-labels
invariant-labels g l =
    ((spec.labels (g.S.Surroundings.around l.here) l.selects l.initial.before (map exprs.ranged_of l.labels)).found.node ≡ rejoined l.all (spec.labels (g.S.Surroundings.around l.here) l.selects l.before (map exprs.ranged_of (drop l.element-index l.labels))).found.node)
    × (book_after l.initial.book (spec.labels (g.S.Surroundings.around l.here) l.selects l.initial.before (map exprs.ranged_of l.labels)).found.notes ≡ book_after l.book (spec.labels (g.S.Surroundings.around l.here) l.selects l.before (map exprs.ranged_of (drop l.element-index l.labels))).found.notes)
    × ((spec.labels (g.S.Surroundings.around l.here) l.selects l.initial.before (map exprs.ranged_of l.labels)).before ≡ (spec.labels (g.S.Surroundings.around l.here) l.selects l.before (map exprs.ranged_of (drop l.element-index l.labels))).before)
