use Rattle.std.proofs.Common.{◌≡◌, drop}
use Rattle.std.specs.List.{list_any}
use Rattle.ob_rules.specs.Statements as spec
use Rattle.ob_cstmt_parts.proofs.cases.occurs.Given as goal

abbrev pub invariant-labels : goal.invariant-labels
invariant-labels l = list_any (spec.overlaps l.low l.high) l.before ≡ list_any (spec.overlaps l.low l.high) (drop l.label-index l.before)
