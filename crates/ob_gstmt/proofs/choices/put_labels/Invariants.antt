use Rattle.std.proofs.Common.{◌≡◌, drop}
use Rattle.ob_scheme.specs.Coded.{appended, place_in}
use Rattle.ob_scheme.specs.Statements.{labels_code}
use Rattle.ob_gstmt.proofs.choices.put_labels.Given as goal

-- what was put, and the rest after it, is the whole
abbrev pub invariant-labels : goal.invariant-labels
invariant-labels g l = appended l.code (labels_code (g.S.Scope.context l.scope) l.word (drop l.label-index l.labels) (place_in l.code) l.body) ≡ appended l.initial.code (labels_code (g.S.Scope.context l.scope) l.word l.labels (place_in l.initial.code) l.body)
