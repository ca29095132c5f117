use Rattle.ob_obj.proofs.Distinct.{repeated, still_differ, seen_more}
use Rattle.ob_obj_spelling.proofs.checks.has_distinct_names.Goals as goal

pub returns-then-not-branch : goal.returns-then-not-branch
returns-then-not-branch c = repeated c.args.types.now c.loop-entry.entry-index c.entry-item.result c.as_bytes.result.now _ c.in_ok-insert.field-0 c.loop-entry-test.true c.entry-item.is c.as_bytes.ensures (c.loop-entry.invariant.0 c.as_bytes.result) c.in_ok-insert.ensures.added c.if-not-branch.true

pub loop-entry-preserved : goal.loop-entry-preserved
loop-entry-preserved c = (
  λ q. seen_more c.args.types.now c.loop-entry.entry-index c.entry-item.result c.as_bytes.result.now q.now _ _ c.loop-entry-test.true c.entry-item.is c.as_bytes.ensures (c.in_ok-insert.ensures.updates.0 q) (c.loop-entry.invariant.0 q),
  still_differ c.args.types.now c.loop-entry.entry-index c.entry-item.result c.as_bytes.result.now _ c.in_ok-insert.field-0 c.loop-entry-test.true c.entry-item.is c.as_bytes.ensures (c.loop-entry.invariant.0 c.as_bytes.result) c.in_ok-insert.ensures.added c.if-not-branch.false c.loop-entry.invariant.1,
)
