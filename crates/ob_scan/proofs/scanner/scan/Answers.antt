use Rattle.std.proofs.Common.{◌∙◌, sym}
use Rattle.ob_scan.specs.Scanning.{start_of}
use Rattle.ob_scan.proofs.Leads.{leads_on, not_end}
use Rattle.ob_scan.proofs.scanner.scan.Goals as goal

pub more-preserved : goal.more-preserved
more-preserved c = rw c.in_ok-push.ensures.ok
    (leads_on (start_of c.args.text.now) c.more.found c.more.scanner c.next.new.self _ c.more.invariant c.in_ok-t.ensures.step (not_end c.in_ok-t.t (sym c.eq.ensures ∙ c.if-eq.false)))
