use Rattle.std.proofs.Common.{◌∙◌, sym, [], ◌∷◌, ◌++◌}
use Rattle.ob_scan.specs.Scanning.{start_of}
use Rattle.ob_scan.proofs.Leads.{leads_on, scans_all, scans_fault, not_end}
use Rattle.ob_parse_text.proofs.Tokens.{is_end, fault_is}
use Rattle.ob_parse_text.proofs.text.scan_through.Goals as goal

pub more-preserved : goal.more-preserved
more-preserved c = (c.more.invariant.0 ++ c.in_ok-t.t ∷ [], leads_on (start_of c.args.text.now) c.more.invariant.0 c.more.scanner c.next.new.self _ c.more.invariant.1 c.in_ok-t.ensures.step (not_end c.in_ok-t.t (sym c.eq.ensures ∙ c.if-eq.false)))

pub returns-in_err-t : goal.returns-in_err-t
returns-in_err-t c =
    fault_is (start_of c.args.text.now) _ _
    (scans_fault (start_of c.args.text.now) c.more.invariant.0 c.more.scanner c.next.new.self _ c.more.invariant.1 c.in_err-t.ensures.step)
    c.from_residual.ensures.1

pub returns-then-eq : goal.returns-then-eq
returns-then-eq c = (
  c.more.invariant.0 ++ c.in_ok-t.t ∷ [],
  scans_all (start_of c.args.text.now) c.more.invariant.0 c.more.scanner c.next.new.self c.in_ok-t.t c.more.invariant.1 c.in_ok-t.ensures.step
      (is_end c.in_ok-t.t (sym c.eq.ensures ∙ c.if-eq.true)),
)
