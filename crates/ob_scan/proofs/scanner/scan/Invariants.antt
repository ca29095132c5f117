use Rattle.std.proofs.Common.{length}
use Rattle.ob_scan.specs.Scanning.{Leads, start_of}
use Rattle.ob_scan.proofs.scanner.scan.Given as goal

abbrev pub invariant-more : goal.invariant-more
invariant-more l = Leads (start_of l.text) l.found l.scanner

abbrev pub decreases-more : goal.decreases-more
decreases-more l = length l.scanner.text
