use Rattle.std.proofs.Common.{length}
use Rattle.ob_parse_grammar.specs.Phrase.{Tokens}
use Rattle.ob_scan.specs.Scanning.{Leads, start_of}
use Rattle.ob_parse_text.proofs.text.scan_through.Given as goal

abbrev pub invariant-more : goal.invariant-more
invariant-more l = (ts : Tokens) × Leads (start_of l.text) ts l.scanner

abbrev pub decreases-more : goal.decreases-more
decreases-more l = length l.scanner.text
