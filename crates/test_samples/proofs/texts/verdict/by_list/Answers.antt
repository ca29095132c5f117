use Rattle.std.proofs.Common.{sym, subst}
use Rattle.ob_scan.specs.Scanning.{start_of}
use Rattle.ob_parse.specs.Parsed.{EndsOnce}
use Rattle.ob_parse_expr.specs.Left.{NamesFit}
use Rattle.test_samples.proofs.Scanned.{ends_once, names_fit}
use Rattle.test_samples.proofs.texts.verdict.by_list.Goals as goal

pub parse-requires-clause-ends : goal.parse-requires-clause-ends
parse-requires-clause-ends c = subst EndsOnce (sym c.as_slice.ensures) (ends_once (start_of c.args.bytes.now) c.in-Ok.tokens c.in-Ok.ensures)

pub parse-requires-clause-names : goal.parse-requires-clause-names
parse-requires-clause-names c = subst NamesFit (sym c.as_slice.ensures) (names_fit (start_of c.args.bytes.now) c.in-Ok.tokens c.in-Ok.ensures)
