use Rattle.std.proofs.Common.{subst, sym, suc, length}
use Rattle.ob_parse_expr.specs.Left.{NamesFit}
use Rattle.ob_parse_expr.proofs.Texts.{names_fit_in}
use Rattle.ob_parse_expr.proofs.cursor.Cursor.of_text.Goals as goal

pub invariant_of-result : goal.invariant_of-result
invariant_of-result c = subst NamesFit (sym c.scanned-next.ensures) (names_fit_in (suc (length c.new-scanner.result.text)) c.new-scanner.result)
