use Rattle.std.proofs.Common.{Ok, Err}
use Rattle.ob_parse_expr.proofs.Texts.{turn}
use Rattle.ob_parse_expr.proofs.behind.scanned.Goals as goal

pub returns-in-Ok : goal.returns-in-Ok
returns-in-Ok c = turn c.args.scanner.now (Ok c.in-Ok.t) c.next.new.self c.in-Ok.ensures.step

pub returns-in-Err : goal.returns-in-Err
returns-in-Err c = turn c.args.scanner.now (Err c.in-Err.field-0) c.next.new.self c.in-Err.ensures.step
