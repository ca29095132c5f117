use Rattle.ob_cdecl_heading.proofs.HeadLaws.{kept_again}
use Rattle.ob_cdecl_heading.proofs.heading.head_again.Goals as goal

pub returns : goal.returns
returns c = λ n s u k e. kept_again n c.args.head s u c.breaks.new.self c.args.behind k c.breaks.ensures e
