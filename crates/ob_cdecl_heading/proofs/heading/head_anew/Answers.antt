use Rattle.ob_cdecl_heading.proofs.HeadLaws.{kept_anew}
use Rattle.ob_cdecl_heading.proofs.heading.head_anew.Goals as goal

pub returns : goal.returns
returns c = λ n s u k e. kept_anew n c.args.head s u c.args.behind k e
