use Rattle.ob_cdecl_heading.proofs.ForwardLaws.{forwards_seen}
use Rattle.ob_cdecl_heading.proofs.forwards.forwards_judged.Goals as goal

pub returns : goal.returns
returns g c = λ n hs k. forwards_seen (g.T.Types.types c.args.types.now) n c.args.heads.now hs c.args.book.now c.judge_forwards.new.book k c.judge_forwards.ensures
