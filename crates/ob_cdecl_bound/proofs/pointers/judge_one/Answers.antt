use Rattle.ob_cdecl_scopes.specs.Scopes.{around_of}
use Rattle.ob_cdecl_bound.specs.Told.{at_notes}
use Rattle.ob_cdecl_bound.proofs.PointerLaws.{judged_one}
use Rattle.ob_cdecl_bound.proofs.pointers.judge_one.Goals as goal

pub returns : goal.returns
returns g c b t e =
    judged_one (around_of g.E.Types.types c.args.scope.now) c.args.left.now b c.tell.new.book (at_notes c.args.progress.now t) c.tell.new.progress c.base_name-base.result.now c.is_wrong.result c.has-unsound.result c.comes_back-back.result c.is_told-told.result c.base_name-base.ensures c.has-unsound.ensures (c.comes_back-back.ensures t) c.is_wrong.ensures (c.is_told-told.ensures t) (c.in_ok-tell.ensures b t e)
