use Rattle.ob_cdecl_scopes.specs.Scopes.{around_of}
use Rattle.ob_cdecl_block.proofs.ToldLaws.{pointers_noted}
use Rattle.ob_cdecl_block.proofs.left.pointers_told.Goals as goal

pub returns : goal.returns
returns g c n hs e k =
    pointers_noted n hs c.args.heads.now (around_of g.E.Types.types c.args.scope.now) c.in_ok-left.left c.args.later.now c.as_slice.result.now c.args.book.now c.pointers_judged.new.book e k c.in_ok-left.ensures c.as_slice.ensures c.in_ok-pointers_judged.ensures
