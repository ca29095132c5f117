use Rattle.std.proofs.Common.{List, refl, map}
use Rattle.std.specs.List.{flat_map}
use Rattle.ob_env.specs.Faces.{wanted_of}
use Rattle.ob_uses.specs.Uses.{with_kept}
use Rattle.ob_uses.proofs.Looping.{one_more, all_done}
use Rattle.ob_uses.proofs.uses.with_prints.Goals as goal

pub pairs-preserved : goal.pairs-preserved
pairs-preserved g c =
    let f = with_kept (g.P.Prints.prints c.args.prints.now) in
    one_more f (flat_map f) (λ _ _. refl) c.args.pairs.now c.pairs.pair-index c.pair-item.result (map wanted_of c.pairs.all) (map wanted_of c.add_use.new.all) _ c.pairs-test.true c.pair-item.is c.in_ok-add_use.ensures c.pairs.invariant

pub returns : goal.returns
returns g c =
    let f = with_kept (g.P.Prints.prints c.args.prints.now) in
    all_done (flat_map f) refl c.args.pairs.now c.pairs.pair-index (map wanted_of c.pairs.all) _ c.pairs-test.false c.pairs.invariant
