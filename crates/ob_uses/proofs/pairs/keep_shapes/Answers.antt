use Rattle.std.proofs.Common.{[], ◌∷◌, ◌++◌, ◌&&◌, cond, ap, ◌∙◌}
use Rattle.ob_uses.specs.declared.pair.Pair.{Pair}
use Rattle.ob_uses.specs.Ways.{is_foreign}
use Rattle.ob_uses.proofs.Looping.{kept_one}
use Rattle.ob_uses.proofs.pairs.keep_shapes.Goals as goal

pub pairs-preserved : goal.pairs-preserved
pairs-preserved c =
    kept_one (λ (p : Pair). is_foreign c.args.own.now p.object) c.in-Some.pair c.pairs.found.items c.keep.new.found.items _ c.pairs.left.keys c.pop_first.new.self.keys c.in-Some.ensures.removal
    (c.in_ok-keep.ensures ∙ ap (λ b. c.pairs.found.items ++ cond b (c.in-Some.pair ∷ []) []) c.is_foreign-kept.ensures) c.pairs.invariant
