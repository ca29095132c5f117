use Rattle.std.proofs.Common.{◌≡◌, ◌-◌, length, take, sym, ◌∙◌, arith}
use Rattle.std.proofs.lemmas.List.{length-take, take_all}
use Rattle.ob_machine_image.proofs.Whole.{taken_twice}
use Rattle.ob_machine_image.proofs.types.Types.cut.Goals as goal

pub loop-count-preserved : goal.loop-count-preserved
loop-count-preserved c =
    let s = c.loop-count.self in
    let i = c.loop-count.invariant in
    let e : c.cut_last.new.self ≡ take (length s - 1) s = c.cut_last.ensures in
    let n = length-take (length s - 1) s in (
      rw e (omega (arith, i.0, i.2, c.loop-count-test.true)),
      rw e (taken_twice c.args.types (length s - 1) s (omega (arith, i.0, i.2, c.loop-count-test.true)) ∙ i.1),
      omega (arith, i.0, i.2, c.loop-count-test.true),
    )

pub returns : goal.returns
returns c =
    let s = c.loop-count.self in
    let i = c.loop-count.invariant in
    sym (take_all c.args.types s (omega (arith, i.0, i.2, c.loop-count-test.false))) ∙ i.1
