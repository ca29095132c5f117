use Rattle.std.proofs.Common.{pos, ◌<ℤ◌, ◌≤ℤ◌, arith}
use Rattle.std.proofs.lemmas.Int.{ints}
use Rattle.ob_machine_step.proofs.Endings.{low_missing}
use Rattle.ob_machine_step.proofs.texts.text_ending.Goals as goal

pub returns-then-at-le0 : goal.returns-then-at-le0
returns-then-at-le0 c =
    let a : pos 0 <ℤ c.args.len = grind (arith, ints) in
    let b : c.args.at ≤ℤ pos 0 = grind (arith, ints) in
    low_missing c.args.words.now.words c.args.at c.args.len a b
