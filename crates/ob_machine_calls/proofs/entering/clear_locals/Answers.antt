use Rattle.std.proofs.Common.{rules, ◌∙◌, arith}
use Rattle.std.proofs.lemmas.Int.{to_z-of_z}
use mir.Syntax.{w64}
use mir.Val.{SFits}
use Rattle.ob_machine_calls.proofs.Copied.{cleared_some, cleared_none}
use Rattle.ob_machine_calls.proofs.entering.clear_locals.Goals as goal

pub returns-then-count-gt0 : goal.returns-then-count-gt0
returns-then-count-gt0 c =
    let a : SFits w64 c.from.result = search rules in
    cleared_some c.args.words.now c.clear.new.self c.args.at c.args.count _ c.clear.ensures.after (to_z-of_z w64 _ a ∙ c.from.ensures) c.requires.some (omega (arith, c.requires.room, c.len.ensures.len, c.len.ensures.least))

pub returns-else-count-gt0 : goal.returns-else-count-gt0
returns-else-count-gt0 c = cleared_none c.args.words.now c.args.at c.args.count (omega (arith, c.if-count-gt0.false))
