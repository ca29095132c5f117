use Rattle.std.proofs.Common.{◌≡◌, ◌+◌, length, replicate, sym, ◌∙◌, arith}
use Rattle.std.specs.Prelude.{pos}
use Rattle.ob_mem.specs.Words.{with_words}
use Rattle.ob_machine_calls.proofs.Copied.{begun, begun_plain}
use Rattle.ob_machine_calls.proofs.entering.enter_words.Goals as goal

pub returns-then-not-copies : goal.returns-then-not-copies
returns-then-not-copies c =
    let m = c.put_arguments.new.words in
    let cleared : c.clear_locals.new.words ≡ record m { words = with_words m.words (pos (c.args.first + length c.args.args.now)) (replicate c.args.q.now.locals (pos 0)) } = rw c.locals.ensures at c.clear_locals.ensures in
    begun_plain c.args.words.now m c.clear_locals.new.words c.args.q.now c.args.args.now c.args.first (sym c.copies.ensures ∙ c.if-not-copies.true) c.put_arguments.ensures cleared c.requires.some (omega (arith, c.requires.room, c.requires.slots, c.len.ensures.len, c.len.ensures.least))

pub returns : goal.returns
returns c =
    let m = c.put_arguments.new.words in
    let cleared : c.clear_locals.new.words ≡ record m { words = with_words m.words (pos (c.args.first + length c.args.args.now)) (replicate c.args.q.now.locals (pos 0)) } = rw c.locals.ensures at c.clear_locals.ensures in
    begun c.args.words.now m c.clear_locals.new.words c.make_copies.new.words c.args.q.now c.args.args.now c.args.first _ c.params.result.now c.put_arguments.ensures cleared c.params.ensures c.make_copies.ensures c.requires.slots (omega (arith, c.locals-2.ensures)) c.requires.some (omega (arith, c.requires.room, c.requires.slots, c.len.ensures.len, c.len.ensures.least))
