use Rattle.std.proofs.Common.{rules, ◌∙◌, arith}
use Rattle.std.proofs.lemmas.Int.{to_z-of_z, to_z_pos}
use mir.Syntax.{w32, w64}
use mir.Val.{SFits}
use Rattle.ob_machine_calls.proofs.Copied.{copy_put}
use Rattle.ob_machine_calls.proofs.entering.put_copy.Goals as goal

pub returns-clause-after : goal.returns-clause-after
returns-clause-after c =
    let a : SFits w64 c.from.result = search rules in
    let b : SFits w64 c.from-2.result = search rules in
    let f : SFits w32 c.args.from = search rules in
    let d : SFits w64 c.from-3.result = search rules in
    let p = copy_put c.args.words.now c.copy.new.self c.store.new.self c.args.slot c.args.next c.args.count _ _ _ _ _ c.copy.ensures.after (to_z-of_z w64 _ a ∙ c.from.ensures) (to_z-of_z w64 _ b ∙ c.from-2.ensures ∙ to_z-of_z w32 c.args.from f) c.store.ensures.after (to_z-of_z w64 _ d ∙ c.from-3.ensures) (to_z_pos w32 c.args.next (omega (arith, c.requires.next))) c.requires.some (omega (arith, c.len.ensures.len, c.len.ensures.least, c.requires.slot)) in
    p.0

pub returns-clause-same : goal.returns-clause-same
returns-clause-same c =
    let a : SFits w64 c.from.result = search rules in
    let b : SFits w64 c.from-2.result = search rules in
    let f : SFits w32 c.args.from = search rules in
    let d : SFits w64 c.from-3.result = search rules in
    let p = copy_put c.args.words.now c.copy.new.self c.store.new.self c.args.slot c.args.next c.args.count _ _ _ _ _ c.copy.ensures.after (to_z-of_z w64 _ a ∙ c.from.ensures) (to_z-of_z w64 _ b ∙ c.from-2.ensures ∙ to_z-of_z w32 c.args.from f) c.store.ensures.after (to_z-of_z w64 _ d ∙ c.from-3.ensures) (to_z_pos w32 c.args.next (omega (arith, c.requires.next))) c.requires.some (omega (arith, c.len.ensures.len, c.len.ensures.least, c.requires.slot)) in
    p.1
