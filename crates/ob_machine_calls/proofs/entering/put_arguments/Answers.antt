use Rattle.std.proofs.Common.{◌≡◌, length, pos, get_or, rules, ◌∙◌, arith}
use Rattle.std.proofs.lemmas.Int.{to_z-of_z}
use mir.Syntax.{w32, w64}
use mir.Val.{SFits}
use Rattle.ob_machine_calls.proofs.Copied.{one_put, two_put}
use Rattle.ob_machine_calls.proofs.entering.put_arguments.Goals as goal

pub returns-in-len1 : goal.returns-in-len1
returns-in-len1 c =
    let args = c.args.args.now in
    let a : SFits w64 c.from.result = search rules in
    let v : SFits w32 (get_or args 0 (pos 0)) = search rules in
    let one : length args ≡ 1 = omega (arith, c.in-len1.len_at_least, c.in-len1.len_below) in
    one_put c.args.words.now c.store.new.self args c.args.first _ _ (pos 0) c.store.ensures.after (to_z-of_z w64 _ a ∙ c.from.ensures) (to_z-of_z w32 _ v) one c.requires.some (omega (arith, c.requires.room, c.len.ensures.len, c.len.ensures.least))

pub returns-in-len2 : goal.returns-in-len2
returns-in-len2 c =
    let args = c.args.args.now in
    let a : SFits w64 c.from-in-len2.result = search rules in
    let b : SFits w64 c.from-in-len2-2.result = search rules in
    let v : SFits w32 (get_or args 0 (pos 0)) = search rules in
    let u : SFits w32 (get_or args 1 (pos 0)) = search rules in
    let two : length args ≡ 2 = omega (arith, c.in-len2.len_at_least, c.in-len2.len_below) in
    two_put c.args.words.now c.store-in-len2.new.self c.store-in-len2-2.new.self args c.args.first _ _ _ _ (pos 0) c.store-in-len2.ensures.after c.store-in-len2-2.ensures.after (to_z-of_z w64 _ a ∙ c.from-in-len2.ensures) (to_z-of_z w32 _ v) (to_z-of_z w64 _ b ∙ c.from-in-len2-2.ensures) (to_z-of_z w32 _ u) two c.requires.some (omega (arith, c.requires.room, c.len.ensures.len, c.len.ensures.least))
