use Rattle.std.proofs.Common.{◌≡◌, ap, ◌∙◌, arith}
use Rattle.std.specs.Prelude.{pos, unwrap_or}
use Rattle.std.proofs.lemmas.Int.{to_z_pos}
use mir.Syntax.{w32, w64}
use mir.Val.{to_z}
use Rattle.ob_mem.specs.Words.{stored}
use Rattle.ob_machine_image.specs.WordLaws.{stored_as}
use Rattle.ob_machine_image.proofs.globals.put_word.Goals as goal

pub returns-clause-after : goal.returns-clause-after
returns-clause-after c =
    let w = c.args.words.now in
    let at : to_z w64 c.args.at ≡ pos c.args.at = to_z_pos w64 c.args.at (omega (arith, c.requires.room)) in
    let x : to_z w32 c.args.word ≡ pos c.args.word = to_z_pos w32 c.args.word (omega (arith, c.ranges.word)) in
    c.store.ensures.after ∙ ap (λ l. record w { words = l }) (ap (λ z. unwrap_or (stored w.words z (to_z w32 c.args.word)) w.words) at ∙ ap (λ y. unwrap_or (stored w.words (pos c.args.at) y) w.words) x ∙ stored_as w.words c.args.at (pos c.args.word) c.requires.some (omega (arith, c.len.ensures.least, c.len.ensures.len, c.requires.room)))
