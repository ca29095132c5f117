use Rattle.std.proofs.Common.{◌≡◌, ap, ◌∙◌, arith}
use Rattle.std.specs.Prelude.{pos, unwrap_or}
use Rattle.std.proofs.lemmas.Int.{to_z_pos}
use mir.Syntax.{w64}
use mir.Val.{to_z}
use Rattle.ob_mem.specs.Words.{cleared}
use Rattle.ob_machine_image.specs.WordLaws.{cleared_as}
use Rattle.ob_machine_image.proofs.globals.clear.Goals as goal

pub returns-clause-after : goal.returns-clause-after
returns-clause-after c =
    let w = c.args.words.now in
    let at : to_z w64 c.args.at ≡ pos c.args.at = to_z_pos w64 c.args.at (omega (arith, c.requires.room)) in
    c.clear.ensures.after ∙ ap (λ l. record w { words = l }) (ap (λ z. unwrap_or (cleared w.words z c.args.count) w.words) at ∙ cleared_as w.words c.args.at c.args.count c.requires.some (omega (arith, c.len.ensures.least, c.len.ensures.len, c.requires.room)))
