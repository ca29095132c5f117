use Rattle.std.proofs.Common.{◌≡◌, ◌-◌, length, refl, ap, ◌∙◌, arith}
use Rattle.std.specs.Prelude.{pos, map, replicate}
use Rattle.std.proofs.lemmas.List.{length-map}
use Rattle.ob_machine_image.specs.WordLaws.{put_both}
use Rattle.ob_machine_image.proofs.globals.put_string.Goals as goal

pub returns-clause-after : goal.returns-clause-after
returns-clause-after c =
    let w = c.args.words.now in
    let s = c.args.string.now in
    let text = c.as_slice-text.result.now in
    let e : text ≡ s.text = c.as_slice-text.ensures in
    let n : length text ≡ length s.text = ap length e in
    let m = length-map text pos in
    let k = length-map s.text pos in
    put_both w c.put_text.new.words c.clear.new.words c.args.at _ (map pos text) (replicate (s.words - length text) (pos 0)) c.put_text.ensures.after c.clear.ensures.after c.requires.some (omega (arith, c.put_text.ensures.long, c.requires.room, c.requires.long)) (omega arith) ∙ rw (e) refl
