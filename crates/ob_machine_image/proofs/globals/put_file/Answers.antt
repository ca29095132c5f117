use Rattle.std.proofs.Common.{refl, ◌∙◌, arith}
use Rattle.std.specs.Prelude.{pos, replicate}
use Rattle.std.proofs.lemmas.List.{length-replicate}
use Rattle.ob_obj.specs.Images.{string_words}
use Rattle.ob_machine_image.specs.WordLaws.{put_both}
use Rattle.ob_machine_image.proofs.globals.put_file.Goals as goal

pub returns : goal.returns
returns c =
    let w = c.args.words.now in
    let n = c.args.file.now.globals.variable_words in
    let k = length-replicate n (pos 0) in
    put_both w c.clear.new.words c.put_strings.new.words c.args.at _ (replicate n (pos 0)) (string_words c.as_slice.result.now) c.clear.ensures.after c.put_strings.ensures c.requires.some (omega (arith, c.clear.ensures.long, c.requires.room)) (omega arith) ∙ rw (c.as_slice.ensures) refl
