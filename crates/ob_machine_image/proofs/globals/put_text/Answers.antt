use Rattle.std.proofs.Common.{rules, get_or, refl, ◌∷◌, [], arith}
use Rattle.std.specs.Prelude.{pos, map}
use Rattle.ob_machine_image.specs.WordLaws.{put_more}
use Rattle.ob_machine_image.proofs.Placing.{parted, text_parted}
use Rattle.ob_machine_image.proofs.globals.put_text.Goals as goal

pub loop-rest-preserved : goal.loop-rest-preserved
loop-rest-preserved c =
    let rest = c.loop-rest.rest.now in
    let x = get_or rest 0 0 in
    let e = parted rest x (search rules) (omega (arith, c.in-len1-up.len_at_least)) in
    record {
      puts = put_more c.loop-rest.words _ _ c.loop-rest.next _ (pos x ∷ []) _ (map pos rest) c.put_word.ensures.after c.loop-rest.invariant.puts (text_parted rest _ x e) c.loop-rest.invariant.some (omega (arith, c.put_word.ensures.long, c.loop-rest.invariant.room, c.requires.room)) refl;
      room = search rules;
      some = omega arith;
    }
