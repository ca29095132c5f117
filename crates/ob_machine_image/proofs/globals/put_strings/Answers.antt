use Rattle.std.proofs.Common.{◌≡◌, ◌≤◌, length, subst, ap, ◌+◌, arith}
use Rattle.std.specs.List.{AllByRecursion}
use Rattle.ob_obj.specs.declared.parts.StringConst.{StringConst}
use Rattle.ob_obj.specs.Grammar.{words_of}
use Rattle.ob_obj.specs.Images.{string_words}
use Rattle.ob_machine_image.specs.WordLaws.{put_more}
use Rattle.ob_machine_image.proofs.Placing.{parted, strings_parted, words_in, length_words}
use Rattle.ob_machine_image.proofs.globals.put_strings.Goals as goal

pub loop-rest-preserved : goal.loop-rest-preserved
loop-rest-preserved c =
    let rest = c.loop-rest.rest.now in
    let s = c.string-item.result in
    let e = parted rest s c.string-item.is (omega (arith, c.in-len1-up.len_at_least)) in
    let long = subst (λ l. AllByRecursion (λ (x : StringConst). length x.text ≤ x.words) l) e c.loop-rest.invariant.long in
    let n = length_words s long.0 in
    let sum : words_of rest ≡ s.words + words_of _ = ap words_of e in
    record {
      puts = put_more c.loop-rest.words _ _ c.loop-rest.next _ (words_in s) _ (string_words rest) c.put_string.ensures.after c.loop-rest.invariant.puts (strings_parted rest _ s e) c.loop-rest.invariant.some (omega (arith, c.put_string.ensures.long, c.loop-rest.invariant.room, c.requires.room)) (omega arith);
      room = omega (arith, c.loop-rest.invariant.room);
      some = omega (arith, c.loop-rest.invariant.some);
      long = long.1;
    }
