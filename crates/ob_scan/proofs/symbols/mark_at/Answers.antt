use Rattle.std.proofs.Common.{◌∙◌, sym}
use Rattle.ob_scan.proofs.Beginnings.{by_two, by_one, by_none}
use Rattle.ob_scan.proofs.symbols.mark_at.Goals as goal

pub returns-in-Some : goal.returns-in-Some
returns-in-Some c = sym (by_two c.args.text.now c.args.pos 0 c.in-Some.symbol c.requires.letter c.requires.digit c.requires.quote (sym c.two_at.ensures ∙ c.in-Some.is))

pub returns-in-Some-mark_of_one : goal.returns-in-Some-mark_of_one
returns-in-Some-mark_of_one c =
    sym (by_one c.args.text.now c.args.pos 0 c.in-Some-mark_of_one.symbol c.requires.some c.requires.letter c.requires.digit c.requires.quote (sym c.two_at.ensures ∙ c.in-None.is) (sym c.mark_of_one.ensures ∙ c.in-Some-mark_of_one.is))

pub returns-in-None-mark_of_one : goal.returns-in-None-mark_of_one
returns-in-None-mark_of_one c =
    sym (by_none c.args.text.now c.args.pos 0 c.requires.some c.requires.letter c.requires.digit c.requires.quote (sym c.two_at.ensures ∙ c.in-None.is) (sym c.mark_of_one.ensures ∙ c.in-None-mark_of_one.is))
