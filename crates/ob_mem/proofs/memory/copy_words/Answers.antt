use Rattle.std.proofs.Common.{rules, ◌≡◌, length, Some, None, ◌∙◌, arith}
use Rattle.std.specs.Prelude.{if◌then◌else◌}
use Rattle.ob_mem.specs.Words.{are_there, before}
use Rattle.ob_mem.proofs.Copies.{copy_is, moved_within}
use Rattle.ob_mem.proofs.memory.copy_words.Goals as goal

pub returns-clause-after : goal.returns-clause-after
returns-clause-after c =
    let words = c.args.words.now in
    let to : (if are_there (length words) c.args.to c.args.count then Some (before c.args.to) else None) ≡ Some c.in-Some.target = search rules in
    let from : (if are_there (length words) c.args.from c.args.count then Some (before c.args.from) else None) ≡ Some c.in-Some-place.source = search rules in
    let e = copy_is words c.args.to c.args.from c.args.count c.in-Some.target c.in-Some-place.source (omega arith) to from in
    rw e (c.copy_within.ensures.after ∙ moved_within words c.in-Some.target c.in-Some-place.source c.args.count)
