use Rattle.std.proofs.Common.{rules, w32, ◌≡◌, ◌+◌, Some, refl, ap, ◌∙◌, arith}
use Rattle.std.specs.Prelude.{slice_get}
use Rattle.std.specs.Int.RustNames.{FitsSigned}
use Rattle.ob_machine_step.proofs.Endings.{seen_more, seen_end, seen_all, is_end, no_end}
use Rattle.ob_machine_step.proofs.texts.ending_from.Goals as goal

pub returns-then-word-eq0 : goal.returns-then-word-eq0
returns-then-word-eq0 c =
    let q : c.args.start + c.chars.count ≡ c.from.result + c.from-in-chars.result = omega arith in
    let e : slice_get c.args.words.now.words (c.args.start + c.chars.count) ≡ Some c.in-Some.word = ap (λ n. slice_get c.args.words.now.words n) q ∙ c.in-Some.ensures in
    let f : FitsSigned w32 c.in-Some.word = search rules in
    let h = seen_end c.args.words.now.words c.args.start c.args.len c.chars.count c.in-Some.word c.chars.invariant c.chars-test.true e (is_end c.in-Some.word f c.if-word-eq0.true) in
    (refl, h.0, h.1)

pub chars-preserved : goal.chars-preserved
chars-preserved c =
    let q : c.args.start + c.chars.count ≡ c.from.result + c.from-in-chars.result = omega arith in
    let e : slice_get c.args.words.now.words (c.args.start + c.chars.count) ≡ Some c.in-Some.word = ap (λ n. slice_get c.args.words.now.words n) q ∙ c.in-Some.ensures in
    seen_more c.args.words.now.words c.args.start c.args.len c.chars.count c.in-Some.word c.chars.invariant c.chars-test.true e (no_end c.in-Some.word c.if-word-eq0.false)

pub returns : goal.returns
returns c = seen_all c.args.words.now.words c.args.start c.args.len c.chars.count c.chars.invariant c.chars-test.false
