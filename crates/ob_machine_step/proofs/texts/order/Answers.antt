use Rattle.std.proofs.Common.{rules, w32, ◌<ℤ◌, ◌≡◌, ◌+◌, ◌∷◌, suc, drop, Some, ap, sym, subst, ◌∙◌, add-one, arith}
use Rattle.std.specs.Prelude.{slice_get}
use Rattle.std.specs.Int.RustNames.{FitsSigned}
use Rattle.std.proofs.lemmas.Int.{ints}
use Rattle.ob_machine_step.specs.Texts.{text}
use Rattle.ob_machine_step.proofs.Endings.{SameSoFar, same_more, less_here, more_here, text_at}
use Rattle.ob_machine_step.proofs.texts.order.Goals as goal

pub returns-then-c-d : goal.returns-then-c-d
returns-then-c-d c =
    let ws = c.args.words.now.words in
    let i = c.chars.i in
    let p : c.args.a + c.chars.i ≡ c.from.result + c.from-in-chars.result = omega arith in
    let q : c.args.b + c.chars.i ≡ c.from-in-chars-2.result + c.from-in-chars-3.result = omega arith in
    let e : slice_get c.args.words.now.words (c.args.a + c.chars.i) ≡ Some c.in-Some.c = ap (λ n. slice_get c.args.words.now.words n) p ∙ c.in-Some.ensures in
    let f : slice_get c.args.words.now.words (c.args.b + c.chars.i) ≡ Some c.in-Some-word_behind.d = ap (λ n. slice_get c.args.words.now.words n) q ∙ c.in-Some-word_behind.ensures in
    let fc : FitsSigned w32 c.in-Some.c = search rules in
    let fd : FitsSigned w32 c.in-Some-word_behind.d = search rules in
    let g = text_at ws c.args.a c.args.k i c.in-Some.c c.requires.a c.chars-test.true e in
    let h = text_at ws c.args.b c.args.m i c.in-Some-word_behind.d c.requires.b c.if-i-m.true f in
    let lt : c.in-Some.c <ℤ c.in-Some-word_behind.d = grind (arith, ints) in
    less_here (text ws c.args.a c.args.k) (text ws c.args.b c.args.m) i c.in-Some.c c.in-Some-word_behind.d c.chars.invariant.2 g h lt

pub returns-then-d-c : goal.returns-then-d-c
returns-then-d-c c =
    let ws = c.args.words.now.words in
    let i = c.chars.i in
    let p : c.args.a + c.chars.i ≡ c.from.result + c.from-in-chars.result = omega arith in
    let q : c.args.b + c.chars.i ≡ c.from-in-chars-2.result + c.from-in-chars-3.result = omega arith in
    let e : slice_get c.args.words.now.words (c.args.a + c.chars.i) ≡ Some c.in-Some.c = ap (λ n. slice_get c.args.words.now.words n) p ∙ c.in-Some.ensures in
    let f : slice_get c.args.words.now.words (c.args.b + c.chars.i) ≡ Some c.in-Some-word_behind.d = ap (λ n. slice_get c.args.words.now.words n) q ∙ c.in-Some-word_behind.ensures in
    let fc : FitsSigned w32 c.in-Some.c = search rules in
    let fd : FitsSigned w32 c.in-Some-word_behind.d = search rules in
    let g = text_at ws c.args.a c.args.k i c.in-Some.c c.requires.a c.chars-test.true e in
    let h = text_at ws c.args.b c.args.m i c.in-Some-word_behind.d c.requires.b c.if-i-m.true f in
    let lt : c.in-Some-word_behind.d <ℤ c.in-Some.c = grind (arith, ints) in
    more_here (text ws c.args.a c.args.k) (text ws c.args.b c.args.m) i c.in-Some.c c.in-Some-word_behind.d c.chars.invariant.2 g h lt

pub chars-preserved : goal.chars-preserved
chars-preserved c =
    let ws = c.args.words.now.words in
    let i = c.chars.i in
    let p : c.args.a + c.chars.i ≡ c.from.result + c.from-in-chars.result = omega arith in
    let q : c.args.b + c.chars.i ≡ c.from-in-chars-2.result + c.from-in-chars-3.result = omega arith in
    let e : slice_get c.args.words.now.words (c.args.a + c.chars.i) ≡ Some c.in-Some.c = ap (λ n. slice_get c.args.words.now.words n) p ∙ c.in-Some.ensures in
    let f : slice_get c.args.words.now.words (c.args.b + c.chars.i) ≡ Some c.in-Some-word_behind.d = ap (λ n. slice_get c.args.words.now.words n) q ∙ c.in-Some-word_behind.ensures in
    let fc : FitsSigned w32 c.in-Some.c = search rules in
    let fd : FitsSigned w32 c.in-Some-word_behind.d = search rules in
    let g = text_at ws c.args.a c.args.k i c.in-Some.c c.requires.a c.chars-test.true e in
    let h = text_at ws c.args.b c.args.m i c.in-Some-word_behind.d c.requires.b c.if-i-m.true f in
    let same : c.in-Some.c ≡ c.in-Some-word_behind.d = grind (arith, ints) in
    let s = text ws c.args.a c.args.k in
    let t = text ws c.args.b c.args.m in
    let more = same_more s t i c.in-Some.c c.chars.invariant.2 g (subst (λ y. drop i t ≡ y ∷ drop (suc i) t) (sym same) h) in
    (omega arith, omega arith, subst (SameSoFar s t) (sym (add-one i)) more)
