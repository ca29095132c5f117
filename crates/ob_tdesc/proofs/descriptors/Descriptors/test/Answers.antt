use Rattle.std.proofs.Common.{◌≡◌, Some, None, ap, sym, ◌∙◌, refl, arith}
use Rattle.ob_tdesc.specs.Bases.{base_of}
use Rattle.ob_tdesc.proofs.Lines.{not_among, level_up, level_top}
use Rattle.ob_tdesc.proofs.Read.{known, below_list, by_table, at_level, above_level}
use Rattle.ob_tdesc.proofs.descriptors.Descriptors.test.Goals as goal

pub returns-then-level-low-clause-answer : goal.returns-then-level-low-clause-answer
returns-then-level-low-clause-answer g c =
    let is = ap (λ v. v.list) c.self.view_is in
    let b = known c.self.inside c.args.self.now.list c.args.b c.index.result.now c.self.invariant is c.requires.b c.index.ensures in
    let a = known c.self.inside c.args.self.now.list c.args.a c.index-2.result.now c.self.invariant is c.requires.a c.index-2.ensures in
    let below = below_list c.self.inside c.args.self.now.list c.self.invariant is in
    sym (not_among c.args.self.now.list below c.args.a c.args.b (omega (arith, a.placed.level, b.placed.level)))

pub returns-then-low-lt16-clause-answer : goal.returns-then-low-lt16-clause-answer
returns-then-low-lt16-clause-answer g c =
    let is = ap (λ v. v.list) c.self.view_is in
    let b = known c.self.inside c.args.self.now.list c.args.b c.index.result.now c.self.invariant is c.requires.b c.index.ensures in
    let a = known c.self.inside c.args.self.now.list c.args.a c.index-2.result.now c.self.invariant is c.requires.a c.index-2.ensures in
    let x = known c.self.inside c.args.self.now.list c.args.a c.index-then-low-lt16.result.now c.self.invariant is c.requires.a c.index-then-low-lt16.ensures in
    let below = below_list c.self.inside c.args.self.now.list c.self.invariant is in
    by_table c.args.self.now.list c.args.a c.args.b c.index-then-low-lt16.result.now c.index.result.now.level below x.placed b.placed.level (omega (arith, a.placed.level, x.placed.level)) (omega arith)

pub returns-then-low-lt16-clause-steps : goal.returns-then-low-lt16-clause-steps
returns-then-low-lt16-clause-steps g c =
    let is = ap (λ v. v.list) c.self.view_is in
    let b = known c.self.inside c.args.self.now.list c.args.b c.index.result.now c.self.invariant is c.requires.b c.index.ensures in
    let a = known c.self.inside c.args.self.now.list c.args.a c.index-2.result.now c.self.invariant is c.requires.a c.index-2.ensures in
    omega (arith, a.placed.level, b.placed.level)

pub loop-high-init : goal.loop-high-init
loop-high-init g c =
    let is = ap (λ v. v.list) c.self.view_is in
    let a = known c.self.inside c.args.self.now.list c.args.a c.index-2.result.now c.self.invariant is c.requires.a c.index-2.ensures in
    record { within = c.requires.a; level = sym a.placed.level; same = refl; above = omega arith; steps = refl }

pub returns-in_default-clause-answer : goal.returns-in_default-clause-answer
returns-in_default-clause-answer g c =
    let is = ap (λ v. v.list) c.self.view_is in
    let x = known c.self.inside c.args.self.now.list c.loop-high.at c.index-in-loop-high.result.now c.self.invariant is c.loop-high.invariant.within c.index-in-loop-high.ensures in
    let none : c.index-in-loop-high.result.now.base ≡ None = c.in_default.is in
    let top = level_top c.args.self.now.list c.loop-high.at (x.base ∙ none) in
    absurd (omega (arith, c.loop-high.invariant.level))

pub returns-in_default-clause-low : goal.returns-in_default-clause-low
returns-in_default-clause-low g c =
    let is = ap (λ v. v.list) c.self.view_is in
    let x = known c.self.inside c.args.self.now.list c.loop-high.at c.index-in-loop-high.result.now c.self.invariant is c.loop-high.invariant.within c.index-in-loop-high.ensures in
    let none : c.index-in-loop-high.result.now.base ≡ None = c.in_default.is in
    let top = level_top c.args.self.now.list c.loop-high.at (x.base ∙ none) in
    absurd (omega (arith, c.loop-high.invariant.level))

pub returns-in_default-clause-steps : goal.returns-in_default-clause-steps
returns-in_default-clause-steps g c =
    let is = ap (λ v. v.list) c.self.view_is in
    let x = known c.self.inside c.args.self.now.list c.loop-high.at c.index-in-loop-high.result.now c.self.invariant is c.loop-high.invariant.within c.index-in-loop-high.ensures in
    let none : c.index-in-loop-high.result.now.base ≡ None = c.in_default.is in
    let top = level_top c.args.self.now.list c.loop-high.at (x.base ∙ none) in
    absurd (omega (arith, c.loop-high.invariant.level))

pub loop-high-preserved : goal.loop-high-preserved
loop-high-preserved g c =
    let is = ap (λ v. v.list) c.self.view_is in
    let b = known c.self.inside c.args.self.now.list c.args.b c.index.result.now c.self.invariant is c.requires.b c.index.ensures in
    let x = known c.self.inside c.args.self.now.list c.loop-high.at c.index-in-loop-high.result.now c.self.invariant is c.loop-high.invariant.within c.index-in-loop-high.ensures in
    let below = below_list c.self.inside c.args.self.now.list c.self.invariant is in
    let base : base_of c.args.self.now.list c.loop-high.at ≡ Some c.in-Some.base = x.base ∙ c.in-Some.is in
    let lower = below c.loop-high.at c.in-Some.base base in
    let up = level_up c.args.self.now.list below c.loop-high.at c.in-Some.base base in
    record {
      within = omega (arith, c.loop-high.invariant.within);
      level = omega (arith, c.loop-high.invariant.level);
      same = above_level c.args.self.now.list c.loop-high.at c.args.b c.in-Some.base below base (omega (arith, b.placed.level, c.loop-high.invariant.level)) ∙ c.loop-high.invariant.same;
      above = omega arith;
      steps = omega (arith, c.loop-high.invariant.steps, c.tick-in-loop-high.ensures);
    }

pub returns-clause-answer : goal.returns-clause-answer
returns-clause-answer g c =
    let is = ap (λ v. v.list) c.self.view_is in
    let b = known c.self.inside c.args.self.now.list c.args.b c.index.result.now c.self.invariant is c.requires.b c.index.ensures in
    let below = below_list c.self.inside c.args.self.now.list c.self.invariant is in
    at_level c.args.self.now.list c.loop-high.at c.args.b below (omega (arith, b.placed.level, c.loop-high.invariant.level, c.loop-high.invariant.above)) ∙ c.loop-high.invariant.same

pub returns-clause-low : goal.returns-clause-low
returns-clause-low g c =
    let is = ap (λ v. v.list) c.self.view_is in
    let b = known c.self.inside c.args.self.now.list c.args.b c.index.result.now c.self.invariant is c.requires.b c.index.ensures in
    λ lt. absurd (omega (arith, b.placed.level))

pub returns-clause-steps : goal.returns-clause-steps
returns-clause-steps g c =
    let is = ap (λ v. v.list) c.self.view_is in
    let b = known c.self.inside c.args.self.now.list c.args.b c.index.result.now c.self.invariant is c.requires.b c.index.ensures in
    let a = known c.self.inside c.args.self.now.list c.args.a c.index-2.result.now c.self.invariant is c.requires.a c.index-2.ensures in
    omega (arith, a.placed.level, b.placed.level, c.loop-high.invariant.steps, c.loop-high.invariant.above)
