use Rattle.std.proofs.Common.{◌≡◌, ℕ, ◌+◌, ◌-◌, ◌<◌, ◌≤◌, drop, Some, None, false, sym, subst, ◌∙◌, arith}
use Rattle.std.specs.List.{list_all}
use Rattle.std.specs.Prelude.{nat_le, ◌&&◌}
use Rattle.ob_types.specs.declared.types.TypeRef.TheVariants as ref
use Rattle.ob_types.specs.Maps.{stands_on}
use Rattle.ob_rules.specs.Depth.{is_within}
use Rattle.ob_cdecl_heading.proofs.ForwardLaws.{step_at}
use Rattle.ob_cdecl_bound.specs.declared.depth.Height.{Height}
use Rattle.ob_cdecl_bound.specs.Heights.{HasHeight, HaveHeight, AreHeights, Measures, MeasuresAll}
use Rattle.ob_cdecl_bound.proofs.HeightLaws.{named_more, named_has, heights_added, more_heights, greater_within}
use Rattle.ob_cdecl_bound.proofs.depth.+heights.Goals as goal

pub heights-parts-preserved : goal.heights-parts-preserved
heights-parts-preserved g t c =
    let types = g.T.Types.types c.args.types.now in
    let xs = c.args.parts.now in
    let x = c.part-item.result in
    let h = c.in-Some.height in
    let more = drop (c.parts.part-index + 1) xs in
    let step = step_at xs c.parts.part-index x (omega arith) c.part-item.is in
    let m : Measures types c.args.left x (Some h) = subst (λ r. Measures types c.args.left x r) c.in-Some.is c.in_ok-height_within.ensures.height in
    record {
      known = c.in_ok-height_within.ensures.known;
      most = subst (λ k. (n : ℕ) → list_all (λ y. is_within types n y) xs ≡ nat_le k n && list_all (λ y. is_within types n y) more) (sym c.greater-most.ensures) (more_heights types x more (drop c.parts.part-index xs) xs c.parts.most h step m.0 c.parts.invariant.most);
      within = subst (λ k. k ≤ c.args.left) (sym c.greater-most.ensures) (greater_within c.parts.most h c.args.left c.parts.invariant.within m.1);
    }

pub named_height-returns-in-None-2-clause-height : goal.named_height-returns-in-None-2-clause-height
named_height-returns-in-None-2-clause-height g t c =
    let types = g.T.Types.types c.args.types.now in
    let d = c.in-Some.desc.now in
    let left = c.args.left in
    let same : c.as_slice.result.now ≡ stands_on d = c.as_slice.ensures ∙ c.in_ok-parts-in-Some.ensures in
    let m : MeasuresAll types (left - 1) c.as_slice.result.now None = subst (λ r. MeasuresAll types (left - 1) c.as_slice.result.now r) c.in-None-2.is c.in_ok-heights-in-Some.ensures.height in
    named_more types c.args.name.now d left (sym c.in-Some.ensures) (subst (λ l. list_all (λ y. is_within types (left - 1) y) l ≡ false) same m)

pub named_height-returns-in_ok-height-in-Some-2-clause-known : goal.named_height-returns-in_ok-height-in-Some-2-clause-known
named_height-returns-in_ok-height-in-Some-2-clause-known g t c =
    let types = g.T.Types.types c.args.types.now in
    let d = c.in-Some.desc.now in
    let q = c.args.name.now in
    let left = c.args.left in
    let below = c.in-Some-2.below in
    let same : c.as_slice.result.now ≡ stands_on d = c.as_slice.ensures ∙ c.in_ok-parts-in-Some.ensures in
    let m : MeasuresAll types (left - 1) c.as_slice.result.now (Some below) = subst (λ r. MeasuresAll types (left - 1) c.as_slice.result.now r) c.in-Some-2.is c.in_ok-heights-in-Some.ensures.height in
    let has : HasHeight types (ref.Named q) (below + 1) = named_has types q d below (sym c.in-Some.ensures) (subst (λ l. HaveHeight types l below) same m.0) in
    let e : Height = record { key = c.args.key; height = below + 1 } in
    subst (λ hs. AreHeights types hs) (sym c.in_ok-height-in-Some-2.ensures.known) (heights_added types c.heights.new.known e q c.in_ok-heights-in-Some.ensures.known c.requires.key has)

pub named_height-returns-in_ok-height-in-Some-2-clause-height : goal.named_height-returns-in_ok-height-in-Some-2-clause-height
named_height-returns-in_ok-height-in-Some-2-clause-height g t c =
    let types = g.T.Types.types c.args.types.now in
    let d = c.in-Some.desc.now in
    let q = c.args.name.now in
    let left = c.args.left in
    let below = c.in-Some-2.below in
    let same : c.as_slice.result.now ≡ stands_on d = c.as_slice.ensures ∙ c.in_ok-parts-in-Some.ensures in
    let m : MeasuresAll types (left - 1) c.as_slice.result.now (Some below) = subst (λ r. MeasuresAll types (left - 1) c.as_slice.result.now r) c.in-Some-2.is c.in_ok-heights-in-Some.ensures.height in
    let has : HasHeight types (ref.Named q) (below + 1) = named_has types q d below (sym c.in-Some.ensures) (subst (λ l. HaveHeight types l below) same m.0) in
    let some : 0 < left = c.requires.some in
    let up : c.in_ok-height-in-Some-2.height ≡ below + 1 = c.in_ok-height-in-Some-2.ensures.height in
    (subst (λ h. HasHeight types (ref.Named q) h) (sym up) has, omega (arith, up, some, m.1))
