use Rattle.std.proofs.Common.{◌≡◌, ◌≤◌, ◌+◌, ◌-◌, ◌∷◌, ◌∙◌, List, Some, length, take, drop, sym, ap, subst, arith}
use Rattle.std.specs.Prelude.{option_map}
use Rattle.ob_cmp.specs.declared.verdict.Verdict.{Verdict}
use Rattle.ob_shell_reports.specs.declared.counts.Counts.{Counts}
use Rattle.ob_shell_reports.proofs.Along.{front_is}
use Rattle.ob_shell_session.specs.Counting.{and_one, counts_from}
use Rattle.ob_shell_session.proofs.Counted.{step, one_counts, all_counted}
use Rattle.ob_shell_session.proofs.counting.count.Goals as goal

pub verdicts-preserved : goal.verdicts-preserved
verdicts-preserved c =
    let i = c.verdicts.invariant in
    let p = c.first-item.result in
    let ps : List Verdict = take (length c.verdicts.rest.now - 1) (drop 1 c.verdicts.rest.now) in
    let e : c.verdicts.rest.now ≡ p ∷ ps = front_is c.verdicts.rest.now p c.in-len1-up.len_at_least c.first-item.is in
    let n = c.verdicts.counts in
    let last = option_map (λ v. v.now) c.verdicts.last in
    let more = subst (λ (x : Counts). x.added + x.changed + x.gone ≤ n.added + n.changed + n.gone + 1) (sym c.and_one-counts.ensures) (one_counts n c.follows.result p.kind) in
    let long : length c.verdicts.rest.now ≡ length (p ∷ ps) = ap length e in
    let before = i.0 in (
      omega (arith, more, long, before),
      ap (λ (x : Counts). counts_from x (Some p) ps) (c.and_one-counts.ensures ∙ ap (λ b. and_one n b p.kind) c.follows.ensures) ∙ sym (step n last p ps) ∙ ap (counts_from n last) (sym e) ∙ i.1,
    )

pub returns : goal.returns
returns c =
    let h = c.in_default.len_below in
    sym (all_counted c.verdicts.counts (option_map (λ v. v.now) c.verdicts.last) c.verdicts.rest.now (omega (arith, h))) ∙ c.verdicts.invariant.1
