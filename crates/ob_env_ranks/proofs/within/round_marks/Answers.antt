use Rattle.std.proofs.Common.{◌≡◌, ℕ, ◌≤◌, Bool, true, List, sym, ap, ◌∙◌, subst, arith}
use Rattle.ob_env_ranks.specs.Marks.{marks_by, is_basic, are_all, SayWithin}
use Rattle.ob_env_ranks.proofs.Rounds.{first_round, next_round, all_rounds}
use Rattle.ob_env_ranks.proofs.within.round_marks.Goals as goal

pub loop-round-init : goal.loop-round-init
loop-round-init c = first_round c.args.env.now c.in_ok-marks.marks (c.in_ok-marks.ensures ∙ ap (marks_by is_basic) c.faces.ensures.faces)

pub returns-then-rows_are_all : goal.returns-then-rows_are_all
returns-then-rows_are_all c =
    let le : c.loop-round.round ≤ 201 = omega arith in
    all_rounds c.args.env.now c.loop-round.round c.loop-round.marks le c.loop-round.invariant (subst (λ (ms : List (List Bool)). are_all ms ≡ true) c.as_slice.ensures (sym c.if-rows_are_all.ensures))

pub loop-round-preserved : goal.loop-round-preserved
loop-round-preserved c = next_round c.args.env.now c.faces-in-loop-round.result.now c.loop-round.round c.loop-round.marks c.in_ok-next.next c.loop-round.invariant c.faces-in-loop-round.ensures.faces c.in_ok-next.ensures

pub returns : goal.returns
returns c =
    let e : c.loop-round.round ≡ 201 = omega arith in
    subst (λ (n : ℕ). SayWithin c.args.env.now n c.loop-round.marks) e c.loop-round.invariant
