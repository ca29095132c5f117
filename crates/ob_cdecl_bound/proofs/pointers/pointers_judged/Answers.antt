use Rattle.std.proofs.Common.{◌+◌, [], drop, sym, ap, ◌∙◌, arith}
use Rattle.ob_cdecl_scopes.specs.Scopes.{around_of}
use Rattle.ob_rules.specs.Judged.{no_notes}
use Rattle.ob_rules.specs.Declarations.{Pointers, judge_pointers}
use Rattle.ob_rules.proofs.BookLaws.{after_none}
use Rattle.ob_cdecl_heading.proofs.ForwardLaws.{step_at}
use Rattle.ob_cdecl_bound.specs.Told.{left_pointers}
use Rattle.ob_cdecl_bound.proofs.PointerLaws.{next_pointers, same_pointers}
use Rattle.ob_cdecl_bound.proofs.pointers.pointers_judged.Goals as goal
use Rattle.ob_cdecl_bound.proofs.pointers.pointers_judged.Goals.{then-is_pointer+in_ok-judge_pointer, else-is_pointer}

pub all-init : goal.all-init
all-init g c =
    let u = around_of g.E.Types.types c.args.scope.now in
    let ls = left_pointers c.args.all.now in (
      no_notes,
      sym (after_none c.args.book.now),
      ap (λ x. judge_pointers u ls ls (record { judged = x; unsound = c.new-2.result; through = c.new-3.result; rings = c.new-4.result; notes = no_notes })) c.new.ensures
          ∙ ap (λ x. judge_pointers u ls ls (record { judged = []; unsound = x; through = c.new-3.result; rings = c.new-4.result; notes = no_notes })) c.new-2.ensures
          ∙ ap (λ x. judge_pointers u ls ls (record { judged = []; unsound = []; through = x; rings = c.new-4.result; notes = no_notes })) c.new-3.ensures
          ∙ ap (λ x. judge_pointers u ls ls (record { judged = []; unsound = []; through = []; rings = x; notes = no_notes })) c.new-4.ensures,
    )

pub all-preserved : goal.all-preserved
all-preserved g c =
    let u = around_of g.E.Types.types c.args.scope.now in
    let xs = c.args.all.now in
    let ls = left_pointers xs in
    let x = c.left-item.result in
    let more = drop (c.all.left-index + 1) xs in
    let step = step_at xs c.all.left-index x (omega arith) c.left-item.is in
    let b = c.args.book.now in
    let t = c.all.invariant.0 in
    let total : Pointers = judge_pointers u ls ls (record { judged = []; unsound = []; through = []; rings = []; notes = no_notes }) in
    elim c.if-is_pointer.branch [
      | then-is_pointer+in_ok-judge_pointer w ↦ next_pointers u ls (drop c.all.left-index xs) more x c.fuel_for-fuel.result b w.judge_pointer.new.book c.if-is_pointer.book c.all.progress w.judge_pointer.new.progress c.if-is_pointer.progress t total w.book-is w.progress-is step (sym c.is_pointer.ensures ∙ w.if-is_pointer.true) c.fuel_for-fuel.ensures (w.in_ok-judge_pointer.ensures b t c.all.invariant.1) c.all.invariant.2
      | else-is_pointer w ↦ same_pointers u ls (drop c.all.left-index xs) more x b c.all.book c.if-is_pointer.book c.all.progress c.if-is_pointer.progress t total w.book-is w.progress-is step (sym c.is_pointer.ensures ∙ w.if-is_pointer.false) c.all.invariant.1 c.all.invariant.2
    ]
