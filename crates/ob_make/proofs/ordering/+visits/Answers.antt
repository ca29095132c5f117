use Rattle.std.proofs.Common.{◌≡◌, ◌++◌, ◌∷◌, [], ℕ, List, Option, Ok, Err, sym, ap, subst, ◌∙◌}
use Rattle.std.specs.Prelude.{reverse}
use Rattle.ob_link.specs.Walk.{visit, all_in_turn, and_then}
use Rattle.ob_make.specs.Order.{steps}
use Rattle.ob_make.specs.Folder.{seen_in}
use Rattle.ob_make.specs.Walking.{Goes, lean_needs}
use Rattle.ob_make.proofs.Visits.{enters_lean, goes_no_more, room}
use Rattle.ob_make.proofs.ordering.+visits.Goals as goal

pub enter-returns-in-Ok-clause-walked : goal.enter-returns-in-Ok-clause-walked
enter-returns-in-Ok-clause-walked g t c = λ told.
    let s = seen_in (g.F.Shelf.files c.args.folder.now) in
    let has = room c.args.left.now c.as_slice.result.now c.args.path.now.items c.deref.result.now c.as_slice.ensures c.deref.ensures.value (sym c.has_room.ensures ∙ c.if-has_room.true) in
    let is : lean_needs s c.args.name.now ≡ c.as_slice-then-has_room.result.now = c.in_ok-needs.ensures.needs told ∙ sym c.as_slice-then-has_room.ensures in
    let goes = subst (λ (fs : List ℕ → Option (List ℕ)). all_in_turn (visit (steps (seen_in fs)) c.args.deep (c.args.name.now ∷ reverse c.args.path.now.items)) c.as_slice-then-has_room.result.now c.args.left.now ≡ Ok c.below.new.left) (c.in_ok-needs.ensures.files told) (c.in-Ok.ensures.walked (c.in_ok-needs.ensures.told ∙ told)) in
    let whole = enters_lean s c.args.deep (reverse c.args.path.now.items) c.args.name.now c.args.left.now c.as_slice-then-has_room.result.now _ has is ∙ ap (λ r. and_then r (λ l. Ok (l ++ c.args.name.now ∷ []))) goes in
    subst (λ o. Goes o c.leave.new.left c.leave.result) (sym whole) c.leave.ensures.goes

pub enter-returns-then-has_room-clause-walked : goal.enter-returns-then-has_room-clause-walked
enter-returns-then-has_room-clause-walked g t c = λ told.
    let s = seen_in (g.F.Shelf.files c.args.folder.now) in
    let has = room c.args.left.now c.as_slice.result.now c.args.path.now.items c.deref.result.now c.as_slice.ensures c.deref.ensures.value (sym c.has_room.ensures ∙ c.if-has_room.true) in
    let is : lean_needs s c.args.name.now ≡ c.as_slice-then-has_room.result.now = c.in_ok-needs.ensures.needs told ∙ sym c.as_slice-then-has_room.ensures in
    let whole = enters_lean s c.args.deep (reverse c.args.path.now.items) c.args.name.now c.args.left.now c.as_slice-then-has_room.result.now _ has is in
    let stops = subst (λ (fs : List ℕ → Option (List ℕ)). Goes (all_in_turn (visit (steps (seen_in fs)) c.args.deep (c.args.name.now ∷ reverse c.args.path.now.items)) c.as_slice-then-has_room.result.now c.args.left.now) c.below.new.left (Err c.in-Err.fault)) (c.in_ok-needs.ensures.files told) (c.in-Err.ensures.walked (c.in_ok-needs.ensures.told ∙ told)) in
    subst (λ o. Goes o c.below.new.left (Err c.in-Err.fault)) (sym whole) (goes_no_more (all_in_turn (visit (steps s) c.args.deep (c.args.name.now ∷ reverse c.args.path.now.items)) c.as_slice-then-has_room.result.now c.args.left.now) (λ l. Ok (l ++ c.args.name.now ∷ [])) c.below.new.left c.below.new.left c.in-Err.fault stops)
