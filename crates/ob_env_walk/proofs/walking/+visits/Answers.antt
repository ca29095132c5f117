use Rattle.std.proofs.Common.{◌≡◌, true, false, reverse, ℕ, List, sym, ap, subst, ◌∙◌}
use Rattle.ob_types.specs.declared.face.Interface.{Interface}
use Rattle.ob_env_walk.specs.Walk.{Cycle, symbol_entry, is_among, is_passed_over, importer_of}
use Rattle.ob_env.specs.Faces.{faces_of}
use Rattle.ob_env_walk.specs.Walking.{Goes}
use Rattle.ob_env_walk.proofs.Visits.{circled, entered_on, on_path, off_path, no_steps}
use Rattle.ob_env_walk.proofs.walking.+visits.Goals as goal

pub visit-returns-then-is_on-clause-walked : goal.visit-returns-then-is_on-clause-walked
visit-returns-then-is_on-clause-walked g t c = λ told.
    let pass : is_passed_over c.args.m.now (faces_of c.args.left.now) ≡ false = subst (λ (l : List Interface). is_passed_over c.args.m.now (faces_of l) ≡ false) c.as_slice.ensures (sym c.may_pass.ensures ∙ c.if-may_pass.false) in
    let on : is_among c.args.m.now c.args.path.now.items ≡ true = subst (λ (l : List (List ℕ)). is_among c.args.m.now l ≡ true) c.deref.ensures.value (sym c.is_on.ensures ∙ c.if-is_on.true) in
    let head : importer_of (reverse c.args.path.now.items) ≡ c.last_of.result = subst (λ (l : List (List ℕ)). importer_of (reverse l) ≡ c.last_of.result) c.deref-then-is_on.ensures.value (sym c.last_of.ensures) in
    circled _ c.args.steps (reverse c.args.path.now.items) c.args.m.now (faces_of c.args.left.now) c.requires.steps pass (on_path c.args.m.now c.args.path.now.items on) ∙ ap Cycle head

pub visit-returns-clause-walked : goal.visit-returns-clause-walked
visit-returns-clause-walked g t c = λ told.
    let pass : is_passed_over c.args.m.now (faces_of c.args.left.now) ≡ false = subst (λ (l : List Interface). is_passed_over c.args.m.now (faces_of l) ≡ false) c.as_slice.ensures (sym c.may_pass.ensures ∙ c.if-may_pass.false) in
    let off : is_among c.args.m.now c.args.path.now.items ≡ false = subst (λ (l : List (List ℕ)). is_among c.args.m.now l ≡ false) c.deref.ensures.value (sym c.is_on.ensures ∙ c.if-is_on.false) in
    subst (λ w. Goes w c.enter.new.left c.enter.result) (sym (entered_on (symbol_entry (g.F.Shelf.files c.args.folder.now)) c.args.steps (reverse c.args.path.now.items) c.args.m.now (faces_of c.args.left.now) c.requires.steps pass (off_path c.args.m.now c.args.path.now.items off))) (c.enter.ensures.walked told)

pub visit_all-returns-then-steps-eq0-clause-walked : goal.visit_all-returns-then-steps-eq0-clause-walked
visit_all-returns-then-steps-eq0-clause-walked g t c = λ told.
    sym (c.loop-rest.invariant.3 told) ∙ no_steps (symbol_entry (g.F.Shelf.files c.args.folder.now)) c.args.steps (reverse c.args.path.now.items) c.loop-rest.rest.now (faces_of c.loop-rest.left) c.if-steps-eq0.true c.in-len1-up.len_at_least
