use Rattle.std.proofs.Common.{◌∙◌, ◌++◌, suc, ap}
use Rattle.ob_cdecl_scopes.specs.Scopes.{around_of}
use Rattle.ob_rules.specs.Books.{book_after}
use Rattle.ob_rules.specs.Declarations.{nothing_later, pointers_judged, heads_later}
use Rattle.ob_cdecl.specs.Order.{plain_in_order}
use Rattle.ob_cdecl_block.specs.Steps.{plain_notes, headed, bound_notes}
use Rattle.ob_cdecl_block.proofs.ToldLaws.{headed_around, headed_kept, two_noted}
use Rattle.ob_cdecl_block.proofs.declared.declare_all.Goals as goal

pub returns-clause-noted : goal.returns-clause-noted
returns-clause-noted g c =
    let t = g.E.Types.types in
    let ds = c.args.decls.now in
    let v = around_of t c.args.scope.now in
    let w = around_of t c.plain_part.new.scope in
    let x = around_of t c.headings_told.new.scope in
    let d = plain_in_order ds v in
    let h = headed ds v in
    let around = headed_around ds v w x c.in_ok-later.ensures.around c.in_ok-heads.ensures.around in
    let pointers = pointers_judged h.around (d.part.notes.later ++ heads_later h.before) in
    two_noted c.args.book.now c.pointers_told.new.book c.bound_told.new.book (plain_notes d h) (bound_notes c.args.level d.part.notes.later h)
    (two_noted c.args.book.now c.plain_part.new.book c.pointers_told.new.book (nothing_later d.part.notes) pointers c.in_ok-later.ensures.noted
    (c.in_ok-pointers_told.ensures (suc d.around.scope) h around
    (headed_kept ds v w c.in_ok-heads.heads c.as_slice-2.result.now c.in_ok-later.ensures.around c.as_slice-2.ensures c.in_ok-heads.ensures.heads)
    ∙ ap (λ ls. book_after c.plain_part.new.book (pointers_judged h.around (ls ++ heads_later h.before))) (c.as_slice.ensures ∙ c.in_ok-later.ensures.later)))
    (c.in_ok-bound_told.ensures.noted (suc d.around.scope) h around
    (headed_kept ds v w c.in_ok-heads.heads c.as_slice-4.result.now c.in_ok-later.ensures.around c.as_slice-4.ensures c.in_ok-heads.ensures.heads)
    ∙ ap (λ ls. book_after c.pointers_told.new.book (bound_notes c.args.level ls h)) (c.as_slice-3.ensures ∙ c.in_ok-later.ensures.later))
