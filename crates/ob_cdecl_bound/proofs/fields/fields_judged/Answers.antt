use Rattle.std.proofs.Common.{◌+◌, drop, refl, arith}
use Rattle.ob_rules.specs.Books.{book_after}
use Rattle.ob_rules.specs.Declarations.{all_judged, field_judged}
use Rattle.ob_cdecl_heading.proofs.ForwardLaws.{step_at, end_at, more_noted, no_more_noted}
use Rattle.ob_cdecl_bound.proofs.fields.fields_judged.Goals as goal

pub left-preserved : goal.left-preserved
left-preserved g c =
    let types = g.T.Types.types c.args.types.now in
    let xs = c.args.left.now in
    let x = c.one-item.result in
    more_noted (field_judged types) (all_judged (field_judged types)) x (drop (c.left.one-index + 1) xs) (drop c.left.one-index xs) c.left.book c.field_judged.new.book (book_after c.args.book.now (all_judged (field_judged types) xs)) refl (step_at xs c.left.one-index x (omega arith) c.one-item.is) c.in_ok-field_judged.ensures c.left.invariant

pub returns : goal.returns
returns g c =
    let types = g.T.Types.types c.args.types.now in
    let xs = c.args.left.now in
    no_more_noted (all_judged (field_judged types)) (drop c.left.one-index xs) c.left.book (book_after c.args.book.now (all_judged (field_judged types) xs)) refl (end_at xs c.left.one-index (omega arith)) c.left.invariant
