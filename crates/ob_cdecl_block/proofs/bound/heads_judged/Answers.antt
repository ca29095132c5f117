use Rattle.std.proofs.Common.{◌-◌, ◌≤◌, length, sym, ap, ◌∙◌, arith}
use Rattle.std.specs.Prelude.{reverse}
use Rattle.ob_rules.specs.declared.notes.Later.{Later}
use Rattle.ob_rules.specs.Judged.{Notes}
use Rattle.ob_rules.specs.Books.{book_after}
use Rattle.ob_rules.specs.Declarations.{all_judged, field_judged}
use Rattle.ob_cdecl_heading.specs.declared.head.Head.{Head as Kept}
use Rattle.ob_cdecl_block.specs.Steps.{kept_later}
use Rattle.ob_cdecl_block.proofs.FieldLaws.{one_fewer, all_of_them, none_of_them}
use Rattle.ob_cdecl_block.proofs.bound.heads_judged.Goals as goal

pub heads-init : goal.heads-init
heads-init g c = record { within = omega arith; noted = all_of_them (field_judged (g.T.Types.types c.args.types.now)) c.args.heads.now (length c.args.heads.now) c.args.book.now (omega arith) }

pub heads-preserved : goal.heads-preserved
heads-preserved g c =
    let f : Later → Notes = field_judged (g.T.Types.types c.args.types.now) in
    let i = c.heads.i in
    let hs = c.args.heads.now in
    let low : i ≤ length hs = c.heads.invariant.within in
    let this = c.index-heads-i.result in
    record {
      within = omega arith;
      noted = one_fewer f hs (i - 1) i this c.heads.book c.fields_judged.new.book (book_after c.args.book.now (all_judged f (kept_later (reverse hs)))) (omega arith) (omega arith) c.index-heads-i.is (c.in_ok-fields_judged.ensures ∙ ap (λ ls. book_after c.heads.book (all_judged f ls)) c.as_slice.ensures ∙ ap (λ (h : Kept). book_after c.heads.book (all_judged f h.notes.later)) (sym c.index-heads-i.is)) c.heads.invariant.noted;
    }

pub returns : goal.returns
returns g c =
    let f : Later → Notes = field_judged (g.T.Types.types c.args.types.now) in
    let hs = c.args.heads.now in
    none_of_them f hs c.heads.i c.heads.book (book_after c.args.book.now (all_judged f (kept_later (reverse hs)))) (omega arith) c.heads.invariant.noted
