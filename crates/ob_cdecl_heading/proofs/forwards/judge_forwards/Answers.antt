use Rattle.std.proofs.Common.{◌≡◌, ◌+◌, ◌<◌, ◌≤◌, ◌∷◌, List, [], drop, length, map, refl, ap, arith}
use Rattle.ob_rules.specs.Books.{book_after}
use Rattle.ob_rules.specs.Headings.{Head, forward_if, forwards_judged}
use Rattle.ob_cdecl_heading.specs.Kept.{seen}
use Rattle.ob_cdecl_heading.proofs.ForwardLaws.{step_at, end_at, more_noted, no_more_noted}
use Rattle.ob_cdecl_heading.proofs.forwards.judge_forwards.Goals as goal

pub heads-preserved : goal.heads-preserved
heads-preserved g c =
    let types = g.T.Types.types c.args.types.now in
    let xs = c.args.heads.now in
    let x = c.head-item.result in
    let all = map seen xs in
    let step = step_at xs c.heads.head-index x (omega arith) c.head-item.is in
    more_noted (λ (f : Head). forward_if f.forward types all f) (forwards_judged types all) (seen x) (map seen (drop (c.heads.head-index + 1) xs)) (map seen (drop c.heads.head-index xs)) c.heads.book c.forward_if.new.book (book_after c.args.book.now (forwards_judged types all all)) refl (ap (map seen) step) c.forward_if.ensures c.heads.invariant

pub returns : goal.returns
returns g c =
    let types = g.T.Types.types c.args.types.now in
    let xs = c.args.heads.now in
    let all = map seen xs in
    no_more_noted (forwards_judged types all) (map seen (drop c.heads.head-index xs)) c.heads.book (book_after c.args.book.now (forwards_judged types all all)) refl (ap (map seen) (end_at xs c.heads.head-index (omega arith))) c.heads.invariant
