use Rattle.std.proofs.Common.{◌+◌, drop, map, ap, arith}
use Rattle.ob_cdecl_scopes.specs.Scopes.{around_of}
use Rattle.ob_rules.specs.Books.{book_after}
use Rattle.ob_cdecl_heading.specs.Kept.{seen}
use Rattle.ob_cdecl_heading.proofs.ForwardLaws.{step_at, end_at}
use Rattle.ob_cdecl_bound.specs.Running.{run, start, put, chosen}
use Rattle.ob_cdecl_bound.proofs.Rebasing.{chosen_rebases, more_around, more_notes, no_more_around, no_more_notes}
use Rattle.ob_cdecl_bound.proofs.bindings.bind_record.Goals as goal

pub heads-preserved : goal.heads-preserved
heads-preserved g c =
    let t = g.E.Types.types in
    let v = around_of t c.heads.scope in
    let w = around_of t c.bind_chosen.new.scope in
    let u = around_of t c.args.scope.now in
    let hs = map seen c.args.heads.now in
    let f = chosen hs c.args.name.now in
    let xs = c.args.heads.now in
    let x = c.head-item.result in
    let more = map seen (drop (c.heads.head-index + 1) xs) in
    let all = map seen (drop c.heads.head-index xs) in
    let step = ap (map seen) (step_at xs c.heads.head-index x (omega arith) c.head-item.is) in
    record {
      around = more_around f (chosen_rebases hs c.args.name.now) v w (put u (run f u (start u) hs)) (seen x) more all step c.in_ok-bind_chosen.ensures.around c.heads.invariant.around;
      notes = more_notes f (chosen_rebases hs c.args.name.now) v w (seen x) more all c.heads.book c.bind_chosen.new.book (book_after c.args.book.now (run f u (start u) hs).notes) step c.in_ok-bind_chosen.ensures.around c.in_ok-bind_chosen.ensures.noted c.heads.invariant.notes;
    }

pub returns-clause-around : goal.returns-clause-around
returns-clause-around g c =
    let t = g.E.Types.types in
    let v = around_of t c.heads.scope in
    let u = around_of t c.args.scope.now in
    let hs = map seen c.args.heads.now in
    let f = chosen hs c.args.name.now in
    let xs = c.args.heads.now in
    no_more_around f v (put u (run f u (start u) hs)) (map seen (drop c.heads.head-index xs)) (ap (map seen) (end_at xs c.heads.head-index (omega arith))) c.heads.invariant.around

pub returns-clause-noted : goal.returns-clause-noted
returns-clause-noted g c =
    let t = g.E.Types.types in
    let v = around_of t c.heads.scope in
    let u = around_of t c.args.scope.now in
    let hs = map seen c.args.heads.now in
    let f = chosen hs c.args.name.now in
    let xs = c.args.heads.now in
    no_more_notes f v (map seen (drop c.heads.head-index xs)) c.heads.book (book_after c.args.book.now (run f u (start u) hs).notes) (ap (map seen) (end_at xs c.heads.head-index (omega arith))) c.heads.invariant.notes
