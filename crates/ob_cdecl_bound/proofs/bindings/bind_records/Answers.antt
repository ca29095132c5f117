use Rattle.std.proofs.Common.{ℕ, ◌+◌, List, drop, map, ap, ◌∙◌, arith}
use Rattle.ob_cdecl_scopes.specs.Scopes.{around_of}
use Rattle.ob_rules.specs.declared.notes.Notebook.{Notebook}
use Rattle.ob_rules.specs.Books.{book_after}
use Rattle.ob_rules.specs.Names.{Around}
use Rattle.ob_cdecl_heading.specs.Kept.{seen}
use Rattle.ob_cdecl_heading.proofs.ForwardLaws.{step_at, end_at}
use Rattle.ob_cdecl_bound.specs.Running.{run, start, put, record_bound}
use Rattle.ob_cdecl_bound.proofs.Rebasing.{record_rebases, more_around, more_notes, no_more_around, no_more_notes}
use Rattle.ob_cdecl_bound.proofs.bindings.bind_records.Goals as goal

pub names-preserved : goal.names-preserved
names-preserved g c =
    let t = g.E.Types.types in
    let v = around_of t c.names.scope in
    let w = around_of t c.bind_record.new.scope in
    let u = around_of t c.args.scope.now in
    let hs = map seen c.args.heads.now in
    let f = record_bound hs in
    let xs = c.args.names.now in
    let x = c.name-item.result in
    let more = drop (c.names.name-index + 1) xs in
    let all = drop c.names.name-index xs in
    let step = step_at xs c.names.name-index x (omega arith) c.name-item.is in
    let P : List ℕ → Around = λ k. put v (f v (start v) k) in
    let N : List ℕ → Notebook = λ k. book_after c.names.book (f v (start v) k).notes in
    let is = c.in_ok-bind_record.ensures.around ∙ ap P c.as_bytes.ensures in
    let noted = c.in_ok-bind_record.ensures.noted ∙ ap N c.as_bytes.ensures in
    record {
      around = more_around f (record_rebases hs) v w (put u (run f u (start u) xs)) x more all step is c.names.invariant.around;
      notes = more_notes f (record_rebases hs) v w x more all c.names.book c.bind_record.new.book (book_after c.args.book.now (run f u (start u) xs).notes) step is noted c.names.invariant.notes;
    }

pub returns-clause-around : goal.returns-clause-around
returns-clause-around g c =
    let t = g.E.Types.types in
    let v = around_of t c.names.scope in
    let u = around_of t c.args.scope.now in
    let f = record_bound (map seen c.args.heads.now) in
    let xs = c.args.names.now in
    no_more_around f v (put u (run f u (start u) xs)) (drop c.names.name-index xs) (end_at xs c.names.name-index (omega arith)) c.names.invariant.around

pub returns-clause-noted : goal.returns-clause-noted
returns-clause-noted g c =
    let t = g.E.Types.types in
    let v = around_of t c.names.scope in
    let u = around_of t c.args.scope.now in
    let f = record_bound (map seen c.args.heads.now) in
    let xs = c.args.names.now in
    no_more_notes f v (drop c.names.name-index xs) c.names.book (book_after c.args.book.now (run f u (start u) xs).notes) (end_at xs c.names.name-index (omega arith)) c.names.invariant.notes
