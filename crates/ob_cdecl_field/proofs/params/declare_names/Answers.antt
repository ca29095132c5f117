use Rattle.std.proofs.Common.{◌+◌, drop, arith}
use Rattle.std.specs.Option.{option_copied}
use Rattle.ob_cdecl_scopes.specs.Scopes.{around_of}
use Rattle.ob_rules.specs.Books.{book_after}
use Rattle.ob_cdecl_field.specs.ParameterMakes.{names_declared}
use Rattle.ob_cdecl_field.proofs.LoopLaws.{step_at, end_at, more_known, more_name_notes, no_more_names}
use Rattle.ob_cdecl_field.proofs.params.declare_names.Goals as goal

pub names-preserved : goal.names-preserved
names-preserved g c =
    let v = around_of g.E.Types.types c.names.scope in
    let w = around_of g.E.Types.types c.declare.new.self in
    let u = around_of g.E.Types.types c.args.scope.now in
    let xs = c.args.names.now in
    let x = c.x-item.result in
    let t = option_copied c.args.of in
    let m = c.args.mode in
    let more = drop (c.names.x-index + 1) xs in
    let all = drop c.names.x-index xs in
    let step = step_at xs c.names.x-index x (omega arith) c.x-item.is in
    record {
      around = more_known v w m t x c.in_ok-what.what more all (names_declared u m t xs).around step c.in_ok-declare.ensures c.in_ok-what.ensures c.names.invariant.around;
      notes = more_name_notes v w m t x c.in_ok-what.what more all c.names.book c.note_twice.new.book (book_after c.args.book.now (names_declared u m t xs).notes) step c.in_ok-declare.ensures c.in_ok-what.ensures c.note_twice.ensures c.names.invariant.notes;
    }

pub returns-clause-noted : goal.returns-clause-noted
returns-clause-noted g c =
    let v = around_of g.E.Types.types c.names.scope in
    let u = around_of g.E.Types.types c.args.scope.now in
    let xs = c.args.names.now in
    let t = option_copied c.args.of in
    no_more_names v c.args.mode t (drop c.names.x-index xs) c.names.book (book_after c.args.book.now (names_declared u c.args.mode t xs).notes) (end_at xs c.names.x-index (omega arith)) c.names.invariant.notes
