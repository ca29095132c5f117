use Rattle.std.proofs.Common.{◌+◌, drop, refl, arith}
use Rattle.ob_cdecl_scopes.specs.Scopes.{around_of}
use Rattle.ob_rules.specs.Books.{book_after}
use Rattle.ob_rules.specs.Declarations.{together}
use Rattle.ob_cdecl_field.proofs.LoopLaws.{step_at, end_at}
use Rattle.ob_cdecl.specs.Seen.{contents_of}
use Rattle.ob_cdecl.specs.Order.{plain_in_order}
use Rattle.ob_cdecl.proofs.Growing.{grows_not, grows_on}
use Rattle.ob_cdecl.proofs.OrderLaws.{more_around, more_notes, more_contents, no_more_around, no_more_notes, no_more_contents}
use Rattle.ob_cdecl.proofs.order.plain_in_order.Goals as goal

pub declarations-init : goal.declarations-init
declarations-init g c = record { around = refl; notes = refl; contents = refl; grows = grows_not (around_of g.E.Types.types c.args.scope.now) }

pub declarations-preserved : goal.declarations-preserved
declarations-preserved g c =
    let v = around_of g.E.Types.types c.declarations.scope in
    let w = around_of g.E.Types.types c.plain_declared.new.scope in
    let u = around_of g.E.Types.types c.args.scope.now in
    let xs = c.args.decls.now in
    let i = c.declarations.d-index in
    let d = c.d-item.result in
    let more = drop (i + 1) xs in
    let all = drop i xs in
    let step = step_at xs i d (omega arith) c.d-item.is in
    record {
      around = more_around d more all v w (plain_in_order xs u).around step c.in_ok-plain_declared.ensures.around c.declarations.invariant.around;
      notes = more_notes d more all v w c.declarations.book c.plain_declared.new.book (book_after c.args.book.now (plain_in_order xs u).part.notes) step c.in_ok-plain_declared.ensures.around c.in_ok-plain_declared.ensures.noted c.declarations.invariant.notes;
      contents = more_contents d more all v w (contents_of c.declarations.contents) (contents_of c.plain_declared.new.contents) (together (contents_of c.args.contents.now) (plain_in_order xs u).part.contents) step c.in_ok-plain_declared.ensures.around c.in_ok-plain_declared.ensures.added c.declarations.invariant.contents;
      grows = grows_on u v w c.declarations.invariant.grows c.in_ok-plain_declared.ensures.grows;
    }

pub returns-clause-around : goal.returns-clause-around
returns-clause-around g c =
    let v = around_of g.E.Types.types c.declarations.scope in
    let u = around_of g.E.Types.types c.args.scope.now in
    let xs = c.args.decls.now in
    no_more_around (drop c.declarations.d-index xs) v (plain_in_order xs u).around (end_at xs c.declarations.d-index (omega arith)) c.declarations.invariant.around

pub returns-clause-noted : goal.returns-clause-noted
returns-clause-noted g c =
    let v = around_of g.E.Types.types c.declarations.scope in
    let u = around_of g.E.Types.types c.args.scope.now in
    let xs = c.args.decls.now in
    no_more_notes (drop c.declarations.d-index xs) v c.declarations.book (book_after c.args.book.now (plain_in_order xs u).part.notes) (end_at xs c.declarations.d-index (omega arith)) c.declarations.invariant.notes

pub returns-clause-added : goal.returns-clause-added
returns-clause-added g c =
    let v = around_of g.E.Types.types c.declarations.scope in
    let u = around_of g.E.Types.types c.args.scope.now in
    let xs = c.args.decls.now in
    no_more_contents (drop c.declarations.d-index xs) v (contents_of c.declarations.contents) (together (contents_of c.args.contents.now) (plain_in_order xs u).part.contents) (end_at xs c.declarations.d-index (omega arith)) c.declarations.invariant.contents
