use Rattle.std.proofs.Common.{◌+◌, drop, refl, arith}
use Rattle.std.specs.Option.{option_copied}
use Rattle.ob_cdecl_scopes.specs.Scopes.{around_of}
use Rattle.ob_rules.specs.Books.{book_after}
use Rattle.ob_rules.specs.Declarations.{together, variables_with}
use Rattle.ob_cdecl_field.proofs.LoopLaws.{step_at, end_at}
use Rattle.ob_cdecl.specs.Seen.{contents_of}
use Rattle.ob_cdecl.specs.Order.{typing_only}
use Rattle.ob_cdecl.proofs.OrderLaws.{more_variables_around, more_variables_notes, more_variables_contents, no_more_variables_around, no_more_variables_notes, no_more_variables_contents}
use Rattle.ob_cdecl.proofs.variables.variables_with.Goals as goal

pub names-preserved : goal.names-preserved
names-preserved g c =
    let v = around_of g.E.Types.types c.names.scope in
    let w = around_of g.E.Types.types c.variable_declared.new.scope in
    let u = around_of g.E.Types.types c.args.scope.now in
    let xs = c.args.names.now in
    let i = c.names.d-index in
    let d = c.d-item.result in
    let t = typing_only (option_copied c.args.of) in
    let more = drop (i + 1) xs in
    let all = drop i xs in
    let step = step_at xs i d (omega arith) c.d-item.is in
    record {
      around = more_variables_around d more all t v w (variables_with xs t u).around step c.in_ok-variable_declared.ensures.around c.names.invariant.around;
      notes = more_variables_notes d more all t v w c.names.book c.variable_declared.new.book (book_after c.args.book.now (variables_with xs t u).part.notes) step c.in_ok-variable_declared.ensures.around c.in_ok-variable_declared.ensures.noted c.names.invariant.notes;
      contents = more_variables_contents d more all t v w (contents_of c.names.contents) (contents_of c.variable_declared.new.contents) (together (contents_of c.args.contents.now) (variables_with xs t u).part.contents) step c.in_ok-variable_declared.ensures.around c.in_ok-variable_declared.ensures.added c.names.invariant.contents;
    }

pub returns-clause-around : goal.returns-clause-around
returns-clause-around g c =
    let v = around_of g.E.Types.types c.names.scope in
    let u = around_of g.E.Types.types c.args.scope.now in
    let xs = c.args.names.now in
    let t = typing_only (option_copied c.args.of) in
    no_more_variables_around (drop c.names.d-index xs) t v (variables_with xs t u).around (end_at xs c.names.d-index (omega arith)) c.names.invariant.around

pub returns-clause-noted : goal.returns-clause-noted
returns-clause-noted g c =
    let v = around_of g.E.Types.types c.names.scope in
    let u = around_of g.E.Types.types c.args.scope.now in
    let xs = c.args.names.now in
    let t = typing_only (option_copied c.args.of) in
    no_more_variables_notes (drop c.names.d-index xs) t v c.names.book (book_after c.args.book.now (variables_with xs t u).part.notes) (end_at xs c.names.d-index (omega arith)) c.names.invariant.notes

pub returns-clause-added : goal.returns-clause-added
returns-clause-added g c =
    let v = around_of g.E.Types.types c.names.scope in
    let u = around_of g.E.Types.types c.args.scope.now in
    let xs = c.args.names.now in
    let t = typing_only (option_copied c.args.of) in
    no_more_variables_contents (drop c.names.d-index xs) t v (contents_of c.names.contents) (together (contents_of c.args.contents.now) (variables_with xs t u).part.contents) (end_at xs c.names.d-index (omega arith)) c.names.invariant.contents
