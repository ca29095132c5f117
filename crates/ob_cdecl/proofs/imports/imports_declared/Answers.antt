use Rattle.std.proofs.Common.{◌+◌, drop, arith}
use Rattle.ob_cdecl_scopes.specs.Scopes.{around_of}
use Rattle.ob_rules.specs.Books.{book_after}
use Rattle.ob_rules.specs.Declarations.{imports_declared}
use Rattle.ob_cdecl_field.proofs.LoopLaws.{step_at, end_at}
use Rattle.ob_cdecl.proofs.ImportLaws.{more_imports_around, more_imports_notes, no_more_imports_around, no_more_imports_notes}
use Rattle.ob_cdecl.proofs.imports.imports_declared.Goals as goal

pub imports-preserved : goal.imports-preserved
imports-preserved g c =
    let v = around_of g.E.Types.types c.imports.scope in
    let w = around_of g.E.Types.types c.import_declared.new.scope in
    let u = around_of g.E.Types.types c.args.scope.now in
    let xs = c.args.imports.now in
    let i = c.imports.item-index in
    let x = c.item-item.result in
    let step = step_at xs i x (omega arith) c.item-item.is in
    record {
      around = more_imports_around x (drop (i + 1) xs) (drop i xs) v w (imports_declared xs u).around step c.in_ok-import_declared.ensures.around c.imports.invariant.around;
      notes = more_imports_notes x (drop (i + 1) xs) (drop i xs) v w c.imports.book c.import_declared.new.book (book_after c.args.book.now (imports_declared xs u).part.notes) step c.in_ok-import_declared.ensures.around c.in_ok-import_declared.ensures.noted c.imports.invariant.notes;
    }

pub returns-clause-around : goal.returns-clause-around
returns-clause-around g c =
    let v = around_of g.E.Types.types c.imports.scope in
    let u = around_of g.E.Types.types c.args.scope.now in
    let xs = c.args.imports.now in
    no_more_imports_around (drop c.imports.item-index xs) v (imports_declared xs u).around (end_at xs c.imports.item-index (omega arith)) c.imports.invariant.around

pub returns-clause-noted : goal.returns-clause-noted
returns-clause-noted g c =
    let v = around_of g.E.Types.types c.imports.scope in
    let u = around_of g.E.Types.types c.args.scope.now in
    let xs = c.args.imports.now in
    no_more_imports_notes (drop c.imports.item-index xs) v c.imports.book (book_after c.args.book.now (imports_declared xs u).part.notes) (end_at xs c.imports.item-index (omega arith)) c.imports.invariant.notes
