use Rattle.std.proofs.Common.{rules, drop, arith}
use Rattle.ob_cdecl_scopes.specs.Scopes.{around_of}
use Rattle.ob_rules.specs.Books.{book_after}
use Rattle.ob_rules.specs.Judged.{notes_of}
use Rattle.std.specs.Prelude.{map}
use Rattle.ob_rules.specs.Expressions.{phrase_of}
use Rattle.ob_rules.specs.Types.{array_length}
use Rattle.ob_cdecl_type.specs.Nested.{lengths_in}
use Rattle.ob_cdecl_field.proofs.LoopLaws.{step_at, end_at}
use Rattle.ob_cdecl_type.proofs.LengthLaws.{more_lengths, more_notes, no_more_notes}
use Rattle.ob_cdecl_type.proofs.arrays.lengths_of.Goals as goal

pub lengths-preserved : goal.lengths-preserved
lengths-preserved g c =
    let u = around_of g.E.Types.types c.args.scope.now in
    let ls = c.args.lengths.now in
    let step = step_at ls c.lengths.e-index c.e-item.result (omega arith) c.e-item.is in
    record {
      all = more_lengths u ls c.lengths.e-index c.e-item.result c.lengths.all.items c.push.new.self.items (lengths_in u (map phrase_of ls)) c.in_ok-length.length step (search rules) c.in_ok-length.ensures.made c.lengths.invariant.all;
      notes = more_notes u ls c.lengths.e-index c.e-item.result c.lengths.book c.array_length.new.book (book_after c.args.book.now (notes_of (map (array_length u) (map phrase_of ls)))) step c.in_ok-length.ensures.noted c.lengths.invariant.notes;
    }

pub returns-clause-noted : goal.returns-clause-noted
returns-clause-noted g c =
    let u = around_of g.E.Types.types c.args.scope.now in
    let ls = c.args.lengths.now in
    no_more_notes u (drop c.lengths.e-index ls) c.lengths.book (book_after c.args.book.now (notes_of (map (array_length u) (map phrase_of ls)))) (end_at ls c.lengths.e-index (omega arith)) c.lengths.invariant.notes
