use Rattle.std.proofs.Common.{◌≡◌, ◌+◌, ◌∷◌, ◌∙◌, ap, drop, arith}
use Rattle.std.specs.Option.{option_map}
use Rattle.ob_cdecl_scopes.specs.Scopes.{around_of}
use Rattle.ob_rules.specs.Books.{book_after}
use Rattle.ob_rules.specs.Types.{name_in, names_behind}
use Rattle.ob_cdecl_field.specs.Makes.{typing_of}
use Rattle.ob_cdecl_field.specs.FieldMakes.{fields_in}
use Rattle.ob_cdecl_field.proofs.LoopLaws.{step_at, end_at, more_fields, more_field_notes, more_behind, no_more_fields}
use Rattle.ob_cdecl_field.proofs.fields.fields_of.Goals as goal

pub fields-preserved : goal.fields-preserved
fields-preserved g c =
    let u = around_of g.E.Types.types c.args.scope.now in
    let ds = c.args.names.now in
    let d = c.d-item.result in
    let t = option_map typing_of c.args.typed.now in
    let more = drop (c.fields.d-index + 1) ds in
    let all = drop c.fields.d-index ds in
    let base = c.args.base.now in
    let step = step_at ds c.fields.d-index d (omega arith) c.d-item.is in
    let pushed : c.push.new.self ≡ name_in d ∷ c.fields.before = c.in_ok-push.ensures.ok ∙ ap (λ x. x ∷ c.fields.before) c.as_bytes.ensures in
    record {
      node = more_fields u base c.fields.before c.push.new.self d more all t c.in_ok-field.field c.fields.sound c.in_ok-sound.sound c.fields.fields c.collect.new.fields (fields_in u base c.args.before.now ds t).node step pushed c.in_ok-field.ensures.made c.in_ok-sound.ensures c.fields.invariant.node;
      notes = more_field_notes u base c.fields.before c.push.new.self d more all t c.fields.book c.field_if.new.book (book_after c.args.book.now (fields_in u base c.args.before.now ds t).notes) step pushed c.in_ok-field.ensures.noted c.fields.invariant.notes;
      behind = more_behind c.fields.before c.push.new.self d more all (names_behind ds c.args.before.now) step pushed c.fields.invariant.behind;
    }

pub returns-then-sound-clause-noted : goal.returns-then-sound-clause-noted
returns-then-sound-clause-noted g c =
    let u = around_of g.E.Types.types c.args.scope.now in
    let ds = c.args.names.now in
    let t = option_map typing_of c.args.typed.now in
    no_more_fields u c.args.base.now c.fields.before (drop c.fields.d-index ds) t c.fields.book (book_after c.args.book.now (fields_in u c.args.base.now c.args.before.now ds t).notes) (end_at ds c.fields.d-index (omega arith)) c.fields.invariant.notes

pub returns-else-sound-clause-noted : goal.returns-else-sound-clause-noted
returns-else-sound-clause-noted g c =
    let u = around_of g.E.Types.types c.args.scope.now in
    let ds = c.args.names.now in
    let t = option_map typing_of c.args.typed.now in
    no_more_fields u c.args.base.now c.fields.before (drop c.fields.d-index ds) t c.fields.book (book_after c.args.book.now (fields_in u c.args.base.now c.args.before.now ds t).notes) (end_at ds c.fields.d-index (omega arith)) c.fields.invariant.notes
