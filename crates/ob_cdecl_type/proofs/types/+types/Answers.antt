use Rattle.std.proofs.Common.{◌≡◌, ◌+◌, [], ◌∙◌, refl, sym, ap, subst, drop, length, Some, Result, Ok, Err, OnOk, arith}
use Rattle.std.specs.Prelude.{map}
use Rattle.std.specs.Option.{option_map}
use Rattle.ob_tree.specs.declared.ident.Mark.TheVariants as mark
use Rattle.ob_cdecl_scopes.specs.Scopes.{around_of}
use Rattle.ob_rules.specs.Books.{book_after}
use Rattle.ob_rules.specs.Expressions.{phrase_of}
use Rattle.ob_rules.specs.Types.{array_length, fixed_array, element_name, field_name, first_name, written, written_parameters, mode_of, field_lists, sections}
use Rattle.ob_cdecl_field.specs.Makes.{typing_of, parameters_of}
use Rattle.ob_cdecl_field.specs.FieldMakes.{fields_seen}
use Rattle.ob_cdecl_field.specs.ParameterMakes.{join_parameters, no_parameters, section_typing}
use Rattle.ob_cdecl_field.proofs.LoopLaws.{step_at, end_at}
use Rattle.ob_cdecl_field.proofs.SectionLaws.{join_end, sections_first}
use Rattle.ob_cdecl_field.proofs.Scoping.{Grown, names_grown, grown_none, cut_grown, entered, inside, falls, left}
use Rattle.ob_cdecl_type.specs.Nested.{written_fields, written_section, section_as}
use Rattle.ob_cdecl_type.proofs.ListLaws.{list_notes, more_lists, more_list_notes, no_more_list_notes}
use Rattle.ob_cdecl_type.proofs.HeadingLaws.{more_sections, more_section_notes, more_known, no_more_sections, no_more_section_notes, no_more_known, heading_notes}
use Rattle.ob_cdecl_type.proofs.ArrayLaws.{fixed_first}
use Rattle.ob_cdecl_type.proofs.types.+types.Goals as goal

-- what holds anyway, holds where there was memory
held : {T E P : Type 0} (r : Result T E) → P → OnOk r P
held (Ok x) p = p
held (Err e) p = tt

pub fixed_array-returns-clause-noted : goal.fixed_array-returns-clause-noted
fixed_array-returns-clause-noted g t c =
    let u = around_of g.E.Types.types c.args.scope.now in
    let w = written c.args.element.now in
    let ls = map phrase_of c.args.rest.now in
    let b = c.args.book.now in
    let first = phrase_of c.args.first.now in
    let inner : c.as_bytes.result.now ≡ element_name c.args.name.now = c.as_bytes.ensures ∙ c.in_ok-inner.ensures in
    c.in_ok-of.ensures.noted
    ∙ ap (λ k. book_after k (fixed_array u c.as_bytes.result.now mark.Hidden ls w).notes) c.in_ok-length.ensures.noted
    ∙ ap (λ n. book_after (book_after b (array_length u first).notes) (fixed_array u n mark.Hidden ls w).notes) inner
    ∙ fixed_first b u c.args.name.now c.args.mark first ls w

pub all_fields-lists-preserved : goal.all_fields-lists-preserved
all_fields-lists-preserved g t c =
    let u = around_of g.E.Types.types c.args.scope.now in
    let v = around_of g.E.Types.types c.lists.scope in
    let ls = c.args.lists.now in
    let i = c.lists.list-index in
    let l = c.list-item.result in
    let more = drop (i + 1) ls in
    let all = drop i ls in
    let base = c.args.base.now in
    let name = c.args.name.now in
    let whole = field_lists u name base [] (map written_fields ls) in
    let step = step_at ls i l (omega arith) c.list-item.is in
    record {
      node = more_lists u v name base c.lists.before c.list_of_fields.new.before l more all (option_map fields_seen c.lists.all) (option_map fields_seen c.in_ok-all.all) (option_map fields_seen c.in_ok-more.more) whole.node step c.lists.invariant.around c.in_ok-more.ensures.behind c.in_ok-more.ensures.made c.in_ok-all.ensures c.lists.invariant.node;
      notes = more_list_notes u v name base c.lists.before c.list_of_fields.new.before l more all c.lists.book c.list_of_fields.new.book (book_after c.args.book.now whole.notes) step c.lists.invariant.around c.in_ok-more.ensures.behind c.in_ok-more.ensures.noted c.lists.invariant.notes;
      around = c.in_ok-more.ensures.stays ∙ c.lists.invariant.around;
    }

pub all_sections-sections-preserved : goal.all_sections-sections-preserved
all_sections-sections-preserved g t c =
    let u = around_of g.E.Types.types c.args.scope.now in
    let v = around_of g.E.Types.types c.sections.scope in
    let w = around_of g.E.Types.types c.section.new.scope in
    let ss = c.args.sections.now in
    let i = c.sections.written-index in
    let s = c.written-item.result in
    let more = drop (i + 1) ss in
    let all = drop i ss in
    let name = c.args.name.now in
    let m = c.sections.number in
    let n = c.in_ok-number.number in
    let whole = sections u name 1 (map written_section ss) in
    let step = step_at ss i s (omega arith) c.written-item.is in
    let next : n ≡ m + length s.names = c.in_ok-number.ensures ∙ ap (λ k. m + k) c.len.ensures in
    let x = option_map parameters_of c.sections.all in
    let y = option_map parameters_of c.in_ok-more.more in
    let joined : option_map parameters_of c.in_ok-all.all ≡ join_parameters x y = c.in_ok-all.ensures in
    record {
      node = more_sections v w name m n s more all x (option_map parameters_of c.in_ok-all.all) y whole.found.node step c.in_ok-more.ensures.known next c.in_ok-more.ensures.made joined c.sections.invariant.node;
      ends = ap (λ o. join_parameters o (Some no_parameters)) joined ∙ join_end x y ∙ sym joined;
      notes = more_section_notes v w name m n s more all c.sections.book c.section.new.book (book_after c.args.book.now whole.found.notes) step c.in_ok-more.ensures.known next c.in_ok-more.ensures.noted c.sections.invariant.notes;
      known = more_known v w name m n s more all whole.known step c.in_ok-more.ensures.known next c.sections.invariant.known;
      grown = subst (Grown u) (sym c.in_ok-more.ensures.known) (names_grown u v (mode_of s.is_var) s.names (section_typing v name m (section_as s)).node c.sections.invariant.grown);
    }

pub all_fields-returns-clause-noted : goal.all_fields-returns-clause-noted
all_fields-returns-clause-noted g t c =
    let u = around_of g.E.Types.types c.args.scope.now in
    let ls = c.args.lists.now in
    let base = c.args.base.now in
    let name = c.args.name.now in
    no_more_list_notes u name base c.lists.before (drop c.lists.list-index ls) c.lists.book (book_after c.args.book.now (field_lists u name base [] (map written_fields ls)).notes) (end_at ls c.lists.list-index (omega arith)) c.lists.invariant.notes

pub list_of_fields-returns-clause-noted : goal.list_of_fields-returns-clause-noted
list_of_fields-returns-clause-noted g t c =
    let u = around_of g.E.Types.types c.args.scope.now in
    let v = around_of g.E.Types.types c.check_type.new.scope in
    let xs = c.as_slice-names.result.now in
    let inner : c.as_bytes.result.now ≡ field_name c.args.name.now (first_name xs) = c.as_bytes.ensures ∙ c.in_ok-inner.ensures ∙ ap (field_name c.args.name.now) c.first_name.ensures in
    list_notes c.args.book.now c.check_type.new.book c.fields_of.new.book u v c.args.name.now c.as_bytes.result.now c.args.base.now c.args.before.now c.args.list.now xs (option_map typing_of c.in_ok-typed.typed)
    c.in_ok-fields.ensures.noted c.in_ok-typed.ensures.noted c.in_ok-typed.ensures.stays c.in_ok-typed.ensures.made inner c.as_slice-names.ensures

pub all_sections-sections-init : goal.all_sections-sections-init
all_sections-sections-init g t c =
    let u = around_of g.E.Types.types c.args.scope.now in
    let name = c.args.name.now in
    let ws = map written_section c.args.sections.now in
    let none : parameters_of c.no_parameters.result ≡ no_parameters = c.no_parameters.ensures in
    record {
      node = ap (λ p. join_parameters (Some p) (sections u name 1 ws).found.node) none ∙ sections_first u name 1 ws;
      ends = ap (λ p. join_parameters (Some p) (Some no_parameters)) none ∙ sym (ap (λ p. Some p) none);
      notes = refl;
      known = refl;
      grown = grown_none u;
    }

pub all_sections-returns-clause-made : goal.all_sections-returns-clause-made
all_sections-returns-clause-made g t c =
    let u = around_of g.E.Types.types c.args.scope.now in
    let v = around_of g.E.Types.types c.sections.scope in
    let name = c.args.name.now in
    let ss = c.args.sections.now in
    no_more_sections v name c.sections.number (drop c.sections.written-index ss) (option_map parameters_of c.sections.all) (sections u name 1 (map written_section ss)).found.node (end_at ss c.sections.written-index (omega arith)) c.sections.invariant.ends c.sections.invariant.node

pub all_sections-returns-clause-noted : goal.all_sections-returns-clause-noted
all_sections-returns-clause-noted g t c =
    let u = around_of g.E.Types.types c.args.scope.now in
    let v = around_of g.E.Types.types c.sections.scope in
    let name = c.args.name.now in
    let ss = c.args.sections.now in
    no_more_section_notes v name c.sections.number (drop c.sections.written-index ss) c.sections.book (book_after c.args.book.now (sections u name 1 (map written_section ss)).found.notes) (end_at ss c.sections.written-index (omega arith)) c.sections.invariant.notes

pub all_sections-returns-clause-known : goal.all_sections-returns-clause-known
all_sections-returns-clause-known g t c =
    let u = around_of g.E.Types.types c.args.scope.now in
    let v = around_of g.E.Types.types c.sections.scope in
    let w = around_of g.E.Types.types c.cut_types.new.self in
    let name = c.args.name.now in
    let ss = c.args.sections.now in
    cut_grown u v w c.mark-mark.result.own c.cut_types.ensures c.mark-mark.ensures.own c.sections.invariant.grown
    ∙ ap (λ k. record u { known = k }) (no_more_known v name c.sections.number (drop c.sections.written-index ss) (sections u name 1 (map written_section ss)).known (end_at ss c.sections.written-index (omega arith)) c.sections.invariant.known)

pub procedure_type-leave-requires-clause-fall : goal.procedure_type-leave-requires-clause-fall
procedure_type-leave-requires-clause-fall g t c =
    let u = around_of g.E.Types.types c.args.scope.now in
    let e = around_of g.E.Types.types c.enter.new.self in
    let v = around_of g.E.Types.types c.check_parameters.new.scope in
    falls u v c.mark-outer.result.known c.mark-outer.ensures.known c.mark-outer.ensures.fall
    (inside u e v c.args.name.now (written_parameters c.args.written.now).sections (entered u e c.in_ok-enter.ensures) c.in_ok-parameters.ensures.known)

pub procedure_type-returns-clause-stays : goal.procedure_type-returns-clause-stays
procedure_type-returns-clause-stays g t c =
    let u = around_of g.E.Types.types c.args.scope.now in
    let e = around_of g.E.Types.types c.enter.new.self in
    let v = around_of g.E.Types.types c.check_parameters.new.scope in
    let w = around_of g.E.Types.types c.leave.new.self in
    let back : w ≡ u = left u v w c.mark-outer.result.known c.mark-outer.result.own c.leave.ensures c.mark-outer.ensures.known c.mark-outer.ensures.own
    (inside u e v c.args.name.now (written_parameters c.args.written.now).sections (entered u e c.in_ok-enter.ensures) c.in_ok-parameters.ensures.known) in
    held c.procedure_of.result back

pub check_parameters-returns-clause-noted : goal.check_parameters-returns-clause-noted
check_parameters-returns-clause-noted g t c =
    let u = around_of g.E.Types.types c.args.scope.now in
    let v = around_of g.E.Types.types c.all_sections.new.scope in
    heading_notes c.args.book.now c.all_sections.new.book c.result_of.new.book u v c.args.name.now c.args.written.now c.as_slice.result.now
    c.in_ok-result_type.ensures.noted c.in_ok-all.ensures.noted c.in_ok-all.ensures.known c.as_slice.ensures
