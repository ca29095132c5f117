use Rattle.std.proofs.Common.{◌≡◌, ◌∙◌, ap, Some}
use Rattle.ob_cdecl_scopes.specs.Scopes.{around_of}
use Rattle.ob_rules.specs.Books.{book_after}
use Rattle.ob_rules.specs.Types.{with_types}
use Rattle.ob_cdecl_field.specs.Makes.{typing_of}
use Rattle.ob_cdecl_field.specs.ParameterMakes.{names_declared, parameters_at}
use Rattle.ob_cdecl_field.proofs.SectionLaws.{some_around, some_notes}
use Rattle.ob_cdecl_field.proofs.sections.some_known.Goals as goal

pub returns-clause-made : goal.returns-clause-made
returns-clause-made g c =
    let u = around_of g.E.Types.types c.args.scope.now in
    let v = around_of g.E.Types.types c.add_types.new.scope in
    let more : v ≡ with_types u c.args.t.made = c.in_ok-add_types.ensures ∙ ap (with_types u) c.as_slice.ensures in
    c.in_ok-parameters.ensures ∙ ap (λ a. parameters_at a c.args.mode c.args.names.now (typing_of c.args.t)) more

pub returns-clause-known : goal.returns-clause-known
returns-clause-known g c =
    let u = around_of g.E.Types.types c.args.scope.now in
    let v = around_of g.E.Types.types c.add_types.new.scope in
    let more : v ≡ with_types u c.args.t.made = c.in_ok-add_types.ensures ∙ ap (with_types u) c.as_slice.ensures in
    some_around u v (around_of g.E.Types.types c.declare_names.new.scope) c.args.mode (typing_of c.args.t) c.args.names.now
    (c.in_ok-declare_names.ensures.known ∙ ap (λ o. (names_declared v c.args.mode (Some o) c.args.names.now).around) c.in_ok-of.ensures)
    more

pub returns-clause-noted : goal.returns-clause-noted
returns-clause-noted g c =
    let u = around_of g.E.Types.types c.args.scope.now in
    let v = around_of g.E.Types.types c.add_types.new.scope in
    let b = c.args.book.now in
    let more : v ≡ with_types u c.args.t.made = c.in_ok-add_types.ensures ∙ ap (with_types u) c.as_slice.ensures in
    some_notes b c.declare_names.new.book u v c.args.mode (typing_of c.args.t) c.args.names.now
    (c.in_ok-declare_names.ensures.noted ∙ ap (λ o. book_after b (names_declared v c.args.mode (Some o) c.args.names.now).notes) c.in_ok-of.ensures)
    more
