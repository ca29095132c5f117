use Rattle.std.proofs.Common.{◌≡◌, ◌+◌, drop, map, length, Some}
use Rattle.std.specs.Option.{option_map}
use Rattle.ob_rules.specs.Books.{book_after}
use Rattle.ob_rules.specs.Judged as judged
use Rattle.ob_rules.specs.Calls as calls
use Rattle.ob_rules.specs.Designators as designators
use Rattle.ob_rules.specs.Expressions as spec
use Rattle.ob_cexpr_call.specs.Rows.{row_seen}
use Rattle.ob_cexpr_operand.specs.Plain.{plain, onto}
use Rattle.ob_cexpr_arguments.specs.Arguments.{parameters_asked}
use Rattle.ob_cexpr.specs.Plain.{elements_judged, goes_on}
use Rattle.ob_cexpr.proofs.+walk.Given as goal

-- what came before, and the rest behind it, is the whole
abbrev pub invariant-walk::check_tails-tails : goal.invariant-walk::check_tails-tails
invariant-walk::check_tails-tails g l =
    ((spec.combine_all (g.S.Surroundings.around l.here) (map spec.tailed_of l.tails) (plain l.fn.first)).node ≡ (spec.combine_all (g.S.Surroundings.around l.here) (map spec.tailed_of (drop l.tail-index l.tails)) (plain l.all)).node)
    × (book_after l.initial.book (spec.combine_all (g.S.Surroundings.around l.here) (map spec.tailed_of l.tails) (plain l.fn.first)).notes ≡ book_after l.book (spec.combine_all (g.S.Surroundings.around l.here) (map spec.tailed_of (drop l.tail-index l.tails)) (plain l.all)).notes)

abbrev pub invariant-walk::check_elements-elements : goal.invariant-walk::check_elements-elements
invariant-walk::check_elements-elements g l =
    ((elements_judged (g.S.Surroundings.around l.here) l.elements).node ≡ onto (option_map (λ v. v.items) l.row) (elements_judged (g.S.Surroundings.around l.here) (drop l.element-index l.elements)).node)
    × (book_after l.initial.book (elements_judged (g.S.Surroundings.around l.here) l.elements).notes ≡ book_after l.book (elements_judged (g.S.Surroundings.around l.here) (drop l.element-index l.elements)).notes)

abbrev pub invariant-designators::check_selectors-selectors : goal.invariant-designators::check_selectors-selectors
invariant-designators::check_selectors-selectors g l =
    ((goes_on (g.S.Surroundings.around l.here) l.place l.start (designators.behind l.fn.with_name (map spec.behind_of l.selectors)) (Some l.fn.meant)).node ≡ (goes_on (g.S.Surroundings.around l.here) l.place l.start (designators.behind l.taken (map spec.behind_of (drop l.selector-index l.selectors))) l.all).node)
    × (book_after l.initial.book (goes_on (g.S.Surroundings.around l.here) l.place l.start (designators.behind l.fn.with_name (map spec.behind_of l.selectors)) (Some l.fn.meant)).notes ≡ book_after l.book (goes_on (g.S.Surroundings.around l.here) l.place l.start (designators.behind l.taken (map spec.behind_of (drop l.selector-index l.selectors))) l.all).notes)
    × (l.left + l.selector-index ≡ length l.selectors)

abbrev pub invariant-designators::visit_selectors-selectors : goal.invariant-designators::visit_selectors-selectors
invariant-designators::visit_selectors-selectors g l =
    book_after l.initial.book (designators.all_visited (g.S.Surroundings.around l.here) (map spec.behind_of l.selectors)) ≡ book_after l.book (designators.all_visited (g.S.Surroundings.around l.here) (map spec.behind_of (drop l.selector-index l.selectors)))

abbrev pub invariant-designators::visit_arguments-arguments : goal.invariant-designators::visit_arguments-arguments
invariant-designators::visit_arguments-arguments g l =
    book_after l.initial.book (designators.visited (g.S.Surroundings.around l.here) (map spec.phrase_of l.arguments)) ≡ book_after l.book (designators.visited (g.S.Surroundings.around l.here) (map spec.phrase_of (drop l.argument-index l.arguments)))

abbrev pub invariant-actuals::check_actuals-arguments : goal.invariant-actuals::check_actuals-arguments
invariant-actuals::check_actuals-arguments g l =
    ((calls.actuals (g.S.Surroundings.around l.here) l.params (map spec.phrase_of l.arguments)).node ≡ onto (row_seen l.row) (calls.actuals (g.S.Surroundings.around l.here) (drop l.number l.params) (map spec.phrase_of (drop l.argument-index l.arguments))).node)
    × (book_after l.initial.book (calls.actuals (g.S.Surroundings.around l.here) l.params (map spec.phrase_of l.arguments)).notes ≡ book_after l.book (calls.actuals (g.S.Surroundings.around l.here) (drop l.number l.params) (map spec.phrase_of (drop l.argument-index l.arguments))).notes)
    × (l.number ≡ l.argument-index)

abbrev pub invariant-predeclared::check_parameters-arguments : goal.invariant-predeclared::check_parameters-arguments
invariant-predeclared::check_parameters-arguments g l =
    ((judged.each_sound (parameters_asked (g.S.Surroundings.around l.here) l.fn.first l.fn.second (map spec.phrase_of l.arguments))).node ≡ onto (option_map (λ v. v.items) l.row) (judged.each_sound (parameters_asked (g.S.Surroundings.around l.here) l.asked l.next (map spec.phrase_of (drop l.argument-index l.arguments)))).node)
    × (book_after l.initial.book (judged.each_sound (parameters_asked (g.S.Surroundings.around l.here) l.fn.first l.fn.second (map spec.phrase_of l.arguments))).notes ≡ book_after l.book (judged.each_sound (parameters_asked (g.S.Surroundings.around l.here) l.asked l.next (map spec.phrase_of (drop l.argument-index l.arguments)))).notes)
