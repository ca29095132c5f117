use Rattle.std.proofs.Common.{◌≡◌, subst, Option, Result, IfOk}
use Rattle.ob_rules.specs.declared.values.Valued.{Valued}
use Rattle.ob_rules.specs.Books.{book_after}
use Rattle.ob_rules.specs.Expressions as exprs
use Rattle.ob_rules.specs.Statements as spec
use Rattle.ob_cstmt.proofs.Steps.{always}
use Rattle.ob_cstmt.proofs.labels.boxed_case_value.Goals as goal

the_same : {E : Type 0} (r : Result (Option Valued) E) (x y : Option Valued) → x ≡ y → IfOk r (λ o. o ≡ x) → IfOk r (λ o. o ≡ y)
the_same r x y e h = subst (λ z. IfOk r (λ o. o ≡ z)) e h

pub returns-clause-made : goal.returns-clause-made
returns-clause-made g c = the_same c.boxed.result c.in_ok-value.value _ c.in_ok-value.ensures.made c.boxed.ensures

pub returns-clause-noted : goal.returns-clause-noted
returns-clause-noted g c =
    let u = g.S.Surroundings.around c.args.here.now in
    always {P = c.case_value.new.book ≡ book_after c.args.book.now (spec.case_judged u (exprs.phrase_of c.args.x.now)).notes} c.boxed.result c.in_ok-value.ensures.noted
