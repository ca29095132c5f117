use Rattle.std.proofs.Common.{◌≡◌, sym, ap, ◌∙◌, Some}
use Rattle.std.proofs.lemmas.Result.{IfOk-weaker}
use Rattle.ob_rules.specs.Shapes.{pointed, is_array}
use Rattle.ob_rules.specs.Designators.{implicitly}
use Rattle.ob_cexpr_designator.proofs.places.to_array.Goals as goal

pub returns-in-Some : goal.returns-in-Some
returns-in-Some g c =
    let map = g.T.Types.types c.args.types.now in
    let is : Some c.in-Some.t ≡ pointed map c.args.place.of = sym c.in-Some.is ∙ c.in_ok-pointed.ensures in
    IfOk-weaker c.to_array_of.result _ _ (λ r h. h ∙ ap (λ o. (implicitly map (is_array map) c.args.at c.args.place o).node) is) c.to_array_of.ensures
