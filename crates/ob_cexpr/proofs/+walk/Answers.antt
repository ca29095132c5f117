use Rattle.std.proofs.Common.{◌≡◌, refl, sym, ap, subst, ◌∙◌, map, drop, ◌+◌, ◌∷◌, [], Some, arith, rules, length, IfOk}
use Rattle.std.proofs.lemmas.List.{take_rest}
use Rattle.std.proofs.lemmas.Result.{IfOk-weaker, on_ok_weaker}
use Rattle.ob_tree.specs.declared.expr.Expr.TheVariants as expr
use Rattle.ob_tree.proofs.expr.Expr.TheLaws.{the_size}
use Rattle.ob_tree.specs.declared.pos.Pos.{Pos}
use Rattle.ob_rules.specs.Judged.{if_sound, sound, ◌▷◌}
use Rattle.ob_rules.specs.Values.{constant}
use Rattle.ob_rules.specs.Constants.{text_value}
use Rattle.ob_rules.specs.Phrases.{Index}
use Rattle.ob_rules.specs.declared.meant.Where.TheVariants.{InExpression}
use Rattle.ob_rules.specs.Designators as designators
use Rattle.ob_rules.specs.Names.{map_of}
use Rattle.ob_rules.specs.Operators.{opposite, signed}
use Rattle.ob_rules.specs.Books.{book_after}
use Rattle.ob_rules.specs.Expressions as spec
use Rattle.ob_rules.proofs.BookLaws.{after_none}
use Rattle.ob_cexpr_operand.specs.Plain.{plain}
use Rattle.ob_cexpr_arguments.specs.declared.opening.Opened.TheVariants as opens
use Rattle.ob_cexpr.specs.Plain.{set_judged, goes_on, visited_one}
use Rattle.ob_cexpr_trait.proofs.Alone.{alone_made, alone_said}
use Rattle.ob_cexpr.proofs.Further.{further_node, further_noted, too_many_node, too_many_noted, no_parameter_node, no_parameter_noted, most_rest}
use Rattle.ob_cexpr.proofs.Rounds.{actuals_step, actuals_end_noted, parameters_step, parameters_end_noted, extreme_node, extreme_noted, call_noted, left_noted}
use Rattle.ob_cexpr.proofs.Rows.{on_ok_from}
use Rattle.ob_cexpr.proofs.Sets.{set_node, set_noted, elements_step, elements_end, elements_end_noted, element_noted, as_set_node, as_set_noted}
use Rattle.ob_cexpr.proofs.Selectors.{selectors_end, selectors_end_noted, meant_node, meant_noted, index_step_node, index_step_noted, index_made, index_said, visit_step, argument_step, selector_step, not_taken, last_by}
use Rattle.ob_cexpr.proofs.Chains.{map_from, map_over, made_as, noted_as, then_made, then_noted, then_chain, then_chain_noted, relation_noted, chain_step, tails_from, tailed_as, tails_over}
use Rattle.ob_cexpr_trait.proofs.NamedViews.{named_is}
use Rattle.ob_cexpr.proofs.ExprViews.{behind_field, behind_index, behind_up, value_str, value_designator, value_nil, value_paren, value_not, value_signed, value_chain, value_relate}
use Rattle.ob_cexpr.proofs.+walk.Goals as goal

pub walk::check_expr-returns-in-Nil-clause-noted : goal.walk::check_expr-returns-in-Nil-clause-noted
walk::check_expr-returns-in-Nil-clause-noted g t c =
    let u = g.S.Surroundings.around c.args.here.now in
    sym (after_none c.args.book.now) ∙ ap (λ j. book_after c.args.book.now j.notes) (sym (ap (λ y. (spec.phrase_of y).value u) c.in-Nil.is ∙ value_nil c.in-Nil.field-0 u))

pub walk::check_expr-returns-in-Paren-clause-made : goal.walk::check_expr-returns-in-Paren-clause-made
walk::check_expr-returns-in-Paren-clause-made g t c =
    let u = g.S.Surroundings.around c.args.here.now in
    let v = (spec.phrase_of c.get.result.now).value u in
    let whole : (spec.phrase_of c.args.e.now).value u ≡ (v ▷ λ x. sound (spec.bracketed x)) =
    ap (λ y. (spec.phrase_of y).value u) (c.in-Paren.is ∙ ap (λ o. expr.Paren c.in-Paren.pos o) (sym c.get.ensures)) ∙ value_paren c.in-Paren.pos c.get.result.now u in
    made_as c.check_bracketed.result ((spec.phrase_of c.args.e.now).value u) _ whole c.check_bracketed.ensures.made

pub walk::check_expr-returns-in-Paren-clause-noted : goal.walk::check_expr-returns-in-Paren-clause-noted
walk::check_expr-returns-in-Paren-clause-noted g t c =
    let u = g.S.Surroundings.around c.args.here.now in
    let v = (spec.phrase_of c.get.result.now).value u in
    let whole : (spec.phrase_of c.args.e.now).value u ≡ (v ▷ λ x. sound (spec.bracketed x)) =
    ap (λ y. (spec.phrase_of y).value u) (c.in-Paren.is ∙ ap (λ o. expr.Paren c.in-Paren.pos o) (sym c.get.ensures)) ∙ value_paren c.in-Paren.pos c.get.result.now u in
    noted_as c.check_bracketed.result c.check_bracketed.new.book c.args.book.now ((spec.phrase_of c.args.e.now).value u) _ whole c.check_bracketed.ensures.noted

pub walk::check_expr-returns-in-Not-clause-made : goal.walk::check_expr-returns-in-Not-clause-made
walk::check_expr-returns-in-Not-clause-made g t c =
    let u = g.S.Surroundings.around c.args.here.now in
    let v = (spec.phrase_of c.get-in-Not.result.now).value u in
    let whole : (spec.phrase_of c.args.e.now).value u ≡ (v ▷ λ x. opposite (map_of u) c.in-Not.pos x) =
    ap (λ y. (spec.phrase_of y).value u) (c.in-Not.is ∙ ap (λ o. expr.Not c.in-Not.pos o) (sym c.get-in-Not.ensures)) ∙ value_not c.in-Not.pos c.get-in-Not.result.now u in
    made_as c.check_opposite.result ((spec.phrase_of c.args.e.now).value u) _ whole c.check_opposite.ensures.made

pub walk::check_expr-returns-in-Not-clause-noted : goal.walk::check_expr-returns-in-Not-clause-noted
walk::check_expr-returns-in-Not-clause-noted g t c =
    let u = g.S.Surroundings.around c.args.here.now in
    let v = (spec.phrase_of c.get-in-Not.result.now).value u in
    let whole : (spec.phrase_of c.args.e.now).value u ≡ (v ▷ λ x. opposite (map_of u) c.in-Not.pos x) =
    ap (λ y. (spec.phrase_of y).value u) (c.in-Not.is ∙ ap (λ o. expr.Not c.in-Not.pos o) (sym c.get-in-Not.ensures)) ∙ value_not c.in-Not.pos c.get-in-Not.result.now u in
    noted_as c.check_opposite.result c.check_opposite.new.book c.args.book.now ((spec.phrase_of c.args.e.now).value u) _ whole c.check_opposite.ensures.noted

pub walk::check_opposite-returns-clause-made : goal.walk::check_opposite-returns-clause-made
walk::check_opposite-returns-clause-made g t c =
    let u = g.S.Surroundings.around c.args.here.now in
    let v = (spec.phrase_of c.args.operand.now).value u in
    then_made c.opposite_if.result v (λ x. opposite (map_of u) c.args.at x) c.in_ok-x.x c.in_ok-x.ensures.made c.opposite_if.ensures.made

pub walk::check_opposite-returns-clause-noted : goal.walk::check_opposite-returns-clause-noted
walk::check_opposite-returns-clause-noted g t c =
    let u = g.S.Surroundings.around c.args.here.now in
    let v = (spec.phrase_of c.args.operand.now).value u in
    on_ok_weaker c.opposite_if.result (λ h. then_noted v (λ x. opposite (map_of u) c.args.at x) c.in_ok-x.x c.args.book.now c.check_expr.new.book c.opposite_if.new.book c.in_ok-x.ensures.made c.in_ok-x.ensures.noted h) c.opposite_if.ensures.noted

pub walk::check_expr-returns-in-Signed-clause-made : goal.walk::check_expr-returns-in-Signed-clause-made
walk::check_expr-returns-in-Signed-clause-made g t c =
    let u = g.S.Surroundings.around c.args.here.now in
    let v = (spec.phrase_of c.get-in-Signed.result.now).value u in
    let whole : (spec.phrase_of c.args.e.now).value u ≡ (v ▷ λ x. signed (map_of u) c.in-Signed.sign c.in-Signed.pos x) =
    ap (λ y. (spec.phrase_of y).value u) (c.in-Signed.is ∙ ap (λ o. expr.Signed c.in-Signed.sign c.in-Signed.pos o) (sym c.get-in-Signed.ensures)) ∙ value_signed c.in-Signed.sign c.in-Signed.pos c.get-in-Signed.result.now u in
    made_as c.check_signed.result ((spec.phrase_of c.args.e.now).value u) _ whole c.check_signed.ensures.made

pub walk::check_expr-returns-in-Signed-clause-noted : goal.walk::check_expr-returns-in-Signed-clause-noted
walk::check_expr-returns-in-Signed-clause-noted g t c =
    let u = g.S.Surroundings.around c.args.here.now in
    let v = (spec.phrase_of c.get-in-Signed.result.now).value u in
    let whole : (spec.phrase_of c.args.e.now).value u ≡ (v ▷ λ x. signed (map_of u) c.in-Signed.sign c.in-Signed.pos x) =
    ap (λ y. (spec.phrase_of y).value u) (c.in-Signed.is ∙ ap (λ o. expr.Signed c.in-Signed.sign c.in-Signed.pos o) (sym c.get-in-Signed.ensures)) ∙ value_signed c.in-Signed.sign c.in-Signed.pos c.get-in-Signed.result.now u in
    noted_as c.check_signed.result c.check_signed.new.book c.args.book.now ((spec.phrase_of c.args.e.now).value u) _ whole c.check_signed.ensures.noted

pub walk::check_signed-returns-clause-made : goal.walk::check_signed-returns-clause-made
walk::check_signed-returns-clause-made g t c =
    let u = g.S.Surroundings.around c.args.here.now in
    let v = (spec.phrase_of c.args.operand.now).value u in
    then_made c.signed_if.result v (λ x. signed (map_of u) c.args.sign c.args.at x) c.in_ok-x.x c.in_ok-x.ensures.made c.signed_if.ensures.made

pub walk::check_signed-returns-clause-noted : goal.walk::check_signed-returns-clause-noted
walk::check_signed-returns-clause-noted g t c =
    let u = g.S.Surroundings.around c.args.here.now in
    let v = (spec.phrase_of c.args.operand.now).value u in
    on_ok_weaker c.signed_if.result (λ h. then_noted v (λ x. signed (map_of u) c.args.sign c.args.at x) c.in_ok-x.x c.args.book.now c.check_expr.new.book c.signed_if.new.book c.in_ok-x.ensures.made c.in_ok-x.ensures.noted h) c.signed_if.ensures.noted

pub walk::check_expr-returns-in_ok-x-in-Chain-clause-made : goal.walk::check_expr-returns-in_ok-x-in-Chain-clause-made
walk::check_expr-returns-in_ok-x-in-Chain-clause-made g t c =
    let u = g.S.Surroundings.around c.args.here.now in
    let v = (spec.phrase_of c.get-in-Chain.result.now).value u in
    let ts = map spec.tailed_of c.as_slice-in-Chain.result.now in
    let whole : (spec.phrase_of c.args.e.now).value u ≡ spec.combine_all u ts v =
    ap (λ y. (spec.phrase_of y).value u) (c.in-Chain.is ∙ ap (λ o. expr.Chain o c.in-Chain.tails) (sym c.get-in-Chain.ensures) ∙ ap (λ o. expr.Chain c.get-in-Chain.result.now o) (sym c.as_slice-in-Chain.ensures)) ∙ value_chain c.get-in-Chain.result.now c.as_slice-in-Chain.result.now u in
    IfOk-weaker c.check_tails.result _ _ (λ r h. then_chain u ts v c.in_ok-x-in-Chain.x r c.in_ok-x-in-Chain.ensures.made h ∙ ap (λ j. j.node) (sym whole)) c.check_tails.ensures.made

pub walk::check_expr-returns-in_ok-x-in-Chain-clause-noted : goal.walk::check_expr-returns-in_ok-x-in-Chain-clause-noted
walk::check_expr-returns-in_ok-x-in-Chain-clause-noted g t c =
    let u = g.S.Surroundings.around c.args.here.now in
    let v = (spec.phrase_of c.get-in-Chain.result.now).value u in
    let ts = map spec.tailed_of c.as_slice-in-Chain.result.now in
    let whole : (spec.phrase_of c.args.e.now).value u ≡ spec.combine_all u ts v =
    ap (λ y. (spec.phrase_of y).value u) (c.in-Chain.is ∙ ap (λ o. expr.Chain o c.in-Chain.tails) (sym c.get-in-Chain.ensures) ∙ ap (λ o. expr.Chain c.get-in-Chain.result.now o) (sym c.as_slice-in-Chain.ensures)) ∙ value_chain c.get-in-Chain.result.now c.as_slice-in-Chain.result.now u in
    on_ok_weaker c.check_tails.result (λ h. then_chain_noted u ts v c.in_ok-x-in-Chain.x c.args.book.now c.check_expr.new.book c.check_tails.new.book c.in_ok-x-in-Chain.ensures.made c.in_ok-x-in-Chain.ensures.noted h ∙ ap (λ j. book_after c.args.book.now j.notes) (sym whole)) c.check_tails.ensures.noted

pub walk::check_expr-returns-in_ok-x-in-Relate-clause-noted : goal.walk::check_expr-returns-in_ok-x-in-Relate-clause-noted
walk::check_expr-returns-in_ok-x-in-Relate-clause-noted g t c =
    let u = g.S.Surroundings.around c.args.here.now in
    let v = (spec.phrase_of c.get-in-Relate.result.now).value u in
    let r = spec.phrase_of c.get-in-Relate-2.result.now in
    let whole : (spec.phrase_of c.args.e.now).value u ≡ spec.relation_of u c.in-Relate.relation c.in-Relate.pos v r =
    ap (λ y. (spec.phrase_of y).value u) (c.in-Relate.is ∙ ap (λ o. expr.Relate o c.in-Relate.relation c.in-Relate.pos c.in-Relate.right) (sym c.get-in-Relate.ensures) ∙ ap (λ o. expr.Relate c.get-in-Relate.result.now c.in-Relate.relation c.in-Relate.pos o) (sym c.get-in-Relate-2.ensures)) ∙ value_relate c.get-in-Relate.result.now c.in-Relate.relation c.in-Relate.pos c.get-in-Relate-2.result.now u in
    on_ok_weaker c.check_relation.result (λ h. relation_noted u c.in-Relate.relation c.in-Relate.pos r v c.in_ok-x-in-Relate.x c.args.book.now c.check_expr-in-Relate.new.book c.check_relation.new.book c.in_ok-x-in-Relate.ensures.made c.in_ok-x-in-Relate.ensures.noted h ∙ ap (λ j. book_after c.args.book.now j.notes) (sym whole)) c.check_relation.ensures.noted

pub walk::check_tails-tails-preserved : goal.walk::check_tails-tails-preserved
walk::check_tails-tails-preserved g t c =
    let u = g.S.Surroundings.around c.args.here.now in
    let i = c.tails.tail-index in
    let rest = map spec.tailed_of (drop (i + 1) c.args.tails.now) in
    let split : map spec.tailed_of (drop i c.args.tails.now) ≡ tailed_as c.tail-item.result ∷ rest = tails_from c.args.tails.now i c.tail-item.result c.tails-test.true ∙ ap (λ y. tailed_as y ∷ rest) (sym c.tail-item.is) in
    chain_step u (tailed_as c.tail-item.result) rest c.tails.all c.in_ok-operand.operand c.in_ok-all.all c.tails.book c.check_expr.new.book c.combined_if.new.book _ _
    c.in_ok-operand.ensures.made c.in_ok-operand.ensures.noted c.in_ok-all.ensures.made c.in_ok-all.ensures.noted
    (c.tails.invariant.0 ∙ ap (λ ts. (spec.combine_all u ts (plain c.tails.all)).node) split)
    (c.tails.invariant.1 ∙ ap (λ ts. book_after c.tails.book (spec.combine_all u ts (plain c.tails.all)).notes) split)

pub walk::check_tails-returns-clause-noted : goal.walk::check_tails-returns-clause-noted
walk::check_tails-returns-clause-noted g t c =
    tails_over (g.S.Surroundings.around c.args.here.now) c.args.tails.now c.tails.tail-index c.tails.all c.tails.book _ c.tails-test.false c.tails.invariant.1

pub walk::check_expr-returns-in-Designator-clause-made : goal.walk::check_expr-returns-in-Designator-clause-made
walk::check_expr-returns-in-Designator-clause-made g t c =
    let u = g.S.Surroundings.around c.args.here.now in
    let d = c.in-Designator.d in
    let v = spec.meant_by InExpression (spec.named_of d) u in
    let whole : (spec.phrase_of c.args.e.now).value u ≡ (v ▷ λ m. spec.value_meant (spec.named_of d).ident.pos m) = ap (λ y. (spec.phrase_of y).value u) c.in-Designator.is ∙ value_designator d u in
    made_as c.check_value.result ((spec.phrase_of c.args.e.now).value u) _ whole c.check_value.ensures.made

pub walk::check_expr-returns-in-Designator-clause-noted : goal.walk::check_expr-returns-in-Designator-clause-noted
walk::check_expr-returns-in-Designator-clause-noted g t c =
    let u = g.S.Surroundings.around c.args.here.now in
    let d = c.in-Designator.d in
    let v = spec.meant_by InExpression (spec.named_of d) u in
    let whole : (spec.phrase_of c.args.e.now).value u ≡ (v ▷ λ m. spec.value_meant (spec.named_of d).ident.pos m) = ap (λ y. (spec.phrase_of y).value u) c.in-Designator.is ∙ value_designator d u in
    noted_as c.check_value.result c.check_value.new.book c.args.book.now ((spec.phrase_of c.args.e.now).value u) _ whole c.check_value.ensures.noted

pub walk::check_value-returns-then-is_empty-clause-made : goal.walk::check_value-returns-then-is_empty-clause-made
walk::check_value-returns-then-is_empty-clause-made g t c =
    alone_made (g.S.Surroundings.around c.args.here.now) InExpression c.args.d.now c.as_slice.result.now (λ p m. spec.value_meant p m) c.name_value.result c.ident.result c.ident.ensures c.as_slice.ensures (sym c.if-is_empty.true ∙ c.is_empty.ensures) c.name_value.ensures.made

pub walk::check_value-returns-then-is_empty-clause-noted : goal.walk::check_value-returns-then-is_empty-clause-noted
walk::check_value-returns-then-is_empty-clause-noted g t c =
    alone_said (g.S.Surroundings.around c.args.here.now) InExpression c.args.d.now c.as_slice.result.now (λ p m. spec.value_meant p m) c.name_value.result c.args.book.now c.name_value.new.book c.ident.result c.ident.ensures c.as_slice.ensures (sym c.if-is_empty.true ∙ c.is_empty.ensures) c.name_value.ensures.noted

pub walk::check_selected-returns-clause-made : goal.walk::check_selected-returns-clause-made
walk::check_selected-returns-clause-made g t c =
    let u = g.S.Surroundings.around c.args.here.now in
    let d = c.args.d.now in
    let v = spec.meant_by InExpression (spec.named_of d) u in
    made_as c.value_if.result (v ▷ λ m. spec.value_meant (spec.named_of d).ident.pos m) (v ▷ λ m. spec.value_meant d.ident.pos m) (ap (λ n. v ▷ λ m. spec.value_meant n.ident.pos m) (named_is d)) (then_made c.value_if.result v (λ m. spec.value_meant d.ident.pos m) c.in_ok-m.m c.in_ok-m.ensures.made (subst (λ (p : Pos). IfOk c.value_if.result (λ o. o ≡ (if_sound c.in_ok-m.m (λ m. spec.value_meant p m)).node)) c.pos.ensures c.value_if.ensures.made))

pub walk::check_selected-returns-clause-noted : goal.walk::check_selected-returns-clause-noted
walk::check_selected-returns-clause-noted g t c =
    let u = g.S.Surroundings.around c.args.here.now in
    let d = c.args.d.now in
    let v = spec.meant_by InExpression (spec.named_of d) u in
    on_ok_weaker c.value_if.result (λ h. then_noted v (λ m. spec.value_meant d.ident.pos m) c.in_ok-m.m c.args.book.now c.check_designator.new.book c.value_if.new.book c.in_ok-m.ensures.made c.in_ok-m.ensures.noted (h ∙ ap (λ (p : Pos). book_after c.check_designator.new.book (if_sound c.in_ok-m.m (λ m. spec.value_meant p m)).notes) c.pos.ensures) ∙ ap (λ n. book_after c.args.book.now (v ▷ λ m. spec.value_meant n.ident.pos m).notes) (sym (named_is d))) c.value_if.ensures.noted

pub designators::check_designator-returns-clause-made : goal.designators::check_designator-returns-clause-made
designators::check_designator-returns-clause-made g t c =
    IfOk-weaker c.check_behind.result _ _ (λ r h. meant_node (g.S.Surroundings.around c.args.here.now) c.args.place c.args.d.now c.as_slice-selectors.result.now c.name_behind.result c.in_ok-front.front r c.ident.result c.pos.result c.ident.ensures c.pos.ensures c.as_slice-selectors.ensures c.name_behind.ensures c.in_ok-front.ensures.made h) c.check_behind.ensures.made

pub designators::check_designator-returns-clause-noted : goal.designators::check_designator-returns-clause-noted
designators::check_designator-returns-clause-noted g t c =
    on_ok_weaker c.check_behind.result (λ h. meant_noted (g.S.Surroundings.around c.args.here.now) c.args.place c.args.d.now c.as_slice-selectors.result.now c.name_behind.result c.in_ok-front.front c.args.book.now c.front_named.new.book c.check_behind.new.book c.ident.result c.pos.result c.ident.ensures c.pos.ensures c.as_slice-selectors.ensures c.name_behind.ensures c.in_ok-front.ensures.made c.in_ok-front.ensures.noted h) c.check_behind.ensures.noted

pub designators::check_selectors-selectors-preserved : goal.designators::check_selectors-selectors-preserved
designators::check_selectors-selectors-preserved g t c =
    let u = g.S.Surroundings.around c.args.here.now in
    let i = c.selectors.selector-index in
    let rest = map spec.behind_of (drop (i + 1) c.args.selectors.now) in
    let split : map spec.behind_of (drop i c.args.selectors.now) ≡ spec.behind_of c.selector-item.result ∷ rest = map_from spec.behind_of c.args.selectors.now i c.selector-item.result c.selectors-test.true ∙ ap (λ y. spec.behind_of y ∷ rest) (sym c.selector-item.is) in
    let step = selector_step u c.args.place c.args.start (spec.behind_of c.selector-item.result) rest c.selectors.taken _ c.selectors.all c.in_ok-all.all c.selectors.book c.check_selector.new.book _ _
    (last_by spec.behind_of c.args.selectors.now i _ (omega (arith, c.selectors.invariant.2))) c.in_ok-all.ensures.made c.in_ok-all.ensures.noted
    (c.selectors.invariant.0 ∙ ap (λ bs. (goes_on u c.args.place c.args.start (designators.behind c.selectors.taken bs) c.selectors.all).node) split)
    (c.selectors.invariant.1 ∙ ap (λ bs. book_after c.selectors.book (goes_on u c.args.place c.args.start (designators.behind c.selectors.taken bs) c.selectors.all).notes) split) in
    (step.0, step.1, omega (arith, c.selectors.invariant.2))

pub designators::visit_selectors-selectors-preserved : goal.designators::visit_selectors-selectors-preserved
designators::visit_selectors-selectors-preserved g t c =
    let u = g.S.Surroundings.around c.args.here.now in
    let i = c.selectors.selector-index in
    let rest = map spec.behind_of (drop (i + 1) c.args.selectors.now) in
    let split : map spec.behind_of (drop i c.args.selectors.now) ≡ spec.behind_of c.selector-item.result ∷ rest = map_from spec.behind_of c.args.selectors.now i c.selector-item.result c.selectors-test.true ∙ ap (λ y. spec.behind_of y ∷ rest) (sym c.selector-item.is) in
    visit_step u (spec.behind_of c.selector-item.result) rest c.selectors.book c.visit_selector.new.book _ c.in_ok-visit_selector.ensures (c.selectors.invariant ∙ ap (λ bs. book_after c.selectors.book (designators.all_visited u bs)) split)

pub designators::visit_arguments-arguments-preserved : goal.designators::visit_arguments-arguments-preserved
designators::visit_arguments-arguments-preserved g t c =
    let u = g.S.Surroundings.around c.args.here.now in
    let i = c.arguments.argument-index in
    let rest = map spec.phrase_of (drop (i + 1) c.args.arguments.now) in
    let split : map spec.phrase_of (drop i c.args.arguments.now) ≡ spec.phrase_of c.argument-item.result ∷ rest = map_from spec.phrase_of c.args.arguments.now i c.argument-item.result c.arguments-test.true ∙ ap (λ y. spec.phrase_of y ∷ rest) (sym c.argument-item.is) in
    argument_step u (spec.phrase_of c.argument-item.result) rest c.arguments.book c.visit_argument.new.book _ c.in_ok-visit_argument.ensures (c.arguments.invariant ∙ ap (λ ps. book_after c.arguments.book (designators.visited u ps)) split)

pub walk::check_expr-returns-in-Str-clause-noted : goal.walk::check_expr-returns-in-Str-clause-noted
walk::check_expr-returns-in-Str-clause-noted g t c =
    let u = g.S.Surroundings.around c.args.here.now in
    let whole : (spec.phrase_of c.args.e.now).value u ≡ sound (constant (text_value c.in-Str.text)) = ap (λ y. (spec.phrase_of y).value u) c.in-Str.is ∙ value_str c.in-Str.pos c.in-Str.text u in
    on_ok_from c.string.result (sym (after_none c.args.book.now) ∙ ap (λ j. book_after c.args.book.now j.notes) (sym whole))

pub designators::visit_selector-returns-in-Field : goal.designators::visit_selector-returns-in-Field
designators::visit_selector-returns-in-Field g t c =
    let u = g.S.Surroundings.around c.args.here.now in
    sym (after_none c.args.book.now) ∙ ap (λ b. book_after c.args.book.now (visited_one u b)) (sym (ap spec.behind_of c.in-Field.is ∙ behind_field c.in-Field.pos c.in-Field.ident))

pub designators::visit_selector-returns-in-Deref : goal.designators::visit_selector-returns-in-Deref
designators::visit_selector-returns-in-Deref g t c =
    let u = g.S.Surroundings.around c.args.here.now in
    sym (after_none c.args.book.now) ∙ ap (λ b. book_after c.args.book.now (visited_one u b)) (sym (ap spec.behind_of c.in-Deref.is ∙ behind_up c.in-Deref.field-0))

pub designators::visit_selectors-returns : goal.designators::visit_selectors-returns
designators::visit_selectors-returns g t c =
    let u = g.S.Surroundings.around c.args.here.now in
    sym (c.selectors.invariant ∙ ap (λ bs. book_after c.selectors.book (designators.all_visited u bs)) (map_over spec.behind_of c.args.selectors.now c.selectors.selector-index c.selectors-test.false) ∙ after_none c.selectors.book)

pub designators::visit_arguments-returns : goal.designators::visit_arguments-returns
designators::visit_arguments-returns g t c =
    let u = g.S.Surroundings.around c.args.here.now in
    sym (c.arguments.invariant ∙ ap (λ ps. book_after c.arguments.book (designators.visited u ps)) (map_over spec.phrase_of c.args.arguments.now c.arguments.argument-index c.arguments-test.false) ∙ after_none c.arguments.book)

pub designators::check_selectors-returns-clause-made : goal.designators::check_selectors-returns-clause-made
designators::check_selectors-returns-clause-made g t c =
    selectors_end (g.S.Surroundings.around c.args.here.now) c.args.place c.args.start c.selectors.taken c.args.selectors.now c.selectors.selector-index c.selectors.all _ c.selectors-test.false c.selectors.invariant.0

pub designators::check_selectors-returns-clause-noted : goal.designators::check_selectors-returns-clause-noted
designators::check_selectors-returns-clause-noted g t c =
    selectors_end_noted (g.S.Surroundings.around c.args.here.now) c.args.place c.args.start c.selectors.taken c.args.selectors.now c.selectors.selector-index c.selectors.all c.selectors.book _ c.selectors-test.false c.selectors.invariant.1

pub walk::check_set-returns-clause-made : goal.walk::check_set-returns-clause-made
walk::check_set-returns-clause-made g t c =
    IfOk-weaker c.set_if.result _ _ (λ r h. set_node c.in_ok-row.row (λ v. v.items) (g.S.Surroundings.around c.args.here.now) c.args.elements.now r c.in_ok-row.ensures.made h) c.set_if.ensures

pub walk::check_set-returns-clause-noted : goal.walk::check_set-returns-clause-noted
walk::check_set-returns-clause-noted g t c =
    on_ok_from c.set_if.result (set_noted (g.S.Surroundings.around c.args.here.now) c.args.elements.now c.args.book.now c.check_elements.new.book c.in_ok-row.ensures.noted)

pub walk::check_elements-elements-preserved : goal.walk::check_elements-elements-preserved
walk::check_elements-elements-preserved g t c =
    elements_step (g.S.Surroundings.around c.args.here.now) c.args.elements.now c.elements.element-index c.element-item.result _ _ c.in_ok-x.x c.elements.book c.check_element.new.book _ _
    c.elements-test.true c.element-item.is c.in_ok-x.ensures.made c.in_ok-x.ensures.noted c.in_ok-row.ensures c.elements.invariant.0 c.elements.invariant.1

pub walk::check_elements-returns-clause-made : goal.walk::check_elements-returns-clause-made
walk::check_elements-returns-clause-made g t c =
    elements_end (g.S.Surroundings.around c.args.here.now) c.args.elements.now c.elements.element-index _ _ c.elements-test.false c.elements.invariant.0

pub walk::check_elements-returns-clause-noted : goal.walk::check_elements-returns-clause-noted
walk::check_elements-returns-clause-noted g t c =
    elements_end_noted (g.S.Surroundings.around c.args.here.now) c.args.elements.now c.elements.element-index c.elements.book _ c.elements-test.false c.elements.invariant.1

pub walk::check_element-returns-clause-noted : goal.walk::check_element-returns-clause-noted
walk::check_element-returns-clause-noted g t c =
    let u = g.S.Surroundings.around c.args.here.now in
    let e = c.args.element.now in
    on_ok_weaker c.element_if.result (λ h. element_noted u e.low e.high c.in_ok-low.low c.in_ok-high.high c.start_of.result c.args.book.now c.check_expr.new.book c.check_high.new.book c.element_if.new.book c.in_ok-low.ensures.made c.in_ok-low.ensures.noted c.in_ok-high.ensures.made c.in_ok-high.ensures.noted c.start_of.ensures h) c.element_if.ensures.noted

pub walk::check_expr-returns-in-Set-clause-made : goal.walk::check_expr-returns-in-Set-clause-made
walk::check_expr-returns-in-Set-clause-made g t c =
    let u = g.S.Surroundings.around c.args.here.now in
    IfOk-weaker c.check_set.result (λ r. r ≡ (set_judged u c.as_slice-in-Set.result.now).node) (λ r. r ≡ ((spec.phrase_of c.args.e.now).value u).node)
    (λ r h. as_set_node u c.args.e.now c.in-Set.pos c.as_slice-in-Set.result.now c.in-Set.elements r c.in-Set.is c.as_slice-in-Set.ensures h) c.check_set.ensures.made

pub walk::check_expr-returns-in-Set-clause-noted : goal.walk::check_expr-returns-in-Set-clause-noted
walk::check_expr-returns-in-Set-clause-noted g t c =
    let u = g.S.Surroundings.around c.args.here.now in
    on_ok_weaker c.check_set.result (λ h. as_set_noted u c.args.e.now c.in-Set.pos c.as_slice-in-Set.result.now c.in-Set.elements c.args.book.now c.check_set.new.book c.in-Set.is c.as_slice-in-Set.ensures h) c.check_set.ensures.noted

pub actuals::check_actuals-arguments-preserved : goal.actuals::check_actuals-arguments-preserved
actuals::check_actuals-arguments-preserved g t c =
    let step = actuals_step (g.S.Surroundings.around c.args.here.now) c.args.params.now c.args.arguments.now c.arguments.number c.arguments.argument-index c.argument-item.result _ c.in_ok-judged.judged c.start_of.result _ _ c.arguments.book c.check_argument.new.book c.with_actual.new.book _ _
    c.arguments-test.true c.argument-item.is c.start_of.ensures c.formal_at-formal.ensures c.in_ok-judged.ensures.made c.in_ok-judged.ensures.noted c.in_ok-row.ensures.made c.in_ok-row.ensures.noted c.arguments.invariant.0 c.arguments.invariant.1 in
    (step.0, step.1, omega (arith, c.arguments.invariant.2))

pub actuals::check_actuals-returns-clause-noted : goal.actuals::check_actuals-returns-clause-noted
actuals::check_actuals-returns-clause-noted g t c =
    actuals_end_noted (g.S.Surroundings.around c.args.here.now) c.args.params.now c.args.arguments.now c.arguments.number c.arguments.argument-index c.arguments.book _ c.arguments-test.false c.arguments.invariant.1

pub predeclared::check_parameters-arguments-preserved : goal.predeclared::check_parameters-arguments-preserved
predeclared::check_parameters-arguments-preserved g t c =
    parameters_step (g.S.Surroundings.around c.args.here.now) c.arguments.asked c.arguments.next c.args.arguments.now c.arguments.argument-index c.argument-item.result c.in_ok-judged.judged c.start_of.result c.in_ok-x.x _ _ c.arguments.book c.check_argument.new.book c.parameter.new.book _ _
    c.arguments-test.true c.argument-item.is c.start_of.ensures c.in_ok-judged.ensures.made c.in_ok-judged.ensures.noted (c.in_ok-x.ensures.made (g.S.Surroundings.around c.args.here.now)) (c.in_ok-x.ensures.noted (g.S.Surroundings.around c.args.here.now)) c.in_ok-row.ensures c.arguments.invariant.0 c.arguments.invariant.1

pub predeclared::check_parameters-returns-clause-noted : goal.predeclared::check_parameters-returns-clause-noted
predeclared::check_parameters-returns-clause-noted g t c =
    parameters_end_noted (g.S.Surroundings.around c.args.here.now) c.arguments.asked c.arguments.next c.args.arguments.now c.arguments.argument-index c.arguments.book _ c.arguments-test.false c.arguments.invariant.1

pub predeclared::check_extreme-returns-in_ok-t-in-len1-clause-made : goal.predeclared::check_extreme-returns-in_ok-t-in-len1-clause-made
predeclared::check_extreme-returns-in_ok-t-in-len1-clause-made g t c =
    IfOk-weaker c.extreme.result _ _ (λ r h. extreme_node c.args.max (g.S.Surroundings.around c.args.here.now) c.args.place c.args.at c.args.arguments.now c.only-item.result c.in_ok-t-in-len1.t r (omega arith) c.only-item.is c.in_ok-t-in-len1.ensures.made h) c.extreme.ensures.made

pub predeclared::check_extreme-returns-in_ok-t-in-len1-clause-noted : goal.predeclared::check_extreme-returns-in_ok-t-in-len1-clause-noted
predeclared::check_extreme-returns-in_ok-t-in-len1-clause-noted g t c =
    on_ok_weaker c.extreme.result (λ h. extreme_noted c.args.max (g.S.Surroundings.around c.args.here.now) c.args.place c.args.at c.args.arguments.now c.only-item.result c.in_ok-t-in-len1.t c.args.book.now c.check_type_parameter.new.book c.extreme.new.book (omega arith) c.only-item.is c.in_ok-t-in-len1.ensures.made c.in_ok-t-in-len1.ensures.noted h) c.extreme.ensures.noted

pub predeclared::check_extreme-check_further-requires-in-len1-up : goal.predeclared::check_extreme-check_further-requires-in-len1-up
predeclared::check_extreme-check_further-requires-in-len1-up g t c =
    let shallower = most_rest (λ x. the_size x) c.args.arguments.now in
    search rules

pub predeclared::check_extreme-returns-in_ok-t-in-len1-up-clause-made : goal.predeclared::check_extreme-returns-in_ok-t-in-len1-up-clause-made
predeclared::check_extreme-returns-in_ok-t-in-len1-up-clause-made g t c =
    IfOk-weaker c.check_further-in-len1-up.result _ _ (λ r h. too_many_node c.args.max (g.S.Surroundings.around c.args.here.now) c.args.place c.args.at c.args.arguments.now c.first-item.result _ c.in_ok-t-in-len1-up.t r (omega arith) c.first-item.is (take_rest c.args.arguments.now 1) c.in_ok-t-in-len1-up.ensures.made h) c.check_further-in-len1-up.ensures.made

pub predeclared::check_extreme-returns-in_ok-t-in-len1-up-clause-noted : goal.predeclared::check_extreme-returns-in_ok-t-in-len1-up-clause-noted
predeclared::check_extreme-returns-in_ok-t-in-len1-up-clause-noted g t c =
    on_ok_weaker c.check_further-in-len1-up.result (λ h. too_many_noted c.args.max (g.S.Surroundings.around c.args.here.now) c.args.place c.args.at c.args.arguments.now c.first-item.result _ c.in_ok-t-in-len1-up.t c.args.book.now c.check_type_parameter-in-len1-up.new.book c.check_further-in-len1-up.new.book (omega arith) c.first-item.is (take_rest c.args.arguments.now 1) c.in_ok-t-in-len1-up.ensures.made c.in_ok-t-in-len1-up.ensures.noted h) c.check_further-in-len1-up.ensures.noted

pub predeclared::check_extreme-returns-in-empty-clause-made : goal.predeclared::check_extreme-returns-in-empty-clause-made
predeclared::check_extreme-returns-in-empty-clause-made g t c =
    IfOk-weaker c.check_further.result _ _ (λ r h. no_parameter_node c.args.max (g.S.Surroundings.around c.args.here.now) c.args.place c.args.at c.args.arguments.now r (omega arith) h) c.check_further.ensures.made

pub predeclared::check_extreme-returns-in-empty-clause-noted : goal.predeclared::check_extreme-returns-in-empty-clause-noted
predeclared::check_extreme-returns-in-empty-clause-noted g t c =
    on_ok_weaker c.check_further.result (λ h. no_parameter_noted c.args.max (g.S.Surroundings.around c.args.here.now) c.args.place c.args.at c.args.arguments.now c.args.book.now c.check_further.new.book (omega arith) h) c.check_further.ensures.noted

pub predeclared::check_further-returns-in_ok-row-in-Some-clause-made : goal.predeclared::check_further-returns-in_ok-row-in-Some-clause-made
predeclared::check_further-returns-in_ok-row-in-Some-clause-made g t c =
    further_node (g.S.Surroundings.around c.args.here.now) c.args.place c.args.at (map spec.phrase_of c.args.behind.now) c.args.first.now _ _ c.further.result c.in-Some.is c.in_ok-row-in-Some.ensures.made c.further.ensures.made

pub predeclared::check_further-returns-in_ok-row-in-Some-clause-noted : goal.predeclared::check_further-returns-in_ok-row-in-Some-clause-noted
predeclared::check_further-returns-in_ok-row-in-Some-clause-noted g t c =
    further_noted (g.S.Surroundings.around c.args.here.now) c.args.place c.args.at (map spec.phrase_of c.args.behind.now) c.args.first.now _ _ c.args.book.now c.check_parameters.new.book c.further.new.book c.in-Some.is c.in_ok-row-in-Some.ensures.made c.in_ok-row-in-Some.ensures.noted c.further.ensures.noted

pub designators::check_step-returns-in-Index-clause-made : goal.designators::check_step-returns-in-Index-clause-made
designators::check_step-returns-in-Index-clause-made g t c =
    let u = g.S.Surroundings.around c.args.here.now in
    let i = c.in-Index.index in
    index_made u c.args.place c.args.start c.in-Index.pos (spec.phrase_of i) c.args.meant (spec.behind_of c.args.selector.now) c.args.last c.check_index.result (ap spec.behind_of c.in-Index.is ∙ behind_index c.in-Index.pos i) c.check_index.ensures.made

pub designators::check_step-returns-in-Index-clause-noted : goal.designators::check_step-returns-in-Index-clause-noted
designators::check_step-returns-in-Index-clause-noted g t c =
    let u = g.S.Surroundings.around c.args.here.now in
    let i = c.in-Index.index in
    index_said u c.args.place c.args.start c.in-Index.pos (spec.phrase_of i) c.args.meant (spec.behind_of c.args.selector.now) c.args.last c.check_index.result c.args.book.now c.check_index.new.book (ap spec.behind_of c.in-Index.is ∙ behind_index c.in-Index.pos i) c.check_index.ensures.noted

pub designators::check_index-returns-clause-made : goal.designators::check_index-returns-clause-made
designators::check_index-returns-clause-made g t c =
    let u = g.S.Surroundings.around c.args.here.now in
    IfOk-weaker c.index_step.result _ _ (λ r h. index_step_node (map_of u) c.args.at ((spec.phrase_of c.args.index.now).value u) c.args.meant c.in_ok-i.i r c.in_ok-i.ensures.made h) c.index_step.ensures.made

pub designators::check_index-returns-clause-noted : goal.designators::check_index-returns-clause-noted
designators::check_index-returns-clause-noted g t c =
    let u = g.S.Surroundings.around c.args.here.now in
    on_ok_weaker c.index_step.result (λ h. index_step_noted (map_of u) c.args.at ((spec.phrase_of c.args.index.now).value u) c.args.meant c.in_ok-i.i c.args.book.now c.check_expr.new.book c.index_step.new.book c.in_ok-i.ensures.made c.in_ok-i.ensures.noted h) c.index_step.ensures.noted

pub calls::check_call-returns-clause-noted : goal.calls::check_call-returns-clause-noted
calls::check_call-returns-clause-noted g t c =
    let u = g.S.Surroundings.around c.args.here.now in
    on_ok_weaker c.called.result (λ h. call_noted u c.args.place c.args.start c.args.callable c.params.result.now c.args.arguments.now (length c.args.arguments.now) _ c.args.book.now c.check_actuals.new.book c.called.new.book c.params.ensures refl c.in_ok-row.ensures.made c.in_ok-row.ensures.noted h) c.called.ensures.noted
