use Rattle.std.proofs.Common.{◌≡◌, ◌-◌, List, [], ◌∷◌, ◌++◌, length, take, drop, map, refl, sym, ap, subst, ◌∙◌}
use Rattle.std.specs.Ordering.{nat_cmp, ordering_reverse}
use Rattle.std.specs.Cmp.Lexicographic.{slice_cmp}
use Rattle.std.specs.declared.cmp.Ordering.TheVariants.{Less}
use Rattle.std.proofs.lemmas.Cmp.{nat_list_cmp_total}
use Rattle.ob_types.specs.declared.face.Object.{Object}
use Rattle.ob_desc.specs.Grammar.{shape_text, layout_text}
use Rattle.ob_sym.specs.Grammar.{object_of}
use Rattle.ob_uses.proofs.SamePairs.{bytes_same}
use Rattle.ob_cmp.specs.declared.verdict.Kind.TheVariants as kind
use Rattle.ob_cmp.specs.Rising.{AreObjects, shown}
use Rattle.ob_cmp.specs.Verdicts.{verdict_of, verdicts_in, text_kinds}
use Rattle.ob_cmp.proofs.Merging.{Above, names, above_others, others, step_older, step_newer, step_both}
use Rattle.ob_cmp.proofs.Stepping.{added, front_is, none_is}
use Rattle.ob_cmp.proofs.comparing.step.Goals as goal

pub returns-in_ok-add-in-len1-up-newer-clause-new : goal.returns-in_ok-add-in-len1-up-newer-clause-new
returns-in_ok-add-in-len1-up-newer-clause-new c =
    let m = c.args.old_module.now in
    let n = c.args.new_module.now in
    let p = c.second-item.result in
    let ps : List Object = take (length c.args.newer.now - 1) (drop 1 c.args.newer.now) in
    let f : c.args.newer.now ≡ p ∷ ps = front_is c.args.newer.now p c.in-len1-up-newer.len_at_least c.second-item.is in
    let b : AreObjects n (p ∷ ps) = subst (λ (l : List Object). AreObjects n l) f c.requires.new in
    others n p ps b

pub returns-in_ok-add-in-len1-up-newer-clause-verdicts : goal.returns-in_ok-add-in-len1-up-newer-clause-verdicts
returns-in_ok-add-in-len1-up-newer-clause-verdicts c =
    let m = c.args.old_module.now in
    let n = c.args.new_module.now in
    let p = c.second-item.result in
    let ps : List Object = take (length c.args.newer.now - 1) (drop 1 c.args.newer.now) in
    let f : c.args.newer.now ≡ p ∷ ps = front_is c.args.newer.now p c.in-len1-up-newer.len_at_least c.second-item.is in
    let b : AreObjects n (p ∷ ps) = subst (λ (l : List Object). AreObjects n l) f c.requires.new in
    let above : Above p.name (names c.args.older.now) = subst (λ (l : List Object). Above p.name (names l)) (sym (none_is c.args.older.now c.in-empty.len_below)) tt in
    added c.args.all.now c.add.new.all (verdict_of p.name kind.Added ∷ []) (verdicts_in m (shown c.args.older.now) n (shown ps)) (verdicts_in m (shown c.args.older.now) n (shown c.args.newer.now)) c.in_ok-add-in-len1-up-newer.ensures
    (ap (λ (l : List Object). verdicts_in m (shown c.args.older.now) n (shown l)) f ∙ step_newer m c.args.older.now n p ps b above)

pub returns-in_ok-add-in-empty-newer-2-clause-old : goal.returns-in_ok-add-in-empty-newer-2-clause-old
returns-in_ok-add-in-empty-newer-2-clause-old c =
    let m = c.args.old_module.now in
    let n = c.args.new_module.now in
    let o = c.first-item.result in
    let os : List Object = take (length c.args.older.now - 1) (drop 1 c.args.older.now) in
    let e : c.args.older.now ≡ o ∷ os = front_is c.args.older.now o c.in-len1-up.len_at_least c.first-item.is in
    let a : AreObjects m (o ∷ os) = subst (λ (l : List Object). AreObjects m l) e c.requires.old in
    others m o os a

pub returns-in_ok-add-in-empty-newer-2-clause-verdicts : goal.returns-in_ok-add-in-empty-newer-2-clause-verdicts
returns-in_ok-add-in-empty-newer-2-clause-verdicts c =
    let m = c.args.old_module.now in
    let n = c.args.new_module.now in
    let o = c.first-item.result in
    let os : List Object = take (length c.args.older.now - 1) (drop 1 c.args.older.now) in
    let e : c.args.older.now ≡ o ∷ os = front_is c.args.older.now o c.in-len1-up.len_at_least c.first-item.is in
    let a : AreObjects m (o ∷ os) = subst (λ (l : List Object). AreObjects m l) e c.requires.old in
    let above : Above o.name (names c.args.newer.now) = subst (λ (l : List Object). Above o.name (names l)) (sym (none_is c.args.newer.now c.in-empty-newer-2.len_below)) tt in
    added c.args.all.now c.add-in-empty-newer-2.new.all (verdict_of o.name kind.Gone ∷ []) (verdicts_in m (shown os) n (shown c.args.newer.now)) (verdicts_in m (shown c.args.older.now) n (shown c.args.newer.now)) c.in_ok-add-in-empty-newer-2.ensures
    (ap (λ (l : List Object). verdicts_in m (shown l) n (shown c.args.newer.now)) e ∙ step_older m o os n c.args.newer.now a above)

pub returns-in_ok-add-in-Less-clause-old : goal.returns-in_ok-add-in-Less-clause-old
returns-in_ok-add-in-Less-clause-old c =
    let m = c.args.old_module.now in
    let n = c.args.new_module.now in
    let o = c.first-item.result in
    let os : List Object = take (length c.args.older.now - 1) (drop 1 c.args.older.now) in
    let e : c.args.older.now ≡ o ∷ os = front_is c.args.older.now o c.in-len1-up.len_at_least c.first-item.is in
    let a : AreObjects m (o ∷ os) = subst (λ (l : List Object). AreObjects m l) e c.requires.old in
    others m o os a

pub returns-in_ok-add-in-Less-clause-verdicts : goal.returns-in_ok-add-in-Less-clause-verdicts
returns-in_ok-add-in-Less-clause-verdicts c =
    let m = c.args.old_module.now in
    let n = c.args.new_module.now in
    let o = c.first-item.result in
    let os : List Object = take (length c.args.older.now - 1) (drop 1 c.args.older.now) in
    let e : c.args.older.now ≡ o ∷ os = front_is c.args.older.now o c.in-len1-up.len_at_least c.first-item.is in
    let a : AreObjects m (o ∷ os) = subst (λ (l : List Object). AreObjects m l) e c.requires.old in
    let p = c.second-item-in-len1-up.result in
    let ps : List Object = take (length c.args.newer.now - 1) (drop 1 c.args.newer.now) in
    let f : c.args.newer.now ≡ p ∷ ps = front_is c.args.newer.now p c.in-len1-up-newer-2.len_at_least c.second-item-in-len1-up.is in
    let b : AreObjects n (p ∷ ps) = subst (λ (l : List Object). AreObjects n l) f c.requires.new in
    let above : Above o.name (names c.args.newer.now) = subst (λ (l : List Object). Above o.name (names l)) (sym f) (above_others n o.name p ps (sym c.in-Less.ensures) b) in
    added c.args.all.now c.add-in-Less.new.all (verdict_of o.name kind.Gone ∷ []) (verdicts_in m (shown os) n (shown c.args.newer.now)) (verdicts_in m (shown c.args.older.now) n (shown c.args.newer.now)) c.in_ok-add-in-Less.ensures
    (ap (λ (l : List Object). verdicts_in m (shown l) n (shown c.args.newer.now)) e ∙ step_older m o os n c.args.newer.now a above)

pub returns-in_ok-add-in-Greater-clause-new : goal.returns-in_ok-add-in-Greater-clause-new
returns-in_ok-add-in-Greater-clause-new c =
    let m = c.args.old_module.now in
    let n = c.args.new_module.now in
    let p = c.second-item-in-len1-up.result in
    let ps : List Object = take (length c.args.newer.now - 1) (drop 1 c.args.newer.now) in
    let f : c.args.newer.now ≡ p ∷ ps = front_is c.args.newer.now p c.in-len1-up-newer-2.len_at_least c.second-item-in-len1-up.is in
    let b : AreObjects n (p ∷ ps) = subst (λ (l : List Object). AreObjects n l) f c.requires.new in
    others n p ps b

pub returns-in_ok-add-in-Greater-clause-verdicts : goal.returns-in_ok-add-in-Greater-clause-verdicts
returns-in_ok-add-in-Greater-clause-verdicts c =
    let m = c.args.old_module.now in
    let n = c.args.new_module.now in
    let o = c.first-item.result in
    let os : List Object = take (length c.args.older.now - 1) (drop 1 c.args.older.now) in
    let e : c.args.older.now ≡ o ∷ os = front_is c.args.older.now o c.in-len1-up.len_at_least c.first-item.is in
    let a : AreObjects m (o ∷ os) = subst (λ (l : List Object). AreObjects m l) e c.requires.old in
    let p = c.second-item-in-len1-up.result in
    let ps : List Object = take (length c.args.newer.now - 1) (drop 1 c.args.newer.now) in
    let f : c.args.newer.now ≡ p ∷ ps = front_is c.args.newer.now p c.in-len1-up-newer-2.len_at_least c.second-item-in-len1-up.is in
    let b : AreObjects n (p ∷ ps) = subst (λ (l : List Object). AreObjects n l) f c.requires.new in
    let less : slice_cmp nat_cmp p.name o.name ≡ Less = nat_list_cmp_total.antisymm p.name o.name ∙ ap ordering_reverse (sym c.in-Greater.ensures) in
    let above : Above p.name (names c.args.older.now) = subst (λ (l : List Object). Above p.name (names l)) (sym e) (above_others m p.name o os less a) in
    added c.args.all.now c.add-in-Greater.new.all (verdict_of p.name kind.Added ∷ []) (verdicts_in m (shown c.args.older.now) n (shown ps)) (verdicts_in m (shown c.args.older.now) n (shown c.args.newer.now)) c.in_ok-add-in-Greater.ensures
    (ap (λ (l : List Object). verdicts_in m (shown c.args.older.now) n (shown l)) f ∙ step_newer m c.args.older.now n p ps b above)

pub returns-in_ok-add_changes-in-Equal-clause-old : goal.returns-in_ok-add_changes-in-Equal-clause-old
returns-in_ok-add_changes-in-Equal-clause-old c =
    let m = c.args.old_module.now in
    let n = c.args.new_module.now in
    let o = c.first-item.result in
    let os : List Object = take (length c.args.older.now - 1) (drop 1 c.args.older.now) in
    let e : c.args.older.now ≡ o ∷ os = front_is c.args.older.now o c.in-len1-up.len_at_least c.first-item.is in
    let a : AreObjects m (o ∷ os) = subst (λ (l : List Object). AreObjects m l) e c.requires.old in
    others m o os a

pub returns-in_ok-add_changes-in-Equal-clause-new : goal.returns-in_ok-add_changes-in-Equal-clause-new
returns-in_ok-add_changes-in-Equal-clause-new c =
    let m = c.args.old_module.now in
    let n = c.args.new_module.now in
    let p = c.second-item-in-len1-up.result in
    let ps : List Object = take (length c.args.newer.now - 1) (drop 1 c.args.newer.now) in
    let f : c.args.newer.now ≡ p ∷ ps = front_is c.args.newer.now p c.in-len1-up-newer-2.len_at_least c.second-item-in-len1-up.is in
    let b : AreObjects n (p ∷ ps) = subst (λ (l : List Object). AreObjects n l) f c.requires.new in
    others n p ps b

pub returns-in_ok-add_changes-in-Equal-clause-verdicts : goal.returns-in_ok-add_changes-in-Equal-clause-verdicts
returns-in_ok-add_changes-in-Equal-clause-verdicts c =
    let m = c.args.old_module.now in
    let n = c.args.new_module.now in
    let o = c.first-item.result in
    let os : List Object = take (length c.args.older.now - 1) (drop 1 c.args.older.now) in
    let e : c.args.older.now ≡ o ∷ os = front_is c.args.older.now o c.in-len1-up.len_at_least c.first-item.is in
    let a : AreObjects m (o ∷ os) = subst (λ (l : List Object). AreObjects m l) e c.requires.old in
    let p = c.second-item-in-len1-up.result in
    let ps : List Object = take (length c.args.newer.now - 1) (drop 1 c.args.newer.now) in
    let f : c.args.newer.now ≡ p ∷ ps = front_is c.args.newer.now p c.in-len1-up-newer-2.len_at_least c.second-item-in-len1-up.is in
    let b : AreObjects n (p ∷ ps) = subst (λ (l : List Object). AreObjects n l) f c.requires.new in
    let same : o.name ≡ p.name = bytes_same o.name p.name (sym c.in-Equal.ensures) in
    added c.args.all.now c.add_changes.new.all (map (verdict_of o.name) (text_kinds (shape_text (object_of m o.name) o.desc) (layout_text (object_of m o.name) o.desc) (shape_text (object_of n p.name) p.desc) (layout_text (object_of n p.name) p.desc))) (verdicts_in m (shown os) n (shown ps)) (verdicts_in m (shown c.args.older.now) n (shown c.args.newer.now)) c.in_ok-add_changes-in-Equal.ensures
    (ap (λ (l : List Object). verdicts_in m (shown l) n (shown c.args.newer.now)) e ∙ ap (λ (l : List Object). verdicts_in m (shown (o ∷ os)) n (shown l)) f ∙ step_both m o os n p ps a b same
    ∙ ap (λ z. map (verdict_of o.name) (text_kinds (shape_text (object_of m o.name) o.desc) (layout_text (object_of m o.name) o.desc) (shape_text (object_of n z) p.desc) (layout_text (object_of n z) p.desc)) ++ verdicts_in m (shown os) n (shown ps)) same)
