-- Members of bases.
use Rattle.std.proofs.Common.{◌≡◌, refl, sym, ap, ◌∙◌, ℕ, zero, suc, ◌-◌, List, Option, Some, None, arith}
use Rattle.ob_tree.specs.declared.names.QName.{QName}
use Rattle.ob_rules.specs.Shapes.{Map, Member, own_member, base_record, or_in_base, member_within}

-- where a record has no such member, it is looked for in its base
pub goes_up : (map : Map) (left : ℕ) (q b : QName) (x : List ℕ) (r : Option Member) → (left ≡ 0 → ⊥) → None ≡ own_member q (map q) x → Some b ≡ base_record map q
    → r ≡ member_within map (left - 1) b x → r ≡ member_within map left q x
unfolding member_within
goes_up map zero q b x r n o e h = absurd (n refl)
goes_up map (suc left) q b x r n o e h =
    let down : suc left - 1 ≡ left = omega arith in
    h ∙ ap (λ k. member_within map k b x) down ∙ ap (λ y. or_in_base None y (λ c. member_within map left c x)) e ∙ ap (λ y. or_in_base y (base_record map q) (λ c. member_within map left c x)) o
