-- The elements of a set.
use Rattle.std.proofs.Common.{◌≡◌, refl, sym, ap, ◌∙◌, ℕ, ◌+◌, ◌<◌, ◌≤◌, List, [], ◌∷◌, Option, Some, None, map, drop, length, get_or}
use Rattle.std.specs.Option.{option_map}
use Rattle.ob_tree.specs.declared.pos.Pos.{Pos}
use Rattle.ob_tree.specs.declared.expr.Element.{Element}
use Rattle.ob_tree.specs.declared.expr.Expr.{Expr}
use Rattle.ob_tree.specs.declared.expr.Expr.TheVariants as e
use Rattle.ob_tree.specs.declared.expr.Expr.TheFolds.{fold_out-Element}
use Rattle.ob_rules.specs.declared.notes.Notebook.{Notebook}
use Rattle.ob_rules.specs.declared.values.Valued.{Valued}
use Rattle.ob_rules.specs.declared.meant.ElementOf.{ElementOf}
use Rattle.ob_rules.specs.Judged.{Judged, if_sound, paired, sound}
use Rattle.ob_rules.specs.Books.{book_after}
use Rattle.ob_rules.specs.Names.{Around, map_of}
use Rattle.ob_rules.specs.Operators.{element, set_of}
use Rattle.ob_rules.specs.Phrases.{Phrase, Behind}
use Rattle.ob_rules.specs.Expressions.{Named, Ranged, Tailed, expr_rule, selector_rule, designator_rule, element_rule, tail_rule, phrase_of, ranged_of, element_value, value_if}
use Rattle.ob_cexpr_operand.specs.Plain.{onto, alone}
use Rattle.ob_cexpr.specs.Plain.{elements_judged, set_judged}
use Rattle.ob_cexpr.proofs.Chains.{after_two, map_from, map_over}
use Rattle.ob_cexpr.proofs.ExprViews.{value_set}
use Rattle.ob_cexpr.proofs.Rows.{made_notes, row_goes, row_ends, row_ends_noted}

elements_from : (u : Around) (xs : List Element) (i : ℕ) (x : Element) → i < length xs → x ≡ get_or xs i x
    → map (λ r. element_value u r) (map ranged_of (drop i xs)) ≡ element_value u (ranged_of x) ∷ map (λ r. element_value u r) (map ranged_of (drop (i + 1) xs))
elements_from u xs i x h e = ap (map (λ r. element_value u r)) (map_from ranged_of xs i x h ∙ ap (λ y. ranged_of y ∷ map ranged_of (drop (i + 1) xs)) (sym e))

elements_over : (u : Around) (xs : List Element) (i : ℕ) → length xs ≤ i → map (λ r. element_value u r) (map ranged_of (drop i xs)) ≡ []
elements_over u xs i h = ap (map (λ r. element_value u r)) (map_over ranged_of xs i h)

pub elements_step : (u : Around) (xs : List Element) (i : ℕ) (x : Element) (row y : Option (List ElementOf)) (v : Option ElementOf) (k l : Notebook) (whole : Option (List ElementOf)) (end : Notebook)
    → i < length xs → x ≡ get_or xs i x → v ≡ (element_value u (ranged_of x)).node → l ≡ book_after k (element_value u (ranged_of x)).notes → y ≡ onto row (alone v)
    → whole ≡ onto row (elements_judged u (drop i xs)).node → end ≡ book_after k (elements_judged u (drop i xs)).notes
    → (whole ≡ onto y (elements_judged u (drop (i + 1) xs)).node) × (end ≡ book_after l (elements_judged u (drop (i + 1) xs)).notes)
elements_step u xs i x row y v k l whole end h is ev el ey ew ee =
    row_goes (element_value u (ranged_of x)) (map (λ r. element_value u r) (map ranged_of (drop (i + 1) xs))) (map (λ r. element_value u r) (map ranged_of (drop i xs))) row y v k l whole end (elements_from u xs i x h is) ev el ey ew ee

pub elements_end : (u : Around) (xs : List Element) (i : ℕ) (row whole : Option (List ElementOf)) → length xs ≤ i → whole ≡ onto row (elements_judged u (drop i xs)).node → row ≡ whole
elements_end u xs i row whole h ew = row_ends (map (λ r. element_value u r) (map ranged_of (drop i xs))) row whole (elements_over u xs i h) ew

pub elements_end_noted : (u : Around) (xs : List Element) (i : ℕ) (k end : Notebook) → length xs ≤ i → end ≡ book_after k (elements_judged u (drop i xs)).notes → k ≡ end
elements_end_noted u xs i k end h ee = row_ends_noted (map (λ r. element_value u r) (map ranged_of (drop i xs))) k end (elements_over u xs i h) ee

set_seen : {V : Type 0} (items : V → List ElementOf) (row : Option V) → option_map (λ v. set_of (items v)) row ≡ (if_sound (option_map items row) (λ x. sound (set_of x))).node
set_seen items None = refl
set_seen items (Some v) = refl

pub set_node : {V : Type 0} (row : Option V) (items : V → List ElementOf) (u : Around) (xs : List Element) (r : Option Valued) → option_map items row ≡ (elements_judged u xs).node → r ≡ option_map (λ v. set_of (items v)) row → r ≡ (set_judged u xs).node
unfolding set_judged
set_node row items u xs r e f = f ∙ set_seen items row ∙ ap (λ o. (if_sound o (λ x. sound (set_of x))).node) e

pub set_noted : (u : Around) (xs : List Element) (k l : Notebook) → l ≡ book_after k (elements_judged u xs).notes → l ≡ book_after k (set_judged u xs).notes
unfolding set_judged
set_noted u xs k l el = el ∙ sym (made_notes set_of (elements_judged u xs) k)

-- what an element's parts come to, and then the element
ranged_noted : (u : Around) (x : Ranged) (low : Option Valued) (high : Option (Option Valued)) (at : Pos) (k l m end : Notebook) → low ≡ (x.low.value u).node → l ≡ book_after k (x.low.value u).notes
    → high ≡ (value_if u x.high).node → m ≡ book_after l (value_if u x.high).notes → at ≡ x.low.start
    → end ≡ book_after m (if_sound (paired low high) (λ p. element (map_of u) at p.0 p.1)).notes → end ≡ book_after k (element_value u x).notes
ranged_noted u x low high at k l m end el ek eh em ea ee =
    let v = x.low.value u in
    let h = value_if u x.high in
    let own = (if_sound (paired v.node h.node) (λ p. element (map_of u) x.low.start p.0 p.1)).notes in
    ee ∙ ap (λ y. book_after m (if_sound (paired low high) (λ p. element (map_of u) y p.0 p.1)).notes) ea ∙ ap (λ y. book_after m (if_sound (paired y high) (λ p. element (map_of u) x.low.start p.0 p.1)).notes) el
    ∙ ap (λ y. book_after m (if_sound (paired v.node y) (λ p. element (map_of u) x.low.start p.0 p.1)).notes) eh ∙ ap (λ b. book_after b own) (em ∙ ap (λ b. book_after b h.notes) ek) ∙ sym (after_two k v.notes h.notes own)

-- an element by its parts
ranged_is : (l : Expr) (h : Option Expr) → ranged_of (record { low = l; high = h }) ≡ record { low = phrase_of l; high = option_map phrase_of h }
ranged_is l None = fold_out-Element Phrase Behind Named Ranged Tailed expr_rule selector_rule designator_rule element_rule tail_rule (record { low = l; high = None })
ranged_is l (Some h) = fold_out-Element Phrase Behind Named Ranged Tailed expr_rule selector_rule designator_rule element_rule tail_rule (record { low = l; high = Some h })

pub element_noted : (u : Around) (l : Expr) (h : Option Expr) (low : Option Valued) (high : Option (Option Valued)) (at : Pos) (b k m end : Notebook) → low ≡ ((phrase_of l).value u).node → k ≡ book_after b ((phrase_of l).value u).notes
    → high ≡ (value_if u (option_map phrase_of h)).node → m ≡ book_after k (value_if u (option_map phrase_of h)).notes → at ≡ (phrase_of l).start
    → end ≡ book_after m (if_sound (paired low high) (λ p. element (map_of u) at p.0 p.1)).notes → end ≡ book_after b (element_value u (ranged_of (record { low = l; high = h }))).notes
element_noted u l h low high at b k m end el ek eh em ea ee =
    ranged_noted u (record { low = phrase_of l; high = option_map phrase_of h }) low high at b k m end el ek eh em ea ee ∙ ap (λ r. book_after b (element_value u r).notes) (sym (ranged_is l h))

-- a set among the expressions
as_set : (u : Around) (x : Expr) (at : Pos) (xs ys : List Element) → x ≡ e.Set at ys → xs ≡ ys → (phrase_of x).value u ≡ set_judged u xs
as_set u x at xs ys ex es = ap (λ y. (phrase_of y).value u) (ex ∙ ap (λ o. e.Set at o) (sym es)) ∙ value_set at xs u

pub as_set_node : (u : Around) (x : Expr) (at : Pos) (xs ys : List Element) (r : Option Valued) → x ≡ e.Set at ys → xs ≡ ys → r ≡ (set_judged u xs).node → r ≡ ((phrase_of x).value u).node
as_set_node u x at xs ys r ex es h = h ∙ ap (λ j. j.node) (sym (as_set u x at xs ys ex es))

pub as_set_noted : (u : Around) (x : Expr) (at : Pos) (xs ys : List Element) (k l : Notebook) → x ≡ e.Set at ys → xs ≡ ys → l ≡ book_after k (set_judged u xs).notes → l ≡ book_after k ((phrase_of x).value u).notes
as_set_noted u x at xs ys k l ex es h = h ∙ ap (λ j. book_after k j.notes) (sym (as_set u x at xs ys ex es))
