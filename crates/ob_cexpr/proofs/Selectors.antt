-- Selectors behind what comes before them, as they are noted.
use Rattle.std.proofs.Common.{◌≡◌, refl, sym, ap, ◌∙◌, ℕ, zero, suc, ◌+◌, ◌<◌, ◌≤◌, Bool, true, false, List, [], ◌∷◌, Option, Some, None, map, drop, length, get_or, eqb, arith, subst, Result, IfOk, OnOk}
use Rattle.std.proofs.lemmas.List.{length-drop}
use Rattle.std.proofs.lemmas.Bool.Decides.{nat_tests}
use Rattle.ob_tree.specs.declared.pos.Pos.{Pos}
use Rattle.ob_tree.specs.declared.ident.Ident.{Ident}
use Rattle.ob_tree.specs.declared.expr.Designator.{Designator}
use Rattle.ob_tree.specs.declared.expr.Selector.{Selector}
use Rattle.ob_rules.specs.Expressions.{behind_of, named_of, meant_by}
use Rattle.ob_cexpr_trait.proofs.NamedViews.{named_is}
use Rattle.ob_cexpr.proofs.Chains.{map_over}
use Rattle.ob_types.specs.declared.types.TypeRef.{TypeRef}
use Rattle.ob_rules.specs.declared.notes.Notebook.{Notebook}
use Rattle.ob_rules.specs.declared.values.Valued.{Valued}
use Rattle.ob_rules.specs.declared.values.Place.{Place}
use Rattle.ob_rules.specs.declared.entity.Entity.{Entity}
use Rattle.ob_rules.specs.declared.meant.Meant.{Meant}
use Rattle.ob_rules.specs.declared.meant.Meant.TheVariants as means
use Rattle.ob_rules.specs.declared.meant.Where.{Where}
use Rattle.ob_rules.specs.declared.broken.Rule.TheVariants as rule
use Rattle.ob_rules.specs.Judged.{Judged, Notes, joined, no_notes, broken_at, noted, if_sound, made, sound, silent, breaks, wants, ◌▷◌}
use Rattle.ob_rules.specs.Books.{book_after}
use Rattle.ob_rules.specs.Names.{Around, map_of, named}
use Rattle.ob_rules.specs.Shapes.{Map, array_of, is_array, pointed}
use Rattle.ob_rules.specs.Values.{is_integer}
use Rattle.ob_rules.specs.Phrases.{Phrase, Behind, Dot, Index, Up, Round}
use Rattle.ob_rules.specs.Designators.{index, index_if, index_into, indexed, implicitly, step_index, all_visited, visited, visit, is_one_type, go_on_with, step, through, where_of, nothing_behind, behind, from_front, from_front_with, front, front_of, is_module, dot_of, designates}
use Rattle.ob_rules.proofs.BookLaws.{after_none, after_joined}
use Rattle.ob_cexpr_designator.specs.declared.front.Front.{Front}
use Rattle.ob_cexpr_designator.specs.Fronts.{front_judged}
use Rattle.ob_cexpr_operand.specs.Plain.{plain}
use Rattle.ob_cexpr.specs.Plain.{behind_front, goes_on, step_or, step_if, visited_one}

-- what an index says goes before what is said of it
of_two : (b : Notebook) (x y : Notes) → book_after b (joined x y) ≡ book_after (book_after b x) y
of_two b x y = sym (after_joined b x y)

into_node : (map : Map) (at : Pos) (p : Place) (i : Judged Valued) (a : Option (Option ℕ × TypeRef)) → (index_into map at p i a).node ≡ (index_into map at p (plain i.node) a).node
into_node map at p i None = refl
into_node map at p i (Some a) = refl

into_noted : (map : Map) (at : Pos) (p : Place) (i : Judged Valued) (a : Option (Option ℕ × TypeRef)) (k : Notebook) → book_after k (index_into map at p i a).notes ≡ book_after (book_after k i.notes) (index_into map at p (plain i.node) a).notes
into_noted map at p i None k = of_two k i.notes (broken_at rule.UnfitSelector at)
into_noted map at p i (Some a) k = of_two k i.notes (if_sound i.node (λ x. wants (is_integer map x) rule.UnfitSelector at (indexed p at x a))).notes

by_node : (map : Map) (at : Pos) (i : Judged Valued) (o : Option Place) → (index_if o i (λ q. index_into map at q i (array_of map q.of))).node ≡ (index_if o (plain i.node) (λ q. index_into map at q (plain i.node) (array_of map q.of))).node
by_node map at i None = refl
by_node map at i (Some q) = into_node map at q i (array_of map q.of)

by_noted : (map : Map) (at : Pos) (i : Judged Valued) (o : Option Place) (k : Notebook)
    → book_after k (index_if o i (λ q. index_into map at q i (array_of map q.of))).notes ≡ book_after (book_after k i.notes) (index_if o (plain i.node) (λ q. index_into map at q (plain i.node) (array_of map q.of))).notes
by_noted map at i None k = of_two k i.notes no_notes
by_noted map at i (Some q) k = into_noted map at q i (array_of map q.of) k

abbrev place_of : Place → Judged Meant
place_of q = sound (means.Place q)

variable_node : (map : Map) (at : Pos) (i : Judged Valued) (p : Place) → (step_index map at i (means.Place p)).node ≡ (step_index map at (plain i.node) (means.Place p)).node
variable_node map at i p = ap (λ o. (if_sound o place_of).node) (by_node map at i (implicitly map (is_array map) at p (pointed map p.of)).node)

quiet : (k : Notebook) (n : Notes) (o : Option Place) → book_after k (joined n (if_sound o (λ q. sound (means.Place q))).notes) ≡ book_after k n
quiet k n None = of_two k n no_notes ∙ after_none (book_after k n)
quiet k n (Some q) = of_two k n no_notes ∙ after_none (book_after k n)

variable_noted : (map : Map) (at : Pos) (i : Judged Valued) (p : Place) (k : Notebook) → book_after k (step_index map at i (means.Place p)).notes ≡ book_after (book_after k i.notes) (step_index map at (plain i.node) (means.Place p)).notes
variable_noted map at i p k =
    quiet k (index map at p i).notes (index map at p i).node
    ∙ by_noted map at i (implicitly map (is_array map) at p (pointed map p.of)).node k
    ∙ sym (quiet (book_after k i.notes) (index map at p (plain i.node)).notes (index map at p (plain i.node)).node)

pub index_node : (map : Map) (at : Pos) (i : Judged Valued) (m : Meant) → (step_index map at i m).node ≡ (step_index map at (plain i.node) m).node
index_node map at i (means.Place p) = variable_node map at i p
index_node map at i (means.Constant v) = refl
index_node map at i (means.Procedure n s) = refl
index_node map at i (means.Bound c) = refl
index_node map at i (means.Out o) = refl
index_node map at i (means.Predeclared f) = refl
index_node map at i (means.Call x) = refl
index_node map at i (means.Statement s) = refl

pub index_noted : (map : Map) (at : Pos) (i : Judged Valued) (m : Meant) (k : Notebook) → book_after k (step_index map at i m).notes ≡ book_after (book_after k i.notes) (step_index map at (plain i.node) m).notes
index_noted map at i (means.Place p) k = variable_noted map at i p k
index_noted map at i (means.Constant v) k = of_two k i.notes (broken_at rule.UnfitSelector at)
index_noted map at i (means.Procedure n s) k = of_two k i.notes (broken_at rule.UnfitSelector at)
index_noted map at i (means.Bound c) k = of_two k i.notes (broken_at rule.UnfitSelector at)
index_noted map at i (means.Out o) k = of_two k i.notes (broken_at rule.UnfitSelector at)
index_noted map at i (means.Predeclared f) k = of_two k i.notes (broken_at rule.UnfitSelector at)
index_noted map at i (means.Call x) k = of_two k i.notes (broken_at rule.UnfitSelector at)
index_noted map at i (means.Statement s) k = of_two k i.notes (broken_at rule.UnfitSelector at)

-- an index behind what comes before
pub index_step_node : (map : Map) (at : Pos) (i : Judged Valued) (m : Meant) (x : Option Valued) (r : Option Meant) → x ≡ i.node → r ≡ (step_index map at (plain x) m).node → r ≡ (step_index map at i m).node
index_step_node map at i m x r ex er = er ∙ ap (λ o. (step_index map at (plain o) m).node) ex ∙ sym (index_node map at i m)

pub index_step_noted : (map : Map) (at : Pos) (i : Judged Valued) (m : Meant) (x : Option Valued) (k l end : Notebook) → x ≡ i.node → l ≡ book_after k i.notes → end ≡ book_after l (step_index map at (plain x) m).notes → end ≡ book_after k (step_index map at i m).notes
index_step_noted map at i m x k l end ex el ee =
    ee ∙ ap (λ o. book_after l (step_index map at (plain o) m).notes) ex ∙ ap (λ b. book_after b (step_index map at (plain i.node) m).notes) el ∙ sym (index_noted map at i m k)

-- an index is that selector
pub index_made : {E : Type 0} (u : Around) (w : Where) (start at : Pos) (i : Phrase) (m : Meant) (b : Behind) (last : Bool) (r : Result (Option Meant) E)
    → b ≡ Index at i → IfOk r (λ o. o ≡ (step_index (map_of u) at (i.value u) m).node) → IfOk r (λ o. o ≡ (step u w start m b last).node)
index_made u w start at i m b last r e h = subst (λ z. IfOk r (λ o. o ≡ (step u w start m z last).node)) (sym e) h

pub index_said : {T E : Type 0} (u : Around) (w : Where) (start at : Pos) (i : Phrase) (m : Meant) (b : Behind) (last : Bool) (r : Result T E) (k n : Notebook)
    → b ≡ Index at i → OnOk r (n ≡ book_after k (step_index (map_of u) at (i.value u) m).notes) → OnOk r (n ≡ book_after k (step u w start m b last).notes)
index_said u w start at i m b last r k n e h = subst (λ z. OnOk r (n ≡ book_after k (step u w start m z last).notes)) (sym e) h

-- THE VALUES IN SELECTORS

pub visit_one : (u : Around) (b : Behind) (bs : List Behind) (k : Notebook) → book_after k (all_visited u (b ∷ bs)) ≡ book_after (book_after k (visited_one u b)) (all_visited u bs)
visit_one u (Dot at x) bs k = ap (λ b. book_after b (all_visited u bs)) (sym (after_none k))
visit_one u (Index at i) bs k = of_two k (i.value u).notes (all_visited u bs)
visit_one u (Up at) bs k = ap (λ b. book_after b (all_visited u bs)) (sym (after_none k))
visit_one u (Round at ps) bs k = of_two k (visited u ps) (all_visited u bs)

pub visit_step : (u : Around) (b : Behind) (bs : List Behind) (k l end : Notebook) → l ≡ book_after k (visited_one u b) → end ≡ book_after k (all_visited u (b ∷ bs)) → end ≡ book_after l (all_visited u bs)
visit_step u b bs k l end el ee = ee ∙ visit_one u b bs k ∙ ap (λ c. book_after c (all_visited u bs)) (sym el)

pub argument_step : (u : Around) (p : Phrase) (ps : List Phrase) (k l end : Notebook) → l ≡ book_after k (visit (is_one_type u p.name) u p) → end ≡ book_after k (visited u (p ∷ ps)) → end ≡ book_after l (visited u ps)
argument_step u p ps k l end el ee = ee ∙ of_two k (visit (is_one_type u p.name) u p) (visited u ps) ∙ ap (λ c. book_after c (visited u ps)) (sym el)

-- EACH SELECTOR IN TURN

one_node : (u : Around) (w : Where) (start : Pos) (b : Behind) (bs : List Behind) (m : Option Meant) → (goes_on u w start (b ∷ bs) m).node ≡ (goes_on u w start bs (step_or u w start b (nothing_behind bs) m).node).node
one_node u w start b bs None = refl
one_node u w start b bs (Some m) = refl

one_noted : (u : Around) (w : Where) (start : Pos) (b : Behind) (bs : List Behind) (m : Option Meant) (k : Notebook)
    → book_after k (goes_on u w start (b ∷ bs) m).notes ≡ book_after (book_after k (step_or u w start b (nothing_behind bs) m).notes) (goes_on u w start bs (step_or u w start b (nothing_behind bs) m).node).notes
one_noted u w start b bs None k =
    of_two k (all_visited u (b ∷ bs)) no_notes ∙ ap (λ c. book_after c no_notes) (visit_one u b bs k) ∙ sym (of_two (book_after k (visited_one u b)) (all_visited u bs) no_notes)
one_noted u w start b bs (Some m) k =
    let j = step u (where_of w (nothing_behind bs)) start m b (nothing_behind bs) in
    of_two k j.notes (goes_on u w start bs j.node).notes

if_node : (u : Around) (w : Where) (start : Pos) (b : Behind) (bs : List Behind) (t : Bool) (m : Option Meant) → (goes_on u w start (behind t (b ∷ bs)) m).node ≡ (goes_on u w start bs (step_if u w start b t (nothing_behind bs) m).node).node
if_node u w start b bs true m = refl
if_node u w start b bs false m = one_node u w start b bs m

if_noted : (u : Around) (w : Where) (start : Pos) (b : Behind) (bs : List Behind) (t : Bool) (m : Option Meant) (k : Notebook)
    → book_after k (goes_on u w start (behind t (b ∷ bs)) m).notes ≡ book_after (book_after k (step_if u w start b t (nothing_behind bs) m).notes) (goes_on u w start bs (step_if u w start b t (nothing_behind bs) m).node).notes
if_noted u w start b bs true m k = ap (λ c. book_after c (goes_on u w start bs m).notes) (sym (after_none k))
if_noted u w start b bs false m k = one_noted u w start b bs m k

-- one selector more: t says whether it was taken with the front, x is what the ones before came to, and y what it comes to
pub selector_step : (u : Around) (w : Where) (start : Pos) (b : Behind) (bs : List Behind) (t last : Bool) (x y : Option Meant) (k l : Notebook) (whole : Option Meant) (end : Notebook)
    → last ≡ nothing_behind bs → y ≡ (step_if u w start b t last x).node → l ≡ book_after k (step_if u w start b t last x).notes
    → whole ≡ (goes_on u w start (behind t (b ∷ bs)) x).node → end ≡ book_after k (goes_on u w start (behind t (b ∷ bs)) x).notes
    → (whole ≡ (goes_on u w start bs y).node) × (end ≡ book_after l (goes_on u w start bs y).notes)
selector_step u w start b bs t last x y k l whole end eb ey el ew ee =
    let y_is : y ≡ (step_if u w start b t (nothing_behind bs) x).node = ey ∙ ap (λ c. (step_if u w start b t c x).node) eb in
    let l_is : l ≡ book_after k (step_if u w start b t (nothing_behind bs) x).notes = el ∙ ap (λ c. book_after k (step_if u w start b t c x).notes) eb in (
      ew ∙ if_node u w start b bs t x ∙ ap (λ o. (goes_on u w start bs o).node) (sym y_is),
      ee ∙ if_noted u w start b bs t x k ∙ ap (λ c. book_after c (goes_on u w start bs (step_if u w start b t (nothing_behind bs) x).node).notes) (sym l_is) ∙ ap (λ o. book_after l (goes_on u w start bs o).notes) (sym y_is),
    )

-- nothing was taken
pub not_taken : (bs : List Behind) → bs ≡ behind false bs
not_taken [] = refl
not_taken (b ∷ bs) = refl

-- none is left
pub none_taken : (t : Bool) → behind t [] ≡ []
none_taken true = refl
none_taken false = refl

pub is_last : {A : Type 0} (f : A → Behind) (xs : List A) → eqb (length xs) 0 ≡ nothing_behind (map f xs)
is_last f [] = refl
is_last f (x ∷ xs) = grind (arith, nat_tests)

pub last_by : {A : Type 0} (f : A → Behind) (xs : List A) (i n : ℕ) → n + (i + 1) ≡ length xs → eqb n 0 ≡ nothing_behind (map f (drop (i + 1) xs))
last_by f xs i n e =
    let n_is : n ≡ length (drop (i + 1) xs) = omega (arith, length-drop (i + 1) xs) in
    ap (λ m. eqb m 0) n_is ∙ is_last f (drop (i + 1) xs)

end_node : (u : Around) (w : Where) (start : Pos) (t : Bool) (x : Option Meant) → (goes_on u w start (behind t []) x).node ≡ x
end_node u w start true None = refl
end_node u w start true (Some m) = refl
end_node u w start false None = refl
end_node u w start false (Some m) = refl

end_noted : (u : Around) (w : Where) (start : Pos) (t : Bool) (x : Option Meant) (k : Notebook) → book_after k (goes_on u w start (behind t []) x).notes ≡ k
end_noted u w start true None k = after_none k
end_noted u w start true (Some m) k = after_none k
end_noted u w start false None k = after_none k
end_noted u w start false (Some m) k = after_none k

pub selectors_end : (u : Around) (w : Where) (start : Pos) (t : Bool) (sel : List Selector) (i : ℕ) (x whole : Option Meant) → length sel ≤ i → whole ≡ (goes_on u w start (behind t (map behind_of (drop i sel))) x).node → x ≡ whole
selectors_end u w start t sel i x whole h ew = sym (ew ∙ ap (λ ss. (goes_on u w start (behind t ss) x).node) (map_over behind_of sel i h) ∙ end_node u w start t x)

pub selectors_end_noted : (u : Around) (w : Where) (start : Pos) (t : Bool) (sel : List Selector) (i : ℕ) (x : Option Meant) (k end : Notebook) → length sel ≤ i → end ≡ book_after k (goes_on u w start (behind t (map behind_of (drop i sel))) x).notes → k ≡ end
selectors_end_noted u w start t sel i x k end h ee = sym (ee ∙ ap (λ ss. book_after k (goes_on u w start (behind t ss) x).notes) (map_over behind_of sel i h) ∙ end_noted u w start t x k)

-- THE FRONT

abbrev front_from : Bool → Meant → Front
front_from t m = record { meant = m; with_name = t }

front_with : (u : Around) (w : Where) (start : Pos) (bs : List Behind) (n : Notes) (o : Option Meant) (m : Notes) (t : Bool)
    → from_front u w start bs (noted n (made (λ m. (m, behind t bs)) (record { node = o; notes = m }))) ≡ noted (joined n (made (front_from t) (record { node = o; notes = m })).notes) (behind_front u w start bs (made (front_from t) (record { node = o; notes = m })).node)
front_with u w start bs n None m t = refl
front_with u w start bs n (Some x) m t = refl

abbrev judged_from : Around → Ident → List Behind → Judged Entity → Judged Front
judged_from u x bs e = e ▷ λ k. made (front_from (is_module k)) (front_of u x k (dot_of bs))

front_by : (u : Around) (w : Where) (x : Ident) (bs : List Behind) (n : Notes) (o : Option Entity)
    → from_front u w x.pos bs (front u x bs (record { node = o; notes = n })) ≡ noted (judged_from u x bs (record { node = o; notes = n })).notes (behind_front u w x.pos bs (judged_from u x bs (record { node = o; notes = n })).node)
front_by u w x bs n None = refl
front_by u w x bs n (Some k) = front_with u w x.pos bs n (front_of u x k (dot_of bs)).node (front_of u x k (dot_of bs)).notes (is_module k)

front_is : (u : Around) (w : Where) (x : Ident) (bs : List Behind) → designates u w x bs ≡ noted (front_judged u x (dot_of bs)).notes (behind_front u w x.pos bs (front_judged u x (dot_of bs)).node)
front_is u w x bs = front_by u w x bs (named u x).notes (named u x).node

pub front_node : (u : Around) (w : Where) (x : Ident) (bs : List Behind) (o : Option Front) (r : Option Meant) → o ≡ (front_judged u x (dot_of bs)).node → r ≡ (behind_front u w x.pos bs o).node → r ≡ (designates u w x bs).node
front_node u w x bs o r eo er = er ∙ ap (λ y. (behind_front u w x.pos bs y).node) eo ∙ ap (λ j. j.node) (sym (front_is u w x bs))

pub front_noted : (u : Around) (w : Where) (x : Ident) (bs : List Behind) (o : Option Front) (k l end : Notebook) → o ≡ (front_judged u x (dot_of bs)).node → l ≡ book_after k (front_judged u x (dot_of bs)).notes → end ≡ book_after l (behind_front u w x.pos bs o).notes → end ≡ book_after k (designates u w x bs).notes
front_noted u w x bs o k l end eo el ee =
    let j = front_judged u x (dot_of bs) in
    ee ∙ ap (λ y. book_after l (behind_front u w x.pos bs y).notes) eo ∙ ap (λ c. book_after c (behind_front u w x.pos bs j.node).notes) el ∙ after_joined k j.notes (behind_front u w x.pos bs j.node).notes
    ∙ ap (λ i. book_after k i.notes) (sym (front_is u w x bs))

-- a designator, whose front is judged first
pub meant_node : (u : Around) (w : Where) (d : Designator) (sel : List Selector) (dot : Option Ident) (o : Option Front) (r : Option Meant) (x : Ident) (at : Pos) → x ≡ d.ident → at ≡ d.ident.pos → sel ≡ d.selectors → dot ≡ dot_of (map behind_of sel) → o ≡ (front_judged u x dot).node
    → r ≡ (behind_front u w at (map behind_of sel) o).node → r ≡ (meant_by w (named_of d) u).node
meant_node u w d sel dot o r x at ex ea es ed eo er =
    front_node u w d.ident (map behind_of sel) o r (eo ∙ ap (λ (y : Ident). (front_judged u y dot).node) ex ∙ ap (λ y. (front_judged u d.ident y).node) ed) (er ∙ ap (λ (p : Pos). (behind_front u w p (map behind_of sel) o).node) ea)
    ∙ ap (λ ss. (designates u w d.ident (map behind_of ss)).node) es ∙ ap (λ n. (meant_by w n u).node) (sym (named_is d))

pub meant_noted : (u : Around) (w : Where) (d : Designator) (sel : List Selector) (dot : Option Ident) (o : Option Front) (k l end : Notebook) (x : Ident) (at : Pos) → x ≡ d.ident → at ≡ d.ident.pos → sel ≡ d.selectors → dot ≡ dot_of (map behind_of sel) → o ≡ (front_judged u x dot).node
    → l ≡ book_after k (front_judged u x dot).notes → end ≡ book_after l (behind_front u w at (map behind_of sel) o).notes → end ≡ book_after k (meant_by w (named_of d) u).notes
meant_noted u w d sel dot o k l end x at ex ea es ed eo el ee =
    front_noted u w d.ident (map behind_of sel) o k l end (eo ∙ ap (λ (y : Ident). (front_judged u y dot).node) ex ∙ ap (λ y. (front_judged u d.ident y).node) ed) (el ∙ ap (λ (y : Ident). book_after k (front_judged u y dot).notes) ex ∙ ap (λ y. book_after k (front_judged u d.ident y).notes) ed) (ee ∙ ap (λ (p : Pos). book_after l (behind_front u w p (map behind_of sel) o).notes) ea)
    ∙ ap (λ ss. book_after k (designates u w d.ident (map behind_of ss)).notes) es ∙ ap (λ n. book_after k (meant_by w n u).notes) (sym (named_is d))
