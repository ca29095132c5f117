-- What is said of a part goes before what is said behind it.
use Rattle.std.proofs.Common.{◌≡◌, refl, sym, ap, ◌∙◌, ℕ, ◌+◌, ◌<◌, List, [], ◌∷◌, Option, Some, None, map, drop, length, get_or, ◌≤◌, not, subst, Result, IfOk, OnOk}
use Rattle.std.proofs.lemmas.List.{drop_more, drop_all}
use Rattle.ob_tree.specs.declared.pos.Pos.{Pos}
use Rattle.ob_tree.specs.declared.ident.Qualident.{Qualident}
use Rattle.ob_tree.specs.declared.expr.Relation.{Relation}
use Rattle.ob_tree.specs.declared.expr.Relation.TheVariants as relates
use Rattle.ob_tree.specs.declared.expr.Tail.{Tail}
use Rattle.ob_rules.specs.declared.notes.Notebook.{Notebook}
use Rattle.ob_rules.specs.declared.values.Valued.{Valued}
use Rattle.ob_rules.specs.declared.broken.Rule.TheVariants as rule
use Rattle.ob_rules.specs.Judged.{Judged, Notes, joined, no_notes, noted, if_sound, both, paired, wants, also, breaks, ◌▷◌}
use Rattle.ob_rules.specs.Books.{book_after}
use Rattle.ob_rules.specs.Names.{Around, map_of}
use Rattle.ob_rules.specs.Operators.{combined, related}
use Rattle.ob_rules.specs.Shapes.{Map}
use Rattle.ob_rules.specs.Names.{type_named}
use Rattle.ob_rules.specs.Phrases.{Phrase}
use Rattle.ob_tree.specs.declared.expr.Expr.TheFolds.{fold_out-Tail}
use Rattle.ob_rules.specs.Phrases.{Behind}
use Rattle.ob_rules.specs.Expressions.{Tailed, Named, Ranged, expr_rule, selector_rule, designator_rule, element_rule, tail_rule, phrase_of, combine_all, tailed_of, relation_of, is_test, untestable, testable, test}
use Rattle.ob_rules.proofs.BookLaws.{after_none, after_joined}
use Rattle.ob_cexpr_operand.specs.Plain.{plain}

-- two parts, and what stands behind them
pub after_two : (b : Notebook) (x y o : Notes) → book_after b (joined (joined x y) o) ≡ book_after (book_after (book_after b x) y) o
after_two b x y o = sym (after_joined b (joined x y) o) ∙ ap (λ c. book_after c o) (sym (after_joined b x y))

pub after_second : (b : Notebook) (y o : Notes) → book_after b (joined (joined no_notes y) o) ≡ book_after (book_after b y) o
after_second b y o = sym (after_joined b (joined no_notes y) o)

pub chain_node : (u : Around) (ts : List Tailed) (j : Judged Valued) → (combine_all u ts j).node ≡ (combine_all u ts (plain j.node)).node
chain_node u [] j = refl
chain_node u (t ∷ ts) j =
    chain_node u ts (both j (t.operand.value u) ▷ λ p. combined (map_of u) t.operator t.at p.0 p.1)
    ∙ sym (chain_node u ts (both (plain j.node) (t.operand.value u) ▷ λ p. combined (map_of u) t.operator t.at p.0 p.1))

pub chain_notes : (u : Around) (ts : List Tailed) (j : Judged Valued) (b : Notebook) → book_after b (combine_all u ts j).notes ≡ book_after (book_after b j.notes) (combine_all u ts (plain j.node)).notes
chain_notes u [] j b = sym (after_none (book_after b j.notes))
chain_notes u (t ∷ ts) j b =
    let f = λ (p : Valued × Valued). combined (map_of u) t.operator t.at p.0 p.1 in
    let v = t.operand.value u in
    let own = (if_sound (paired j.node v.node) f).notes in
    let rest = (combine_all u ts (plain (both j v ▷ f).node)).notes in
    chain_notes u ts (both j v ▷ f) b
    ∙ ap (λ c. book_after c rest) (after_two b j.notes v.notes own ∙ sym (after_second (book_after b j.notes) v.notes own))
    ∙ sym (chain_notes u ts (both (plain j.node) v ▷ f) (book_after b j.notes))

-- one more operand: x is what the ones before came to, y what it comes to itself, and z what the operator makes of them
pub chain_step : (u : Around) (t : Tailed) (ts : List Tailed) (x y z : Option Valued) (b c d : Notebook) (whole : Option Valued) (end : Notebook)
    → y ≡ (t.operand.value u).node → c ≡ book_after b (t.operand.value u).notes
    → z ≡ (if_sound (paired x y) (λ p. combined (map_of u) t.operator t.at p.0 p.1)).node
    → d ≡ book_after c (if_sound (paired x y) (λ p. combined (map_of u) t.operator t.at p.0 p.1)).notes
    → whole ≡ (combine_all u (t ∷ ts) (plain x)).node → end ≡ book_after b (combine_all u (t ∷ ts) (plain x)).notes
    → (whole ≡ (combine_all u ts (plain z)).node) × (end ≡ book_after d (combine_all u ts (plain z)).notes)
chain_step u t ts x y z b c d whole end ey ec ez ed ew ee =
    let f = λ (p : Valued × Valued). combined (map_of u) t.operator t.at p.0 p.1 in
    let v = t.operand.value u in
    let z_is : z ≡ (both (plain x) v ▷ f).node = ez ∙ ap (λ o. (if_sound (paired x o) f).node) ey in
    let d_is : d ≡ book_after b (both (plain x) v ▷ f).notes =
    ed ∙ ap (λ o. book_after c (if_sound (paired x o) f).notes) ey ∙ ap (λ k. book_after k (if_sound (paired x v.node) f).notes) ec ∙ sym (after_second b v.notes (if_sound (paired x v.node) f).notes) in (
      ew ∙ chain_node u ts (both (plain x) v ▷ f) ∙ ap (λ o. (combine_all u ts (plain o)).node) (sym z_is),
      ee ∙ chain_notes u ts (both (plain x) v ▷ f) b ∙ ap (λ k. book_after k (combine_all u ts (plain (both (plain x) v ▷ f).node)).notes) (sym d_is) ∙ ap (λ o. book_after d (combine_all u ts (plain o)).notes) (sym z_is),
    )

-- an operator with its operand
abbrev pub tailed_as : Tail → Tailed
tailed_as t = record { operator = t.operator; at = t.pos; operand = phrase_of t.operand }

tailed_is : (t : Tail) → tailed_of t ≡ tailed_as t
tailed_is t = fold_out-Tail Phrase Behind Named Ranged Tailed expr_rule selector_rule designator_rule element_rule tail_rule t

pub tails_from : (ts : List Tail) (i : ℕ) (t : Tail) → i < length ts → map tailed_of (drop i ts) ≡ tailed_as (get_or ts i t) ∷ map tailed_of (drop (i + 1) ts)
tails_from ts i t h = ap (map tailed_of) (drop_more ts i t h) ∙ ap (λ y. y ∷ map tailed_of (drop (i + 1) ts)) (tailed_is (get_or ts i t))

-- what is said of a part, and then of what stands on it
pub then_noted : {A B : Type 0} (j : Judged A) (f : A → Judged B) (x : Option A) (k l end : Notebook) → x ≡ j.node → l ≡ book_after k j.notes → end ≡ book_after l (if_sound x f).notes → end ≡ book_after k (j ▷ f).notes
then_noted j f x k l end ex el ee =
    ee ∙ ap (λ o. book_after l (if_sound o f).notes) ex ∙ ap (λ b. book_after b (if_sound j.node f).notes) el ∙ after_joined k j.notes (if_sound j.node f).notes

pub then_chain : (u : Around) (ts : List Tailed) (j : Judged Valued) (x r : Option Valued) → x ≡ j.node → r ≡ (combine_all u ts (plain x)).node → r ≡ (combine_all u ts j).node
then_chain u ts j x r ex er = er ∙ ap (λ o. (combine_all u ts (plain o)).node) ex ∙ sym (chain_node u ts j)

pub then_chain_noted : (u : Around) (ts : List Tailed) (j : Judged Valued) (x : Option Valued) (k l end : Notebook) → x ≡ j.node → l ≡ book_after k j.notes → end ≡ book_after l (combine_all u ts (plain x)).notes → end ≡ book_after k (combine_all u ts j).notes
then_chain_noted u ts j x k l end ex el ee =
    ee ∙ ap (λ o. book_after l (combine_all u ts (plain o)).notes) ex ∙ ap (λ b. book_after b (combine_all u ts (plain j.node)).notes) el ∙ sym (chain_notes u ts j k)

related_first : (n y o : Notes) (k : Notebook) → book_after k (joined (joined n y) o) ≡ book_after (book_after k n) (joined (joined no_notes y) o)
related_first n y o k = after_two k n y o ∙ sym (after_second (book_after k n) y o)

relates_first : (u : Around) (f : Valued × Valued → Judged Valued) (j v : Judged Valued) (k : Notebook) → book_after k (both j v ▷ f).notes ≡ book_after (book_after k j.notes) (both (plain j.node) v ▷ f).notes
relates_first u f j v k = related_first j.notes v.notes (if_sound (paired j.node v.node) f).notes k

untested_first : (m : Map) (at : Pos) (n : Notes) (o : Option Valued) (y own : Notes) (k : Notebook) → book_after k (joined (joined (untestable m at (record { node = o; notes = n })).notes y) own) ≡ book_after (book_after k n) (joined (joined (untestable m at (plain o)).notes y) own)
untested_first m at n o y own k =
    let w = (if_sound o (λ v. wants (testable m v) rule.UnfitTypeTest at v)).notes in
    after_two k (joined n w) y own ∙ ap (λ b. book_after (book_after b y) own) (sym (after_joined k n w)) ∙ sym (after_two (book_after k n) w y own)

test_first : (u : Around) (at : Pos) (r : Phrase) (q : Option Qualident) (j : Judged Valued) (k : Notebook) → book_after k (is_test u at j r q).notes ≡ book_after (book_after k j.notes) (is_test u at (plain j.node) r q).notes
test_first u at r (Some q) j k =
    untested_first (map_of u) at j.notes j.node (type_named u q).notes (if_sound (paired (untestable (map_of u) at j).node (type_named u q).node) (λ p. test (map_of u) at p.0 p.1)).notes k
test_first u at r None j k = relates_first u (λ p. also (not (testable (map_of u) p.0)) rule.UnfitTypeTest at (breaks rule.UnfitOperands at)) j (r.value u) k

relation_first : (u : Around) (op : Relation) (at : Pos) (r : Phrase) (j : Judged Valued) (k : Notebook) → book_after k (relation_of u op at j r).notes ≡ book_after (book_after k j.notes) (relation_of u op at (plain j.node) r).notes
relation_first u relates.Is at r j k = test_first u at r r.name j k
relation_first u relates.Equal at r j k = relates_first u (λ p. related (map_of u) relates.Equal at p.0 p.1) j (r.value u) k
relation_first u relates.NotEqual at r j k = relates_first u (λ p. related (map_of u) relates.NotEqual at p.0 p.1) j (r.value u) k
relation_first u relates.Less at r j k = relates_first u (λ p. related (map_of u) relates.Less at p.0 p.1) j (r.value u) k
relation_first u relates.LessEqual at r j k = relates_first u (λ p. related (map_of u) relates.LessEqual at p.0 p.1) j (r.value u) k
relation_first u relates.Greater at r j k = relates_first u (λ p. related (map_of u) relates.Greater at p.0 p.1) j (r.value u) k
relation_first u relates.GreaterEqual at r j k = relates_first u (λ p. related (map_of u) relates.GreaterEqual at p.0 p.1) j (r.value u) k
relation_first u relates.In at r j k = relates_first u (λ p. related (map_of u) relates.In at p.0 p.1) j (r.value u) k

-- a relation behind its left operand
pub relation_noted : (u : Around) (op : Relation) (at : Pos) (r : Phrase) (j : Judged Valued) (x : Option Valued) (k l end : Notebook) → x ≡ j.node → l ≡ book_after k j.notes
    → end ≡ book_after l (relation_of u op at (plain x) r).notes → end ≡ book_after k (relation_of u op at j r).notes
relation_noted u op at r j x k l end ex el ee =
    ee ∙ ap (λ o. book_after l (relation_of u op at (plain o) r).notes) ex ∙ ap (λ b. book_after b (relation_of u op at (plain j.node) r).notes) el ∙ sym (relation_first u op at r j k)

-- an element of a row, and those behind it
pub map_from : {A B : Type 0} (f : A → B) (xs : List A) (i : ℕ) (d : A) → i < length xs → map f (drop i xs) ≡ f (get_or xs i d) ∷ map f (drop (i + 1) xs)
map_from f xs i d h = ap (map f) (drop_more xs i d h)

-- none is left
pub map_over : {A B : Type 0} (f : A → B) (xs : List A) (i : ℕ) → length xs ≤ i → map f (drop i xs) ≡ []
map_over f xs i h = ap (map f) (drop_all i xs h)

pub tails_over : (u : Around) (ts : List Tail) (i : ℕ) (x : Option Valued) (k end : Notebook) → length ts ≤ i → end ≡ book_after k (combine_all u (map tailed_of (drop i ts)) (plain x)).notes → k ≡ end
tails_over u ts i x k end h e = sym (e ∙ ap (λ l. book_after k (combine_all u l (plain x)).notes) (map_over tailed_of ts i h) ∙ after_none k)

-- what an expression comes to, by another name of the same
pub made_as : {E : Type 0} (r : Result (Option Valued) E) (y x : Judged Valued) → y ≡ x → IfOk r (λ o. o ≡ x.node) → IfOk r (λ o. o ≡ y.node)
made_as r y x e h = subst (λ z. IfOk r (λ o. o ≡ z.node)) (sym e) h

pub noted_as : {T E : Type 0} (r : Result T E) (n k : Notebook) (y x : Judged Valued) → y ≡ x → OnOk r (n ≡ book_after k x.notes) → OnOk r (n ≡ book_after k y.notes)
noted_as r n k y x e h = subst (λ z. OnOk r (n ≡ book_after k z.notes)) (sym e) h

-- a part, and what is made of it
pub then_made : {A E : Type 0} (r : Result (Option Valued) E) (j : Judged A) (f : A → Judged Valued) (x : Option A) → x ≡ j.node → IfOk r (λ o. o ≡ (if_sound x f).node) → IfOk r (λ o. o ≡ (j ▷ f).node)
then_made r j f x e h = subst (λ z. IfOk r (λ o. o ≡ (if_sound z f).node)) e h
