-- Rows of actual parameters, one after the other.
use Rattle.std.proofs.Common.{◌≡◌, refl, sym, ap, ◌∙◌, ℕ, ◌+◌, zero, suc, List, [], ◌∷◌, ◌++◌, append_assoc, Option, Some, None, drop, add-one}
use Rattle.std.proofs.lemmas.List.{append-nil}
use Rattle.ob_tree.specs.declared.pos.Pos.{Pos}
use Rattle.ob_types.specs.declared.types.Mode.{Mode}
use Rattle.ob_types.specs.declared.types.TypeRef.{TypeRef}
use Rattle.ob_types.specs.declared.typed.Actual.{Actual}
use Rattle.ob_rules.specs.declared.notes.Notebook.{Notebook}
use Rattle.ob_rules.specs.declared.values.Valued.{Valued}
use Rattle.ob_rules.specs.Judged.{Judged, paired, if_sound, sound, both, ◌▷◌}
use Rattle.ob_rules.specs.Books.{book_after}
use Rattle.ob_rules.specs.Names.{Around}
use Rattle.ob_rules.specs.Phrases.{Phrase}
use Rattle.ob_rules.specs.Calls.{actual, actuals}
use Rattle.ob_rules.proofs.BookLaws.{after_none, after_joined}
use Rattle.ob_cexpr_call.specs.Rows.{row_with, row_before}
use Rattle.ob_cexpr_operand.specs.Plain.{onto, first_of}
use Rattle.ob_cexpr_arguments.specs.declared.arguments.Argument.{Argument}
use Rattle.ob_cexpr_arguments.specs.Arguments.{argument_of, argument_says, left_of}
use Rattle.ob_cexpr_arguments.specs.Rounds.{Leaves}
use Rattle.ob_cexpr_arguments.specs.Rows.{row_behind}
use Rattle.ob_cexpr_arguments.proofs.ArgumentLaws.{by_meant, actual_by, extra_by}
use Rattle.ob_cexpr_arguments.proofs.JudgedLaws.{made_notes}

-- a row without its first
abbrev pub rest_of : {A : Type 0} → List A → List A
rest_of [] = []
rest_of (x ∷ xs) = xs

rest_suc : {A : Type 0} (xs : List A) (n : ℕ) → drop (suc n) xs ≡ rest_of (drop n xs)
rest_suc [] zero = refl
rest_suc [] (suc n) = refl
rest_suc (x ∷ xs) zero = refl
rest_suc (x ∷ xs) (suc n) = rest_suc xs n

rest_drop : {A : Type 0} (xs : List A) (n : ℕ) → drop (n + 1) xs ≡ rest_of (drop n xs)
rest_drop xs n = rw add-one (rest_suc xs n)

onto_nil : {A : Type 0} (o : Option (List A)) → onto o (Some []) ≡ o
onto_nil None = refl
onto_nil (Some xs) = ap Some (append-nil xs)

extra_node : (row : Option (List Actual)) (v : Option Valued) (w : Option (List Actual)) → onto row (if_sound (paired v w) (λ r. sound r.1)).node ≡ onto (row_before row v) w
extra_node None v w = refl
extra_node (Some xs) None w = refl
extra_node (Some xs) (Some x) None = refl
extra_node (Some xs) (Some x) (Some ys) = refl

one_node : (row : Option (List Actual)) (a : Option Actual) (w : Option (List Actual)) → onto row (if_sound (paired a w) (λ r. sound (r.0 ∷ r.1))).node ≡ onto (row_with row a) w
one_node None a w = refl
one_node (Some xs) None w = refl
one_node (Some xs) (Some x) None = refl
one_node (Some xs) (Some x) (Some ys) = ap Some (sym (append_assoc xs (x ∷ []) ys))

abbrev last_of : Valued × List Actual → List Actual
last_of r = r.1

abbrev all_of : Actual × List Actual → List Actual
all_of r = r.0 ∷ r.1

-- one more of a row, and the others behind it
behind_step : (u : Around) (gs : List (Mode × TypeRef)) (p : Phrase) (ps : List Phrase) (row : Option (List Actual)) (k : Notebook)
    → (onto row (actuals u gs (p ∷ ps)).node ≡ onto (row_behind u (first_of gs) p row).node (actuals u (rest_of gs) ps).node)
    × (book_after k (actuals u gs (p ∷ ps)).notes ≡ book_after (book_after k (row_behind u (first_of gs) p row).notes) (actuals u (rest_of gs) ps).notes)
behind_step u [] p ps row k = (
  extra_node row (p.value u).node (actuals u [] ps).node,
  made_notes last_of (both (p.value u) (actuals u [] ps)) k ∙ sym (after_joined k (p.value u).notes (actuals u [] ps).notes),
)
behind_step u (g ∷ gs) p ps row k = (
  one_node row (actual u g.0 g.1 p).node (actuals u gs ps).node,
  made_notes all_of (both (actual u g.0 g.1 p) (actuals u gs ps)) k ∙ sym (after_joined k (actual u g.0 g.1 p).notes (actuals u gs ps).notes),
)

row_left : (u : Around) (f : Option (Mode × TypeRef)) (p : Phrase) (row : Option (List Actual)) (k : Notebook) → p.value u ≡ by_meant u p.start p.meant (p.value u)
    → Leaves k (row_behind u f p row) (book_after k (argument_says u p.meant (p.value u))) (row_behind u f (left_of p.start (argument_of u p.meant (p.value u))) row)
row_left u None p row k h =
    let t = extra_by u p k h in
    (ap (λ o. row_before row o) t.0, t.1)
row_left u (Some f) p row k h =
    let t = actual_by u f.0 f.1 p k h in
    (ap (λ o. row_with row o) t.0, t.1)

-- one more argument of a row, judged and then passed
pub row_goes : (u : Around) (fs : List (Mode × TypeRef)) (n : ℕ) (f : Option (Mode × TypeRef)) (p : Phrase) (ps : List Phrase) (a : Argument) (at : Pos) (row y : Option (List Actual)) (k l m : Notebook) (whole : Option (List Actual)) (end : Notebook)
    → p.value u ≡ by_meant u p.start p.meant (p.value u) → at ≡ p.start → f ≡ first_of (drop n fs) → a ≡ argument_of u p.meant (p.value u) → l ≡ book_after k (argument_says u p.meant (p.value u))
    → y ≡ (row_behind u f (left_of at a) row).node → m ≡ book_after l (row_behind u f (left_of at a) row).notes
    → whole ≡ onto row (actuals u (drop n fs) (p ∷ ps)).node → end ≡ book_after k (actuals u (drop n fs) (p ∷ ps)).notes
    → (whole ≡ onto y (actuals u (drop (n + 1) fs) ps).node) × (end ≡ book_after m (actuals u (drop (n + 1) fs) ps).notes)
row_goes u fs n f p ps a at row y k l m whole end h eat ef ea el ey em ew ee =
    let gs = drop n fs in
    let own = argument_of u p.meant (p.value u) in
    let r = row_left u (first_of gs) p row k h in
    let s = behind_step u gs p ps row k in
    let y_is : y ≡ (row_behind u (first_of gs) p row).node =
    ey ∙ ap (λ x. (row_behind u f (left_of x a) row).node) eat ∙ ap (λ x. (row_behind u x (left_of p.start a) row).node) ef ∙ ap (λ x. (row_behind u (first_of gs) (left_of p.start x) row).node) ea ∙ sym r.0 in
    let m_is : m ≡ book_after k (row_behind u (first_of gs) p row).notes =
    em ∙ ap (λ x. book_after l (row_behind u f (left_of x a) row).notes) eat ∙ ap (λ x. book_after l (row_behind u x (left_of p.start a) row).notes) ef ∙ ap (λ x. book_after l (row_behind u (first_of gs) (left_of p.start x) row).notes) ea
    ∙ ap (λ b. book_after b (row_behind u (first_of gs) (left_of p.start own) row).notes) el ∙ sym r.1 in (
      ew ∙ s.0 ∙ ap (λ o. onto o (actuals u (rest_of gs) ps).node) (sym y_is) ∙ ap (λ hs. onto y (actuals u hs ps).node) (sym (rest_drop fs n)),
      ee ∙ s.1 ∙ ap (λ b. book_after b (actuals u (rest_of gs) ps).notes) (sym m_is) ∙ ap (λ hs. book_after m (actuals u hs ps).notes) (sym (rest_drop fs n)),
    )

-- none is left of it
pub row_ends : (u : Around) (fs : List (Mode × TypeRef)) (ps : List Phrase) (row : Option (List Actual)) (whole : Option (List Actual)) → ps ≡ [] → whole ≡ onto row (actuals u fs ps).node → row ≡ whole
row_ends u fs ps row whole h ew = sym (ew ∙ ap (λ qs. onto row (actuals u fs qs).node) h ∙ onto_nil row)

pub row_ends_noted : (u : Around) (fs : List (Mode × TypeRef)) (ps : List Phrase) (k end : Notebook) → ps ≡ [] → end ≡ book_after k (actuals u fs ps).notes → k ≡ end
row_ends_noted u fs ps k end h ee = sym (ee ∙ ap (λ qs. book_after k (actuals u fs qs).notes) h ∙ after_none k)
