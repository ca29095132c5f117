-- Round brackets, as they are noted.
use Rattle.std.proofs.Common.{◌≡◌, refl, sym, ap, ◌∙◌, ℕ, ◌+◌, ◌<◌, ◌≤◌, Bool, true, false, List, [], ◌∷◌, Option, Some, None, map, drop, length, get_or, arith}
use Rattle.std.proofs.lemmas.List.{length-map}
use Rattle.ob_tree.specs.declared.pos.Pos.{Pos}
use Rattle.ob_tree.specs.declared.expr.Expr.{Expr}
use Rattle.ob_types.specs.declared.types.Mode.{Mode}
use Rattle.ob_types.specs.declared.types.TypeRef.{TypeRef}
use Rattle.ob_types.specs.declared.typed.Actual.{Actual}
use Rattle.ob_rules.specs.declared.notes.Notebook.{Notebook}
use Rattle.ob_rules.specs.declared.values.Valued.{Valued}
use Rattle.ob_rules.specs.declared.meant.Meant.{Meant}
use Rattle.ob_rules.specs.declared.meant.Meant.TheVariants as means
use Rattle.ob_rules.specs.declared.meant.Where.{Where}
use Rattle.ob_rules.specs.declared.meant.Asked.{Asked}
use Rattle.ob_rules.specs.declared.meant.Asked.TheVariants as asked
use Rattle.ob_rules.specs.declared.broken.Rule.TheVariants as rule
use Rattle.ob_rules.specs.Judged.{Judged, Notes, joined, if_sound, also, each_sound, sound}
use Rattle.ob_rules.specs.Books.{book_after}
use Rattle.ob_rules.specs.Names.{Around, map_of}
use Rattle.ob_rules.specs.Phrases.{Phrase}
use Rattle.ob_rules.specs.Calls.{actuals, misplaced}
use Rattle.ob_rules.specs.Predeclared.{parameter, type_parameter, extreme_call, extreme_of, basic_if}
use Rattle.ob_rules.specs.Designators.{as_call}
use Rattle.ob_rules.specs.Expressions.{phrase_of}
use Rattle.ob_rules.proofs.BookLaws.{after_none, after_joined}
use Rattle.ob_cexpr_operand.specs.Plain.{onto, alone, first_of}
use Rattle.ob_cexpr_arguments.specs.declared.arguments.Argument.{Argument}
use Rattle.ob_cexpr_arguments.specs.declared.callables.Callable.{Callable}
use Rattle.ob_cexpr_arguments.specs.declared.opening.Opened.{Opened}
use Rattle.ob_cexpr_arguments.specs.declared.opening.Opened.TheVariants as opens
use Rattle.ob_cexpr_arguments.specs.Arguments.{argument_of, argument_says, left_of, parameters_asked}
use Rattle.ob_cexpr_arguments.specs.Rounds.{Leaves, finished, params_of, call_left, round_left}
use Rattle.ob_cexpr_arguments.specs.Rows.{row_behind}
use Rattle.ob_cexpr_arguments.proofs.ArgumentLaws.{parameter_by}
use Rattle.ob_cexpr_arguments.proofs.JudgedLaws.{then_node, then_noted}
use Rattle.ob_cexpr_arguments.proofs.RowLaws.{row_goes, row_ends_noted}
use Rattle.ob_cexpr.proofs.Arguments.{phrase_value}
use Rattle.ob_cexpr.proofs.Chains.{map_from, map_over}
use Rattle.ob_cexpr.proofs.Rows.{row_step}

-- ROWS OF ARGUMENTS

-- the arguments from a place on, split at the first
split_at : (xs : List Expr) (i : ℕ) (x : Expr) → i < length xs → x ≡ get_or xs i x → map phrase_of (drop i xs) ≡ phrase_of x ∷ map phrase_of (drop (i + 1) xs)
split_at xs i x h is = map_from phrase_of xs i x h ∙ ap (λ y. phrase_of y ∷ map phrase_of (drop (i + 1) xs)) (sym is)

pub actuals_step : (u : Around) (fs : List (Mode × TypeRef)) (xs : List Expr) (n i : ℕ) (x : Expr) (f : Option (Mode × TypeRef)) (a : Argument) (at : Pos) (row y : Option (List Actual)) (k l m : Notebook) (whole : Option (List Actual)) (end : Notebook)
    → i < length xs → x ≡ get_or xs i x → at ≡ (phrase_of x).start → f ≡ first_of (drop n fs)
    → a ≡ argument_of u (phrase_of x).meant ((phrase_of x).value u) → l ≡ book_after k (argument_says u (phrase_of x).meant ((phrase_of x).value u))
    → y ≡ (row_behind u f (left_of at a) row).node → m ≡ book_after l (row_behind u f (left_of at a) row).notes
    → whole ≡ onto row (actuals u (drop n fs) (map phrase_of (drop i xs))).node → end ≡ book_after k (actuals u (drop n fs) (map phrase_of (drop i xs))).notes
    → (whole ≡ onto y (actuals u (drop (n + 1) fs) (map phrase_of (drop (i + 1) xs))).node) × (end ≡ book_after m (actuals u (drop (n + 1) fs) (map phrase_of (drop (i + 1) xs))).notes)
actuals_step u fs xs n i x f a at row y k l m whole end h is eat ef ea el ey em ew ee =
    let split = split_at xs i x h is in
    row_goes u fs n f (phrase_of x) (map phrase_of (drop (i + 1) xs)) a at row y k l m whole end (phrase_value x u) eat ef ea el ey em
    (ew ∙ ap (λ ps. onto row (actuals u (drop n fs) ps).node) split) (ee ∙ ap (λ ps. book_after k (actuals u (drop n fs) ps).notes) split)

pub actuals_end_noted : (u : Around) (fs : List (Mode × TypeRef)) (xs : List Expr) (n i : ℕ) (k end : Notebook) → length xs ≤ i → end ≡ book_after k (actuals u (drop n fs) (map phrase_of (drop i xs))).notes → k ≡ end
actuals_end_noted u fs xs n i k end h ee = row_ends_noted u (drop n fs) (map phrase_of (drop i xs)) k end (map_over phrase_of xs i h) ee

pub parameters_step : (u : Around) (b c : Asked) (xs : List Expr) (i : ℕ) (x : Expr) (a : Argument) (at : Pos) (v : Option Valued) (row y : Option (List Valued)) (k l m : Notebook) (whole : Option (List Valued)) (end : Notebook)
    → i < length xs → x ≡ get_or xs i x → at ≡ (phrase_of x).start
    → a ≡ argument_of u (phrase_of x).meant ((phrase_of x).value u) → l ≡ book_after k (argument_says u (phrase_of x).meant ((phrase_of x).value u))
    → v ≡ (parameter u b (left_of at a)).node → m ≡ book_after l (parameter u b (left_of at a)).notes → y ≡ onto row (alone v)
    → whole ≡ onto row (each_sound (parameters_asked u b c (map phrase_of (drop i xs)))).node → end ≡ book_after k (each_sound (parameters_asked u b c (map phrase_of (drop i xs)))).notes
    → (whole ≡ onto y (each_sound (parameters_asked u c asked.Value (map phrase_of (drop (i + 1) xs)))).node) × (end ≡ book_after m (each_sound (parameters_asked u c asked.Value (map phrase_of (drop (i + 1) xs)))).notes)
parameters_step u b c xs i x a at v row y k l m whole end h is eat ea el ev em ey ew ee =
    let split = split_at xs i x h is in
    let p = phrase_of x in
    let own = argument_of u p.meant (p.value u) in
    let t = parameter_by u b p k (phrase_value x u) in
    let v_is : v ≡ (parameter u b p).node = ev ∙ ap (λ s. (parameter u b (left_of s a)).node) eat ∙ ap (λ g. (parameter u b (left_of p.start g)).node) ea ∙ sym t.0 in
    let m_is : m ≡ book_after k (parameter u b p).notes =
    em ∙ ap (λ s. book_after l (parameter u b (left_of s a)).notes) eat ∙ ap (λ g. book_after l (parameter u b (left_of p.start g)).notes) ea ∙ ap (λ d. book_after d (parameter u b (left_of p.start own)).notes) el ∙ sym t.1 in
    row_step (parameter u b p) (parameters_asked u c asked.Value (map phrase_of (drop (i + 1) xs))) row y k m whole end (ey ∙ ap (λ o. onto row (alone o)) v_is) m_is
    (ew ∙ ap (λ ps. onto row (each_sound (parameters_asked u b c ps)).node) split) (ee ∙ ap (λ ps. book_after k (each_sound (parameters_asked u b c ps)).notes) split)

pub parameters_end_noted : (u : Around) (b c : Asked) (xs : List Expr) (i : ℕ) (k end : Notebook) → length xs ≤ i → end ≡ book_after k (each_sound (parameters_asked u b c (map phrase_of (drop i xs)))).notes → k ≡ end
parameters_end_noted u b c xs i k end h ee = sym (ee ∙ ap (λ ps. book_after k (each_sound (parameters_asked u b c ps)).notes) (map_over phrase_of xs i h) ∙ after_none k)

-- MAX AND MIN

only_one : (xs : List Expr) (x : Expr) → length xs ≡ 1 → x ≡ get_or xs 0 x → map phrase_of xs ≡ phrase_of x ∷ []
only_one [] x h is = absurd (omega arith)
only_one (y ∷ []) x h is = ap (λ z. phrase_of z ∷ []) (sym is)
only_one (y ∷ z ∷ zs) x h is = absurd (omega arith)

-- with their one parameter, which comes to t
abbrev extreme_with : Bool → Around → Where → Pos → Option TypeRef → Judged Meant
extreme_with max u w at t = also (misplaced w true) rule.MisplacedCall at (extreme_of max at t (basic_if (map_of u) t))

pub extreme_node : (max : Bool) (u : Around) (w : Where) (at : Pos) (xs : List Expr) (x : Expr) (t : Option (Option TypeRef)) (r : Option Meant) → length xs ≡ 1 → x ≡ get_or xs 0 x
    → t ≡ (type_parameter u (phrase_of x) (phrase_of x).name).node → r ≡ (if_sound t (extreme_with max u w at)).node → r ≡ (extreme_call max u w at (map phrase_of xs)).node
extreme_node max u w at xs x t r h is et er =
    then_node (type_parameter u (phrase_of x) (phrase_of x).name) (extreme_with max u w at) t r et er ∙ ap (λ ps. (extreme_call max u w at ps).node) (sym (only_one xs x h is))

pub extreme_noted : (max : Bool) (u : Around) (w : Where) (at : Pos) (xs : List Expr) (x : Expr) (t : Option (Option TypeRef)) (k l end : Notebook) → length xs ≡ 1 → x ≡ get_or xs 0 x
    → t ≡ (type_parameter u (phrase_of x) (phrase_of x).name).node → l ≡ book_after k (type_parameter u (phrase_of x) (phrase_of x).name).notes
    → end ≡ book_after l (if_sound t (extreme_with max u w at)).notes → end ≡ book_after k (extreme_call max u w at (map phrase_of xs)).notes
extreme_noted max u w at xs x t k l end h is et el ee =
    then_noted (type_parameter u (phrase_of x) (phrase_of x).name) (extreme_with max u w at) t k l end et el ee ∙ ap (λ ps. book_after k (extreme_call max u w at ps).notes) (sym (only_one xs x h is))

-- WHAT IS LEFT OF ROUND BRACKETS

call_notes : (k : Notebook) (a f o : Notes) → book_after k (joined (joined a f) o) ≡ book_after (book_after k a) (joined f o)
call_notes k a f o = sym (after_joined k (joined a f) o) ∙ ap (λ b. book_after b o) (sym (after_joined k a f)) ∙ after_joined (book_after k a) f o

-- a call, whose actual parameters are judged
pub call_noted : (u : Around) (w : Where) (at : Pos) (c : Callable) (fs : List (Mode × TypeRef)) (xs : List Expr) (n : ℕ) (row : Option (List Actual)) (k l end : Notebook) → fs ≡ params_of c → n ≡ length xs
    → row ≡ (actuals u fs (map phrase_of xs)).node → l ≡ book_after k (actuals u fs (map phrase_of xs)).notes → end ≡ book_after l (as_call (finished w at n c row)).notes → end ≡ book_after k (as_call (call_left u w at (map phrase_of xs) c)).notes
call_noted u w at c fs xs n row k l end ef en ew el ee =
    let a = actuals u (params_of c) (map phrase_of xs) in
    let f = finished w at (length (map phrase_of xs)) c a.node in
    ee ∙ ap (λ o. book_after l (as_call (finished w at n c o)).notes) (ew ∙ ap (λ gs. (actuals u gs (map phrase_of xs)).node) ef) ∙ ap (λ m. book_after l (as_call (finished w at m c a.node)).notes) (en ∙ sym (length-map xs phrase_of))
    ∙ ap (λ b. book_after b (as_call f).notes) (el ∙ ap (λ gs. book_after k (actuals u gs (map phrase_of xs)).notes) ef) ∙ sym (call_notes k a.notes f.notes (if_sound f.node (λ v. sound (means.Call v))).notes)

-- what is left is judged: then the whole is
pub left_noted : (u : Around) (w : Where) (start at : Pos) (ps : List Phrase) (j : Judged Meant) (o p : Opened) (k l end : Notebook) → Leaves k j l (round_left u w start at ps o) → o ≡ p → end ≡ book_after l (round_left u w start at ps p).notes → end ≡ book_after k j.notes
left_noted u w start at ps j o p k l end h eo ee = ee ∙ ap (λ q. book_after l (round_left u w start at ps q).notes) (sym eo) ∙ sym h.1
