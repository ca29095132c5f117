-- MAX and MIN with more than one parameter, or with none.
use denote.Param.Weighed.{most}
use Rattle.std.proofs.Common.{◌≡◌, sym, ap, subst, ◌∙◌, ℕ, ◌-◌, ◌<◌, ◌≤◌, Bool, true, List, [], ◌∷◌, Option, Some, None, map, take, drop, length, get_or, arith}
use Rattle.std.proofs.lemmas.List.{take_rest}
use Rattle.ob_tree.specs.declared.pos.Pos.{Pos}
use Rattle.ob_tree.specs.declared.expr.Expr.{Expr}
use Rattle.ob_types.specs.declared.types.TypeRef.{TypeRef}
use Rattle.ob_rules.specs.declared.notes.Notebook.{Notebook}
use Rattle.ob_rules.specs.declared.values.Valued.{Valued}
use Rattle.ob_rules.specs.declared.meant.Meant.{Meant}
use Rattle.ob_rules.specs.declared.meant.Where.{Where}
use Rattle.ob_rules.specs.declared.meant.Asked.TheVariants as asked
use Rattle.ob_rules.specs.declared.broken.Rule.TheVariants as rule
use Rattle.ob_rules.specs.Judged.{Judged, if_sound, also, breaks, each_sound, ◌▷◌}
use Rattle.ob_rules.specs.Books.{book_after}
use Rattle.ob_rules.specs.Names.{Around}
use Rattle.ob_rules.specs.Phrases.{Phrase}
use Rattle.ob_rules.specs.Calls.{misplaced}
use Rattle.ob_rules.specs.Predeclared.{type_parameter, extreme_call, values}
use Rattle.ob_rules.specs.Expressions.{phrase_of}
use Rattle.ob_cexpr_arguments.specs.Arguments.{parameters_asked}
use Rattle.ob_cexpr_arguments.proofs.ArgumentLaws.{values_asked}
use Rattle.ob_cexpr_arguments.proofs.JudgedLaws.{then_node, then_noted}
use Rattle.ob_cexpr.specs.Plain.{further_of}

-- with parameters that are sound
abbrev too_many : Where → Pos → List Valued → Judged Meant
too_many w at xs = also (misplaced w true) rule.MisplacedCall at (breaks rule.UnfitPredeclaredParameters at)

-- behind the first: these are judged already
pub further_node : (u : Around) (w : Where) (at : Pos) (ps : List Phrase) (first : Option (Option TypeRef)) (t : Option TypeRef) (row : Option (List Valued)) (r : Option Meant)
    → first ≡ Some t → row ≡ (each_sound (parameters_asked u asked.Value asked.Value ps)).node → r ≡ (if_sound row (too_many w at)).node → r ≡ (further_of u w at ps first).node
further_node u w at ps first t row r is ew er =
    then_node (each_sound (values u ps)) (too_many w at) row r (ew ∙ ap (λ vs. (each_sound vs).node) (sym (values_asked u ps))) er ∙ ap (λ o. (further_of u w at ps o).node) (sym is)

pub further_noted : (u : Around) (w : Where) (at : Pos) (ps : List Phrase) (first : Option (Option TypeRef)) (t : Option TypeRef) (row : Option (List Valued)) (k l end : Notebook)
    → first ≡ Some t → row ≡ (each_sound (parameters_asked u asked.Value asked.Value ps)).node → l ≡ book_after k (each_sound (parameters_asked u asked.Value asked.Value ps)).notes
    → end ≡ book_after l (if_sound row (too_many w at)).notes → end ≡ book_after k (further_of u w at ps first).notes
further_noted u w at ps first t row k l end is ew el ee =
    let asks = sym (values_asked u ps) in
    then_noted (each_sound (values u ps)) (too_many w at) row k l end (ew ∙ ap (λ vs. (each_sound vs).node) asks) (el ∙ ap (λ vs. book_after k (each_sound vs).notes) asks) ee ∙ ap (λ o. book_after k (further_of u w at ps o).notes) (sym is)

-- with the first, which comes to t
pub too_many_node : (max : Bool) (u : Around) (w : Where) (at : Pos) (xs : List Expr) (x : Expr) (behind : List Expr) (t : Option (Option TypeRef)) (r : Option Meant) → 2 ≤ length xs → x ≡ get_or xs 0 x → behind ≡ drop 1 xs
    → t ≡ (type_parameter u (phrase_of x) (phrase_of x).name).node → r ≡ (further_of u w at (map phrase_of behind) t).node → r ≡ (extreme_call max u w at (map phrase_of xs)).node
too_many_node max u w at [] x behind t r h is rest et er = absurd (omega arith)
too_many_node max u w at (y ∷ []) x behind t r h is rest et er = absurd (omega arith)
too_many_node max u w at (y ∷ z ∷ zs) x behind t r h is rest et er =
    then_node (type_parameter u (phrase_of y) (phrase_of y).name) (λ s. each_sound (values u (map phrase_of (z ∷ zs))) ▷ too_many w at) t r
    (et ∙ ap (λ e. (type_parameter u (phrase_of e) (phrase_of e).name).node) is) (er ∙ ap (λ es. (further_of u w at (map phrase_of es) t).node) rest)

pub too_many_noted : (max : Bool) (u : Around) (w : Where) (at : Pos) (xs : List Expr) (x : Expr) (behind : List Expr) (t : Option (Option TypeRef)) (k l end : Notebook) → 2 ≤ length xs → x ≡ get_or xs 0 x → behind ≡ drop 1 xs
    → t ≡ (type_parameter u (phrase_of x) (phrase_of x).name).node → l ≡ book_after k (type_parameter u (phrase_of x) (phrase_of x).name).notes
    → end ≡ book_after l (further_of u w at (map phrase_of behind) t).notes → end ≡ book_after k (extreme_call max u w at (map phrase_of xs)).notes
too_many_noted max u w at [] x behind t k l end h is rest et el ee = absurd (omega arith)
too_many_noted max u w at (y ∷ []) x behind t k l end h is rest et el ee = absurd (omega arith)
too_many_noted max u w at (y ∷ z ∷ zs) x behind t k l end h is rest et el ee =
    then_noted (type_parameter u (phrase_of y) (phrase_of y).name) (λ s. each_sound (values u (map phrase_of (z ∷ zs))) ▷ too_many w at) t k l end
    (et ∙ ap (λ e. (type_parameter u (phrase_of e) (phrase_of e).name).node) is) (el ∙ ap (λ e. book_after k (type_parameter u (phrase_of e) (phrase_of e).name).notes) is) (ee ∙ ap (λ es. book_after l (further_of u w at (map phrase_of es) t).notes) rest)

-- with none at all
pub no_parameter_node : (max : Bool) (u : Around) (w : Where) (at : Pos) (xs : List Expr) (r : Option Meant) → length xs < 1 → r ≡ (further_of u w at (map phrase_of xs) (Some None)).node → r ≡ (extreme_call max u w at (map phrase_of xs)).node
no_parameter_node max u w at [] r h er = er
no_parameter_node max u w at (y ∷ ys) r h er = absurd (omega arith)

pub no_parameter_noted : (max : Bool) (u : Around) (w : Where) (at : Pos) (xs : List Expr) (k end : Notebook) → length xs < 1 → end ≡ book_after k (further_of u w at (map phrase_of xs) (Some None)).notes → end ≡ book_after k (extreme_call max u w at (map phrase_of xs)).notes
no_parameter_noted max u w at [] k end h ee = ee
no_parameter_noted max u w at (y ∷ ys) k end h ee = absurd (omega arith)

-- what stands behind the first is no deeper
most_behind : {A : Type 0} (μ : A → ℕ) (xs : List A) → most μ (drop 1 xs) ≤ most μ xs
most_behind μ [] = omega arith
most_behind μ (x ∷ xs) = omega arith

pub most_rest : {A : Type 0} (μ : A → ℕ) (xs : List A) → most μ (take (length xs - 1) (drop 1 xs)) ≤ most μ xs
most_rest μ xs = subst (λ ys. most μ ys ≤ most μ xs) (sym (take_rest xs 1)) (most_behind μ xs)
