-- Calls without parameters, as statements.
use Rattle.std.proofs.Common.{◌≡◌, refl, sym, ap, ◌∙◌, subst, [], ◌∷◌, Bool, true, false, Option, Some, None, Result, IfOk, OnOk}
use Rattle.ob_tree.specs.declared.pos.Pos.{Pos}
use Rattle.ob_rules.specs.declared.broken.Predeclared.{Predeclared}
use Rattle.ob_rules.specs.declared.broken.Predeclared.TheVariants as pre
use Rattle.ob_rules.specs.declared.meant.Chosen.{Chosen}
use Rattle.ob_rules.specs.declared.meant.Meant.TheVariants as means
use Rattle.ob_rules.specs.declared.meant.Where.TheVariants.{AsStatement}
use Rattle.ob_rules.specs.declared.notes.Notebook.{Notebook}
use Rattle.ob_rules.specs.declared.values.Valued.{Valued}
use Rattle.ob_rules.specs.declared.broken.Rule.TheVariants as rule
use Rattle.ob_rules.specs.declared.broken.Rule.{Rule}
use Rattle.ob_rules.specs.Judged.{Judged, Notes, if_sound, joined, no_notes, notes_if, broken_at, also, ◌▷◌}
use Rattle.ob_rules.specs.Books.{book_after}
use Rattle.ob_rules.specs.Names.{Around}
use Rattle.ob_rules.specs.Calls as calls
use Rattle.ob_types_trees.specs.declared.stmt.StmtTree.{StmtTree}
use Rattle.ob_cstmt_parts.specs.Seen.{stmt_in}
use Rattle.ob_rules.specs.Designators.{as_call, call_meant}
use Rattle.ob_rules.specs.Predeclared.{is_function}
use Rattle.ob_rules.specs.Statements.{done, call_value}
use Rattle.ob_rules.proofs.BookLaws.{after_none, after_joined}

-- a call is a statement
pub done_made : (j : Judged Valued) → (as_call j ▷ done).node ≡ (if_sound j.node (λ x. call_value x)).node
done_made j = of_node j.node
  where
    of_node : (o : Option Valued) → (as_call (record { node = o; notes = j.notes }) ▷ done).node ≡ (if_sound o (λ x. call_value x)).node
    of_node None = refl
    of_node (Some x) = refl

quiet : (o : Option Valued) (n : Notes) (k : Notebook) → book_after k (as_call (record { node = o; notes = n }) ▷ done).notes ≡ book_after k n
quiet None n k = sym (after_joined k (joined n no_notes) no_notes) ∙ after_none (book_after k (joined n no_notes)) ∙ sym (after_joined k n no_notes) ∙ after_none (book_after k n)
quiet (Some x) n k = sym (after_joined k (joined n no_notes) no_notes) ∙ after_none (book_after k (joined n no_notes)) ∙ sym (after_joined k n no_notes) ∙ after_none (book_after k n)

pub done_noted : (j : Judged Valued) (k : Notebook) → book_after k (as_call j ▷ done).notes ≡ book_after k j.notes
done_noted j k = quiet j.node j.notes k

value_quiet : (o : Option Valued) (n : Notes) (k : Notebook) → book_after k (record { node = o; notes = n } ▷ call_value).notes ≡ book_after k n
value_quiet None n k = sym (after_joined k n no_notes) ∙ after_none (book_after k n)
value_quiet (Some x) n k = sym (after_joined k n no_notes) ∙ after_none (book_after k n)

pub value_noted : (j : Judged Valued) (k : Notebook) → book_after k (j ▷ call_value).notes ≡ book_after k j.notes
value_noted j k = value_quiet j.node j.notes k

-- a predeclared procedure without parameters
pub predeclared_is : (u : Around) (at : Pos) (f : Predeclared) → call_meant u AsStatement at (means.Predeclared f) [] ≡ record { node = None; notes = joined (notes_if (is_function f) rule.MisplacedCall at) (broken_at rule.UnfitPredeclaredParameters at) }
predeclared_is u at pre.Abs = refl
predeclared_is u at f = refl

-- nothing more is said behind it
pub silent_noted : (k : Notebook) (n : Notes) → book_after k n ≡ book_after k (joined n no_notes)
silent_noted k n = sym (after_none (book_after k n)) ∙ after_joined k n no_notes

-- a rule that is broken besides
pub also_noted : {A : Type 0} (b : Bool) (which : Rule) (at : Pos) (j : Judged A) (k : Notebook) → book_after (book_after k (notes_if b which at)) j.notes ≡ book_after k (also b which at j).notes
also_noted true which at j k = after_joined k (broken_at which at) j.notes
also_noted false which at j k = ap (λ x. book_after x j.notes) (after_none k)

-- a call of a bound procedure, of whether its nearest declaration is sound
pub bound_made : {E : Type 0} (r : Result (Option StmtTree) E) (u : Around) (at : Pos) (c : Chosen) (b : Bool) → b ≡ calls.nearest_sound u 201 (calls.where_from c c.base) c.method.name
    → IfOk r (λ x. stmt_in x ≡ (as_call (calls.call_bound_sound b u AsStatement at c []) ▷ done).node)
    → IfOk r (λ x. stmt_in x ≡ (call_meant u AsStatement at (means.Bound c) [] ▷ done).node)
bound_made r u at c b e h = subst (λ z. IfOk r (λ x. stmt_in x ≡ (as_call (calls.call_bound_sound z u AsStatement at c []) ▷ done).node)) e h

pub bound_noted : {T E : Type 0} (r : Result T E) (u : Around) (at : Pos) (c : Chosen) (b : Bool) (k l : Notebook) → b ≡ calls.nearest_sound u 201 (calls.where_from c c.base) c.method.name
    → OnOk r (l ≡ book_after k (as_call (calls.call_bound_sound b u AsStatement at c []) ▷ done).notes)
    → OnOk r (l ≡ book_after k (call_meant u AsStatement at (means.Bound c) [] ▷ done).notes)
bound_noted r u at c b k l e h = subst (λ z. OnOk r (l ≡ book_after k (as_call (calls.call_bound_sound z u AsStatement at c []) ▷ done).notes)) e h
