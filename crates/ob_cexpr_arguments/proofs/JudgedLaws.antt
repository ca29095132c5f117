-- What is left to say of a part.
use Rattle.std.proofs.Common.{◌≡◌, refl, sym, ap, ◌∙◌, Bool, true, false, Option, Some, None}
use Rattle.ob_tree.specs.declared.pos.Pos.{Pos}
use Rattle.ob_rules.specs.declared.notes.Notebook.{Notebook}
use Rattle.ob_rules.specs.declared.values.Valued.{Valued}
use Rattle.ob_rules.specs.declared.meant.Meant.TheVariants as means
use Rattle.ob_rules.specs.declared.broken.Rule.{Rule}
use Rattle.ob_rules.specs.Judged.{Judged, Notes, if_sound, made, sound, silent, also, ◌▷◌}
use Rattle.ob_rules.specs.Designators.{as_call}
use Rattle.ob_rules.specs.Books.{book_after}
use Rattle.ob_rules.proofs.BookLaws.{after_none, after_joined}
use Rattle.ob_cexpr_operand.specs.Plain.{plain}
use Rattle.ob_cexpr_arguments.specs.Rounds.{Leaves, muted}

-- what is made of a part says nothing more
pub made_quiet : {A B : Type 0} (f : A → B) (o : Option A) (k : Notebook) → book_after k (if_sound o (λ x. sound (f x))).notes ≡ k
made_quiet f None k = after_none k
made_quiet f (Some x) k = after_none k

pub made_notes : {A B : Type 0} (f : A → B) (j : Judged A) (k : Notebook) → book_after k (made f j).notes ≡ book_after k j.notes
made_notes f j k = sym (after_joined k j.notes (if_sound j.node (λ x. sound (f x))).notes) ∙ made_quiet f j.node (book_after k j.notes)

pub call_quiet : (j : Judged Valued) (k : Notebook) → book_after k j.notes ≡ book_after k (as_call j).notes
call_quiet j k = sym (made_notes means.Call j k)

-- nothing is said where nothing stands
pub silent_node : {A B : Type 0} (o : Option A) → None ≡ (if_sound {B = B} o (λ x. silent)).node
silent_node None = refl
silent_node (Some x) = refl

pub silent_noted : {A : Type 0} (o : Option A) (k : Notebook) → k ≡ book_after k (if_sound {B = Valued} o (λ x. silent)).notes
silent_noted None k = sym (after_none k)
silent_noted (Some x) k = sym (after_none k)

-- what is judged, unless a rule is broken besides
pub muted_node : {A : Type 0} (b : Bool) (rule : Rule) (at : Pos) (n : Notes) (j : Judged A) (x r : Option A) → x ≡ j.node → r ≡ (also b rule at (record { node = x; notes = n })).node → r ≡ (muted b j).node
muted_node true rule at n j x r ex er = er
muted_node false rule at n j x r ex er = er ∙ ex

pub muted_noted : {A : Type 0} (b : Bool) (j : Judged A) (k l : Notebook) → l ≡ book_after k j.notes → l ≡ book_after k (muted b j).notes
muted_noted true j k l h = h
muted_noted false j k l h = h

-- the part itself, where its notes are written down
pub plain_left : {A : Type 0} (j : Judged A) (k : Notebook) → Leaves k j (book_after k j.notes) (plain j.node)
plain_left j k = (refl, sym (after_none (book_after k j.notes)))

-- what stands on it
pub then_left : {A B : Type 0} (i j : Judged A) (f : A → Judged B) (k l : Notebook) → Leaves k i l j → Leaves k (i ▷ f) l (j ▷ f)
then_left i j f k l h = (
  ap (λ o. (if_sound o f).node) h.0,
  sym (after_joined k i.notes (if_sound i.node f).notes) ∙ ap (λ b. book_after b (if_sound i.node f).notes) h.1 ∙ ap (λ o. book_after (book_after l j.notes) (if_sound o f).notes) h.0 ∙ after_joined l j.notes (if_sound j.node f).notes,
)

-- a part that is judged whole
pub whole_left : {A : Type 0} (j : Judged A) (x : Option A) (k l : Notebook) → x ≡ j.node → l ≡ book_after k j.notes → Leaves k j l (plain x)
whole_left j x k l ex el = (sym ex, sym el ∙ sym (after_none l))

-- what stands on what is left is judged: then the whole is
pub then_node : {A B : Type 0} (j : Judged A) (f : A → Judged B) (x : Option A) (r : Option B) → x ≡ j.node → r ≡ (if_sound x f).node → r ≡ (j ▷ f).node
then_node j f x r ex er = er ∙ ap (λ o. (if_sound o f).node) ex

pub then_noted : {A B : Type 0} (j : Judged A) (f : A → Judged B) (x : Option A) (k l end : Notebook) → x ≡ j.node → l ≡ book_after k j.notes → end ≡ book_after l (if_sound x f).notes → end ≡ book_after k (j ▷ f).notes
then_noted j f x k l end ex el ee =
    ee ∙ ap (λ o. book_after l (if_sound o f).notes) ex ∙ ap (λ b. book_after b (if_sound j.node f).notes) el ∙ after_joined k j.notes (if_sound j.node f).notes
