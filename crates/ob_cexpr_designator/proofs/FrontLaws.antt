-- A name at the front, and what is said of it.
use Rattle.std.proofs.Common.{◌≡◌, sym, ap, ◌∙◌, Option, Some, None}
use Rattle.ob_rules.specs.declared.notes.Notebook.{Notebook}
use Rattle.ob_rules.specs.Judged.{Judged, Notes, joined, no_notes, if_sound, made, sound, ◌▷◌}
use Rattle.ob_rules.specs.Books.{book_after}
use Rattle.ob_rules.proofs.BookLaws.{after_none, after_joined}

quiet : {A B : Type 0} (k : Notebook) (n : Notes) (o : Option A) (f : A → B) → book_after k (joined n (if_sound o (λ x. sound (f x))).notes) ≡ book_after k n
quiet k n None f = sym (after_joined k n no_notes) ∙ after_none (book_after k n)
quiet k n (Some x) f = sym (after_joined k n no_notes) ∙ after_none (book_after k n)

-- what a name says, and then what is said of what it stands for
pub front_noted : {K M F : Type 0} (n : Judged K) (k : K) (f : K → Judged M) (g : K → M → F) (b c d : Notebook) → Some k ≡ n.node → c ≡ book_after b n.notes → d ≡ book_after c (f k).notes
    → d ≡ book_after b (n ▷ λ e. made (λ m. g e m) (f e)).notes
front_noted n k f g b c d en ec ed =
    ed ∙ sym (quiet c (f k).notes (f k).node (λ m. g k m)) ∙ ap (λ y. book_after y (made (λ m. g k m) (f k)).notes) ec
    ∙ after_joined b n.notes (made (λ m. g k m) (f k)).notes ∙ ap (λ o. book_after b (joined n.notes (if_sound o (λ e. made (λ m. g e m) (f e))).notes)) en
