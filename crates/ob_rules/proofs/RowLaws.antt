-- Parts side by side and in a row, as they are noted.
use Rattle.std.proofs.Common.{◌≡◌, refl, sym, ap, ◌∙◌, Option, Some, None}
use Rattle.ob_rules.specs.declared.notes.Notebook.{Notebook}
use Rattle.ob_rules.specs.Judged.{Judged, Notes, sound, silent, joined, no_notes, both, paired, if_sound, made, ◌▷◌}
use Rattle.ob_rules.specs.Books.{book_after}
use Rattle.ob_rules.proofs.BookLaws.{after_none, after_joined}

quiet : {A B : Type 0} (f : A → B) (b : Notebook) (o : Option A) → book_after b (if_sound o (λ x. sound (f x))).notes ≡ b
quiet f b None = after_none b
quiet f b (Some x) = after_none b

-- what is made of a part says nothing more
pub made_noted : {A B : Type 0} (f : A → B) (b : Notebook) (j : Judged A) → book_after b (j ▷ λ x. sound (f x)).notes ≡ book_after b j.notes
made_noted f b j = sym (after_joined b j.notes (if_sound j.node (λ x. sound (f x))).notes) ∙ quiet f (book_after b j.notes) j.node

-- two parts, of which something is made
pub both_noted : {A B C : Type 0} (f : A × B → C) (b : Notebook) (j : Judged A) (k : Judged B) → book_after b (both j k ▷ λ p. sound (f p)).notes ≡ book_after (book_after b j.notes) k.notes
both_noted f b j k = made_noted f b (both j k) ∙ sym (after_joined b j.notes k.notes)
