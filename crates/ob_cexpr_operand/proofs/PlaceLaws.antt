-- A place that is meant adds no notes.
use Rattle.std.proofs.Common.{◌≡◌, refl, sym, ap, ◌∙◌, Option, Some, None}
use Rattle.ob_rules.specs.declared.notes.Notebook.{Notebook}
use Rattle.ob_rules.specs.declared.values.Place.{Place}
use Rattle.ob_rules.specs.declared.meant.Meant.{Meant}
use Rattle.ob_rules.specs.declared.meant.Meant.TheVariants as means
use Rattle.ob_rules.specs.Judged.{Judged, joined, no_notes, sound, if_sound}
use Rattle.ob_rules.specs.Books.{book_after}
use Rattle.ob_rules.proofs.BookLaws.{after_none, after_joined}

adds_none : (o : Option Place) → (if_sound {B = Meant} o (λ q. sound (means.Place q))).notes ≡ no_notes
adds_none None = refl
adds_none (Some q) = refl

pub then_meant : (j : Judged Place) (b c : Notebook) → c ≡ book_after b j.notes → c ≡ book_after b (joined j.notes (if_sound {B = Meant} j.node (λ q. sound (means.Place q))).notes)
then_meant j b c e = e ∙ sym (after_none (book_after b j.notes)) ∙ after_joined b j.notes no_notes ∙ ap (λ n. book_after b (joined j.notes n)) (sym (adds_none j.node))
