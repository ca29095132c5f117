-- A value that is made a call says nothing more.
use Rattle.std.proofs.Common.{◌≡◌, sym, ◌∙◌, Option, Some, None}
use Rattle.ob_rules.specs.declared.notes.Notebook.{Notebook}
use Rattle.ob_rules.specs.declared.values.Valued.{Valued}
use Rattle.ob_rules.specs.declared.meant.Meant.TheVariants as means
use Rattle.ob_rules.specs.Judged.{Judged, Notes, made, no_notes, joined, if_sound, sound}
use Rattle.ob_rules.specs.Books.{book_after}
use Rattle.ob_rules.proofs.BookLaws.{after_none, after_joined}

quiet : (b : Notebook) (n : Notes) → book_after b n ≡ book_after b (joined n no_notes)
quiet b n = sym (after_none (book_after b n)) ∙ after_joined b n no_notes

by_node : (b : Notebook) (n : Notes) (o : Option Valued) → book_after b n ≡ book_after b (joined n (if_sound o (λ v. sound (means.Call v))).notes)
by_node b n None = quiet b n
by_node b n (Some v) = quiet b n

pub as_call : (b : Notebook) (j : Judged Valued) → book_after b j.notes ≡ book_after b (made (λ v. means.Call v) j).notes
as_call b j = by_node b j.notes j.node
