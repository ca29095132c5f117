-- A constant expression: what is broken in it is set aside, and put back.
use Rattle.std.proofs.Common.{◌≡◌, sym, ap, ◌∙◌, Bool, Option, None}
use Rattle.ob_tree.specs.declared.pos.Pos.{Pos}
use Rattle.ob_types.specs.declared.value.Value.{Value}
use Rattle.ob_rules.specs.declared.notes.Notebook.{Notebook}
use Rattle.ob_rules.specs.declared.broken.Broken.{Broken}
use Rattle.ob_rules.specs.declared.values.Valued.{Valued}
use Rattle.ob_rules.specs.Judged.{Judged, Notes, is_quiet}
use Rattle.ob_rules.specs.Books.{book_after}
use Rattle.ob_rules.specs.Names.{Around}
use Rattle.ob_rules.specs.Phrases.{Phrase}
use Rattle.ob_rules.specs.Expressions.{constant_if, constant_value}
use Rattle.ob_rules.proofs.BookLaws.{after_joined}

pub constant_node : (u : Around) (p : Phrase) (start : Pos) (x : Option Valued) (quiet : Bool) (b k l : Notebook) (r : Option Value) → k ≡ record b { broken = None } → l ≡ book_after k (p.value u).notes → x ≡ (p.value u).node
    → ((c : Notebook) (n : Notes) → l ≡ book_after (record c { broken = None }) n → quiet ≡ is_quiet n.broken) → start ≡ p.start → r ≡ (constant_if start x quiet).node → r ≡ (constant_value u p).node
constant_node u p start x quiet b k l r ek el ex h es er =
    er ∙ ap (λ y. (constant_if y x quiet).node) es ∙ ap (λ y. (constant_if p.start y quiet).node) ex ∙ ap (λ y. (constant_if p.start (p.value u).node y).node) (h b (p.value u).notes (el ∙ ap (λ y. book_after y (p.value u).notes) ek))

pub constant_noted : (u : Around) (p : Phrase) (start : Pos) (x : Option Valued) (quiet : Bool) (before : Option Broken) (b k l m end : Notebook) → k ≡ record b { broken = None } → l ≡ book_after k (p.value u).notes → x ≡ (p.value u).node
    → ((c : Notebook) (n : Notes) → l ≡ book_after (record c { broken = None }) n → quiet ≡ is_quiet n.broken) → before ≡ b.broken
    → ((c : Notebook) (n : Notes) → l ≡ book_after (record c { broken = None }) n → before ≡ c.broken → m ≡ book_after c n) → start ≡ p.start → end ≡ book_after m (constant_if start x quiet).notes → end ≡ book_after b (constant_value u p).notes
constant_noted u p start x quiet before b k l m end ek el ex h eb f es ee =
    let after : l ≡ book_after (record b { broken = None }) (p.value u).notes = el ∙ ap (λ y. book_after y (p.value u).notes) ek in
    ee ∙ ap (λ y. book_after m (constant_if y x quiet).notes) es ∙ ap (λ y. book_after m (constant_if p.start y quiet).notes) ex ∙ ap (λ y. book_after m (constant_if p.start (p.value u).node y).notes) (h b (p.value u).notes after)
    ∙ ap (λ y. book_after y (constant_if p.start (p.value u).node (is_quiet (p.value u).notes.broken)).notes) (f b (p.value u).notes after eb) ∙ after_joined b (p.value u).notes (constant_if p.start (p.value u).node (is_quiet (p.value u).notes.broken)).notes
