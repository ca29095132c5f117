-- Assignments of their parts.
use Rattle.std.proofs.Common.{◌≡◌, ap, ◌∙◌, Option, Result, Ok, Err, OnOk}
use Rattle.ob_tree.specs.declared.pos.Pos.{Pos}
use Rattle.ob_rules.specs.declared.meant.Where.TheVariants.{Elsewhere}
use Rattle.ob_rules.specs.declared.notes.Notebook.{Notebook}
use Rattle.ob_rules.specs.declared.values.Place.{Place}
use Rattle.ob_rules.specs.declared.values.Valued.{Valued}
use Rattle.ob_rules.specs.Judged.{Judged, joined, both, paired, if_sound, ◌▷◌}
use Rattle.ob_rules.specs.Names.{Around, map_of}
use Rattle.ob_rules.specs.Shapes.{Map}
use Rattle.ob_rules.specs.Books.{book_after}
use Rattle.ob_rules.specs.Phrases.{Phrase}
use Rattle.ob_rules.specs.Expressions.{Named, meant_by}
use Rattle.ob_rules.specs.Statements as spec
use Rattle.ob_rules.proofs.BookLaws.{after_joined}

-- what is said of two parts and of what they come to
parts_noted : {A B C : Type 0} (f : A × B → Judged C) (p : Judged A) (x : Judged B) (place : Option A) (v : Option B) (k k1 k2 l : Notebook)
    → place ≡ p.node → k1 ≡ book_after k p.notes → v ≡ x.node → k2 ≡ book_after k1 x.notes → l ≡ book_after k2 (if_sound (paired place v) f).notes
    → l ≡ book_after k (both p x ▷ f).notes
parts_noted f p x place v k k1 k2 l ep e1 ev e2 h =
    h
    ∙ ap (λ o. book_after k2 (if_sound (paired o v) f).notes) ep
    ∙ ap (λ o. book_after k2 (if_sound (paired p.node o) f).notes) ev
    ∙ ap (λ z. book_after z (if_sound (paired p.node x.node) f).notes) (e2 ∙ ap (λ z. book_after z x.notes) e1 ∙ after_joined k p.notes x.notes)
    ∙ after_joined k (joined p.notes x.notes) (if_sound (paired p.node x.node) f).notes

pub assignment_noted : {T E : Type 0} (r : Result T E) (u : Around) (n : Named) (at : Pos) (x : Phrase) (m : Map) (place : Option Place) (v : Option Valued) (k k1 k2 l : Notebook)
    → m ≡ map_of u → place ≡ (meant_by Elsewhere n u ▷ λ y. spec.target n.ident.pos y).node → k1 ≡ book_after k (meant_by Elsewhere n u ▷ λ y. spec.target n.ident.pos y).notes
    → v ≡ (x.value u).node → k2 ≡ book_after k1 (x.value u).notes
    → OnOk r (l ≡ book_after k2 (if_sound (paired place v) (λ p. spec.assigns m at p.0 p.1)).notes)
    → OnOk r (l ≡ book_after k (spec.assignment u n at x).notes)
assignment_noted (Err e) u n at x m place v k k1 k2 l em ep e1 ev e2 h = tt
assignment_noted (Ok y) u n at x m place v k k1 k2 l em ep e1 ev e2 h =
    parts_noted (λ p. spec.assigns (map_of u) at p.0 p.1) (meant_by Elsewhere n u ▷ λ z. spec.target n.ident.pos z) (x.value u) place v k k1 k2 l ep e1 ev e2
    (h ∙ ap (λ z. book_after k2 (if_sound (paired place v) (λ p. spec.assigns z at p.0 p.1)).notes) em)
