-- Parts in a row, each judged by itself.
use Rattle.std.proofs.Common.{◌≡◌, refl, sym, ap, ◌∙◌, ℕ, ◌+◌, ◌<◌, List, [], ◌∷◌, ◌++◌, append_assoc, Option, Some, None, Result, Ok, Err, OnOk}
use Rattle.std.proofs.lemmas.List.{append-nil}
use Rattle.ob_rules.specs.declared.notes.Notebook.{Notebook}
use Rattle.ob_rules.specs.Judged.{Judged, Notes, joined, no_notes, noted, if_sound, both, paired, made, each_sound, sound, ◌▷◌}
use Rattle.ob_rules.specs.Books.{book_after}
use Rattle.ob_rules.proofs.BookLaws.{after_none, after_joined}
use Rattle.ob_cexpr_operand.specs.Plain.{onto, alone}

nothing : {A B : Type 0} (f : A → B) (b : Notebook) (o : Option A) → book_after b (if_sound o (λ x. sound (f x))).notes ≡ b
nothing f b None = after_none b
nothing f b (Some x) = after_none b

pub made_notes : {A B : Type 0} (f : A → B) (j : Judged A) (b : Notebook) → book_after b (made f j).notes ≡ book_after b j.notes
made_notes f j b = sym (after_joined b j.notes (if_sound j.node (λ x. sound (f x))).notes) ∙ nothing f (book_after b j.notes) j.node

pub onto_nothing : {A : Type 0} (o : Option (List A)) → onto (Some []) o ≡ o
onto_nothing None = refl
onto_nothing (Some xs) = refl

pub onto_end : {A : Type 0} (o : Option (List A)) → onto o (Some []) ≡ o
onto_end None = refl
onto_end (Some xs) = ap Some (append-nil xs)

onto_assoc : {A : Type 0} (x y z : Option (List A)) → onto (onto x y) z ≡ onto x (onto y z)
onto_assoc None y z = refl
onto_assoc (Some x) None z = refl
onto_assoc (Some x) (Some y) None = refl
onto_assoc (Some x) (Some y) (Some z) = ap Some (append_assoc x y z)

first_node : {A : Type 0} (a : Option A) (r : Option (List A)) → (if_sound (paired a r) (λ p. sound (p.0 ∷ p.1))).node ≡ onto (alone a) r
first_node None r = refl
first_node (Some x) None = refl
first_node (Some x) (Some xs) = refl

pub row_notes : {A : Type 0} (a : Judged A) (rest : List (Judged A)) (b : Notebook) → book_after b (each_sound (a ∷ rest)).notes ≡ book_after (book_after b a.notes) (each_sound rest).notes
row_notes a rest b = made_notes (λ p. p.0 ∷ p.1) (both a (each_sound rest)) b ∙ sym (after_joined b a.notes (each_sound rest).notes)

-- one more of a row
pub row_step : {A : Type 0} (a : Judged A) (rest : List (Judged A)) (x y : Option (List A)) (k l : Notebook) (whole : Option (List A)) (end : Notebook)
    → y ≡ onto x (alone a.node) → l ≡ book_after k a.notes → whole ≡ onto x (each_sound (a ∷ rest)).node → end ≡ book_after k (each_sound (a ∷ rest)).notes
    → (whole ≡ onto y (each_sound rest).node) × (end ≡ book_after l (each_sound rest).notes)
row_step a rest x y k l whole end ey el ew ee = (
  ew ∙ ap (onto x) (first_node a.node (each_sound rest).node) ∙ sym (onto_assoc x (alone a.node) (each_sound rest).node) ∙ ap (λ o. onto o (each_sound rest).node) (sym ey),
  ee ∙ row_notes a rest k ∙ ap (λ b. book_after b (each_sound rest).notes) (sym el),
)

-- one more of a row that is split so
pub row_goes : {A : Type 0} (a : Judged A) (rest all : List (Judged A)) (x y : Option (List A)) (v : Option A) (k l : Notebook) (whole : Option (List A)) (end : Notebook)
    → all ≡ a ∷ rest → v ≡ a.node → l ≡ book_after k a.notes → y ≡ onto x (alone v) → whole ≡ onto x (each_sound all).node → end ≡ book_after k (each_sound all).notes
    → (whole ≡ onto y (each_sound rest).node) × (end ≡ book_after l (each_sound rest).notes)
row_goes a rest all x y v k l whole end split ev el ey ew ee =
    row_step a rest x y k l whole end (ey ∙ ap (λ o. onto x (alone o)) ev) el (ew ∙ ap (λ js. onto x (each_sound js).node) split) (ee ∙ ap (λ js. book_after k (each_sound js).notes) split)

-- none is left of it
pub row_ends : {A : Type 0} (all : List (Judged A)) (x : Option (List A)) (whole : Option (List A)) → all ≡ [] → whole ≡ onto x (each_sound all).node → x ≡ whole
row_ends all x whole split ew = sym (ew ∙ ap (λ js. onto x (each_sound js).node) split ∙ onto_end x)

pub row_ends_noted : {A : Type 0} (all : List (Judged A)) (k end : Notebook) → all ≡ [] → end ≡ book_after k (each_sound all).notes → k ≡ end
row_ends_noted all k end split ee = sym (ee ∙ ap (λ js. book_after k (each_sound js).notes) split ∙ after_none k)

pub on_ok_from : {T E P : Type 0} (r : Result T E) → P → OnOk r P
on_ok_from (Ok x) p = p
on_ok_from (Err e) p = tt
