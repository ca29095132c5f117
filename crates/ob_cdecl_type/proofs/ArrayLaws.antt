-- Arrays of fixed lengths: first the lengths are judged, then the element.
use Rattle.std.proofs.Common.{◌≡◌, ℕ, List, [], ◌∷◌, map, Option, Some, None, false, refl, sym, ap, ◌∙◌}
use Rattle.ob_tree.specs.declared.ident.Mark.{Mark}
use Rattle.ob_tree.specs.declared.ident.Mark.TheVariants as mark
use Rattle.ob_rules.specs.declared.notes.Notebook.{Notebook}
use Rattle.ob_rules.specs.Judged.{joined, no_notes, notes_of}
use Rattle.ob_rules.specs.Books.{book_after}
use Rattle.ob_rules.specs.Names.{Around}
use Rattle.ob_rules.specs.Phrases.{Phrase}
use Rattle.ob_rules.specs.Types.{Typing, Written, array_length, fixed_array, element_name}
use Rattle.ob_rules.proofs.BookLaws.{after_none, after_joined}
use Rattle.ob_cdecl_type.specs.Nested.{array_judged, arrays, deep_name, lengths_in}

array_quiet : (u : Around) (name : List ℕ) (m : Mark) (l : Option ℕ) (t : Option Typing) → (array_judged u name m l t).notes ≡ no_notes
array_quiet u name m None t = refl
array_quiet u name m (Some n) None = refl
array_quiet u name m (Some n) (Some t) = refl

pub fixed_node : (u : Around) (name : List ℕ) (ls : List Phrase) (w : Written) → (fixed_array u name mark.Hidden ls w).node ≡ arrays u name (lengths_in u ls) (w.typing u (deep_name name ls) mark.Hidden false).node
fixed_node u name [] w = refl
fixed_node u name (l ∷ ls) w = ap (λ t. (array_judged u name mark.Hidden (array_length u l).node t).node) (fixed_node u (element_name name) ls w)

-- the first length, and then the rest
pub fixed_first : (b : Notebook) (u : Around) (name : List ℕ) (m : Mark) (l : Phrase) (ls : List Phrase) (w : Written) → book_after (book_after b (array_length u l).notes) (fixed_array u (element_name name) mark.Hidden ls w).notes ≡ book_after b (fixed_array u name m (l ∷ ls) w).notes
fixed_first b u name m l ls w =
    let first = (array_length u l).notes in
    let rest = (fixed_array u (element_name name) mark.Hidden ls w).notes in
    let last = array_quiet u name m (array_length u l).node (fixed_array u (element_name name) mark.Hidden ls w).node in
    after_joined b first rest ∙ sym (ap (λ n. book_after b (joined (joined first rest) n)) last ∙ sym (after_joined b (joined first rest) no_notes) ∙ after_none (book_after b (joined first rest)))

pub fixed_notes : (b : Notebook) (u : Around) (name : List ℕ) (ls : List Phrase) (w : Written) → book_after (book_after b (notes_of (map (array_length u) ls))) (w.typing u (deep_name name ls) mark.Hidden false).notes ≡ book_after b (fixed_array u name mark.Hidden ls w).notes
fixed_notes b u name [] w = ap (λ c. book_after c (w.typing u name mark.Hidden false).notes) (after_none b)
fixed_notes b u name (l ∷ ls) w =
    ap (λ c. book_after c (w.typing u (deep_name (element_name name) ls) mark.Hidden false).notes) (sym (after_joined b (array_length u l).notes (notes_of (map (array_length u) ls))))
    ∙ fixed_notes (book_after b (array_length u l).notes) u (element_name name) ls w
    ∙ fixed_first b u name mark.Hidden l ls w
