-- The lengths of an array, in turn.
use Rattle.std.proofs.Common.{◌≡◌, ℕ, ◌+◌, List, [], ◌∷◌, ◌++◌, drop, map, sym, ap, ◌∙◌}
use Rattle.std.proofs.lemmas.List.{append_assoc}
use Rattle.std.specs.Prelude.{Option}
use Rattle.ob_tree.specs.declared.expr.Expr.{Expr}
use Rattle.ob_rules.specs.declared.notes.Notebook.{Notebook}
use Rattle.ob_rules.specs.Judged.{notes_of}
use Rattle.ob_rules.specs.Books.{book_after}
use Rattle.ob_rules.specs.Names.{Around}
use Rattle.ob_rules.specs.Expressions.{phrase_of}
use Rattle.ob_rules.specs.Types.{array_length}
use Rattle.ob_rules.proofs.BookLaws.{after_none, after_joined}
use Rattle.ob_cdecl_type.specs.Nested.{lengths_in}

pub more_lengths : (u : Around) (ls : List Expr) (i : ℕ) (e : Expr) (old new total : List (Option ℕ)) (n : Option ℕ) → drop i ls ≡ e ∷ drop (i + 1) ls → new ≡ old ++ n ∷ [] → n ≡ (array_length u (phrase_of e)).node → old ++ lengths_in u (map phrase_of (drop i ls)) ≡ total → new ++ lengths_in u (map phrase_of (drop (i + 1) ls)) ≡ total
more_lengths u ls i e old new total n step more is inv =
    ap (λ l. l ++ lengths_in u (map phrase_of (drop (i + 1) ls))) (more ∙ ap (λ x. old ++ x ∷ []) is)
    ∙ append_assoc old ((array_length u (phrase_of e)).node ∷ []) (lengths_in u (map phrase_of (drop (i + 1) ls)))
    ∙ ap (λ l. old ++ lengths_in u (map phrase_of l)) (sym step)
    ∙ inv

pub more_notes : (u : Around) (ls : List Expr) (i : ℕ) (e : Expr) (b c total : Notebook) → drop i ls ≡ e ∷ drop (i + 1) ls → c ≡ book_after b (array_length u (phrase_of e)).notes → book_after b (notes_of (map (array_length u) (map phrase_of (drop i ls)))) ≡ total → book_after c (notes_of (map (array_length u) (map phrase_of (drop (i + 1) ls)))) ≡ total
more_notes u ls i e b c total step is inv =
    ap (λ k. book_after k (notes_of (map (array_length u) (map phrase_of (drop (i + 1) ls))))) is
    ∙ after_joined b (array_length u (phrase_of e)).notes (notes_of (map (array_length u) (map phrase_of (drop (i + 1) ls))))
    ∙ ap (λ l. book_after b (notes_of (map (array_length u) (map phrase_of l)))) (sym step)
    ∙ inv

pub no_more_notes : (u : Around) (ls : List Expr) (b total : Notebook) → ls ≡ [] → book_after b (notes_of (map (array_length u) (map phrase_of ls))) ≡ total → b ≡ total
no_more_notes u ls b total e inv = sym (after_none b) ∙ ap (λ l. book_after b (notes_of (map (array_length u) (map phrase_of l)))) (sym e) ∙ inv
