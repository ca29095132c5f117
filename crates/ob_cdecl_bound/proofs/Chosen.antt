-- Which headings are bound, and in which order.
use Rattle.std.proofs.Common.{◌≡◌, ℕ, Bool, true, false, List, [], ◌∷◌, ◌++◌, map, refl, sym, ap, ◌∙◌, cond}
use Rattle.std.specs.Prelude.{◌&&◌, reverse}
use Rattle.std.specs.List.{filter}
use Rattle.std.proofs.lemmas.List.{reverse-append, reverse-reverse}
use Rattle.ob_types.specs.declared.typed.TypedType.{TypedType}
use Rattle.ob_rules.specs.declared.notes.Notebook.{Notebook}
use Rattle.ob_rules.specs.Books.{book_after}
use Rattle.ob_rules.specs.Judged.{Notes, no_notes}
use Rattle.ob_rules.specs.Names.{Around}
use Rattle.ob_rules.specs.Headings.{Head, Binding, bind_one, bind_all, bind_records, bindings, counts, counted, of_record, reversed}
use Rattle.ob_rules.specs.Declarations.{with_bound}
use Rattle.ob_rules.proofs.BookLaws.{after_none}
use Rattle.ob_cdecl_bound.specs.Running.{run, start, put, one_if, chosen, record_bound}
use Rattle.ob_cdecl_bound.proofs.Rebasing.{Follows, run_rebases, record_rebases}

chosen_all : (all : List Head) (name : List ℕ) (u : Around) (hs : List Head) (s : Binding) → run (chosen all name) u s hs ≡ bind_all u s (filter (of_record name) (filter (counts all) hs))
chosen_all all name u [] s = refl
chosen_all all name u (h ∷ hs) s = counts_or (counts all h) (λ k. chosen_all all name u hs k)
  where
    of_or : (q : Bool) → ((k : Binding) → run (chosen all name) u k hs ≡ bind_all u k (filter (of_record name) (filter (counts all) hs))) → run (chosen all name) u (one_if (q && true) u s h) hs ≡ bind_all u s (cond q (h ∷ filter (of_record name) (filter (counts all) hs)) (filter (of_record name) (filter (counts all) hs)))
    of_or true r = r (bind_one u s h h.bound)
    of_or false r = r s

    of_none : (q : Bool) → ((k : Binding) → run (chosen all name) u k hs ≡ bind_all u k (filter (of_record name) (filter (counts all) hs))) → run (chosen all name) u (one_if (q && false) u s h) hs ≡ bind_all u s (filter (of_record name) (filter (counts all) hs))
    of_none true r = r s
    of_none false r = r s

    counts_or : (p : Bool) → ((k : Binding) → run (chosen all name) u k hs ≡ bind_all u k (filter (of_record name) (filter (counts all) hs))) → run (chosen all name) u (one_if (of_record name h && p) u s h) hs ≡ bind_all u s (filter (of_record name) (cond p (h ∷ filter (counts all) hs) (filter (counts all) hs)))
    counts_or true r = of_or (of_record name h) r
    counts_or false r = of_none (of_record name h) r

records_all : (u : Around) (hs : List Head) (s : Binding) (ts : List TypedType) → run (record_bound hs) u s (map (λ t. t.name) ts) ≡ bind_records u (counted hs) s ts
records_all u hs s [] = refl
records_all u hs s (t ∷ ts) =
    ap (λ k. run (record_bound hs) u k (map (λ y. y.name) ts)) (chosen_all hs t.name u hs s) ∙ records_all u hs (bind_all u s (filter (of_record t.name) (counted hs))) ts

reversed_is : {A : Type 0} (xs : List A) → reverse xs ≡ reversed xs
reversed_is [] = refl
reversed_is (x ∷ xs) = reverse-append (x ∷ []) xs ∙ ap (λ l. l ++ x ∷ []) (reversed_is xs)

pub map_map : {A B C : Type 0} (f : A → B) (g : B → C) (xs : List A) → map (λ x. g (f x)) xs ≡ map g (map f xs)
map_map f g [] = refl
map_map f g (x ∷ xs) = ap (λ l. g (f x) ∷ l) (map_map f g xs)

-- what is bound where no bound procedure is known yet
bound_follows : (u : Around) (hs : List Head) → Follows no_notes (bindings u hs) (run (record_bound hs) (record u { own = u.own; bound = [] }) (start (record u { own = u.own; bound = [] })) (map (λ t. t.name) (reversed u.own)))
bound_follows u hs =
    let s : Binding = record { own = u.own; bound = []; notes = no_notes } in
    let f = record_bound hs in
    let names = map (λ t. t.name) (reversed u.own) in
    let e = run_rebases f (record_rebases hs) u u.own [] s no_notes no_notes names (λ b. sym (after_none (book_after b no_notes))) in
    let r = records_all u hs s (reversed u.own) in
    let m : Notes = e.notes in
    let F : Binding → Binding = λ k. record k { notes = m } in
    let N : Notebook → Binding → Notebook = λ b k. book_after b k.notes in
    let back = sym r in
    record { notes = m; same = e.same ∙ ap F r; noted = λ b. ap (N b) back ∙ e.noted b }

-- where the types and their names are these
pub record Whole (u : Around) (names : List (List ℕ)) (types : List TypedType) : Type 0 where
  pub named : names ≡ map (λ t. t.name) types
  pub own : reverse types ≡ u.own

whole_run : (u v : Around) (hs : List Head) (names : List (List ℕ)) (types : List TypedType) → Whole u names types → v ≡ record u { bound = [] } → run (record_bound hs) v (start v) names ≡ run (record_bound hs) (record u { own = u.own; bound = [] }) (start (record u { own = u.own; bound = [] })) (map (λ t. t.name) (reversed u.own))
whole_run u v hs names types w e =
    let ts : types ≡ reversed u.own = sym (reverse-reverse types) ∙ ap reverse w.own ∙ reversed_is u.own in
    let ns : names ≡ map (λ t. t.name) (reversed u.own) = w.named ∙ ap (map (λ t. t.name)) ts in
    ap (λ l. run (record_bound hs) v (start v) l) ns
    ∙ ap (λ x. run (record_bound hs) x (start x) (map (λ t. t.name) (reversed u.own))) e

pub whole_around : (u v w x : Around) (hs : List Head) (names : List (List ℕ)) (types : List TypedType) → Whole u names types → v ≡ record u { bound = [] } → w ≡ put v (run (record_bound hs) v (start v) names) → x ≡ record w { coming = [] } → x ≡ with_bound u (bindings u hs)
whole_around u v w x hs names types all e f g =
    let b = bound_follows u hs in
    let same = whole_run u v hs names types all e in
    let C : Around → Around = λ y. record y { coming = [] } in
    g ∙ ap C (f ∙ ap (put v) (same ∙ b.same) ∙ ap (λ y. put y (bindings u hs)) e)

pub whole_notes : (u v : Around) (hs : List Head) (names : List (List ℕ)) (types : List TypedType) (b c : Notebook) → Whole u names types → v ≡ record u { bound = [] } → c ≡ book_after b (run (record_bound hs) v (start v) names).notes → c ≡ book_after b (bindings u hs).notes
whole_notes u v hs names types b c all e f =
    let r = bound_follows u hs in
    let same = whole_run u v hs names types all e in
    let N : Binding → Notes = λ k. k.notes in
    f ∙ ap (λ k. book_after b (N k)) (same ∙ r.same) ∙ sym (r.noted b ∙ ap (λ k. book_after k r.notes) (after_none b))
