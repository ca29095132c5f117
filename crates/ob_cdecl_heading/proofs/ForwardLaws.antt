-- Forward declarations in turn.
use Rattle.std.proofs.Common.{◌≡◌, ℕ, zero, suc, ◌+◌, ◌<◌, ◌≤◌, Bool, true, false, List, [], ◌∷◌, length, drop, get_or, map, Option, Some, None, refl, sym, ap, ◌∙◌, cond, arith}
use Rattle.std.specs.List.{find}
use Rattle.std.specs.Option.{option_map}
use Rattle.ob_rules.specs.declared.notes.Notebook.{Notebook}
use Rattle.ob_rules.specs.declared.broken.Rule.TheVariants as rule
use Rattle.ob_rules.specs.Books.{book_after}
use Rattle.ob_rules.specs.Judged.{Notes, joined, no_notes, notes_if}
use Rattle.ob_rules.specs.Shapes.{Map}
use Rattle.ob_rules.specs.Headings.{Head, answers, forward_broken, forward_if, forwards_judged}
use Rattle.ob_rules.proofs.BookLaws.{after_none, after_joined}
use Rattle.ob_cdecl_heading.specs.declared.head.Head.{Head as Kept}
use Rattle.ob_cdecl_heading.specs.Kept.{AreKept, seen, bare}
use Rattle.ob_cdecl_heading.proofs.HeadLaws.{are_seen}

step_by : {A : Type 0} (xs : List A) (i : ℕ) (d : A) → i < length xs → drop i xs ≡ get_or xs i d ∷ drop (suc i) xs
step_by [] i d lt = absurd (omega arith)
step_by (x ∷ xs) zero d lt = refl
step_by (x ∷ xs) (suc i) d lt = step_by xs i d (omega arith)

pub step_at : {A : Type 0} (xs : List A) (i : ℕ) (x : A) → i < length xs → x ≡ get_or xs i x → drop i xs ≡ x ∷ drop (i + 1) xs
step_at xs i x lt e =
    let same : suc i ≡ i + 1 = omega arith in
    step_by xs i x lt ∙ ap (λ y. y ∷ drop (suc i) xs) (sym e) ∙ ap (λ j. x ∷ drop j xs) same

pub end_at : {A : Type 0} (xs : List A) (i : ℕ) → length xs ≤ i → drop i xs ≡ []
end_at [] zero le = refl
end_at [] (suc i) le = refl
end_at (x ∷ xs) zero le = absurd (omega arith)
end_at (x ∷ xs) (suc i) le = end_at xs i (omega arith)

-- one more is noted, of notes in a row
pub more_noted : {A : Type 0} (F : A → Notes) (R : List A → Notes) (x : A) (more all : List A) (b c total : Notebook) → R (x ∷ more) ≡ joined (F x) (R more) → all ≡ x ∷ more → c ≡ book_after b (F x) → book_after b (R all) ≡ total → book_after c (R more) ≡ total
more_noted F R x more all b c total row step is inv =
    ap (λ k. book_after k (R more)) is ∙ after_joined b (F x) (R more) ∙ ap (book_after b) (sym row) ∙ ap (λ l. book_after b (R l)) (sym step) ∙ inv

pub no_more_noted : {A : Type 0} (R : List A → Notes) (all : List A) (b total : Notebook) → R [] ≡ no_notes → all ≡ [] → book_after b (R all) ≡ total → b ≡ total
no_more_noted R all b total none end inv = sym (after_none b) ∙ ap (book_after b) (sym none) ∙ ap (λ l. book_after b (R l)) (sym end) ∙ inv

pub bare_answer : (f : Head) (all : List Head) → find (answers (bare f)) (map bare all) ≡ option_map bare (find (answers f) all)
bare_answer f [] = refl
bare_answer f (h ∷ all) = go (answers f h) (bare_answer f all)
  where
    go : (b : Bool) → find (answers (bare f)) (map bare all) ≡ option_map bare (find (answers f) all) → cond b (Some (bare h)) (find (answers (bare f)) (map bare all)) ≡ option_map bare (cond b (Some h) (find (answers f) all))
    go true r = refl
    go false r = r

bare_broken : (map : Map) (f : Head) (o : Option Head) → forward_broken map (bare f) (option_map bare o) ≡ forward_broken map f o
bare_broken map f None = refl
bare_broken map f (Some h) = refl

bare_forward : (types : Map) (all : List Head) (f : Head) → forward_if f.forward types (map bare all) (bare f) ≡ forward_if f.forward types all f
bare_forward types all f = go f.forward
  where
    go : (b : Bool) → forward_if b types (map bare all) (bare f) ≡ forward_if b types all f
    go true = ap (λ o. notes_if (forward_broken types (bare f) o) rule.UnmatchedForward f.at) (bare_answer f all) ∙ ap (λ b. notes_if b rule.UnmatchedForward f.at) (bare_broken types f (find (answers f) all))
    go false = refl

bare_forwards : (types : Map) (all hs : List Head) → forwards_judged types (map bare all) (map bare hs) ≡ forwards_judged types all hs
bare_forwards types all [] = refl
bare_forwards types all (h ∷ hs) = ap (λ n. joined n (forwards_judged types (map bare all) (map bare hs))) (bare_forward types all h) ∙ ap (joined (forward_if h.forward types all h)) (bare_forwards types all hs)

pub forwards_seen : (types : Map) (n : ℕ) (hs : List Kept) (ss : List Head) (b c : Notebook) → AreKept n hs ss → c ≡ book_after b (forwards_judged types (map seen hs) (map seen hs)) → c ≡ book_after b (forwards_judged types ss ss)
forwards_seen types n hs ss b c k e =
    let s = are_seen n hs ss k in
    e ∙ ap (λ l. book_after b (forwards_judged types l l)) s ∙ ap (book_after b) (bare_forwards types ss ss)
