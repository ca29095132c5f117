-- A part for each item of a list, in a loop.
use Rattle.std.proofs.Common.{◌≡◌, ◌<◌, ◌≤◌, ℕ, ◌+◌, Bool, true, false, cond, List, [], ◌∷◌, ◌++◌, length, drop, get_or, append_assoc, append-nil, refl, sym, ap, ◌∙◌}
use Rattle.std.specs.List.{filter}
use Rattle.std.proofs.lemmas.List.{drop_more, drop_all}

pub one_more : {X Y : Type 0} (f : X → List Y) (F : List X → List Y) → ((x : X) (xs : List X) → F (x ∷ xs) ≡ f x ++ F xs) → (xs : List X) (i : ℕ) (x : X) (v0 v1 whole : List Y) → i < length xs → x ≡ get_or xs i x → v1 ≡ v0 ++ f x → v0 ++ F (drop i xs) ≡ whole → v1 ++ F (drop (i + 1) xs) ≡ whole
one_more f F cons xs i x v0 v1 whole lt is h inv =
    let rest = F (drop (i + 1) xs) in
    ap (λ v. v ++ rest) (h ∙ ap (λ y. v0 ++ f y) is) ∙ append_assoc v0 (f (get_or xs i x)) rest
    ∙ ap (λ l. v0 ++ l) (sym (cons (get_or xs i x) (drop (i + 1) xs)) ∙ sym (ap F (drop_more xs i x lt))) ∙ inv

pub all_done : {X Y : Type 0} (F : List X → List Y) → F [] ≡ [] → (xs : List X) (i : ℕ) (v0 whole : List Y) → length xs ≤ i → v0 ++ F (drop i xs) ≡ whole → v0 ≡ whole
all_done F none xs i v0 whole past inv = sym (append-nil v0) ∙ ap (λ l. v0 ++ l) (sym (ap F (drop_all i xs past) ∙ none)) ∙ inv

-- the first of the rest, which is kept or not
pub kept_one : {X : Type 0} (f : X → Bool) (x : X) (v0 v1 whole ks ls : List X) → ks ≡ x ∷ ls → v1 ≡ v0 ++ cond (f x) (x ∷ []) [] → v0 ++ filter f ks ≡ whole → v1 ++ filter f ls ≡ whole
kept_one f x v0 v1 whole ks ls e h inv =
    ap (λ v. v ++ filter f ls) h ∙ append_assoc v0 (cond (f x) (x ∷ []) []) (filter f ls) ∙ ap (λ l. v0 ++ l) (front (f x)) ∙ ap (λ l. v0 ++ filter f l) (sym e) ∙ inv
  where
    front : (b : Bool) → cond b (x ∷ []) [] ++ filter f ls ≡ cond b (x ∷ filter f ls) (filter f ls)
    front true = refl
    front false = refl
