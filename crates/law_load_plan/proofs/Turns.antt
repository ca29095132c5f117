-- Modules in turn: lists of them joined, and names in them.
use Rattle.std.proofs.Common.{◌≡◌, ℕ, ◌+◌, ◌≤◌, Bool, true, false, List, [], ◌∷◌, ◌++◌, length, Option, Some, None, refl, sym, ap, subst, ◌∙◌, arith, append_assoc}
use Rattle.std.specs.Prelude.{if◌then◌else◌, bytes_eq, codes, ◌||◌}
use Rattle.std.specs.List.{AllByRecursion}
use Rattle.std.proofs.lemmas.List.{length-append, append-nil}
use Rattle.std.proofs.lemmas.Bool.{false≢true}
use Rattle.std.proofs.lemmas.Slice.Eq.{bytes_eq-Decides}
use Rattle.ob_link.specs.Plan.{Asks, named, is_there, most_modules, words_of}
use Rattle.law_load_plan.specs.Seen.{IsAmong, GoInTurn}

pub bytes_back : (a b : List ℕ) → bytes_eq a b ≡ false → bytes_eq b a ≡ false
bytes_back a b e = go (bytes_eq b a) refl
  where
    go : (t : Bool) → bytes_eq b a ≡ t → t ≡ false
    go true h = absurd (false≢true (sym e ∙ (bytes_eq-Decides a b).1 (sym ((bytes_eq-Decides b a).0 h))))
    go false h = refl

-- ---- choices

more_if : {A : Type 0} (b : Bool) (x : A) (o p : Option A) → (is_there o ≡ true → is_there p ≡ true) → is_there (if b then Some x else o) ≡ true → is_there (if b then Some x else p) ≡ true
more_if true x o p h e = refl
more_if false x o p h e = h e

none_if : {A : Type 0} (b : Bool) (x : A) (o p : Option A) → (is_there o ≡ false → is_there p ≡ false) → is_there (if b then Some x else o) ≡ false → is_there (if b then Some x else p) ≡ false
none_if true x o p h e = e
none_if false x o p h e = h e

there_if : {A : Type 0} (b : Bool) (x : A) (o : Option A) → is_there o ≡ true → is_there (if b then Some x else o) ≡ true
there_if true x o h = refl
there_if false x o h = h

either_more : (o a b : Bool) → (a ≡ true → b ≡ true) → (o || a) ≡ true → (o || b) ≡ true
either_more true a b h e = refl
either_more false a b h e = h e

pub neither : (a b : Bool) → (a || b) ≡ false → (a ≡ false) × (b ≡ false)
neither true b e = absurd (false≢true (sym e))
neither false b e = (refl, e)

pub both_false : (a b : Bool) → a ≡ false → b ≡ false → (a || b) ≡ false
both_false true b e f = e
both_false false b e f = f

pub second_true : (a b : Bool) → b ≡ true → (a || b) ≡ true
second_true true b e = refl
second_true false b e = e

-- ---- names

module _ {A K : Type 0} (asks : Asks A K) where
  pub named_more : (name : List ℕ) (xs ys : List A) → is_there (named asks name xs) ≡ true → is_there (named asks name (xs ++ ys)) ≡ true
  named_more name [] ys e = absurd (false≢true e)
  named_more name (x ∷ xs) ys e = more_if (bytes_eq name (asks.name x)) x (named asks name xs) (named asks name (xs ++ ys)) (named_more name xs ys) e

  none_of : (name : List ℕ) (ys : List A) → AllByRecursion (λ y. bytes_eq name (asks.name y) ≡ false) ys → is_there (named asks name ys) ≡ false
  none_of name [] h = refl
  none_of name (y ∷ ys) h = subst (λ b. is_there (if b then Some y else named asks name ys) ≡ false) (sym h.0) (none_of name ys h.1)

  pub none_named : (name : List ℕ) (xs ys : List A) → is_there (named asks name xs) ≡ false → AllByRecursion (λ y. bytes_eq name (asks.name y) ≡ false) ys → is_there (named asks name (xs ++ ys)) ≡ false
  none_named name [] ys e h = none_of name ys h
  none_named name (x ∷ xs) ys e h = none_if (bytes_eq name (asks.name x)) x (named asks name xs) (named asks name (xs ++ ys)) (λ i. none_named name xs ys i h) e

  pub last_named : (name : List ℕ) (xs : List A) (x : A) → asks.name x ≡ name → is_there (named asks name (xs ++ x ∷ [])) ≡ true
  last_named name [] x e = ap (λ b. is_there (if b then Some x else None)) ((bytes_eq-Decides name (asks.name x)).1 (sym e))
  last_named name (y ∷ xs) x e = there_if (bytes_eq name (asks.name y)) y (named asks name (xs ++ x ∷ [])) (last_named name xs x e)

  pub among_more : (xs ys : List A) (name : List ℕ) → IsAmong asks xs name → IsAmong asks (xs ++ ys) name
  among_more xs ys name e = either_more (bytes_eq name (codes "Out")) (is_there (named asks name xs)) (is_there (named asks name (xs ++ ys))) (named_more name xs ys) e

  pub all_among_more : (xs ys : List A) (names : List (List ℕ)) → AllByRecursion (IsAmong asks xs) names → AllByRecursion (IsAmong asks (xs ++ ys)) names
  all_among_more xs ys [] h = tt
  all_among_more xs ys (n ∷ names) h = (among_more xs ys n h.0, all_among_more xs ys names h.1)

  -- ---- in turn

  pub turn_joined : (before xs ys : List A) → GoInTurn asks before xs → GoInTurn asks (before ++ xs) ys → GoInTurn asks before (xs ++ ys)
  turn_joined before [] ys h k = subst (λ l. GoInTurn asks l ys) (append-nil before) k
  turn_joined before (x ∷ xs) ys h k = (h.0, turn_joined (before ++ x ∷ []) xs ys h.1 (subst (λ l. GoInTurn asks l ys) (sym (append_assoc before (x ∷ []) xs)) k))

  -- what goes in turn behind so few modules is no more than may be loaded
  pub few_in_turn : (before xs : List A) → length before ≤ most_modules → GoInTurn asks before xs → length (before ++ xs) ≤ most_modules
  few_in_turn before [] le h = subst (λ l. length l ≤ most_modules) (sym (append-nil before)) le
  few_in_turn before (x ∷ xs) le h =
      let few = h.0.few in
      let one : length (before ++ x ∷ []) ≤ most_modules = subst (λ n. n ≤ most_modules) (sym (length-append before (x ∷ []))) (omega (arith, few)) in
      subst (λ l. length l ≤ most_modules) (append_assoc before (x ∷ []) xs) (few_in_turn (before ++ x ∷ []) xs one h.1)

  pub words_joined : (xs ys : List A) → words_of asks (xs ++ ys) ≡ words_of asks xs + words_of asks ys
  words_joined [] ys = omega arith
  words_joined (x ∷ xs) ys = let e = words_joined xs ys in omega (arith, e)
