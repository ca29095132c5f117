-- Where a token is wrong, what is before it goes on to a whole phrase, and none of it is too deep.
use Rattle.std.proofs.Common.{◌≡◌, refl, sym, ap, subst, ◌∙◌, ℕ, zero, suc, ◌≤◌, Bool, true, false, cond, List, [], ◌∷◌, ◌++◌, length, Option, Some, None, ◌⊎◌, inl, inr, ⊎_elim, append_assoc, append-nil}
use Rattle.std.proofs.lemmas.Bool.{and_parts}
use Rattle.ob_tree.specs.declared.symbol.Symbol.{Symbol}
use Rattle.ob_tree.specs.declared.token.Token.{Token}
use Rattle.ob_parse_grammar.specs.Phrase.{Tokens, same, Nest, Tree, Phrase, word, both, made, maybe, many, either, nest, fork, Spelling}
use Rattle.ob_parse_grammar.specs.Reading.{Read, Found, Fails, Wrong, Deep, ◌>>=◌, Set, starts, Reader, take_word, take_many, take_fork, first, read_as}
use Rattle.ob_parse_grammar.proofs.Basics.{chosen}
use Rattle.ob_parse_grammar.proofs.Exact.{Good, word_taken}
use Rattle.ob_parse_grammar.proofs.Fine.{fine}
use Rattle.ob_parse_grammar.proofs.Alive.{fails, fails_rest, found, found_not}
use Rattle.law_nesting.specs.Levels.{Placed, tokens_of, AllWithin, Placing, places_as, places_maybe, places_many}
use Rattle.law_nesting.proofs.Places.{front_join, within_append, Places}
use Rattle.law_nesting.proofs.Opens.{Sampled, sampled_as}
use Rattle.law_nesting.proofs.Deeper.{Shallow, places_made, pairs, places_both, places_fork, shallow}

-- what is before r is inside D levels at most, and goes on to a whole phrase
pub record StopsAt {A : Type 0} (D : ℕ) (P : Placing A) (ts r : Tokens) : Type 0 where
  pub before : List Placed
  pub behind : List Placed
  pub tree : A
  pub front : ts ≡ tokens_of before ++ r
  pub within : AllWithin D before
  pub placed : P tree (before ++ behind)

-- so it is wherever reading fails with Wrong
abbrev pub Stops : {A : Type 0} → ℕ → Placing A → Reader A → Type 0
Stops D P R = (ts r : Tokens) → R ts ≡ Fails Wrong r → StopsAt D P ts r

pub deep_not_wrong : {A : Type 0} {G : Type 0} (r r' : Tokens) → fails {A = A} Deep r ≡ Fails Wrong r' → G
deep_not_wrong r r' e = let none : ⊥ = cc in absurd none

-- what fails so, failed in its first part or in its second
wrong_cases : {A B : Type 0} (u : Read A) (f : A → Tokens → Read B) (r : Tokens) → (u >>= f) ≡ Fails Wrong r
    → ((x : A) × (mid : Tokens) × (u ≡ Found x mid) × (f x mid ≡ Fails Wrong r)) ⊎ (u ≡ Fails Wrong r)
wrong_cases (Found x mid) f r e = inl (x, mid, refl, e)
wrong_cases {A} {B} (Fails Deep mid) f r e = deep_not_wrong {A = B} mid r e
wrong_cases {A} {B} (Fails Wrong mid) f r e = inr (ap (λ z. fails {A = A} Wrong z) (fails_rest {A = B} Wrong Wrong mid r e))

-- what fails at its front: anything of the phrase goes on
pub at_front : {A : Type 0} (D : ℕ) (P : Placing A) (ts r : Tokens) → Sampled P → ts ≡ r → StopsAt D P ts r
at_front D P ts r some e = record { before = []; behind = some.1; tree = some.0; front = e; within = tt; placed = some.2 }

-- the same place, of another phrase with the same front
moved : {A B : Type 0} (D : ℕ) (P : Placing A) (Q : Placing B) (ts r : Tokens) (w : StopsAt D P ts r) (y : B) → Q y (w.before ++ w.behind) → StopsAt D Q ts r
moved D P Q ts r w y q = record { before = w.before; behind = w.behind; tree = y; front = w.front; within = w.within; placed = q }

-- the same place behind a front
behind_front : {A B : Type 0} (D : ℕ) (P : Placing A) (Q : Placing B) (ts mid r : Tokens) (us : List Placed) → ts ≡ tokens_of us ++ mid → AllWithin D us → (w : StopsAt D P mid r) (y : B)
    → Q y (us ++ (w.before ++ w.behind)) → StopsAt D Q ts r
behind_front D P Q ts mid r us e h w y q =
    let K = Q y in record {
      before = us ++ w.before;
      behind = w.behind;
      tree = y;
      front = e ∙ ap (λ z. tokens_of us ++ z) w.front ∙ front_join us w.before r;
      within = within_append D us w.before h w.within;
      placed = subst K (sym (append_assoc us w.before w.behind)) q;
    }

-- the same place before something more
before_more : {A B : Type 0} (D : ℕ) (P : Placing A) (Q : Placing B) (ts r : Tokens) (w : StopsAt D P ts r) (us : List Placed) (y : B)
    → Q y ((w.before ++ w.behind) ++ us) → StopsAt D Q ts r
before_more D P Q ts r w us y q =
    let K = Q y in record {
      before = w.before;
      behind = w.behind ++ us;
      tree = y;
      front = w.front;
      within = w.within;
      placed = subst K (append_assoc w.before w.behind us) q;
    }

stops_made : {A B : Type 0} (D : ℕ) (f : A → B) (P : Placing A) (R : Reader A) → Stops D P R → Stops D (places_made f P) (λ ts. R ts >>= λ x rest. Found (f x) rest)
stops_made {A} {B} D f P R L ts r h = by_cases (wrong_cases (R ts) (λ x rest. Found (f x) rest) r h)
  where
    by_cases : ((x : A) × (mid : Tokens) × (R ts ≡ Found x mid) × (found {A = B} (f x) mid ≡ Fails Wrong r)) ⊎ (R ts ≡ Fails Wrong r) → StopsAt D (places_made f P) ts r
    by_cases (inl u) = found_not (f u.0) u.1 r Wrong u.3
    by_cases (inr u) = let w = L ts r u in moved D P (places_made f P) ts r w (f w.tree) (w.tree, refl, w.placed)

stops_both : {A B : Type 0} (D : ℕ) (P : Placing A) (R : Reader A) (Q : Placing B) (T : Reader B) → Stops D P R → Shallow D P R → Stops D Q T → Sampled Q
    → Stops D (places_both P Q) (λ ts. R ts >>= λ x rest. pairs T x rest)
stops_both {A} {B} D P R Q T L F M some ts r h = by_cases (wrong_cases (R ts) (pairs T) r h)
  where
    second : (x : A) (mid : Tokens) → R ts ≡ Found x mid → ((y : B) × (end : Tokens) × (T mid ≡ Found y end) × (found {A = A × B} (x, y) end ≡ Fails Wrong r)) ⊎ (T mid ≡ Fails Wrong r) → StopsAt D (places_both P Q) ts r
    second x mid e (inl u) = found_not (x, u.0) u.1 r Wrong u.3
    second x mid e (inr u) =
        let s = F ts x mid e in let w = M mid r u in
        behind_front D Q (places_both P Q) ts mid r s.0 s.1 s.2 w (x, w.tree) (s.0, w.before ++ w.behind, refl, s.3, w.placed)

    by_cases : ((x : A) × (mid : Tokens) × (R ts ≡ Found x mid) × (pairs T x mid ≡ Fails Wrong r)) ⊎ (R ts ≡ Fails Wrong r) → StopsAt D (places_both P Q) ts r
    by_cases (inl u) = second u.0 u.1 u.2 (wrong_cases (T u.1) (λ y rest'. found {A = A × B} (u.0, y) rest') r u.3)
    by_cases (inr u) =
        let w = L ts r u in
        before_more D P (places_both P Q) ts r w some.1 (w.tree, some.0) (w.before ++ w.behind, some.1, refl, w.placed, some.2)

stops_maybe : {A : Type 0} (D : ℕ) (f : Set) (P : Placing A) (R : Reader A) → Stops D P R → Stops D (places_maybe P) (λ ts. cond (starts f ts) (R ts >>= λ x rest. Found (Some x) rest) (Found None ts))
stops_maybe {A} D f P R L ts r h = by_test (chosen (starts f ts) _ _ (Fails Wrong r) h)
  where
    inside : ((x : A) × (mid : Tokens) × (R ts ≡ Found x mid) × (found {A = Option A} (Some x) mid ≡ Fails Wrong r)) ⊎ (R ts ≡ Fails Wrong r) → StopsAt D (places_maybe P) ts r
    inside (inl u) = found_not (Some u.0) u.1 r Wrong u.3
    inside (inr u) = let w = L ts r u in moved D P (places_maybe P) ts r w (Some w.tree) w.placed

    by_test : ((starts f ts ≡ true) × ((R ts >>= λ x rest. Found (Some x) rest) ≡ Fails Wrong r)) ⊎ ((starts f ts ≡ false) × (found {A = Option A} None ts ≡ fails Wrong r)) → StopsAt D (places_maybe P) ts r
    by_test (inl u) = inside (wrong_cases (R ts) (λ x rest. Found (Some x) rest) r u.1)
    by_test (inr u) = found_not None ts r Wrong u.1

stops_many : {A : Type 0} (D : ℕ) (f : Set) (P : Placing A) (R : Reader A) → Stops D P R → Shallow D P R → (n : ℕ) → Stops D (places_many P) (take_many n f R)
stops_many D f P R L F zero ts r h = found_not [] ts r Wrong h
stops_many {A} D f P R L F (suc n) ts r h = by_test (chosen (starts f ts) _ _ (Fails Wrong r) h) (λ us w g. stops_many D f P R L F n us w g)
  where
    further : (x : A) (mid : Tokens) → R ts ≡ Found x mid → Stops D (places_many P) (take_many n f R)
        → ((ys : List A) × (end : Tokens) × (take_many n f R mid ≡ Found ys end) × (found {A = List A} (x ∷ ys) end ≡ Fails Wrong r)) ⊎ (take_many n f R mid ≡ Fails Wrong r) → StopsAt D (places_many P) ts r
    further x mid e rest (inl u) = found_not (x ∷ u.0) u.1 r Wrong u.3
    further x mid e rest (inr u) =
        let s = F ts x mid e in let w = rest mid r u in
        behind_front D (places_many P) (places_many P) ts mid r s.0 s.1 s.2 w (x ∷ w.tree) (s.0, w.before ++ w.behind, refl, s.3, w.placed)

    by_cases : Stops D (places_many P) (take_many n f R) → ((x : A) × (mid : Tokens) × (R ts ≡ Found x mid) × ((take_many n f R mid >>= λ ys rest'. Found (x ∷ ys) rest') ≡ Fails Wrong r)) ⊎ (R ts ≡ Fails Wrong r) → StopsAt D (places_many P) ts r
    by_cases rest (inl u) = further u.0 u.1 u.2 rest (wrong_cases (take_many n f R u.1) (λ ys rest'. found {A = List A} (u.0 ∷ ys) rest') r u.3)
    by_cases rest (inr u) =
        let w = L ts r u in
        moved D P (places_many P) ts r w (w.tree ∷ []) (w.before ++ w.behind, [], sym (append-nil (w.before ++ w.behind)), w.placed, refl)

    by_test : ((starts f ts ≡ true) × ((R ts >>= λ x rest. take_many n f R rest >>= λ xs rest'. Found (x ∷ xs) rest') ≡ Fails Wrong r)) ⊎ ((starts f ts ≡ false) × (found {A = List A} [] ts ≡ fails Wrong r)) → Stops D (places_many P) (take_many n f R) → StopsAt D (places_many P) ts r
    by_test (inl u) rest = by_cases rest (wrong_cases (R ts) (λ x us. take_many n f R us >>= λ xs rest'. Found (x ∷ xs) rest') r u.1)
    by_test (inr u) rest = found_not [] ts r Wrong u.1

-- a word is wrong at its front
word_front : (x : Symbol) (ts r : Tokens) → take_word x ts ≡ Fails Wrong r → ts ≡ r
word_front x [] r h = fails_rest {A = Token} Wrong Wrong [] r h
word_front x (t ∷ ts) r h = by_test (chosen (same t.symbol x) _ _ (Fails Wrong r) h)
  where
    by_test : ((same t.symbol x ≡ true) × (found {A = Token} t ts ≡ fails Wrong r)) ⊎ ((same t.symbol x ≡ false) × (fails {A = Token} Wrong (t ∷ ts) ≡ Fails Wrong r)) → t ∷ ts ≡ r
    by_test (inl u) = found_not t ts r Wrong u.1
    by_test (inr u) = fails_rest {A = Token} Wrong Wrong (t ∷ ts) r u.1

module _ {A : Type 0} (D k : ℕ) (x : Symbol) (f : Set) (full : Bool) (P : Placing A) (R : Reader A) (Q : Placing A) (T : Reader A) (L : Stops D P R) (M : Stops D Q T) (some : Sampled (places_fork k x P Q))
    (room : k ≤ D) (more_room : full ≡ false → suc k ≤ D) where
  stops_fork : Stops D (places_fork k x P Q) (take_fork full x f R T)
  stops_fork ts r h = by_word (wrong_cases (take_word x ts) (λ t rest. cond (starts f rest) (R rest) (cond full (Fails Deep ts) (T rest))) r h)
    where
      second : (t : Token) (mid : Tokens) → (ts ≡ t ∷ mid) × (t.symbol ≡ x) → ((full ≡ true) × (fails {A = A} Deep ts ≡ fails Wrong r)) ⊎ ((full ≡ false) × (T mid ≡ Fails Wrong r)) → StopsAt D (places_fork k x P Q) ts r
      second t mid e (inl c) = deep_not_wrong {A = A} ts r c.1
      second t mid e (inr c) =
          let w = M mid r c.1 in
          behind_front D Q (places_fork k x P Q) ts mid r ((suc k, t) ∷ []) e.0 (more_room c.0, tt) w w.tree (t, w.before ++ w.behind, e.1, inr (refl, w.placed))

      by_test : (t : Token) (mid : Tokens) → (ts ≡ t ∷ mid) × (t.symbol ≡ x) → ((starts f mid ≡ true) × (R mid ≡ Fails Wrong r)) ⊎ ((starts f mid ≡ false) × (cond full (Fails Deep ts) (T mid) ≡ Fails Wrong r)) → StopsAt D (places_fork k x P Q) ts r
      by_test t mid e (inl c) =
          let w = L mid r c.1 in
          behind_front D P (places_fork k x P Q) ts mid r ((k, t) ∷ []) e.0 (room, tt) w w.tree (t, w.before ++ w.behind, e.1, inl (refl, w.placed))
      by_test t mid e (inr c) = second t mid e (chosen full _ _ (Fails Wrong r) c.1)

      by_word : ((t : Token) × (mid : Tokens) × (take_word x ts ≡ Found t mid) × (cond (starts f mid) (R mid) (cond full (Fails Deep ts) (T mid)) ≡ Fails Wrong r)) ⊎ (take_word x ts ≡ Fails Wrong r) → StopsAt D (places_fork k x P Q) ts r
      by_word (inl u) = by_test u.0 u.1 (word_taken x ts u.0 u.1 u.2) (chosen (starts f u.1) _ _ (Fails Wrong r) u.3)
      by_word (inr u) = at_front D (places_fork k x P Q) ts r some (word_front x ts r u)

module _ (first_of : Nest → Set) (empty_of : Nest → Bool) (more_of : Nest → Set) (t₀ : Token) (full : Bool)
    (S : (n : Nest) → Spelling (Tree n)) (R : (n : Nest) → Reader (Tree n)) (nested : (n : Nest) → Good (S n) (R n) (first_of n) (empty_of n) (more_of n))
    (none_left : (n : Nest) → full ≡ true → empty_of n ≡ false → (x : Tree n) (ts : Tokens) → S n x ts → ⊥)
    (P : (n : Nest) → Placing (Tree n)) (k D : ℕ) (room : k ≤ D) (more_room : full ≡ false → suc k ≤ D)
    (placed : (n : Nest) → Places D (P n) (S n)) (sample : (n : Nest) → Sampled (P n)) (stops : (n : Nest) → Stops D (P n) (R n)) where
  near : {A : Type 0} (p : Phrase A) → fine first_of empty_of more_of p ≡ true → Shallow D (places_as P k p) (read_as first_of empty_of full R p)
  near p h = shallow first_of empty_of more_of full S R nested none_left P k D room more_room placed p h

  pub stops_as : {A : Type 0} (p : Phrase A) → fine first_of empty_of more_of p ≡ true → Stops D (places_as P k p) (read_as first_of empty_of full R p)
  stops_as (word x) h ts r e = at_front D (places_as P k (word x)) ts r (sampled_as t₀ P k sample (word x)) (word_front x ts r e)
  stops_as (both p q) h ts r e =
      let u = and_parts _ _ h in let v = and_parts _ _ u.1 in
      stops_both D (places_as P k p) (read_as first_of empty_of full R p) (places_as P k q) (read_as first_of empty_of full R q) (λ us w g. stops_as p u.0 us w g) (near p u.0) (λ us w g. stops_as q v.0 us w g)
      (sampled_as t₀ P k sample q) ts r e
  stops_as (made f p) h ts r e = stops_made D f (places_as P k p) (read_as first_of empty_of full R p) (λ us w g. stops_as p h us w g) ts r e
  stops_as (maybe p) h ts r e =
      let u = and_parts _ _ h in stops_maybe D (first first_of empty_of p) (places_as P k p) (read_as first_of empty_of full R p) (λ us w g. stops_as p u.0 us w g) ts r e
  stops_as (many p) h ts r e =
      let u = and_parts _ _ h in
      stops_many D (first first_of empty_of p) (places_as P k p) (read_as first_of empty_of full R p) (λ us w g. stops_as p u.0 us w g) (near p u.0) (length ts) ts r e
  stops_as (either p q) h ts r e =
      let u = and_parts _ _ h in let v = and_parts _ _ u.1 in
      ⊎_elim
      (λ (c : (starts (first first_of empty_of p) ts ≡ true) × (read_as first_of empty_of full R p ts ≡ Fails Wrong r)).
      let w = stops_as p u.0 ts r c.1 in moved D (places_as P k p) (places_as P k (either p q)) ts r w w.tree (inl w.placed))
      (λ c. let w = stops_as q v.0 ts r c.1 in moved D (places_as P k q) (places_as P k (either p q)) ts r w w.tree (inr w.placed))
      (chosen (starts (first first_of empty_of p) ts) _ _ (Fails Wrong r) e)
  stops_as (nest n) h ts r e = stops n ts r e
  stops_as (fork x n p) h ts r e =
      let u = and_parts _ _ h in
      stops_fork D k x (first first_of empty_of p) full (places_as P k p) (read_as first_of empty_of full R p) (P n) (R n) (λ us w g. stops_as p u.0 us w g) (stops n)
      (sampled_as t₀ P k sample (fork x n p)) room more_room ts r e
