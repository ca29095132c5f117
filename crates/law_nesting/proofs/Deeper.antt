-- Where a token is too deep, the front and this token go on to a whole phrase, and it is the first that is so deep.
use Rattle.std.proofs.Common.{◌≡◌, refl, sym, ap, subst, ◌∙◌, ℕ, zero, suc, ◌≤◌, ◌<◌, Bool, true, false, cond, List, [], ◌∷◌, ◌++◌, length, Option, Some, None, ◌⊎◌, inl, inr, ⊎_elim, arith, append_assoc, append-nil}
use Rattle.std.proofs.lemmas.Bool.{and_parts}
use Rattle.ob_tree.specs.declared.symbol.Symbol.{Symbol}
use Rattle.ob_tree.specs.declared.token.Token.{Token}
use Rattle.ob_parse_grammar.specs.Phrase.{Tokens, same, Nest, Tree, Phrase, word, both, made, maybe, many, either, nest, fork, Spelling}
use Rattle.ob_parse_grammar.specs.Reading.{Read, Found, Fails, Wrong, Deep, ◌>>=◌, Set, starts, Reader, take_word, take_many, take_fork, first, read_as}
use Rattle.ob_parse_grammar.proofs.Basics.{chosen}
use Rattle.ob_parse_grammar.proofs.Exact.{Good, word_taken}
use Rattle.ob_parse_grammar.proofs.Fine.{fine, good}
use Rattle.ob_parse_grammar.proofs.Alive.{fails, fails_rest, found, found_not}
use Rattle.law_nesting.specs.Levels.{Placed, tokens_of, AllWithin, Placing, places_as, places_maybe, places_many}
use Rattle.law_nesting.proofs.Places.{front_join, within_append, Places, within_as}
use Rattle.law_nesting.proofs.Opens.{Sampled, sampled_as}

-- what is before r is inside D levels at most, its first token inside more; and they go on to a whole phrase
pub record DeepAt {A : Type 0} (D : ℕ) (P : Placing A) (ts r : Tokens) : Type 0 where
  pub before : List Placed
  pub level : ℕ
  pub token : Token
  pub behind : List Placed
  pub rest : Tokens
  pub tree : A
  pub front : ts ≡ tokens_of before ++ r
  pub next : r ≡ token ∷ rest
  pub within : AllWithin D before
  pub beyond : D < level
  pub placed : P tree (before ++ (level, token) ∷ behind)

-- so it is wherever reading fails with Deep
abbrev pub Deeper : {A : Type 0} → ℕ → Placing A → Reader A → Type 0
Deeper D P R = (ts r : Tokens) → R ts ≡ Fails Deep r → DeepAt D P ts r

-- what is found is inside D levels at most
abbrev pub Shallow : {A : Type 0} → ℕ → Placing A → Reader A → Type 0
Shallow {A} D P R = (ts : Tokens) (x : A) (r : Tokens) → R ts ≡ Found x r → (us : List Placed) × (ts ≡ tokens_of us ++ r) × AllWithin D us × P x us

pub wrong_not_deep : {A : Type 0} {G : Type 0} (r r' : Tokens) → fails {A = A} Wrong r ≡ Fails Deep r' → G
wrong_not_deep r r' e = let none : ⊥ = cc in absurd none

-- what fails so, failed in its first part or in its second
deep_cases : {A B : Type 0} (u : Read A) (f : A → Tokens → Read B) (r : Tokens) → (u >>= f) ≡ Fails Deep r
    → ((x : A) × (mid : Tokens) × (u ≡ Found x mid) × (f x mid ≡ Fails Deep r)) ⊎ (u ≡ Fails Deep r)
deep_cases (Found x mid) f r e = inl (x, mid, refl, e)
deep_cases {A} {B} (Fails Wrong mid) f r e = wrong_not_deep {A = B} mid r e
deep_cases {A} {B} (Fails Deep mid) f r e = inr (ap (λ z. fails {A = A} Deep z) (fails_rest {A = B} Deep Deep mid r e))

-- the same place, of another phrase with the same front
moved : {A B : Type 0} (D : ℕ) (P : Placing A) (Q : Placing B) (ts r : Tokens) (w : DeepAt D P ts r) (y : B) → Q y (w.before ++ (w.level, w.token) ∷ w.behind) → DeepAt D Q ts r
moved D P Q ts r w y q = record {
  before = w.before;
  level = w.level;
  token = w.token;
  behind = w.behind;
  rest = w.rest;
  tree = y;
  front = w.front;
  next = w.next;
  within = w.within;
  beyond = w.beyond;
  placed = q;
}

-- the same place behind a front
behind_front : {A B : Type 0} (D : ℕ) (P : Placing A) (Q : Placing B) (ts mid r : Tokens) (us : List Placed) → ts ≡ tokens_of us ++ mid → AllWithin D us → (w : DeepAt D P mid r) (y : B)
    → Q y (us ++ (w.before ++ (w.level, w.token) ∷ w.behind)) → DeepAt D Q ts r
behind_front D P Q ts mid r us e h w y q =
    let K = Q y in record {
      before = us ++ w.before;
      level = w.level;
      token = w.token;
      behind = w.behind;
      rest = w.rest;
      tree = y;
      front = e ∙ ap (λ z. tokens_of us ++ z) w.front ∙ front_join us w.before r;
      next = w.next;
      within = within_append D us w.before h w.within;
      beyond = w.beyond;
      placed = subst K (sym (append_assoc us w.before ((w.level, w.token) ∷ w.behind))) q;
    }

-- the same place before something more
before_more : {A B : Type 0} (D : ℕ) (P : Placing A) (Q : Placing B) (ts r : Tokens) (w : DeepAt D P ts r) (us : List Placed) (y : B)
    → Q y ((w.before ++ (w.level, w.token) ∷ w.behind) ++ us) → DeepAt D Q ts r
before_more D P Q ts r w us y q =
    let K = Q y in record {
      before = w.before;
      level = w.level;
      token = w.token;
      behind = w.behind ++ us;
      rest = w.rest;
      tree = y;
      front = w.front;
      next = w.next;
      within = w.within;
      beyond = w.beyond;
      placed = subst K (append_assoc w.before ((w.level, w.token) ∷ w.behind) us) q;
    }

abbrev pub places_made : {A B : Type 0} → (A → B) → Placing A → Placing B
places_made {A} f P y us = (x : A) × (f x ≡ y) × P x us

deeper_made : {A B : Type 0} (D : ℕ) (f : A → B) (P : Placing A) (R : Reader A) → Deeper D P R → Deeper D (places_made f P) (λ ts. R ts >>= λ x rest. Found (f x) rest)
deeper_made {A} {B} D f P R L ts r h = by_cases (deep_cases (R ts) (λ x rest. Found (f x) rest) r h)
  where
    by_cases : ((x : A) × (mid : Tokens) × (R ts ≡ Found x mid) × (found {A = B} (f x) mid ≡ Fails Deep r)) ⊎ (R ts ≡ Fails Deep r) → DeepAt D (places_made f P) ts r
    by_cases (inl u) = found_not (f u.0) u.1 r Deep u.3
    by_cases (inr u) = let w = L ts r u in moved D P (places_made f P) ts r w (f w.tree) (w.tree, refl, w.placed)

abbrev pub pairs : {A B : Type 0} → Reader B → A → Reader (A × B)
pairs {A} {B} Q x ts = Q ts >>= λ y rest. found {A = A × B} (x, y) rest

abbrev pub places_both : {A B : Type 0} → Placing A → Placing B → Placing (A × B)
places_both P Q x us = (a : List Placed) × (b : List Placed) × (us ≡ a ++ b) × P x.0 a × Q x.1 b

deeper_both : {A B : Type 0} (D : ℕ) (P : Placing A) (R : Reader A) (Q : Placing B) (T : Reader B) → Deeper D P R → Shallow D P R → Deeper D Q T → Sampled Q
    → Deeper D (places_both P Q) (λ ts. R ts >>= λ x rest. pairs T x rest)
deeper_both {A} {B} D P R Q T L F M some ts r h = by_cases (deep_cases (R ts) (pairs T) r h)
  where
    second : (x : A) (mid : Tokens) → R ts ≡ Found x mid → ((y : B) × (end : Tokens) × (T mid ≡ Found y end) × (found {A = A × B} (x, y) end ≡ Fails Deep r)) ⊎ (T mid ≡ Fails Deep r) → DeepAt D (places_both P Q) ts r
    second x mid e (inl u) = found_not (x, u.0) u.1 r Deep u.3
    second x mid e (inr u) =
        let s = F ts x mid e in let w = M mid r u in
        behind_front D Q (places_both P Q) ts mid r s.0 s.1 s.2 w (x, w.tree) (s.0, w.before ++ (w.level, w.token) ∷ w.behind, refl, s.3, w.placed)

    by_cases : ((x : A) × (mid : Tokens) × (R ts ≡ Found x mid) × (pairs T x mid ≡ Fails Deep r)) ⊎ (R ts ≡ Fails Deep r) → DeepAt D (places_both P Q) ts r
    by_cases (inl u) = second u.0 u.1 u.2 (deep_cases (T u.1) (λ y rest'. found {A = A × B} (u.0, y) rest') r u.3)
    by_cases (inr u) =
        let w = L ts r u in
        before_more D P (places_both P Q) ts r w some.1 (w.tree, some.0) (w.before ++ (w.level, w.token) ∷ w.behind, some.1, refl, w.placed, some.2)

deeper_maybe : {A : Type 0} (D : ℕ) (f : Set) (P : Placing A) (R : Reader A) → Deeper D P R → Deeper D (places_maybe P) (λ ts. cond (starts f ts) (R ts >>= λ x rest. Found (Some x) rest) (Found None ts))
deeper_maybe {A} D f P R L ts r h = by_test (chosen (starts f ts) _ _ (Fails Deep r) h)
  where
    inside : ((x : A) × (mid : Tokens) × (R ts ≡ Found x mid) × (found {A = Option A} (Some x) mid ≡ Fails Deep r)) ⊎ (R ts ≡ Fails Deep r) → DeepAt D (places_maybe P) ts r
    inside (inl u) = found_not (Some u.0) u.1 r Deep u.3
    inside (inr u) = let w = L ts r u in moved D P (places_maybe P) ts r w (Some w.tree) w.placed

    by_test : ((starts f ts ≡ true) × ((R ts >>= λ x rest. Found (Some x) rest) ≡ Fails Deep r)) ⊎ ((starts f ts ≡ false) × (found {A = Option A} None ts ≡ fails Deep r)) → DeepAt D (places_maybe P) ts r
    by_test (inl u) = inside (deep_cases (R ts) (λ x rest. Found (Some x) rest) r u.1)
    by_test (inr u) = found_not None ts r Deep u.1

deeper_many : {A : Type 0} (D : ℕ) (f : Set) (P : Placing A) (R : Reader A) → Deeper D P R → Shallow D P R → (n : ℕ) → Deeper D (places_many P) (take_many n f R)
deeper_many D f P R L F zero ts r h = found_not [] ts r Deep h
deeper_many {A} D f P R L F (suc n) ts r h = by_test (chosen (starts f ts) _ _ (Fails Deep r) h) (λ us w g. deeper_many D f P R L F n us w g)
  where
    further : (x : A) (mid : Tokens) → R ts ≡ Found x mid → Deeper D (places_many P) (take_many n f R)
        → ((ys : List A) × (end : Tokens) × (take_many n f R mid ≡ Found ys end) × (found {A = List A} (x ∷ ys) end ≡ Fails Deep r)) ⊎ (take_many n f R mid ≡ Fails Deep r) → DeepAt D (places_many P) ts r
    further x mid e rest (inl u) = found_not (x ∷ u.0) u.1 r Deep u.3
    further x mid e rest (inr u) =
        let s = F ts x mid e in let w = rest mid r u in
        behind_front D (places_many P) (places_many P) ts mid r s.0 s.1 s.2 w (x ∷ w.tree) (s.0, w.before ++ (w.level, w.token) ∷ w.behind, refl, s.3, w.placed)

    by_cases : Deeper D (places_many P) (take_many n f R) → ((x : A) × (mid : Tokens) × (R ts ≡ Found x mid) × ((take_many n f R mid >>= λ ys rest'. Found (x ∷ ys) rest') ≡ Fails Deep r)) ⊎ (R ts ≡ Fails Deep r) → DeepAt D (places_many P) ts r
    by_cases rest (inl u) = further u.0 u.1 u.2 rest (deep_cases (take_many n f R u.1) (λ ys rest'. found {A = List A} (u.0 ∷ ys) rest') r u.3)
    by_cases rest (inr u) =
        let w = L ts r u in
        moved D P (places_many P) ts r w (w.tree ∷ []) (w.before ++ (w.level, w.token) ∷ w.behind, [], sym (append-nil (w.before ++ (w.level, w.token) ∷ w.behind)), w.placed, refl)

    by_test : ((starts f ts ≡ true) × ((R ts >>= λ x rest. take_many n f R rest >>= λ xs rest'. Found (x ∷ xs) rest') ≡ Fails Deep r)) ⊎ ((starts f ts ≡ false) × (found {A = List A} [] ts ≡ fails Deep r)) → Deeper D (places_many P) (take_many n f R) → DeepAt D (places_many P) ts r
    by_test (inl u) rest = by_cases rest (deep_cases (R ts) (λ x us. take_many n f R us >>= λ xs rest'. Found (x ∷ xs) rest') r u.1)
    by_test (inr u) rest = found_not [] ts r Deep u.1

-- a word is never too deep
word_not_deep : {G : Type 0} (x : Symbol) (ts r : Tokens) → take_word x ts ≡ Fails Deep r → G
word_not_deep x [] r h = wrong_not_deep {A = Token} [] r h
word_not_deep {G} x (t ∷ ts) r h = by_test (chosen (same t.symbol x) _ _ (Fails Deep r) h)
  where
    by_test : ((same t.symbol x ≡ true) × (found {A = Token} t ts ≡ fails Deep r)) ⊎ ((same t.symbol x ≡ false) × (fails {A = Token} Wrong (t ∷ ts) ≡ Fails Deep r)) → G
    by_test (inl u) = found_not t ts r Deep u.1
    by_test (inr u) = wrong_not_deep {A = Token} (t ∷ ts) r u.1

abbrev pub places_fork : {A : Type 0} → ℕ → Symbol → Placing A → Placing A → Placing A
places_fork k x P Q y us = (t : Token) × (b : List Placed) × (t.symbol ≡ x) × (((us ≡ (k, t) ∷ b) × P y b) ⊎ ((us ≡ (suc k, t) ∷ b) × Q y b))

-- a symbol that is too deep goes on with what is nested
module _ {A : Type 0} (D k : ℕ) (x : Symbol) (f : Set) (full : Bool) (P : Placing A) (R : Reader A) (Q : Placing A) (T : Reader A) (L : Deeper D P R) (M : Deeper D Q T) (some : Sampled Q)
    (room : k ≤ D) (at_bound : full ≡ true → D ≤ k) (more_room : full ≡ false → suc k ≤ D) where
  deeper_fork : Deeper D (places_fork k x P Q) (take_fork full x f R T)
  deeper_fork ts r h = by_word (deep_cases (take_word x ts) (λ t rest. cond (starts f rest) (R rest) (cond full (Fails Deep ts) (T rest))) r h)
    where
      second : (t : Token) (mid : Tokens) → (ts ≡ t ∷ mid) × (t.symbol ≡ x) → ((full ≡ true) × (fails {A = A} Deep ts ≡ fails Deep r)) ⊎ ((full ≡ false) × (T mid ≡ Fails Deep r)) → DeepAt D (places_fork k x P Q) ts r
      second t mid e (inl c) =
          let er = fails_rest {A = A} Deep Deep ts r c.1 in
          record {
            before = [];
            level = suc k;
            token = t;
            behind = some.1;
            rest = mid;
            tree = some.0;
            front = er;
            next = sym er ∙ e.0;
            within = tt;
            beyond = omega (arith, at_bound c.0);
            placed = (t, some.1, e.1, inr (refl, some.2));
          }
      second t mid e (inr c) =
          let w = M mid r c.1 in
          behind_front D Q (places_fork k x P Q) ts mid r ((suc k, t) ∷ []) e.0 (more_room c.0, tt) w w.tree (t, w.before ++ (w.level, w.token) ∷ w.behind, e.1, inr (refl, w.placed))

      by_test : (t : Token) (mid : Tokens) → (ts ≡ t ∷ mid) × (t.symbol ≡ x) → ((starts f mid ≡ true) × (R mid ≡ Fails Deep r)) ⊎ ((starts f mid ≡ false) × (cond full (Fails Deep ts) (T mid) ≡ Fails Deep r)) → DeepAt D (places_fork k x P Q) ts r
      by_test t mid e (inl c) =
          let w = L mid r c.1 in
          behind_front D P (places_fork k x P Q) ts mid r ((k, t) ∷ []) e.0 (room, tt) w w.tree (t, w.before ++ (w.level, w.token) ∷ w.behind, e.1, inl (refl, w.placed))
      by_test t mid e (inr c) = second t mid e (chosen full _ _ (Fails Deep r) c.1)

      by_word : ((t : Token) × (mid : Tokens) × (take_word x ts ≡ Found t mid) × (cond (starts f mid) (R mid) (cond full (Fails Deep ts) (T mid)) ≡ Fails Deep r)) ⊎ (take_word x ts ≡ Fails Deep r) → DeepAt D (places_fork k x P Q) ts r
      by_word (inl u) = by_test u.0 u.1 (word_taken x ts u.0 u.1 u.2) (chosen (starts f u.1) _ _ (Fails Deep r) u.3)
      by_word (inr u) = word_not_deep x ts r u

module _ (first_of : Nest → Set) (empty_of : Nest → Bool) (more_of : Nest → Set) (full : Bool)
    (S : (n : Nest) → Spelling (Tree n)) (R : (n : Nest) → Reader (Tree n)) (nested : (n : Nest) → Good (S n) (R n) (first_of n) (empty_of n) (more_of n))
    (none_left : (n : Nest) → full ≡ true → empty_of n ≡ false → (x : Tree n) (ts : Tokens) → S n x ts → ⊥)
    (P : (n : Nest) → Placing (Tree n)) (k D : ℕ) (room : k ≤ D) (more_room : full ≡ false → suc k ≤ D)
    (placed : (n : Nest) → Places D (P n) (S n)) where
  room_for : (n : Nest) → empty_of n ≡ false → (x : Tree n) (ts : Tokens) → S n x ts → suc k ≤ D
  room_for n e x ts s = by_full full refl
    where
      by_full : (b : Bool) → full ≡ b → suc k ≤ D
      by_full true q = absurd (none_left n q e x ts s)
      by_full false q = more_room q

  pub shallow : {A : Type 0} (p : Phrase A) → fine first_of empty_of more_of p ≡ true → Shallow D (places_as P k p) (read_as first_of empty_of full R p)
  shallow p h ts x r e =
      let s = (good first_of empty_of more_of full S R nested none_left p h).sound ts x r e in
      let w = within_as first_of empty_of more_of S P k D room placed room_for p h x s.0 s.2 in
      (w.0, s.1 ∙ ap (λ z. z ++ r) w.1, w.2, w.3)

module _ (first_of : Nest → Set) (empty_of : Nest → Bool) (more_of : Nest → Set) (t₀ : Token) (full : Bool)
    (S : (n : Nest) → Spelling (Tree n)) (R : (n : Nest) → Reader (Tree n)) (nested : (n : Nest) → Good (S n) (R n) (first_of n) (empty_of n) (more_of n))
    (none_left : (n : Nest) → full ≡ true → empty_of n ≡ false → (x : Tree n) (ts : Tokens) → S n x ts → ⊥)
    (P : (n : Nest) → Placing (Tree n)) (k D : ℕ) (room : k ≤ D) (at_bound : full ≡ true → D ≤ k) (more_room : full ≡ false → suc k ≤ D)
    (placed : (n : Nest) → Places D (P n) (S n)) (sample : (n : Nest) → Sampled (P n)) (deeper : (n : Nest) → Deeper D (P n) (R n)) where
  near : {A : Type 0} (p : Phrase A) → fine first_of empty_of more_of p ≡ true → Shallow D (places_as P k p) (read_as first_of empty_of full R p)
  near p h = shallow first_of empty_of more_of full S R nested none_left P k D room more_room placed p h

  pub deeper_as : {A : Type 0} (p : Phrase A) → fine first_of empty_of more_of p ≡ true → Deeper D (places_as P k p) (read_as first_of empty_of full R p)
  deeper_as (word x) h ts r e = word_not_deep x ts r e
  deeper_as (both p q) h ts r e =
      let u = and_parts _ _ h in let v = and_parts _ _ u.1 in
      deeper_both D (places_as P k p) (read_as first_of empty_of full R p) (places_as P k q) (read_as first_of empty_of full R q) (λ us w g. deeper_as p u.0 us w g) (near p u.0) (λ us w g. deeper_as q v.0 us w g)
      (sampled_as t₀ P k sample q) ts r e
  deeper_as (made f p) h ts r e = deeper_made D f (places_as P k p) (read_as first_of empty_of full R p) (λ us w g. deeper_as p h us w g) ts r e
  deeper_as (maybe p) h ts r e =
      let u = and_parts _ _ h in deeper_maybe D (first first_of empty_of p) (places_as P k p) (read_as first_of empty_of full R p) (λ us w g. deeper_as p u.0 us w g) ts r e
  deeper_as (many p) h ts r e =
      let u = and_parts _ _ h in
      deeper_many D (first first_of empty_of p) (places_as P k p) (read_as first_of empty_of full R p) (λ us w g. deeper_as p u.0 us w g) (near p u.0) (length ts) ts r e
  deeper_as (either p q) h ts r e =
      let u = and_parts _ _ h in let v = and_parts _ _ u.1 in
      ⊎_elim
      (λ (c : (starts (first first_of empty_of p) ts ≡ true) × (read_as first_of empty_of full R p ts ≡ Fails Deep r)).
      let w = deeper_as p u.0 ts r c.1 in moved D (places_as P k p) (places_as P k (either p q)) ts r w w.tree (inl w.placed))
      (λ c. let w = deeper_as q v.0 ts r c.1 in moved D (places_as P k q) (places_as P k (either p q)) ts r w w.tree (inr w.placed))
      (chosen (starts (first first_of empty_of p) ts) _ _ (Fails Deep r) e)
  deeper_as (nest n) h ts r e = deeper n ts r e
  deeper_as (fork x n p) h ts r e =
      let u = and_parts _ _ h in
      deeper_fork D k x (first first_of empty_of p) full (places_as P k p) (read_as first_of empty_of full R p) (P n) (R n) (λ us w g. deeper_as p u.0 us w g) (deeper n)
      (sample n) room at_bound more_room ts r e
