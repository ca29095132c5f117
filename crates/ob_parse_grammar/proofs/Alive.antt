-- What is left where a reading fails: the front can go on to a whole phrase.
use Rattle.std.proofs.Common.{◌≡◌, refl, sym, ap, subst, ◌∙◌, ℕ, zero, suc, ◌<◌, Bool, true, false, ◌||◌, ◌&&◌, not, cond, List, [], ◌∷◌, ◌++◌, length, Option, Some, None, ◌⊎◌, inl, inr, ⊎_elim, arith, append_assoc, length-append, append-nil}
use Rattle.std.proofs.lemmas.Bool.{and_parts}
use Rattle.ob_tree.specs.declared.symbol.Symbol.{Symbol}
use Rattle.ob_tree.specs.declared.token.Token.{Token}
use Rattle.ob_parse_grammar.specs.Phrase.{Tokens, same, Nest, Tree, Phrase, word, both, made, maybe, many, either, nest, fork, Spelling, spells_as, spells_many, spells_maybe, spells_fork}
use Rattle.ob_parse_grammar.specs.Reading.{Fault, Read, Found, Fails, Wrong, Deep, ◌>>=◌, Set, starts, Reader, take_word, take_many, take_fork, may_be_empty, first, read_as}
use Rattle.ob_parse_grammar.proofs.Basics.{chosen, false_not_true, stops_left, stops_right, stops_when}
use Rattle.ob_parse_grammar.proofs.Exact.{Good, word_taken}
use Rattle.ob_parse_grammar.proofs.Fine.{fine, good, more}
use Rattle.ob_parse_grammar.proofs.Local.{Local, Takes, bind_cases, local_word, local_bind, local_found, local_if, local_many, local_fork}

starts_length : (f : Set) (a : Tokens) → starts f a ≡ true → 0 < length a
starts_length f [] h = absurd (false_not_true false refl h)
starts_length f (t ∷ a) h = omega arith

takes_of : {A : Type 0} (S : Spelling A) (P : Reader A) (f : Set) (e : Bool) (m : Set) → Good S P f e m → e ≡ false → Takes f P
takes_of S P f e m G no_e = record {
  falls = λ ts x r st h.
      let s = G.sound ts x r h in
      let b = ⊎_elim (λ (v : (s.0 ≡ []) × (e ≡ true)). absurd (false_not_true _ no_e v.1)) (λ v. starts_length _ s.0 v) (G.begins x s.0 s.2) in
      omega (arith, ap length s.1, length-append s.0 r);
}

not_false : (b : Bool) → not b ≡ true → b ≡ false
not_false true e = sym e
not_false false e = refl

-- more levels change nothing but where it was too deep
abbrev pub Grows : {A : Type 0} → Reader A → Reader A → Type 0
Grows {A} P P' = (ts : Tokens) → ((r : Tokens) × (P ts ≡ Fails Deep r)) ⊎ (P' ts ≡ P ts)

grows_bind : {A B : Type 0} (P P' : Reader A) (Q Q' : A → Reader B) → Grows P P' → ((x : A) → Grows (Q x) (Q' x)) → Grows (λ ts. P ts >>= Q) (λ ts. P' ts >>= Q')
grows_bind {A} {B} P P' Q Q' G H ts = by_first (P ts) refl (G ts)
  where
    by_first : (u : Read A) → P ts ≡ u → ((r : Tokens) × (P ts ≡ Fails Deep r)) ⊎ (P' ts ≡ P ts) → ((r : Tokens) × ((P ts >>= Q) ≡ Fails Deep r)) ⊎ ((P' ts >>= Q') ≡ (P ts >>= Q))
    by_first u e (inl d) = inl (d.0, rw d.1 refl)
    by_first (Fails k r) e (inr w) = inr (rw (w, e) refl)
    by_first (Found x r) e (inr w) = ⊎_elim (λ (d : (r' : Tokens) × (Q x r ≡ Fails Deep r')). inl (d.0, rw (e, d.1) refl)) (λ v. inr (rw (w, e) v)) (H x r)

grows_if : {A : Type 0} (f : Set) (P P' Q Q' : Reader A) → Grows P P' → Grows Q Q' → Grows (λ ts. cond (starts f ts) (P ts) (Q ts)) (λ ts. cond (starts f ts) (P' ts) (Q' ts))
grows_if {A} f P P' Q Q' G H ts = by_test (starts f ts)
  where
    by_test : (b : Bool) → ((r : Tokens) × (cond b (P ts) (Q ts) ≡ Fails Deep r)) ⊎ (cond b (P' ts) (Q' ts) ≡ cond b (P ts) (Q ts))
    by_test true = G ts
    by_test false = H ts

grows_many : {A : Type 0} (f : Set) (P P' : Reader A) → Grows P P' → (k : ℕ) → Grows (take_many k f P) (take_many k f P')
grows_many f P P' G zero ts = inr refl
grows_many {A} f P P' G (suc k) ts =
    grows_if f (λ us. P us >>= λ x rest. take_many k f P rest >>= λ xs rest'. Found (x ∷ xs) rest') (λ us. P' us >>= λ x rest. take_many k f P' rest >>= λ xs rest'. Found (x ∷ xs) rest')
    (λ us. Found [] us) (λ us. Found [] us)
    (grows_bind P P' (λ x rest. take_many k f P rest >>= λ xs rest'. Found (x ∷ xs) rest') (λ x rest. take_many k f P' rest >>= λ xs rest'. Found (x ∷ xs) rest') G
    (λ x. grows_bind (take_many k f P) (take_many k f P') (λ xs rest'. Found (x ∷ xs) rest') (λ xs rest'. Found (x ∷ xs) rest') (λ us. grows_many f P P' G k us) (λ xs us. inr refl)))
    (λ us. inr refl) ts

grows_fork : {A : Type 0} (x : Symbol) (f : Set) (P P' Q Q' : Reader A) → Grows P P' → Grows Q Q' → (full full' : Bool) → (full ≡ false → full' ≡ false) → Grows (take_fork full x f P Q) (take_fork full' x f P' Q')
grows_fork {A} x f P P' Q Q' G H full full' less ts = by_word (take_word x ts)
  where
    by_full : (us : Tokens) (c c' : Bool) → (c ≡ false → c' ≡ false) → ((r : Tokens) × (cond c (Fails Deep ts) (Q us) ≡ Fails Deep r)) ⊎ (cond c' (Fails Deep ts) (Q' us) ≡ cond c (Fails Deep ts) (Q us))
    by_full us true c' l = inl (ts, refl)
    by_full us false true l = absurd (false_not_true true (l refl) refl)
    by_full us false false l = H us

    by_test : (us : Tokens) (b : Bool) → ((r : Tokens) × (cond b (P us) (cond full (Fails Deep ts) (Q us)) ≡ Fails Deep r)) ⊎ (cond b (P' us) (cond full' (Fails Deep ts) (Q' us)) ≡ cond b (P us) (cond full (Fails Deep ts) (Q us)))
    by_test us true = G us
    by_test us false = by_full us full full' less

    by_word : (u : Read Token) → ((r : Tokens) × ((u >>= λ t rest. cond (starts f rest) (P rest) (cond full (Fails Deep ts) (Q rest))) ≡ Fails Deep r))
        ⊎ ((u >>= λ t rest. cond (starts f rest) (P' rest) (cond full' (Fails Deep ts) (Q' rest))) ≡ (u >>= λ t rest. cond (starts f rest) (P rest) (cond full (Fails Deep ts) (Q rest))))
    by_word (Fails k r) = inr refl
    by_word (Found t us) = by_test us (starts f us)

-- a fact of two spellings
abbrev pub Raises : {A : Type 0} → Spelling A → Spelling A → Type 0
Raises {A} S S' = (x : A) (ts : Tokens) → S x ts → S' x ts

raise_many : {A : Type 0} (S S' : Spelling A) → Raises S S' → Raises (spells_many S) (spells_many S')
raise_many S S' R [] ts s = s
raise_many S S' R (x ∷ xs) ts s = (s.0, s.1, s.2, R x s.0 s.3, raise_many S S' R xs s.1 s.4)

pub raise_as : (S S' : (n : Nest) → Spelling (Tree n)) → ((n : Nest) → Raises (S n) (S' n)) → {A : Type 0} (p : Phrase A) → Raises (spells_as S p) (spells_as S' p)
raise_as S S' R (word x) t ts s = s
raise_as S S' R (both p q) x ts s = (s.0, s.1, s.2, raise_as S S' R p x.0 s.0 s.3, raise_as S S' R q x.1 s.1 s.4)
raise_as S S' R (made f p) x ts s = (s.0, s.1, raise_as S S' R p s.0 ts s.2)
raise_as S S' R (maybe p) None ts s = s
raise_as S S' R (maybe p) (Some x) ts s = raise_as S S' R p x ts s
raise_as S S' R (many p) xs ts s = raise_many (spells_as S p) (spells_as S' p) (λ x us u. raise_as S S' R p x us u) xs ts s
raise_as S S' R (either p q) x ts (inl s) = inl (raise_as S S' R p x ts s)
raise_as S S' R (either p q) x ts (inr s) = inr (raise_as S S' R q x ts s)
raise_as S S' R (nest n) x ts s = R n x ts s
raise_as S S' R (fork w n p) x ts s = (s.0, s.1, s.2, s.3, ⊎_elim (λ u. inl (raise_as S S' R p x s.1 u)) (λ u. inr (R n x s.1 u)) s.4)

-- something is spelled so
abbrev pub Sample : {A : Type 0} → Spelling A → Type 0
Sample {A} S = (x : A) × (ts : Tokens) × S x ts

-- where reading fails, what was taken goes on to a whole phrase
abbrev pub Alive : {A : Type 0} → Spelling A → Reader A → Type 0
Alive {A} S P = (ts : Tokens) (k : Fault) (r : Tokens) → P ts ≡ Fails k r → (a : Tokens) × (c : Tokens) × (x : A) × (ts ≡ a ++ r) × S x (a ++ c)

abbrev pub fails : {A : Type 0} → Fault → Tokens → Read A
fails k r = Fails k r

pub fails_rest : {A : Type 0} (k k' : Fault) (r r' : Tokens) → fails {A = A} k r ≡ fails k' r' → r ≡ r'
fails_rest k k' r r' e = cc

module _ (first_of : Nest → Set) (empty_of : Nest → Bool) (more_of : Nest → Set) (t₀ : Token) where
  abbrev tok : Symbol → Token
  tok x = record t₀ { symbol = x }

  module _ (S : (n : Nest) → Spelling (Tree n)) (sample : (n : Nest) → Sample (S n)) where
    pub sample_as : {A : Type 0} (p : Phrase A) → Sample (spells_as S p)
    sample_as (word x) = (tok x, tok x ∷ [], (refl, refl))
    sample_as (both p q) = let a = sample_as p in let b = sample_as q in ((a.0, b.0), a.1 ++ b.1, (a.1, b.1, refl, a.2, b.2))
    sample_as (made f p) = let a = sample_as p in (f a.0, a.1, (a.0, refl, a.2))
    sample_as (maybe p) = (None, [], refl)
    sample_as (many p) = ([], [], refl)
    sample_as (either p q) = let a = sample_as p in (a.0, a.1, inl a.2)
    sample_as (nest n) = sample n
    sample_as (fork x n p) = let a = sample_as p in (a.0, tok x ∷ a.1, (tok x, a.1, refl, refl, inl a.2))

  module _ (full : Bool) (S : (n : Nest) → Spelling (Tree n)) (R : (n : Nest) → Reader (Tree n)) (nested : (n : Nest) → Good (S n) (R n) (first_of n) (empty_of n) (more_of n))
      (none_left : (n : Nest) → full ≡ true → empty_of n ≡ false → (x : Tree n) (ts : Tokens) → S n x ts → ⊥) where
    pub local_as : ((n : Nest) → Local (R n)) → {A : Type 0} (p : Phrase A) → fine first_of empty_of more_of p ≡ true → Local (read_as first_of empty_of full R p)
    local_as L (word x) h = local_word x
    local_as L (both p q) h =
        let u = and_parts _ _ h in let v = and_parts _ _ u.1 in
        local_bind (read_as first_of empty_of full R p) (λ x rest. read_as first_of empty_of full R q rest >>= λ y rest'. Found (x, y) rest') (local_as L p u.0)
        (λ x. local_bind (read_as first_of empty_of full R q) (λ y rest'. Found (x, y) rest') (local_as L q v.0) (λ y. local_found (x, y)))
    local_as L (made f p) h = local_bind (read_as first_of empty_of full R p) (λ x rest. Found (f x) rest) (local_as L p h) (λ x. local_found (f x))
    local_as L (maybe p) h =
        let u = and_parts _ _ h in
        local_if (first first_of empty_of p) (λ ts. read_as first_of empty_of full R p ts >>= λ x rest. Found (Some x) rest) (λ ts. Found None ts)
        (local_bind (read_as first_of empty_of full R p) (λ x rest. Found (Some x) rest) (local_as L p u.0) (λ x. local_found (Some x))) (local_found None)
    local_as L (many p) h =
        let u = and_parts _ _ h in let v = and_parts _ _ u.1 in
        local_many (first first_of empty_of p) (read_as first_of empty_of full R p) (local_as L p u.0)
        (takes_of (spells_as S p) (read_as first_of empty_of full R p) (first first_of empty_of p) (may_be_empty first_of empty_of p) (more first_of empty_of more_of p) (good first_of empty_of more_of full S R nested none_left p u.0) (not_false _ v.0))
    local_as L (either p q) h =
        let u = and_parts _ _ h in let v = and_parts _ _ u.1 in
        local_if (first first_of empty_of p) (read_as first_of empty_of full R p) (read_as first_of empty_of full R q) (local_as L p u.0) (local_as L q v.0)
    local_as L (nest n) h = L n
    local_as L (fork x n p) h =
        let u = and_parts _ _ h in local_fork x (first first_of empty_of p) (read_as first_of empty_of full R p) (R n) (local_as L p u.0) (L n) full

    pub grows_as : (full' : Bool) → (full ≡ false → full' ≡ false) → (R' : (n : Nest) → Reader (Tree n)) → ((n : Nest) → Grows (R n) (R' n)) → {A : Type 0} (p : Phrase A) → Grows (read_as first_of empty_of full R p) (read_as first_of empty_of full' R' p)
    grows_as full' less R' G (word x) ts = inr refl
    grows_as full' less R' G (both p q) ts =
        grows_bind (read_as first_of empty_of full R p) (read_as first_of empty_of full' R' p) (λ x rest. read_as first_of empty_of full R q rest >>= λ y rest'. Found (x, y) rest') (λ x rest. read_as first_of empty_of full' R' q rest >>= λ y rest'. Found (x, y) rest')
        (λ us. grows_as full' less R' G p us)
        (λ x. grows_bind (read_as first_of empty_of full R q) (read_as first_of empty_of full' R' q) (λ y rest'. Found (x, y) rest') (λ y rest'. Found (x, y) rest') (λ us. grows_as full' less R' G q us) (λ y us. inr refl)) ts
    grows_as full' less R' G (made f p) ts =
        grows_bind (read_as first_of empty_of full R p) (read_as first_of empty_of full' R' p) (λ x rest. Found (f x) rest) (λ x rest. Found (f x) rest) (λ us. grows_as full' less R' G p us) (λ x us. inr refl) ts
    grows_as full' less R' G (maybe p) ts =
        grows_if (first first_of empty_of p) (λ us. read_as first_of empty_of full R p us >>= λ x rest. Found (Some x) rest) (λ us. read_as first_of empty_of full' R' p us >>= λ x rest. Found (Some x) rest) (λ us. Found None us) (λ us. Found None us)
        (grows_bind (read_as first_of empty_of full R p) (read_as first_of empty_of full' R' p) (λ x rest. Found (Some x) rest) (λ x rest. Found (Some x) rest) (λ us. grows_as full' less R' G p us) (λ x us. inr refl)) (λ us. inr refl) ts
    grows_as full' less R' G (many p) ts = grows_many (first first_of empty_of p) (read_as first_of empty_of full R p) (read_as first_of empty_of full' R' p) (λ us. grows_as full' less R' G p us) (length ts) ts
    grows_as full' less R' G (either p q) ts =
        grows_if (first first_of empty_of p) (read_as first_of empty_of full R p) (read_as first_of empty_of full' R' p) (read_as first_of empty_of full R q) (read_as first_of empty_of full' R' q) (λ us. grows_as full' less R' G p us) (λ us. grows_as full' less R' G q us) ts
    grows_as full' less R' G (nest n) ts = G n ts
    grows_as full' less R' G (fork x n p) ts =
        grows_fork x (first first_of empty_of p) (read_as first_of empty_of full R p) (read_as first_of empty_of full' R' p) (R n) (R' n) (λ us. grows_as full' less R' G p us) (λ us. G n us) full full' less ts

-- what is found is spelled
abbrev pub Finds : {A : Type 0} → Spelling A → Reader A → Type 0
Finds {A} S P = (ts : Tokens) (x : A) (r : Tokens) → P ts ≡ Found x r → (a : Tokens) × (ts ≡ a ++ r) × S x a

abbrev pub found : {A : Type 0} → A → Tokens → Read A
found x r = Found x r

pub found_not : {A : Type 0} {G : Type 0} (x : A) (r r' : Tokens) (k : Fault) → Found x r ≡ Fails k r' → G
found_not x r r' k e = let none : ⊥ = cc in absurd none

alive_made : {A B : Type 0} (f : A → B) (S : Spelling A) (P : Reader A) → Alive S P → Alive {A = B} (λ y ts. (x : A) × (f x ≡ y) × S x ts) (λ ts. P ts >>= λ x rest. Found (f x) rest)
alive_made {A} {B} f S P L ts k r h = by_cases (bind_cases (P ts) (λ x rest. Found (f x) rest) (Fails k r) h)
  where
    by_cases : ((x : A) × (mid : Tokens) × (P ts ≡ Found x mid) × (found {A = B} (f x) mid ≡ fails k r)) ⊎ ((j : Fault) × (mid : Tokens) × (P ts ≡ Fails j mid) × (fails {A = B} j mid ≡ fails k r))
        → (a : Tokens) × (c : Tokens) × (y : B) × (ts ≡ a ++ r) × ((x : A) × (f x ≡ y) × S x (a ++ c))
    by_cases (inl u) = found_not (f u.0) u.1 r k u.3
    by_cases (inr u) = let w = L ts u.0 u.1 u.2 in let e = fails_rest {A = B} u.0 k u.1 r u.3 in (w.0, w.1, f w.2, w.3 ∙ ap (λ z. w.0 ++ z) e, (w.2, refl, w.4))

abbrev pairs : {A B : Type 0} → Reader B → A → Reader (A × B)
pairs {A} {B} Q x ts = Q ts >>= λ y rest. found {A = A × B} (x, y) rest

alive_both : {A B : Type 0} (S : Spelling A) (P : Reader A) (T : Spelling B) (Q : Reader B) → Alive S P → Finds S P → Alive T Q → Sample T
    → Alive {A = A × B} (λ x ts. (a : Tokens) × (b : Tokens) × (ts ≡ a ++ b) × S x.0 a × T x.1 b) (λ ts. P ts >>= λ x rest. pairs Q x rest)
alive_both {A} {B} S P T Q L F M some ts k r h = by_cases (bind_cases (P ts) (pairs Q) (Fails k r) h)
  where
    second : (x : A) (mid : Tokens) → P ts ≡ Found x mid → ((y : B) × (end : Tokens) × (Q mid ≡ Found y end) × (found {A = A × B} (x, y) end ≡ fails k r)) ⊎ ((j : Fault) × (end : Tokens) × (Q mid ≡ Fails j end) × (fails {A = A × B} j end ≡ fails k r))
        → (a : Tokens) × (c : Tokens) × (x : A × B) × (ts ≡ a ++ r) × ((a' : Tokens) × (b : Tokens) × (a ++ c ≡ a' ++ b) × S x.0 a' × T x.1 b)
    second x mid e (inl u) = found_not (x, u.0) u.1 r k u.3
    second x mid e (inr u) =
        let s = F ts x mid e in let w = M mid u.0 u.1 u.2 in
        let er = fails_rest {A = A × B} u.0 k u.1 r u.3 in (
          s.0 ++ w.0,
          w.1,
          (x, w.2),
          s.1 ∙ ap (λ z. s.0 ++ z) (w.3 ∙ ap (λ z. w.0 ++ z) er) ∙ sym (append_assoc s.0 w.0 r),
          (s.0, w.0 ++ w.1, append_assoc s.0 w.0 w.1, s.2, w.4),
        )

    by_cases : ((x : A) × (mid : Tokens) × (P ts ≡ Found x mid) × (pairs Q x mid ≡ fails k r)) ⊎ ((j : Fault) × (mid : Tokens) × (P ts ≡ Fails j mid) × (fails {A = A × B} j mid ≡ fails k r))
        → (a : Tokens) × (c : Tokens) × (x : A × B) × (ts ≡ a ++ r) × ((a' : Tokens) × (b : Tokens) × (a ++ c ≡ a' ++ b) × S x.0 a' × T x.1 b)
    by_cases (inl u) = second u.0 u.1 u.2 (bind_cases (Q u.1) (λ y rest'. found {A = A × B} (u.0, y) rest') (Fails k r) u.3)
    by_cases (inr u) =
        let w = L ts u.0 u.1 u.2 in let e = fails_rest {A = A × B} u.0 k u.1 r u.3 in
        (w.0, w.1 ++ some.1, (w.2, some.0), w.3 ∙ ap (λ z. w.0 ++ z) e, (w.0 ++ w.1, some.1, sym (append_assoc w.0 w.1 some.1), w.4, some.2))

alive_maybe : {A : Type 0} (f : Set) (S : Spelling A) (P : Reader A) → Alive S P → Alive (spells_maybe S) (λ ts. cond (starts f ts) (P ts >>= λ x rest. Found (Some x) rest) (Found None ts))
alive_maybe {A} f S P L ts k r h = by_test (chosen (starts f ts) _ _ (Fails k r) h)
  where
    by_test : ((starts f ts ≡ true) × ((P ts >>= λ x rest. Found (Some x) rest) ≡ Fails k r)) ⊎ ((starts f ts ≡ false) × (found {A = Option A} None ts ≡ fails k r)) → (a : Tokens) × (c : Tokens) × (x : Option A) × (ts ≡ a ++ r) × spells_maybe S x (a ++ c)
    by_test (inl u) =
        let w = alive_made (λ x. Some x) S P L ts k r u.1 in
        let K : Option A → Type 0 = λ o. spells_maybe S o (w.0 ++ w.1) in
        (w.0, w.1, w.2, w.3, subst K w.4.1 w.4.2)
    by_test (inr u) = found_not None ts r k u.1

alive_many : {A : Type 0} (f : Set) (S : Spelling A) (P : Reader A) → Alive S P → Finds S P → (n : ℕ) → Alive (spells_many S) (take_many n f P)
alive_many f S P L F zero ts k r h = found_not [] ts r k h
alive_many {A} f S P L F (suc n) ts k r h = by_test (chosen (starts f ts) _ _ (Fails k r) h) (λ us j w g. alive_many f S P L F n us j w g)
  where
    more : (x : A) (mid : Tokens) → P ts ≡ Found x mid → Alive (spells_many S) (take_many n f P)
        → ((ys : List A) × (end : Tokens) × (take_many n f P mid ≡ Found ys end) × (found {A = List A} (x ∷ ys) end ≡ fails k r)) ⊎ ((j : Fault) × (end : Tokens) × (take_many n f P mid ≡ Fails j end) × (fails {A = List A} j end ≡ fails k r))
        → (a : Tokens) × (c : Tokens) × (xs : List A) × (ts ≡ a ++ r) × spells_many S xs (a ++ c)
    more x mid e rest (inl u) = found_not (x ∷ u.0) u.1 r k u.3
    more x mid e rest (inr u) =
        let s = F ts x mid e in let w = rest mid u.0 u.1 u.2 in
        let er = fails_rest {A = List A} u.0 k u.1 r u.3 in (
          s.0 ++ w.0,
          w.1,
          x ∷ w.2,
          s.1 ∙ ap (λ z. s.0 ++ z) (w.3 ∙ ap (λ z. w.0 ++ z) er) ∙ sym (append_assoc s.0 w.0 r),
          (s.0, w.0 ++ w.1, append_assoc s.0 w.0 w.1, s.2, w.4),
        )

    by_cases : Alive (spells_many S) (take_many n f P) → ((x : A) × (mid : Tokens) × (P ts ≡ Found x mid) × ((take_many n f P mid >>= λ ys rest'. Found (x ∷ ys) rest') ≡ Fails k r)) ⊎ ((j : Fault) × (mid : Tokens) × (P ts ≡ Fails j mid) × (fails {A = List A} j mid ≡ fails k r))
        → (a : Tokens) × (c : Tokens) × (xs : List A) × (ts ≡ a ++ r) × spells_many S xs (a ++ c)
    by_cases rest (inl u) = more u.0 u.1 u.2 rest (bind_cases (take_many n f P u.1) (λ ys rest'. Found (u.0 ∷ ys) rest') (Fails k r) u.3)
    by_cases rest (inr u) =
        let w = L ts u.0 u.1 u.2 in let e = fails_rest {A = List A} u.0 k u.1 r u.3 in
        (w.0, w.1, w.2 ∷ [], w.3 ∙ ap (λ z. w.0 ++ z) e, (w.0 ++ w.1, [], sym (append-nil (w.0 ++ w.1)), w.4, refl))

    by_test : ((starts f ts ≡ true) × ((P ts >>= λ x rest. take_many n f P rest >>= λ ys rest'. Found (x ∷ ys) rest') ≡ Fails k r)) ⊎ ((starts f ts ≡ false) × (found {A = List A} [] ts ≡ fails k r)) → Alive (spells_many S) (take_many n f P)
        → (a : Tokens) × (c : Tokens) × (xs : List A) × (ts ≡ a ++ r) × spells_many S xs (a ++ c)
    by_test (inl u) rest = by_cases rest (bind_cases (P ts) (λ x us. take_many n f P us >>= λ ys rest'. Found (x ∷ ys) rest') (Fails k r) u.1)
    by_test (inr u) rest = found_not [] ts r k u.1

word_rest : (x : Symbol) (ts : Tokens) (k : Fault) (r : Tokens) → take_word x ts ≡ Fails k r → ts ≡ r
word_rest x [] k r h = fails_rest {A = Token} Wrong k [] r h
word_rest x (t ∷ ts) k r h = by_test (chosen (same t.symbol x) _ _ (Fails k r) h)
  where
    by_test : ((same t.symbol x ≡ true) × (found {A = Token} t ts ≡ fails k r)) ⊎ ((same t.symbol x ≡ false) × (fails {A = Token} Wrong (t ∷ ts) ≡ fails k r)) → t ∷ ts ≡ r
    by_test (inl u) = found_not t ts r k u.1
    by_test (inr u) = fails_rest {A = Token} Wrong k (t ∷ ts) r u.1

-- a front before r goes on to a whole phrase
abbrev GoesOnAt : {A : Type 0} → Spelling A → Tokens → Tokens → Type 0
GoesOnAt {A} S ts r = (a : Tokens) × (c : Tokens) × (y : A) × (ts ≡ a ++ r) × S y (a ++ c)

-- where it was not there, or too deep, the symbol and a sample of the first phrase go on
alive_fork : {A : Type 0} (w : Token) (f : Set) (full : Bool) (S : Spelling A) (P : Reader A) (T : Spelling A) (Q : Reader A) → Alive S P → Alive T Q → Sample S → Alive (spells_fork w.symbol S T) (take_fork full w.symbol f P Q)
alive_fork {A} w f full S P T Q L M some ts k r h = by_word (bind_cases (take_word w.symbol ts) (λ t rest. cond (starts f rest) (P rest) (cond full (Fails Deep ts) (Q rest))) (Fails k r) h)
  where
    at_once : ts ≡ r → GoesOnAt (spells_fork w.symbol S T) ts r
    at_once e = ([], w ∷ some.1, some.0, e, (w, some.1, refl, refl, inl some.2))

    second : (t : Token) (mid : Tokens) → (ts ≡ t ∷ mid) × (t.symbol ≡ w.symbol) → ((full ≡ true) × (fails {A = A} Deep ts ≡ fails k r)) ⊎ ((full ≡ false) × (Q mid ≡ Fails k r)) → GoesOnAt (spells_fork w.symbol S T) ts r
    second t mid e (inl c) = at_once (fails_rest {A = A} Deep k ts r c.1)
    second t mid e (inr c) = let v = M mid k r c.1 in (t ∷ v.0, v.1, v.2, e.0 ∙ ap (λ z. t ∷ z) v.3, (t, v.0 ++ v.1, refl, e.1, inr v.4))

    by_test : (t : Token) (mid : Tokens) → (ts ≡ t ∷ mid) × (t.symbol ≡ w.symbol) → ((starts f mid ≡ true) × (P mid ≡ Fails k r)) ⊎ ((starts f mid ≡ false) × (cond full (Fails Deep ts) (Q mid) ≡ Fails k r)) → GoesOnAt (spells_fork w.symbol S T) ts r
    by_test t mid e (inl c) = let v = L mid k r c.1 in (t ∷ v.0, v.1, v.2, e.0 ∙ ap (λ z. t ∷ z) v.3, (t, v.0 ++ v.1, refl, e.1, inl v.4))
    by_test t mid e (inr c) = second t mid e (chosen full _ _ (Fails k r) c.1)

    by_word : ((t : Token) × (mid : Tokens) × (take_word w.symbol ts ≡ Found t mid) × (cond (starts f mid) (P mid) (cond full (Fails Deep ts) (Q mid)) ≡ Fails k r)) ⊎ ((j : Fault) × (mid : Tokens) × (take_word w.symbol ts ≡ Fails j mid) × (fails {A = A} j mid ≡ fails k r)) → GoesOnAt (spells_fork w.symbol S T) ts r
    by_word (inl u) = by_test u.0 u.1 (word_taken w.symbol ts u.0 u.1 u.2) (chosen (starts f u.1) _ _ (Fails k r) u.3)
    by_word (inr u) = at_once (word_rest w.symbol ts u.0 u.1 u.2 ∙ fails_rest {A = A} u.0 k u.1 r u.3)

module _ (first_of : Nest → Set) (empty_of : Nest → Bool) (more_of : Nest → Set) (t₀ : Token) (full : Bool)
    (S : (n : Nest) → Spelling (Tree n)) (R : (n : Nest) → Reader (Tree n)) (nested : (n : Nest) → Good (S n) (R n) (first_of n) (empty_of n) (more_of n))
    (none_left : (n : Nest) → full ≡ true → empty_of n ≡ false → (x : Tree n) (ts : Tokens) → S n x ts → ⊥)
    (S' : (n : Nest) → Spelling (Tree n)) (raise : (n : Nest) → Raises (S n) (S' n)) (sample : (n : Nest) → Sample (S' n)) (alive : (n : Nest) → Alive (S' n) (R n)) where
  finds : {A : Type 0} (p : Phrase A) → fine first_of empty_of more_of p ≡ true → Finds (spells_as S' p) (read_as first_of empty_of full R p)
  finds p h ts x r e = let s = (good first_of empty_of more_of full S R nested none_left p h).sound ts x r e in (s.0, s.1, raise_as S S' raise p x s.0 s.2)

  pub alive_as : {A : Type 0} (p : Phrase A) → fine first_of empty_of more_of p ≡ true → Alive (spells_as S' p) (read_as first_of empty_of full R p)
  alive_as (word x) h ts k r e = ([], tok first_of empty_of more_of t₀ x ∷ [], tok first_of empty_of more_of t₀ x, word_rest x ts k r e, (refl, refl))
  alive_as (both p q) h ts k r e =
      let u = and_parts _ _ h in let v = and_parts _ _ u.1 in
      alive_both (spells_as S' p) (read_as first_of empty_of full R p) (spells_as S' q) (read_as first_of empty_of full R q) (λ us j w g. alive_as p u.0 us j w g) (finds p u.0) (λ us j w g. alive_as q v.0 us j w g)
      (sample_as first_of empty_of more_of t₀ S' sample q) ts k r e
  alive_as (made f p) h ts k r e = alive_made f (spells_as S' p) (read_as first_of empty_of full R p) (λ us j w g. alive_as p h us j w g) ts k r e
  alive_as (maybe p) h ts k r e =
      let u = and_parts _ _ h in alive_maybe (first first_of empty_of p) (spells_as S' p) (read_as first_of empty_of full R p) (λ us j w g. alive_as p u.0 us j w g) ts k r e
  alive_as (many p) h ts k r e =
      let u = and_parts _ _ h in
      alive_many (first first_of empty_of p) (spells_as S' p) (read_as first_of empty_of full R p) (λ us j w g. alive_as p u.0 us j w g) (finds p u.0) (length ts) ts k r e
  alive_as (either p q) h ts k r e =
      let u = and_parts _ _ h in let v = and_parts _ _ u.1 in
      ⊎_elim (λ (c : (starts (first first_of empty_of p) ts ≡ true) × (read_as first_of empty_of full R p ts ≡ Fails k r)). let w = alive_as p u.0 ts k r c.1 in (w.0, w.1, w.2, w.3, inl w.4))
      (λ c. let w = alive_as q v.0 ts k r c.1 in (w.0, w.1, w.2, w.3, inr w.4)) (chosen (starts (first first_of empty_of p) ts) _ _ (Fails k r) e)
  alive_as (nest n) h ts k r e = alive n ts k r e
  alive_as (fork x n p) h ts k r e =
      let u = and_parts _ _ h in
      alive_fork (tok first_of empty_of more_of t₀ x) (first first_of empty_of p) full (spells_as S' p) (read_as first_of empty_of full R p) (S' n) (R n) (λ us j w g. alive_as p u.0 us j w g) (alive n)
      (sample_as first_of empty_of more_of t₀ S' sample p) ts k r e

-- what can be spelled with nothing nested
abbrev pub easy : {A : Type 0} → Phrase A → Bool
easy (word x) = true
easy (both p q) = easy p && easy q
easy (made f p) = easy p
easy (maybe p) = true
easy (many p) = true
easy (either p q) = easy p
easy (nest n) = false
easy (fork x n p) = easy p

pub sample_easy : Token → (S : (n : Nest) → Spelling (Tree n)) → {A : Type 0} (p : Phrase A) → easy p ≡ true → Sample (spells_as S p)
sample_easy t₀ S (word x) h = (record t₀ { symbol = x }, record t₀ { symbol = x } ∷ [], (refl, refl))
sample_easy t₀ S (both p q) h = let u = and_parts _ _ h in let a = sample_easy t₀ S p u.0 in let b = sample_easy t₀ S q u.1 in ((a.0, b.0), a.1 ++ b.1, (a.1, b.1, refl, a.2, b.2))
sample_easy t₀ S (made f p) h = let a = sample_easy t₀ S p h in (f a.0, a.1, (a.0, refl, a.2))
sample_easy t₀ S (maybe p) h = (None, [], refl)
sample_easy t₀ S (many p) h = ([], [], refl)
sample_easy t₀ S (either p q) h = let a = sample_easy t₀ S p h in (a.0, a.1, inl a.2)
sample_easy t₀ S (nest n) h = absurd (false_not_true false refl h)
sample_easy t₀ S (fork x n p) h = let a = sample_easy t₀ S p h in (a.0, record t₀ { symbol = x } ∷ a.1, (record t₀ { symbol = x }, a.1, refl, refl, inl a.2))

-- what reads nothing where it does not start
abbrev pub idle : {A : Type 0} → Phrase A → Bool
idle (word x) = false
idle (both p q) = false
idle (made f p) = false
idle (maybe p) = true
idle (many p) = false
idle (either p q) = false
idle (nest n) = false
idle (fork x n p) = false

idle_empty : (first_of : Nest → Set) (empty_of : Nest → Bool) {A : Type 0} (p : Phrase A) → idle p ≡ true → may_be_empty first_of empty_of p ≡ true
idle_empty first_of empty_of (word x) h = absurd (false_not_true false refl h)
idle_empty first_of empty_of (both p q) h = absurd (false_not_true false refl h)
idle_empty first_of empty_of (made f p) h = absurd (false_not_true false refl h)
idle_empty first_of empty_of (maybe p) h = refl
idle_empty first_of empty_of (many p) h = absurd (false_not_true false refl h)
idle_empty first_of empty_of (either p q) h = absurd (false_not_true false refl h)
idle_empty first_of empty_of (nest n) h = absurd (false_not_true false refl h)
idle_empty first_of empty_of (fork x n p) h = absurd (false_not_true false refl h)

idle_read : (first_of : Nest → Set) (empty_of : Nest → Bool) (full : Bool) (R : (n : Nest) → Reader (Tree n)) {A : Type 0} (p : Phrase A) → idle p ≡ true → (ts : Tokens) → starts (first first_of empty_of p) ts ≡ false
    → (x : A) × (read_as first_of empty_of full R p ts ≡ Found x ts)
idle_read first_of empty_of full R (word x) h ts e = absurd (false_not_true false refl h)
idle_read first_of empty_of full R (both p q) h ts e = absurd (false_not_true false refl h)
idle_read first_of empty_of full R (made f p) h ts e = absurd (false_not_true false refl h)
idle_read first_of empty_of full R (maybe p) h ts e = (None, rw e refl)
idle_read first_of empty_of full R (many p) h ts e = absurd (false_not_true false refl h)
idle_read first_of empty_of full R (either p q) h ts e = absurd (false_not_true false refl h)
idle_read first_of empty_of full R (nest n) h ts e = absurd (false_not_true false refl h)
idle_read first_of empty_of full R (fork x n p) h ts e = absurd (false_not_true false refl h)

-- what begins with something that is not empty
abbrev pub leads : (Nest → Bool) → {A : Type 0} → Phrase A → Bool
leads empty_of (word x) = true
leads empty_of (both p q) = leads empty_of p || (idle p && leads empty_of q)
leads empty_of (made f p) = leads empty_of p
leads empty_of (maybe p) = false
leads empty_of (many p) = false
leads empty_of (either p q) = leads empty_of p && leads empty_of q
leads empty_of (nest n) = not (empty_of n)
leads empty_of (fork x n p) = true

or_cases : (a b : Bool) → (a || b) ≡ true → (a ≡ true) ⊎ (b ≡ true)
or_cases true b e = inl refl
or_cases false b e = inr e

or_off : (a b : Bool) → (a || b) ≡ false → (a ≡ false) × (b ≡ false)
or_off true b e = absurd (false_not_true true e refl)
or_off false b e = (refl, e)

pub off : (first_of : Nest → Set) (empty_of : Nest → Bool) (full : Bool) (R : (n : Nest) → Reader (Tree n)) → ((n : Nest) (ts : Tokens) → empty_of n ≡ false → starts (first_of n) ts ≡ false → R n ts ≡ Fails Wrong ts)
    → {A : Type 0} (p : Phrase A) → leads empty_of p ≡ true → (ts : Tokens) → starts (first first_of empty_of p) ts ≡ false → read_as first_of empty_of full R p ts ≡ Fails Wrong ts
off first_of empty_of full R N (word x) l [] h = refl
off first_of empty_of full R N (word x) l (t ∷ ts) h = rw h refl
off first_of empty_of full R N (both p q) l ts h =
    let front = stops_left (first first_of empty_of p) (λ t. may_be_empty first_of empty_of p && first first_of empty_of q t) ts h in
    let behind = stops_right (first first_of empty_of p) (λ t. may_be_empty first_of empty_of p && first first_of empty_of q t) ts h in
    ⊎_elim (λ c. let e = off first_of empty_of full R N p c ts front in rw e refl)
    (λ c. let u = and_parts _ _ c in
    let i = idle_read first_of empty_of full R p u.0 ts front in
    let e = off first_of empty_of full R N q u.1 ts (stops_when _ _ ts behind (idle_empty first_of empty_of p u.0)) in
    rw (i.1, e) refl)
    (or_cases (leads empty_of p) (idle p && leads empty_of q) l)
off first_of empty_of full R N (made f p) l ts h = let e = off first_of empty_of full R N p l ts h in rw e refl
off first_of empty_of full R N (maybe p) l ts h = absurd (false_not_true false refl l)
off first_of empty_of full R N (many p) l ts h = absurd (false_not_true false refl l)
off first_of empty_of full R N (either p q) l ts h =
    let u = and_parts _ _ l in
    let a = stops_left (first first_of empty_of p) (first first_of empty_of q) ts h in
    let e = off first_of empty_of full R N q u.1 ts (stops_right (first first_of empty_of p) (first first_of empty_of q) ts h) in
    rw a e
off first_of empty_of full R N (nest n) l ts h = N n ts (not_false (empty_of n) l) h
off first_of empty_of full R N (fork x n p) l [] h = refl
off first_of empty_of full R N (fork x n p) l (t ∷ ts) h = rw h refl
