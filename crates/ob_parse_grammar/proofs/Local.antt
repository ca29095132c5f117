-- A reader looks at no token behind the first that it leaves.
use Rattle.std.proofs.Common.{◌≡◌, refl, sym, ap, subst, ◌∙◌, ℕ, zero, suc, ◌≤◌, ◌<◌, Bool, true, false, cond, List, [], ◌∷◌, ◌++◌, length, ◌⊎◌, inl, inr, arith, append_assoc, length-append}
use Rattle.ob_tree.specs.declared.symbol.Symbol.{Symbol}
use Rattle.ob_tree.specs.declared.token.Token.{Token}
use Rattle.ob_parse_grammar.specs.Phrase.{Tokens, same}
use Rattle.ob_parse_grammar.specs.Reading.{Fault, Read, Found, Fails, Wrong, Deep, ◌>>=◌, Set, starts, Reader, take_word, take_many, take_fork}
use Rattle.ob_parse_grammar.proofs.Basics.{chosen, false_not_true}

abbrev pub rest_of : {A : Type 0} → Read A → Tokens
rest_of (Found x r) = r
rest_of (Fails k r) = r

abbrev pub with_rest : {A : Type 0} → Read A → Tokens → Read A
with_rest (Found x r) r' = Found x r'
with_rest (Fails k r) r' = Fails k r'

abbrev pub SameHead : Tokens → Tokens → Type 0
SameHead [] [] = Unit {0}
SameHead [] (u ∷ us) = ⊥
SameHead (t ∷ ts) [] = ⊥
SameHead (t ∷ ts) (u ∷ us) = t ≡ u

-- the same two tokens next
abbrev pub SameTwo : Tokens → Tokens → Type 0
SameTwo [] [] = Unit {0}
SameTwo [] (u ∷ us) = ⊥
SameTwo (t ∷ ts) [] = ⊥
SameTwo (t ∷ ts) (u ∷ us) = (t ≡ u) × SameHead ts us

-- what a reading has looked at of the tokens that it leaves: one, and two where it was too deep
abbrev pub SameFor : Fault → Tokens → Tokens → Type 0
SameFor Wrong r r' = SameHead r r'
SameFor Deep r r' = SameTwo r r'

abbrev pub SameAt : {A : Type 0} → Read A → Tokens → Type 0
SameAt (Found x r) r' = SameHead r r'
SameAt (Fails k r) r' = SameFor k r r'

head_of_two : (r r' : Tokens) → SameTwo r r' → SameHead r r'
head_of_two [] [] h = h
head_of_two [] (u ∷ us) h = h
head_of_two (t ∷ ts) [] h = h
head_of_two (t ∷ ts) (u ∷ us) h = h.0

head_for : (k : Fault) (r r' : Tokens) → SameFor k r r' → SameHead r r'
head_for Wrong r r' h = h
head_for Deep r r' h = head_of_two r r' h

pub head_at : {A : Type 0} (u : Read A) (r' : Tokens) → SameAt u r' → SameHead (rest_of u) r'
head_at (Found x r) r' h = h
head_at (Fails k r) r' h = head_for k r r' h

pub record Here {A : Type 0} (P : Reader A) (ts : Tokens) (u : Read A) : Type 0 where
  pub front : Tokens
  pub is : ts ≡ front ++ rest_of u
  pub again : (r : Tokens) → SameAt u r → P (front ++ r) ≡ with_rest u r

pub record Local {A : Type 0} (P : Reader A) : Type 0 where
  pub here : (ts : Tokens) (u : Read A) → P ts ≡ u → Here P ts u

pub bind_cases : {A B : Type 0} (r : Read A) (f : A → Tokens → Read B) (u : Read B) → (r >>= f) ≡ u
    → ((x : A) × (mid : Tokens) × (r ≡ Found x mid) × (f x mid ≡ u)) ⊎ ((k : Fault) × (mid : Tokens) × (r ≡ Fails k mid) × (Fails k mid ≡ u))
bind_cases (Found x mid) f u e = inl (x, mid, refl, e)
bind_cases (Fails k mid) f u e = inr (k, mid, refl, e)

same_front : (a r r' : Tokens) → SameHead r r' → SameHead (a ++ r) (a ++ r')
same_front [] r r' h = h
same_front (t ∷ a) r r' h = refl

pub same_starts : (f : Set) (r r' : Tokens) → SameHead r r' → starts f r ≡ starts f r'
same_starts f [] [] h = refl
same_starts f [] (u ∷ us) h = absurd h
same_starts f (t ∷ ts) [] h = absurd h
same_starts f (t ∷ ts) (u ∷ us) h = ap (λ w. f w.symbol) h

head_front : (f : Set) (ts a r r' : Tokens) → ts ≡ a ++ r → SameHead r r' → starts f (a ++ r') ≡ starts f ts
head_front f ts a r r' e h = sym (same_starts f (a ++ r) (a ++ r') (same_front a r r' h)) ∙ ap (starts f) (sym e)

pub local_word : (x : Symbol) → Local (take_word x)
local_word x = record { here = at }
  where
    at : (ts : Tokens) (u : Read Token) → take_word x ts ≡ u → Here (take_word x) ts u
    at [] u h = let K : Read Token → Type 0 = Here (take_word x) [] in subst K h (record { front = []; is = refl; again = none })
      where
        none : (r : Tokens) → SameHead [] r → take_word x r ≡ Fails Wrong r
        none [] e = refl
        none (u ∷ us) e = absurd e
    at (t ∷ ts) u h = let K : Read Token → Type 0 = Here (take_word x) (t ∷ ts) in subst K h (by_test (same t.symbol x) refl)
      where
        next : (t : Token) (ts r : Tokens) → same t.symbol x ≡ false → SameHead (t ∷ ts) r → take_word x r ≡ Fails Wrong r
        next t ts [] e h = absurd h
        next t ts (v ∷ vs) e h = let e' : same v.symbol x ≡ false = ap (λ w. same w.symbol x) (sym h) ∙ e in rw e' refl

        by_test : (b : Bool) → same t.symbol x ≡ b → Here (take_word x) (t ∷ ts) (cond b (Found t ts) (Fails Wrong (t ∷ ts)))
        by_test true e = record { front = t ∷ []; is = refl; again = λ r s. rw e refl }
        by_test false e = record { front = []; is = refl; again = λ r s. next t ts r e s }

pub local_found : {A : Type 0} (x : A) → Local (λ ts. Found x ts)
local_found x = record { here = λ ts u h. let K = Here (λ ts. Found x ts) ts in subst K h (record { front = []; is = refl; again = λ r s. refl }) }

pub local_bind : {A B : Type 0} (P : Reader A) (Q : A → Reader B) → Local P → ((x : A) → Local (Q x)) → Local (λ ts. P ts >>= Q)
local_bind {A} {B} P Q L M = record { here = λ ts u h. by_cases ts u (bind_cases (P ts) Q u h) }
  where
    by_cases : (ts : Tokens) (u : Read B) → ((x : A) × (mid : Tokens) × (P ts ≡ Found x mid) × (Q x mid ≡ u)) ⊎ ((k : Fault) × (mid : Tokens) × (P ts ≡ Fails k mid) × (Fails k mid ≡ u)) → Here (λ ts. P ts >>= Q) ts u
    by_cases ts u (inl c) =
        let a = L.here ts (Found c.0 c.1) c.2 in
        let b = (M c.0).here c.1 u c.3 in
        let mid : (r : Tokens) → SameAt u r → SameHead c.1 (b.front ++ r) = λ r s. let K : Tokens → Type 0 = λ w. SameHead w (b.front ++ r) in subst K (sym b.is) (same_front b.front (rest_of u) r (head_at u r s)) in
        record {
          front = a.front ++ b.front;
          is = a.is ∙ ap (λ w. a.front ++ w) b.is ∙ sym (append_assoc a.front b.front (rest_of u));
          again = λ r s.
              let first = a.again (b.front ++ r) (mid r s) in
              let second = b.again r s in
              rw (append_assoc a.front b.front r, first) second;
        }
    by_cases ts u (inr c) =
        let a = L.here ts (Fails c.0 c.1) c.2 in
        let K = Here (λ ts. P ts >>= Q) ts in
        subst K c.3 (record { front = a.front; is = a.is; again = λ r s. rw (a.again r s) refl })

pub local_if : {A : Type 0} (f : Set) (P Q : Reader A) → Local P → Local Q → Local (λ ts. cond (starts f ts) (P ts) (Q ts))
local_if {A} f P Q L M = record { here = λ ts u h. by_test ts u (chosen (starts f ts) _ _ u h) }
  where
    by_test : (ts : Tokens) (u : Read A) → ((starts f ts ≡ true) × (P ts ≡ u)) ⊎ ((starts f ts ≡ false) × (Q ts ≡ u)) → Here (λ ts. cond (starts f ts) (P ts) (Q ts)) ts u
    by_test ts u (inl c) =
        let a = L.here ts u c.1 in
        record { front = a.front; is = a.is; again = λ r s. rw (head_front f ts a.front (rest_of u) r a.is (head_at u r s), c.0) (a.again r s) }
    by_test ts u (inr c) =
        let a = M.here ts u c.1 in
        record { front = a.front; is = a.is; again = λ r s. rw (head_front f ts a.front (rest_of u) r a.is (head_at u r s), c.0) (a.again r s) }

-- what takes a token wherever it starts so
pub record Takes {A : Type 0} (f : Set) (P : Reader A) : Type 0 where
  pub falls : (ts : Tokens) (x : A) (r : Tokens) → starts f ts ≡ true → P ts ≡ Found x r → length r < length ts

-- the same for a loop, whatever bounds it
record Again {A : Type 0} (f : Set) (P : Reader A) (ts : Tokens) (u : Read (List A)) : Type 0 where
  front : Tokens
  is : ts ≡ front ++ rest_of u
  again : (k : ℕ) (r : Tokens) → SameAt u r → length (front ++ r) ≤ k → take_many k f P (front ++ r) ≡ with_rest u r

module _ {A : Type 0} (f : Set) (P : Reader A) (L : Local P) (T : Takes f P) where
  ends : (ts : Tokens) → starts f ts ≡ false → Again f P ts (Found [] ts)
  ends ts h = record { front = []; is = refl; again = at }
    where
      at : (k : ℕ) (r : Tokens) → SameHead ts r → length r ≤ k → take_many k f P r ≡ Found [] r
      at zero r s long = refl
      at (suc k) r s long = let e : starts f r ≡ false = sym (same_starts f ts r s) ∙ h in rw e refl

  nonempty : (ts : Tokens) → starts f ts ≡ true → 0 < length ts
  nonempty [] h = absurd (false_not_true false refl h)
  nonempty (t ∷ ts) h = omega arith

  abbrev rest_loop : ℕ → Reader (List A)
  rest_loop k ts = P ts >>= λ x rest. take_many k f P rest >>= λ xs rest'. Found (x ∷ xs) rest'

  -- one more turn
  turn : (ts : Tokens) (x : A) (mid : Tokens) (a : Here P ts (Found x mid)) (front end r : Tokens) → mid ≡ front ++ end → SameHead end r → starts f ts ≡ true
      → 0 < length a.front → (j : ℕ) → length ((a.front ++ front) ++ r) ≤ suc j
      → (take_many (suc j) f P ((a.front ++ front) ++ r) ≡ (take_many j f P (front ++ r) >>= λ xs rest'. Found (x ∷ xs) rest')) × (length (front ++ r) ≤ j)
  turn ts x mid a front end r e s st grown j len =
      let sh : SameHead mid (front ++ r) = (let K : Tokens → Type 0 = λ w. SameHead w (front ++ r) in subst K (sym e) (same_front front end r s)) in
      let st' = head_front f ts a.front mid (front ++ r) a.is sh ∙ st in
      let p = a.again (front ++ r) sh in
      let l = length-append (a.front ++ front) r in let l' = length-append a.front front in let l'' = length-append front r in
      (rw (append_assoc a.front front r, st', p) refl, omega arith)

  joined : (ts : Tokens) (x : A) (mid : Tokens) (a : Here P ts (Found x mid)) (front end : Tokens) (xs : List A) → mid ≡ front ++ end → starts f ts ≡ true
      → 0 < length a.front → (r : Tokens) → SameHead end r → ((i : ℕ) → length (front ++ r) ≤ i → take_many i f P (front ++ r) ≡ Found xs r)
      → (j : ℕ) → length ((a.front ++ front) ++ r) ≤ j → take_many j f P ((a.front ++ front) ++ r) ≡ Found (x ∷ xs) r
  joined ts x mid a front end xs e st grown r s tail zero len =
      let l = length-append (a.front ++ front) r in let l' = length-append a.front front in absurd (omega arith)
  joined ts x mid a front end xs e st grown r s tail (suc j) len =
      let t = turn ts x mid a front end r e s st grown j len in t.0 ∙ rw (tail j t.1) refl

  failed : (ts : Tokens) (x : A) (mid : Tokens) (a : Here P ts (Found x mid)) (front end : Tokens) (k : Fault) → mid ≡ front ++ end → starts f ts ≡ true
      → 0 < length a.front → (r : Tokens) → SameHead end r → ((i : ℕ) → length (front ++ r) ≤ i → take_many i f P (front ++ r) ≡ Fails k r)
      → (j : ℕ) → length ((a.front ++ front) ++ r) ≤ j → take_many j f P ((a.front ++ front) ++ r) ≡ Fails k r
  failed ts x mid a front end k e st grown r s tail zero len =
      let l = length-append (a.front ++ front) r in let l' = length-append a.front front in absurd (omega arith)
  failed ts x mid a front end k e st grown r s tail (suc j) len =
      let t = turn ts x mid a front end r e s st grown j len in t.0 ∙ rw (tail j t.1) refl

  goes : (ts : Tokens) (k : ℕ) (u : Read (List A)) → starts f ts ≡ true → length ts ≤ suc k → rest_loop k ts ≡ u
      → ((us : Tokens) (v : Read (List A)) → length us ≤ k → take_many k f P us ≡ v → Again f P us v) → Again f P ts u
  goes ts k u st long h rest = by_cases (bind_cases (P ts) _ u h)
    where
      by_cases : ((x : A) × (mid : Tokens) × (P ts ≡ Found x mid) × ((take_many k f P mid >>= λ xs rest'. Found (x ∷ xs) rest') ≡ u)) ⊎ ((e : Fault) × (mid : Tokens) × (P ts ≡ Fails e mid) × (Fails e mid ≡ u)) → Again f P ts u
      by_cases (inr c) =
          let a = L.here ts (Fails c.0 c.1) c.2 in
          let K = Again f P ts in
          subst K c.3 (record { front = a.front; is = a.is; again = λ j r s len. fails a.front c.0 c.1 r (head_front f ts a.front c.1 r a.is (head_for c.0 c.1 r s) ∙ st) (a.again r s) j len })
        where
          fails : (front : Tokens) (e : Fault) (mid r : Tokens) → starts f (front ++ r) ≡ true → P (front ++ r) ≡ Fails e r → (j : ℕ) → length (front ++ r) ≤ j → take_many j f P (front ++ r) ≡ Fails e r
          fails front e mid r st' h' zero len = let some = nonempty (front ++ r) st' in absurd (omega arith)
          fails front e mid r st' h' (suc j) len = rw (st', h') refl
      by_cases (inl c) =
          let a = L.here ts (Found c.0 c.1) c.2 in
          let less = T.falls ts c.0 c.1 st c.2 in
          let short : length c.1 ≤ k = omega arith in
          more c.0 c.1 a less (rest c.1 (take_many k f P c.1) short refl) (bind_cases (take_many k f P c.1) _ u c.3)
        where
          more : (x : A) (mid : Tokens) (a : Here P ts (Found x mid)) → length mid < length ts → Again f P mid (take_many k f P mid)
              → ((xs : List A) × (end : Tokens) × (take_many k f P mid ≡ Found xs end) × (Found (x ∷ xs) end ≡ u)) ⊎ ((e : Fault) × (end : Tokens) × (take_many k f P mid ≡ Fails e end) × (Fails e end ≡ u)) → Again f P ts u
          more x mid a less b (inl d) =
              let K = Again f P mid in let b' = subst K d.2 b in
              let grown : 0 < length a.front = omega (arith, length-append a.front mid, ap length a.is) in
              let W = Again f P ts in
              subst W d.3 (record {
                front = a.front ++ b'.front;
                is = a.is ∙ ap (λ w. a.front ++ w) b'.is ∙ sym (append_assoc a.front b'.front d.1);
                again = λ j r s len. joined ts x mid a b'.front d.1 d.0 b'.is st grown r s (λ i l. b'.again i r s l) j len;
              })
          more x mid a less b (inr d) =
              let K = Again f P mid in let b' = subst K d.2 b in
              let grown : 0 < length a.front = omega (arith, length-append a.front mid, ap length a.is) in
              let W = Again f P ts in
              subst W d.3 (record {
                front = a.front ++ b'.front;
                is = a.is ∙ ap (λ w. a.front ++ w) b'.is ∙ sym (append_assoc a.front b'.front d.1);
                again = λ j r s len. failed ts x mid a b'.front d.1 d.0 b'.is st grown r (head_for d.0 d.1 r s) (λ i l. b'.again i r s l) j len;
              })

  many_again : (k : ℕ) (ts : Tokens) (u : Read (List A)) → length ts ≤ k → take_many k f P ts ≡ u → Again f P ts u
  many_again zero [] u long h = let K = Again f P [] in subst K h (ends [] refl)
  many_again zero (t ∷ ts) u long h = absurd (omega arith)
  many_again (suc k) ts u long h = by_test (chosen (starts f ts) _ _ u h) (λ us v len e. many_again k us v len e)
    where
      by_test : ((starts f ts ≡ true) × (rest_loop k ts ≡ u)) ⊎ ((starts f ts ≡ false) × (Found [] ts ≡ u)) → ((us : Tokens) (v : Read (List A)) → length us ≤ k → take_many k f P us ≡ v → Again f P us v) → Again f P ts u
      by_test (inl c) rest = goes ts k u c.0 long c.1 rest
      by_test (inr c) rest = let K = Again f P ts in subst K c.1 (ends ts c.0)

  pub local_many : Local (λ ts. take_many (length ts) f P ts)
  local_many = record {
    here = λ ts u h.
        let a = many_again (length ts) ts u (omega arith) h in
        record { front = a.front; is = a.is; again = λ r s. a.again (length (a.front ++ r)) r s (omega arith) };
  }

-- a symbol, and then what the token behind it decides
module _ {A : Type 0} (x : Symbol) (f : Set) (P Q : Reader A) (L : Local P) (M : Local Q) where
  abbrev fork_with : Bool → Reader A
  fork_with full ts = take_fork full x f P Q ts

  -- with levels left it looks at one token, as a phrase behind a word
  fork_open : Local (fork_with false)
  fork_open = local_bind (take_word x) (λ t rest. cond (starts f rest) (P rest) (Q rest)) (local_word x) (λ t. local_if f P Q L M)

  token_clash : (t : Token) (ts us : Tokens) → take_word x (t ∷ ts) ≡ Found t ts → take_word x (t ∷ ts) ≡ Fails Wrong us → ⊥
  token_clash t ts us h g = let e : Found t ts ≡ Fails Wrong us = sym h ∙ g in cc

  not_taken : (t : Token) (ts us : Tokens) → take_word x (t ∷ ts) ≡ Fails Wrong us → same t.symbol x ≡ true → ⊥
  not_taken t ts us h e = token_clash t ts us (rw e refl) h

  not_left : (t : Token) (ts : Tokens) → take_word x (t ∷ ts) ≡ Found t ts → same t.symbol x ≡ false → ⊥
  not_left t ts h e = token_clash t ts (t ∷ ts) h (rw e refl)

  abbrev full_rest : Tokens → Reader A
  full_rest ts rest = cond (starts f rest) (P rest) (Fails Deep ts)

  taken_apart : (ts : Tokens) (u : Read A) → fork_with true ts ≡ u
      → ((t : Token) × (us : Tokens) × (ts ≡ t ∷ us) × (take_word x (t ∷ us) ≡ Found t us) × (full_rest ts us ≡ u)) ⊎ ((take_word x ts ≡ Fails Wrong ts) × (Fails Wrong ts ≡ u))
  taken_apart [] u h = inr (refl, h)
  taken_apart (t ∷ us) u h = by_test (same t.symbol x) refl h
    where
      by_test : (b : Bool) → same t.symbol x ≡ b → (cond b (Found t us) (Fails Wrong (t ∷ us)) >>= λ t' rest. full_rest (t ∷ us) rest) ≡ u
          → ((t' : Token) × (us' : Tokens) × (t ∷ us ≡ t' ∷ us') × (take_word x (t' ∷ us') ≡ Found t' us') × (full_rest (t ∷ us) us' ≡ u)) ⊎ ((take_word x (t ∷ us) ≡ Fails Wrong (t ∷ us)) × (Fails Wrong (t ∷ us) ≡ u))
      by_test true e h' = inl (t, us, refl, rw e refl, h')
      by_test false e h' = inr (rw e refl, h')

  fork_full : Local (fork_with true)
  fork_full = record { here = λ ts u h. by_cases ts u (taken_apart ts u h) }
    where
      word_again : (ts r : Tokens) → take_word x ts ≡ Fails Wrong ts → SameHead ts r → take_word x r ≡ Fails Wrong r
      word_again [] [] h s = refl
      word_again [] (u ∷ us) h s = absurd s
      word_again (t ∷ ts) [] h s = absurd s
      word_again (t ∷ ts) (v ∷ vs) h s = by_test (same v.symbol x) refl
        where
          by_test : (b : Bool) → same v.symbol x ≡ b → take_word x (v ∷ vs) ≡ Fails Wrong (v ∷ vs)
          by_test false e = rw e refl
          by_test true e =
              let e' : same t.symbol x ≡ true = ap (λ w. same w.symbol x) s ∙ e in
              absurd (not_taken t ts (t ∷ ts) h e')

      deep_again : (t : Token) (us r : Tokens) → take_word x (t ∷ us) ≡ Found t us → starts f us ≡ false → SameTwo (t ∷ us) r → fork_with true r ≡ Fails Deep r
      deep_again t us [] w e s = absurd s
      deep_again t us (v ∷ vs) w e s = by_test (same v.symbol x) refl
        where
          by_test : (b : Bool) → same v.symbol x ≡ b → fork_with true (v ∷ vs) ≡ Fails Deep (v ∷ vs)
          by_test true e' = let e'' : starts f vs ≡ false = sym (same_starts f us vs s.1) ∙ e in rw (e', e'') refl
          by_test false e' =
              let e'' : same t.symbol x ≡ false = ap (λ w. same w.symbol x) s.0 ∙ e' in
              absurd (not_left t us w e'')

      inside : (ts : Tokens) (t : Token) (us : Tokens) (u : Read A) → ts ≡ t ∷ us → take_word x (t ∷ us) ≡ Found t us
          → ((starts f us ≡ true) × (P us ≡ u)) ⊎ ((starts f us ≡ false) × (Fails Deep ts ≡ u)) → Here (fork_with true) ts u
      inside ts t us u e w (inl c) =
          let a = L.here us u c.1 in
          let taken : (r : Tokens) → take_word x (t ∷ r) ≡ Found t r = λ r. word_of t us r w in
          record {
            front = t ∷ a.front;
            is = e ∙ ap (λ v. t ∷ v) a.is;
            again = λ r s. rw (taken (a.front ++ r), head_front f us a.front (rest_of u) r a.is (head_at u r s), c.0) (a.again r s);
          }
        where
          word_of : (t : Token) (us r : Tokens) → take_word x (t ∷ us) ≡ Found t us → take_word x (t ∷ r) ≡ Found t r
          word_of t us r w = by_test (same t.symbol x) refl
            where
              by_test : (b : Bool) → same t.symbol x ≡ b → take_word x (t ∷ r) ≡ Found t r
              by_test true e = rw e refl
              by_test false e = absurd (not_left t us w e)
      inside ts t us u e w (inr c) =
          let K = Here (fork_with true) ts in
          subst K c.1 (record {
            front = [];
            is = refl;
            again = λ r s. let S : Tokens → Type 0 = λ v. SameTwo v r in deep_again t us r w c.0 (subst S e s);
          })

      by_cases : (ts : Tokens) (u : Read A) → ((t : Token) × (us : Tokens) × (ts ≡ t ∷ us) × (take_word x (t ∷ us) ≡ Found t us) × (full_rest ts us ≡ u)) ⊎ ((take_word x ts ≡ Fails Wrong ts) × (Fails Wrong ts ≡ u)) → Here (fork_with true) ts u
      by_cases ts u (inl c) = inside ts c.0 c.1 u c.2 c.3 (chosen (starts f c.1) _ _ u c.4)
      by_cases ts u (inr c) =
          let K = Here (fork_with true) ts in
          subst K c.1 (record { front = []; is = refl; again = λ r s. rw (word_again ts r c.0 s) refl })

  pub local_fork : (full : Bool) → Local (fork_with full)
  local_fork false = fork_open
  local_fork true = fork_full
