-- Loops over a repeated phrase.
use Rattle.std.proofs.Common.{◌≡◌, refl, sym, ap, ◌∙◌, ℕ, zero, suc, ◌-◌, ◌≤◌, ◌<◌, Bool, true, false, ◌||◌, List, [], ◌∷◌, ◌++◌, length, ⊎_elim, arith, append_assoc, length-append, append-nil}
use Rattle.ob_tree.specs.declared.symbol.Symbol.{Symbol}
use Rattle.ob_parse_grammar.specs.Phrase.{Tokens, same, Nest, Phrase, many}
use Rattle.ob_parse_grammar.specs.Reading.{Read, Found, Fails, Fault, ◌>>=◌, Reader, Set, starts, take_many, may_be_empty}
use Rattle.ob_parse_grammar.specs.Expressions.{next_of, joined}
use Rattle.ob_parse_grammar.specs.Grammar.{read, reads, begins, first_of, empty_of, rule, is_full}
use Rattle.ob_parse_grammar.proofs.Basics.{false_not_true}
use Rattle.ob_parse_grammar.proofs.Local.{Takes}
use Rattle.ob_parse_grammar.proofs.Whole.{good_phrase, more_of}
use Rattle.ob_parse_grammar.proofs.Fine.{fine}

-- what was found, and then what comes
abbrev pub after : {A : Type 0} → List A → Read (List A) → Read (List A)
after xs r = r >>= λ ys rest. Found (xs ++ ys) rest

module _ {A : Type 0} (f : Set) (P : Reader A) (T : Takes f P) where
  -- the bound makes no difference
  same_bound : (k j : ℕ) (ts : Tokens) → length ts ≤ k → length ts ≤ j → take_many k f P ts ≡ take_many j f P ts
  same_bound zero zero [] h g = refl
  same_bound zero (suc j) [] h g = refl
  same_bound (suc k) zero [] h g = refl
  same_bound (suc k) (suc j) [] h g = refl
  same_bound zero j (t ∷ ts) h g = absurd (omega arith)
  same_bound (suc k) zero (t ∷ ts) h g = absurd (omega arith)
  same_bound (suc k) (suc j) (t ∷ ts) h g = by_test (starts f (t ∷ ts)) refl (P (t ∷ ts)) refl (λ us h' g'. same_bound k j us h' g')
    where
      by_test : (b : Bool) → starts f (t ∷ ts) ≡ b → (r : Read A) → P (t ∷ ts) ≡ r → ((us : Tokens) → length us ≤ k → length us ≤ j → take_many k f P us ≡ take_many j f P us)
          → take_many (suc k) f P (t ∷ ts) ≡ take_many (suc j) f P (t ∷ ts)
      by_test false e r q rest = rw e refl
      by_test true e (Fails x us) q rest = rw (e, q) refl
      by_test true e (Found x us) q rest =
          let less = T.falls (t ∷ ts) x us e q in
          let l : length us ≤ k = omega arith in let l' : length us ≤ j = omega arith in
          rw (e, q, rest us l l') refl

  pub many_turn : (ts : Tokens) (x : A) (mid : Tokens) → starts f ts ≡ true → P ts ≡ Found x mid
      → take_many (length ts) f P ts ≡ (take_many (length mid) f P mid >>= λ xs rest. Found (x ∷ xs) rest)
  many_turn [] x mid st h = absurd (false_not_true false refl st)
  many_turn (t ∷ ts) x mid st h =
      let less = T.falls (t ∷ ts) x mid st h in
      let short : length mid ≤ length ts = omega arith in
      let full : length mid ≤ length mid = omega arith in
      let e = same_bound (length ts) (length mid) mid short full in
      rw (st, h, e) refl

  pub many_fails : (ts : Tokens) (k : Fault) (r : Tokens) → starts f ts ≡ true → P ts ≡ Fails k r → take_many (length ts) f P ts ≡ Fails k r
  many_fails [] k r st h = absurd (false_not_true false refl st)
  many_fails (t ∷ ts) k r st h = rw (st, h) refl

  pub many_ends : (ts : Tokens) → starts f ts ≡ false → take_many (length ts) f P ts ≡ Found [] ts
  many_ends [] st = refl
  many_ends (t ∷ ts) st = rw st refl

starts_length : (f : Set) (a : Tokens) → starts f a ≡ true → 0 < length a
starts_length f [] h = absurd (false_not_true false refl h)
starts_length f (t ∷ a) h = omega arith

-- what is fine and not empty takes a token
pub takes : {A : Type 0} (d : ℕ) (p : Phrase A) → fine first_of empty_of more_of p ≡ true → may_be_empty first_of empty_of p ≡ false → Takes (begins p) (reads d p)
takes d p ok nonempty = record {
  falls = λ ts x r st h.
      let G = good_phrase d p ok in
      let s = G.sound ts x r h in
      let b = ⊎_elim (λ (e : (s.0 ≡ []) × (may_be_empty first_of empty_of p ≡ true)). absurd (false_not_true _ nonempty e.1)) (λ e. starts_length _ s.0 e) (G.begins x s.0 s.2) in
      omega (arith, ap length s.1, length-append s.0 r);
}

after_more : {A : Type 0} (xs : List A) (x : A) (r : Read (List A)) → after xs (r >>= λ ys rest. Found (x ∷ ys) rest) ≡ after (xs ++ x ∷ []) r
after_more xs x (Found ys rest) = ap (λ w. Found w rest) (sym (append_assoc xs (x ∷ []) ys))
after_more xs x (Fails k rest) = refl

-- one level less
pub deeper : (d : ℕ) (n : Nest) (ts : Tokens) → 1 ≤ d → read d n ts ≡ reads (d - 1) (rule n) ts
deeper zero n ts h = absurd (omega arith)
deeper (suc d) n ts h = let e : suc d - 1 ≡ d = omega arith in ap (λ m. reads m (rule n) ts) (sym e)

-- levels are left
pub not_full : (d : ℕ) → 1 ≤ d → is_full d ≡ false
not_full zero h = absurd (omega arith)
not_full (suc d) h = refl

or_no : (b : Bool) → (b || false) ≡ b
or_no true = refl
or_no false = refl

-- what follows a symbol starts with it
pub next_starts : {A : Type 0} (by : Symbol) (p : Phrase A) (ts : Tokens) → starts (begins (next_of by p)) ts ≡ starts (λ x. same x by) ts
next_starts by p [] = refl
next_starts by p (t ∷ ts) = or_no _

-- the list goes on: from here on the whole is what was found, and then what is read
abbrev pub GoesOn : {A : Type 0} → Read (List A) → ℕ → Phrase A → List A → Tokens → Type 0
GoesOn whole d p xs ts = whole ≡ after xs (reads d (many p) ts)

-- the same of lists that are joined
abbrev pub JoinsOn : {A : Type 0} → Read (List (List A)) → ℕ → Phrase (List A) → List A → Tokens → Type 0
JoinsOn {A} whole d p xs ts = (xss : List (List A)) × (xs ≡ joined xss) × GoesOn whole d p xss ts

joined-snoc : {A : Type 0} (xss : List (List A)) (xs : List A) → joined (xss ++ xs ∷ []) ≡ joined xss ++ xs
joined-snoc [] xs = append-nil xs
joined-snoc (ys ∷ xss) xs = ap (λ z. ys ++ z) (joined-snoc xss xs) ∙ sym (append_assoc ys (joined xss) xs)

module _ {A : Type 0} (d : ℕ) (p : Phrase A) (T : Takes (begins p) (reads d p)) where
  pub on_turn : (whole : Read (List A)) (xs : List A) (ts : Tokens) (x : A) (mid : Tokens) → GoesOn whole d p xs ts → starts (begins p) ts ≡ true → reads d p ts ≡ Found x mid → GoesOn whole d p (xs ++ x ∷ []) mid
  on_turn whole xs ts x mid g st h = g ∙ ap (after xs) (many_turn (begins p) (reads d p) T ts x mid st h) ∙ after_more xs x (reads d (many p) mid)

pub join_turn : {A : Type 0} (d : ℕ) (p : Phrase (List A)) (T : Takes (begins p) (reads d p)) (whole : Read (List (List A))) (xs : List A) (ts : Tokens) (ys : List A) (mid : Tokens)
    → JoinsOn whole d p xs ts → starts (begins p) ts ≡ true → reads d p ts ≡ Found ys mid → JoinsOn whole d p (xs ++ ys) mid
join_turn d p T whole xs ts ys mid g st h =
    (g.0 ++ ys ∷ [], ap (λ z. z ++ ys) g.1 ∙ sym (joined-snoc g.0 ys), on_turn d p T whole g.0 ts ys mid g.2 st h)

-- where the list ends, what was found is all
pub join_ends : {A : Type 0} (d : ℕ) (p : Phrase (List A)) (T : Takes (begins p) (reads d p)) (whole : Read (List (List A))) (xs : List A) (ts : Tokens)
    → JoinsOn whole d p xs ts → starts (begins p) ts ≡ false → (whole >>= λ x rest. Found (joined x) rest) ≡ Found xs ts
join_ends d p T whole xs ts g st =
    let e = g.2 ∙ ap (after g.0) (many_ends (begins p) (reads d p) T ts st) ∙ ap (λ w. Found w ts) (append-nil g.0) in
    rw e (ap (λ w. Found w ts) (sym g.1))

-- where it fails, the whole fails
pub join_fails : {A : Type 0} (d : ℕ) (p : Phrase (List A)) (T : Takes (begins p) (reads d p)) (whole : Read (List (List A))) (xs : List A) (ts : Tokens) (k : Fault) (r : Tokens)
    → JoinsOn whole d p xs ts → starts (begins p) ts ≡ true → reads d p ts ≡ Fails k r → (whole >>= λ x rest. Found (joined x) rest) ≡ Fails k r
join_fails d p T whole xs ts k r g st h =
    let e = g.2 ∙ ap (after g.0) (many_fails (begins p) (reads d p) T ts k r st h) in
    rw e refl
