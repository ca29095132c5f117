-- A reader reads exactly what is spelled.
use Rattle.std.proofs.Common.{◌≡◌, refl, sym, ap, subst, ◌∙◌, ℕ, zero, suc, ◌≤◌, Bool, true, false, ◌||◌, ◌&&◌, cond, List, [], ◌∷◌, ◌++◌, length, Option, Some, None, ◌⊎◌, inl, inr, ⊎_elim, arith, append_assoc, length-append}
use Rattle.ob_tree.specs.declared.symbol.Symbol.{Symbol}
use Rattle.ob_tree.specs.declared.token.Token.{Token}
use denote.Enum.Bare.{same_true, true_same}
use Rattle.ob_tree.specs.contracts.symbol.Symbol.{the_type}
use Rattle.ob_parse_grammar.specs.Phrase.{Tokens, same, Spelling, spells_maybe, spells_many, spells_fork}
use Rattle.ob_parse_grammar.specs.Reading.{Wrong, Deep, Found, Fails, ◌>>=◌, Set, starts, Reader, take_word, take_many, take_fork}
use Rattle.ob_parse_grammar.proofs.Basics.{chosen, bind_found, found_value, found_rest, Apart, false_not_true, starts_more, apart_starts, stops_left, stops_right, stops_when, starts_left, starts_right, starts_when, Begins}

pub record Good {A : Type 0} (S : Spelling A) (P : Reader A) (f : Set) (e : Bool) (m : Set) : Type 0 where
  pub sound : (ts : Tokens) (x : A) (r : Tokens) → P ts ≡ Found x r → (a : Tokens) × (ts ≡ a ++ r) × S x a
  pub begins : (x : A) (a : Tokens) → S x a → Begins f e a
  pub only : (x : A) (a r : Tokens) → S x a → starts m r ≡ false → P (a ++ r) ≡ Found x r

-- what is made of a phrase
pub good_made : {A B : Type 0} (g : A → B) (S : Spelling A) (P : Reader A) (f : Set) (e : Bool) (m : Set) → Good S P f e m
    → Good (λ y ts. (x : A) × (g x ≡ y) × S x ts) (λ ts. P ts >>= λ x rest. Found (g x) rest) f e m
good_made g S P f e m G = record {
  sound = λ ts y r h.
      let u = bind_found (P ts) _ y r h in
      let ey = found_value (g u.0) y u.1 r u.3 in
      let er = found_rest (g u.0) y u.1 r u.3 in
      let s = G.sound ts u.0 u.1 u.2 in
      (s.0, s.1 ∙ ap (λ w. s.0 ++ w) er, (u.0, ey, s.2));
  begins = λ y a s. G.begins s.0 a s.2;
  only = λ y a r s stop. rw (G.only s.0 a r s.2 stop) (ap (λ w. Found w r) s.1);
}

-- a phrase and then a phrase
module _ {A B : Type 0} (S : Spelling A) (P : Reader A) (f : Set) (e : Bool) (m : Set) (G : Good S P f e m)
    (T : Spelling B) (Q : Reader B) (g : Set) (k : Bool) (n : Set) (H : Good T Q g k n) (apart : Apart m g) where
  abbrev S₂ : Spelling (A × B)
  S₂ x ts = (a : Tokens) × (b : Tokens) × (ts ≡ a ++ b) × S x.0 a × T x.1 b

  abbrev P₂ : Reader (A × B)
  P₂ ts = P ts >>= λ x rest. Q rest >>= λ y rest'. Found (x, y) rest'

  both_sound : (ts : Tokens) (x : A × B) (r : Tokens) → P₂ ts ≡ Found x r → (a : Tokens) × (ts ≡ a ++ r) × S₂ x a
  both_sound ts z r h =
      let u = bind_found (P ts) _ z r h in
      let v = bind_found (Q u.1) _ z r u.3 in
      let ez = found_value (u.0, v.0) z v.1 r v.3 in
      let er = found_rest (u.0, v.0) z v.1 r v.3 in
      let a = G.sound ts u.0 u.1 u.2 in
      let b = H.sound u.1 v.0 v.1 v.2 in
      let PA : A → Type 0 = λ w. S w a.0 in
      let PB : B → Type 0 = λ w. T w b.0 in (
        a.0 ++ b.0,
        a.1 ∙ ap (λ w. a.0 ++ w) (b.1 ∙ ap (λ w. b.0 ++ w) er) ∙ sym (append_assoc a.0 b.0 r),
        (a.0, b.0, refl, subst PA (ap (λ w. w.0) ez) a.2, subst PB (ap (λ w. w.1) ez) b.2),
      )

  between : (b r : Tokens) → Begins g k b → starts (λ t. n t || (k && m t)) r ≡ false → starts m (b ++ r) ≡ false
  between b r (inl x) stop =
      let here = stops_when k m r (stops_right n (λ t. k && m t) r stop) x.1 in
      rw x.0 here
  between b r (inr x) stop = apart_starts m g apart b r x

  both_only : (x : A × B) (a r : Tokens) → S₂ x a → starts (λ t. n t || (k && m t)) r ≡ false → P₂ (a ++ r) ≡ Found x r
  both_only x a r s stop =
      let first = G.only x.0 s.0 (s.1 ++ r) s.3 (between s.1 r (H.begins x.1 s.1 s.4) stop) in
      let second = H.only x.1 s.1 r s.4 (stops_left n (λ t. k && m t) r stop) in
      let whole : a ++ r ≡ s.0 ++ (s.1 ++ r) = ap (λ w. w ++ r) s.2 ∙ append_assoc s.0 s.1 r in
      rw (whole, first, second) refl

  both_begins : (x : A × B) (a : Tokens) → S₂ x a → Begins (λ t. f t || (e && g t)) (e && k) a
  both_begins x a s = let E : Tokens → Type 0 = Begins (λ t. f t || (e && g t)) (e && k) in subst E (sym s.2) (joined s.0 s.1 (G.begins x.0 s.0 s.3) (H.begins x.1 s.1 s.4))
    where
      joined : (a b : Tokens) → Begins f e a → Begins g k b → Begins (λ t. f t || (e && g t)) (e && k) (a ++ b)
      joined a b (inl p) (inl q) = inl (rw (p.0, q.0) refl, rw (p.1, q.1) refl)
      joined a b (inl p) (inr q) = inr (rw p.0 (starts_right f (λ t. e && g t) b (starts_when e g b p.1 q)))
      joined a b (inr p) q = inr (starts_more _ a b (starts_left f (λ t. e && g t) a p))

  pub good_both : Good S₂ P₂ (λ t. f t || (e && g t)) (e && k) (λ t. n t || (k && m t))
  good_both = record { sound = both_sound; begins = both_begins; only = both_only }

-- a phrase that may be left out
module _ {A : Type 0} (S : Spelling A) (P : Reader A) (f : Set) (m : Set) (G : Good S P f false m) where
  abbrev P₁ : Reader (Option A)
  P₁ ts = cond (starts f ts) (P ts >>= λ x rest. Found (Some x) rest) (Found None ts)

  maybe_sound : (ts : Tokens) (x : Option A) (r : Tokens) → P₁ ts ≡ Found x r → (a : Tokens) × (ts ≡ a ++ r) × spells_maybe S x a
  maybe_sound ts x r h = by_test (chosen (starts f ts) _ _ (Found x r) h)
    where
      by_test : ((starts f ts ≡ true) × ((P ts >>= λ y rest. Found (Some y) rest) ≡ Found x r)) ⊎ ((starts f ts ≡ false) × (Found None ts ≡ Found x r)) → (a : Tokens) × (ts ≡ a ++ r) × spells_maybe S x a
      by_test (inl c) =
          let u = bind_found (P ts) _ x r c.1 in
          let ex = found_value (Some u.0) x u.1 r u.3 in
          let er = found_rest (Some u.0) x u.1 r u.3 in
          let s = G.sound ts u.0 u.1 u.2 in
          let M : Option A → Type 0 = λ o. spells_maybe S o s.0 in
          (s.0, s.1 ∙ ap (λ w. s.0 ++ w) er, subst M ex s.2)
      by_test (inr c) =
          let ex = found_value None x ts r c.1 in
          let er = found_rest None x ts r c.1 in
          let M : Option A → Type 0 = λ o. spells_maybe S o [] in
          ([], er, subst M ex refl)

  -- it is not empty, so it starts as it may
  start_of : (x : A) (a : Tokens) → S x a → starts f a ≡ true
  start_of x a s = ⊎_elim (λ (b : (a ≡ []) × (false ≡ true)). absurd (false_not_true false refl b.1)) (λ h. h) (G.begins x a s)

  maybe_begins : (x : Option A) (a : Tokens) → spells_maybe S x a → Begins f true a
  maybe_begins None a s = inl (s, refl)
  maybe_begins (Some x) a s = inr (start_of x a s)

  maybe_only : (x : Option A) (a r : Tokens) → spells_maybe S x a → starts (λ t. f t || m t) r ≡ false → P₁ (a ++ r) ≡ Found x r
  maybe_only None a r s stop = rw (s, stops_left f m r stop) refl
  maybe_only (Some x) a r s stop = rw (starts_more f a r (start_of x a s), G.only x a r s (stops_right f m r stop)) refl

  pub good_maybe : Good (spells_maybe S) P₁ f true (λ t. f t || m t)
  good_maybe = record { sound = maybe_sound; begins = maybe_begins; only = maybe_only }

  many_sound : (k : ℕ) (ts : Tokens) (xs : List A) (r : Tokens) → take_many k f P ts ≡ Found xs r → (a : Tokens) × (ts ≡ a ++ r) × spells_many S xs a
  many_sound zero ts xs r h =
      let ex = found_value [] xs ts r h in
      let er = found_rest [] xs ts r h in
      let M : List A → Type 0 = λ o. spells_many S o [] in
      ([], er, subst M ex refl)
  many_sound (suc k) ts xs r h = by_test (λ us ys w. many_sound k us ys w) (chosen (starts f ts) _ _ (Found xs r) h)
    where
      by_test : ((us : Tokens) (ys : List A) (w : Tokens) → take_many k f P us ≡ Found ys w → (a : Tokens) × (us ≡ a ++ w) × spells_many S ys a) → ((starts f ts ≡ true) × ((P ts >>= λ y rest. take_many k f P rest >>= λ ys rest'. Found (y ∷ ys) rest') ≡ Found xs r)) ⊎ ((starts f ts ≡ false) × (Found [] ts ≡ Found xs r)) → (a : Tokens) × (ts ≡ a ++ r) × spells_many S xs a
      by_test again (inl c) =
          let u = bind_found (P ts) _ xs r c.1 in
          let v = bind_found (take_many k f P u.1) _ xs r u.3 in
          let ex = found_value (u.0 ∷ v.0) xs v.1 r v.3 in
          let er = found_rest (u.0 ∷ v.0) xs v.1 r v.3 in
          let a = G.sound ts u.0 u.1 u.2 in
          let b = again u.1 v.0 v.1 v.2 in
          let M : List A → Type 0 = λ o. spells_many S o (a.0 ++ b.0) in
          (a.0 ++ b.0, a.1 ∙ ap (λ w. a.0 ++ w) (b.1 ∙ ap (λ w. b.0 ++ w) er) ∙ sym (append_assoc a.0 b.0 r), subst M ex (a.0, b.0, refl, a.2, b.2))
      by_test again (inr c) =
          let ex = found_value [] xs ts r c.1 in
          let er = found_rest [] xs ts r c.1 in
          let M : List A → Type 0 = λ o. spells_many S o [] in
          ([], er, subst M ex refl)

  many_begins : (xs : List A) (a : Tokens) → spells_many S xs a → Begins f true a
  many_begins [] a s = inl (s, refl)
  many_begins (x ∷ xs) a s = let E : Tokens → Type 0 = λ w. starts f w ≡ true in inr (subst E (sym s.2) (starts_more f s.0 s.1 (start_of x s.0 s.3)))

  some_length : (a b : Tokens) → starts f a ≡ true → suc (length b) ≤ length (a ++ b)
  some_length [] b h = absurd (false_not_true false refl h)
  some_length (t ∷ a) b h = omega (arith, length-append a b)

  module _ (apart : Apart m f) where
    many_only : (xs : List A) (k : ℕ) (a r : Tokens) → spells_many S xs a → length a ≤ k → starts f r ≡ false → starts m r ≡ false → take_many k f P (a ++ r) ≡ Found xs r
    many_only [] zero a r s h halt stop = rw s refl
    many_only [] (suc k) a r s h halt stop = rw (s, halt) refl
    many_only (x ∷ xs) zero a r s h halt stop =
        let len : length a ≡ length (s.0 ++ s.1) = ap length s.2 in
        let none : ⊥ = omega (arith, some_length s.0 s.1 (start_of x s.0 s.3)) in
        absurd none
    many_only (x ∷ xs) (suc k) a r s h halt stop =
        let whole : a ++ r ≡ s.0 ++ (s.1 ++ r) = ap (λ w. w ++ r) s.2 ∙ append_assoc s.0 s.1 r in
        let len : length a ≡ length (s.0 ++ s.1) = ap length s.2 in
        let short : length s.1 ≤ k = omega (arith, some_length s.0 s.1 (start_of x s.0 s.3)) in
        let stop' = ⊎_elim (λ (b : (s.1 ≡ []) × (true ≡ true)). let E : Tokens → Type 0 = λ w. starts m (w ++ r) ≡ false in subst E (sym b.0) stop) (λ h. apart_starts m f apart s.1 r h) (many_begins xs s.1 s.4) in
        let goes = starts_more f s.0 (s.1 ++ r) (start_of x s.0 s.3) in
        let here = G.only x s.0 (s.1 ++ r) s.3 stop' in
        let more = many_only xs k s.1 r s.4 short halt stop in
        rw (whole, goes, here, more) refl

    pub good_many : Good (spells_many S) (λ ts. take_many (length ts) f P ts) f true (λ t. f t || m t)
    good_many = record {
      sound = λ ts xs r h. many_sound (length ts) ts xs r h;
      begins = many_begins;
      only = λ xs a r s stop.
          let long : length a ≤ length (a ++ r) = omega (arith, length-append a r) in
          many_only xs (length (a ++ r)) a r s long (stops_left f m r stop) (stops_right f m r stop);
    }

-- one of two phrases
module _ {A : Type 0} (S : Spelling A) (P : Reader A) (f : Set) (m : Set) (G : Good S P f false m)
    (T : Spelling A) (Q : Reader A) (g : Set) (n : Set) (H : Good T Q g false n) (apart : Apart f g) where
  abbrev P₃ : Reader A
  P₃ ts = cond (starts f ts) (P ts) (Q ts)

  either_sound : (ts : Tokens) (x : A) (r : Tokens) → P₃ ts ≡ Found x r → (a : Tokens) × (ts ≡ a ++ r) × (S x a ⊎ T x a)
  either_sound ts x r h = by_test (chosen (starts f ts) _ _ (Found x r) h)
    where
      by_test : ((starts f ts ≡ true) × (P ts ≡ Found x r)) ⊎ ((starts f ts ≡ false) × (Q ts ≡ Found x r)) → (a : Tokens) × (ts ≡ a ++ r) × (S x a ⊎ T x a)
      by_test (inl c) = let u = G.sound ts x r c.1 in (u.0, u.1, inl u.2)
      by_test (inr c) = let u = H.sound ts x r c.1 in (u.0, u.1, inr u.2)

  either_begins : (x : A) (a : Tokens) → S x a ⊎ T x a → Begins (λ t. f t || g t) false a
  either_begins x a (inl s) = inr (starts_left f g a (start_of S P f m G x a s))
  either_begins x a (inr s) = inr (starts_right f g a (start_of T Q g n H x a s))

  either_only : (x : A) (a r : Tokens) → S x a ⊎ T x a → starts (λ t. m t || n t) r ≡ false → P₃ (a ++ r) ≡ Found x r
  either_only x a r (inl s) stop = rw (starts_more f a r (start_of S P f m G x a s), G.only x a r s (stops_left m n r stop)) refl
  either_only x a r (inr s) stop = rw (apart_starts f g apart a r (start_of T Q g n H x a s), H.only x a r s (stops_right m n r stop)) refl

  pub good_either : Good (λ x a. S x a ⊎ T x a) P₃ (λ t. f t || g t) false (λ t. m t || n t)
  good_either = record { sound = either_sound; begins = either_begins; only = either_only }

-- ---- a word

-- a word is taken where it stands
pub word_taken : (x : Symbol) (ts : Tokens) (t : Token) (r : Tokens) → take_word x ts ≡ Found t r → (ts ≡ t ∷ r) × (t.symbol ≡ x)
word_taken x [] t r h = let none : ⊥ = cc in absurd none
word_taken x (u ∷ us) t r h = by_test (chosen (same u.symbol x) _ _ (Found t r) h)
  where
    by_test : ((same u.symbol x ≡ true) × (Found u us ≡ Found t r)) ⊎ ((same u.symbol x ≡ false) × (Fails Wrong (u ∷ us) ≡ Found t r)) → (u ∷ us ≡ t ∷ r) × (t.symbol ≡ x)
    by_test (inl c) =
        let et = found_value u t us r c.1 in
        let er = found_rest u t us r c.1 in
        let K : Token → Type 0 = λ w. w.symbol ≡ x in
        (ap (λ w. w ∷ us) et ∙ ap (λ w. t ∷ w) er, subst K et (same_true the_type tt u.symbol x c.0))
    by_test (inr c) = let none : ⊥ = let e = c.1 in cc in absurd none

pub word_there : (x : Symbol) (t : Token) (r : Tokens) → t.symbol ≡ x → take_word x (t ∷ r) ≡ Found t r
word_there x t r h = rw (true_same the_type t.symbol x h) refl

-- a symbol and one of two phrases, of which the second is a level
module _ {A : Type 0} (x : Symbol) (full : Bool) (S : Spelling A) (P : Reader A) (f : Set) (m : Set) (G : Good S P f false m)
    (T : Spelling A) (Q : Reader A) (g : Set) (n : Set) (H : Good T Q g false n) (apart : Apart f g)
    (none_left : full ≡ true → (y : A) (ts : Tokens) → T y ts → ⊥) where
  deep_found : (y : A) (ts r : Tokens) {C : Type 0} → Fails Deep ts ≡ Found y r → C
  deep_found y ts r e = let none : ⊥ = cc in absurd none

  fork_sound : (ts : Tokens) (y : A) (r : Tokens) → take_fork full x f P Q ts ≡ Found y r → (a : Tokens) × (ts ≡ a ++ r) × spells_fork x S T y a
  fork_sound ts y r h =
      let u = bind_found (take_word x ts) _ y r h in
      let w = word_taken x ts u.0 u.1 u.2 in
      by_test u.0 u.1 w (chosen (starts f u.1) _ _ (Found y r) u.3)
    where
      second : (t : Token) (mid : Tokens) → (ts ≡ t ∷ mid) × (t.symbol ≡ x) → ((full ≡ true) × (Fails Deep ts ≡ Found y r)) ⊎ ((full ≡ false) × (Q mid ≡ Found y r)) → (a : Tokens) × (ts ≡ a ++ r) × spells_fork x S T y a
      second t mid w (inl c) = deep_found y ts r c.1
      second t mid w (inr c) = let s = H.sound mid y r c.1 in (t ∷ s.0, w.0 ∙ ap (λ v. t ∷ v) s.1, (t, s.0, refl, w.1, inr s.2))

      by_test : (t : Token) (mid : Tokens) → (ts ≡ t ∷ mid) × (t.symbol ≡ x) → ((starts f mid ≡ true) × (P mid ≡ Found y r)) ⊎ ((starts f mid ≡ false) × (cond full (Fails Deep ts) (Q mid) ≡ Found y r)) → (a : Tokens) × (ts ≡ a ++ r) × spells_fork x S T y a
      by_test t mid w (inl c) = let s = G.sound mid y r c.1 in (t ∷ s.0, w.0 ∙ ap (λ v. t ∷ v) s.1, (t, s.0, refl, w.1, inl s.2))
      by_test t mid w (inr c) = second t mid w (chosen full _ _ (Found y r) c.1)

  fork_begins : (y : A) (a : Tokens) → spells_fork x S T y a → Begins (λ t. same t x) false a
  fork_begins y a s = let E : Tokens → Type 0 = λ w. starts (λ t. same t x) w ≡ true in inr (subst E (sym s.2) (true_same the_type s.0.symbol x s.3))

  fork_only : (y : A) (a r : Tokens) → spells_fork x S T y a → starts (λ t. m t || n t) r ≡ false → take_fork full x f P Q (a ++ r) ≡ Found y r
  fork_only y a r s stop = let E : Tokens → Type 0 = λ w. take_fork full x f P Q (w ++ r) ≡ Found y r in subst E (sym s.2) (by_choice s.0 s.1 s.3 s.4)
    where
      not_full : (b : Bool) → full ≡ b → (c : Tokens) → T y c → full ≡ false
      not_full true e c s = absurd (none_left e y c s)
      not_full false e c s = e

      by_choice : (t : Token) (b : Tokens) → t.symbol ≡ x → S y b ⊎ T y b → take_fork full x f P Q ((t ∷ b) ++ r) ≡ Found y r
      by_choice t b e (inl s) = rw (word_there x t (b ++ r) e, starts_more f b r (start_of S P f m G y b s), G.only y b r s (stops_left m n r stop)) refl
      by_choice t b e (inr s) = rw (word_there x t (b ++ r) e, apart_starts f g apart b r (start_of T Q g n H y b s), not_full full refl b s, H.only y b r s (stops_right m n r stop)) refl

  pub good_fork : Good (spells_fork x S T) (take_fork full x f P Q) (λ t. same t x) false (λ t. m t || n t)
  good_fork = record { sound = fork_sound; begins = fork_begins; only = fork_only }
