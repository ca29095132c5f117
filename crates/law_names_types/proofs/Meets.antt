-- Two ways in which a name goes on: one is the other, or one goes on inside the other.
use Rattle.std.proofs.Common.{◌≡◌, ◌⊎◌, inl, inr, ℕ, true, false, List, [], ◌∷◌, ◌++◌, refl, sym, ap, ◌∙◌, subst, append_assoc}
use Rattle.law_names_distinct.specs.Parts.{is_mark, IsWord, IsTail, IsInScope, IsPart}

-- b begins with a, and this mark behind it
abbrev pub GoesOn : List ℕ → ℕ → List ℕ → List ℕ → List ℕ → Type 0
GoesOn a c r b behind = (m : List ℕ) × (b ≡ a ++ c ∷ m) × (r ≡ m ++ behind)

-- the same, or one inside the other
abbrev pub Meeting : (a b : List ℕ) (c d : ℕ) (r q : List ℕ) → Type 0
Meeting a b c d r q = ((a ≡ b) × (c ≡ d) × (r ≡ q)) ⊎ (GoesOn a c r b (d ∷ q) ⊎ GoesOn b d q a (c ∷ r))

pub meets : (a b : List ℕ) (c d : ℕ) (r q : List ℕ) → a ++ c ∷ r ≡ b ++ d ∷ q → Meeting a b c d r q
meets [] [] c d r q e = inl (refl, cc, cc)
meets [] (y ∷ b) c d r q e = inr (inl (b, cc, cc))
meets (x ∷ a) [] c d r q e = inr (inr (a, cc, cc))
meets (x ∷ a) (y ∷ b) c d r q e =
    let same : x ≡ y = cc in
    let rest : a ++ c ∷ r ≡ b ++ d ∷ q = cc in
    by same (meets a b c d r q rest)
  where
    by : x ≡ y → Meeting a b c d r q → Meeting (x ∷ a) (y ∷ b) c d r q
    by s (inl h) = inl (ap (λ z. z ∷ a) s ∙ ap (λ zs. y ∷ zs) h.0, h.1, h.2)
    by s (inr (inl h)) = inr (inl (h.0, ap (λ z. z ∷ b) (sym s) ∙ ap (λ zs. x ∷ zs) h.1, h.2))
    by s (inr (inr h)) = inr (inr (h.0, ap (λ z. z ∷ a) s ∙ ap (λ zs. y ∷ zs) h.1, h.2))

-- a word stands whole before the next mark
pub word_front : (f m t z : List ℕ) (c : ℕ) → IsWord f → is_mark c ≡ true → f ++ t ≡ m ++ c ∷ z → (r : List ℕ) × (m ≡ f ++ r) × (t ≡ r ++ c ∷ z)
word_front [] m t z c w k e = (m, refl, e)
word_front (y ∷ f) [] t z c w k e = let i : y ≡ c = cc in let bad : true ≡ false = sym k ∙ ap is_mark (sym i) ∙ w.0 in absurd cc
word_front (y ∷ f) (x ∷ m) t z c w k e =
    let i : y ≡ x = cc in
    let rest : f ++ t ≡ m ++ c ∷ z = cc in
    let h = word_front f m t z c w.1 k rest in
    (h.0, ap (λ a. a ∷ m) (sym i) ∙ ap (λ zs. y ∷ zs) h.1, h.2)

front_tail : (t r z : List ℕ) (c : ℕ) → t ≡ r ++ c ∷ z → IsTail t → IsTail r
front_tail t [] z c e h = tt
front_tail t (d ∷ r) z c e h = subst IsTail e h

front_scope : (r z : List ℕ) → IsInScope (r ++ z) → IsInScope r
front_scope [] z h = tt
front_scope (d ∷ r) z h = (h.0, front_scope r z h.1)

-- behind a mark and a word, before another mark
pub part_front : (a f b m t z : List ℕ) (c d : ℕ) → IsWord f → is_mark d ≡ true → b ≡ a ++ c ∷ m → f ++ t ≡ m ++ d ∷ z → IsTail t → IsInScope t → IsPart (a ++ c ∷ f) b
part_front a f b m t z c d w k i e tail scope =
    let h = word_front f m t z d w k e in
    record {
      rest = h.0;
      is = i ∙ ap (λ n. a ++ c ∷ n) h.1 ∙ sym (append_assoc a (c ∷ f) h.0);
      tail = front_tail t h.0 z d h.2 tail;
      scope = front_scope h.0 (d ∷ z) (subst IsInScope h.2 scope);
    }

-- ---- behind two marks

-- behind unlike marks: one is behind the other's
pub marks_meet : (r x n y s : List ℕ) (c d : ℕ) → IsWord x → IsWord y → is_mark c ≡ true → is_mark d ≡ true → (c ≡ d → ⊥) → IsPart (r ++ c ∷ x) s → IsPart (n ++ d ∷ y) s → IsPart (r ++ c ∷ x) n ⊎ IsPart (n ++ d ∷ y) r
marks_meet r x n y s c d w v i j other p q =
    by (meets r n c d (x ++ p.rest) (y ++ q.rest) (sym (append_assoc r (c ∷ x) p.rest) ∙ sym p.is ∙ q.is ∙ append_assoc n (d ∷ y) q.rest))
  where
    by : Meeting r n c d (x ++ p.rest) (y ++ q.rest) → IsPart (r ++ c ∷ x) n ⊎ IsPart (n ++ d ∷ y) r
    by (inl h) = absurd (other h.1)
    by (inr (inl h)) = inl (part_front r x n h.0 p.rest (y ++ q.rest) c d w j h.1 h.2 p.tail p.scope)
    by (inr (inr h)) = inr (part_front n y r h.0 q.rest (x ++ p.rest) d c v i h.1 h.2 q.tail q.scope)

words_same : (f g s t : List ℕ) → IsWord f → IsWord g → IsTail s → IsTail t → f ++ s ≡ g ++ t → f ≡ g
words_same [] [] s t a b c d e = refl
words_same [] (y ∷ g) [] t a b c d e = absurd cc
words_same [] (y ∷ g) (z ∷ s) t a b c d e = let i : z ≡ y = cc in let bad : true ≡ false = sym c ∙ ap is_mark i ∙ b.0 in absurd cc
words_same (x ∷ f) [] s [] a b c d e = absurd cc
words_same (x ∷ f) [] s (z ∷ t) a b c d e = let i : x ≡ z = cc in let bad : true ≡ false = sym d ∙ ap is_mark (sym i) ∙ a.0 in absurd cc
words_same (x ∷ f) (y ∷ g) s t a b c d e =
    let r : f ++ s ≡ g ++ t = cc in
    let i : f ≡ g = words_same f g s t a.1 b.1 c d r in
    cc

-- behind the same mark: the same, or one is behind the other's
pub mark_meets : (r x n y s : List ℕ) (c : ℕ) → IsWord x → IsWord y → is_mark c ≡ true → IsPart (r ++ c ∷ x) s → IsPart (n ++ c ∷ y) s → ((r ≡ n) × (x ≡ y)) ⊎ (IsPart (r ++ c ∷ x) n ⊎ IsPart (n ++ c ∷ y) r)
mark_meets r x n y s c w v i p q =
    by (meets r n c c (x ++ p.rest) (y ++ q.rest) (sym (append_assoc r (c ∷ x) p.rest) ∙ sym p.is ∙ q.is ∙ append_assoc n (c ∷ y) q.rest))
  where
    by : Meeting r n c c (x ++ p.rest) (y ++ q.rest) → ((r ≡ n) × (x ≡ y)) ⊎ (IsPart (r ++ c ∷ x) n ⊎ IsPart (n ++ c ∷ y) r)
    by (inl h) = inl (h.0, words_same x y p.rest q.rest w v p.tail q.tail h.2)
    by (inr (inl h)) = inr (inl (part_front r x n h.0 p.rest (y ++ q.rest) c c w i h.1 h.2 p.tail p.scope))
    by (inr (inr h)) = inr (inr (part_front n y r h.0 q.rest (x ++ p.rest) c c v i h.1 h.2 q.tail q.scope))
