-- Places in their order, and places among those of tokens.
use Rattle.std.proofs.Common.{◌≡◌, ◌⊎◌, inl, inr, ℕ, ◌<◌, ◌≤◌, Bool, true, false, List, [], ◌∷◌, ◌++◌, refl, sym, subst, ◌∙◌, arith}
use Rattle.std.specs.Prelude.{◌+◌, ◌||◌, nat_lt, nat_eq}
use Rattle.std.proofs.lemmas.Bool.{false≢true}
use Rattle.std.proofs.lemmas.Bool.Decides.{nat_tests}
use Rattle.ob_tree.specs.declared.pos.Pos.{Pos}
use Rattle.ob_parse_grammar.specs.Phrase.{Tokens}
use Rattle.law_spelling_read.specs.Placed.{is_before, rise_behind, are_rising}
use Rattle.law_lists.proofs.Lists.{both_true, less_true}

abbrev pub Before : Pos → Pos → Type 0
Before p q = (p.line < q.line) ⊎ ((p.line ≡ q.line) × (p.col < q.col))

abbrev pub AtMost : Pos → Pos → Type 0
AtMost p q = (p.line < q.line) ⊎ ((p.line ≡ q.line) × (p.col ≤ q.col))

less_then : (a b c : ℕ) → a < b → b < c → a < c
less_then a b c h k = omega (arith, h, k)

less_to : (a b c : ℕ) → a < b → b ≡ c → a < c
less_to a b c h e = subst (λ x. a < x) e h

less_from : (a b c : ℕ) → a ≡ b → b < c → a < c
less_from a b c e h = subst (λ x. x < c) (sym e) h

most_then : (a b c : ℕ) → a ≤ b → b ≤ c → a ≤ c
most_then a b c h k = omega (arith, h, k)

most_less : (a b c : ℕ) → a ≤ b → b < c → a < c
most_less a b c h k = omega (arith, h, k)

less_most : (a b c : ℕ) → a < b → b ≤ c → a < c
less_most a b c h k = omega (arith, h, k)

pub at_same : (p : Pos) → AtMost p p
at_same p = let h : p.col ≤ p.col = omega arith in inr (refl, h)

pub at_then : (a b c : Pos) → AtMost a b → AtMost b c → AtMost a c
at_then a b c (inl h) (inl k) = inl (less_then a.line b.line c.line h k)
at_then a b c (inl h) (inr k) = inl (less_to a.line b.line c.line h k.0)
at_then a b c (inr h) (inl k) = inl (less_from a.line b.line c.line h.0 k)
at_then a b c (inr h) (inr k) = inr (h.0 ∙ k.0, most_then a.col b.col c.col h.1 k.1)

pub before_at : (a b c : Pos) → Before a b → AtMost b c → Before a c
before_at a b c (inl h) (inl k) = inl (less_then a.line b.line c.line h k)
before_at a b c (inl h) (inr k) = inl (less_to a.line b.line c.line h k.0)
before_at a b c (inr h) (inl k) = inl (less_from a.line b.line c.line h.0 k)
before_at a b c (inr h) (inr k) = inr (h.0 ∙ k.0, less_most a.col b.col c.col h.1 k.1)

pub before_then : (a b c : Pos) → Before a b → Before b c → Before a c
before_then a b c (inl h) (inl k) = inl (less_then a.line b.line c.line h k)
before_then a b c (inl h) (inr k) = inl (less_to a.line b.line c.line h k.0)
before_then a b c (inr h) (inl k) = inl (less_from a.line b.line c.line h.0 k)
before_then a b c (inr h) (inr k) = inr (h.0 ∙ k.0, less_then a.col b.col c.col h.1 k.1)

-- ---- tokens that rise

abbrev pub Rise : Pos → Tokens → Type 0
Rise p [] = Unit {0}
Rise p (t ∷ ts) = Before p t.pos × Rise t.pos ts

rise_back : (p q : Pos) (ts : Tokens) → Before p q → Rise q ts → Rise p ts
rise_back p q [] b h = tt
rise_back p q (t ∷ ts) b h = (before_then p q t.pos b h.0, h.1)

pub rise_left : (p : Pos) (a b : Tokens) → Rise p (a ++ b) → Rise p a
rise_left p [] b h = tt
rise_left p (t ∷ a) b h = (h.0, rise_left t.pos a b h.1)

pub rise_right : (p : Pos) (a b : Tokens) → Rise p (a ++ b) → Rise p b
rise_right p [] b h = h
rise_right p (t ∷ a) b h = rise_back p t.pos b h.0 (rise_right t.pos a b h.1)

-- ---- places among those of tokens, in their order

abbrev pub Among : List Pos → Tokens → Type 0
Among [] ts = Unit {0}
Among (p ∷ ps) [] = ⊥
Among (p ∷ ps) (t ∷ ts) = ((t.pos ≡ p) × Among ps ts) ⊎ Among (p ∷ ps) ts

pub among_right : (ps : List Pos) (a b : Tokens) → Among ps b → Among ps (a ++ b)
among_right [] a b h = tt
among_right (p ∷ ps) [] b h = h
among_right (p ∷ ps) (t ∷ a) b h = inr (among_right (p ∷ ps) a b h)

pub among_left : (ps : List Pos) (a b : Tokens) → Among ps a → Among ps (a ++ b)
among_left [] a b h = tt
among_left (p ∷ ps) [] b h = absurd h
among_left (p ∷ ps) (t ∷ a) b (inl h) = inl (h.0, among_left ps a b h.1)
among_left (p ∷ ps) (t ∷ a) b (inr h) = inr (among_left (p ∷ ps) a b h)

pub among_both : (ps qs : List Pos) (a b : Tokens) → Among ps a → Among qs b → Among (ps ++ qs) (a ++ b)
among_both [] qs a b h k = among_right qs a b k
among_both (p ∷ ps) qs [] b h k = absurd h
among_both (p ∷ ps) qs (t ∷ a) b (inl h) k = inl (h.0, among_both ps qs a b h.1 k)
among_both (p ∷ ps) qs (t ∷ a) b (inr h) k = inr (among_both (p ∷ ps) qs a b h k)

-- ---- so they rise

abbrev PlacesRise : Pos → List Pos → Type 0
PlacesRise p [] = Unit {0}
PlacesRise p (q ∷ qs) = Before p q × PlacesRise q qs

among_rise : (p : Pos) (ps : List Pos) (ts : Tokens) → Rise p ts → Among ps ts → PlacesRise p ps
among_rise p [] ts r h = tt
among_rise p (q ∷ qs) [] r h = absurd h
among_rise p (q ∷ qs) (t ∷ ts) r (inl h) = (subst (λ (x : Pos). Before p x) h.0 r.0, subst (λ (x : Pos). PlacesRise x qs) h.0 (among_rise t.pos qs ts r.1 h.1))
among_rise p (q ∷ qs) (t ∷ ts) r (inr h) = among_rise p (q ∷ qs) ts (rise_back p t.pos ts r.0 r.1) h

left_true : (a b : Bool) → a ≡ true → a || b ≡ true
left_true true b e = refl
left_true false b e = absurd (false≢true e)

right_true : (a b : Bool) → b ≡ true → a || b ≡ true
right_true true b e = refl
right_true false b e = e

same_true : (a b : ℕ) → a ≡ b → nat_eq a b ≡ true
same_true a b h = subst (λ x. nat_eq a x ≡ true) h (itself a)
  where
    itself : (n : ℕ) → nat_eq n n ≡ true
    itself n = grind (arith, nat_tests)

before_is : (p q : Pos) → Before p q → is_before p q ≡ true
before_is p q (inl h) = left_true (nat_lt p.line q.line) _ (less_true p.line q.line h)
before_is p q (inr h) = right_true (nat_lt p.line q.line) _ (both_true (nat_eq p.line q.line) (nat_lt p.col q.col) (same_true p.line q.line h.0) (less_true p.col q.col h.1))

behind_is : (p : Pos) (qs : List Pos) → PlacesRise p qs → rise_behind p qs ≡ true
behind_is p [] h = refl
behind_is p (q ∷ qs) h = both_true (is_before p q) (rise_behind q qs) (before_is p q h.0) (behind_is q qs h.1)

rising_is : (p : Pos) (ps : List Pos) → PlacesRise p ps → are_rising ps ≡ true
rising_is p [] h = refl
rising_is p (q ∷ qs) h = behind_is q qs h.1

pub among_rising : (p : Pos) (ps : List Pos) (ts : Tokens) → Rise p ts → Among ps ts → are_rising ps ≡ true
among_rising p ps ts r h = rising_is p ps (among_rise p ps ts r h)
