-- Lines of bases, where each base stands before what it is the base of.
use Rattle.std.proofs.Common.{◌≡◌, ℕ, zero, suc, ◌-◌, ◌<◌, ◌≤◌, Bool, true, false, List, [], ◌∷◌, length, get_or, Option, Some, None, refl, sym, ap, ◌∙◌, subst, arith}
use Rattle.std.specs.Prelude.{◌||◌, nat_eq}
use Rattle.std.proofs.lemmas.Bool.Decides.{nat_tests}
use Rattle.ob_tdesc.specs.declared.descriptor.Descriptor.{Descriptor}
use Rattle.ob_tdesc.specs.Bases.{base_of, with_bases, line_from, line_of, level_of, is_among}

abbrev pub AreBelow : List Descriptor → Type 0
AreBelow types = (k b : ℕ) → base_of types k ≡ Some b → b < k

-- more steps than there are bases change nothing
pub line_same : (types : List Descriptor) → AreBelow types → (n m a : ℕ) → a < n → a < m → line_from types n a ≡ line_from types m a
line_same types below zero m a ln lm = absurd (omega arith)
line_same types below (suc n) zero a ln lm = absurd (omega arith)
line_same types below (suc n) (suc m) a ln lm = go (base_of types a) refl (λ b x y. line_same types below n m b x y)
  where
    go : (o : Option ℕ) → base_of types a ≡ o → ((b : ℕ) → b < n → b < m → line_from types n b ≡ line_from types m b) → with_bases a o (λ b. line_from types n b) ≡ with_bases a o (λ b. line_from types m b)
    go None e rest = refl
    go (Some b) e rest = let lt = below a b e in ap (λ l. a ∷ l) (rest b (omega arith) (omega arith))

pub line_up : (types : List Descriptor) → AreBelow types → (a b : ℕ) → base_of types a ≡ Some b → line_of types a ≡ a ∷ line_of types b
line_up types below a b e =
    let lt = below a b e in
    ap (λ o. with_bases a o (λ b. line_from types a b)) e ∙ ap (λ l. a ∷ l) (line_same types below a (suc b) b lt (omega arith))

pub line_top : (types : List Descriptor) (a : ℕ) → base_of types a ≡ None → line_of types a ≡ a ∷ []
line_top types a e = ap (λ o. with_bases a o (λ b. line_from types a b)) e

pub line_long : (types : List Descriptor) (a : ℕ) → 0 < length (line_of types a)
line_long types a = go (base_of types a)
  where
    go : (o : Option ℕ) → 0 < length (with_bases a o (λ b. line_from types a b))
    go None = omega arith
    go (Some b) = omega arith

pub level_up : (types : List Descriptor) → AreBelow types → (a b : ℕ) → base_of types a ≡ Some b → level_of types a ≡ suc (level_of types b)
level_up types below a b e =
    let long = line_long types b in
    let up : length (line_of types a) ≡ suc (length (line_of types b)) = ap length (line_up types below a b e) in
    omega arith

pub level_top : (types : List Descriptor) (a : ℕ) → base_of types a ≡ None → level_of types a ≡ 0
level_top types a e = let up : length (line_of types a) ≡ 1 = ap length (line_top types a e) in omega arith

-- each of a line has at most the level of its first
pub among_level : (types : List Descriptor) → AreBelow types → (n a b : ℕ) → a < n → is_among b (line_of types a) ≡ true → level_of types b ≤ level_of types a
among_level types below zero a b lt h = absurd (omega arith)
among_level types below (suc n) a b lt h = go (base_of types a) refl (λ c x i. among_level types below n c b x i)
  where
    here : (t : Bool) → nat_eq b a ≡ t → (l : List ℕ) → is_among b (a ∷ l) ≡ true → (is_among b l ≡ true → level_of types b ≤ level_of types a) → level_of types b ≤ level_of types a
    here true e l i k = let same : b ≡ a = grind (arith, nat_tests) in subst (λ x. level_of types b ≤ level_of types x) same (omega arith)
    here false e l i k = k (rw e at i)

    go : (o : Option ℕ) → base_of types a ≡ o → ((c : ℕ) → c < n → is_among b (line_of types c) ≡ true → level_of types b ≤ level_of types c) → level_of types b ≤ level_of types a
    go None e rest = here (nat_eq b a) refl [] (rw (line_top types a e) at h) (λ i. absurd cc)
    go (Some c) e rest =
        let up = level_up types below a c e in
        let lower = below a c e in
        here (nat_eq b a) refl (line_of types c) (rw (line_up types below a c e) at h) (λ i. let le = rest c (omega arith) i in omega arith)

pub not_among : (types : List Descriptor) → AreBelow types → (a b : ℕ) → level_of types a < level_of types b → is_among b (line_of types a) ≡ false
not_among types below a b lt = go (is_among b (line_of types a)) refl
  where
    go : (t : Bool) → is_among b (line_of types a) ≡ t → t ≡ false
    go true e = let le = among_level types below (suc a) a b (omega arith) e in absurd (omega arith)
    go false e = refl

-- the ancestor at b's level tells whether b is among the bases
pub among_is : (types : List Descriptor) → AreBelow types → (n a b : ℕ) → a < n → level_of types b ≤ level_of types a → is_among b (line_of types a) ≡ nat_eq (get_or (line_of types a) (level_of types a - level_of types b) 0) b
among_is types below zero a b lt le = absurd (omega arith)
among_is types below (suc n) a b lt le = go (base_of types a) refl (λ c x y. among_is types below n c b x y)
  where
    or_false : (t : Bool) → (t || false) ≡ t
    or_false true = refl
    or_false false = refl

    turned : (x y : ℕ) → nat_eq x y ≡ nat_eq y x
    turned x y = tests (nat_eq x y) (nat_eq y x) refl refl
      where
        tests : (s t : Bool) → nat_eq x y ≡ s → nat_eq y x ≡ t → s ≡ t
        tests true true e f = refl
        tests false false e f = refl
        tests true false e f = let same : x ≡ y = grind (arith, nat_tests) in absurd (grind (arith, nat_tests))
        tests false true e f = let same : y ≡ x = grind (arith, nat_tests) in absurd (grind (arith, nat_tests))

    other : (c : ℕ) → base_of types a ≡ Some c → (level_of types b ≤ level_of types c → is_among b (line_of types c) ≡ nat_eq (get_or (line_of types c) (level_of types c - level_of types b) 0) b) → (k : ℕ) → level_of types a - level_of types b ≡ k → is_among b (a ∷ line_of types c) ≡ nat_eq (get_or (a ∷ line_of types c) k 0) b
    other c e rest zero d =
        let up = level_up types below a c e in
        let no = not_among types below c b (omega arith) in
        rw no (or_false (nat_eq b a) ∙ turned b a)
    other c e rest (suc k) d =
        let up = level_up types below a c e in
        let lower = below a c e in
        let i = rest (omega arith) in
        let at : level_of types c - level_of types b ≡ k = omega arith in
        differs (nat_eq b a) refl (i ∙ ap (λ j. nat_eq (get_or (line_of types c) j 0) b) at)
      where
        differs : (t : Bool) → nat_eq b a ≡ t → is_among b (line_of types c) ≡ nat_eq (get_or (line_of types c) k 0) b → (t || is_among b (line_of types c)) ≡ nat_eq (get_or (line_of types c) k 0) b
        differs true f j = let same : b ≡ a = grind (arith, nat_tests) in let level : level_of types b ≡ level_of types a = ap (level_of types) same in absurd (omega arith)
        differs false f j = j

    go : (o : Option ℕ) → base_of types a ≡ o → ((c : ℕ) → c < n → level_of types b ≤ level_of types c → is_among b (line_of types c) ≡ nat_eq (get_or (line_of types c) (level_of types c - level_of types b) 0) b) → is_among b (line_of types a) ≡ nat_eq (get_or (line_of types a) (level_of types a - level_of types b) 0) b
    go None e rest =
        let top = level_top types a e in
        let d : level_of types a - level_of types b ≡ 0 = omega arith in
        rw (d, line_top types a e) (or_false (nat_eq b a) ∙ turned b a)
    go (Some c) e rest = let lower = below a c e in subst (λ (l : List ℕ). is_among b l ≡ nat_eq (get_or l (level_of types a - level_of types b) 0) b) (sym (line_up types below a c e)) (other c e (rest c (omega arith)) (level_of types a - level_of types b) refl)

-- there are no more bases than descriptors before one
pub level_within : (types : List Descriptor) → AreBelow types → (n a : ℕ) → a < n → level_of types a ≤ a
level_within types below zero a lt = absurd (omega arith)
level_within types below (suc n) a lt = go (base_of types a) refl (λ c x. level_within types below n c x)
  where
    go : (o : Option ℕ) → base_of types a ≡ o → ((c : ℕ) → c < n → level_of types c ≤ c) → level_of types a ≤ a
    go None e rest = let top = level_top types a e in omega arith
    go (Some c) e rest =
        let lower = below a c e in
        let le = rest c (omega arith) in
        let up = level_up types below a c e in
        omega arith
