-- Names made of parts: a path, a key without a stroke, and what stands behind it.
use Rattle.std.proofs.Common.{◌≡◌, ℕ, true, false, List, [], ◌∷◌, ◌++◌, Option, Some, None, refl, sym, ap, subst, ◌∙◌, append_assoc}
use Rattle.std.specs.Prelude.{◌==◌, bytes_eq}
use Rattle.std.specs.List.{AllByRecursion, IsDistinct, list_any}
use Rattle.std.proofs.lemmas.Bool.{false≢true}
use Rattle.ob_rules.specs.Headings.{BoundAs, path_by}
use Rattle.law_lists.proofs.Lists.{all_both, all_from, differ_false, or_parts}

-- none of them is that byte
abbrev pub Lacks : ℕ → List ℕ → Type 0
Lacks c x = AllByRecursion (λ b. b ≡ c → ⊥) x

-- neither a stop nor a stroke
abbrev pub IsPlain : List ℕ → Type 0
IsPlain x = Lacks 46 x × Lacks 47 x

-- nothing, or a stroke and more
abbrev pub IsRest : List ℕ → Type 0
IsRest [] = Unit {0}
IsRest (c ∷ cs) = c ≡ 47

pub lacks_from : (c : ℕ) (x : List ℕ) → (c == c) ≡ true → list_any (λ b. b == c) x ≡ false → Lacks c x
lacks_from c [] r e = tt
lacks_from c (b ∷ x) r e =
    let p = or_parts (b == c) (list_any (λ b. b == c) x) e in
    (λ i. false≢true (sym p.0 ∙ (ap (λ n. n == c) i ∙ r)), lacks_from c x r p.1)

pub lacks_dot : {A : Type 0} (c : ℕ) (o x : List ℕ) → Lacks c (o ++ c ∷ x) → A
lacks_dot c [] x h = absurd (h.0 refl)
lacks_dot c (b ∷ o) x h = lacks_dot c o x h.1

-- keys in front of what begins with a stroke
pub keys_agree : (k l r s : List ℕ) → Lacks 47 k → Lacks 47 l → IsRest r → IsRest s → k ++ r ≡ l ++ s → k ≡ l
keys_agree [] [] r s a b c d e = refl
keys_agree [] (y ∷ l) [] s a b c d e = absurd cc
keys_agree [] (y ∷ l) (z ∷ r) s a b c d e = let i : y ≡ 47 = cc in absurd (b.0 i)
keys_agree (y ∷ k) [] r [] a b c d e = absurd cc
keys_agree (y ∷ k) [] r (z ∷ s) a b c d e = let i : y ≡ 47 = cc in absurd (a.0 i)
keys_agree (y ∷ k) (z ∷ l) r s a b c d e =
    let t : k ++ r ≡ l ++ s = cc in
    let i : k ≡ l = keys_agree k l r s a.1 b.1 c d t in
    cc

-- the last stop
last_dot : (o p x y : List ℕ) → Lacks 46 x → Lacks 46 y → o ++ 46 ∷ x ≡ p ++ 46 ∷ y → (o ≡ p) × (x ≡ y)
last_dot [] [] x y a b e = (refl, cc)
last_dot [] (c ∷ p) x y a b e = let t : x ≡ p ++ 46 ∷ y = cc in lacks_dot 46 p y (subst (Lacks 46) t a)
last_dot (c ∷ o) [] x y a b e = let t : o ++ 46 ∷ x ≡ y = cc in lacks_dot 46 o x (subst (Lacks 46) (sym t) b)
last_dot (c ∷ o) (d ∷ p) x y a b e =
    let t : o ++ 46 ∷ x ≡ p ++ 46 ∷ y = cc in
    let i = last_dot o p x y a b t in
    let j : o ≡ p = i.0 in
    (cc, i.1)

-- two procedures are bound alike, and have one name
abbrev pub AreSame : Option BoundAs → Option BoundAs → List ℕ → List ℕ → Type 0
AreSame None None x y = x ≡ y
AreSame None (Some b) x y = ⊥
AreSame (Some a) None x y = ⊥
AreSame (Some a) (Some b) x y = (a.owner.object ≡ b.owner.object) × (x ≡ y)

pub dotted : (b : BoundAs) (x : List ℕ) → path_by (Some (Some b)) x ≡ b.owner.object ++ 46 ∷ x
dotted b x = append_assoc b.owner.object (46 ∷ []) x

pub same_keys : (a b : Option BoundAs) (x y : List ℕ) → Lacks 46 x → Lacks 46 y → path_by (Some a) x ≡ path_by (Some b) y → AreSame a b x y
same_keys None None x y h k e = e
same_keys None (Some b) x y h k e = lacks_dot 46 b.owner.object y (subst (Lacks 46) (e ∙ dotted b y) h)
same_keys (Some a) None x y h k e = lacks_dot 46 a.owner.object x (subst (Lacks 46) (sym e ∙ dotted a x) k)
same_keys (Some a) (Some b) x y h k e = last_dot a.owner.object b.owner.object x y h k (sym (dotted a x) ∙ (e ∙ dotted b y))

-- ---- lists of names

abbrev pub AreApart : List (List ℕ) → Type 0
AreApart [] = Unit {0}
AreApart (x ∷ xs) = AllByRecursion (λ y. x ≡ y → ⊥) xs × AreApart xs

pub apart_both : (xs ys : List (List ℕ)) → AreApart xs → AreApart ys → AllByRecursion (λ x. AllByRecursion (λ y. x ≡ y → ⊥) ys) xs → AreApart (xs ++ ys)
apart_both [] ys h k l = k
apart_both (x ∷ xs) ys h k l = (all_both (λ y. x ≡ y → ⊥) xs ys h.0 l.0, apart_both xs ys h.1 k l.1)

pub distinct_from : (xs : List (List ℕ)) → AreApart xs → IsDistinct bytes_eq xs
unfolding IsDistinct
distinct_from [] h = tt
distinct_from (x ∷ xs) h = (all_from (λ y. x ≡ y → ⊥) (λ y. bytes_eq x y ≡ false) (λ y k. differ_false x y k) xs h.0, distinct_from xs h.1)
