-- Headings as what their names are made of, and lists of them.
use Rattle.std.proofs.Common.{◌≡◌, ◌⊎◌, inl, inr, ℕ, ◌<◌, Bool, true, false, List, [], ◌∷◌, ◌++◌, length, Option, Some, None, refl, sym, ap, subst, ◌∙◌, append_assoc, length-append, arith}
use Rattle.std.specs.Prelude.{◌≢◌}
use Rattle.std.specs.List.{AllByRecursion}
use Rattle.ob_types.specs.declared.typed.TypedType.{TypedType}
use Rattle.law_names_distinct.specs.Distinct.{AreDistinct}
use Rattle.law_names_distinct.specs.Parts.{is_mark, IsWord, IsTail, IsInScope, IsPart}
use Rattle.law_names_types.specs.Unlike.{IsWithin}
use Rattle.law_lists.proofs.Lists.{all_both}

-- what it is bound to, if it is, by the name of the record; its name; whether it is forward; and the types that it makes
pub record Item : Type 0 where
  pub owner : Option (List ℕ)
  pub called : List ℕ
  pub forward : Bool
  pub made : List TypedType

abbrev pub stem_by : List ℕ → Option (List ℕ) → List ℕ → List ℕ
stem_by path None x = path ++ x
stem_by path (Some o) x = o ++ 46 ∷ x

abbrev pub stem : List ℕ → Item → List ℕ
stem path a = stem_by path a.owner a.called

abbrev pub hat : Bool → List ℕ
hat true = 94 ∷ []
hat false = []

-- the name goes on, behind that of the procedure, with the places of parameters
abbrev pub Behind : List ℕ → Bool → List ℕ → Type 0
Behind s f n = (r : List ℕ) × (n ≡ s ++ (hat f ++ 40 ∷ r))

-- ---- members of lists

abbrev pub IsAmong : {A : Type 0} → A → List A → Type 0
IsAmong x [] = ⊥
IsAmong x (y ∷ ys) = (x ≡ y) ⊎ IsAmong x ys

pub all_at : {A : Type 0} (P : A → Type 0) (xs : List A) → AllByRecursion P xs → (x : A) → IsAmong x xs → P x
all_at P [] h x i = absurd i
all_at P (y ∷ ys) h x (inl e) = subst P (sym e) h.0
all_at P (y ∷ ys) h x (inr i) = all_at P ys h.1 x i

pub all_of : {A : Type 0} (P : A → Type 0) (xs : List A) → ((x : A) → IsAmong x xs → P x) → AllByRecursion P xs
all_of P [] f = tt
all_of P (y ∷ ys) f = (f y (inl refl), all_of P ys (λ x i. f x (inr i)))

pub in_either : {A : Type 0} (xs ys : List A) (x : A) → IsAmong x (xs ++ ys) → IsAmong x xs ⊎ IsAmong x ys
in_either [] ys x i = inr i
in_either (y ∷ xs) ys x (inl e) = inl (inl e)
in_either {A} (y ∷ xs) ys x (inr i) = by (in_either xs ys x i)
  where
    by : IsAmong x xs ⊎ IsAmong x ys → IsAmong x (y ∷ xs) ⊎ IsAmong x ys
    by (inl h) = inl (inr h)
    by (inr h) = inr h

pub in_front : {A : Type 0} (xs ys : List A) (x : A) → IsAmong x xs → IsAmong x (xs ++ ys)
in_front [] ys x i = absurd i
in_front (y ∷ xs) ys x (inl e) = inl e
in_front (y ∷ xs) ys x (inr i) = inr (in_front xs ys x i)

pub in_back : {A : Type 0} (xs ys : List A) (x : A) → IsAmong x ys → IsAmong x (xs ++ ys)
in_back [] ys x i = i
in_back (y ∷ xs) ys x i = inr (in_back xs ys x i)

pub distinct_same : (ts : List TypedType) → AreDistinct (λ t. t.name) ts → (t s : TypedType) → IsAmong t ts → IsAmong s ts → t.name ≡ s.name → t ≡ s
distinct_same [] d t s i j e = absurd i
distinct_same (y ∷ ts) d t s (inl a) (inl b) e = a ∙ sym b
distinct_same (y ∷ ts) d t s (inl a) (inr j) e = absurd (all_at (λ z. z.name ≢ y.name) ts d.0 s j (sym e ∙ ap (λ (z : TypedType). z.name) a))
distinct_same (y ∷ ts) d t s (inr i) (inl b) e = absurd (all_at (λ z. z.name ≢ y.name) ts d.0 t i (e ∙ ap (λ (z : TypedType). z.name) b))
distinct_same (y ∷ ts) d t s (inr i) (inr j) e = distinct_same ts d.1 t s i j e

pub distinct_joined : (ts us : List TypedType) → AreDistinct (λ t. t.name) ts → AreDistinct (λ t. t.name) us → ((t s : TypedType) → IsAmong t ts → IsAmong s us → s.name ≢ t.name) → AreDistinct (λ t. t.name) (ts ++ us)
distinct_joined [] us d e f = e
distinct_joined (t ∷ ts) us d e f = (all_both (λ z. z.name ≢ t.name) ts us d.0 (all_of (λ z. z.name ≢ t.name) us (λ s j. f t s (inl refl) j)), distinct_joined ts us d.1 e (λ x s i j. f x s (inr i) j))

-- ---- names that go on

-- words in front of what begins with a mark
pub words_front : (f g s t : List ℕ) → IsWord f → IsWord g → IsTail s → IsTail t → f ++ s ≡ g ++ t → (f ≡ g) × (s ≡ t)
words_front [] [] s t a b c d e = (refl, e)
words_front [] (y ∷ g) [] t a b c d e = absurd cc
words_front [] (y ∷ g) (z ∷ s) t a b c d e = let i : z ≡ y = cc in let bad : true ≡ false = sym c ∙ ap is_mark i ∙ b.0 in absurd cc
words_front (x ∷ f) [] s [] a b c d e = absurd cc
words_front (x ∷ f) [] s (z ∷ t) a b c d e = let i : x ≡ z = cc in let bad : true ≡ false = sym d ∙ ap is_mark (sym i) ∙ a.0 in absurd cc
words_front (x ∷ f) (y ∷ g) s t a b c d e =
    let r : f ++ s ≡ g ++ t = cc in
    let i : x ≡ y = cc in
    let h = words_front f g s t a.1 b.1 c d r in
    (ap (λ z. z ∷ f) i ∙ ap (λ zs. y ∷ zs) h.0, h.1)

pub hat_tail : (f : Bool) (r : List ℕ) → IsTail (hat f ++ 40 ∷ r)
hat_tail true r = refl
hat_tail false r = refl

pub hats_same : (f g : Bool) (r q : List ℕ) → hat f ++ 40 ∷ r ≡ hat g ++ 40 ∷ q → f ≡ g
hats_same true true r q e = refl
hats_same true false r q e = let bad : ◌≡◌ {A = ℕ} 94 40 = cc in absurd (omega (arith, bad))
hats_same false true r q e = let bad : ◌≡◌ {A = ℕ} 40 94 = cc in absurd (omega (arith, bad))
hats_same false false r q e = refl

pub joined_tail : (r z : List ℕ) → IsTail r → IsTail z → IsTail (r ++ z)
joined_tail [] z h k = k
joined_tail (c ∷ r) z h k = h

pub back_scope : (x y : List ℕ) → IsInScope (x ++ y) → IsInScope y
back_scope [] y h = h
back_scope (c ∷ x) y h = back_scope x y h.1

pub all_scope : (path n : List ℕ) → path ≡ [] → IsWithin path n → IsInScope n
all_scope path n e w = subst IsInScope (sym (w.is ∙ ap (λ p. p ++ w.rest) e)) w.scope

pub shorter : (a n z : List ℕ) (c : ℕ) → n ≡ a ++ c ∷ z → length a < length n
shorter a n z c e =
    let h = length-append a (c ∷ z) in
    let k = ap length e in
    omega (arith, h, k)

pub behind_longer : (s : List ℕ) (f : Bool) (n : List ℕ) → Behind s f n → length s < length n
behind_longer s true n b = shorter s n (40 ∷ b.0) 94 b.1
behind_longer s false n b = shorter s n b.0 40 b.1

-- what goes on further
pub behind_on : (s : List ℕ) (f : Bool) (n z k : List ℕ) → Behind s f n → k ≡ n ++ z → Behind s f k
behind_on s f n z k b e = (b.0 ++ z, e ∙ ap (λ x. x ++ z) b.1 ∙ append_assoc s (hat f ++ 40 ∷ b.0) z ∙ ap (λ x. s ++ x) (append_assoc (hat f) (40 ∷ b.0) z))

-- behind a stop and a word
pub behind_part : (o x : List ℕ) (f : Bool) (n : List ℕ) → Behind (o ++ 46 ∷ x) f n → IsInScope n → IsPart (o ++ 46 ∷ x) n
behind_part o x f n b h = record { rest = hat f ++ 40 ∷ b.0; is = b.1; tail = hat_tail f b.0; scope = back_scope (o ++ 46 ∷ x) (hat f ++ 40 ∷ b.0) (subst IsInScope b.1 h) }

pub behind_stop : (o x : List ℕ) (f : Bool) (n : List ℕ) (b : Behind (o ++ 46 ∷ x) f n) → n ≡ o ++ 46 ∷ (x ++ (hat f ++ 40 ∷ b.0))
behind_stop o x f n b = b.1 ∙ append_assoc o (46 ∷ x) (hat f ++ 40 ∷ b.0)

pub behind_path : (p x : List ℕ) (f : Bool) (n : List ℕ) (b : Behind (p ++ x) f n) → n ≡ p ++ (x ++ (hat f ++ 40 ∷ b.0))
behind_path p x f n b = b.1 ∙ append_assoc p x (hat f ++ 40 ∷ b.0)
