-- Headings that make types differ in what they are bound to, in their name, or in being forward.
use Rattle.std.proofs.Common.{◌≡◌, ℕ, Bool, true, false, List, [], ◌∷◌, ◌++◌, Option, Some, None, refl, sym, ap, subst, ◌∙◌, inl, inr, ◌⊎◌}
use Rattle.std.specs.Prelude.{cond, bytes_eq, not, ◌&&◌}
use Rattle.std.specs.List.{AllByRecursion}
use Rattle.std.proofs.lemmas.Bool.{and_from, and_parts, or_parts, not-true, not-false}
use Rattle.std.proofs.lemmas.Slice.Eq.{bytes_eq-Decides}
use Rattle.ob_rules.specs.Names.{Around}
use Rattle.ob_rules.specs.Types.{Parameters}
use Rattle.ob_rules.specs.Headings.{Head, BoundAs, head_twice, reversed}
use Rattle.law_names_distinct.proofs.Fresh.{is_known}
use Rattle.law_names_types.specs.Once.{AreOnce, plain_before, ArePlainOnce}
use Rattle.law_names_types.proofs.Keys.{once_differ}
use Rattle.law_names_types.proofs.Items.{IsAmong, all_at, all_of, in_either, in_front, in_back}
use Rattle.law_lists.proofs.Lists.{all_both, all_from}

-- ---- lists, and from behind

abbrev pub Pairs : {A : Type 0} → (A → A → Type 0) → List A → Type 0
Pairs R [] = Unit {0}
Pairs R (x ∷ xs) = AllByRecursion (R x) xs × Pairs R xs

pub among_reversed : {A : Type 0} (xs : List A) (x : A) → IsAmong x xs → IsAmong x (reversed xs)
among_reversed [] x i = absurd i
among_reversed (y ∷ xs) x (inl e) = in_back (reversed xs) (y ∷ []) x (inl e)
among_reversed (y ∷ xs) x (inr i) = in_front (reversed xs) (y ∷ []) x (among_reversed xs x i)

pub reversed_among : {A : Type 0} (xs : List A) (x : A) → IsAmong x (reversed xs) → IsAmong x xs
reversed_among [] x i = absurd i
reversed_among {A} (y ∷ xs) x i = by (in_either (reversed xs) (y ∷ []) x i) (λ j. reversed_among xs x j)
  where
    by : IsAmong x (reversed xs) ⊎ IsAmong x (y ∷ []) → (IsAmong x (reversed xs) → IsAmong x xs) → IsAmong x (y ∷ xs)
    by (inl j) g = inr (g j)
    by (inr (inl e)) g = inl e
    by (inr (inr j)) g = absurd j

pairs_end : {A : Type 0} (R : A → A → Type 0) (xs : List A) (y : A) → Pairs R xs → ((x : A) → IsAmong x xs → R x y) → Pairs R (xs ++ y ∷ [])
pairs_end R [] y p f = (tt, tt)
pairs_end R (x ∷ xs) y p f = (all_both (R x) xs (y ∷ []) p.0 (f x (inl refl), tt), pairs_end R xs y p.1 (λ z i. f z (inr i)))

pub pairs_reversed : {A : Type 0} (R : A → A → Type 0) → ((x y : A) → R x y → R y x) → (xs : List A) → Pairs R xs → Pairs R (reversed xs)
pairs_reversed R s [] p = tt
pairs_reversed R s (x ∷ xs) p = pairs_end R (reversed xs) x (pairs_reversed R s xs p.1) (λ z i. s x z (all_at (R x) xs p.0 z (reversed_among xs z i)))

-- ---- those that are not bound

abbrev IsLike : List ℕ → Bool → Head → Type 0
IsLike x f k = (k.is_bound ≡ false) × (k.name ≡ x) × (k.forward ≡ f)

like_test : (x : List ℕ) (f : Bool) (k : Head) → IsLike x f k → (not k.is_bound && bytes_eq k.name x) ≡ true
like_test x f k l = and_from (not k.is_bound) (bytes_eq k.name x) (ap not l.0) ((bytes_eq-Decides k.name x).1 l.1)

none_like : (x : List ℕ) (f : Bool) (hs : List Head) → plain_before hs x ≡ None → AllByRecursion (λ k. IsLike x f k → ⊥) hs
none_like x f [] e = tt
none_like x f (k ∷ hs) e = by (not k.is_bound && bytes_eq k.name x) refl e (λ i. none_like x f hs i)
  where
    by : (b : Bool) → (not k.is_bound && bytes_eq k.name x) ≡ b → cond b (Some k) (plain_before hs x) ≡ None → (plain_before hs x ≡ None → AllByRecursion (λ k. IsLike x f k → ⊥) hs) → AllByRecursion (λ k. IsLike x f k → ⊥) (k ∷ hs)
    by true i e r = absurd cc
    by false i e r = ((λ l. let bad : true ≡ false = sym (like_test x f k l) ∙ i in absurd cc), r e)

forward_twice : (o : Option Head) → head_twice true o ≡ false → o ≡ None
forward_twice None e = refl
forward_twice (Some h) e = absurd cc

not_like : (v : Around) (x : List ℕ) (f : Bool) (hs : List Head) → head_twice f (plain_before hs x) ≡ false → ArePlainOnce v hs → AllByRecursion (λ k. IsLike x f k → ⊥) hs
not_like v x f [] e once = tt
not_like v x f (k ∷ hs) e once = by (not k.is_bound && bytes_eq k.name x) refl e (λ i. not_like v x f hs i once.1)
  where
    by : (b : Bool) → (not k.is_bound && bytes_eq k.name x) ≡ b → head_twice f (cond b (Some k) (plain_before hs x)) ≡ false → (head_twice f (plain_before hs x) ≡ false → AllByRecursion (λ k. IsLike x f k → ⊥) hs) → AllByRecursion (λ k. IsLike x f k → ⊥) (k ∷ hs)
    by true i e r =
        let p = or_parts f (not k.forward) e in
        let q = and_parts (not k.is_bound) (bytes_eq k.name x) i in
        let forward : k.forward ≡ true = not-false k.forward p.1 in
        let mine = (once.0 (not-true k.is_bound q.0)).once in
        let none : plain_before hs k.name ≡ None = forward_twice (plain_before hs k.name) (subst (λ g. head_twice g (plain_before hs k.name) ≡ false) forward mine) in (
          (λ l. let bad : true ≡ false = sym forward ∙ l.2 ∙ p.0 in absurd cc),
          none_like x f hs (subst (λ y. plain_before hs y ≡ None) ((bytes_eq-Decides k.name x).0 q.1) none),
        )
    by false i e r = ((λ l. let bad : true ≡ false = sym (like_test x f k l) ∙ i in absurd cc), r e)

pub plain_new : (v : Around) (hs : List Head) → ArePlainOnce v hs → (h : Head) → IsAmong h hs → h.is_bound ≡ false → is_known v h.name ≡ false
plain_new v [] o h i b = absurd i
plain_new v (k ∷ hs) o h (inl e) b = subst (λ (k : Head). is_known v k.name ≡ false) (sym e) (o.0 (subst (λ (k : Head). k.is_bound ≡ false) e b)).new
plain_new v (k ∷ hs) o h (inr i) b = plain_new v hs o.1 h i b

-- ---- all of them

abbrev pub owner_name : Option BoundAs → Option (List ℕ)
owner_name None = None
owner_name (Some a) = Some a.owner.object

-- both make types: not of the same name for the same record, forward or not
abbrev pub AreApart : Head → Head → Type 0
AreApart h k = (p q : Parameters) → h.parameters ≡ Some p → k.parameters ≡ Some q → (owner_name h.bound ≡ owner_name k.bound) × (h.name ≡ k.name) × (h.forward ≡ k.forward) → ⊥

abbrev pub IsFlagged : Head → Type 0
IsFlagged h = (p : Parameters) → h.parameters ≡ Some p → h.bound ≡ None → h.is_bound ≡ false

bound_apart : (h : Head) (hs : List Head) (a : BoundAs) → h.bound ≡ Some a → AllByRecursion (λ k. (b : BoundAs) × (k.bound ≡ Some b) × (b.owner.object ≡ a.owner.object) × (k.name ≡ h.name) × (k.forward ≡ h.forward) → ⊥) hs → AllByRecursion (AreApart h) hs
bound_apart h hs a i all = all_from (λ k. (b : BoundAs) × (k.bound ≡ Some b) × (b.owner.object ≡ a.owner.object) × (k.name ≡ h.name) × (k.forward ≡ h.forward) → ⊥) (AreApart h) (λ k no p q e g s. no (like k k.bound refl (sym (ap owner_name i) ∙ s.0) s.1 s.2)) hs all
  where
    like : (k : Head) (o : Option BoundAs) → k.bound ≡ o → Some a.owner.object ≡ owner_name o → h.name ≡ k.name → h.forward ≡ k.forward → (b : BoundAs) × (k.bound ≡ Some b) × (b.owner.object ≡ a.owner.object) × (k.name ≡ h.name) × (k.forward ≡ h.forward)
    like k None e s n f = absurd cc
    like k (Some b) e s n f = (b, e, cc, sym n, sym f)

no_owner : (o : Option BoundAs) → None ≡ owner_name o → o ≡ None
no_owner None e = refl
no_owner (Some a) e = absurd cc

pub heads_apart : (v : Around) (hs : List Head) → AreOnce hs → ArePlainOnce v hs → AllByRecursion IsFlagged hs → Pairs AreApart hs
heads_apart v [] o p f = tt
heads_apart v (h ∷ hs) o p f = (by h.bound refl, heads_apart v hs o.1 p.1 f.1)
  where
    by : (b : Option BoundAs) → h.bound ≡ b → AllByRecursion (AreApart h) hs
    by (Some a) i = bound_apart h hs a i (once_differ h hs o.0 o.1 a i)
    by None i = all_of (AreApart h) hs
        (λ k j x y e g s.
        let all = not_like v h.name h.forward hs (p.0 (f.0 x e i)).once p.1 in
        let flag = all_at IsFlagged hs f.1 k j y g (no_owner k.bound (sym (ap owner_name i) ∙ s.0)) in
        all_at (λ k. IsLike h.name h.forward k → ⊥) hs all k j (flag, sym s.1, sym s.2))

pub apart_turned : (h k : Head) → AreApart h k → AreApart k h
apart_turned h k a p q e g s = a q p g e (sym s.0, sym s.1, sym s.2)
