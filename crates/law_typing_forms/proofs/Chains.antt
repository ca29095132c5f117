-- No chain of types is longer than there are types.
use Rattle.std.proofs.Common.{◌≡◌, ◌⊎◌, ⊎_elim, inl, inr, ℕ, zero, suc, ◌+◌, List, [], ◌∷◌, ◌++◌, map as each, length, length-append, Option, Some, None, refl, sym, ap, subst, ◌∙◌}
use Rattle.std.specs.Prelude.{Bool, true, false, bytes_eq, if◌then◌else◌, MatchOption, IsTrue}
use Rattle.std.specs.List.{AllByRecursion}
use Rattle.ob_tree.specs.declared.names.QName.{QName}
use Rattle.ob_types.specs.declared.types.TypeRef.{TypeRef}
use Rattle.ob_types.specs.declared.types.TypeRef.TheVariants as ref
use Rattle.ob_types.specs.declared.desc.Desc.{Desc}
use Rattle.ob_types.specs.declared.typed.TypedType.{TypedType}
use Rattle.ob_types.specs.Maps.{is_type, stands_on, IsWithin}
use Rattle.ob_types.specs.TypedSyntax.{Module}
use Rattle.ob_types.proofs.Targets.{more}
use Rattle.ob_meaning.specs.Values.{same_name, Program, type_named, description, number_of_types}
use Rattle.law_simulation_relation.proofs.Names.{bytes_true, name_true, name_same}
use Rattle.law_typing_forms.specs.Said.{IsOneOf, ChainsEnd, IsSound}
use Rattle.law_lists.proofs.Lists.{length_each}

-- ---- a list without one of its items

record Left {A : Type 0} (xs : List A) (x : A) : Type 0 where
  ys : List A
  one_less : length xs ≡ suc (length ys)
  others : (y : A) → IsOneOf xs y → (y ≡ x) ⊎ IsOneOf ys y

left : {A : Type 0} (xs : List A) (x : A) → IsOneOf xs x → Left xs x
left [] x i = absurd i
left (z ∷ xs) x (inl e) = record { ys = xs; one_less = refl; others = λ y i. ⊎_elim (λ k. inl (sym k ∙ e)) (λ k. inr k) i }
left (z ∷ xs) x (inr i) =
    let h = left xs x i in
    record { ys = z ∷ h.ys; one_less = ap suc h.one_less; others = λ y k. ⊎_elim (λ e. inr (inl e)) (λ j. ⊎_elim (λ e. inl e) (λ l. inr (inr l)) (h.others y j)) k }

-- ---- a map without one of its names

abbrev without : (QName → Option Desc) → QName → QName → Option Desc
without types q p = if same_name p q then None else types p

abbrev Holds : List QName → (QName → Option Desc) → Type 0
Holds names types = (q : QName) (d : Desc) → types q ≡ Some d → IsOneOf names q

-- ---- a chain is so long, or not

Decided : Type 0 → Type 0
Decided A = A ⊎ (A → ⊥)

all_decided : (P : TypeRef → Type 0) → ((t : TypeRef) → P t ⊎ (P t → ⊥)) → (ts : List TypeRef) → AllByRecursion P ts ⊎ (AllByRecursion P ts → ⊥)
all_decided P f [] = inl tt
all_decided P f (t ∷ ts) = ⊎_elim (λ h. ⊎_elim (λ k. inl (h, k)) (λ k. inr (λ b. k b.1)) (all_decided P f ts)) (λ h. inr (λ b. h b.0)) (f t)

true_decided : (b : Bool) → IsTrue b ⊎ (IsTrue b → ⊥)
true_decided true = inl refl
true_decided false = inr (λ e. absurd cc)

within_decided : (types : QName → Option Desc) (n : ℕ) (t : TypeRef) → IsWithin types n t ⊎ (IsWithin types n t → ⊥)
unfolding IsWithin
within_decided types n (ref.Basic b) = inl tt
within_decided types zero (ref.Named q) = inr (λ h. h)
within_decided types (suc n) (ref.Named q) = by (types q) (λ t. within_decided types n t)
  where
    by : (o : Option Desc) → ((t : TypeRef) → IsWithin types n t ⊎ (IsWithin types n t → ⊥)) → MatchOption o ⊥ (λ d. IsTrue (is_type d) × AllByRecursion (λ t. IsWithin types n t) (stands_on d)) ⊎ (MatchOption o ⊥ (λ d. IsTrue (is_type d) × AllByRecursion (λ t. IsWithin types n t) (stands_on d)) → ⊥)
    by None f = inr (λ h. h)
    by (Some d) f = ⊎_elim (λ h. ⊎_elim (λ k. inl (h, k)) (λ k. inr (λ b. k b.1)) (all_decided (λ t. IsWithin types n t) f (stands_on d))) (λ h. inr (λ b. h b.0)) (true_decided (is_type d))

all_from : (P Q : TypeRef → Type 0) → ((t : TypeRef) → P t → Q t) → (ts : List TypeRef) → AllByRecursion P ts → AllByRecursion Q ts
all_from P Q f [] h = tt
all_from P Q f (t ∷ ts) h = (f t h.0, all_from P Q f ts h.1)

-- what is within so many, where a name is not, comes by without that name
avoids : (types : QName → Option Desc) (q : QName) (n : ℕ) (t : TypeRef) → (IsWithin types n (ref.Named q) → ⊥) → IsWithin types n t → IsWithin (without types q) n t
unfolding IsWithin
avoids types q n (ref.Basic b) never h = tt
avoids types q zero (ref.Named p) never h = absurd h
avoids types q (suc n) (ref.Named p) never h = by (same_name p q) refl (types p) refl h (λ t h. avoids types q n t (λ k. never (more types n (ref.Named q) k)) h)
  where
    Over : (QName → Option Desc) → Option Desc → Type 0
    Over m o = MatchOption o ⊥ (λ d. IsTrue (is_type d) × AllByRecursion (λ t. IsWithin m n t) (stands_on d))

    at : (o : Option Desc) → Over types o → ((t : TypeRef) → IsWithin types n t → IsWithin (without types q) n t) → Over (without types q) o
    at None h r = h
    at (Some d) h r = (h.0, all_from (λ t. IsWithin types n t) (λ t. IsWithin (without types q) n t) r (stands_on d) h.1)

    by : (b : Bool) → same_name p q ≡ b → (o : Option Desc) → types p ≡ o → Over types o → ((t : TypeRef) → IsWithin types n t → IsWithin (without types q) n t) → Over (without types q) (if b then None else types p)
    by true s o e h r = absurd (never (subst (λ x. IsWithin types (suc n) (ref.Named x)) (name_true p q s) (subst (Over types) (sym e) h)))
    by false s o e h r = subst (Over (without types q)) (sym e) (at o h r)

-- what comes by without a name comes by with it
returns : (types : QName → Option Desc) (q : QName) (n : ℕ) (t : TypeRef) → IsWithin (without types q) n t → IsWithin types n t
unfolding IsWithin
returns types q n (ref.Basic b) h = tt
returns types q zero (ref.Named p) h = absurd h
returns types q (suc n) (ref.Named p) h = by (same_name p q) (types p) h (λ t h. returns types q n t h)
  where
    by : (b : Bool) (o : Option Desc) → MatchOption (if b then None else o) ⊥ (λ d. IsTrue (is_type d) × AllByRecursion (λ t. IsWithin (without types q) n t) (stands_on d)) → ((t : TypeRef) → IsWithin (without types q) n t → IsWithin types n t) → MatchOption o ⊥ (λ d. IsTrue (is_type d) × AllByRecursion (λ t. IsWithin types n t) (stands_on d))
    by true o h r = absurd h
    by false None h r = h
    by false (Some d) h r = (h.0, all_from (λ t. IsWithin (without types q) n t) (λ t. IsWithin types n t) r (stands_on d) h.1)

-- NO CHAIN IS LONGER THAN THERE ARE NAMES
pub no_longer : (k : ℕ) (types : QName → Option Desc) (names : List QName) → length names ≡ k → Holds names types → (n : ℕ) (t : TypeRef) → IsWithin types n t → IsWithin types k t
unfolding IsWithin
no_longer k types names len holds n (ref.Basic b) h = tt
no_longer k types names len holds zero (ref.Named q) h = absurd h
no_longer zero types names len holds (suc n) (ref.Named q) h = by (types q) refl h
  where
    by : (o : Option Desc) → types q ≡ o → MatchOption o ⊥ (λ d. IsTrue (is_type d) × AllByRecursion (λ t. IsWithin types n t) (stands_on d)) → ⊥
    by None e h = h
    by (Some d) e h = let i = left names q (holds q d e) in let bad : zero ≡ suc (length i.ys) = sym len ∙ i.one_less in absurd cc
no_longer (suc k) types names len holds (suc n) (ref.Named q) h =
    ⊎_elim (λ w. no_longer (suc k) types names len holds n (ref.Named q) w) (λ never. by never (types q) refl h (λ m xs l g t w. no_longer k m xs l g n t w)) (within_decided types n (ref.Named q))
  where
    behind : (i : Left names q) → Holds i.ys (without types q)
    behind i p d e = at (same_name p q) refl e
      where
        at : (b : Bool) → same_name p q ≡ b → (if b then None else types p) ≡ Some d → IsOneOf i.ys p
        at true s e = absurd cc
        at false s e = ⊎_elim (λ k. let bad : true ≡ false = sym (name_same q) ∙ ap (λ x. same_name x q) (sym k) ∙ s in absurd cc) (λ j. j) (i.others p (holds p d e))

    by : (IsWithin types n (ref.Named q) → ⊥) → (o : Option Desc) → types q ≡ o → MatchOption o ⊥ (λ d. IsTrue (is_type d) × AllByRecursion (λ t. IsWithin types n t) (stands_on d)) → ((m : QName → Option Desc) (xs : List QName) → length xs ≡ k → Holds xs m → (t : TypeRef) → IsWithin m n t → IsWithin m k t) → MatchOption o ⊥ (λ d. IsTrue (is_type d) × AllByRecursion (λ t. IsWithin types k t) (stands_on d))
    by never None e h r = h
    by never (Some d) e h r =
        let i = left names q (holds q d e) in
        let s : suc (length i.ys) ≡ suc k = sym i.one_less ∙ len in
        let l : length i.ys ≡ k = cc in
        (h.0, all_from (λ t. IsWithin types n t) (λ t. IsWithin types k t) (λ t w. returns types q k t (r (without types q) i.ys l (behind i) t (avoids types q n t never w))) (stands_on d) h.1)

-- ---- the names of a program's types

named : Module → TypedType → QName
named m t = record { «module» = m.name; object = t.name }

names_of : Program → List QName
names_of [] = []
names_of (m ∷ ms) = each (named m) m.types ++ names_of ms

one_left : {A : Type 0} (xs ys : List A) (x : A) → IsOneOf xs x → IsOneOf (xs ++ ys) x
one_left [] ys x h = absurd h
one_left (y ∷ xs) ys x h = ⊎_elim (λ e. inl e) (λ k. inr (one_left xs ys x k)) h

one_right : {A : Type 0} (xs ys : List A) (x : A) → IsOneOf ys x → IsOneOf (xs ++ ys) x
one_right [] ys x h = h
one_right (y ∷ xs) ys x h = inr (one_right xs ys x h)

as_many : (program : Program) → length (names_of program) ≡ number_of_types program
unfolding names_of
as_many [] = refl
as_many (m ∷ ms) = length-append (each (named m) m.types) (names_of ms) ∙ ap (λ n. n + length (names_of ms)) (length_each (named m) m.types) ∙ ap (λ n. length m.types + n) (as_many ms)

among_types : (m : Module) (ts : List TypedType) (q : QName) (d : Desc) → q.«module» ≡ m.name → type_named ts q.object ≡ Some d → IsOneOf (each (named m) ts) q
unfolding named
among_types m [] q d n e = absurd cc
among_types m (t ∷ ts) q d n e = by (bytes_eq q.object t.name) refl e (λ e. among_types m ts q d n e)
  where
    by : (b : Bool) → bytes_eq q.object t.name ≡ b → (if b then Some t.desc else type_named ts q.object) ≡ Some d → (type_named ts q.object ≡ Some d → IsOneOf (each (named m) ts) q) → ((record { «module» = m.name; object = t.name }) ≡ q) ⊎ IsOneOf (each (named m) ts) q
    by true s e r = inl (ap (λ (x : List ℕ). let p : QName = record { «module» = x; object = t.name } in p) (sym n) ∙ ap (λ (x : List ℕ). let p : QName = record { «module» = q.«module»; object = x } in p) (sym (bytes_true q.object t.name s)))
    by false s e r = inr (r e)

all_named : (program : Program) → Holds (names_of program) (description program)
unfolding names_of
all_named [] q d e = absurd cc
all_named (m ∷ ms) q d e = by (bytes_eq q.«module» m.name) refl e (λ e. all_named ms q d e)
  where
    by : (b : Bool) → bytes_eq q.«module» m.name ≡ b → (if b then type_named m.types q.object else description ms q) ≡ Some d → (description ms q ≡ Some d → IsOneOf (names_of ms) q) → IsOneOf (each (named m) m.types ++ names_of ms) q
    by true s e r = one_left (each (named m) m.types) (names_of ms) q (among_types m m.types q d (bytes_true q.«module» m.name s) e)
    by false s e r = one_right (each (named m) m.types) (names_of ms) q (r e)

-- NO TYPE OF A PROGRAM stands on more than all others
pub chains_end : (program : Program) → ChainsEnd program → (q : QName) (d : Desc) → description program q ≡ Some d → IsWithin (description program) (number_of_types program) (ref.Named q)
chains_end program ends q d e = let n = ends q d e in no_longer (number_of_types program) (description program) (names_of program) (as_many program) (all_named program) n.0 (ref.Named q) n.1

pub chains : (program : Program) → IsSound program → (q : QName) (d : Desc) → description program q ≡ Some d → IsWithin (description program) (number_of_types program) (ref.Named q)
chains program sound q d e = chains_end program sound.ends q d e
