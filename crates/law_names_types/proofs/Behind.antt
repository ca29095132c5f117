-- What stands behind a name, and what does not.
use Rattle.std.proofs.Common.{◌≡◌, ℕ, false, List, [], ◌∷◌, ◌++◌, refl, ap, ◌∙◌, append_assoc}
use Rattle.std.specs.Prelude.{◌≢◌, ◌==◌}
use Rattle.std.specs.List.{AllByRecursion}
use Rattle.ob_types.specs.declared.desc.Desc.{Desc}
use Rattle.ob_types.specs.declared.typed.TypedType.{TypedType}
use Rattle.law_names_distinct.specs.Parts.{IsWord, IsTail, IsPart}
use Rattle.law_names_distinct.proofs.Parts.{parts_apart, part_within, part_longer}
use Rattle.law_names_types.specs.Nested.{HasField, IsBehind, AreNested}
use Rattle.law_lists.proofs.Lists.{all_both}

tails : (a b : List ℕ) → IsTail a → IsTail b → IsTail (a ++ b)
tails [] b h k = k
tails (c ∷ a) b h k = h

-- a part of a part
pub part_of : (r n k : List ℕ) → IsPart r n → IsPart n k → IsPart r k
part_of r n k p q = record {
  rest = p.rest ++ q.rest;
  is = q.is ∙ ap (λ x. x ++ q.rest) p.is ∙ append_assoc r p.rest q.rest;
  tail = tails p.rest q.rest p.tail q.tail;
  scope = all_both (λ c. (c == 47) ≡ false) p.rest q.rest p.scope q.scope;
}

-- behind a stop
pub stop_behind : (n x k : List ℕ) → IsWord x → IsPart (n ++ 46 ∷ x) k → IsPart n k
stop_behind n x k w p = part_within n x k 46 refl refl w p

-- ---- one list over another

-- of another part behind the same mark
pub record IsOther (r : List ℕ) (c : ℕ) (f n : List ℕ) : Type 0 where
  pub word : List ℕ
  pub is : IsWord word
  pub other : word ≢ f
  pub part : IsPart (r ++ c ∷ word) n

apart_behind : (r : List ℕ) (c : ℕ) (f : List ℕ) → IsWord f → (t s : TypedType) → IsPart (r ++ c ∷ f) t.name → IsOther r c f s.name → IsBehind t s
apart_behind r c f w t s p o x v q =
    absurd (parts_apart r o.word f s.name s.name c o.is w o.other o.part (part_of (r ++ c ∷ f) t.name s.name p (stop_behind t.name x s.name v q)) refl)

apart_before : (r : List ℕ) (c : ℕ) (f : List ℕ) → IsWord f → (t s : TypedType) → IsOther r c f t.name → IsPart (r ++ c ∷ f) s.name → IsBehind t s
apart_before r c f w t s o p x v q =
    absurd (parts_apart r o.word f s.name s.name c o.is w o.other (part_of (r ++ c ∷ o.word) t.name s.name o.part (stop_behind t.name x s.name v q)) p refl)

pub over_others : (r : List ℕ) (c : ℕ) (f : List ℕ) → IsWord f → (ts us : List TypedType) → AllByRecursion (λ t. IsPart (r ++ c ∷ f) t.name) ts → AllByRecursion (λ s. IsOther r c f s.name) us → AreNested ts us
over_others r c f w [] us h k = tt
over_others r c f w (t ∷ ts) us h k = (one us k, over_others r c f w ts us h.1 k)
  where
    one : (us : List TypedType) → AllByRecursion (λ s. IsOther r c f s.name) us → AllByRecursion (IsBehind t) us
    one [] k = tt
    one (s ∷ us) k = (apart_behind r c f w t s h.0 k.0, one us k.1)

pub others_over : (r : List ℕ) (c : ℕ) (f : List ℕ) → IsWord f → (us ts : List TypedType) → AllByRecursion (λ s. IsOther r c f s.name) us → AllByRecursion (λ t. IsPart (r ++ c ∷ f) t.name) ts → AreNested us ts
others_over r c f w [] ts k h = tt
others_over r c f w (s ∷ us) ts k h = (one ts h, others_over r c f w us ts k.1 h)
  where
    one : (ts : List TypedType) → AllByRecursion (λ t. IsPart (r ++ c ∷ f) t.name) ts → AllByRecursion (IsBehind s) ts
    one [] h = tt
    one (t ∷ ts) h = (apart_before r c f w s t k.0 h.0, one ts h.1)

beside : (ts us vs : List TypedType) → AreNested ts us → AreNested ts vs → AreNested ts (us ++ vs)
beside [] us vs h k = tt
beside (t ∷ ts) us vs h k = (all_both (IsBehind t) us vs h.0 k.0, beside ts us vs h.1 k.1)

-- two lists, each over both
pub nested_both : (ts us : List TypedType) → AreNested ts ts → AreNested ts us → AreNested us ts → AreNested us us → AreNested (ts ++ us) (ts ++ us)
nested_both ts us a b c d = all_both (λ t. AllByRecursion (IsBehind t) (ts ++ us)) ts us (beside ts ts us a b) (beside us ts us c d)

-- ---- one type before others

with_first : (y : TypedType) (ts us : List TypedType) → AllByRecursion (λ t. IsBehind t y) ts → AreNested ts us → AreNested ts (y ∷ us)
with_first y [] us h k = tt
with_first y (t ∷ ts) us h k = ((h.0, k.0), with_first y ts us h.1 k.1)

-- none of those behind a mark has it behind its own name
never_behind : (r : List ℕ) (c : ℕ) (d : Desc) (ts : List TypedType) → AllByRecursion (λ t. IsPart (r ++ c ∷ []) t.name) ts → AllByRecursion (λ t. IsBehind t (record { name = r; desc = d })) ts
never_behind r c d [] h = tt
never_behind r c d (t ∷ ts) h = ((λ x w p. absurd (part_longer r [] r c (part_of (r ++ c ∷ []) t.name r h.0 (stop_behind t.name x r w p)) refl)), never_behind r c d ts h.1)

-- a type that says nothing of fields
pub one_before : (r : List ℕ) (c : ℕ) (d : Desc) (ts : List TypedType) → ((x : List ℕ) → HasField d x) → AllByRecursion (λ t. IsPart (r ++ c ∷ []) t.name) ts → AreNested ts ts → AreNested (record { name = r; desc = d } ∷ ts) (record { name = r; desc = d } ∷ ts)
one_before r c d ts has h k = ((λ x w p. has x, any ts), with_first (record { name = r; desc = d }) ts ts (never_behind r c d ts h) k)
  where
    any : (us : List TypedType) → AllByRecursion (IsBehind (record { name = r; desc = d })) us
    any [] = tt
    any (u ∷ us) = (λ x w p. has x, any us)

-- a type, and others that are all longer
pub one_longer : (y : TypedType) (ts : List TypedType) → IsBehind y y → AllByRecursion (IsBehind y) ts → AllByRecursion (λ t. IsBehind t y) ts → AreNested ts ts → AreNested (y ∷ ts) (y ∷ ts)
one_longer y ts a b c k = ((a, b), with_first y ts ts c k)
