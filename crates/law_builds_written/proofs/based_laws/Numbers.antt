-- The number of a record type that stands before others is below their numbers.
use Rattle.std.proofs.Common.{◌≡◌, refl, sym, ap, ◌∙◌, ℕ, ◌+◌, ◌<◌, ◌≤◌, Bool, true, false, List, [], ◌∷◌, ◌++◌, Option, inl, inr, arith}
use Rattle.std.specs.Prelude.{bytes_eq, if◌then◌else◌}
use Rattle.std.proofs.lemmas.Bool.{false≢true}
use Rattle.ob_tree.specs.declared.names.QName.{QName}
use Rattle.ob_types.specs.declared.desc.Desc.{Desc}
use Rattle.ob_types.specs.declared.desc.Desc.TheVariants as desc
use Rattle.ob_types.specs.declared.typed.TypedType.{TypedType}
use Rattle.ob_types.specs.TypedSyntax.{Module}
use Rattle.ob_scheme.specs.Context.{before, is_record, records_among}
use Rattle.law_simulation_relation.proofs.Names.{bytes_same}
use Rattle.law_typing_forms.specs.Said.{IsOneOf}
use Rattle.law_spelling.specs.Files.{number_behind}

abbrev step : Bool → ℕ → ℕ
step true n = n + 1
step false n = n

-- behind these types
abbrev pub counted : ℕ → List TypedType → ℕ
counted n [] = n
counted n (t ∷ ts) = counted (step (is_record t.desc) n) ts

module _ (types : QName → Option Desc) (m : Module) where
  number_is : (n : ℕ) (d : Desc) → number_behind types m n d ≡ step (is_record d) n
  number_is n (desc.Record r) = refl
  number_is n (desc.Const v) = refl
  number_is n (desc.Var k t) = refl
  number_is n (desc.Proc s) = refl
  number_is n (desc.Alias k t) = refl
  number_is n (desc.Array k c t) = refl
  number_is n (desc.OpenArray k t) = refl
  number_is n (desc.Pointer k t) = refl
  number_is n (desc.ProcType k s) = refl

  pub counted_more : (ts : List TypedType) (n : ℕ) (t : TypedType) → counted n (ts ++ t ∷ []) ≡ number_behind types m (counted n ts) t.desc
  counted_more [] n t = sym (number_is n t.desc)
  counted_more (s ∷ ts) n t = counted_more ts (step (is_record s.desc) n) t

at_least : (n : ℕ) (ts : List TypedType) → n ≤ counted n ts
at_least n [] = omega arith
at_least n (t ∷ ts) = by (is_record t.desc) (at_least (n + 1) ts) (at_least n ts)
  where
    by : (b : Bool) → n + 1 ≤ counted (n + 1) ts → n ≤ counted n ts → n ≤ counted (step b n) ts
    by true h k = omega (arith, h)
    by false h k = k

abbrev pub place : List TypedType → List ℕ → ℕ
place ts x = before (λ (t : TypedType). t.name) (λ (t : TypedType). 1) ts x

found_first : (n k c : ℕ) → n + 1 ≤ c → n + 0 < c
found_first n k c h = omega (arith, h)

found_behind : (n k c : ℕ) → (n + 1) + k < c → n + (1 + k) < c
found_behind n k c h = omega (arith, h)

index_below : (ts rest : List TypedType) (x : List ℕ) (n : ℕ) (s : TypedType) → IsOneOf ts s → s.name ≡ x → is_record s.desc ≡ true → n + place (records_among (ts ++ rest)) x < counted n ts
index_below [] rest x n s i e r = absurd i
index_below (t ∷ ts) rest x n s i e r = by (is_record t.desc) refl i (λ k j. index_below ts rest x k s j e r)
  where
    at : (b : Bool) → bytes_eq x t.name ≡ b → IsOneOf (t ∷ ts) s → (IsOneOf ts s → (n + 1) + place (records_among (ts ++ rest)) x < counted (n + 1) ts) → n + (if b then 0 else 1 + place (records_among (ts ++ rest)) x) < counted (n + 1) ts
    at true f i g = found_first n 0 (counted (n + 1) ts) (at_least (n + 1) ts)
    at false f (inl j) g = absurd (false≢true (sym f ∙ ap (λ (y : TypedType). bytes_eq x y.name) j ∙ ap (bytes_eq x) e ∙ bytes_same x))
    at false f (inr j) g = found_behind n (place (records_among (ts ++ rest)) x) (counted (n + 1) ts) (g j)

    by : (b : Bool) → is_record t.desc ≡ b → IsOneOf (t ∷ ts) s → ((k : ℕ) → IsOneOf ts s → k + place (records_among (ts ++ rest)) x < counted k ts) → n + place (if b then t ∷ records_among (ts ++ rest) else records_among (ts ++ rest)) x < counted (step b n) ts
    by true f i g = at (bytes_eq x t.name) refl i (g (n + 1))
    by false f (inl j) g = absurd (false≢true (sym f ∙ ap (λ (y : TypedType). is_record y.desc) j ∙ r))
    by false f (inr j) g = g n j

from_none : (k c : ℕ) → 0 + k < c → k < c
from_none k c h = omega (arith, h)

-- counted from the first on
pub number_below : (ts rest : List TypedType) (s : TypedType) → IsOneOf ts s → (x : List ℕ) → s.name ≡ x → is_record s.desc ≡ true → place (records_among (ts ++ rest)) x < counted 0 ts
number_below ts rest s i x e r = from_none (place (records_among (ts ++ rest)) x) (counted 0 ts) (index_below ts rest x 0 s i e r)
