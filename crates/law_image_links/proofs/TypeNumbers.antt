-- The descriptors of a file's record types: how many they are, and their numbers by their names.
use Rattle.std.proofs.Common.{◌≡◌, ℕ, zero, suc, ◌+◌, List, [], ◌∷◌, ◌++◌, length, map, refl, sym, ap, ◌∙◌, arith, append_assoc, append-nil, Option, Some, None}
use Rattle.std.specs.Prelude.{◌<◌, unwrap_or, Bool, true, false, bytes_eq, ◌&&◌, slice_get, IsSome, if◌then◌else◌}
use Rattle.std.proofs.lemmas.Option.{none-some}
use Rattle.ob_tree.specs.declared.names.QName.{QName}
use Rattle.ob_types.specs.declared.desc.Desc.{Desc}
use Rattle.ob_types.specs.declared.desc.Desc.TheVariants as desc
use Rattle.ob_types.specs.declared.typed.TypedType.{TypedType}
use Rattle.ob_types.specs.TypedSyntax.{Module}
use Rattle.ob_tdesc.specs.declared.descriptor.Descriptor.{Descriptor}
use Rattle.ob_obj.specs.declared.parts.RecordType.{RecordType}
use Rattle.ob_obj.specs.Images.{same, type_from, linked_type, or_zero, base_number, descriptor_of, with_types, numbers}
use Rattle.ob_layout.specs.Lists.{sum_of}
use Rattle.ob_scheme.specs.Context.{before, is_record, records_among}
use Rattle.ob_scheme.specs.Numbers.{same_type, with_one}
use Rattle.ob_scheme.specs.Object.{record_in, records_in, with_base, with_record, with_bases, base_type}
use Rattle.ob_scheme.specs.Context.{is_own}
use Rattle.ob_scheme.specs.Object.{own}
use Rattle.law_simulation_relation.specs.Layout.{type_number}
use Rattle.law_simulation_relation.specs.Relation.{OrElse}
use Rattle.law_simulation_relation.proofs.Names.{bytes_same}
use Rattle.law_image_code.specs.Standing.{own_types_in}
use Rattle.law_image_code.specs.Fits.{AmongTypes}
use Rattle.law_image_links.proofs.Lookup.{same_is}

abbrev pub typed : List ℕ → List ℕ → QName
typed m x = record { «module» = m; object = x }

-- DESCRIPTORS OF OTHER MODULES

abbrev pub NotOf : List ℕ → List Descriptor → Type 0
NotOf m [] = Unit {0}
NotOf m (d ∷ ds) = (bytes_eq m d.«module» ≡ false) × NotOf m ds

pub not_two : (m : List ℕ) (ds es : List Descriptor) → NotOf m ds → NotOf m es → NotOf m (ds ++ es)
not_two m [] es f g = g
not_two m (d ∷ ds) es f g = (f.0, not_two m ds es f.1 g)

pub none_counted : (m : List ℕ) (ds es : List Descriptor) → NotOf m ds → own_types_in (ds ++ es) m ≡ own_types_in es m
none_counted m [] es f = refl
none_counted m (d ∷ ds) es f = ap (λ b. if b then suc (own_types_in (ds ++ es) m) else own_types_in (ds ++ es) m) f.0 ∙ none_counted m ds es f.1

pub none_at_all : (m : List ℕ) (es : List Descriptor) → NotOf m es → own_types_in es m ≡ 0
none_at_all m [] f = refl
none_at_all m (d ∷ es) f = ap (λ b. if b then suc (own_types_in es m) else own_types_in es m) f.0 ∙ none_at_all m es f.1

pub past_others : (m x : List ℕ) (ds es : List Descriptor) → NotOf m ds → type_number (ds ++ es) (typed m x) ≡ length ds + type_number es (typed m x)
past_others m x [] es f = omega arith
past_others m x (d ∷ ds) es f =
    let r = past_others m x ds es f.1 in
    let s : suc (type_number (ds ++ es) (typed m x)) ≡ suc (length ds) + type_number es (typed m x) = omega (arith, r) in
    ap (λ b. if b && bytes_eq x d.name then 0 else suc (type_number (ds ++ es) (typed m x))) f.0 ∙ s

-- DESCRIPTORS OF A MODULE, by the names of its types

abbrev pub AreOf : List ℕ → List (List ℕ) → List Descriptor → Type 0
AreOf m [] [] = Unit {0}
AreOf m [] (d ∷ ds) = ⊥
AreOf m (x ∷ xs) [] = ⊥
AreOf m (x ∷ xs) (d ∷ ds) = (d.«module» ≡ m) × ((d.name ≡ x) × AreOf m xs ds)

pub others_not : (n m : List ℕ) (xs : List (List ℕ)) (ds : List Descriptor) → bytes_eq n m ≡ false → AreOf m xs ds → NotOf n ds
others_not n m [] [] e a = tt
others_not n m [] (d ∷ ds) e a = absurd a
others_not n m (x ∷ xs) [] e a = absurd a
others_not n m (x ∷ xs) (d ∷ ds) e a = (ap (bytes_eq n) a.0 ∙ e, others_not n m xs ds e a.1.1)

pub all_counted : (m : List ℕ) (xs : List (List ℕ)) (ds es : List Descriptor) → AreOf m xs ds → own_types_in (ds ++ es) m ≡ length xs + own_types_in es m
all_counted m [] [] es a = omega arith
all_counted m [] (d ∷ ds) es a = absurd a
all_counted m (x ∷ xs) [] es a = absurd a
all_counted m (x ∷ xs) (d ∷ ds) es a =
    let r = all_counted m xs ds es a.1.1 in
    let s : suc (own_types_in (ds ++ es) m) ≡ suc (length xs) + own_types_in es m = omega (arith, r) in
    ap (λ b. if b then suc (own_types_in (ds ++ es) m) else own_types_in (ds ++ es) m) (ap (bytes_eq m) a.0 ∙ bytes_same m) ∙ s

-- the first of a name
abbrev pub place_of : List (List ℕ) → List ℕ → ℕ
place_of [] x = 0
place_of (y ∷ ys) x = if bytes_eq x y then 0 else suc (place_of ys x)

abbrev pub IsName : List (List ℕ) → List ℕ → Type 0
IsName [] x = ⊥
IsName (y ∷ ys) x = OrElse (bytes_eq x y) (Unit {0}) (IsName ys x)

pub own_number : (m : List ℕ) (xs : List (List ℕ)) (ds es : List Descriptor) (x : List ℕ) → AreOf m xs ds → IsName xs x → type_number (ds ++ es) (typed m x) ≡ place_of xs x
own_number m [] [] es x a i = absurd i
own_number m [] (d ∷ ds) es x a i = absurd a
own_number m (y ∷ xs) [] es x a i = absurd a
own_number m (y ∷ xs) (d ∷ ds) es x a i = ap (λ b. if b && bytes_eq x d.name then 0 else suc (type_number (ds ++ es) (typed m x))) (ap (bytes_eq m) a.0 ∙ bytes_same m) ∙ ap (λ z. if bytes_eq x z then 0 else suc (type_number (ds ++ es) (typed m x))) a.1.0 ∙ go (bytes_eq x y) i (λ j. own_number m xs ds es x a.1.1 j)
  where
    go : (b : Bool) → OrElse b (Unit {0}) (IsName xs x) → (IsName xs x → type_number (ds ++ es) (typed m x) ≡ place_of xs x) → (if b then 0 else suc (type_number (ds ++ es) (typed m x))) ≡ (if b then 0 else suc (place_of xs x))
    go true i more = refl
    go false i more = ap suc (more i)

pub numbers_at : (n : ℕ) (xs : List (List ℕ)) (l : List ℕ) (x : List ℕ) → IsName xs x → slice_get (numbers n (length xs) ++ l) (place_of xs x) ≡ Some (n + place_of xs x)
numbers_at n [] l x i = absurd i
numbers_at n (y ∷ xs) l x i = go (bytes_eq x y) i (λ j. numbers_at (suc n) xs l x j)
  where
    go : (b : Bool) → OrElse b (Unit {0}) (IsName xs x) → (IsName xs x → slice_get (numbers (suc n) (length xs) ++ l) (place_of xs x) ≡ Some (suc n + place_of xs x)) → slice_get (n ∷ (numbers (suc n) (length xs) ++ l)) (if b then 0 else suc (place_of xs x)) ≡ Some (n + (if b then 0 else suc (place_of xs x)))
    go true i more = ap (λ k. Some k) (let e : n ≡ n + 0 = omega arith in e)
    go false i more = more i ∙ ap (λ k. Some k) (let e : suc n + place_of xs x ≡ n + suc (place_of xs x) = omega arith in e)

pub numbers_past : (n j : ℕ) (l : List ℕ) (k : ℕ) → slice_get (numbers n j ++ l) (j + k) ≡ slice_get l k
numbers_past n zero l k = ap (slice_get l) (let e : 0 + k ≡ k = omega arith in e)
numbers_past n (suc j) l k = ap (slice_get (n ∷ (numbers (suc n) j ++ l))) (let e : suc j + k ≡ suc (j + k) = omega arith in e) ∙ numbers_past (suc n) j l k

-- THE DESCRIPTORS OF A FILE, with the words and the bases of its record types

abbrev pub AreMade : ℕ → List ℕ → List RecordType → List Descriptor → Type 0
AreMade first links [] ds = Unit {0}
AreMade first links (t ∷ ts) [] = ⊥
AreMade first links (t ∷ ts) (d ∷ ds) = ((d.words ≡ t.words) × (d.base ≡ base_number first links t.base)) × AreMade first links ts ds

pub record Added (m : List ℕ) (first : ℕ) (links : List ℕ) (types all : List Descriptor) (own : List RecordType) : Type 0 where
  pub descriptors : List Descriptor
  pub is : all ≡ types ++ descriptors
  pub are : AreOf m (map (λ t. t.name) own) descriptors
  pub made : AreMade first links own descriptors

pub added : (m : List ℕ) (first : ℕ) (links : List ℕ) (k : ℕ) (types : List Descriptor) (own : List RecordType) → Added m first links types (with_types m first links k types own) own
added m first links k types [] = record { descriptors = []; is = sym (append-nil types); are = tt; made = tt }
added m first links k types (t ∷ own) =
    let d = descriptor_of m first links types k t in
    let r = added m first links k (types ++ d ∷ []) own in
    record { descriptors = d ∷ r.descriptors; is = r.is ∙ append_assoc types (d ∷ []) r.descriptors; are = (refl, (refl, r.are)); made = ((refl, refl), r.made) }

-- LINKED TYPES

from_is : (n : ℕ) (ds es : List Descriptor) (q : QName) → IsSome (type_from n ds q) → type_from n ds q ≡ Some (n + type_number (ds ++ es) q)
from_is n [] es q s = absurd (cc)
from_is n (d ∷ ds) es q s =
    let e : (same q.«module» d.«module» && same q.object d.name) ≡ (bytes_eq q.«module» d.«module» && bytes_eq q.object d.name) = ap (λ b. b && same q.object d.name) (same_is q.«module» d.«module») ∙ ap (λ b. bytes_eq q.«module» d.«module» && b) (same_is q.object d.name) in
    go (same q.«module» d.«module» && same q.object d.name) (bytes_eq q.«module» d.«module» && bytes_eq q.object d.name) e s (λ t. from_is (suc n) ds es q t)
  where
    go : (a b : Bool) → a ≡ b → IsSome (if a then Some n else type_from (suc n) ds q) → (IsSome (type_from (suc n) ds q) → type_from (suc n) ds q ≡ Some (suc n + type_number (ds ++ es) q)) → (if a then Some n else type_from (suc n) ds q) ≡ Some (n + (if b then 0 else suc (type_number (ds ++ es) q)))
    go true true e s more = ap (λ k. Some k) (let f : n ≡ n + 0 = omega arith in f)
    go false false e s more = more s ∙ ap (λ k. Some k) (let f : suc n + type_number (ds ++ es) q ≡ n + suc (type_number (ds ++ es) q) = omega arith in f)
    go true false e s more = absurd (cc)
    go false true e s more = absurd (cc)

pub linked_is : (ds es : List Descriptor) (q : QName) → IsSome (linked_type ds q) → or_zero (linked_type ds q) ≡ type_number (ds ++ es) q
linked_is ds es q s = ap or_zero (from_is 0 ds es q s) ∙ (let e : 0 + type_number (ds ++ es) q ≡ type_number (ds ++ es) q = omega arith in e)

-- and its descriptor is there
from_below : (n : ℕ) (ds : List Descriptor) (q : QName) (k : ℕ) → type_from n ds q ≡ Some k → k < n + length ds
from_below n [] q k e = absurd (none-some _ e)
from_below n (d ∷ ds) q k e = go (same q.«module» d.«module» && same q.object d.name) e (λ f. from_below (suc n) ds q k f)
  where
    inside : (a b : ℕ) → Some a ≡ Some b → a ≡ b
    inside a b f = ap (λ o. unwrap_or o a) f

    go : (b : Bool) → (if b then Some n else type_from (suc n) ds q) ≡ Some k → (type_from (suc n) ds q ≡ Some k → k < suc n + length ds) → k < n + suc (length ds)
    go true e more = let i = inside n k e in omega (arith, i)
    go false e more = let m = more e in omega (arith, m)

pub linked_below : (ds es : List Descriptor) (q : QName) → IsSome (linked_type ds q) → type_number (ds ++ es) q < length ds
linked_below ds es q s = let b = from_below 0 ds q (0 + type_number (ds ++ es) q) (from_is 0 ds es q s) in omega (arith, b)

-- THE RECORD TYPES OF A MODULE

abbrev pub names_of : (ts : List TypedType) → List (List ℕ)
names_of ts = map (λ t. t.name) (records_among ts)

module _ (types : QName → Option Desc) (md : Module) where
  pub records_named : (links : List QName) (ts : List TypedType) → map (λ t. t.name) (records_in types md links ts) ≡ names_of ts
  records_named links [] = refl
  records_named links (t ∷ ts) = go t.desc refl (records_named links ts)
    where
      go : (d : Desc) → t.desc ≡ d → map (λ t. t.name) (records_in types md links ts) ≡ names_of ts → map (λ t. t.name) (record_in types md links t.name d ++ records_in types md links ts) ≡ map (λ t. t.name) (if is_record d then t ∷ records_among ts else records_among ts)
      go (desc.Record r) e more = ap (λ l. t.name ∷ l) more
      go d e more = more

pub named_place : (ts : List TypedType) (x : List ℕ) → before (λ t. t.name) (λ t. 1) ts x ≡ place_of (map (λ t. t.name) ts) x
named_place [] x = refl
named_place (t ∷ ts) x =
    let h = named_place ts x in
    let e : 1 + before (λ t. t.name) (λ t. 1) ts x ≡ suc (place_of (map (λ t. t.name) ts) x) = omega (arith, h) in
    ap (λ n. if bytes_eq x t.name then 0 else n) e

pub is_named : (ts : List TypedType) (x : List ℕ) → AmongTypes ts x → IsName (map (λ t. t.name) ts) x
is_named [] x i = absurd i
is_named (t ∷ ts) x i = go (bytes_eq x t.name) i (λ j. is_named ts x j)
  where
    go : (b : Bool) → OrElse b (Unit {0}) (AmongTypes ts x) → (AmongTypes ts x → IsName (map (λ t. t.name) ts) x) → OrElse b (Unit {0}) (IsName (map (λ t. t.name) ts) x)
    go true i more = tt
    go false i more = more i

pub ones : (ts : List TypedType) → sum_of (λ t. 1) ts ≡ length (map (λ t. t.name) ts)
ones [] = refl
ones (t ∷ ts) = let h = ones ts in let e : 1 + sum_of (λ t. 1) ts ≡ suc (length (map (λ t. t.name) ts)) = omega (arith, h) in e

pub length_named : (own : List RecordType) → length (map (λ t. t.name) own) ≡ length own
length_named [] = refl
length_named (t ∷ own) = ap suc (length_named own)

-- LINKS THAT SERVE AS BASES stand behind those of the code

one_stays : (l : List QName) (q : QName) (k : ℕ) (y : QName) → slice_get l k ≡ Some y → slice_get (with_one same_type l q) k ≡ Some y
one_stays [] q k y e = absurd (none-some _ e)
one_stays (z ∷ l) q zero y e = go (same_type q z)
  where
    go : (b : Bool) → slice_get (if b then z ∷ l else z ∷ with_one same_type l q) 0 ≡ Some y
    go true = e
    go false = e
one_stays (z ∷ l) q (suc k) y e = go (same_type q z) (one_stays l q k y e)
  where
    go : (b : Bool) → slice_get (with_one same_type l q) k ≡ Some y → slice_get (if b then z ∷ l else z ∷ with_one same_type l q) (suc k) ≡ Some y
    go true more = e
    go false more = more

module _ (types : QName → Option Desc) (md : Module) where
  base_stays : (l : List QName) (o : Option QName) (k : ℕ) (y : QName) → slice_get l k ≡ Some y → slice_get (with_base types md l o) k ≡ Some y
  base_stays l None k y e = e
  base_stays l (Some q) k y e = go (is_own (own types md) q.module)
    where
      go : (b : Bool) → slice_get (if b then l else with_one same_type l q) k ≡ Some y
      go true = e
      go false = one_stays l q k y e

  record_stays : (l : List QName) (d : Desc) (k : ℕ) (y : QName) → slice_get l k ≡ Some y → slice_get (with_record types md l d) k ≡ Some y
  record_stays l (desc.Record r) k y e = base_stays l (base_type types md r.base) k y e
  record_stays l d k y e = e

  pub bases_stay : (l : List QName) (ts : List TypedType) (k : ℕ) (y : QName) → slice_get l k ≡ Some y → slice_get (with_bases types md l ts) k ≡ Some y
  bases_stay l [] k y e = e
  bases_stay l (t ∷ ts) k y e = bases_stay (with_record types md l t.desc) ts k y (record_stays l t.desc k y e)
