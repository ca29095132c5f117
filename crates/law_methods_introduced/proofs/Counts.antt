-- How many bound procedures records have: those of a base are not more, and each number is below.
use Rattle.std.proofs.Common.{◌≡◌, ℕ, zero, suc, ◌+◌, ◌≤◌, ◌<◌, Bool, true, false, cond, List, [], ◌∷◌, ◌++◌, map, length, Option, Some, None, refl, sym, ap, subst, ◌∙◌, arith}
use Rattle.std.specs.Prelude.{bytes_eq, ◌&&◌, nat_le, nat_lt}
use Rattle.std.specs.List.{AllByRecursion, list_all, find}
use Rattle.std.proofs.lemmas.Bool.{false≢true, and_parts, leb-true, ltb-true}
use Rattle.std.proofs.lemmas.Slice.Eq.{bytes_eq-Decides}
use Rattle.ob_tree.specs.declared.names.QName.{QName}
use Rattle.ob_types.specs.declared.types.TypeRef.{TypeRef}
use Rattle.ob_types.specs.declared.types.TypeRef.TheVariants as ref
use Rattle.ob_types.specs.declared.desc.Desc.{Desc}
use Rattle.ob_types.specs.declared.desc.Desc.TheVariants as desc
use Rattle.ob_types.specs.declared.desc.RecordDesc.{RecordDesc}
use Rattle.ob_types.specs.declared.desc.Method.{Method}
use Rattle.ob_types.specs.declared.typed.TypedType.{TypedType}
use Rattle.ob_types.specs.declared.typed.TypedModule.{TypedModule}
use Rattle.ob_types.specs.TypedSyntax.{Module}
use Rattle.ob_types.specs.TypedView.{module_view}
use Rattle.ob_types.specs.Maps.{is_type, listed, stands_on, named_by}
use Rattle.ob_types.specs.Tests.{target_of, follow, target, shape_at}
use Rattle.ob_types.specs.AssigningTests.{described as is_described}
use Rattle.ob_format.specs.Format.{◌>>=◌}
use Rattle.ob_layout.specs.LaidOut.{type_named, is_own, viewed, base_of, declared_procedures, counted, words_in, procedures_in, numbered, laid_record, laid_desc, laid_type}
use Rattle.ob_env.specs.Faces.{Face, face_named, object_named, described}
use Rattle.ob_env.specs.Fit.{chain_described, is_within, record_of as record_in, procedures_before, is_held, names_types, stands, has_bases, keeps_places, has_few_words, base_of as base_in, has_few_procedures, covers_base, has_fields_inside, has_own_numbers, is_numbered, fits, steps_of, first_unfit}
use Rattle.law_methods_introduced.specs.Families.{IsBase}
use Rattle.law_methods_introduced.proofs.Chains.{Finds, finds}
use Rattle.law_spelling.proofs.Fit.{described_fit}
use Rattle.law_spelling.proofs.Words.{more_within}
use Rattle.law_methods_introduced.specs.NumberLaws.{laid_in, seen_in}

-- ---- on what a count depends

abbrev counts_on : Desc → List TypeRef
counts_on (desc.Alias m t) = t ∷ []
counts_on (desc.Record r) = listed r.base
counts_on d = []

front_all : {A : Type 0} (f : A → Bool) (xs ys : List A) → list_all f (xs ++ ys) ≡ true → list_all f xs ≡ true
front_all f [] ys h = refl
front_all f (x ∷ xs) ys h = let p = and_parts (f x) (list_all f (xs ++ ys)) h in ap (λ b. b && list_all f xs) p.0 ∙ front_all f xs ys p.1

near_plain : (f : TypeRef → Bool) (d : Desc) → list_all f (stands_on d) ≡ true → list_all f (counts_on d) ≡ true
near_plain f (desc.Const v) h = refl
near_plain f (desc.Var m t) h = refl
near_plain f (desc.Proc s) h = refl
near_plain f (desc.Alias m t) h = h
near_plain f (desc.Array m n t) h = refl
near_plain f (desc.OpenArray m t) h = refl
near_plain f (desc.Pointer m t) h = refl
near_plain f (desc.ProcType m s) h = refl
near_plain f (desc.Record r) h = front_all f (listed r.base) _ h

near_laid : (f : TypeRef → Bool) (w p : TypeRef → ℕ) (q : QName) (d : Desc) → list_all f (stands_on (laid_desc w p q d)) ≡ true → list_all f (counts_on d) ≡ true
near_laid f w p q (desc.Const v) h = refl
near_laid f w p q (desc.Var m t) h = refl
near_laid f w p q (desc.Proc s) h = refl
near_laid f w p q (desc.Alias m t) h = h
near_laid f w p q (desc.Array m n t) h = refl
near_laid f w p q (desc.OpenArray m t) h = refl
near_laid f w p q (desc.Pointer m t) h = refl
near_laid f w p q (desc.ProcType m s) h = refl
near_laid f w p q (desc.Record r) h = front_all f (listed r.base) _ h

base_same : (f g : TypeRef → ℕ) (o : Option TypeRef) → AllByRecursion (λ t. f t ≡ g t) (listed o) → base_of f o ≡ base_of g o
base_same f g None h = refl
base_same f g (Some t) h = h.0

declared_same : (f g : TypeRef → ℕ) (b : Bool) (d : Desc) → AllByRecursion (λ t. f t ≡ g t) (counts_on d) → declared_procedures f b (Some d) ≡ declared_procedures g b (Some d)
declared_same f g b (desc.Const v) h = refl
declared_same f g b (desc.Var m t) h = refl
declared_same f g b (desc.Proc s) h = refl
declared_same f g b (desc.Alias m t) h = h.0
declared_same f g b (desc.Array m n t) h = refl
declared_same f g b (desc.OpenArray m t) h = refl
declared_same f g b (desc.Pointer m t) h = refl
declared_same f g b (desc.ProcType m s) h = refl
declared_same f g true (desc.Record r) h = ap (λ n. n + length r.methods) (base_same f g r.base h)
declared_same f g false (desc.Record r) h = refl

all_true : (P : TypeRef → Type 0) (f : TypeRef → Bool) → ((t : TypeRef) → f t ≡ true → P t) → (ts : List TypeRef) → list_all f ts ≡ true → AllByRecursion P ts
all_true P f k [] h = tt
all_true P f k (t ∷ ts) h = let p = and_parts (f t) (list_all f ts) h in (k t p.0, all_true P f k ts p.1)

-- ---- numbers

numbers_below : (n : ℕ) (ps : List Method) → AllByRecursion (λ p. p.number < n + length ps) (numbered n ps)
numbers_below n [] = tt
numbers_below n (p ∷ ps) = (omega arith, more (numbered (suc n) ps) (numbers_below (suc n) ps))
  where
    more : (qs : List Method) → AllByRecursion (λ q. q.number < suc n + length ps) qs → AllByRecursion (λ q. q.number < n + suc (length ps)) qs
    more [] h = tt
    more (q ∷ qs) h = let l = h.0 in (omega (arith, l), more qs h.1)

found_all : (P : Method → Type 0) (x : List ℕ) (ms : List Method) → AllByRecursion P ms → (m : Method) → find (λ (k : Method). bytes_eq k.name x) ms ≡ Some m → P m
found_all P x [] h m e = absurd cc
found_all P x (k ∷ ms) h m e = go (bytes_eq k.name x) e (found_all P x ms h.1 m)
  where
    go : (b : Bool) → cond b (Some k) (find (λ (k : Method). bytes_eq k.name x) ms) ≡ Some m → (find (λ (k : Method). bytes_eq k.name x) ms ≡ Some m → P m) → P m
    go true e up = let same : k ≡ m = cc in subst P same h.0
    go false e up = up e

all_bool : (f : Method → Bool) (ms : List Method) → list_all f ms ≡ true → AllByRecursion (λ m. f m ≡ true) ms
all_bool f [] h = tt
all_bool f (m ∷ ms) h = let p = and_parts (f m) (list_all f ms) h in (p.0, all_bool f ms p.1)

-- ---- a module against interfaces

module _ (faces : List (Face (List ℕ))) (tm : TypedModule) (fit : first_unfit faces ≡ None) (apart : AllByRecursion (λ f. bytes_eq f.«module» tm.name ≡ false) faces) where
  abbrev pub D : QName → Option Desc
  D = described faces

  abbrev pub M : Module
  M = module_view tm

  abbrev pub types : QName → Option Desc
  types = seen_in faces tm

  abbrev pub F : TypeRef → ℕ
  F t = counted D M 201 t

  abbrev at : List ℕ → QName
  at x = record { «module» = tm.name; object = x }

  abbrev laid : List ℕ → Desc → Desc
  laid x d = laid_desc (words_in D M) (procedures_in D M) (at x) d

  -- what is described is of another module
  other_named : (fs : List (Face (List ℕ))) → AllByRecursion (λ f. bytes_eq f.«module» tm.name ≡ false) fs → (n : List ℕ) (f : Face (List ℕ)) → face_named fs n ≡ Some f → bytes_eq n tm.name ≡ false
  other_named [] h n f e = absurd cc
  other_named (g ∷ fs) h n f e = go (bytes_eq n g.«module») refl e (other_named fs h.1 n f)
    where
      go : (b : Bool) → bytes_eq n g.«module» ≡ b → cond b (Some g) (face_named fs n) ≡ Some f → (face_named fs n ≡ Some f → bytes_eq n tm.name ≡ false) → bytes_eq n tm.name ≡ false
      go true i e up = ap (λ x. bytes_eq x tm.name) ((bytes_eq-Decides n g.«module»).0 i) ∙ h.0
      go false i e up = up e

  described_other : (q : QName) (d : Desc) → D q ≡ Some d → bytes_eq q.«module» tm.name ≡ false
  described_other q d e = go (face_named faces q.«module») refl e
    where
      go : (o : Option (Face (List ℕ))) → face_named faces q.«module» ≡ o → (o >>= λ f. object_named f.objects q.object) ≡ Some d → bytes_eq q.«module» tm.name ≡ false
      go None i e = absurd cc
      go (Some f) i e = other_named faces apart q.«module» f i

  other_types : (q : QName) → bytes_eq q.«module» tm.name ≡ false → types q ≡ D q
  other_types q i = ap (λ b. cond b (type_named (laid_in faces tm).types q.object) (D q)) i

  other_viewed : (q : QName) → bytes_eq q.«module» tm.name ≡ false → viewed D M q ≡ D q
  other_viewed q i = ap (λ b. cond b (type_named tm.types q.object) (D q)) i

  own_types : (q : QName) → bytes_eq q.«module» tm.name ≡ true → types q ≡ type_named (laid_in faces tm).types q.object
  own_types q i = ap (λ b. cond b (type_named (laid_in faces tm).types q.object) (D q)) i

  own_viewed : (q : QName) → bytes_eq q.«module» tm.name ≡ true → viewed D M q ≡ type_named tm.types q.object
  own_viewed q i = ap (λ b. cond b (type_named tm.types q.object) (D q)) i

  pub laid_named : (ts : List TypedType) (x : List ℕ) (d : Desc) → type_named ts x ≡ Some d → type_named (map (laid_type D M) ts) x ≡ Some (laid x d)
  laid_named [] x d e = absurd cc
  laid_named (t ∷ ts) x d e = go (bytes_eq x t.name) refl e (laid_named ts x d)
    where
      go : (b : Bool) → bytes_eq x t.name ≡ b → cond b (Some t.desc) (type_named ts x) ≡ Some d → (type_named ts x ≡ Some d → type_named (map (laid_type D M) ts) x ≡ Some (laid x d)) → cond b (Some (laid_type D M t).desc) (type_named (map (laid_type D M) ts) x) ≡ Some (laid x d)
      go true i e up = let same : t.desc ≡ d = cc in ap (λ z. Some (laid z t.desc)) (sym ((bytes_eq-Decides x t.name).0 i)) ∙ ap (λ z. Some (laid x z)) same
      go false i e up = up e

  laid_back : (ts : List TypedType) (x : List ℕ) (e : Desc) → type_named (map (laid_type D M) ts) x ≡ Some e → (d : Desc) × ((type_named ts x ≡ Some d) × (laid x d ≡ e))
  laid_back [] x e h = absurd cc
  laid_back (t ∷ ts) x e h = go (bytes_eq x t.name) refl h (laid_back ts x e)
    where
      go : (b : Bool) → bytes_eq x t.name ≡ b → cond b (Some (laid_type D M t).desc) (type_named (map (laid_type D M) ts) x) ≡ Some e → (type_named (map (laid_type D M) ts) x ≡ Some e → (d : Desc) × ((type_named ts x ≡ Some d) × (laid x d ≡ e))) → (d : Desc) × ((cond b (Some t.desc) (type_named ts x) ≡ Some d) × (laid x d ≡ e))
      go true i h up = let same : laid t.name t.desc ≡ e = cc in (t.desc, (refl, ap (λ z. laid z t.desc) ((bytes_eq-Decides x t.name).0 i) ∙ same))
      go false i h up = up h

  -- ---- counts stay where chains end

  near : (n : ℕ) (q : QName) (d : Desc) → is_within types (suc n) (ref.Named q) ≡ true → viewed D M q ≡ Some d → list_all (is_within types n) (counts_on d) ≡ true
  near n q d h e = go (bytes_eq q.«module» tm.name) refl
    where
      go : (b : Bool) → bytes_eq q.«module» tm.name ≡ b → list_all (is_within types n) (counts_on d) ≡ true
      go true i = near_laid (is_within types n) (words_in D M) (procedures_in D M) (at q.object) d (subst (λ o. chain_described (is_within types n) o ≡ true) (own_types q i ∙ laid_named tm.types q.object d (sym (own_viewed q i) ∙ e)) h)
      go false i = near_plain (is_within types n) d (subst (λ o. chain_described (is_within types n) o ≡ true) (other_types q i ∙ sym (other_viewed q i) ∙ e) h)

  none_zero : (f g : TypeRef → ℕ) (b : Bool) → declared_procedures f b None ≡ declared_procedures g b None
  none_zero f g true = refl
  none_zero f g false = refl

  stable : (n : ℕ) (t : TypeRef) → is_within types n t ≡ true → counted D M (suc n) t ≡ counted D M n t
  stable zero (ref.Basic b) h = refl
  stable (suc n) (ref.Basic b) h = refl
  stable zero (ref.Named q) h = absurd (false≢true h)
  stable (suc n) (ref.Named q) h = go (viewed D M q) refl (λ t k. stable n t k)
    where
      go : (o : Option Desc) → viewed D M q ≡ o → ((t : TypeRef) → is_within types n t ≡ true → counted D M (suc n) t ≡ counted D M n t) → counted D M (suc (suc n)) (ref.Named q) ≡ counted D M (suc n) (ref.Named q)
      go None i up =
          let e = none_zero (counted D M (suc n)) (counted D M n) (is_own M q) in
          subst (λ o. declared_procedures (counted D M (suc n)) (is_own M q) o ≡ declared_procedures (counted D M n) (is_own M q) o) (sym i) e
      go (Some d) i up =
          let e = declared_same (counted D M (suc n)) (counted D M n) (is_own M q) d (all_true (λ t. counted D M (suc n) t ≡ counted D M n t) (is_within types n) up (counts_on d) (near n q d h i)) in
          subst (λ o. declared_procedures (counted D M (suc n)) (is_own M q) o ≡ declared_procedures (counted D M n) (is_own M q) o) (sym i) e

  -- ---- aliases

  record IsAliasOf (q : QName) (t : TypeRef) : Type 0 where
    pub d : Desc
    pub is : viewed D M q ≡ Some d
    pub on : counts_on d ≡ t ∷ []
    pub counts : (f : TypeRef → ℕ) (b : Bool) → declared_procedures f b (Some d) ≡ f t

  of_laid : (q : QName) (x : List ℕ) (d : Desc) (t : TypeRef) → viewed D M q ≡ Some d → target_of (Some (laid x d)) ≡ Some t → IsAliasOf q t
  of_laid q x (desc.Const v) t i e = absurd cc
  of_laid q x (desc.Var m u) t i e = absurd cc
  of_laid q x (desc.Proc s) t i e = absurd cc
  of_laid q x (desc.Alias m u) t i e = let same : u ≡ t = cc in record { d = desc.Alias m u; is = i; on = ap (λ z. z ∷ []) same; counts = λ f b. ap f same }
  of_laid q x (desc.Array m n u) t i e = absurd cc
  of_laid q x (desc.OpenArray m u) t i e = absurd cc
  of_laid q x (desc.Pointer m u) t i e = absurd cc
  of_laid q x (desc.ProcType m s) t i e = absurd cc
  of_laid q x (desc.Record r) t i e = absurd cc

  of_plain : (q : QName) (d : Desc) (t : TypeRef) → viewed D M q ≡ Some d → target_of (Some d) ≡ Some t → IsAliasOf q t
  of_plain q (desc.Const v) t i e = absurd cc
  of_plain q (desc.Var m u) t i e = absurd cc
  of_plain q (desc.Proc s) t i e = absurd cc
  of_plain q (desc.Alias m u) t i e = let same : u ≡ t = cc in record { d = desc.Alias m u; is = i; on = ap (λ z. z ∷ []) same; counts = λ f b. ap f same }
  of_plain q (desc.Array m n u) t i e = absurd cc
  of_plain q (desc.OpenArray m u) t i e = absurd cc
  of_plain q (desc.Pointer m u) t i e = absurd cc
  of_plain q (desc.ProcType m s) t i e = absurd cc
  of_plain q (desc.Record r) t i e = absurd cc

  alias_is : (q : QName) (t : TypeRef) → target_of (types q) ≡ Some t → IsAliasOf q t
  alias_is q t e = go (bytes_eq q.«module» tm.name) refl
    where
      some : (o : Option Desc) → target_of o ≡ Some t → (d : Desc) × (o ≡ Some d)
      some None e = absurd cc
      some (Some d) e = (d, refl)

      go : (b : Bool) → bytes_eq q.«module» tm.name ≡ b → IsAliasOf q t
      go true i =
          let k = some (types q) e in
          let l = laid_back tm.types q.object k.0 (sym (own_types q i) ∙ k.1) in
          of_laid q q.object l.0 t (own_viewed q i ∙ l.1.0) (ap (λ d. target_of (Some d)) l.1.1 ∙ ap target_of (sym k.1) ∙ e)
      go false i =
          let k = some (types q) e in
          of_plain q k.0 t (other_viewed q i ∙ sym (other_types q i) ∙ k.1) (ap target_of (sym k.1) ∙ e)

  -- what a type stands for counts as much
  target_counts : (n : ℕ) (t : TypeRef) → is_within types 200 t ≡ true → F t ≡ F (target types n t)
  unfolding target
  target_counts zero t h = refl
  target_counts (suc n) (ref.Basic b) h = refl
  target_counts (suc n) (ref.Named q) h = go (target_of (types q)) refl (λ t k. target_counts n t k)
    where
      go : (o : Option TypeRef) → target_of (types q) ≡ o → ((t : TypeRef) → is_within types 200 t ≡ true → F t ≡ F (target types n t)) → F (ref.Named q) ≡ F (follow o (ref.Named q) (λ u. target types n u))
      go None i up = refl
      go (Some t) i up =
          let a = alias_is q t i in
          let w : list_all (is_within types 199) (t ∷ []) ≡ true = subst (λ ts. list_all (is_within types 199) ts ≡ true) a.on (near 199 q a.d h a.is) in
          let l = more_within types 199 t (and_parts (is_within types 199 t) true w).0 in
          let e : F (ref.Named q) ≡ counted D M 200 t = ap (declared_procedures (counted D M 200) (is_own M q)) a.is ∙ a.counts (counted D M 200) (is_own M q) in
          e ∙ sym (stable 200 t l) ∙ up t l

  -- ---- records

  record IsOwnRecord (q : QName) (r : RecordDesc) : Type 0 where
    pub plain : RecordDesc
    pub is : viewed D M q ≡ Some (desc.Record plain)
    pub laid_is : laid_record (words_in D M) (procedures_in D M) (at q.object) plain ≡ r

  of_record : (q : QName) (d : Desc) (r : RecordDesc) → viewed D M q ≡ Some d → laid q.object d ≡ desc.Record r → IsOwnRecord q r
  of_record q (desc.Const v) r i e = absurd cc
  of_record q (desc.Var m u) r i e = absurd cc
  of_record q (desc.Proc s) r i e = absurd cc
  of_record q (desc.Alias m u) r i e = absurd cc
  of_record q (desc.Array m n u) r i e = absurd cc
  of_record q (desc.OpenArray m u) r i e = absurd cc
  of_record q (desc.Pointer m u) r i e = absurd cc
  of_record q (desc.ProcType m s) r i e = absurd cc
  of_record q (desc.Record p) r i e = record { plain = p; is = i; laid_is = cc }

  own_record : (q : QName) (r : RecordDesc) → bytes_eq q.«module» tm.name ≡ true → types q ≡ Some (desc.Record r) → IsOwnRecord q r
  own_record q r i e =
      let l = laid_back tm.types q.object (desc.Record r) (sym (own_types q i) ∙ e) in
      of_record q l.0 r (own_viewed q i ∙ l.1.0) l.1.1

  own_count : (q : QName) (p : RecordDesc) → bytes_eq q.«module» tm.name ≡ true → viewed D M q ≡ Some (desc.Record p) → F (ref.Named q) ≡ base_of (counted D M 200) p.base + length p.methods
  own_count q p i e = ap (λ b. declared_procedures (counted D M 200) b (viewed D M q)) i ∙ ap (declared_procedures (counted D M 200) true) e

  at_own : (q : QName) → bytes_eq q.«module» tm.name ≡ true → at q.object ≡ q
  at_own q i = ap (λ (n : List ℕ). record { «module» = n; object = q.object }) (sym ((bytes_eq-Decides q.«module» tm.name).0 i))

  -- a record's number of bound procedures is what is counted
  pub counts_are : (q : QName) (r : RecordDesc) → types q ≡ Some (desc.Record r) → F (ref.Named q) ≡ r.procedures
  counts_are q r e = go (bytes_eq q.«module» tm.name) refl
    where
      go : (b : Bool) → bytes_eq q.«module» tm.name ≡ b → F (ref.Named q) ≡ r.procedures
      go true i = let k = own_record q r i e in ap (λ x. F (ref.Named x)) (sym (at_own q i)) ∙ ap (λ (z : RecordDesc). z.procedures) k.laid_is
      go false i = ap (λ b. declared_procedures (counted D M 200) b (viewed D M q)) i ∙ ap (declared_procedures (counted D M 200) false) (other_viewed q i ∙ sym (other_types q i) ∙ e)

  base_stable : (o : Option TypeRef) → list_all (is_within types 200) (listed o) ≡ true → base_of F o ≡ base_of (counted D M 200) o
  base_stable None h = refl
  base_stable (Some t) h = stable 200 t (and_parts (is_within types 200 t) true h).0

  own_below : (q : QName) (r : RecordDesc) → bytes_eq q.«module» tm.name ≡ true → is_within types 201 (ref.Named q) ≡ true → types q ≡ Some (desc.Record r) → AllByRecursion (λ m. m.number < r.procedures) r.methods
  own_below q r i w e =
      let k = own_record q r i e in
      let p = k.plain in
      let a = base_stable p.base (near 200 q (desc.Record p) w k.is) in
      let c : base_of F p.base + length p.methods ≡ r.procedures = ap (λ n. n + length p.methods) a ∙ sym (own_count q p i k.is) ∙ counts_are q r e in
      let all : AllByRecursion (λ m. m.number < r.procedures) (numbered (base_of F p.base) p.methods) = subst (λ n. AllByRecursion (λ m. m.number < n) (numbered (base_of F p.base) p.methods)) c (numbers_below (base_of F p.base) p.methods) in
      subst (λ (z : RecordDesc). AllByRecursion (λ m. m.number < r.procedures) z.methods) k.laid_is all

  own_base : (q b : QName) (r s : RecordDesc) (t : TypeRef) → bytes_eq q.«module» tm.name ≡ true → is_within types 201 (ref.Named q) ≡ true → types q ≡ Some (desc.Record r) → r.base ≡ Some t → target types 201 t ≡ ref.Named b → types b ≡ Some (desc.Record s) → s.procedures ≤ r.procedures
  own_base q b r s t i w e on end is =
      let k = own_record q r i e in
      let p = k.plain in
      let base : p.base ≡ Some t = ap (λ (z : RecordDesc). z.base) k.laid_is ∙ on in
      let n : list_all (is_within types 200) (t ∷ []) ≡ true = subst (λ o. list_all (is_within types 200) (listed o) ≡ true) base (near 200 q (desc.Record p) w k.is) in
      let l : is_within types 200 t ≡ true = (and_parts (is_within types 200 t) true n).0 in
      let c : counted D M 200 t + length p.methods ≡ r.procedures = ap (λ o. base_of (counted D M 200) o + length p.methods) (sym base) ∙ sym (own_count q p i k.is) ∙ counts_are q r e in
      let d : counted D M 200 t ≡ s.procedures = sym (stable 200 t l) ∙ target_counts 201 t l ∙ ap F end ∙ counts_are b s is in
      omega (arith, c, d)

  -- ---- records of other modules

  abbrev steps : ℕ
  steps = steps_of faces

  fits_other : (q : QName) (d : Desc) → D q ≡ Some d → fits D steps q d ≡ true
  fits_other q d e = described_fit faces fit q d e

  names_other : (q : QName) (d : Desc) → D q ≡ Some d → list_all (is_held D steps) (named_by d) ≡ true
  names_other q d e = (and_parts (names_types D steps d) _ (fits_other q d e)).0

  record SoundRecord (r : RecordDesc) : Type 0 where
    pub covers : covers_base D steps r ≡ true
    pub numbers : has_own_numbers D steps r ≡ true

  sound_other : (q : QName) (r : RecordDesc) → D q ≡ Some (desc.Record r) → SoundRecord r
  sound_other q r e =
      let d : Desc = desc.Record r in
      let a = and_parts (names_types D steps d) _ (fits_other q d e) in
      let b = and_parts (stands D steps q d) _ a.1 in
      let c = and_parts (has_bases D steps d) _ b.1 in
      let f = and_parts (keeps_places D steps d) _ c.1 in
      let g = and_parts (has_few_words D steps q d) _ f.1 in
      let h = and_parts (has_few_procedures D steps r) _ g.1 in
      let i = and_parts (covers_base D steps r) _ h.1 in
      let j = and_parts (has_fields_inside D steps r) _ i.1 in
      record { covers = i.0; numbers = (and_parts (has_own_numbers D steps r) _ j.1).0 }

  other_below : (q : QName) (r : RecordDesc) → D q ≡ Some (desc.Record r) → AllByRecursion (λ m. m.number < r.procedures) r.methods
  other_below q r e = go r.methods (all_bool (is_numbered (procedures_before (base_in D steps r)) r.procedures) r.methods (sound_other q r e).numbers)
    where
      go : (ms : List Method) → AllByRecursion (λ m. is_numbered (procedures_before (base_in D steps r)) r.procedures m ≡ true) ms → AllByRecursion (λ m. m.number < r.procedures) ms
      go [] h = tt
      go (m ∷ ms) h = (ltb-true m.number r.procedures (and_parts (nat_le (procedures_before (base_in D steps r)) m.number) (nat_lt m.number r.procedures) h.0).1, go ms h.1)

  stops_at : (k : ℕ) (b : QName) (s : RecordDesc) → D b ≡ Some (desc.Record s) → target D k (ref.Named b) ≡ ref.Named b
  unfolding target
  stops_at zero b s e = refl
  stops_at (suc k) b s e = ap (λ o. follow (target_of o) (ref.Named b) (λ u. target D k u)) e

  held_some : (o : Option Desc) → is_described is_type o ≡ true → (d : Desc) × (o ≡ Some d)
  held_some None e = absurd (false≢true e)
  held_some (Some d) e = (d, refl)

  alias_named : (d : Desc) (t : TypeRef) → target_of (Some d) ≡ Some t → (f : TypeRef → Bool) → list_all f (named_by d) ≡ true → f t ≡ true
  alias_named (desc.Const v) t e f h = absurd cc
  alias_named (desc.Var m u) t e f h = absurd cc
  alias_named (desc.Proc s) t e f h = absurd cc
  alias_named (desc.Alias m u) t e f h = let same : u ≡ t = cc in subst (λ z. f z ≡ true) same (and_parts (f u) true h).0
  alias_named (desc.Array m n u) t e f h = absurd cc
  alias_named (desc.OpenArray m u) t e f h = absurd cc
  alias_named (desc.Pointer m u) t e f h = absurd cc
  alias_named (desc.ProcType m s) t e f h = absurd cc
  alias_named (desc.Record r) t e f h = absurd cc

  -- a type that is held leads to the same record by what is described
  target_other : (n k : ℕ) → n ≤ k → (t : TypeRef) (b : QName) (s : RecordDesc) → is_held D steps t ≡ true → target types n t ≡ ref.Named b → types b ≡ Some (desc.Record s) → target D k t ≡ ref.Named b × (D b ≡ Some (desc.Record s))
  unfolding target
  target_other n k l (ref.Basic x) b s h e is = absurd (never n e)
    where
      never : (n : ℕ) → target types n (ref.Basic x) ≡ ref.Named b → ⊥
      never zero e = absurd cc
      never (suc n) e = absurd cc
  target_other zero k l (ref.Named p) b s h e is =
      let same : p ≡ b = cc in
      let d = held_some (D p) h in
      let db : D b ≡ Some (desc.Record s) = ap D (sym same) ∙ sym (other_types p (described_other p d.0 d.1)) ∙ ap types same ∙ is in
      (ap (λ z. target D k (ref.Named z)) same ∙ stops_at k b s db, db)
  target_other (suc n) zero l (ref.Named p) b s h e is = absurd (omega (arith, l))
  target_other (suc n) (suc k) l (ref.Named p) b s h e is = go (target_of (D p)) refl (λ t i j. target_other n k (omega (arith, l)) t b s i j is)
    where
      d : (d : Desc) × (D p ≡ Some d)
      d = held_some (D p) h

      same_map : types p ≡ D p
      same_map = other_types p (described_other p d.0 d.1)

      go : (o : Option TypeRef) → target_of (D p) ≡ o → ((t : TypeRef) → is_held D steps t ≡ true → target types n t ≡ ref.Named b → target D k t ≡ ref.Named b × (D b ≡ Some (desc.Record s))) → target D (suc k) (ref.Named p) ≡ ref.Named b × (D b ≡ Some (desc.Record s))
      go None i up =
          let f : ref.Named p ≡ ref.Named b = ap (λ o. follow o (ref.Named p) (λ u. target types n u)) (sym (ap target_of same_map ∙ i)) ∙ e in
          let same : p ≡ b = cc in
          let db : D b ≡ Some (desc.Record s) = ap D (sym same) ∙ sym same_map ∙ ap types same ∙ is in
          (ap (λ o. follow o (ref.Named p) (λ u. target D k u)) i ∙ f, db)
      go (Some t) i up =
          let f : target types n t ≡ ref.Named b = ap (λ o. follow o (ref.Named p) (λ u. target types n u)) (sym (ap target_of same_map ∙ i)) ∙ e in
          let l = alias_named d.0 t (ap target_of (sym d.1) ∙ i) (is_held D steps) (names_other p d.0 d.1) in
          let m = up t l f in
          (ap (λ o. follow o (ref.Named p) (λ u. target D k u)) i ∙ m.0, m.1)

  other_base : (q b : QName) (r s : RecordDesc) (t : TypeRef) → D q ≡ Some (desc.Record r) → r.base ≡ Some t → target types 201 t ≡ ref.Named b → types b ≡ Some (desc.Record s) → s.procedures ≤ r.procedures
  other_base q b r s t e on end is =
      let named : list_all (is_held D steps) (t ∷ []) ≡ true = subst (λ o. list_all (is_held D steps) (listed o) ≡ true) on (front_all (is_held D steps) (listed r.base) _ (front_all (is_held D steps) (listed r.base ++ _) _ (names_other q (desc.Record r) e))) in
      let k = target_other 201 steps (omega arith) t b s (and_parts (is_held D steps t) true named).0 end is in
      let at_base : base_in D steps r ≡ Some s = ap (λ o. o >>= λ t. record_in (shape_at D (target D steps t))) on ∙ ap (λ z. record_in (shape_at D z)) k.0 ∙ ap record_in k.1 in
      let c = (and_parts _ (nat_le (procedures_before (base_in D steps r)) r.procedures) (sound_other q r e).covers).1 in
      leb-true s.procedures r.procedures (subst (λ o. nat_le (procedures_before o) r.procedures ≡ true) at_base c)

  -- ---- all records, where chains of own types end

  module _ (ends : AllByRecursion (λ t. is_within types 200 (ref.Named (at t.name)) ≡ true) (laid_in faces tm).types) where
    named_within : (ts : List TypedType) → AllByRecursion (λ t. is_within types 200 (ref.Named (at t.name)) ≡ true) ts → (x : List ℕ) (d : Desc) → type_named ts x ≡ Some d → is_within types 200 (ref.Named (at x)) ≡ true
    named_within [] h x d e = absurd cc
    named_within (t ∷ ts) h x d e = go (bytes_eq x t.name) refl e (named_within ts h.1 x d)
      where
        go : (b : Bool) → bytes_eq x t.name ≡ b → cond b (Some t.desc) (type_named ts x) ≡ Some d → (type_named ts x ≡ Some d → is_within types 200 (ref.Named (at x)) ≡ true) → is_within types 200 (ref.Named (at x)) ≡ true
        go true i e up = subst (λ z. is_within types 200 (ref.Named (at z)) ≡ true) (sym ((bytes_eq-Decides x t.name).0 i)) h.0
        go false i e up = up e

    own_within : (q : QName) (d : Desc) → bytes_eq q.«module» tm.name ≡ true → types q ≡ Some d → is_within types 201 (ref.Named q) ≡ true
    own_within q d i e = more_within types 200 (ref.Named q) (subst (λ z. is_within types 200 (ref.Named z) ≡ true) (at_own q i) (named_within (laid_in faces tm).types ends q.object d (sym (own_types q i) ∙ e)))

    pub all_below : (q : QName) (r : RecordDesc) → types q ≡ Some (desc.Record r) → AllByRecursion (λ m. m.number < r.procedures) r.methods
    all_below q r e = go (bytes_eq q.«module» tm.name) refl
      where
        go : (b : Bool) → bytes_eq q.«module» tm.name ≡ b → AllByRecursion (λ m. m.number < r.procedures) r.methods
        go true i = own_below q r i (own_within q (desc.Record r) i e) e
        go false i = other_below q r (sym (other_types q i) ∙ e)

    pub base_fewer : (q b : QName) (h : IsBase types q b) (s : RecordDesc) → types b ≡ Some (desc.Record s) → s.procedures ≤ h.r.procedures
    base_fewer q b h s is = go (bytes_eq q.«module» tm.name) refl
      where
        k : Finds types h.t b
        k = finds types h.t b h.found

        go : (c : Bool) → bytes_eq q.«module» tm.name ≡ c → s.procedures ≤ h.r.procedures
        go true i = own_base q b h.r s h.t i (own_within q (desc.Record h.r) i h.is) h.is h.base k.end is
        go false i = other_base q b h.r s h.t (sym (other_types q i) ∙ h.is) h.base k.end is

    pub found_below : (x : List ℕ) (q : QName) (r : RecordDesc) (m : Method) → types q ≡ Some (desc.Record r) → find (λ (k : Method). bytes_eq k.name x) r.methods ≡ Some m → m.number < r.procedures
    found_below x q r m e f = found_all (λ m. m.number < r.procedures) x r.methods (all_below q r e) m f
