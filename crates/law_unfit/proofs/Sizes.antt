-- The sizes of the records of a module that is laid out: they cover those of their bases, and their fields and numbers lie behind these.
use Rattle.std.proofs.Common.{◌≡◌, ℕ, zero, suc, ◌+◌, ◌*◌, ◌≤◌, ◌<◌, Bool, true, false, cond, List, [], ◌∷◌, ◌++◌, map as each, length, Option, Some, None, refl, sym, ap, subst, ◌∙◌, arith}
use Rattle.std.specs.Prelude.{bytes_eq, MatchOption, IsTrue}
use Rattle.std.specs.List.{AllByRecursion}
use Rattle.ob_tree.specs.declared.names.QName.{QName}
use Rattle.ob_types.specs.declared.types.Basic.{Basic}
use Rattle.ob_types.specs.declared.types.TypeRef.{TypeRef}
use Rattle.ob_types.specs.declared.types.TypeRef.TheVariants as ref
use Rattle.ob_types.specs.declared.desc.Desc.{Desc}
use Rattle.ob_types.specs.declared.desc.Desc.TheVariants as desc
use Rattle.ob_types.specs.declared.desc.RecordDesc.{RecordDesc}
use Rattle.ob_types.specs.declared.desc.Field.{Field}
use Rattle.ob_types.specs.declared.desc.Method.{Method}
use Rattle.ob_types.specs.declared.typed.TypedType.{TypedType}
use Rattle.ob_types.specs.Maps.{is_type, listed, stands_on, IsHeld, IsWithin}
use Rattle.ob_types.specs.Tests.{target, target_of, follow}
use Rattle.ob_types.specs.TypedSyntax.{Module}
use Rattle.ob_layout.specs.Lists.{sum_of}
use Rattle.ob_layout.specs.Words.{described_words, words_within, words_of, most_words}
use Rattle.ob_layout.specs.LaidOut.{type_named, is_own, viewed, base_of, declared_words, summed, declared_procedures, counted, words_in, procedures_in, kept, placed, numbered, laid_record, laid_desc, laid_type, laid_out}
use Rattle.law_lists.proofs.Lists.{all_back, all_from, all_front, same_bytes}
use Rattle.law_local_files.specs.Agreeing.{Map}
use Rattle.law_typing_env.specs.Shallow.{passes_to}

some_desc : (d e : Desc) → Some d ≡ Some e → d ≡ e
some_desc d e h = cc

passes : (P : TypeRef → Type 0) (d : Desc) → AllByRecursion P (stands_on d) → AllByRecursion P (passes_to d)
passes P (desc.Alias m t) h = h
passes P (desc.Array m n t) h = h
passes P (desc.OpenArray m t) h = tt
passes P (desc.Record r) h = tt
passes P (desc.Const v) h = tt
passes P (desc.Var m t) h = tt
passes P (desc.Proc s) h = tt
passes P (desc.Pointer m t) h = tt
passes P (desc.ProcType m s) h = tt

sum_alike : (f g : TypeRef → ℕ) (fs : List Field) → AllByRecursion (λ t. f t ≡ g t) (each (λ x. x.of) fs) → sum_of (λ x. f x.of) fs ≡ sum_of (λ x. g x.of) fs
sum_alike f g [] h = refl
sum_alike f g (x ∷ fs) h = let a = h.0 in let r = sum_alike f g fs h.1 in omega (arith, a, r)

base_alike : (f g : TypeRef → ℕ) (o : Option TypeRef) → AllByRecursion (λ t. f t ≡ g t) (listed o) → base_of f o ≡ base_of g o
base_alike f g None h = refl
base_alike f g (Some t) h = h.0

record_alike : (f g : TypeRef → ℕ) (own : Bool) (r : RecordDesc) → AllByRecursion (λ t. f t ≡ g t) (listed r.base ++ each (λ x. x.of) r.fields) → declared_words f own (Some (desc.Record r)) ≡ declared_words g own (Some (desc.Record r))
record_alike f g true r h =
    let a = base_alike f g r.base (all_front (λ t. f t ≡ g t) (listed r.base) (each (λ x. x.of) r.fields) h) in
    let s = sum_alike f g r.fields (all_back (λ t. f t ≡ g t) (listed r.base) (each (λ x. x.of) r.fields) h) in
    omega (arith, a, s)
record_alike f g false r h = refl

words_alike : (f g : TypeRef → ℕ) (own : Bool) (d : Desc) → AllByRecursion (λ t. f t ≡ g t) (stands_on d) → declared_words f own (Some d) ≡ declared_words g own (Some d)
words_alike f g own (desc.Record r) h = record_alike f g own r h
words_alike f g own (desc.Alias m t) h = h.0
words_alike f g own (desc.Array m n t) h = ap (λ k. n * k) h.0
words_alike f g own (desc.OpenArray m t) h = refl
words_alike f g own (desc.Const v) h = refl
words_alike f g own (desc.Var m t) h = refl
words_alike f g own (desc.Proc s) h = refl
words_alike f g own (desc.Pointer m t) h = refl
words_alike f g own (desc.ProcType m s) h = refl

procedures_alike : (f g : TypeRef → ℕ) (own : Bool) (r : RecordDesc) → AllByRecursion (λ t. f t ≡ g t) (listed r.base ++ each (λ x. x.of) r.fields) → declared_procedures f own (Some (desc.Record r)) ≡ declared_procedures g own (Some (desc.Record r))
procedures_alike f g true r h = ap (λ n. n + length r.methods) (base_alike f g r.base (all_front (λ t. f t ≡ g t) (listed r.base) (each (λ x. x.of) r.fields) h))
procedures_alike f g false r h = refl

counts_alike : (f g : TypeRef → ℕ) (own : Bool) (d : Desc) → AllByRecursion (λ t. f t ≡ g t) (stands_on d) → declared_procedures f own (Some d) ≡ declared_procedures g own (Some d)
counts_alike f g own (desc.Record r) h = procedures_alike f g own r h
counts_alike f g own (desc.Alias m t) h = h.0
counts_alike f g own (desc.Array m n t) h = refl
counts_alike f g own (desc.OpenArray m t) h = refl
counts_alike f g own (desc.Const v) h = refl
counts_alike f g own (desc.Var m t) h = refl
counts_alike f g own (desc.Proc s) h = refl
counts_alike f g own (desc.Pointer m t) h = refl
counts_alike f g own (desc.ProcType m s) h = refl

-- the fields behind one place stand there and inside
pub record IsPlaced (w : TypeRef → ℕ) (at end : ℕ) (f : Field) : Type 0 where
  pub from : at ≤ f.place
  pub to : f.place + w f.of ≤ end

more_placed : (w : TypeRef → ℕ) (at later end : ℕ) → at ≤ later → (fs : List Field) → AllByRecursion (IsPlaced w later end) fs → AllByRecursion (IsPlaced w at end) fs
more_placed w at later end le [] h = tt
more_placed w at later end le (f ∷ fs) h = let a = h.0.from in (record { from = omega (arith, a, le); to = h.0.to }, more_placed w at later end le fs h.1)

all_placed : (w : TypeRef → ℕ) (at end : ℕ) (fs : List Field) → at + sum_of (λ f. w f.of) fs ≡ end → end ≤ most_words → AllByRecursion (IsPlaced w at end) (placed w at fs)
all_placed w at end [] e le = tt
all_placed w at end (f ∷ fs) e le = (
  record { from = omega (arith, e, le); to = omega (arith, e, le) },
  more_placed w at (at + w f.of) end (omega arith) (placed w (at + w f.of) fs) (all_placed w (at + w f.of) end fs (omega (arith, e)) le),
)

placed_of : (P : TypeRef → Type 0) (w : TypeRef → ℕ) (at : ℕ) (fs : List Field) → AllByRecursion P (each (λ f. f.of) fs) → AllByRecursion (λ f. P f.of) (placed w at fs)
placed_of P w at [] h = tt
placed_of P w at (f ∷ fs) h = (h.0, placed_of P w (at + w f.of) fs h.1)

-- so many numbers from one on
pub record IsNumbered (first end : ℕ) (p : Method) : Type 0 where
  pub from : first ≤ p.number
  pub to : p.number < end

more_numbered : (n m to : ℕ) → n ≤ m → (ps : List Method) → AllByRecursion (IsNumbered m to) ps → AllByRecursion (IsNumbered n to) ps
more_numbered n m to le [] h = tt
more_numbered n m to le (p ∷ ps) h = let a = h.0.from in (record { from = omega (arith, a, le); to = h.0.to }, more_numbered n m to le ps h.1)

all_numbered : (n to : ℕ) (ps : List Method) → n + length ps ≡ to → AllByRecursion (IsNumbered n to) (numbered n ps)
all_numbered n to [] e = tt
all_numbered n to (p ∷ ps) e = (record { from = omega arith; to = omega (arith, e) }, more_numbered n (suc n) to (omega arith) (numbered (suc n) ps) (all_numbered (suc n) to ps (omega (arith, e))))

-- a module M, and what it is laid out over D
module _ (D : Map) (M : Module) where
  abbrev pub T : Map
  T = viewed D (laid_out D M)

  abbrev pub V : Map
  V = viewed D M

  abbrev pub W : TypeRef → ℕ
  W t = summed D M 201 t

  abbrev pub C : TypeRef → ℕ
  C t = counted D M 201 t

  abbrev at : List ℕ → QName
  at x = record { «module» = M.name; object = x }

  -- ---- its types, laid out and not
  record IsLaid (x : List ℕ) (e : Desc) (ts : List TypedType) : Type 0 where
    d : Desc
    of : type_named ts x ≡ Some d
    is : e ≡ laid_desc (words_in D M) (procedures_in D M) (record { «module» = M.name; object = x }) d

  laid_back : (ts : List TypedType) (x : List ℕ) (e : Desc) → type_named (each (laid_type D M) ts) x ≡ Some e → IsLaid x e ts
  laid_back [] x e h = absurd cc
  laid_back (t ∷ ts) x e h = by (bytes_eq x t.name) refl h (laid_back ts x e)
    where
      by : (k : Bool) → bytes_eq x t.name ≡ k → cond k (Some (laid_type D M t).desc) (type_named (each (laid_type D M) ts) x) ≡ Some e → (type_named (each (laid_type D M) ts) x ≡ Some e → IsLaid x e ts) → IsLaid x e (t ∷ ts)
      by true i h r =
          let k : (laid_type D M t).desc ≡ e = cc in
          record {
            d = t.desc;
            of = ap (λ b. cond b (Some t.desc) (type_named ts x)) i;
            is = sym k ∙ ap (λ (y : List ℕ). laid_desc (words_in D M) (procedures_in D M) (record { «module» = M.name; object = y }) t.desc) (sym (same_bytes x t.name i));
          }
      by false i h r = let k = r h in record { d = k.d; of = ap (λ b. cond b (Some t.desc) (type_named ts x)) i ∙ k.of; is = k.is }

  own_laid : (q : QName) → is_own M q ≡ true → T q ≡ type_named (each (laid_type D M) M.types) q.object
  own_laid q i = ap (λ b. cond b (type_named (each (laid_type D M) M.types) q.object) (D q)) i

  own_plain : (q : QName) → is_own M q ≡ true → V q ≡ type_named M.types q.object
  own_plain q i = ap (λ b. cond b (type_named M.types q.object) (D q)) i

  other_laid : (q : QName) → is_own M q ≡ false → T q ≡ D q
  other_laid q i = ap (λ b. cond b (type_named (each (laid_type D M) M.types) q.object) (D q)) i

  other_plain : (q : QName) → is_own M q ≡ false → V q ≡ D q
  other_plain q i = ap (λ b. cond b (type_named M.types q.object) (D q)) i

  named_own : (q : QName) → is_own M q ≡ true → at q.object ≡ q
  named_own q i = ap (λ (n : List ℕ). let p : QName = record { «module» = n; object = q.object } in p) (sym (same_bytes q.«module» M.name i))

  -- what it has of a name, and what that is laid out
  record Both (q : QName) (e : Desc) : Type 0 where
    d : Desc
    of : V q ≡ Some d
    same : (is_own M q ≡ false) → e ≡ d
    laid : (is_own M q ≡ true) → e ≡ laid_desc (words_in D M) (procedures_in D M) q d

  both : (q : QName) (e : Desc) → T q ≡ Some e → Both q e
  both q e h = by (is_own M q) refl
    where
      clash : {A : Type 0} → is_own M q ≡ true → is_own M q ≡ false → A
      clash i j = let bad : true ≡ false = sym i ∙ j in absurd cc

      by : (k : Bool) → is_own M q ≡ k → Both q e
      by true i =
          let l = laid_back M.types q.object e (sym (own_laid q i) ∙ h) in
          record { d = l.d; of = own_plain q i ∙ l.of; same = λ j. clash i j; laid = λ j. l.is ∙ ap (λ (p : QName). laid_desc (words_in D M) (procedures_in D M) p l.d) (named_own q i) }
      by false i = record { d = e; of = other_plain q i ∙ sym (other_laid q i) ∙ h; same = λ j. refl; laid = λ j. clash j i }

  -- ---- sums stay where chains end

  abbrev At : ℕ → Option Desc → Type 0
  At n o = MatchOption o ⊥ (λ d. IsTrue (is_type d) × AllByRecursion (λ t. IsWithin V n t) (stands_on d))

  stays : (n : ℕ) (t : TypeRef) → IsWithin V n t → summed D M (suc n) t ≡ summed D M n t
  unfolding IsWithin
  stays zero (ref.Basic b) w = refl
  stays (suc n) (ref.Basic b) w = refl
  stays zero (ref.Named q) w = absurd w
  stays (suc n) (ref.Named q) w = by (V q) w (λ t k. stays n t k)
    where
      by : (o : Option Desc) → At n o → ((t : TypeRef) → IsWithin V n t → summed D M (suc n) t ≡ summed D M n t) → declared_words (summed D M (suc n)) (is_own M q) o ≡ declared_words (summed D M n) (is_own M q) o
      by None w r = absurd w
      by (Some d) w r = words_alike (summed D M (suc n)) (summed D M n) (is_own M q) d (all_from (λ t. IsWithin V n t) (λ t. summed D M (suc n) t ≡ summed D M n t) r (stands_on d) w.1)

  counts_stay : (n : ℕ) (t : TypeRef) → IsWithin V n t → counted D M (suc n) t ≡ counted D M n t
  unfolding IsWithin
  counts_stay zero (ref.Basic b) w = refl
  counts_stay (suc n) (ref.Basic b) w = refl
  counts_stay zero (ref.Named q) w = absurd w
  counts_stay (suc n) (ref.Named q) w = by (V q) w (λ t k. counts_stay n t k)
    where
      by : (o : Option Desc) → At n o → ((t : TypeRef) → IsWithin V n t → counted D M (suc n) t ≡ counted D M n t) → declared_procedures (counted D M (suc n)) (is_own M q) o ≡ declared_procedures (counted D M n) (is_own M q) o
      by None w r = absurd w
      by (Some d) w r = counts_alike (counted D M (suc n)) (counted D M n) (is_own M q) d (all_from (λ t. IsWithin V n t) (λ t. counted D M (suc n) t ≡ counted D M n t) r (stands_on d) w.1)

  -- a type within 200 others has the words and the procedures that are summed in one step less
  at_200 : (t : TypeRef) → IsWithin V 200 t → summed D M 200 t ≡ W t
  at_200 t w = sym (stays 200 t w)

  counts_at_200 : (t : TypeRef) → IsWithin V 200 t → counted D M 200 t ≡ C t
  counts_at_200 t w = sym (counts_stay 200 t w)

  all_at_200 : (ts : List TypeRef) → AllByRecursion (λ t. IsWithin V 200 t) ts → AllByRecursion (λ t. summed D M 200 t ≡ W t) ts
  all_at_200 [] h = tt
  all_at_200 (t ∷ ts) h = (at_200 t h.0, all_at_200 ts h.1)

  more : (n : ℕ) (t : TypeRef) → IsWithin V n t → IsWithin V (suc n) t
  unfolding IsWithin
  more zero (ref.Basic b) w = tt
  more (suc n) (ref.Basic b) w = tt
  more zero (ref.Named q) w = absurd w
  more (suc n) (ref.Named q) w = by (V q) w (λ t k. more n t k)
    where
      by : (o : Option Desc) → At n o → ((t : TypeRef) → IsWithin V n t → IsWithin V (suc n) t) → At (suc n) o
      by None w r = absurd w
      by (Some d) w r = (w.0, all_from (λ t. IsWithin V n t) (λ t. IsWithin V (suc n) t) r (stands_on d) w.1)

  -- within fewer than 200 it is within 200
  up : (k n : ℕ) (t : TypeRef) → k + n ≡ 200 → IsWithin V n t → IsWithin V 200 t
  up zero n t e w = let k : n ≡ 200 = omega (arith, e) in subst (λ m. IsWithin V m t) k w
  up (suc k) n t e w = up k (suc n) t (omega (arith, e)) (more n t w)

  -- what the type of a name stands on
  stood : (n : ℕ) (q : QName) (d : Desc) → V q ≡ Some d → IsWithin V (suc n) (ref.Named q) → AllByRecursion (λ t. IsWithin V n t) (stands_on d)
  unfolding IsWithin
  stood n q d e w = (subst (λ o. At n o) e w).1

  -- ---- words as they are described are no more than those that are summed

  W_at : (q : QName) (d : Desc) → V q ≡ Some d → AllByRecursion (λ t. IsWithin V 200 t) (stands_on d) → W (ref.Named q) ≡ declared_words W (is_own M q) (Some d)
  W_at q d e h = ap (declared_words (summed D M 200) (is_own M q)) e ∙ words_alike (summed D M 200) W (is_own M q) d (all_at_200 (stands_on d) h)

  all_up : (k n : ℕ) (ts : List TypeRef) → k + n ≡ 200 → AllByRecursion (λ t. IsWithin V n t) ts → AllByRecursion (λ t. IsWithin V 200 t) ts
  all_up k n [] e h = tt
  all_up k n (t ∷ ts) e h = (up k n t e h.0, all_up k n ts e h.1)

  times : (c a b : ℕ) → a ≤ b → c * a ≤ c * b
  times zero a b le = omega arith
  times (suc c) a b le = let r = times c a b le in omega (arith, r, le)

  described_less : (f : TypeRef → ℕ) (own : Bool) (d : Desc) → AllByRecursion (λ t. f t ≤ W t) (passes_to d) → (own ≡ true → (r : RecordDesc) → d ≡ desc.Record r → ⊥) → described_words f (Some d) ≤ declared_words W own (Some d)
  described_less f own (desc.Alias m t) h ban = h.0
  described_less f own (desc.Array m n t) h ban = times n (f t) (W t) h.0
  described_less f own (desc.OpenArray m t) h ban = omega arith
  described_less f own (desc.Const v) h ban = omega arith
  described_less f own (desc.Var m t) h ban = omega arith
  described_less f own (desc.Proc s) h ban = omega arith
  described_less f own (desc.Pointer m t) h ban = omega arith
  described_less f own (desc.ProcType m s) h ban = omega arith
  described_less f true (desc.Record r) h ban = absurd (ban refl r refl)
  described_less f false (desc.Record r) h ban = omega arith

  kept_less : (n : ℕ) → kept n ≤ n
  kept_less n = omega arith

  -- a description of an own type that is laid out
  laid_less : (f : TypeRef → ℕ) (q : QName) (d : Desc) → W (ref.Named q) ≡ declared_words W true (Some d) → AllByRecursion (λ t. f t ≤ W t) (passes_to d) → described_words f (Some (laid_desc (words_in D M) (procedures_in D M) q d)) ≤ W (ref.Named q)
  laid_less f q (desc.Record r) e h = kept_less (W (ref.Named q))
  laid_less f q (desc.Alias m t) e h = let a = h.0 in subst (λ n. f t ≤ n) (sym e) a
  laid_less f q (desc.Array m n t) e h = subst (λ k. n * f t ≤ k) (sym e) (times n (f t) (W t) h.0)
  laid_less f q (desc.OpenArray m t) e h = omega arith
  laid_less f q (desc.Const v) e h = subst (λ k. 1 ≤ k) (sym e) (omega arith)
  laid_less f q (desc.Var m t) e h = subst (λ k. 1 ≤ k) (sym e) (omega arith)
  laid_less f q (desc.Proc s) e h = subst (λ k. 1 ≤ k) (sym e) (omega arith)
  laid_less f q (desc.Pointer m t) e h = subst (λ k. 1 ≤ k) (sym e) (omega arith)
  laid_less f q (desc.ProcType m s) e h = subst (λ k. 1 ≤ k) (sym e) (omega arith)

  pub words_less : (k n : ℕ) → k + n ≡ 201 → (t : TypeRef) → IsWithin V n t → words_within T n t ≤ W t
  unfolding IsWithin
  words_less k zero e (ref.Basic b) w = omega arith
  words_less k (suc n) e (ref.Basic b) w = omega arith
  words_less k zero e (ref.Named q) w = absurd w
  words_less k (suc n) e (ref.Named q) w = by (λ t h. words_less (suc k) n (omega (arith, e)) t h) (T q) refl
    where
      below : ((t : TypeRef) → IsWithin V n t → words_within T n t ≤ W t) → (d : Desc) → V q ≡ Some d → AllByRecursion (λ t. words_within T n t ≤ W t) (passes_to d)
      below r d i = passes (λ t. words_within T n t ≤ W t) d (all_from (λ t. IsWithin V n t) (λ t. words_within T n t ≤ W t) r (stands_on d) (subst (λ o. At n o) i w).1)

      sums : (d : Desc) → V q ≡ Some d → W (ref.Named q) ≡ declared_words W (is_own M q) (Some d)
      sums d i = W_at q d i (all_up k n (stands_on d) (omega (arith, e)) (subst (λ o. At n o) i w).1)

      by : ((t : TypeRef) → IsWithin V n t → words_within T n t ≤ W t) → (o : Option Desc) → T q ≡ o → described_words (words_within T n) o ≤ W (ref.Named q)
      by r None i = absurd (nothing (is_own M q) refl)
        where
          nothing : (b : Bool) → is_own M q ≡ b → ⊥
          nothing true j = gone M.types (sym (own_laid q j) ∙ i) (subst (λ o. At n o) (own_plain q j) w)
            where
              gone : (ts : List TypedType) → type_named (each (laid_type D M) ts) q.object ≡ None → At n (type_named ts q.object) → ⊥
              gone [] h k = k
              gone (t ∷ ts) h k = step (bytes_eq q.object t.name) h k (gone ts)
                where
                  step : (b : Bool) → cond b (Some (laid_type D M t).desc) (type_named (each (laid_type D M) ts) q.object) ≡ None → At n (cond b (Some t.desc) (type_named ts q.object)) → (type_named (each (laid_type D M) ts) q.object ≡ None → At n (type_named ts q.object) → ⊥) → ⊥
                  step true h k r = absurd cc
                  step false h k r = r h k
          nothing false j = subst (λ o. At n o) (other_plain q j ∙ sym (other_laid q j) ∙ i) w
      by r (Some d2) i = own (is_own M q) refl
        where
          p : Both q d2
          p = both q d2 i

          own : (b : Bool) → is_own M q ≡ b → described_words (words_within T n) (Some d2) ≤ W (ref.Named q)
          own true j = subst (λ x. described_words (words_within T n) (Some x) ≤ W (ref.Named q)) (sym (p.laid j)) (laid_less (words_within T n) q p.d (sums p.d p.of ∙ ap (λ b. declared_words W b (Some p.d)) j) (below r p.d p.of))
          own false j =
              subst (λ x. described_words (words_within T n) (Some x) ≤ W (ref.Named q)) (sym (p.same j))
              (subst (λ k. described_words (words_within T n) (Some p.d) ≤ k) (sym (sums p.d p.of ∙ ap (λ b. declared_words W b (Some p.d)) j)) (described_less (words_within T n) false p.d (below r p.d p.of) (λ bad r x. let ban : false ≡ true = bad in absurd cc)))

  -- ---- aliases

  alias_laid : (q : QName) (d : Desc) (u : TypeRef) → target_of (Some (laid_desc (words_in D M) (procedures_in D M) q d)) ≡ Some u → target_of (Some d) ≡ Some u
  alias_laid q (desc.Alias m t) u e = e
  alias_laid q (desc.Array m n t) u e = absurd cc
  alias_laid q (desc.OpenArray m t) u e = absurd cc
  alias_laid q (desc.Record r) u e = absurd cc
  alias_laid q (desc.Const v) u e = absurd cc
  alias_laid q (desc.Var m t) u e = absurd cc
  alias_laid q (desc.Proc s) u e = absurd cc
  alias_laid q (desc.Pointer m t) u e = absurd cc
  alias_laid q (desc.ProcType m s) u e = absurd cc

  -- an alias stands on its target alone, has its words and counts its procedures
  record IsAlias (d : Desc) (u : TypeRef) : Type 0 where
    stands : stands_on d ≡ u ∷ []
    words : (f : TypeRef → ℕ) → described_words f (Some d) ≡ f u
    counts : (f : TypeRef → ℕ) (own : Bool) → declared_procedures f own (Some d) ≡ f u

  alias : (d : Desc) (u : TypeRef) → target_of (Some d) ≡ Some u → IsAlias d u
  alias (desc.Alias m t) u e = let k : t ≡ u = cc in record { stands = ap (λ x. x ∷ []) k; words = λ f. ap f k; counts = λ f own. ap f k }
  alias (desc.Array m n t) u e = absurd cc
  alias (desc.OpenArray m t) u e = absurd cc
  alias (desc.Record r) u e = absurd cc
  alias (desc.Const v) u e = absurd cc
  alias (desc.Var m t) u e = absurd cc
  alias (desc.Proc s) u e = absurd cc
  alias (desc.Pointer m t) u e = absurd cc
  alias (desc.ProcType m s) u e = absurd cc

  -- a name that is equated to a type
  record IsEquated (q : QName) (u : TypeRef) : Type 0 where
    d : Desc
    e : Desc
    of : V q ≡ Some d
    laid : T q ≡ Some e
    plain : target_of (Some d) ≡ Some u
    now : target_of (Some e) ≡ Some u

  equated : (q : QName) (u : TypeRef) → target_of (T q) ≡ Some u → IsEquated q u
  equated q u h = by (T q) refl h
    where
      by : (o : Option Desc) → T q ≡ o → target_of o ≡ Some u → IsEquated q u
      by None i h = absurd cc
      by (Some e) i h = own (is_own M q) refl
        where
          p : Both q e
          p = both q e i

          own : (b : Bool) → is_own M q ≡ b → IsEquated q u
          own true j = record { d = p.d; e = e; of = p.of; laid = i; plain = alias_laid q p.d u (ap (λ x. target_of (Some x)) (sym (p.laid j)) ∙ h); now = h }
          own false j = record { d = p.d; e = e; of = p.of; laid = i; plain = ap (λ x. target_of (Some x)) (sym (p.same j)) ∙ h; now = h }

  -- ---- own records

  record IsRecordOf (q : QName) (r : RecordDesc) : Type 0 where
    p : RecordDesc
    of : V q ≡ Some (desc.Record p)
    is : r ≡ laid_record (words_in D M) (procedures_in D M) q p

  from_laid : (q : QName) (r : RecordDesc) (d : Desc) → V q ≡ Some d → desc.Record r ≡ laid_desc (words_in D M) (procedures_in D M) q d → IsRecordOf q r
  from_laid q r (desc.Record p) v l = record { p = p; of = v; is = cc }
  from_laid q r (desc.Alias m t) v l = absurd cc
  from_laid q r (desc.Array m n t) v l = absurd cc
  from_laid q r (desc.OpenArray m t) v l = absurd cc
  from_laid q r (desc.Const x) v l = absurd cc
  from_laid q r (desc.Var m t) v l = absurd cc
  from_laid q r (desc.Proc s) v l = absurd cc
  from_laid q r (desc.Pointer m t) v l = absurd cc
  from_laid q r (desc.ProcType m s) v l = absurd cc

  record_of : (q : QName) (r : RecordDesc) → is_own M q ≡ true → T q ≡ Some (desc.Record r) → IsRecordOf q r
  record_of q r i e = let b = both q (desc.Record r) e in from_laid q r b.d b.of (b.laid i)

  -- ---- what the base of a record has

  named_same : (q p : QName) → ref.Named q ≡ ref.Named p → q ≡ p
  named_same q p e = cc

  no_basic : (j : ℕ) (b : Basic) (p : QName) → target T j (ref.Basic b) ≡ ref.Named p → ⊥
  unfolding target
  no_basic zero b p e = absurd cc
  no_basic (suc j) b p e = absurd cc

  target_words : (n j : ℕ) (t : TypeRef) (p : QName) (s : RecordDesc) → n ≤ j → IsWithin V n t → target T j t ≡ ref.Named p → T p ≡ Some (desc.Record s) → words_within T n t ≡ s.words
  unfolding target IsWithin
  target_words n j (ref.Basic b) p s le w e i = absurd (no_basic j b p e)
  target_words zero j (ref.Named q) p s le w e i = absurd w
  target_words (suc n) zero (ref.Named q) p s le w e i = absurd (omega (arith, le))
  target_words (suc n) (suc j) (ref.Named q) p s le w e i = by (target_of (T q)) refl e (λ u v x. target_words n j u p s (omega (arith, le)) v x i)
    where
      by : (o : Option TypeRef) → target_of (T q) ≡ o → follow o (ref.Named q) (λ u. target T j u) ≡ ref.Named p → ((u : TypeRef) → IsWithin V n u → target T j u ≡ ref.Named p → words_within T n u ≡ s.words) → described_words (words_within T n) (T q) ≡ s.words
      by None k e r = ap (described_words (words_within T n)) (ap T (named_same q p e) ∙ i)
      by (Some u) k e r =
          let x = equated q u k in
          let a = alias x.d u x.plain in
          let l = alias x.e u x.now in
          let within : AllByRecursion (λ t. IsWithin V n t) (u ∷ []) = subst (AllByRecursion (λ t. IsWithin V n t)) a.stands (subst (λ o. At n o) x.of w).1 in
          ap (described_words (words_within T n)) x.laid ∙ l.words (words_within T n) ∙ r u within.0 e

  target_counts : (k n j : ℕ) (t : TypeRef) (p : QName) (s : RecordDesc) → k + n ≡ 201 → n ≤ j → IsWithin V n t → target T j t ≡ ref.Named p → T p ≡ Some (desc.Record s) → C t ≡ s.procedures
  unfolding target IsWithin
  target_counts k n j (ref.Basic b) p s m le w e i = absurd (no_basic j b p e)
  target_counts k zero j (ref.Named q) p s m le w e i = absurd w
  target_counts k (suc n) zero (ref.Named q) p s m le w e i = absurd (omega (arith, le))
  target_counts k (suc n) (suc j) (ref.Named q) p s m le w e i = by (target_of (T q)) refl e (λ u v x. target_counts (suc k) n j u p s (omega (arith, m)) (omega (arith, le)) v x i)
    where
      here : T q ≡ Some (desc.Record s) → (b : Bool) → is_own M q ≡ b → C (ref.Named q) ≡ s.procedures
      here h true o = let x = record_of q s o h in sym (ap (λ (r : RecordDesc). r.procedures) x.is)
      here h false o = ap (λ b. declared_procedures (counted D M 200) b (V q)) o ∙ ap (declared_procedures (counted D M 200) false) (other_plain q o ∙ sym (other_laid q o) ∙ h)

      by : (o : Option TypeRef) → target_of (T q) ≡ o → follow o (ref.Named q) (λ u. target T j u) ≡ ref.Named p → ((u : TypeRef) → IsWithin V n u → target T j u ≡ ref.Named p → C u ≡ s.procedures) → C (ref.Named q) ≡ s.procedures
      by None h e r = here (ap T (named_same q p e) ∙ i) (is_own M q) refl
      by (Some u) h e r =
          let x = equated q u h in
          let a = alias x.d u x.plain in
          let within : AllByRecursion (λ t. IsWithin V n t) (u ∷ []) = subst (AllByRecursion (λ t. IsWithin V n t)) a.stands (subst (λ o. At n o) x.of w).1 in
          ap (declared_procedures (counted D M 200) (is_own M q)) x.of ∙ a.counts (counted D M 200) (is_own M q) ∙ counts_at_200 u (up k n u (omega (arith, m)) within.0) ∙ r u within.0 e

  -- ---- A RECORD of the module, whose words keep the limit, and on which no chain is too long

  kept_all : (n s : ℕ) → s ≡ kept n → s ≤ most_words → s ≡ n
  kept_all n s e le = omega (arith, e, le)

  module _ (q : QName) (r : RecordDesc) (own : is_own M q ≡ true) (has : T q ≡ Some (desc.Record r)) (few : r.words ≤ most_words) (chains : (t : TypeRef) → IsHeld V t → IsWithin V 201 t) where
    x : IsRecordOf q r
    x = record_of q r own has

    within : IsWithin V 201 (ref.Named q)
    within = chains (ref.Named q) (subst (λ o. MatchOption o ⊥ (λ d. IsTrue (is_type d))) (sym x.of) refl)

    parts : AllByRecursion (λ t. IsWithin V 200 t) (listed x.p.base ++ each (λ f. f.of) x.p.fields)
    parts = stood 200 q (desc.Record x.p) x.of within

    sum : W (ref.Named q) ≡ base_of W x.p.base + sum_of (λ f. W f.of) x.p.fields
    sum = W_at q (desc.Record x.p) x.of parts ∙ ap (λ b. declared_words W b (Some (desc.Record x.p))) own

    words_are : r.words ≡ W (ref.Named q)
    words_are = kept_all (W (ref.Named q)) r.words (ap (λ (z : RecordDesc). z.words) x.is) few

    pub fields_inside : AllByRecursion (IsPlaced W (base_of W r.base) r.words) r.fields
    fields_inside =
        let b : r.base ≡ x.p.base = ap (λ (z : RecordDesc). z.base) x.is in
        let f : r.fields ≡ placed W (base_of W x.p.base) x.p.fields = ap (λ (z : RecordDesc). z.fields) x.is in
        subst (λ o. AllByRecursion (IsPlaced W (base_of W o) r.words) r.fields) (sym b)
        (subst (AllByRecursion (IsPlaced W (base_of W x.p.base) r.words)) (sym f) (all_placed W (base_of W x.p.base) r.words x.p.fields (sym sum ∙ sym words_are) few))

    -- the words of its fields, as they are described, are no more than those that were summed
    pub field_words : AllByRecursion (λ f. words_of T f.of ≤ W f.of) r.fields
    field_words =
        let f : r.fields ≡ placed W (base_of W x.p.base) x.p.fields = ap (λ (z : RecordDesc). z.fields) x.is in
        let ts = all_back (λ t. IsWithin V 200 t) (listed x.p.base) (each (λ f. f.of) x.p.fields) parts in
        subst (AllByRecursion (λ f. words_of T f.of ≤ W f.of)) (sym f)
        (placed_of (λ t. words_of T t ≤ W t) W (base_of W x.p.base) x.p.fields (all_from (λ t. IsWithin V 200 t) (λ t. words_of T t ≤ W t) (λ t w. words_less 0 201 refl t (more 200 t w)) (each (λ f. f.of) x.p.fields) ts))

    counts_are : C (ref.Named q) ≡ base_of C x.p.base + length x.p.methods
    counts_are =
        let base = all_front (λ t. IsWithin V 200 t) (listed x.p.base) (each (λ f. f.of) x.p.fields) parts in
        ap (λ b. declared_procedures (counted D M 200) b (V q)) own ∙ ap (declared_procedures (counted D M 200) true) x.of
        ∙ ap (λ n. n + length x.p.methods) (base_alike (counted D M 200) C x.p.base (all_from (λ t. IsWithin V 200 t) (λ t. counted D M 200 t ≡ C t) counts_at_200 (listed x.p.base) base))

    procedures_are : r.procedures ≡ C (ref.Named q)
    procedures_are = ap (λ (z : RecordDesc). z.procedures) x.is

    pub numbers_behind : AllByRecursion (IsNumbered (base_of C r.base) r.procedures) r.methods
    numbers_behind =
        let b : r.base ≡ x.p.base = ap (λ (z : RecordDesc). z.base) x.is in
        let f : r.methods ≡ numbered (base_of C x.p.base) x.p.methods = ap (λ (z : RecordDesc). z.methods) x.is in
        subst (λ o. AllByRecursion (IsNumbered (base_of C o) r.procedures) r.methods) (sym b)
        (subst (AllByRecursion (IsNumbered (base_of C x.p.base) r.procedures)) (sym f) (all_numbered (base_of C x.p.base) r.procedures x.p.methods (sym counts_are ∙ sym procedures_are)))

    pub base_within : (t : TypeRef) → r.base ≡ Some t → IsWithin V 200 t
    base_within t e =
        let b : x.p.base ≡ Some t = sym (ap (λ (z : RecordDesc). z.base) x.is) ∙ e in
        let base = all_front (λ t. IsWithin V 200 t) (listed x.p.base) (each (λ f. f.of) x.p.fields) parts in
        (subst (λ o. AllByRecursion (λ t. IsWithin V 200 t) (listed o)) b base).0

    pub base_covered : base_of W r.base ≤ r.words
    base_covered =
        let b = ap (base_of W) (ap (λ (z : RecordDesc). z.base) x.is) in
        let s = sum in
        let w = words_are in
        omega (arith, b, s, w)

    pub counts_covered : base_of C r.base ≤ r.procedures
    counts_covered =
        let b = ap (base_of C) (ap (λ (z : RecordDesc). z.base) x.is) in
        let s = counts_are in
        let w = procedures_are in
        omega (arith, b, s, w)

    -- the record that it extends
    pub base_words : (j : ℕ) → 200 ≤ j → (t : TypeRef) (p : QName) (s : RecordDesc) → r.base ≡ Some t → target T j t ≡ ref.Named p → T p ≡ Some (desc.Record s) → s.words ≤ base_of W r.base
    base_words j le t p s e h i =
        let w = base_within t e in
        let a = target_words 200 j t p s le w h i in
        let l = words_less 1 200 (omega arith) t w in
        let b = ap (base_of W) e in
        omega (arith, a, l, b)

    pub base_counts : (j : ℕ) → 200 ≤ j → (t : TypeRef) (p : QName) (s : RecordDesc) → r.base ≡ Some t → target T j t ≡ ref.Named p → T p ≡ Some (desc.Record s) → s.procedures ≡ base_of C r.base
    base_counts j le t p s e h i = sym (target_counts 1 200 j t p s (omega arith) le (base_within t e) h i) ∙ sym (ap (base_of C) e)
