-- Bases stand before their extensions: what a record's base stands for, through aliases, is a record before it or of another module.
use Rattle.std.proofs.Common.{◌≡◌, ◌≢◌, ⊎_elim, refl, sym, ap, subst, ◌∙◌, ℕ, ◌<◌, Bool, true, false, List, [], ◌∷◌, ◌++◌, map as each, Option, Some, None, inl, inr, cond, append_assoc, arith}
use Rattle.std.specs.Prelude.{bytes_eq, MatchOption, IfSome, IsTrue}
use Rattle.std.specs.List.{AllByRecursion}
use Rattle.std.proofs.lemmas.Bool.{false≢true}
use Rattle.ob_tree.specs.declared.names.QName.{QName}
use Rattle.ob_tree.specs.declared.ident.Mark.{Mark}
use Rattle.ob_types.specs.declared.types.TypeRef.{TypeRef}
use Rattle.ob_types.specs.declared.types.TypeRef.TheVariants as ref
use Rattle.ob_types.specs.declared.desc.Desc.{Desc}
use Rattle.ob_types.specs.declared.desc.Desc.TheVariants as desc
use Rattle.ob_types.specs.declared.typed.TypedType.{TypedType}
use Rattle.ob_types.specs.TypedSyntax.{Module}
use Rattle.ob_types.specs.Maps.{listed, IsHeld}
use Rattle.ob_types.specs.Tests.{target}
use Rattle.ob_types.specs.Relations.{StandsFor, itself, equated, Is, is_record as is_record_desc, IsGrounded}
use Rattle.ob_types.proofs.Targets.{unique, is_target}
use Rattle.ob_layout.specs.LaidOut.{type_named, viewed}
use Rattle.ob_scheme.specs.Descriptions.{name_in}
use Rattle.ob_scheme.specs.Context.{is_record, records_among}
use Rattle.ob_scheme.specs.Object.{own, base_type}
use Rattle.law_simulation_relation.proofs.Names.{bytes_true, bytes_same}
use Rattle.law_typing_forms.specs.Said.{IsOneOf}
use Rattle.law_typing.specs.Makes.{IfThere}
use Rattle.law_names_distinct.specs.Distinct.{AreDistinct}
use Rattle.law_spelling.specs.Coded.{RecordIsCoded}
use Rattle.law_spelling.specs.Files.{BaseFits, DescBaseFits, BasesFit}
use Rattle.law_body_context.specs.Knows.{HasName, Grows, IsTypeDesc, StandsBy, Stands}
use Rattle.law_body_context.specs.Order.{IsBased}
use Rattle.law_body_context.proofs.Lists.{one_left, one_right, one_joined, one_all}
use Rattle.law_acyclic.proofs.Maps.{stood_on}
use Rattle.law_builds_written.specs.based_laws.Based.{AreBased}
use Rattle.law_builds_written.proofs.based_laws.Numbers.{counted, counted_more, place, number_below}

-- ---- types that differ in name

one_type : (ts : List TypedType) → AreDistinct (λ (t : TypedType). t.name) ts → (a b : TypedType) → IsOneOf ts a → IsOneOf ts b → a.name ≡ b.name → a ≡ b
one_type [] d a b i j e = absurd i
one_type (t ∷ ts) d a b (inl i) (inl j) e = sym i ∙ j
one_type (t ∷ ts) d a b (inl i) (inr j) e = absurd (one_all (λ (y : TypedType). y.name ≢ t.name) ts b d.0 j (sym e ∙ sym (ap (λ (y : TypedType). y.name) i)))
one_type (t ∷ ts) d a b (inr i) (inl j) e = absurd (one_all (λ (y : TypedType). y.name ≢ t.name) ts a d.0 i (e ∙ sym (ap (λ (y : TypedType). y.name) j)))
one_type (t ∷ ts) d a b (inr i) (inr j) e = one_type ts d.1 a b i j e

-- the type that a name finds
pub record IsFound (ts : List TypedType) (x : List ℕ) (d : Desc) : Type 0 where
  pub t : TypedType
  pub there : IsOneOf ts t
  pub name : t.name ≡ x
  pub is : t.desc ≡ d

found : (ts : List TypedType) (x : List ℕ) (d : Desc) → type_named ts x ≡ Some d → IsFound ts x d
found [] x d e = absurd cc
found (t ∷ ts) x d e = by (bytes_eq x t.name) refl e (λ k. found ts x d k)
  where
    by : (b : Bool) → bytes_eq x t.name ≡ b → cond b (Some t.desc) (type_named ts x) ≡ Some d → (type_named ts x ≡ Some d → IsFound ts x d) → IsFound (t ∷ ts) x d
    by true f e g = record { t = t; there = inl refl; name = sym (bytes_true x t.name f); is = cc }
    by false f e g = let r = g e in record { t = r.t; there = inr r.there; name = r.name; is = r.is }

-- the first of a name is found
finds : (ts : List TypedType) (t : TypedType) → IsOneOf ts t → (d : Desc) × (type_named ts t.name ≡ Some d)
finds [] t i = absurd i
finds (s ∷ ts) t i = by (bytes_eq t.name s.name) refl i (λ j. finds ts t j)
  where
    by : (b : Bool) → bytes_eq t.name s.name ≡ b → IsOneOf (s ∷ ts) t → (IsOneOf ts t → (d : Desc) × (type_named ts t.name ≡ Some d)) → (d : Desc) × (cond b (Some s.desc) (type_named ts t.name) ≡ Some d)
    by true f i g = (s.desc, refl)
    by false f (inl j) g = absurd (false≢true (sym f ∙ ap (λ (y : TypedType). bytes_eq t.name y.name) j ∙ bytes_same t.name))
    by false f (inr j) g = g j

same_record : (d : Desc) → is_record_desc d ≡ true → is_record d ≡ true
same_record (desc.Record r) e = refl
same_record (desc.Const v) e = absurd (false≢true e)
same_record (desc.Var k t) e = absurd (false≢true e)
same_record (desc.Proc s) e = absurd (false≢true e)
same_record (desc.Alias k t) e = absurd (false≢true e)
same_record (desc.Array k c t) e = absurd (false≢true e)
same_record (desc.OpenArray k t) e = absurd (false≢true e)
same_record (desc.Pointer k t) e = absurd (false≢true e)
same_record (desc.ProcType k s) e = absurd (false≢true e)

-- What is taken of the module and of the map of the others: both maps are grounded, the other has nothing of the module, its names have a
-- spelling, and the module's types differ in name and stand in the order of the text.
pub record IsPlaced (D : QName → Option Desc) (m : Module) (shown : QName → Option Desc) : Type 0 where
  pub view : IsGrounded (viewed D m)
  pub outer : IsGrounded D
  pub apart : (q : QName) → bytes_eq q.«module» m.name ≡ true → D q ≡ None
  pub known : (q : QName) → IsTypeDesc (shown q) → IsTypeDesc (D q)
  pub coded : (q : QName) (d : Desc) → D q ≡ Some d → RecordIsCoded (own (viewed D m) m) q
  pub differ : AreDistinct (λ (t : TypedType). t.name) m.types
  pub based : AreBased m.name shown [] m.types

module _ (D : QName → Option Desc) (m : Module) (shown : QName → Option Desc) (p : IsPlaced D m shown) where
  abbrev V : QName → Option Desc
  V = viewed D m

  -- ---- other modules

  at_own : (q : QName) → bytes_eq q.«module» m.name ≡ true → V q ≡ type_named m.types q.object
  at_own q e = ap (λ b. cond b (type_named m.types q.object) (D q)) e

  at_other : (q : QName) → bytes_eq q.«module» m.name ≡ false → V q ≡ D q
  at_other q e = ap (λ b. cond b (type_named m.types q.object) (D q)) e

  held_apart : (q : QName) → IsTypeDesc (D q) → bytes_eq q.«module» m.name ≡ false
  held_apart q h = by (bytes_eq q.«module» m.name) refl
    where
      by : (b : Bool) → bytes_eq q.«module» m.name ≡ b → b ≡ false
      by false e = refl
      by true e = absurd (subst IsTypeDesc (p.apart q e) h)

  -- ---- what stands before

  abbrev By : Bool → List TypedType → QName → Type 0
  By true ts q = HasName ts q.object
  By false ts q = IsTypeDesc (D q)

  -- one of these, of another module, or basic
  abbrev IsAmong : List TypedType → TypeRef → Type 0
  IsAmong ts (ref.Basic b) = Unit {0}
  IsAmong ts (ref.Named q) = By (bytes_eq q.«module» m.name) ts q

  from_stands : (ts more : List TypedType) → Grows ts more → (t : TypeRef) → Stands m.name shown ts t → IsAmong more t
  from_stands ts more g (ref.Basic b) h = tt
  from_stands ts more g (ref.Named q) h = by (bytes_eq q.«module» m.name) h.1
    where
      by : (b : Bool) → StandsBy b shown ts q → By b more q
      by true k = g q.object k
      by false k = p.known q k

  among_more : (ts more : List TypedType) → Grows ts more → (t : TypeRef) → IsAmong ts t → IsAmong more t
  among_more ts more g (ref.Basic b) h = tt
  among_more ts more g (ref.Named q) h = by (bytes_eq q.«module» m.name) h
    where
      by : (b : Bool) → By b ts q → By b more q
      by true k = g q.object k
      by false k = k

  among_held : (ts : List TypedType) (t : TypeRef) → IsHeld D t → IsAmong ts t
  among_held ts (ref.Basic b) h = tt
  among_held ts (ref.Named q) h = subst (λ b. By b ts q) (sym (held_apart q h)) h

  -- what an alias among them is equated to is among them
  abbrev Closed : List TypedType → Type 0
  Closed ts = (s : TypedType) → IsOneOf ts s → (k : Mark) (t : TypeRef) → s.desc ≡ desc.Alias k t → IsAmong ts t

  module _ (ts : List TypedType) (lies : (s : TypedType) → IsOneOf ts s → IsOneOf m.types s) (closed : Closed ts) where
    -- a name of theirs
    found_among : (x : List ℕ) → HasName ts x → (d : Desc) → type_named m.types x ≡ Some d → (s : TypedType) × (IsOneOf ts s × ((s.name ≡ x) × (s.desc ≡ d)))
    found_among x h d e =
        let r = found m.types x d e in
        let same : r.t ≡ h.0 = one_type m.types p.differ r.t h.0 r.there (lies h.0 h.1.0) (r.name ∙ sym h.1.1) in
        (h.0, (h.1.0, (h.1.1, ap (λ (y : TypedType). y.desc) (sym same) ∙ r.is)))

    next : (q : QName) (k : Mark) (t : TypeRef) → V q ≡ Some (desc.Alias k t) → (b : Bool) → bytes_eq q.«module» m.name ≡ b → By b ts q → IsAmong ts t
    next q k t e true f h = let r = found_among q.object h (desc.Alias k t) (sym (at_own q f) ∙ e) in closed r.0 r.1.0 k t r.1.1.1
    next q k t e false f h = among_held ts t (p.outer.held q (desc.Alias k t) (sym (at_other q f) ∙ e)).0

    lands : {t u : TypeRef} → StandsFor V t u → IsAmong ts t → IsAmong ts u
    lands (itself a) h = h
    lands (equated {q = q} {m = k} {t = t} e s) h = lands s (next q k t e (bytes_eq q.«module» m.name) refl h)

    -- ---- the base of a record behind them

    module _ (rest : List TypedType) (all : ts ++ rest ≡ m.types) where
      record_below : (q : QName) → IsAmong ts (ref.Named q) → (d : Desc) → V q ≡ Some d → is_record_desc d ≡ true → BaseFits V m (counted 0 ts) (Some q)
      record_below q h d e r = by (bytes_eq q.«module» m.name) refl h
        where
          by : (b : Bool) → bytes_eq q.«module» m.name ≡ b → By b ts q → BaseFits V m (counted 0 ts) (Some q)
          by true f h =
              let s = found_among q.object h d (sym (at_own q f) ∙ e) in
              let i = number_below ts rest s.0 s.1.0 q.object s.1.1.0 (ap is_record s.1.1.1 ∙ same_record d r) in
              ((λ g. subst (λ (l : List TypedType). place (records_among l) q.object < counted 0 ts) all i), (λ g. absurd (false≢true (sym g ∙ f))))
          by false f h = ((λ g. absurd (false≢true (sym f ∙ g))), p.coded q d (sym (at_other q f) ∙ e))

      target_below : (t u : TypeRef) → StandsFor V t u → IsAmong ts t → Is V is_record_desc t → BaseFits V m (counted 0 ts) (name_in u)
      target_below t (ref.Basic b) s h k = tt
      target_below t (ref.Named q) s h k = by (V q) refl (subst (λ (u : TypeRef). MatchOption (at u) ⊥ (λ d. IsTrue (is_record_desc d))) (unique V k.1.0 s) k.1.1)
        where
          at : TypeRef → Option Desc
          at (ref.Basic b) = None
          at (ref.Named q) = V q

          by : (o : Option Desc) → V q ≡ o → MatchOption o ⊥ (λ d. IsTrue (is_record_desc d)) → BaseFits V m (counted 0 ts) (Some q)
          by None e r = absurd r
          by (Some d) e r = record_below q (lands s h) d e r

      base_below : (o : Option TypeRef) → IfThere (IsAmong ts) o → IfSome o (Is V is_record_desc) → AllByRecursion (IsHeld V) (listed o) → BaseFits V m (counted 0 ts) (base_type V m o)
      base_below None h k l = tt
      base_below (Some t) h k l = target_below t (target V 201 t) (is_target V 201 201 t (omega arith) (p.view.chains t l.0)).stands h k

  front_held : (xs ys : List TypeRef) → AllByRecursion (IsHeld V) (xs ++ ys) → AllByRecursion (IsHeld V) xs
  front_held [] ys h = tt
  front_held (x ∷ xs) ys h = (h.0, front_held xs ys h.1)

  -- ---- all of them

  own_is : (t : TypedType) → IsOneOf m.types t → V (record { «module» = m.name; object = t.name }) ≡ Some t.desc
  own_is t i =
      let r = finds m.types t i in
      let f = found m.types t.name r.0 r.1 in
      at_own (record { «module» = m.name; object = t.name }) (bytes_same m.name) ∙ r.1 ∙ ap (λ d. Some d) (sym f.is ∙ ap (λ (y : TypedType). y.desc) (one_type m.types p.differ f.t t f.there i f.name))

  desc_below : (ts rest before : List TypedType) → ts ++ rest ≡ m.types → ((s : TypedType) → IsOneOf ts s → IsOneOf m.types s) → Closed ts → Grows before ts → (x : List ℕ) (d : Desc) → V (record { «module» = m.name; object = x }) ≡ Some d → IsBased (Stands m.name shown before) d → DescBaseFits V m (counted 0 ts) d
  desc_below ts rest before all lies closed g x (desc.Record r) e h =
      let q : QName = record { «module» = m.name; object = x } in
      base_below ts lies closed rest all r.base (base r.base h) (p.view.keeps q (desc.Record r) e).0 (front_held (listed r.base) (each (λ f. f.of) r.fields) (stood_on (IsHeld V) (desc.Record r) (p.view.held q (desc.Record r) e)))
    where
      base : (o : Option TypeRef) → IfThere (Stands m.name shown before) o → IfThere (IsAmong ts) o
      base None h = tt
      base (Some t) h = from_stands before ts g t h
  desc_below ts rest before all lies closed g x (desc.Const v) e h = tt
  desc_below ts rest before all lies closed g x (desc.Var k t) e h = tt
  desc_below ts rest before all lies closed g x (desc.Proc s) e h = tt
  desc_below ts rest before all lies closed g x (desc.Alias k t) e h = tt
  desc_below ts rest before all lies closed g x (desc.Array k c t) e h = tt
  desc_below ts rest before all lies closed g x (desc.OpenArray k t) e h = tt
  desc_below ts rest before all lies closed g x (desc.Pointer k t) e h = tt
  desc_below ts rest before all lies closed g x (desc.ProcType k s) e h = tt

  grows_on : (ts : List TypedType) (t : TypedType) → Grows ts (ts ++ t ∷ [])
  grows_on ts t x h = (h.0, (one_left ts (t ∷ []) h.0 h.1.0, h.1.1))

  grows_both : (before ts : List TypedType) (t : TypedType) → Grows before ts → Grows (t ∷ before) (ts ++ t ∷ [])
  grows_both before ts t g x (s, (inl i, f)) = (t, (one_right ts (t ∷ []) t (inl refl), ap (λ (y : TypedType). y.name) i ∙ f))
  grows_both before ts t g x (s, (inr i, f)) = grows_on ts t x (g x (s, (i, f)))

  alias_among : (before ts : List TypedType) → Grows before ts → (d : Desc) → IsBased (Stands m.name shown before) d → (k : Mark) (t : TypeRef) → d ≡ desc.Alias k t → IsAmong ts t
  alias_among before ts g d h k t e = from_stands before ts g t (subst (IsBased (Stands m.name shown before)) e h)

  closed_on : (before ts : List TypedType) (t : TypedType) → Closed ts → Grows before ts → IsBased (Stands m.name shown before) t.desc → Closed (ts ++ t ∷ [])
  closed_on before ts t c g h s i k u e = ⊎_elim
      (λ j. among_more ts (ts ++ t ∷ []) (grows_on ts t) u (c s j k u e))
      (λ j. ⊎_elim (λ f. among_more ts (ts ++ t ∷ []) (grows_on ts t) u (alias_among before ts g t.desc h k u (ap (λ (y : TypedType). y.desc) f ∙ e))) (λ f. absurd f) j)
      (one_joined ts (t ∷ []) s i)

  all_below : (ts rest before : List TypedType) → ts ++ rest ≡ m.types → Closed ts → Grows before ts → AreBased m.name shown before rest → BasesFit V m (counted 0 ts) rest
  all_below ts [] before all closed g h = tt
  all_below ts (t ∷ rest) before all closed g h =
      let lies : (s : TypedType) → IsOneOf ts s → IsOneOf m.types s = λ s i. subst (λ l. IsOneOf l s) all (one_left ts (t ∷ rest) s i) in
      let mine : IsOneOf m.types t = subst (λ l. IsOneOf l t) all (one_right ts (t ∷ rest) t (inl refl)) in (
        desc_below ts (t ∷ rest) before all lies closed g t.name t.desc (own_is t mine) h.0,
        subst (λ n. BasesFit V m n rest) (counted_more V m ts 0 t) (all_below (ts ++ t ∷ []) rest (t ∷ before) (append_assoc ts (t ∷ []) rest ∙ all) (closed_on before ts t closed g h.0) (grows_both before ts t g) h.1),
      )

  pub bases_fit : BasesFit V m 0 m.types
  bases_fit = all_below [] m.types [] refl (λ s i. absurd i) (λ x h. h) p.based
