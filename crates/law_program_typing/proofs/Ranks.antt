-- Types in their order have ranks: the base of a record is of a lower rank.
use Rattle.std.proofs.Common.{◌≡◌, inl, inr, refl, sym, ap, subst, ◌∙◌, ℕ, zero, suc, ◌≤◌, ◌<◌, Bool, true, false, List, [], ◌∷◌, ◌++◌, length, Option, Some, None, arith}
use Rattle.std.specs.Prelude.{bytes_eq, cond, ◌||◌}
use Rattle.std.specs.List.{find}
use Rattle.ob_tree.specs.declared.names.QName.{QName}
use Rattle.ob_types.specs.declared.types.TypeRef.{TypeRef}
use Rattle.ob_types.specs.declared.types.TypeRef.TheVariants as ref
use Rattle.ob_types.specs.declared.desc.Desc.{Desc}
use Rattle.ob_types.specs.declared.desc.Desc.TheVariants as desc
use Rattle.ob_types.specs.declared.typed.TypedType.{TypedType}
use Rattle.ob_types.specs.Tests.{target_of, follow, target}
use Rattle.law_simulation_relation.proofs.Names.{bytes_true, bytes_same}
use Rattle.ob_rules.specs.Shapes.{Map, same_name, record_if, base_type, base_record}
use Rattle.ob_rules.specs.Names.{Around, map_of, own_desc, type_desc, out_string}
use Rattle.law_typing_forms.specs.Said.{IsOneOf}
use Rattle.law_typing.specs.Makes.{IfThere}
use Rattle.law_body_context.specs.Knows.{HasName, StandsBy, Stands}
use Rattle.law_body_context.specs.Order.{IsBased, AreInOrder}
use Rattle.law_methods_introduced.proofs.Chains.{finds}
use Rattle.law_program_typing.specs.Once.{Line, IsOther, ShowOthers}
use Rattle.law_lists.proofs.Lists.{or_first, or_second}

-- ---- ranks by names

abbrev pub has : List TypedType → List ℕ → Bool
has [] x = false
has (t ∷ ts) x = bytes_eq t.name x || has ts x

-- how many types there are behind the last of that name, and it
abbrev pub rank : List TypedType → List ℕ → ℕ
rank [] x = zero
rank (t ∷ ts) x = cond (has ts x) (rank ts x) (suc (length ts))

pub rank_most : (ts : List TypedType) (x : List ℕ) → has ts x ≡ true → rank ts x ≤ length ts
rank_most [] x h = absurd cc
rank_most (t ∷ ts) x h = by (has ts x) refl (rank_most ts x)
  where
    by : (b : Bool) → has ts x ≡ b → (has ts x ≡ true → rank ts x ≤ length ts) → cond b (rank ts x) (suc (length ts)) ≤ suc (length ts)
    by true e up = let r = up e in omega (arith, r)
    by false e up = omega arith

pub named_has : (ts : List TypedType) (x : List ℕ) → HasName ts x → has ts x ≡ true
named_has [] x h = absurd h.1.0
named_has (t ∷ ts) x (s, (inl e, f)) = or_first (bytes_eq t.name x) (has ts x) (ap (λ y. bytes_eq y x) (ap (λ (r : TypedType). r.name) e ∙ f) ∙ bytes_same x)
named_has (t ∷ ts) x (s, (inr i, f)) = or_second (bytes_eq t.name x) (has ts x) (named_has ts x (s, (i, f)))

pub has_named : (ts : List TypedType) (x : List ℕ) → has ts x ≡ true → HasName ts x
has_named [] x h = absurd cc
has_named (t ∷ ts) x h = by (bytes_eq t.name x) refl h (has_named ts x)
  where
    by : (b : Bool) → bytes_eq t.name x ≡ b → (b || has ts x) ≡ true → (has ts x ≡ true → HasName ts x) → HasName (t ∷ ts) x
    by true e h up = (t, (inl refl, bytes_true t.name x e))
    by false e h up = let r = up h in (r.0, (inr r.1.0, r.1.1))

-- in front of others the rank stays
pub rank_behind : (front ts : List TypedType) (x : List ℕ) → has ts x ≡ true → (has (front ++ ts) x ≡ true) × (rank (front ++ ts) x ≡ rank ts x)
rank_behind [] ts x h = (h, refl)
rank_behind (t ∷ front) ts x h =
    let r = rank_behind front ts x h in
    (or_second (bytes_eq t.name x) (has (front ++ ts) x) r.0, ap (λ b. cond b (rank (front ++ ts) x) (suc (length (front ++ ts)))) r.0 ∙ r.1)

-- types of one name have one description
abbrev pub AreOne : List TypedType → Type 0
AreOne ts = (a b : TypedType) → IsOneOf ts a → IsOneOf ts b → a.name ≡ b.name → a.desc ≡ b.desc

pub based_more : (S S' : TypeRef → Type 0) → ((t : TypeRef) → S t → S' t) → (d : Desc) → IsBased S d → IsBased S' d
based_more S S' f (desc.Alias m t) h = f t h
based_more S S' f (desc.Record r) h = by r.base h
  where
    by : (o : Option TypeRef) → IfThere S o → IfThere S' o
    by None h = tt
    by (Some t) h = f t h
based_more S S' f (desc.Const v) h = tt
based_more S S' f (desc.Var m t) h = tt
based_more S S' f (desc.Proc s) h = tt
based_more S S' f (desc.Array m n t) h = tt
based_more S S' f (desc.OpenArray m t) h = tt
based_more S S' f (desc.Pointer m t) h = tt
based_more S S' f (desc.ProcType m s) h = tt

module _ (u : Around) where
  -- a type of the module is one of these, of a rank below k
  abbrev pub LowAt : List TypedType → ℕ → Bool → List ℕ → Type 0
  LowAt ts k true x = (has ts x ≡ true) × (rank ts x < k)
  LowAt ts k false x = Unit {0}

  abbrev pub Low : List TypedType → ℕ → TypeRef → Type 0
  Low ts k (ref.Basic b) = Unit {0}
  Low ts k (ref.Named q) = LowAt ts k (bytes_eq q.«module» u.unit) q.object

  low_more : (ts : List TypedType) (k l : ℕ) → k ≤ l → (t : TypeRef) → Low ts k t → Low ts l t
  low_more ts k l g (ref.Basic b) h = tt
  low_more ts k l g (ref.Named q) h = by (bytes_eq q.«module» u.unit) h
    where
      by : (b : Bool) → LowAt ts k b q.object → LowAt ts l b q.object
      by true h = let r = h.1 in (h.0, omega (arith, g, r))
      by false h = tt

  low_front : (s : TypedType) (ts : List TypedType) (k : ℕ) (t : TypeRef) → Low ts k t → Low (s ∷ ts) k t
  low_front s ts k (ref.Basic b) h = tt
  low_front s ts k (ref.Named q) h = by (bytes_eq q.«module» u.unit) h
    where
      by : (b : Bool) → LowAt ts k b q.object → LowAt (s ∷ ts) k b q.object
      by true h = let r = rank_behind (s ∷ []) ts q.object h.0 in (r.0, subst (λ n. n < k) (sym r.1) h.1)
      by false h = tt

  stands_low : (s : TypedType) (ts : List TypedType) (t : TypeRef) → Stands u.unit u.shown ts t → Low (s ∷ ts) (suc (length ts)) t
  stands_low s ts (ref.Basic b) h = tt
  stands_low s ts (ref.Named q) h = by (bytes_eq q.«module» u.unit) h.1
    where
      by : (b : Bool) → StandsBy b u.shown ts q → LowAt (s ∷ ts) (suc (length ts)) b q.object
      by true k =
          let i = named_has ts q.object k in
          let r = rank_behind (s ∷ []) ts q.object i in
          let l = rank_most ts q.object i in
          let e = r.1 in
          (r.0, omega (arith, e, l))
      by false k = tt

  pub based_low : (ts : List TypedType) → AreInOrder u.unit u.shown ts → AreOne ts → (t : TypedType) → IsOneOf ts t → IsBased (Low ts (rank ts t.name)) t.desc
  based_low [] o one t i = absurd i
  based_low (s ∷ ts) o one t i = by (has ts t.name) refl i (based_low ts o.1 (λ a b j k. one a b (inr j) (inr k)))
    where
      again : ((r : TypedType) → IsOneOf ts r → IsBased (Low ts (rank ts r.name)) r.desc) → has ts t.name ≡ true → IsBased (Low (s ∷ ts) (rank ts t.name)) t.desc
      again up e =
          let r = has_named ts t.name e in
          let h = up r.0 r.1.0 in
          let same : r.0.desc ≡ t.desc = one r.0 t (inr r.1.0) i r.1.1 in
          subst (IsBased (Low (s ∷ ts) (rank ts t.name))) same (subst (λ x. IsBased (Low (s ∷ ts) (rank ts x)) r.0.desc) r.1.1 (based_more (Low ts (rank ts r.0.name)) (Low (s ∷ ts) (rank ts r.0.name)) (low_front s ts (rank ts r.0.name)) r.0.desc h))

      by : (b : Bool) → has ts t.name ≡ b → IsOneOf (s ∷ ts) t → ((r : TypedType) → IsOneOf ts r → IsBased (Low ts (rank ts r.name)) r.desc) → IsBased (Low (s ∷ ts) (cond b (rank ts t.name) (suc (length ts)))) t.desc
      by true e j up = again up e
      by false e (inl f) up = subst (λ (z : TypedType). IsBased (Low (s ∷ ts) (suc (length ts))) z.desc) f (based_more (Stands u.unit u.shown ts) (Low (s ∷ ts) (suc (length ts))) (stands_low s ts) s.desc o.0.based)
      by false e (inr j) up = let bad : true ≡ false = sym (named_has ts t.name (t, (j, refl))) ∙ e in absurd cc

  -- ---- the bases of records

  module _ (own : List TypedType) (order : AreInOrder u.unit u.shown own) (one : AreOne own) (others : ShowOthers u.shown u.unit) where
    abbrev F : Map
    F = map_of (record u { own = own })

    found_own : (ts : List TypedType) (x : List ℕ) (d : Desc) → own_desc (find (λ t. bytes_eq t.name x) ts) ≡ Some d → (t : TypedType) × (IsOneOf ts t × ((t.name ≡ x) × (t.desc ≡ d)))
    found_own [] x d e = absurd cc
    found_own (t ∷ ts) x d e = by (bytes_eq t.name x) refl e (found_own ts x d)
      where
        by : (b : Bool) → bytes_eq t.name x ≡ b → own_desc (cond b (Some t) (find (λ t. bytes_eq t.name x) ts)) ≡ Some d → (own_desc (find (λ t. bytes_eq t.name x) ts) ≡ Some d → (s : TypedType) × (IsOneOf ts s × ((s.name ≡ x) × (s.desc ≡ d)))) → (s : TypedType) × (IsOneOf (t ∷ ts) s × ((s.name ≡ x) × (s.desc ≡ d)))
        by true i e up = (t, (inl refl, (bytes_true t.name x i, cc)))
        by false i e up = let r = up e in (r.0, (inr r.1.0, r.1.1))

    own_based : (x : List ℕ) (d : Desc) → own_desc (find (λ t. bytes_eq t.name x) own) ≡ Some d → IsBased (Low own (rank own x)) d
    own_based x d e =
        let r = found_own own x d e in
        subst (IsBased (Low own (rank own x))) r.1.1.1 (subst (λ y. IsBased (Low own (rank own y)) r.0.desc) r.1.1.0 (based_low own order one r.0 r.1.0))

    other_low : (k : ℕ) (t : TypeRef) → IsOther u.unit t → Low own k t
    other_low k (ref.Basic b) h = tt
    other_low k (ref.Named q) h = subst (λ b. LowAt own k b q.object) (sym h) tt

    -- what a description names, by the module of its name
    desc_low : (b c : Bool) (q : QName) → bytes_eq q.«module» u.unit ≡ b → (d : Desc) → type_desc b c (record u { own = own }) q ≡ Some d → (k : ℕ) → LowAt own k b q.object → IsBased (Low own k) d
    desc_low true c q i d e k h = let l = h.1 in based_more (Low own (rank own q.object)) (Low own k) (low_more own (rank own q.object) k (omega (arith, l))) d (own_based q.object d e)
    desc_low false true q i d e k h = subst (λ o. IfThere (IsBased (Low own k)) o) e tt
    desc_low false false q i d e k h = based_more (IsOther u.unit) (Low own k) (other_low k) d (others q d i e)

    alias_low : (k : ℕ) (q : QName) (t : TypeRef) → target_of (F q) ≡ Some t → Low own k (ref.Named q) → Low own k t
    alias_low k q t e h = by (F q) refl e
      where
        by : (o : Option Desc) → F q ≡ o → target_of o ≡ Some t → Low own k t
        by (Some (desc.Alias m s)) i e = let same : s ≡ t = cc in subst (Low own k) same (desc_low (bytes_eq q.«module» u.unit) (same_name q out_string) q refl (desc.Alias m s) i k h)
        by None i e = absurd cc
        by (Some (desc.Const v)) i e = absurd cc
        by (Some (desc.Var m s)) i e = absurd cc
        by (Some (desc.Proc s)) i e = absurd cc
        by (Some (desc.Array m n s)) i e = absurd cc
        by (Some (desc.OpenArray m s)) i e = absurd cc
        by (Some (desc.Pointer m s)) i e = absurd cc
        by (Some (desc.ProcType m s)) i e = absurd cc
        by (Some (desc.Record r)) i e = absurd cc

    target_low : (n k : ℕ) (t : TypeRef) → Low own k t → Low own k (target F n t)
    unfolding target
    target_low zero k t h = h
    target_low (suc n) k (ref.Basic b) h = tt
    target_low (suc n) k (ref.Named q) h = by (target_of (F q)) refl (target_low n k)
      where
        by : (o : Option TypeRef) → target_of (F q) ≡ o → ((t : TypeRef) → Low own k t → Low own k (target F n t)) → Low own k (follow o (ref.Named q) (λ u. target F n u))
        by None e up = h
        by (Some t) e up = up t (alias_low k q t e h)

    base_at : (q c : QName) (k : ℕ) → ((d : Desc) → F q ≡ Some d → IsBased (Low own k) d) → base_record F q ≡ Some c → Low own k (ref.Named c)
    base_at q c k based e = by (F q) refl e
      where
        of_base : (o : Option TypeRef) → IfThere (Low own k) o → record_if F o ≡ Some c → Low own k (ref.Named c)
        of_base None h e = absurd cc
        of_base (Some t) h e = subst (Low own k) (finds F t c e).end (target_low 201 k t h)

        by : (o : Option Desc) → F q ≡ o → record_if F (base_type o) ≡ Some c → Low own k (ref.Named c)
        by (Some (desc.Record d)) i e = of_base d.base (based (desc.Record d) i) e
        by None i e = absurd cc
        by (Some (desc.Const v)) i e = absurd cc
        by (Some (desc.Var m s)) i e = absurd cc
        by (Some (desc.Proc s)) i e = absurd cc
        by (Some (desc.Alias m s)) i e = absurd cc
        by (Some (desc.Array m n s)) i e = absurd cc
        by (Some (desc.OpenArray m s)) i e = absurd cc
        by (Some (desc.Pointer m s)) i e = absurd cc
        by (Some (desc.ProcType m s)) i e = absurd cc

    none_below : (x : List ℕ) → rank own x < 0 → ⊥
    none_below x h = omega (arith, h)

    -- the base of a record of another module is of another module
    base_other : (q c : QName) → bytes_eq q.«module» u.unit ≡ false → base_record F q ≡ Some c → bytes_eq c.«module» u.unit ≡ false
    base_other q c i e = by (bytes_eq c.«module» u.unit) refl (base_at q c 0 (λ d f. desc_low false (same_name q out_string) q i d (ap (λ b. type_desc b (same_name q out_string) (record u { own = own }) q) (sym i) ∙ f) 0 tt) e)
      where
        by : (b : Bool) → bytes_eq c.«module» u.unit ≡ b → LowAt own 0 b c.object → bytes_eq c.«module» u.unit ≡ false
        by true j h = absurd (none_below c.object h.1)
        by false j h = j

    -- that of a record of the module, where it is of the module too, is of a lower rank
    base_own : (q c : QName) → bytes_eq q.«module» u.unit ≡ true → bytes_eq c.«module» u.unit ≡ true → base_record F q ≡ Some c → rank own c.object < rank own q.object
    base_own q c i j e =
        let h = base_at q c (rank own q.object) (λ d f. own_based q.object d (ap (λ b. type_desc b (same_name q out_string) (record u { own = own }) q) (sym i) ∙ f)) e in
        (subst (λ b. LowAt own (rank own q.object) b c.object) j h).1

    -- along a line ranks fall
    line_falls : (n : ℕ) (q b : QName) → Line F n q b → bytes_eq b.«module» u.unit ≡ true → (bytes_eq q.«module» u.unit ≡ true) × (rank own b.object ≤ rank own q.object)
    line_falls zero q b l j = absurd l
    line_falls (suc n) q b (inl e) j = (ap (λ (p : QName). bytes_eq p.«module» u.unit) e ∙ j, least (rank own b.object) (rank own q.object) (ap (λ (p : QName). rank own p.object) (sym e)))
      where
        least : (k l : ℕ) → k ≡ l → k ≤ l
        least k l e = omega (arith, e)
    line_falls (suc n) q b (inr (c, (e, l))) j =
        let r = line_falls n c b l j in
        by (bytes_eq q.«module» u.unit) refl r
      where
        by : (i : Bool) → bytes_eq q.«module» u.unit ≡ i → (bytes_eq c.«module» u.unit ≡ true) × (rank own b.object ≤ rank own c.object) → (i ≡ true) × (rank own b.object ≤ rank own q.object)
        by true i r = let f = base_own q c i r.0 e in let g = r.1 in (refl, omega (arith, f, g))
        by false i r = let bad : true ≡ false = sym r.0 ∙ base_other q c i e in absurd cc

    pub above_lower : (n : ℕ) (q c b : QName) → bytes_eq q.«module» u.unit ≡ true → base_record F q ≡ Some c → Line F n c b → bytes_eq b.«module» u.unit ≡ true → rank own b.object < rank own q.object
    above_lower n q c b i e l j =
        let r = line_falls n c b l j in
        let f = base_own q c i r.0 e in
        let g = r.1 in
        omega (arith, f, g)
