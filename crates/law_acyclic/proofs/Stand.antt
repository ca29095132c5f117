-- What stands among types of the module is described by the map.
use Rattle.std.proofs.Common.{◌≡◌, ◌⊎◌, inl, inr, refl, sym, ap, subst, ◌∙◌, ℕ, Bool, true, false, List, [], ◌∷◌, Option, Some, None, cond}
use Rattle.std.specs.Prelude.{bytes_eq, is_some, MatchOption, IsTrue}
use Rattle.std.specs.List.{AllByRecursion, find}
use Rattle.ob_tree.specs.declared.names.QName.{QName}
use Rattle.ob_types.specs.declared.types.TypeRef.{TypeRef}
use Rattle.ob_types.specs.declared.types.TypeRef.TheVariants as ref
use Rattle.ob_types.specs.declared.desc.Desc.{Desc}
use Rattle.ob_types.specs.declared.desc.Desc.TheVariants as desc
use Rattle.ob_types.specs.declared.typed.TypedType.{TypedType}
use Rattle.ob_types.specs.Maps.{is_type, named_by, IsHeld}
use Rattle.ob_types.specs.Tests.{pointer_of}
use Rattle.ob_rules.specs.Shapes.{is_held, same_name}
use Rattle.ob_rules.specs.Names.{Around, map_of, type_desc, own_desc, out_string}
use Rattle.law_simulation_relation.proofs.Names.{bytes_same, bytes_true}
use Rattle.law_typing_forms.specs.Said.{IsOneOf}
use Rattle.law_names_procedures.specs.Procedures.{IsShown, ShowBases}
use Rattle.law_body_context.specs.Knows.{HasName, IsTypeDesc, StandsBy, Stands, IsDescribed}
use Rattle.law_body_context.proofs.Lists.{one_all}
use Rattle.law_acyclic.specs.Laws.{IsApart}
use Rattle.law_acyclic.specs.Steady.{IsClosed}
use Rattle.law_acyclic.proofs.Firm.{AnyValue}
use Rattle.law_lists.proofs.Lists.{and_parts}

-- the first of that name
pub record IsFound (ts : List TypedType) (x : List ℕ) : Type 0 where
  pub s : TypedType
  pub is : find (λ t. bytes_eq t.name x) ts ≡ Some s
  pub there : IsOneOf ts s
  pub name : s.name ≡ x

pub name_found : (ts : List TypedType) (x : List ℕ) → HasName ts x → IsFound ts x
name_found [] x h = absurd h.1.0
name_found (t ∷ ts) x h = by (bytes_eq t.name x) refl h (λ k. name_found ts x k)
  where
    by : (b : Bool) → bytes_eq t.name x ≡ b → HasName (t ∷ ts) x → (HasName ts x → IsFound ts x) → IsFound (t ∷ ts) x
    by true e h f = record { s = t; is = ap (λ b. cond b (Some t) (find (λ t. bytes_eq t.name x) ts)) e; there = inl refl; name = bytes_true t.name x e }
    by false e (s, (inl i, n)) f = let bad : true ≡ false = sym (bytes_same x) ∙ ap (λ y. bytes_eq y x) (sym (ap (λ (r : TypedType). r.name) i ∙ n)) ∙ e in absurd cc
    by false e (s, (inr i, n)) f = let r = f (s, (i, n)) in record { s = r.s; is = ap (λ b. cond b (Some t) (find (λ t. bytes_eq t.name x) ts)) e ∙ r.is; there = inr r.there; name = r.name }

pub found_name : (ts : List TypedType) (x : List ℕ) (s : TypedType) → find (λ t. bytes_eq t.name x) ts ≡ Some s → IsOneOf ts s × (s.name ≡ x)
found_name [] x s e = absurd cc
found_name (t ∷ ts) x s e = by (bytes_eq t.name x) refl e (λ k. found_name ts x s k)
  where
    by : (b : Bool) → bytes_eq t.name x ≡ b → cond b (Some t) (find (λ t. bytes_eq t.name x) ts) ≡ Some s → (find (λ t. bytes_eq t.name x) ts ≡ Some s → IsOneOf ts s × (s.name ≡ x)) → IsOneOf (t ∷ ts) s × (s.name ≡ x)
    by true f e g = let i : t ≡ s = cc in (inl i, ap (λ (r : TypedType). r.name) (sym i) ∙ bytes_true t.name x f)
    by false f e g = let r = g e in (inr r.0, r.1)

type_true : (d : Desc) → IsTrue (is_type d) → is_type d ≡ true
type_true d h = h

module _ (unit : List ℕ) (shown : QName → Option Desc) (w : Around) (unit_is : w.unit ≡ unit) (shown_is : w.shown ≡ shown) where
  -- a type of the module
  pub record IsOwn (q : QName) (d : Desc) : Type 0 where
    pub s : TypedType
    pub there : IsOneOf w.own s
    pub name : q ≡ record { «module» = unit; object = s.name }
    pub desc : s.desc ≡ d

  pub record IsOther (q : QName) (d : Desc) : Type 0 where
    pub other : bytes_eq q.«module» unit ≡ false
    pub is : shown q ≡ Some d

  -- what the map has of a type that is not that of Out
  pub at : (q : QName) → same_name q out_string ≡ false → (d : Desc) → map_of w q ≡ Some d → IsOwn q d ⊎ IsOther q d
  at q o d e = by (bytes_eq q.«module» unit) refl (subst (λ n. type_desc (bytes_eq q.«module» n) (same_name q out_string) w q ≡ Some d) unit_is e)
    where
      own : (x : Option TypedType) → find (λ t. bytes_eq t.name q.object) w.own ≡ x → own_desc x ≡ Some d → bytes_eq q.«module» unit ≡ true → IsOwn q d
      own None f e b = absurd cc
      own (Some s) f e b =
          let r = found_name w.own q.object s f in
          record { s = s; there = r.0; name = ap (λ (n : List ℕ). let p : QName = record { «module» = n; object = q.object } in p) (bytes_true q.«module» unit b) ∙ ap (λ (n : List ℕ). let p : QName = record { «module» = unit; object = n } in p) (sym r.1); desc = cc }

      by : (b : Bool) → bytes_eq q.«module» unit ≡ b → type_desc b (same_name q out_string) w q ≡ Some d → IsOwn q d ⊎ IsOther q d
      by true b e = inl (own (find (λ t. bytes_eq t.name q.object) w.own) refl e b)
      by false b e = inr (record { other = b; is = ap (λ (f : QName → Option Desc). f q) (sym shown_is) ∙ subst (λ o. type_desc false o w q ≡ Some d) o e })

  pub own_at : (q : QName) → bytes_eq q.«module» unit ≡ true → (s : TypedType) → find (λ t. bytes_eq t.name q.object) w.own ≡ Some s → map_of w q ≡ Some s.desc
  own_at q b s f = subst (λ n. type_desc (bytes_eq q.«module» n) (same_name q out_string) w q ≡ Some s.desc) (sym unit_is) (subst (λ b. type_desc b (same_name q out_string) w q ≡ Some s.desc) (sym b) (ap own_desc f))

  pub other_at : (q : QName) → bytes_eq q.«module» unit ≡ false → same_name q out_string ≡ false → map_of w q ≡ shown q
  other_at q b o = ap (λ n. type_desc (bytes_eq q.«module» n) (same_name q out_string) w q) unit_is ∙ ap (λ b. type_desc b (same_name q out_string) w q) b ∙ ap (λ o. type_desc false o w q) o ∙ ap (λ (f : QName → Option Desc). f q) shown_is

  -- what stands is described as a type
  pub record IsTypeAt (q : QName) : Type 0 where
    pub d : Desc
    pub is : map_of w q ≡ Some d
    pub type : is_type d ≡ true

  pub described_at : AllByRecursion (IsDescribed AnyValue) w.own → (q : QName) → Stands unit shown w.own (ref.Named q) → IsTypeAt q
  described_at h q s = by (bytes_eq q.«module» unit) refl s.1
    where
      other : bytes_eq q.«module» unit ≡ false → (o : Option Desc) → shown q ≡ o → IsTypeDesc o → IsTypeAt q
      other b None e t = absurd t
      other b (Some d) e t = record { d = d; is = other_at q b s.0 ∙ e; type = type_true d t }

      by : (b : Bool) → bytes_eq q.«module» unit ≡ b → StandsBy b shown w.own q → IsTypeAt q
      by true b n = let r = name_found w.own q.object n in record { d = r.s.desc; is = own_at q b r.s r.is; type = (one_all (IsDescribed AnyValue) w.own r.s h r.there).type }
      by false b t = other b (shown q) refl t

  pub held_at : AllByRecursion (IsDescribed AnyValue) w.own → (t : TypeRef) → Stands unit shown w.own t → is_held (map_of w) t ≡ true
  held_at h (ref.Basic b) s = refl
  held_at h (ref.Named q) s = ap is_some (described_at h q s).is

-- ---- what is shown

module _ (shown : QName → Option Desc) (unit : List ℕ) (kept : IsClosed shown) (apart : IsApart shown unit) where
  pub no_out : (q : QName) (b : Bool) → same_name q out_string ≡ b → (o : Option Desc) → shown q ≡ o → MatchOption o ⊥ (λ d. IsTrue (is_type d)) → b ≡ false
  no_out q false e o f h = refl
  no_out q true e o f h =
      let p = and_parts (bytes_eq q.«module» out_string.«module») (bytes_eq q.object out_string.object) e in
      let s : q ≡ out_string = ap (λ (n : List ℕ). let p : QName = record { «module» = n; object = q.object } in p) (bytes_true q.«module» out_string.«module» p.0) ∙ ap (λ (n : List ℕ). let p : QName = record { «module» = out_string.«module»; object = n } in p) (bytes_true q.object out_string.object p.1) in
      absurd (subst (λ o. MatchOption o ⊥ (λ d. IsTrue (is_type d))) (sym f ∙ ap shown s ∙ apart.out) h)

  pub no_own : (q : QName) (b : Bool) → bytes_eq q.«module» unit ≡ b → (o : Option Desc) → shown q ≡ o → MatchOption o ⊥ (λ d. IsTrue (is_type d)) → b ≡ false
  no_own q false e o f h = refl
  no_own q true e o f h = absurd (subst (λ o. MatchOption o ⊥ (λ d. IsTrue (is_type d))) (sym f ∙ apart.own q e) h)

  -- a type that is shown stands
  pub shown_stands : (own : List TypedType) (t : TypeRef) → IsHeld shown t → Stands unit shown own t
  shown_stands own (ref.Basic b) h = tt
  shown_stands own (ref.Named q) h = (no_out q (same_name q out_string) refl (shown q) refl h, subst (λ b. StandsBy b shown own q) (sym (no_own q (bytes_eq q.«module» unit) refl (shown q) refl h)) h)

  pub shown_names : (own : List TypedType) (q : QName) (d : Desc) → shown q ≡ Some d → AllByRecursion (λ t. Stands unit shown own t) (named_by d)
  shown_names own q d e = all (named_by d) (kept.held q d e)
    where
      all : (ts : List TypeRef) → AllByRecursion (λ t. IsHeld shown t) ts → AllByRecursion (λ t. Stands unit shown own t) ts
      all [] h = tt
      all (t ∷ ts) h = (shown_stands own t h.0, all ts h.1)

-- ---- what shows none of its types

module _ (shown : QName → Option Desc) (unit : List ℕ) (kept : IsClosed shown) (none : (q : QName) → bytes_eq q.«module» unit ≡ true → shown q ≡ None) where
  base_shown : (b : TypeRef) → IsHeld shown b → IsShown shown unit b
  base_shown (ref.Basic x) h = tt
  base_shown (ref.Named q) h = (other (bytes_eq q.«module» unit) refl, there (shown q) h)
    where
      other : (x : Bool) → bytes_eq q.«module» unit ≡ x → x ≡ false
      other false e = refl
      other true e = absurd (subst (λ o. MatchOption o ⊥ (λ d. IsTrue (is_type d))) (none q e) h)

      there : (o : Option Desc) → MatchOption o ⊥ (λ d. IsTrue (is_type d)) → is_some o ≡ true
      there None h = absurd h
      there (Some d) h = refl

  -- the bases of pointers that are shown are
  pub bases_shown : ShowBases shown unit
  bases_shown q b e = by (shown q) refl e
    where
      by : (o : Option Desc) → shown q ≡ o → pointer_of o ≡ Some b → IsShown shown unit b
      by None f e = absurd cc
      by (Some (desc.Pointer m t)) f e = let i : t ≡ b = cc in subst (IsShown shown unit) i (base_shown t (kept.held q (desc.Pointer m t) f).0)
      by (Some (desc.Const v)) f e = absurd cc
      by (Some (desc.Var m t)) f e = absurd cc
      by (Some (desc.Proc s)) f e = absurd cc
      by (Some (desc.Alias m t)) f e = absurd cc
      by (Some (desc.Array m n t)) f e = absurd cc
      by (Some (desc.OpenArray m t)) f e = absurd cc
      by (Some (desc.ProcType m s)) f e = absurd cc
      by (Some (desc.Record r)) f e = absurd cc
