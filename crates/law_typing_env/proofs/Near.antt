-- What a module uses of others is enough for it to stand over them.
use Rattle.std.proofs.Common.{◌≡◌, ◌⊎◌, inl, inr, ℕ, zero, suc, List, [], ◌∷◌, ◌++◌, map as each, Option, Some, None, refl, sym, ap, subst, ◌∙◌}
use Rattle.std.specs.Prelude.{◌≢◌, Bool, true, false, ◌||◌, cond, MatchOption, IfSome, IsTrue}
use Rattle.std.specs.List.{AllByRecursion, flat_map}
use Rattle.ob_tree.specs.declared.names.QName.{QName}
use Rattle.ob_types.specs.declared.types.TypeRef.{TypeRef}
use Rattle.ob_types.specs.declared.types.TypeRef.TheVariants as ref
use Rattle.ob_types.specs.declared.desc.Desc.{Desc}
use Rattle.ob_types.specs.declared.desc.Desc.TheVariants as desc
use Rattle.ob_types.specs.declared.desc.RecordDesc.{RecordDesc}
use Rattle.ob_types.specs.declared.desc.Field.{Field}
use Rattle.ob_types.specs.declared.desc.Method.{Method}
use Rattle.ob_types.specs.Maps.{is_type, listed, signature_types, stands_on, named_by, IsHeld, IsWithin}
use Rattle.ob_types.specs.Relations.{Is, is_record, is_structure, is_open, IsPlainResult, Keeps, IsGrounded}
use Rattle.ob_types.specs.TypedSyntax.{Module}
use Rattle.ob_meaning.specs.Values.{Program, description}
use Rattle.ob_layout.specs.LaidOut.{type_named as own_named, is_own, viewed}
use Rattle.ob_uses.specs.Uses.{near_types}
use Rattle.law_typing_forms.proofs.Within.{all_from}
use Rattle.law_typing_forms.proofs.Modules.{of_all}
use Rattle.law_typing_env.specs.Ordered.{bare}
use Rattle.law_typing_env.specs.Near.{core, IsNear, AreUsed, UsersStand}
use Rattle.law_typing_env.proofs.Keeping.{core_bare, Says, record_kind, structure_kind, open_kind, kind_forward, kind_held, structure_type}
use Rattle.law_typing_env.proofs.Ordered.{types_named}
use Rattle.law_typing_env.proofs.Views.{type_found}
use Rattle.law_lists.proofs.Lists.{all_front}

open_type : (d : Desc) → is_open d ≡ true → is_type d ≡ true
open_type (desc.Const v) e = absurd cc
open_type (desc.Var m t) e = absurd cc
open_type (desc.Proc s) e = absurd cc
open_type (desc.Alias m t) e = absurd cc
open_type (desc.Array m n t) e = absurd cc
open_type (desc.OpenArray m t) e = refl
open_type (desc.Pointer m t) e = absurd cc
open_type (desc.ProcType m s) e = absurd cc
open_type (desc.Record r) e = absurd cc

bare_twice : (d : Desc) → bare (bare d) ≡ bare d
bare_twice (desc.Const v) = refl
bare_twice (desc.Var m t) = refl
bare_twice (desc.Proc s) = refl
bare_twice (desc.Alias m t) = refl
bare_twice (desc.Array m n t) = refl
bare_twice (desc.OpenArray m t) = refl
bare_twice (desc.Pointer m t) = refl
bare_twice (desc.ProcType m s) = refl
bare_twice (desc.Record r) = refl

-- what is no record is the same without members and sizes
core_plain : (d x : Desc) → is_record x ≡ false → core d ≡ x → d ≡ x
core_plain (desc.Const v) x n h = h
core_plain (desc.Var m t) x n h = h
core_plain (desc.Proc s) x n h = h
core_plain (desc.Alias m t) x n h = h
core_plain (desc.Array m k t) x n h = h
core_plain (desc.OpenArray m t) x n h = h
core_plain (desc.Pointer m t) x n h = h
core_plain (desc.ProcType m s) x n h = h
core_plain (desc.Record r) x n h = let bad : true ≡ false = ap is_record h ∙ n in absurd cc

-- near types are named, and so are those that a type stands on
near_named : (P : TypeRef → Type 0) (d : Desc) → is_type d ≡ true → AllByRecursion P (named_by d) → AllByRecursion P (near_types d)
near_named P (desc.Const v) ty h = absurd cc
near_named P (desc.Var m t) ty h = absurd cc
near_named P (desc.Proc s) ty h = absurd cc
near_named P (desc.Alias m t) ty h = h
near_named P (desc.Array m n t) ty h = h
near_named P (desc.OpenArray m t) ty h = h
near_named P (desc.Pointer m t) ty h = h
near_named P (desc.ProcType m s) ty h = h
near_named P (desc.Record r) ty h = all_front P (listed r.base) (each (λ f. f.of) r.fields) (all_front P (listed r.base ++ each (λ f. f.of) r.fields) (flat_map (λ m. signature_types m.signature) r.methods) h)

stands_named : (P : TypeRef → Type 0) (d : Desc) → is_type d ≡ true → AllByRecursion P (named_by d) → AllByRecursion P (stands_on d)
stands_named P (desc.Const v) ty h = absurd cc
stands_named P (desc.Var m t) ty h = absurd cc
stands_named P (desc.Proc s) ty h = absurd cc
stands_named P (desc.Alias m t) ty h = h
stands_named P (desc.Array m n t) ty h = h
stands_named P (desc.OpenArray m t) ty h = h
stands_named P (desc.Pointer m t) ty h = tt
stands_named P (desc.ProcType m s) ty h = h
stands_named P (desc.Record r) ty h = all_front P (listed r.base ++ each (λ f. f.of) r.fields) (flat_map (λ m. signature_types m.signature) r.methods) h

-- ---- one description beside another

-- a record of the same base, without members
pub record IsBareOf (d e : Desc) : Type 0 where
  pub r : RecordDesc
  pub s : RecordDesc
  pub of : d ≡ desc.Record r
  pub is : e ≡ desc.Record s
  pub base : s.base ≡ r.base
  pub fields : s.fields ≡ []
  pub methods : s.methods ≡ []

abbrev Like : Desc → Desc → Type 0
Like d e = (d ≡ e) ⊎ IsBareOf d e

record Beside (P : TypeRef → Type 0) (d e : Desc) : Type 0 where
  like : Like d e
  parts : AllByRecursion P (named_by e)
  type : is_type e ≡ true

base_in : Desc → Option TypeRef
base_in (desc.Record r) = r.base
base_in d = None

listed_parts : (P : TypeRef → Type 0) (o : Option TypeRef) → AllByRecursion P (listed o) → AllByRecursion P ((listed o ++ []) ++ [])
listed_parts P None h = tt
listed_parts P (Some t) h = h

module _ (P : TypeRef → Type 0) where
  same_beside : (d e : Desc) → core e ≡ d → is_record d ≡ false → bare d ≡ d → is_type d ≡ true → AllByRecursion P (named_by d) → Beside P d (bare e)
  same_beside d e alike plain itself ty h =
      let k : e ≡ d = core_plain e d plain alike in
      subst (λ x. Beside P d x) (sym (ap bare k ∙ itself)) (record { like = inl refl; parts = h; type = ty })

  record_beside : (r : RecordDesc) (e : Desc) → core e ≡ core (desc.Record r) → AllByRecursion P (listed r.base) → Beside P (desc.Record r) (bare e)
  unfolding base_in
  record_beside r (desc.Const v) alike h = absurd cc
  record_beside r (desc.Var m t) alike h = absurd cc
  record_beside r (desc.Proc s) alike h = absurd cc
  record_beside r (desc.Alias m t) alike h = absurd cc
  record_beside r (desc.Array m n t) alike h = absurd cc
  record_beside r (desc.OpenArray m t) alike h = absurd cc
  record_beside r (desc.Pointer m t) alike h = absurd cc
  record_beside r (desc.ProcType m s) alike h = absurd cc
  record_beside r (desc.Record s) alike h =
      let base : s.base ≡ r.base = ap base_in alike in
      record {
        like = inr (record { r = r; s = record s { fields = []; methods = [] }; of = refl; is = refl; base = base; fields = refl; methods = refl });
        parts = subst (λ o. AllByRecursion P ((listed o ++ []) ++ [])) (sym base) (listed_parts P r.base h);
        type = refl;
      }

  beside : (d e : Desc) → core e ≡ core d → is_type d ≡ true → AllByRecursion P (near_types d) → Beside P d (bare e)
  beside (desc.Const v) e alike ty h = absurd cc
  beside (desc.Var m t) e alike ty h = absurd cc
  beside (desc.Proc s) e alike ty h = absurd cc
  beside (desc.Alias m t) e alike ty h = same_beside (desc.Alias m t) e alike refl refl refl h
  beside (desc.Array m n t) e alike ty h = same_beside (desc.Array m n t) e alike refl refl refl h
  beside (desc.OpenArray m t) e alike ty h = same_beside (desc.OpenArray m t) e alike refl refl refl h
  beside (desc.Pointer m t) e alike ty h = same_beside (desc.Pointer m t) e alike refl refl refl h
  beside (desc.ProcType m s) e alike ty h = same_beside (desc.ProcType m s) e alike refl refl refl h
  beside (desc.Record r) e alike ty h = record_beside r e alike h

kept_if : Bool → Option Desc → Option Desc
kept_if true (Some e) = Some (bare e)
kept_if true None = None
kept_if false o = None

module _ (before : Program) (m : Module) (types : QName → Option Desc) (near : QName → Bool) (described : AllByRecursion (λ t. is_type t.desc ≡ true) m.types) (g : IsGrounded (viewed types m)) (used : AreUsed before m types near) where
  abbrev V : QName → Option Desc
  V = viewed types m

  others : QName → Option Desc
  others q = kept_if (near q) (description before q)

  abbrev W : QName → Option Desc
  W = viewed others m

  shown : (q : QName) (d : Desc) → others q ≡ Some d → is_type d ≡ true → (e : Desc) × ((description before q ≡ Some e) × (bare e ≡ bare d))
  unfolding others kept_if
  shown q d e ty = by (near q) (description before q) refl e
    where
      by : (b : Bool) (o : Option Desc) → description before q ≡ o → kept_if b o ≡ Some d → (e : Desc) × ((description before q ≡ Some e) × (bare e ≡ bare d))
      by true (Some x) i h = let k : bare x ≡ d = cc in (x, (i, sym (bare_twice x) ∙ ap bare k))
      by true None i h = absurd cc
      by false o i h = absurd cc

  abbrev Both : TypeRef → Type 0
  Both t = IsNear m near t × IsHeld V t

  both : (ts : List TypeRef) → AllByRecursion (IsNear m near) ts → AllByRecursion (λ t. IsHeld V t) ts → AllByRecursion Both ts
  both [] h k = tt
  both (t ∷ ts) h k = ((h.0, k.0), both ts h.1 k.1)

  record Look (q : QName) (e : Desc) : Type 0 where
    d : Desc
    of : V q ≡ Some d
    held : is_type d ≡ true
    says : core d ≡ core e
    beside_it : Beside Both d e

  -- a type of another module that is used
  foreign : (q : QName) → is_own m q ≡ false → near q ≡ true → (e : Desc) × ((W q ≡ Some e) × Look q e)
  unfolding others kept_if
  foreign q is n =
      let us = used.others q is n in
      let view : V q ≡ Some us.d = ap (λ b. cond b (own_named m.types q.object) (types q)) is ∙ us.of in
      let there : W q ≡ Some (bare us.e) = ap (λ b. cond b (own_named m.types q.object) (others q)) is ∙ ap (λ b. kept_if b (description before q)) n ∙ ap (kept_if true) us.has in
      let parts : AllByRecursion Both (near_types us.d) = both (near_types us.d) us.parts (near_named (λ t. IsHeld V t) us.d us.type (g.held q us.d view)) in
      (bare us.e, (there, record { d = us.d; of = view; held = us.type; says = sym us.alike ∙ sym (core_bare us.e); beside_it = beside Both us.d us.e us.alike us.type parts }))

  look : (q : QName) (e : Desc) → W q ≡ Some e → Look q e
  unfolding others kept_if
  look q e h = by (is_own m q) (near q) refl refl h
    where
      by : (b n : Bool) → is_own m q ≡ b → near q ≡ n → cond b (own_named m.types q.object) (kept_if n (description before q)) ≡ Some e → Look q e
      by true n is i h =
          let f = type_found m.types q.object e (sym (types_named m.types q.object) ∙ h) in
          let view : V q ≡ Some e = ap (λ b. cond b (own_named m.types q.object) (types q)) is ∙ h in
          let ty : is_type e ≡ true = sym (ap is_type f.desc) ∙ of_all (λ t. is_type t.desc ≡ true) m.types f.t described f.there in
          let parts : AllByRecursion (IsNear m near) (named_by e) = subst (λ d. AllByRecursion (IsNear m near) (named_by d)) f.desc (of_all (λ t. AllByRecursion (IsNear m near) (named_by t.desc)) m.types f.t used.own f.there) in
          record { d = e; of = view; held = ty; says = refl; beside_it = record { like = inl refl; parts = both (named_by e) parts (g.held q e view); type = ty } }
      by false true is i h =
          let k = foreign q is i in
          let whole : W q ≡ Some e = ap (λ b. cond b (own_named m.types q.object) (others q)) is ∙ ap (λ b. kept_if b (description before q)) i ∙ h in
          let same : Some k.0 ≡ Some e = sym k.1.0 ∙ whole in
          let one : k.0 ≡ e = cc in
          subst (Look q) one k.1.1
      by false false is i h = absurd cc

  -- what is near and held is held by what is used
  both_there : (t : TypeRef) → Both t → IsHeld W t
  both_there (ref.Basic b) h = tt
  both_there (ref.Named q) h = by (is_own m q) refl h.0 h.1
    where
      by : (b : Bool) → is_own m q ≡ b → (b || near q) ≡ true → MatchOption (cond b (own_named m.types q.object) (types q)) ⊥ (λ d. IsTrue (is_type d)) → MatchOption (W q) ⊥ (λ d. IsTrue (is_type d))
      by true is i k = subst (λ b. MatchOption (cond b (own_named m.types q.object) (others q)) ⊥ (λ d. IsTrue (is_type d))) (sym is) k
      by false is i k = let f = foreign q is i in subst (λ o. MatchOption o ⊥ (λ d. IsTrue (is_type d))) (sym f.1.0) f.1.1.beside_it.type

  held_here : (q : QName) (e : Desc) → W q ≡ Some e → AllByRecursion (λ t. IsHeld W t) (named_by e)
  held_here q e h = all_from Both (λ t. IsHeld W t) both_there (named_by e) (look q e h).beside_it.parts

  -- CHAINS
  within : (n : ℕ) (t : TypeRef) → IsHeld W t → IsWithin V n t → IsWithin W n t
  unfolding IsWithin
  within n (ref.Basic b) h w = tt
  within zero (ref.Named q) h w = absurd w
  within (suc n) (ref.Named q) h w = by (W q) refl h w (λ t a b. within n t a b)
    where
      on : (d e : Desc) → is_type e ≡ true → Like d e → AllByRecursion (λ t. IsHeld W t) (stands_on e) → AllByRecursion (λ t. IsWithin V n t) (stands_on d) → ((t : TypeRef) → IsHeld W t → IsWithin V n t → IsWithin W n t) → AllByRecursion (λ t. IsWithin W n t) (stands_on e)
      on d e ty (inl same) a b r = pointwise (stands_on e) a (subst (λ x. AllByRecursion (λ t. IsWithin V n t) (stands_on x)) same b)
        where
          pointwise : (ts : List TypeRef) → AllByRecursion (λ t. IsHeld W t) ts → AllByRecursion (λ t. IsWithin V n t) ts → AllByRecursion (λ t. IsWithin W n t) ts
          pointwise [] a b = tt
          pointwise (t ∷ ts) a b = (r t a.0 b.0, pointwise ts a.1 b.1)
      on d e ty (inr k) a b r =
          let vs : AllByRecursion (λ t. IsWithin V n t) (listed k.r.base) = all_front (λ t. IsWithin V n t) (listed k.r.base) (each (λ f. f.of) k.r.fields) (subst (λ x. AllByRecursion (λ t. IsWithin V n t) (stands_on x)) k.of b) in
          let ws : AllByRecursion (λ t. IsHeld W t) (listed k.s.base) = all_front (λ t. IsHeld W t) (listed k.s.base) (each (λ f. f.of) k.s.fields) (subst (λ x. AllByRecursion (λ t. IsHeld W t) (stands_on x)) k.is a) in
          subst (λ x. AllByRecursion (λ t. IsWithin W n t) (stands_on x)) (sym k.is) (subst (λ fs. AllByRecursion (λ t. IsWithin W n t) (listed k.s.base ++ each (λ f. f.of) fs)) (sym k.fields) (base_only k.s.base ws (subst (λ o. AllByRecursion (λ t. IsWithin V n t) (listed o)) (sym k.base) vs)))
        where
          base_only : (o : Option TypeRef) → AllByRecursion (λ t. IsHeld W t) (listed o) → AllByRecursion (λ t. IsWithin V n t) (listed o) → AllByRecursion (λ t. IsWithin W n t) (listed o ++ [])
          base_only None a b = tt
          base_only (Some t) a b = (r t a.0 b.0, tt)

      by : (o : Option Desc) → W q ≡ o → MatchOption o ⊥ (λ d. IsTrue (is_type d)) → MatchOption (V q) ⊥ (λ d. IsTrue (is_type d) × AllByRecursion (λ t. IsWithin V n t) (stands_on d)) → ((t : TypeRef) → IsHeld W t → IsWithin V n t → IsWithin W n t) → MatchOption o ⊥ (λ d. IsTrue (is_type d) × AllByRecursion (λ t. IsWithin W n t) (stands_on d))
      by None i h w r = absurd h
      by (Some e) i h w r =
          let l = look q e i in
          let v = subst (λ o. MatchOption o ⊥ (λ d. IsTrue (is_type d) × AllByRecursion (λ t. IsWithin V n t) (stands_on d))) l.of w in
          (h, on l.d e h l.beside_it.like (stands_named (λ t. IsHeld W t) e h (held_here q e i)) v.1 r)

  held_back : (t : TypeRef) → IsHeld W t → IsHeld V t
  held_back (ref.Basic b) h = tt
  held_back (ref.Named q) h = by (W q) refl h
    where
      by : (o : Option Desc) → W q ≡ o → MatchOption o ⊥ (λ d. IsTrue (is_type d)) → MatchOption (V q) ⊥ (λ d. IsTrue (is_type d))
      by None i h = absurd h
      by (Some e) i h = let l = look q e i in subst (λ o. MatchOption o ⊥ (λ d. IsTrue (is_type d))) (sym l.of) l.held

  -- WHAT DESCRIPTIONS KEEP
  says : (q : QName) (e : Desc) → W q ≡ Some e → is_type e ≡ true → (d : Desc) × ((V q ≡ Some d) × Says d e)
  says q e h ty = let l = look q e h in (l.d, (l.of, inr l.says))

  never : (kind : Desc → Bool) → ((t : TypeRef) → Is W kind t → Is V kind t) → (t : TypeRef) → (Is V kind t → ⊥) → Is W kind t → ⊥
  never kind f t n w = n (f t w)

  open_forward : (t : TypeRef) → Is W is_open t → Is V is_open t
  open_forward t h = kind_forward W V says held_here is_open open_kind open_type t h

  structure_forward : (t : TypeRef) → Is W is_structure t → Is V is_structure t
  structure_forward t h = kind_forward W V says held_here is_structure structure_kind (structure_type W V says held_here) t h

  result_plain : (o : Option TypeRef) → IfSome o (λ t. Is V is_structure t → ⊥) → IfSome o (λ t. Is W is_structure t → ⊥)
  result_plain None k = tt
  result_plain (Some t) k = never is_structure structure_forward t k

  base_keeps : (o : Option TypeRef) → AllByRecursion (λ t. IsHeld W t) (listed o) → IfSome o (Is V is_record) → IfSome o (Is W is_record)
  base_keeps None h k = tt
  base_keeps (Some t) h k = kind_held W V says held_here is_record record_kind t h.0 k

  fields_keep : (fs : List Field) → AllByRecursion (λ f. Is V is_open f.of → ⊥) fs → AllByRecursion (λ f. Is W is_open f.of → ⊥) fs
  fields_keep [] k = tt
  fields_keep (f ∷ fs) k = (never is_open open_forward f.of k.0, fields_keep fs k.1)

  methods_keep : (ms : List Method) → AllByRecursion (λ m. IsPlainResult V m.signature) ms → AllByRecursion (λ m. IsPlainResult W m.signature) ms
  methods_keep [] k = tt
  methods_keep (x ∷ ms) k = (result_plain x.signature.result k.0, methods_keep ms k.1)

  same_keeps : (e : Desc) → AllByRecursion (λ t. IsHeld W t) (named_by e) → Keeps V e → Keeps W e
  same_keeps (desc.Const v) h k = tt
  same_keeps (desc.Var x t) h k = never is_open open_forward t k
  same_keeps (desc.Proc s) h k = result_plain s.result k
  same_keeps (desc.Alias x t) h k = never is_open open_forward t k
  same_keeps (desc.Array x n t) h k = never is_open open_forward t k
  same_keeps (desc.OpenArray x t) h k = never is_open open_forward t k
  same_keeps (desc.Pointer x t) h k = kind_held W V says held_here is_structure structure_kind t h.0 k
  same_keeps (desc.ProcType x s) h k = result_plain s.result k
  same_keeps (desc.Record r) h k = (base_keeps r.base (near_named (λ t. IsHeld W t) (desc.Record r) refl h) k.0, (fields_keep r.fields k.1.0, methods_keep r.methods k.1.1))

  like_keeps : (d e : Desc) → Like d e → AllByRecursion (λ t. IsHeld W t) (named_by e) → Keeps V d → Keeps W e
  like_keeps d e (inl same) h k = same_keeps e h (subst (Keeps V) same k)
  like_keeps d e (inr b) h k =
      let v = subst (Keeps V) b.of k in
      let held : AllByRecursion (λ t. IsHeld W t) (listed b.s.base) = near_named (λ t. IsHeld W t) (desc.Record b.s) refl (subst (λ x. AllByRecursion (λ t. IsHeld W t) (named_by x)) b.is h) in
      subst (Keeps W) (sym b.is) (
        base_keeps b.s.base held (subst (λ o. IfSome o (Is V is_record)) (sym b.base) v.0),
        (subst (λ fs. AllByRecursion (λ f. Is W is_open f.of → ⊥) fs) (sym b.fields) tt, subst (λ ms. AllByRecursion (λ m. IsPlainResult W m.signature) ms) (sym b.methods) tt),
      )

  users_grounded : IsGrounded W
  users_grounded = record {
    held = held_here;
    chains = λ t h. within 201 t h (g.chains t (held_back t h));
    keeps = λ q e h. let l = look q e h in like_keeps l.d e l.beside_it.like (held_here q e h) (g.keeps q l.d l.of);
  }

pub users_stand : UsersStand
users_stand before m types near names described g used = record {
  others = others before m types near described g used;
  name = names;
  types = described;
  shown = shown before m types near described g used;
  grounded = users_grounded before m types near described g used;
}

-- what it sees of a type that it uses
pub used_seen : (before : Program) (m : Module) (types : QName → Option Desc) (near : QName → Bool) (names : AllByRecursion (λ k. k.name ≢ m.name) before) (described : AllByRecursion (λ t. is_type t.desc ≡ true) m.types) (g : IsGrounded (viewed types m)) (used : AreUsed before m types near) → (q : QName) (e : Desc) → near q ≡ true → description before q ≡ Some e → (users_stand before m types near names described g used).others q ≡ Some (bare e)
unfolding others kept_if users_stand
used_seen before m types near names described g used q e n h = ap (λ b. kept_if b (description before q)) n ∙ ap (kept_if true) h
