-- Each chain of types of modules in order ends, and what a module keeps by what it sees it keeps in the program.
use Rattle.std.proofs.Common.{◌≡◌, ◌≢◌, ◌⊎◌, ⊎_elim, inl, inr, ℕ, zero, suc, ◌+◌, List, [], ◌∷◌, ◌++◌, Option, Some, None, refl, sym, ap, subst, ◌∙◌, arith, append_assoc}
use Rattle.std.specs.Prelude.{Bool, true, false, bytes_eq, cond, if◌then◌else◌, MatchOption, IsTrue}
use Rattle.std.specs.List.{AllByRecursion}
use Rattle.ob_tree.specs.declared.names.QName.{QName}
use Rattle.ob_types.specs.declared.types.TypeRef.{TypeRef}
use Rattle.ob_types.specs.declared.types.TypeRef.TheVariants as ref
use Rattle.ob_types.specs.declared.desc.Desc.{Desc}
use Rattle.ob_types.specs.declared.desc.Desc.TheVariants as desc
use Rattle.ob_types.specs.declared.typed.TypedType.{TypedType}
use Rattle.ob_types.specs.Maps.{is_type, stands_on, named_by, IsHeld, IsWithin}
use Rattle.ob_types.specs.Relations.{Keeps}
use Rattle.ob_types.proofs.Targets.{more}
use Rattle.ob_types.specs.TypedSyntax.{Module}
use Rattle.ob_meaning.specs.Values.{Program, type_named, description}
use Rattle.law_simulation_relation.proofs.Names.{bytes_true, bytes_same}
use Rattle.ob_desc.specs.Grammar.{seen}
use Rattle.ob_uses.specs.Objects.{in_places}
use Rattle.ob_layout.specs.LaidOut.{type_named as own_named, is_own, viewed}
use Rattle.law_typing_forms.proofs.Within.{all_from}
use Rattle.law_typing_forms.proofs.Modules.{other_name}
use Rattle.law_typing_forms.proofs.Staying.{HasMore, more_described}
use Rattle.law_typing_env.proofs.Keeping.{core_bare, keeps_larger}
use Rattle.law_typing_env.specs.Ordered.{bare, StandsOver, StandInOrder}
use Rattle.law_typing_env.specs.Near.{core}

-- ---- more is held by a larger map

pub within_more : (types larger : QName → Option Desc) → HasMore types larger → (n : ℕ) (t : TypeRef) → IsWithin types n t → IsWithin larger n t
unfolding IsWithin
within_more types larger has n (ref.Basic b) h = tt
within_more types larger has zero (ref.Named q) h = absurd h
within_more types larger has (suc n) (ref.Named q) h = by (types q) refl h (λ t w. within_more types larger has n t w)
  where
    by : (o : Option Desc) → types q ≡ o → MatchOption o ⊥ (λ d. IsTrue (is_type d) × AllByRecursion (λ t. IsWithin types n t) (stands_on d)) → ((t : TypeRef) → IsWithin types n t → IsWithin larger n t) → MatchOption (larger q) ⊥ (λ d. IsTrue (is_type d) × AllByRecursion (λ t. IsWithin larger n t) (stands_on d))
    by None e h r = absurd h
    by (Some d) e h r = subst (λ o. MatchOption o ⊥ (λ d. IsTrue (is_type d) × AllByRecursion (λ t. IsWithin larger n t) (stands_on d))) (sym (has q d e)) (h.0, all_from (λ t. IsWithin types n t) (λ t. IsWithin larger n t) r (stands_on d) h.1)

pub held_more : (types larger : QName → Option Desc) → HasMore types larger → (t : TypeRef) → IsHeld types t → IsHeld larger t
held_more types larger has (ref.Basic b) h = tt
held_more types larger has (ref.Named q) h = by (types q) refl h
  where
    by : (o : Option Desc) → types q ≡ o → MatchOption o ⊥ (λ d. IsTrue (is_type d)) → MatchOption (larger q) ⊥ (λ d. IsTrue (is_type d))
    by None e h = absurd h
    by (Some d) e h = subst (λ o. MatchOption o ⊥ (λ d. IsTrue (is_type d))) (sym (has q d e)) h

within_plus : (types : QName → Option Desc) (j n : ℕ) (t : TypeRef) → IsWithin types n t → IsWithin types (j + n) t
within_plus types zero n t h = subst (λ k. IsWithin types k t) (omega arith) h
within_plus types (suc j) n t h = subst (λ k. IsWithin types k t) (omega arith) (more types (j + n) t (within_plus types j n t h))

Ends : (QName → Option Desc) → TypeRef → Type 0
Ends types t = (n : ℕ) × IsWithin types n t

all_end : (types : QName → Option Desc) (ts : List TypeRef) → AllByRecursion (λ t. (n : ℕ) × IsWithin types n t) ts → (n : ℕ) × AllByRecursion (λ t. IsWithin types n t) ts
all_end types [] h = (0, tt)
all_end types (t ∷ ts) h =
    let r = all_end types ts h.1 in
    let a : IsWithin types (h.0.0 + r.0) t = subst (λ n. IsWithin types n t) (omega arith) (within_plus types r.0 h.0.0 t h.0.1) in
    (h.0.0 + r.0, (a, all_from (λ t. IsWithin types r.0 t) (λ t. IsWithin types (h.0.0 + r.0) t) (λ t w. within_plus types h.0.0 r.0 t w) ts r.1))

pub type_bare : (d : Desc) → is_type (bare d) ≡ is_type d
type_bare (desc.Const v) = refl
type_bare (desc.Var m t) = refl
type_bare (desc.Proc s) = refl
type_bare (desc.Alias m t) = refl
type_bare (desc.Array m n t) = refl
type_bare (desc.OpenArray m t) = refl
type_bare (desc.Pointer m t) = refl
type_bare (desc.ProcType m s) = refl
type_bare (desc.Record r) = refl

bare_again : (d : Desc) → bare (seen (in_places d)) ≡ bare d
bare_again (desc.Const v) = refl
bare_again (desc.Var m t) = refl
bare_again (desc.Proc s) = refl
bare_again (desc.Alias m t) = refl
bare_again (desc.Array m n t) = refl
bare_again (desc.OpenArray m t) = refl
bare_again (desc.Pointer m t) = refl
bare_again (desc.ProcType m s) = refl
bare_again (desc.Record r) = refl

-- what an interface shows of it is as it is, but for members
pub seen_bare : (e d : Desc) → seen (in_places e) ≡ d → bare e ≡ bare d
seen_bare e d h = sym (bare_again e) ∙ ap bare h

-- ---- one module more

named_types : (ts : List TypedType) (x : List ℕ) (d : Desc) → AllByRecursion (λ t. is_type t.desc ≡ true) ts → own_named ts x ≡ Some d → (type_named ts x ≡ Some d) × (is_type d ≡ true)
named_types [] x d all e = absurd cc
named_types (t ∷ ts) x d all e = by (bytes_eq x t.name) e (λ e. named_types ts x d all.1 e)
  where
    by : (b : Bool) → cond b (Some t.desc) (own_named ts x) ≡ Some d → (own_named ts x ≡ Some d → (type_named ts x ≡ Some d) × (is_type d ≡ true)) → ((if b then Some t.desc else type_named ts x) ≡ Some d) × (is_type d ≡ true)
    by true e r = let k : t.desc ≡ d = cc in (e, sym (ap is_type k) ∙ all.0)
    by false e r = r e

pub types_named : (ts : List TypedType) (x : List ℕ) → own_named ts x ≡ type_named ts x
types_named [] x = refl
types_named (t ∷ ts) x = by (bytes_eq x t.name) (types_named ts x)
  where
    by : (b : Bool) → own_named ts x ≡ type_named ts x → cond b (Some t.desc) (own_named ts x) ≡ (if b then Some t.desc else type_named ts x)
    by true e = refl
    by false e = e

module _ (before : Program) (m : Module) (over : StandsOver before m) where
  abbrev pub all : Program
  all = before ++ m ∷ []

  abbrev pub view : QName → Option Desc
  view = viewed over.others m

  pub has_more : HasMore (description before) (description all)
  has_more = more_described m before

  -- a module's own type is in the program
  own_there : (ks : List Module) → AllByRecursion (λ k. k.name ≢ m.name) ks → (q : QName) (d : Desc) → q.«module» ≡ m.name → type_named m.types q.object ≡ Some d → description (ks ++ m ∷ []) q ≡ Some d
  own_there [] h q d n e = ap (λ (b : Bool). if b then type_named m.types q.object else None) (ap (λ (x : List ℕ). bytes_eq x m.name) n ∙ bytes_same m.name) ∙ e
  own_there (k ∷ ks) h q d n e =
      let f : bytes_eq q.«module» k.name ≡ false = ap (λ (x : List ℕ). bytes_eq x k.name) n ∙ other_name m.name k.name (λ i. h.0 (sym i)) in
      ap (λ (b : Bool). if b then type_named k.types q.object else description (ks ++ m ∷ []) q) f ∙ own_there ks h.1 q d n e

  -- what the program has is of before, or the module's own
  pub either_there : (ks : List Module) (q : QName) (d : Desc) → description (ks ++ m ∷ []) q ≡ Some d → (description ks q ≡ Some d) ⊎ ((q.«module» ≡ m.name) × (type_named m.types q.object ≡ Some d))
  either_there [] q d e = by (bytes_eq q.«module» m.name) refl e
    where
      by : (b : Bool) → bytes_eq q.«module» m.name ≡ b → (if b then type_named m.types q.object else None) ≡ Some d → (None ≡ Some d) ⊎ ((q.«module» ≡ m.name) × (type_named m.types q.object ≡ Some d))
      by true n e = inr (bytes_true q.«module» m.name n, e)
      by false n e = inl e
  either_there (k ∷ ks) q d e = by (bytes_eq q.«module» k.name) e (λ e. either_there ks q d e)
    where
      by : (b : Bool) → (if b then type_named k.types q.object else description (ks ++ m ∷ []) q) ≡ Some d → (description (ks ++ m ∷ []) q ≡ Some d → (description ks q ≡ Some d) ⊎ ((q.«module» ≡ m.name) × (type_named m.types q.object ≡ Some d))) → ((if b then type_named k.types q.object else description ks q) ≡ Some d) ⊎ ((q.«module» ≡ m.name) × (type_named m.types q.object ≡ Some d))
      by true e r = inl e
      by false e r = r e

  pub own_viewed : (q : QName) (d : Desc) → q.«module» ≡ m.name → type_named m.types q.object ≡ Some d → view q ≡ Some d
  own_viewed q d n e = ap (λ (b : Bool). cond b (own_named m.types q.object) (over.others q)) (ap (λ (x : List ℕ). bytes_eq x m.name) n ∙ bytes_same m.name) ∙ types_named m.types q.object ∙ e

  -- WHAT THE MODULE SEES is in the program, itself or with more
  pub record Seen (q : QName) (d : Desc) : Type 0 where
    pub e : Desc
    pub there : description all q ≡ Some e
    pub same : (e ≡ d) ⊎ ((description before q ≡ Some e) × (bare e ≡ bare d))

  pub sees : (q : QName) (d : Desc) → view q ≡ Some d → is_type d ≡ true → Seen q d
  sees q d e t = by (is_own m q) refl e
    where
      by : (b : Bool) → is_own m q ≡ b → cond b (own_named m.types q.object) (over.others q) ≡ Some d → Seen q d
      by true n e = record { e = d; there = own_there before over.name q d (bytes_true q.«module» m.name n) (sym (types_named m.types q.object) ∙ e); same = inl refl }
      by false n e = let h = over.shown q d e t in record { e = h.0; there = has_more q h.0 h.1.0; same = inr (h.1.0, h.1.1) }

  -- CHAINS END
  view_ends : ((q : QName) (d : Desc) → description before q ≡ Some d → (n : ℕ) × IsWithin (description before) n (ref.Named q)) → (n : ℕ) (t : TypeRef) → IsWithin view n t → (k : ℕ) × IsWithin (description all) k t
  unfolding IsWithin
  view_ends ends n (ref.Basic b) h = (0, tt)
  view_ends ends zero (ref.Named q) h = absurd h
  view_ends ends (suc n) (ref.Named q) h = by (view q) refl h (λ t w. view_ends ends n t w)
    where
      on : (d : Desc) → Seen q d → AllByRecursion (λ t. (k : ℕ) × IsWithin (description all) k t) (stands_on d) → is_type d ≡ true → (k : ℕ) × IsWithin (description all) k (ref.Named q)
      on d s parts t =
          ⊎_elim
          (λ e.
          let k = all_end (description all) (stands_on d) parts in
          (suc k.0, subst (λ o. MatchOption o ⊥ (λ d. IsTrue (is_type d) × AllByRecursion (λ t. IsWithin (description all) k.0 t) (stands_on d))) (sym (s.there ∙ ap (λ x. Some x) e)) (t, k.1)))
          (λ e. let k = ends q s.e e.0 in (k.0, within_more (description before) (description all) has_more k.0 (ref.Named q) k.1))
          s.same

      parts : (d : Desc) → AllByRecursion (λ t. IsWithin view n t) (stands_on d) → ((t : TypeRef) → IsWithin view n t → (k : ℕ) × IsWithin (description all) k t) → AllByRecursion (λ t. (k : ℕ) × IsWithin (description all) k t) (stands_on d)
      parts d h r = all_from (λ t. IsWithin view n t) (λ t. (k : ℕ) × IsWithin (description all) k t) r (stands_on d) h

      by : (o : Option Desc) → view q ≡ o → MatchOption o ⊥ (λ d. IsTrue (is_type d) × AllByRecursion (λ t. IsWithin view n t) (stands_on d)) → ((t : TypeRef) → IsWithin view n t → (k : ℕ) × IsWithin (description all) k t) → (k : ℕ) × IsWithin (description all) k (ref.Named q)
      by None e h r = absurd h
      by (Some d) e h r = on d (sees q d e h.0) (parts d h.1 r) h.0

  -- a held type of the view is held
  pub view_held : (t : TypeRef) → IsHeld view t → IsHeld (description all) t
  view_held (ref.Basic b) h = tt
  view_held (ref.Named q) h = by (view q) refl h
    where
      by : (o : Option Desc) → view q ≡ o → MatchOption o ⊥ (λ d. IsTrue (is_type d)) → MatchOption (description all q) ⊥ (λ d. IsTrue (is_type d))
      by None e h = absurd h
      by (Some d) e h =
          let s = sees q d e h in
          let t : is_type s.e ≡ true = ⊎_elim (λ k. ap is_type k ∙ h) (λ k. sym (type_bare s.e) ∙ ap is_type k.1 ∙ type_bare d ∙ h) s.same in
          subst (λ o. MatchOption o ⊥ (λ d. IsTrue (is_type d))) (sym s.there) t

  pub own_type : (q : QName) (d : Desc) → type_named m.types q.object ≡ Some d → is_type d ≡ true
  own_type q d e = (named_types m.types q.object d over.types (types_named m.types q.object ∙ e)).1

  -- ONE MODULE MORE
  pub ends_more : ((q : QName) (d : Desc) → description before q ≡ Some d → (n : ℕ) × IsWithin (description before) n (ref.Named q)) → (q : QName) (d : Desc) → description all q ≡ Some d → (n : ℕ) × IsWithin (description all) n (ref.Named q)
  ends_more ends q d e =
      ⊎_elim
      (λ k. let n = ends q d k in (n.0, within_more (description before) (description all) has_more n.0 (ref.Named q) n.1))
      (λ k. view_ends ends 201 (ref.Named q) (over.grounded.chains (ref.Named q) (subst (λ o. MatchOption o ⊥ (λ d. IsTrue (is_type d))) (sym (own_viewed q d k.0 k.1)) (own_type q d k.1))))
      (either_there before q d e)

  pub held_here : ((q : QName) (d : Desc) → description before q ≡ Some d → AllByRecursion (λ t. IsHeld (description before) t) (named_by d)) → (q : QName) (d : Desc) → description all q ≡ Some d → AllByRecursion (λ t. IsHeld (description all) t) (named_by d)
  held_here held q d e =
      ⊎_elim
      (λ k. all_from (λ t. IsHeld (description before) t) (λ t. IsHeld (description all) t) (held_more (description before) (description all) has_more) (named_by d) (held q d k))
      (λ k. all_from (λ t. IsHeld view t) (λ t. IsHeld (description all) t) view_held (named_by d) (over.grounded.held q d (own_viewed q d k.0 k.1)))
      (either_there before q d e)

  pub keeps_here : ((q : QName) (d : Desc) → description before q ≡ Some d → AllByRecursion (λ t. IsHeld (description before) t) (named_by d)) → ((q : QName) (d : Desc) → description before q ≡ Some d → Keeps (description before) d) → (q : QName) (d : Desc) → description all q ≡ Some d → Keeps (description all) d
  keeps_here held keeps q d e =
      ⊎_elim
      (λ k. keeps_larger (description before) (description all) (λ p c f t. (c, (has_more p c f, inl refl))) held d (held q d k) (keeps q d k))
      (λ k.
      let v = own_viewed q d k.0 k.1 in
      keeps_larger view (description all) (λ p c f t. let s = sees p c f t in (s.e, (s.there, ⊎_elim (λ x. inl x) (λ x. inr (sym (core_bare s.e) ∙ ap core x.1 ∙ core_bare c)) s.same))) over.grounded.held d (over.grounded.held q d v) (over.grounded.keeps q d v))
      (either_there before q d e)

-- ALL MODULES
append_none : (ms : List Module) → ms ++ [] ≡ ms
append_none [] = refl
append_none (m ∷ ms) = ap (λ k. m ∷ k) (append_none ms)

pub record AreSound (program : Program) : Type 0 where
  pub ends : (q : QName) (d : Desc) → description program q ≡ Some d → (n : ℕ) × IsWithin (description program) n (ref.Named q)
  pub held : (q : QName) (d : Desc) → description program q ≡ Some d → AllByRecursion (λ t. IsHeld (description program) t) (named_by d)
  pub keeps : (q : QName) (d : Desc) → description program q ≡ Some d → Keeps (description program) d

pub in_order_sound : (before : Program) (ms : List Module) → AreSound before → StandInOrder before ms → AreSound (before ++ ms)
in_order_sound before [] s h = subst AreSound (sym (append_none before)) s
in_order_sound before (m ∷ ms) s h =
    let one : AreSound (before ++ m ∷ []) = record { ends = ends_more before m h.0 s.ends; held = held_here before m h.0 s.held; keeps = keeps_here before m h.0 s.held s.keeps } in
    subst AreSound (append_assoc before (m ∷ []) ms) (in_order_sound (before ++ m ∷ []) ms one h.1)

pub program_sound : (program : Program) → StandInOrder [] program → AreSound program
program_sound program h = in_order_sound [] program (record { ends = λ q d e. absurd cc; held = λ q d e. absurd cc; keeps = λ q d e. absurd cc }) h
