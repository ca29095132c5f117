-- A type is passed by its form in a program as it is passed by a map that says of it, and of what it is equated to, what the program does.
use Rattle.std.proofs.Common.{◌≡◌, refl, sym, ap, ◌∙◌, ℕ, zero, suc, true, false, List, Option, Some, None}
use Rattle.std.specs.Prelude.{◌||◌, is_some}
use Rattle.ob_tree.specs.declared.names.QName.{QName}
use Rattle.ob_tree.specs.declared.ident.Mark.{Mark}
use Rattle.ob_types.specs.declared.types.Basic.{Basic}
use Rattle.ob_types.specs.declared.types.Mode.{Mode}
use Rattle.ob_types.specs.declared.types.Mode.TheVariants as mode
use Rattle.ob_types.specs.declared.types.TypeRef.{TypeRef}
use Rattle.ob_types.specs.declared.types.TypeRef.TheVariants as ref
use Rattle.ob_types.specs.declared.desc.Desc.{Desc}
use Rattle.ob_types.specs.declared.desc.Desc.TheVariants as desc
use Rattle.ob_types.specs.declared.typed.Passing.{Passing}
use Rattle.ob_types.specs.Maps.{is_type}
use Rattle.ob_types.specs.Relations.{is_alias}
use Rattle.ob_types.specs.Tests.{target_of, follow, target, shape_at}
use Rattle.ob_meaning.specs.Values.{Program, BasicForm, PointerForm, ProcedureForm, ArrayForm, OpenForm, RecordForm, Fields, form_in, formals_in, description}
use Rattle.ob_rules.specs.Shapes.{array_at, open_at, record_at, by_value, by_var, passing_of}
use Rattle.law_simulation_relation.specs.Typed.{passing_for}
use Rattle.law_typing_forms.specs.Said.{ChainsEnd}
use Rattle.law_typing_forms.proofs.Within.{form_ends}
use Rattle.law_typing_forms.proofs.Shapes.{basic_is}
use Rattle.law_typing_env.specs.Near.{core}
use Rattle.law_builds_loaded.proofs.Closed.{core_alias}
use Rattle.law_builds_ruled.proofs.ruled_laws.Shut.{target_own}

passing_at : Mode → TypeRef → Option Desc → Passing
passing_at mode.Value u o = by_value (is_some (open_at o)) (is_some (array_at o) || is_some (record_at u o))
passing_at mode.Var u o = by_var (is_some (open_at o)) (is_some (record_at u o))

at_target : (map : QName → Option Desc) (k : Mode) (t : TypeRef) → passing_of map k t ≡ passing_at k (target map 201 t) (shape_at map (target map 201 t))
unfolding passing_at
at_target map mode.Value t = refl
at_target map mode.Var t = refl

-- members and sizes of a record do not count
core_passing : (k : Mode) (q : QName) (d : Desc) → passing_at k (ref.Named q) (Some d) ≡ passing_at k (ref.Named q) (Some (core d))
unfolding passing_at
core_passing k q (desc.Record r) = by k
  where
    by : (k : Mode) → passing_at k (ref.Named q) (Some (desc.Record r)) ≡ passing_at k (ref.Named q) (Some (core (desc.Record r)))
    by mode.Value = refl
    by mode.Var = refl
core_passing k q (desc.Const v) = refl
core_passing k q (desc.Var m t) = refl
core_passing k q (desc.Proc s) = refl
core_passing k q (desc.Alias m t) = refl
core_passing k q (desc.Array m n t) = refl
core_passing k q (desc.OpenArray m t) = refl
core_passing k q (desc.Pointer m t) = refl
core_passing k q (desc.ProcType m s) = refl

module _ (program : Program) (chained : ChainsEnd program) (one : QName → Option Desc) (P : TypeRef → Type 0) (N : ℕ → TypeRef → Type 0) (never : (q : QName) → N zero (ref.Named q) → ⊥) where
  -- the map says of a type what the program declares
  pub record SaidBy (q : QName) : Type 0 where
    pub d : Desc
    pub e : Desc
    pub of : one q ≡ Some d
    pub there : description program q ≡ Some e
    pub alike : core d ≡ core e
    pub type : is_type e ≡ true
    pub onward : (k : Mark) (t : TypeRef) → d ≡ desc.Alias k t → P t
    pub within : (k : Mark) (t : TypeRef) → d ≡ desc.Alias k t → (n : ℕ) → N (suc n) (ref.Named q) → N n t

  described_passing : (k : Mode) (q : QName) (e : Desc) → description program q ≡ Some e → is_type e ≡ true → is_alias e ≡ false → passing_at k (ref.Named q) (Some e) ≡ passing_for k (form_in program (ref.Named q))
  unfolding passing_at
  described_passing k q (desc.Const v) h ty a = absurd cc
  described_passing k q (desc.Var m t) h ty a = absurd cc
  described_passing k q (desc.Proc s) h ty a = absurd cc
  described_passing k q (desc.Alias m t) h ty a = absurd cc
  described_passing k q (desc.Array m n t) h ty a = by k ∙ sym (ap (passing_for k) (form_ends program chained q (desc.Array m n t) h))
    where
      by : (k : Mode) → passing_at k (ref.Named q) (Some (desc.Array m n t)) ≡ passing_for k (ArrayForm n (form_in program t))
      by mode.Value = refl
      by mode.Var = refl
  described_passing k q (desc.OpenArray m t) h ty a = by k ∙ sym (ap (passing_for k) (form_ends program chained q (desc.OpenArray m t) h))
    where
      by : (k : Mode) → passing_at k (ref.Named q) (Some (desc.OpenArray m t)) ≡ passing_for k (OpenForm (form_in program t))
      by mode.Value = refl
      by mode.Var = refl
  described_passing k q (desc.Pointer m t) h ty a = by k ∙ sym (ap (passing_for k) (form_ends program chained q (desc.Pointer m t) h))
    where
      by : (k : Mode) → passing_at k (ref.Named q) (Some (desc.Pointer m t)) ≡ passing_for k (PointerForm t)
      by mode.Value = refl
      by mode.Var = refl
  described_passing k q (desc.ProcType m s) h ty a = by k ∙ sym (ap (passing_for k) (form_ends program chained q (desc.ProcType m s) h))
    where
      by : (k : Mode) → passing_at k (ref.Named q) (Some (desc.ProcType m s)) ≡ passing_for k (ProcedureForm (formals_in program s))
      by mode.Value = refl
      by mode.Var = refl
  described_passing k q (desc.Record r) h ty a = by k _ _ ∙ sym (ap (passing_for k) (form_ends program chained q (desc.Record r) h))
    where
      by : (k : Mode) (line : List QName) (fs : Fields) → passing_at k (ref.Named q) (Some (desc.Record r)) ≡ passing_for k (RecordForm line fs)
      by mode.Value line fs = refl
      by mode.Var line fs = refl

  module _ (said : (q : QName) → P (ref.Named q) → SaidBy q) where
    abbrev Goal : Mode → ℕ → TypeRef → Type 0
    Goal k n t = passing_at k (target one n t) (shape_at one (target one n t)) ≡ passing_for k (form_in program t)

    basic : (k : Mode) (b : Basic) → passing_at k (ref.Basic b) None ≡ passing_for k (form_in program (ref.Basic b))
    unfolding passing_at
    basic k b = by k ∙ sym (ap (passing_for k) (basic_is program b))
      where
        by : (k : Mode) → passing_at k (ref.Basic b) None ≡ passing_for k (BasicForm b)
        by mode.Value = refl
        by mode.Var = refl

    target_basic : (n : ℕ) (b : Basic) → target one n (ref.Basic b) ≡ ref.Basic b
    unfolding target
    target_basic zero b = refl
    target_basic (suc n) b = refl

    step : (n : ℕ) (q : QName) (k : Mark) (t : TypeRef) → one q ≡ Some (desc.Alias k t) → target one (suc n) (ref.Named q) ≡ target one n t
    unfolding target
    step n q k t e = ap (λ o. follow (target_of o) (ref.Named q) (λ u. target one n u)) e

    alias_core : (d e : Desc) → core d ≡ core e → is_alias d ≡ false → is_alias e ≡ false
    alias_core d e h a = same e ∙ sym (ap is_alias h) ∙ sym (same d) ∙ a
      where
        same : (d : Desc) → is_alias d ≡ is_alias (core d)
        same (desc.Record r) = refl
        same (desc.Const v) = refl
        same (desc.Var m t) = refl
        same (desc.Proc s) = refl
        same (desc.Alias m t) = refl
        same (desc.Array m n t) = refl
        same (desc.OpenArray m t) = refl
        same (desc.Pointer m t) = refl
        same (desc.ProcType m s) = refl

    own_ends : (k : Mode) (n : ℕ) (q : QName) (s : SaidBy q) → is_alias s.d ≡ false → Goal k n (ref.Named q)
    own_ends k n q s a =
        let t = target_own one q s.d s.of a n in
        ap (λ u. passing_at k u (shape_at one u)) t ∙ ap (passing_at k (ref.Named q)) s.of
        ∙ core_passing k q s.d ∙ ap (λ x. passing_at k (ref.Named q) (Some x)) s.alike ∙ sym (core_passing k q s.e)
        ∙ described_passing k q s.e s.there s.type (alias_core s.d s.e s.alike a)

    by_ends : (k : Mode) (n : ℕ) (q : QName) (s : SaidBy q) → N (suc n) (ref.Named q) → (d : Desc) → s.d ≡ d → ((t : TypeRef) → P t → N n t → Goal k n t) → Goal k (suc n) (ref.Named q)
    by_ends k n q s w (desc.Alias m t) i r =
        let e : s.e ≡ desc.Alias m t = core_alias s.e m t (sym s.alike ∙ ap core i) in
        let same : form_in program (ref.Named q) ≡ form_in program t = form_ends program chained q (desc.Alias m t) (s.there ∙ ap (λ x. Some x) e) in
        ap (λ u. passing_at k u (shape_at one u)) (step n q m t (s.of ∙ ap (λ x. Some x) i)) ∙ r t (s.onward m t i) (s.within m t i n w) ∙ sym (ap (passing_for k) same)
    by_ends k n q s w (desc.Const v) i r = own_ends k (suc n) q s (ap is_alias i)
    by_ends k n q s w (desc.Var m t) i r = own_ends k (suc n) q s (ap is_alias i)
    by_ends k n q s w (desc.Proc g) i r = own_ends k (suc n) q s (ap is_alias i)
    by_ends k n q s w (desc.Array m l t) i r = own_ends k (suc n) q s (ap is_alias i)
    by_ends k n q s w (desc.OpenArray m t) i r = own_ends k (suc n) q s (ap is_alias i)
    by_ends k n q s w (desc.Pointer m t) i r = own_ends k (suc n) q s (ap is_alias i)
    by_ends k n q s w (desc.ProcType m g) i r = own_ends k (suc n) q s (ap is_alias i)
    by_ends k n q s w (desc.Record x) i r = own_ends k (suc n) q s (ap is_alias i)

    ends : (k : Mode) (n : ℕ) (t : TypeRef) → P t → N n t → Goal k n t
    ends k n (ref.Basic b) p w = ap (λ u. passing_at k u (shape_at one u)) (target_basic n b) ∙ basic k b
    ends k zero (ref.Named q) p w = absurd (never q w)
    ends k (suc n) (ref.Named q) p w = by_ends k n q (said q p) w (said q p).d refl (λ t a b. ends k n t a b)

    -- HOW IT IS PASSED
    pub passed_alike : (k : Mode) (t : TypeRef) → P t → N 201 t → passing_of one k t ≡ passing_for k (form_in program t)
    passed_alike k t p w = at_target one k t ∙ ends k 201 t p w
