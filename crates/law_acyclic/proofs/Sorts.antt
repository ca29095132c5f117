-- The kinds of types, as the rules test them and as they are, in maps that say the same but for bound procedures.
use Rattle.std.proofs.Common.{◌≡◌, refl, sym, ap, subst, ◌∙◌, ℕ, zero, suc, Bool, true, false, List, [], Option, Some, None, arith}
use Rattle.std.specs.Prelude.{is_some, ◌||◌, MatchOption, IsTrue}
use Rattle.ob_tree.specs.declared.names.QName.{QName}
use Rattle.ob_tree.specs.declared.ident.Mark.{Mark}
use Rattle.ob_types.specs.declared.types.Basic.{Basic}
use Rattle.ob_types.specs.declared.types.TypeRef.{TypeRef}
use Rattle.ob_types.specs.declared.types.TypeRef.TheVariants as ref
use Rattle.ob_types.specs.declared.desc.Desc.{Desc}
use Rattle.ob_types.specs.declared.desc.Desc.TheVariants as desc
use Rattle.ob_types.specs.declared.desc.Method.{Method}
use Rattle.ob_types.specs.Maps.{is_type, stands_on, IsWithin}
use Rattle.ob_types.specs.Relations.{IsOwn as IsOwnType, is_alias, StandsFor, itself, Is, is_structure, is_open as is_open_desc, is_record as is_record_desc}
use Rattle.ob_types.specs.Tests.{target_of, follow, target, shape_at}
use Rattle.ob_types.proofs.Targets.{unique}
use Rattle.ob_rules.specs.Shapes.{Map, shape, open_at, array_at, record_at, is_open, is_array, is_record, is_structured}
use Rattle.ob_rules.specs.Headings.{change_desc}
use Rattle.law_body_context.specs.Judged.{with_methods, HasMore}
use Rattle.law_typing_forms.specs.Steady.{without_members}
use Rattle.law_typing_forms.proofs.Steady.{is_end}
use Rattle.law_acyclic.proofs.Firm.{is_solid}

-- a description without its bound procedures
abbrev pub strip : Desc → Desc
strip d = change_desc (λ r. record r { methods = [] }) d

abbrev pub stripped : Option Desc → Option Desc
stripped None = None
stripped (Some d) = Some (strip d)

pub more_stripped : (d e : Desc) → HasMore d e → strip e ≡ strip d
more_stripped d e h = ap strip h.1 ∙ by h.0 d
  where
    by : (ms : List Method) (d : Desc) → strip (with_methods ms d) ≡ strip d
    by ms (desc.Const v) = refl
    by ms (desc.Var m t) = refl
    by ms (desc.Proc s) = refl
    by ms (desc.Alias m t) = refl
    by ms (desc.Array m n t) = refl
    by ms (desc.OpenArray m t) = refl
    by ms (desc.Pointer m t) = refl
    by ms (desc.ProcType m s) = refl
    by ms (desc.Record r) = refl

-- ---- what does not depend on bound procedures

target_stripped : (o : Option Desc) → target_of (stripped o) ≡ target_of o
target_stripped None = refl
target_stripped (Some (desc.Const v)) = refl
target_stripped (Some (desc.Var m t)) = refl
target_stripped (Some (desc.Proc s)) = refl
target_stripped (Some (desc.Alias m t)) = refl
target_stripped (Some (desc.Array m n t)) = refl
target_stripped (Some (desc.OpenArray m t)) = refl
target_stripped (Some (desc.Pointer m t)) = refl
target_stripped (Some (desc.ProcType m s)) = refl
target_stripped (Some (desc.Record r)) = refl

open_stripped : (o : Option Desc) → is_some (open_at (stripped o)) ≡ is_some (open_at o)
open_stripped None = refl
open_stripped (Some (desc.Const v)) = refl
open_stripped (Some (desc.Var m t)) = refl
open_stripped (Some (desc.Proc s)) = refl
open_stripped (Some (desc.Alias m t)) = refl
open_stripped (Some (desc.Array m n t)) = refl
open_stripped (Some (desc.OpenArray m t)) = refl
open_stripped (Some (desc.Pointer m t)) = refl
open_stripped (Some (desc.ProcType m s)) = refl
open_stripped (Some (desc.Record r)) = refl

array_stripped : (o : Option Desc) → is_some (array_at (stripped o)) ≡ is_some (array_at o)
array_stripped None = refl
array_stripped (Some (desc.Const v)) = refl
array_stripped (Some (desc.Var m t)) = refl
array_stripped (Some (desc.Proc s)) = refl
array_stripped (Some (desc.Alias m t)) = refl
array_stripped (Some (desc.Array m n t)) = refl
array_stripped (Some (desc.OpenArray m t)) = refl
array_stripped (Some (desc.Pointer m t)) = refl
array_stripped (Some (desc.ProcType m s)) = refl
array_stripped (Some (desc.Record r)) = refl

record_stripped : (q : QName) (o : Option Desc) → is_some (record_at (ref.Named q) (stripped o)) ≡ is_some (record_at (ref.Named q) o)
record_stripped q None = refl
record_stripped q (Some (desc.Const v)) = refl
record_stripped q (Some (desc.Var m t)) = refl
record_stripped q (Some (desc.Proc s)) = refl
record_stripped q (Some (desc.Alias m t)) = refl
record_stripped q (Some (desc.Array m n t)) = refl
record_stripped q (Some (desc.OpenArray m t)) = refl
record_stripped q (Some (desc.Pointer m t)) = refl
record_stripped q (Some (desc.ProcType m s)) = refl
record_stripped q (Some (desc.Record r)) = refl

pub solid_stripped : (d : Desc) → is_solid (strip d) ≡ is_solid d
solid_stripped (desc.Const v) = refl
solid_stripped (desc.Var m t) = refl
solid_stripped (desc.Proc s) = refl
solid_stripped (desc.Alias m t) = refl
solid_stripped (desc.Array m n t) = refl
solid_stripped (desc.OpenArray m t) = refl
solid_stripped (desc.Pointer m t) = refl
solid_stripped (desc.ProcType m s) = refl
solid_stripped (desc.Record r) = refl

pub alias_stripped : (d : Desc) → is_alias (strip d) ≡ is_alias d
alias_stripped (desc.Const v) = refl
alias_stripped (desc.Var m t) = refl
alias_stripped (desc.Proc s) = refl
alias_stripped (desc.Alias m t) = refl
alias_stripped (desc.Array m n t) = refl
alias_stripped (desc.OpenArray m t) = refl
alias_stripped (desc.Pointer m t) = refl
alias_stripped (desc.ProcType m s) = refl
alias_stripped (desc.Record r) = refl

pub type_stripped : (d : Desc) → is_type (strip d) ≡ is_type d
type_stripped (desc.Const v) = refl
type_stripped (desc.Var m t) = refl
type_stripped (desc.Proc s) = refl
type_stripped (desc.Alias m t) = refl
type_stripped (desc.Array m n t) = refl
type_stripped (desc.OpenArray m t) = refl
type_stripped (desc.Pointer m t) = refl
type_stripped (desc.ProcType m s) = refl
type_stripped (desc.Record r) = refl

pub stands_stripped : (d : Desc) → stands_on (strip d) ≡ stands_on d
stands_stripped (desc.Const v) = refl
stands_stripped (desc.Var m t) = refl
stands_stripped (desc.Proc s) = refl
stands_stripped (desc.Alias m t) = refl
stands_stripped (desc.Array m n t) = refl
stands_stripped (desc.OpenArray m t) = refl
stands_stripped (desc.Pointer m t) = refl
stands_stripped (desc.ProcType m s) = refl
stands_stripped (desc.Record r) = refl

pub structure_stripped : (d : Desc) → is_structure (strip d) ≡ is_structure d
structure_stripped (desc.Const v) = refl
structure_stripped (desc.Var m t) = refl
structure_stripped (desc.Proc s) = refl
structure_stripped (desc.Alias m t) = refl
structure_stripped (desc.Array m n t) = refl
structure_stripped (desc.OpenArray m t) = refl
structure_stripped (desc.Pointer m t) = refl
structure_stripped (desc.ProcType m s) = refl
structure_stripped (desc.Record r) = refl

pub open_desc_stripped : (d : Desc) → is_open_desc (strip d) ≡ is_open_desc d
open_desc_stripped (desc.Const v) = refl
open_desc_stripped (desc.Var m t) = refl
open_desc_stripped (desc.Proc s) = refl
open_desc_stripped (desc.Alias m t) = refl
open_desc_stripped (desc.Array m n t) = refl
open_desc_stripped (desc.OpenArray m t) = refl
open_desc_stripped (desc.Pointer m t) = refl
open_desc_stripped (desc.ProcType m s) = refl
open_desc_stripped (desc.Record r) = refl

pub record_desc_stripped : (d : Desc) → is_record_desc (strip d) ≡ is_record_desc d
record_desc_stripped (desc.Const v) = refl
record_desc_stripped (desc.Var m t) = refl
record_desc_stripped (desc.Proc s) = refl
record_desc_stripped (desc.Alias m t) = refl
record_desc_stripped (desc.Array m n t) = refl
record_desc_stripped (desc.OpenArray m t) = refl
record_desc_stripped (desc.Pointer m t) = refl
record_desc_stripped (desc.ProcType m s) = refl
record_desc_stripped (desc.Record r) = refl

pub alias_is : (m : Mark) (t : TypeRef) (c : Desc) → strip c ≡ desc.Alias m t → c ≡ desc.Alias m t
alias_is m t (desc.Alias k u) h = h
alias_is m t (desc.Const v) h = absurd cc
alias_is m t (desc.Var k u) h = absurd cc
alias_is m t (desc.Proc s) h = absurd cc
alias_is m t (desc.Array k n u) h = absurd cc
alias_is m t (desc.OpenArray k u) h = absurd cc
alias_is m t (desc.Pointer k u) h = absurd cc
alias_is m t (desc.ProcType k s) h = absurd cc
alias_is m t (desc.Record r) h = absurd cc

record_basic : (b : Basic) (o : Option Desc) → is_some (record_at (ref.Basic b) o) ≡ false
record_basic b None = refl
record_basic b (Some d) = refl

-- ---- two maps that say the same of the types of a set

module _ (P : TypeRef → Type 0) (one two : Map) (steps : (q : QName) → P (ref.Named q) → (t : TypeRef) → target_of (one q) ≡ Some t → P t) (same : (q : QName) → P (ref.Named q) → stripped (one q) ≡ stripped (two q)) where
  targets_of : (q : QName) → P (ref.Named q) → target_of (one q) ≡ target_of (two q)
  targets_of q p = sym (target_stripped (one q)) ∙ ap target_of (same q p) ∙ target_stripped (two q)

  pub target_same : (n : ℕ) (t : TypeRef) → P t → (target one n t ≡ target two n t) × P (target one n t)
  unfolding target
  target_same zero t p = (refl, p)
  target_same (suc n) (ref.Basic b) p = (refl, p)
  target_same (suc n) (ref.Named q) p = by (target_of (one q)) (target_of (two q)) refl (targets_of q p) (λ t k. target_same n t k)
    where
      by : (x y : Option TypeRef) → target_of (one q) ≡ x → x ≡ y → ((t : TypeRef) → P t → (target one n t ≡ target two n t) × P (target one n t)) → (follow x (ref.Named q) (λ u. target one n u) ≡ follow y (ref.Named q) (λ u. target two n u)) × P (follow x (ref.Named q) (λ u. target one n u))
      by None None e f g = (refl, p)
      by None (Some u) e f g = absurd cc
      by (Some t) None e f g = absurd cc
      by (Some t) (Some u) e f g = let h : t ≡ u = cc in let r = g t (steps q p t e) in (r.0 ∙ ap (λ u. target two n u) h, r.1)

  shape_same : (Q : TypeRef → Option Desc → Bool) → ((t : TypeRef) (o : Option Desc) → Q t (stripped o) ≡ Q t o) → (t : TypeRef) → P t → Q (target one 201 t) (shape one t) ≡ Q (target two 201 t) (shape two t)
  shape_same Q f t p =
      let r = target_same 201 t p in
      by (target one 201 t) r.1 ∙ ap (λ u. Q u (shape_at two u)) r.0
    where
      by : (u : TypeRef) → P u → Q u (shape_at one u) ≡ Q u (shape_at two u)
      by (ref.Basic b) k = refl
      by (ref.Named q) k = sym (f (ref.Named q) (one q)) ∙ ap (Q (ref.Named q)) (same q k) ∙ f (ref.Named q) (two q)

  pub open_same : (t : TypeRef) → P t → is_open one t ≡ is_open two t
  open_same t p = shape_same (λ u o. is_some (open_at o)) (λ u o. open_stripped o) t p

  record_any : (u : TypeRef) (o : Option Desc) → is_some (record_at u (stripped o)) ≡ is_some (record_at u o)
  record_any (ref.Basic b) o = record_basic b (stripped o) ∙ sym (record_basic b o)
  record_any (ref.Named q) o = record_stripped q o

  pub record_same : (t : TypeRef) → P t → is_record one t ≡ is_record two t
  record_same t p = shape_same (λ u o. is_some (record_at u o)) record_any t p

  pub structured_same : (t : TypeRef) → P t → is_structured one t ≡ is_structured two t
  structured_same t p = ap (λ b. b || is_record one t) (shape_same (λ u o. is_some (array_at o)) (λ u o. array_stripped o) t p) ∙ ap (λ b. is_array two t || b) (record_same t p)

-- ---- the tests are right where chains of aliases, elements and bases end

open_true : (o : Option Desc) → MatchOption o ⊥ (λ d. IsTrue (is_open_desc d)) → is_some (open_at o) ≡ true
open_true None h = absurd h
open_true (Some (desc.OpenArray m t)) h = refl
open_true (Some (desc.Const v)) h = h
open_true (Some (desc.Var m t)) h = h
open_true (Some (desc.Proc s)) h = h
open_true (Some (desc.Alias m t)) h = h
open_true (Some (desc.Array m n t)) h = h
open_true (Some (desc.Pointer m t)) h = h
open_true (Some (desc.ProcType m s)) h = h
open_true (Some (desc.Record r)) h = h

structure_true : (q : QName) (o : Option Desc) → MatchOption o ⊥ (λ d. IsTrue (is_structure d)) → (is_some (array_at o) || is_some (record_at (ref.Named q) o)) ≡ true
structure_true q None h = absurd h
structure_true q (Some (desc.Array m n t)) h = refl
structure_true q (Some (desc.OpenArray m t)) h = refl
structure_true q (Some (desc.Record r)) h = refl
structure_true q (Some (desc.Const v)) h = h
structure_true q (Some (desc.Var m t)) h = h
structure_true q (Some (desc.Proc s)) h = h
structure_true q (Some (desc.Alias m t)) h = h
structure_true q (Some (desc.Pointer m t)) h = h
structure_true q (Some (desc.ProcType m s)) h = h

true_structure : (q : QName) (o : Option Desc) → (is_some (array_at o) || is_some (record_at (ref.Named q) o)) ≡ true → MatchOption o ⊥ (λ d. IsTrue (is_structure d))
true_structure q None h = absurd (let bad : false ≡ true = h in cc)
true_structure q (Some (desc.Array m n t)) h = refl
true_structure q (Some (desc.OpenArray m t)) h = refl
true_structure q (Some (desc.Record r)) h = refl
true_structure q (Some (desc.Const v)) h = h
true_structure q (Some (desc.Var m t)) h = h
true_structure q (Some (desc.Proc s)) h = h
true_structure q (Some (desc.Alias m t)) h = h
true_structure q (Some (desc.Pointer m t)) h = h
true_structure q (Some (desc.ProcType m s)) h = h

true_record : (q : QName) (o : Option Desc) → is_some (record_at (ref.Named q) o) ≡ true → MatchOption o ⊥ (λ d. IsTrue (is_record_desc d))
true_record q None h = absurd (let bad : false ≡ true = h in cc)
true_record q (Some (desc.Record r)) h = refl
true_record q (Some (desc.Array m n t)) h = h
true_record q (Some (desc.OpenArray m t)) h = h
true_record q (Some (desc.Const v)) h = h
true_record q (Some (desc.Var m t)) h = h
true_record q (Some (desc.Proc s)) h = h
true_record q (Some (desc.Alias m t)) h = h
true_record q (Some (desc.Pointer m t)) h = h
true_record q (Some (desc.ProcType m s)) h = h

not_both : (b : Bool) → b ≡ false → b ≡ true → ⊥
not_both true e f = absurd cc
not_both false e f = absurd cc

module _ (map : Map) (t : TypeRef) (within : IsWithin (without_members map) 201 t) where
  it : StandsFor map t (target map 201 t)
  it = (is_end map 201 201 t (omega arith) within).stands

  pub not_open : is_open map t ≡ false → Is map is_open_desc t → ⊥
  not_open e h = not_both (is_open map t) e (subst (λ u. is_some (open_at (shape_at map u)) ≡ true) (sym (unique map it h.1.0)) (open_true (map h.0) h.1.1))

  pub not_structured : is_structured map t ≡ false → Is map is_structure t → ⊥
  not_structured e h = not_both (is_structured map t) e (subst (λ u. (is_some (array_at (shape_at map u)) || is_some (record_at u (shape_at map u))) ≡ true) (sym (unique map it h.1.0)) (structure_true h.0 (map h.0) h.1.1))

  pub record_is : is_record map t ≡ true → Is map is_record_desc t
  record_is e = by (target map 201 t) it e
    where
      by : (u : TypeRef) → StandsFor map t u → is_some (record_at u (shape_at map u)) ≡ true → Is map is_record_desc t
      by (ref.Basic b) s e = absurd (not_both (is_some (record_at (ref.Basic b) None)) refl e)
      by (ref.Named q) s e = (q, (s, true_record q (map q) e))

  pub structure_is : is_structured map t ≡ true → Is map is_structure t
  structure_is e = by (target map 201 t) it e
    where
      by : (u : TypeRef) → StandsFor map t u → (is_some (array_at (shape_at map u)) || is_some (record_at u (shape_at map u))) ≡ true → Is map is_structure t
      by (ref.Basic b) s e = absurd (let bad : false ≡ true = e in cc)
      by (ref.Named q) s e = (q, (s, true_structure q (map q) e))

-- a type that is neither alias nor open array is no open array
not_alias : (d : Desc) → is_solid d ≡ true → is_alias d ≡ false
not_alias (desc.Alias m t) h = absurd cc
not_alias (desc.Const v) h = refl
not_alias (desc.Var m t) h = refl
not_alias (desc.Proc s) h = refl
not_alias (desc.Array m n t) h = refl
not_alias (desc.OpenArray m t) h = refl
not_alias (desc.Pointer m t) h = refl
not_alias (desc.ProcType m s) h = refl
not_alias (desc.Record r) h = refl

solid_not_open : (d : Desc) → is_solid d ≡ true → IsTrue (is_open_desc d) → ⊥
solid_not_open (desc.OpenArray m t) h k = absurd cc
solid_not_open (desc.Const v) h k = absurd cc
solid_not_open (desc.Var m t) h k = absurd cc
solid_not_open (desc.Proc s) h k = absurd cc
solid_not_open (desc.Alias m t) h k = absurd cc
solid_not_open (desc.Array m n t) h k = let bad : false ≡ true = k in absurd cc
solid_not_open (desc.Pointer m t) h k = let bad : false ≡ true = k in absurd cc
solid_not_open (desc.ProcType m s) h k = let bad : false ≡ true = k in absurd cc
solid_not_open (desc.Record r) h k = let bad : false ≡ true = k in absurd cc

pub solid_closed : (map : Map) (q : QName) (e : Desc) → map q ≡ Some e → is_solid e ≡ true → Is map is_open_desc (ref.Named q) → ⊥
solid_closed map q e is s h =
    let own : IsOwnType map (ref.Named q) = subst (λ o. MatchOption o (Unit {0}) (λ d. is_alias d ≡ false)) (sym is) (not_alias e s) in
    let same : ref.Named q ≡ ref.Named h.0 = unique map (itself own) h.1.0 in
    let k : MatchOption (shape_at map (ref.Named q)) ⊥ (λ d. IsTrue (is_open_desc d)) = subst (λ t. MatchOption (shape_at map t) ⊥ (λ d. IsTrue (is_open_desc d))) (sym same) h.1.1 in
    solid_not_open e s (subst (λ o. MatchOption o ⊥ (λ d. IsTrue (is_open_desc d))) is k)
