-- What a test of a description finds.
use Rattle.std.proofs.Common.{◌≡◌, ℕ, Option, Some, None, refl, ap, ◌∙◌}
use Rattle.ob_tree.specs.declared.names.QName.{QName}
use Rattle.ob_tree.specs.declared.ident.Mark.{Mark}
use Rattle.ob_types.specs.declared.types.Basic.{Basic}
use Rattle.ob_types.specs.declared.types.TypeRef.{TypeRef}
use Rattle.ob_types.specs.declared.types.TypeRef.TheVariants as ref
use Rattle.ob_types.specs.declared.types.Signature.{Signature}
use Rattle.ob_types.specs.declared.desc.Desc.{Desc}
use Rattle.ob_types.specs.declared.desc.Desc.TheVariants as desc
use Rattle.ob_types.specs.declared.desc.RecordDesc.{RecordDesc}
use Rattle.ob_types.specs.Tests.{target_of, base_of, pointer_of, element_of, signature_of}
use Rattle.ob_rules.specs.Shapes.{record_at, array_at, open_at, as_basic}
use Rattle.law_lists.proofs.Lists.{some_is}

pub is_alias : (o : Option Desc) (u : TypeRef) → target_of o ≡ Some u → (m : Mark) × (o ≡ Some (desc.Alias m u))
is_alias None u e = absurd cc
is_alias (Some (desc.Const v)) u e = absurd cc
is_alias (Some (desc.Var m t)) u e = absurd cc
is_alias (Some (desc.Proc s)) u e = absurd cc
is_alias (Some (desc.Alias m t)) u e = (m, ap (λ x. Some (desc.Alias m x)) (some_is t u e))
is_alias (Some (desc.Array m n t)) u e = absurd cc
is_alias (Some (desc.OpenArray m t)) u e = absurd cc
is_alias (Some (desc.Pointer m t)) u e = absurd cc
is_alias (Some (desc.ProcType m s)) u e = absurd cc
is_alias (Some (desc.Record r)) u e = absurd cc

pub is_pointer : (o : Option Desc) (u : TypeRef) → pointer_of o ≡ Some u → (m : Mark) × (o ≡ Some (desc.Pointer m u))
is_pointer None u e = absurd cc
is_pointer (Some (desc.Const v)) u e = absurd cc
is_pointer (Some (desc.Var m t)) u e = absurd cc
is_pointer (Some (desc.Proc s)) u e = absurd cc
is_pointer (Some (desc.Alias m t)) u e = absurd cc
is_pointer (Some (desc.Array m n t)) u e = absurd cc
is_pointer (Some (desc.OpenArray m t)) u e = absurd cc
is_pointer (Some (desc.Pointer m t)) u e = (m, ap (λ x. Some (desc.Pointer m x)) (some_is t u e))
is_pointer (Some (desc.ProcType m s)) u e = absurd cc
is_pointer (Some (desc.Record r)) u e = absurd cc

pub is_open : (o : Option Desc) (u : TypeRef) → open_at o ≡ Some u → (m : Mark) × (o ≡ Some (desc.OpenArray m u))
is_open None u e = absurd cc
is_open (Some (desc.Const v)) u e = absurd cc
is_open (Some (desc.Var m t)) u e = absurd cc
is_open (Some (desc.Proc s)) u e = absurd cc
is_open (Some (desc.Alias m t)) u e = absurd cc
is_open (Some (desc.Array m n t)) u e = absurd cc
is_open (Some (desc.OpenArray m t)) u e = (m, ap (λ x. Some (desc.OpenArray m x)) (some_is t u e))
is_open (Some (desc.Pointer m t)) u e = absurd cc
is_open (Some (desc.ProcType m s)) u e = absurd cc
is_open (Some (desc.Record r)) u e = absurd cc

pub has_elements : (o : Option Desc) (u : TypeRef) → element_of o ≡ Some u → (m : Mark) × (o ≡ Some (desc.OpenArray m u))
has_elements None u e = absurd cc
has_elements (Some (desc.Const v)) u e = absurd cc
has_elements (Some (desc.Var m t)) u e = absurd cc
has_elements (Some (desc.Proc s)) u e = absurd cc
has_elements (Some (desc.Alias m t)) u e = absurd cc
has_elements (Some (desc.Array m n t)) u e = absurd cc
has_elements (Some (desc.OpenArray m t)) u e = (m, ap (λ x. Some (desc.OpenArray m x)) (some_is t u e))
has_elements (Some (desc.Pointer m t)) u e = absurd cc
has_elements (Some (desc.ProcType m s)) u e = absurd cc
has_elements (Some (desc.Record r)) u e = absurd cc

pub is_procedure : (o : Option Desc) (u : Signature) → signature_of o ≡ Some u → (m : Mark) × (o ≡ Some (desc.ProcType m u))
is_procedure None u e = absurd cc
is_procedure (Some (desc.Const v)) u e = absurd cc
is_procedure (Some (desc.Var m t)) u e = absurd cc
is_procedure (Some (desc.Proc s)) u e = absurd cc
is_procedure (Some (desc.Alias m t)) u e = absurd cc
is_procedure (Some (desc.Array m n t)) u e = absurd cc
is_procedure (Some (desc.OpenArray m t)) u e = absurd cc
is_procedure (Some (desc.Pointer m t)) u e = absurd cc
is_procedure (Some (desc.ProcType m s)) u e = (m, ap (λ x. Some (desc.ProcType m x)) (some_is s u e))
is_procedure (Some (desc.Record r)) u e = absurd cc

pub has_base : (o : Option Desc) (u : TypeRef) → base_of o ≡ Some u → (r : RecordDesc) × (o ≡ Some (desc.Record r)) × (r.base ≡ Some u)
has_base None u e = absurd cc
has_base (Some (desc.Const v)) u e = absurd cc
has_base (Some (desc.Var m t)) u e = absurd cc
has_base (Some (desc.Proc s)) u e = absurd cc
has_base (Some (desc.Alias m t)) u e = absurd cc
has_base (Some (desc.Array m n t)) u e = absurd cc
has_base (Some (desc.OpenArray m t)) u e = absurd cc
has_base (Some (desc.Pointer m t)) u e = absurd cc
has_base (Some (desc.ProcType m s)) u e = absurd cc
has_base (Some (desc.Record r)) u e = (r, refl, e)

pub is_array : (o : Option Desc) (k : ℕ) (u : TypeRef) → array_at o ≡ Some (Some k, u) → (m : Mark) × (o ≡ Some (desc.Array m k u))
is_array None k u e = absurd cc
is_array (Some (desc.Const v)) k u e = absurd cc
is_array (Some (desc.Var m t)) k u e = absurd cc
is_array (Some (desc.Proc s)) k u e = absurd cc
is_array (Some (desc.Alias m t)) k u e = absurd cc
is_array (Some (desc.Array m n t)) k u e =
    let p : (Some n, t) ≡ (Some k, u) = some_is (Some n, t) (Some k, u) e in
    let h : n ≡ k = some_is n k (ap (λ (x : Option ℕ × TypeRef). x.0) p) in
    let g : t ≡ u = ap (λ (x : Option ℕ × TypeRef). x.1) p in
    (m, ap (λ x. Some (desc.Array m x t)) h ∙ ap (λ x. Some (desc.Array m k x)) g)
is_array (Some (desc.OpenArray m t)) k u e =
    let p : None ≡ Some k = ap (λ (x : Option ℕ × TypeRef). x.0) (some_is (None, t) (Some k, u) e) in
    absurd cc
is_array (Some (desc.Pointer m t)) k u e = absurd cc
is_array (Some (desc.ProcType m s)) k u e = absurd cc
is_array (Some (desc.Record r)) k u e = absurd cc

pub is_open_array : (o : Option Desc) (u : TypeRef) → array_at o ≡ Some (None, u) → (m : Mark) × (o ≡ Some (desc.OpenArray m u))
is_open_array None u e = absurd cc
is_open_array (Some (desc.Const v)) u e = absurd cc
is_open_array (Some (desc.Var m t)) u e = absurd cc
is_open_array (Some (desc.Proc s)) u e = absurd cc
is_open_array (Some (desc.Alias m t)) u e = absurd cc
is_open_array (Some (desc.Array m n t)) u e =
    let p : Some n ≡ None = ap (λ (x : Option ℕ × TypeRef). x.0) (some_is (Some n, t) (None, u) e) in
    absurd cc
is_open_array (Some (desc.OpenArray m t)) u e =
    let g : t ≡ u = ap (λ (x : Option ℕ × TypeRef). x.1) (some_is (None, t) (None, u) e) in
    (m, ap (λ x. Some (desc.OpenArray m x)) g)
is_open_array (Some (desc.Pointer m t)) u e = absurd cc
is_open_array (Some (desc.ProcType m s)) u e = absurd cc
is_open_array (Some (desc.Record r)) u e = absurd cc

pub is_record : (t : TypeRef) (o : Option Desc) (q : QName) → record_at t o ≡ Some q → (t ≡ ref.Named q) × ((r : RecordDesc) × (o ≡ Some (desc.Record r)))
is_record (ref.Basic b) o q e = absurd cc
is_record (ref.Named p) None q e = absurd cc
is_record (ref.Named p) (Some (desc.Const v)) q e = absurd cc
is_record (ref.Named p) (Some (desc.Var m t)) q e = absurd cc
is_record (ref.Named p) (Some (desc.Proc s)) q e = absurd cc
is_record (ref.Named p) (Some (desc.Alias m t)) q e = absurd cc
is_record (ref.Named p) (Some (desc.Array m n t)) q e = absurd cc
is_record (ref.Named p) (Some (desc.OpenArray m t)) q e = absurd cc
is_record (ref.Named p) (Some (desc.Pointer m t)) q e = absurd cc
is_record (ref.Named p) (Some (desc.ProcType m s)) q e = absurd cc
is_record (ref.Named p) (Some (desc.Record r)) q e = (ap (λ x. ref.Named x) (some_is p q e), (r, refl))

pub is_basic : (t : TypeRef) (b : Basic) → as_basic t ≡ Some b → t ≡ ref.Basic b
is_basic (ref.Basic a) b e = ap (λ x. ref.Basic x) (some_is a b e)
is_basic (ref.Named q) b e = absurd cc
