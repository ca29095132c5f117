-- What a description leads to is among the names where the description is near them.
use Rattle.std.proofs.Common.{◌≡◌, ap, subst, ℕ, List, [], ◌∷◌, ◌++◌, Option, Some, None}
use Rattle.ob_tree.specs.declared.names.QName.{QName}
use Rattle.ob_types.specs.declared.types.TypeRef.{TypeRef}
use Rattle.ob_types.specs.declared.types.Signature.{Signature}
use Rattle.ob_types.specs.declared.desc.Desc.{Desc}
use Rattle.ob_types.specs.declared.desc.Desc.TheVariants as desc
use Rattle.ob_types.specs.Maps.{listed}
use Rattle.ob_types.specs.Tests.{target_of, base_of, pointer_of, element_of, signature_of}
use Rattle.ob_rules.specs.Shapes.{array_at, open_at, base_type}
use Rattle.law_local_judged.specs.Agreement.{IsIn, AreIn, DescIn}
use Rattle.law_local_judged.specs.Said.{SignatureIn}
use Rattle.law_lists.proofs.Lists.{none_some, some_same}

-- ---- parts of lists

pub left_in : (P : QName → Type 0) (ts us : List TypeRef) → AreIn P (ts ++ us) → AreIn P ts
left_in P [] us h = tt
left_in P (t ∷ ts) us h = (h.0, left_in P ts us h.1)

pub right_in : (P : QName → Type 0) (ts us : List TypeRef) → AreIn P (ts ++ us) → AreIn P us
right_in P [] us h = h
right_in P (t ∷ ts) us h = right_in P ts us h.1

-- ---- what a description leads to

module _ (P : QName → Type 0) where
  pub alias_in : (o : Option Desc) (u : TypeRef) → DescIn P o → target_of o ≡ Some u → IsIn P u
  alias_in (Some (desc.Alias m t)) u h e = subst (IsIn P) (some_same e) h.0
  alias_in None u h e = none_some e
  alias_in (Some (desc.Const c)) u h e = none_some e
  alias_in (Some (desc.Var k t)) u h e = none_some e
  alias_in (Some (desc.Proc s)) u h e = none_some e
  alias_in (Some (desc.Array k n t)) u h e = none_some e
  alias_in (Some (desc.OpenArray k t)) u h e = none_some e
  alias_in (Some (desc.Pointer k t)) u h e = none_some e
  alias_in (Some (desc.ProcType k s)) u h e = none_some e
  alias_in (Some (desc.Record r)) u h e = none_some e

  pub base_in : (o : Option Desc) (u : TypeRef) → DescIn P o → base_of o ≡ Some u → IsIn P u
  base_in (Some (desc.Record r)) u h e = (subst (AreIn P) (ap listed e) h).0
  base_in None u h e = none_some e
  base_in (Some (desc.Alias m t)) u h e = none_some e
  base_in (Some (desc.Const c)) u h e = none_some e
  base_in (Some (desc.Var k t)) u h e = none_some e
  base_in (Some (desc.Proc s)) u h e = none_some e
  base_in (Some (desc.Array k n t)) u h e = none_some e
  base_in (Some (desc.OpenArray k t)) u h e = none_some e
  base_in (Some (desc.Pointer k t)) u h e = none_some e
  base_in (Some (desc.ProcType k s)) u h e = none_some e

  pub record_base_in : (o : Option Desc) (u : TypeRef) → DescIn P o → base_type o ≡ Some u → IsIn P u
  record_base_in (Some (desc.Record r)) u h e = (subst (AreIn P) (ap listed e) h).0
  record_base_in None u h e = none_some e
  record_base_in (Some (desc.Alias m t)) u h e = none_some e
  record_base_in (Some (desc.Const c)) u h e = none_some e
  record_base_in (Some (desc.Var k t)) u h e = none_some e
  record_base_in (Some (desc.Proc s)) u h e = none_some e
  record_base_in (Some (desc.Array k n t)) u h e = none_some e
  record_base_in (Some (desc.OpenArray k t)) u h e = none_some e
  record_base_in (Some (desc.Pointer k t)) u h e = none_some e
  record_base_in (Some (desc.ProcType k s)) u h e = none_some e

  pub pointer_in : (o : Option Desc) (u : TypeRef) → DescIn P o → pointer_of o ≡ Some u → IsIn P u
  pointer_in (Some (desc.Pointer m t)) u h e = subst (IsIn P) (some_same e) h.0
  pointer_in None u h e = none_some e
  pointer_in (Some (desc.Alias m t)) u h e = none_some e
  pointer_in (Some (desc.Const c)) u h e = none_some e
  pointer_in (Some (desc.Var k t)) u h e = none_some e
  pointer_in (Some (desc.Proc s)) u h e = none_some e
  pointer_in (Some (desc.Array k n t)) u h e = none_some e
  pointer_in (Some (desc.OpenArray k t)) u h e = none_some e
  pointer_in (Some (desc.ProcType k s)) u h e = none_some e
  pointer_in (Some (desc.Record r)) u h e = none_some e

  pub element_in : (o : Option Desc) (u : TypeRef) → DescIn P o → element_of o ≡ Some u → IsIn P u
  element_in (Some (desc.OpenArray m t)) u h e = subst (IsIn P) (some_same e) h.0
  element_in None u h e = none_some e
  element_in (Some (desc.Alias m t)) u h e = none_some e
  element_in (Some (desc.Const c)) u h e = none_some e
  element_in (Some (desc.Var k t)) u h e = none_some e
  element_in (Some (desc.Proc s)) u h e = none_some e
  element_in (Some (desc.Array k n t)) u h e = none_some e
  element_in (Some (desc.Pointer k t)) u h e = none_some e
  element_in (Some (desc.ProcType k s)) u h e = none_some e
  element_in (Some (desc.Record r)) u h e = none_some e

  pub array_in : (o : Option Desc) (a : Option ℕ × TypeRef) → DescIn P o → array_at o ≡ Some a → IsIn P a.1
  array_in (Some (desc.OpenArray m t)) a h e = subst (λ (a : Option ℕ × TypeRef). IsIn P a.1) (some_same e) h.0
  array_in (Some (desc.Array m n t)) a h e = subst (λ (a : Option ℕ × TypeRef). IsIn P a.1) (some_same e) h.0
  array_in None u h e = none_some e
  array_in (Some (desc.Alias m t)) u h e = none_some e
  array_in (Some (desc.Const c)) u h e = none_some e
  array_in (Some (desc.Var k t)) u h e = none_some e
  array_in (Some (desc.Proc s)) u h e = none_some e
  array_in (Some (desc.Pointer k t)) u h e = none_some e
  array_in (Some (desc.ProcType k s)) u h e = none_some e
  array_in (Some (desc.Record r)) u h e = none_some e

  pub open_in : (o : Option Desc) (u : TypeRef) → DescIn P o → open_at o ≡ Some u → IsIn P u
  open_in (Some (desc.OpenArray m t)) u h e = subst (IsIn P) (some_same e) h.0
  open_in None u h e = none_some e
  open_in (Some (desc.Alias m t)) u h e = none_some e
  open_in (Some (desc.Const c)) u h e = none_some e
  open_in (Some (desc.Var k t)) u h e = none_some e
  open_in (Some (desc.Proc s)) u h e = none_some e
  open_in (Some (desc.Array k n t)) u h e = none_some e
  open_in (Some (desc.Pointer k t)) u h e = none_some e
  open_in (Some (desc.ProcType k s)) u h e = none_some e
  open_in (Some (desc.Record r)) u h e = none_some e

  pub signature_in : (o : Option Desc) (s : Signature) → DescIn P o → signature_of o ≡ Some s → SignatureIn P s
  signature_in (Some (desc.ProcType m t)) s h e = subst (SignatureIn P) (some_same e) h
  signature_in None u h e = none_some e
  signature_in (Some (desc.Alias m t)) u h e = none_some e
  signature_in (Some (desc.Const c)) u h e = none_some e
  signature_in (Some (desc.Var k t)) u h e = none_some e
  signature_in (Some (desc.Proc s)) u h e = none_some e
  signature_in (Some (desc.Array k n t)) u h e = none_some e
  signature_in (Some (desc.OpenArray k t)) u h e = none_some e
  signature_in (Some (desc.Pointer k t)) u h e = none_some e
  signature_in (Some (desc.Record r)) u h e = none_some e
