-- Types in their order: those that are made are in front of those that they are over.
use Rattle.std.proofs.Common.{ℕ, List, [], ◌∷◌, ◌++◌, Option}
use Rattle.std.specs.List.{AllByRecursion}
use Rattle.ob_tree.specs.declared.names.QName.{QName}
use Rattle.ob_types.specs.declared.types.TypeRef.{TypeRef}
use Rattle.ob_types.specs.declared.value.Value.{Value}
use Rattle.ob_types.specs.declared.desc.Desc.{Desc}
use Rattle.ob_types.specs.declared.desc.Desc.TheVariants as desc
use Rattle.ob_types.specs.declared.typed.TypedType.{TypedType}
use Rattle.ob_rules.specs.Names.{Around}
use Rattle.law_body_context.specs.Knows.{Grows, Stands, Knows}
use Rattle.law_body_context.specs.Order.{IsFresh, IsBased, IsOver, AreInOrder}
use Rattle.law_body_context.proofs.Lists.{all_of, there_of}
use Rattle.law_body_context.proofs.Standing.{grows_front, stands_grown}

-- what stands around is over its own types
pub over_same : (IsConstant : Value → Type 0) (unit : List ℕ) (shown : QName → Option Desc) (u : Around) → Knows IsConstant unit shown u → Knows IsConstant unit shown (record u { own = u.own })
over_same IsConstant unit shown u k = record { unit_is = k.unit_is; shown_is = k.shown_is; own = k.own; known = k.known }

-- no procedure is bound to any of them
abbrev pub AreFresh : List TypedType → Type 0
AreFresh ts = AllByRecursion (λ t. IsFresh t.desc) ts

module _ (unit : List ℕ) (shown : QName → Option Desc) where
  abbrev S : List TypedType → TypeRef → Type 0
  S own t = Stands unit shown own t

  abbrev O : List TypedType → List TypedType → Type 0
  O own ts = AllByRecursion (IsOver (S own)) ts

  based_grown : (own more : List TypedType) → Grows own more → (d : Desc) → IsBased (S own) d → IsBased (S more) d
  based_grown own more g (desc.Alias m t) h = stands_grown unit shown own more g t h
  based_grown own more g (desc.Record r) h = there_of (S own) (S more) r.base (λ t. stands_grown unit shown own more g t) h
  based_grown own more g (desc.Const v) h = tt
  based_grown own more g (desc.Var m t) h = tt
  based_grown own more g (desc.Proc s) h = tt
  based_grown own more g (desc.Array m n t) h = tt
  based_grown own more g (desc.OpenArray m t) h = tt
  based_grown own more g (desc.Pointer m t) h = tt
  based_grown own more g (desc.ProcType m s) h = tt

  over_grown : (own more : List TypedType) → Grows own more → (t : TypedType) → IsOver (S own) t → IsOver (S more) t
  over_grown own more g t h = record { based = based_grown own more g t.desc h.based; fresh = h.fresh }

  pub made_in_order : (own made : List TypedType) → O own made → AreInOrder unit shown own → AreInOrder unit shown (made ++ own)
  made_in_order own [] h k = k
  made_in_order own (t ∷ ts) h k = (over_grown own (ts ++ own) (grows_front ts own) t h.0, made_in_order own ts h.1 k)

  pub over_all : (own more : List TypedType) → Grows own more → (ts : List TypedType) → O own ts → O more ts
  over_all own more g ts h = all_of (IsOver (S own)) (IsOver (S more)) ts (λ t i. over_grown own more g t i) h

  pub over_fresh : (own ts : List TypedType) → O own ts → AreFresh ts
  over_fresh own ts h = all_of (IsOver (S own)) (λ t. IsFresh t.desc) ts (λ t i. i.fresh) h
