-- Declarations with other interfaces around.
use Rattle.std.specs.Prelude.{◌≡◌, ℕ, List, ◌∷◌, Option, Some}
use Rattle.std.specs.List.{AllByRecursion}
use Rattle.ob_tree.specs.declared.names.QName.{QName}
use Rattle.ob_tree.specs.declared.ident.IdentDef.{IdentDef}
use Rattle.ob_tree.specs.declared.expr.Expr.{Expr}
use Rattle.ob_tree.specs.declared.type_node.TypeNode.{TypeNode}
use Rattle.ob_types.specs.declared.desc.Desc.{Desc}
use Rattle.ob_types.specs.declared.typed.TypedType.{TypedType}
use Rattle.ob_rules.specs.declared.notes.Later.{Later}
use Rattle.ob_rules.specs.declared.notes.Later.TheVariants as later
use Rattle.ob_rules.specs.declared.entity.Entity.{Entity}
use Rattle.ob_rules.specs.declared.entity.Entity.TheVariants as entity
use Rattle.ob_rules.specs.declared.entity.Known.{Known}
use Rattle.ob_rules.specs.Names.{Around}
use Rattle.ob_rules.specs.Expressions.{phrase_of}
use Rattle.ob_rules.specs.Types.{Typing, written}
use Rattle.ob_rules.specs.Declarations.{Declared, constant_declared, type_declared, variables_declared}
use Rattle.law_local_judged.specs.Agreement.{IsIn, DescIn}
use Rattle.law_local_judged.specs.Followed.{beside, Agrees}

-- what is near each of these types is among the names
abbrev pub MadeIn : (QName → Type 0) → List TypedType → Type 0
MadeIn P ts = AllByRecursion (λ t. DescIn P (Some t.desc)) ts

-- a type that is written, and what is near the types that it makes
abbrev pub TypingIn : (QName → Type 0) → Typing → Type 0
TypingIn P t = IsIn P t.of × MadeIn P t.made

-- the names of the module at hand are among the names
abbrev pub OwnIn : (QName → Type 0) → List ℕ → Type 0
OwnIn P unit = (x : List ℕ) → P (record { «module» = unit; object = x })

abbrev pub IsSound : Entity → Type 0
IsSound entity.Unsound = ⊥
IsSound e = Unit {0}

-- the type of what is left for later is among the names
abbrev pub LaterIn : (QName → Type 0) → Later → Type 0
LaterIn P (later.PointsTo x at t inline) = IsIn P t
LaterIn P (later.Inherits x t) = IsIn P t

-- no declaration of these names breaks a rule
abbrev pub AreSound : List Known → Type 0
AreSound ks = AllByRecursion (λ k. IsSound k.what) ks

-- a declaration of a constant, of a type, or of variables
pub data IsPlain : (Around → Declared) → Type 0 where
  a_constant : (d : IdentDef) → (x : Expr) → IsPlain (constant_declared d (phrase_of x))
  a_type : (d : IdentDef) → (n : TypeNode) → IsPlain (type_declared d (written n))
  variables : (d : IdentDef) → (ds : List IdentDef) → (n : TypeNode) → IsPlain (variables_declared (d ∷ ds) (written n))

-- A declaration says and adds the same there, and what stands around what follows it agrees again.
pub record DeclaredSame (P : QName → Type 0) (u : Around) (shown : QName → Option Desc) (x y : Declared) : Type 0 where
  pub part : y.part ≡ x.part
  pub around : y.around ≡ beside x.around shown
  pub agrees : Agrees P x.around shown
  pub unit : x.around.unit ≡ u.unit
