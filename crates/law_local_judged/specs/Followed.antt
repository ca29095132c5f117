-- What stands around a part of a text, with other interfaces, and what is judged there.
use Rattle.std.specs.Prelude.{◌≡◌, true, Option, Some, None}
use Rattle.std.specs.List.{AllByRecursion}
use Rattle.ob_tree.specs.declared.names.QName.{QName}
use Rattle.ob_types.specs.declared.types.TypeRef.{TypeRef}
use Rattle.ob_types.specs.declared.desc.Desc.{Desc}
use Rattle.ob_rules.specs.declared.entity.Entity.{Entity}
use Rattle.ob_rules.specs.declared.entity.Entity.TheVariants as entity
use Rattle.ob_rules.specs.declared.entity.Received.{Received}
use Rattle.ob_rules.specs.Judged.{Judged}
use Rattle.ob_rules.specs.Names.{Around, is_out}
use Rattle.law_local_judged.specs.Agreement.{IsIn, DescIn}
use Rattle.law_local_judged.specs.Said.{SaidIn}

-- the same around, where the imported modules show something else
abbrev pub beside : Around → (QName → Option Desc) → Around
beside u shown = record u { shown = shown }

-- the types of what a name means
abbrev pub EntityIn : (QName → Type 0) → Entity → Type 0
EntityIn P (entity.Variable v t) = IsIn P t
EntityIn P (entity.TypeName t) = IsIn P t
EntityIn P e = Unit {0}

abbrev pub TypeIn : (QName → Type 0) → Option TypeRef → Type 0
TypeIn P None = Unit {0}
TypeIn P (Some t) = IsIn P t

abbrev pub ReceivedIn : (QName → Type 0) → Option Received → Type 0
ReceivedIn P None = Unit {0}
ReceivedIn P (Some r) = P r.owner

-- What is shown there agrees with what is shown here on these names, and what the module at hand knows is among them.
pub record Agrees (P : QName → Type 0) (u : Around) (shown : QName → Option Desc) : Type 0 where
  pub same : (q : QName) → P q → shown q ≡ u.shown q
  pub near : (q : QName) → P q → DescIn P (u.shown q)
  -- no module is named Out
  pub out : (q : QName) → is_out q.«module» ≡ true → shown q ≡ u.shown q
  pub own : AllByRecursion (λ t. DescIn P (Some t.desc)) u.own
  pub known : AllByRecursion (λ k. EntityIn P k.what) u.known
  pub guards : AllByRecursion (λ g. TypeIn P g.1) u.guards
  pub receiver : ReceivedIn P u.receiver
  pub result : TypeIn P u.result

-- A JUDGEMENT FOLLOWS another one: where that has a node and what its notes mention is among the names that count, the node is tied
-- (T), and where what the node mentions (M) is among them too, so is R, and this judgement is the same.
pub record Follows {A : Type 0} (P : QName → Type 0) (T M : A → Type 0) (R : Type 0) (a b : Judged A) : Type 0 where
  pub keeps : (x : A) → a.node ≡ Some x → SaidIn P a.notes → T x
  pub same : (x : A) → a.node ≡ Some x → SaidIn P a.notes → M x → R × (b ≡ a)
