-- Where nothing around a part of a text is broken.
use Rattle.std.specs.Prelude.{◌≡◌, ℕ, true, false, List, [], map, Some, is_some, bytes_eq}
use Rattle.std.specs.List.{AllByRecursion}
use Rattle.ob_tree.specs.declared.stmt.Stmt.{Stmt}
use Rattle.ob_types.specs.declared.types.TypeRef.{TypeRef}
use Rattle.ob_types.specs.declared.typed.Variable.{Variable}
use Rattle.ob_types.specs.declared.typed.Variable.TheVariants as variable
use Rattle.ob_rules.specs.declared.entity.Entity.{Entity}
use Rattle.ob_rules.specs.declared.entity.Entity.TheVariants as entity
use Rattle.ob_rules.specs.declared.entity.Known.{Known}
use Rattle.ob_rules.specs.Shapes.{pointed, is_held}
use Rattle.ob_rules.specs.Names.{Around, map_of}
use Rattle.ob_rules.specs.Statements.{judging, in_turn}
use Rattle.law_local_judged.specs.Declared.{AreSound}

-- the name of a variable
abbrev pub name_of : Variable → List ℕ
name_of (variable.Module m x) = x
name_of (variable.Local x) = x
name_of (variable.Parameter how x) = x

-- a variable of a module is one of the module of that name
abbrev pub IsOfUnit : List ℕ → Variable → Type 0
IsOfUnit unit (variable.Module m x) = m ≡ unit
IsOfUnit unit v = Unit {0}

-- a variable is known under its own name, and no imported module has the name of the module at hand
abbrev pub IsNamed : List ℕ → List ℕ → Entity → Type 0
IsNamed unit x (entity.Variable v t) = (name_of v ≡ x) × IsOfUnit unit v
IsNamed unit x (entity.Module m) = bytes_eq m unit ≡ false
IsNamed unit x e = Unit {0}

abbrev pub AreNamed : List ℕ → List Known → Type 0
AreNamed unit ks = AllByRecursion (λ k. IsNamed unit k.name k.what) ks

-- NOTHING AROUND IS BROKEN: no declaration that is known is, what pointers point to is there, each bound procedure has its
-- parameters, and none is still to come.
pub record IsQuiet (u : Around) : Type 0 where
  pub known : AreSound u.known
  pub named : AreNamed u.unit u.known
  pub held : (t b : TypeRef) → pointed (map_of u) t ≡ Some b → is_held (map_of u) b ≡ true
  pub bound : AllByRecursion (λ b. is_some b.signature ≡ true) u.bound
  pub coming : u.coming ≡ []

-- STATEMENTS that break no rule, where nothing around is broken and no guard stands around, have a node.
abbrev pub StatementsAreThere : Type 0
StatementsAreThere = (u : Around) → IsQuiet u → u.guards ≡ [] → (xs : List Stmt) → (in_turn (map judging xs) u).notes.broken ≡ [] → is_some (in_turn (map judging xs) u).node ≡ true
