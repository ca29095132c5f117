-- The laws: the members that checked statements name are there; so it is of checked modules and of valid builds.
use Rattle.std.specs.Prelude.{◌≡◌, ℕ, List, map as each, Some}
use Rattle.ob_tree.specs.declared.names.QName.{QName}
use Rattle.ob_tree.specs.declared.stmt.Stmt.{Stmt}
use Rattle.ob_types.specs.declared.desc.Field.{Field}
use Rattle.ob_types.specs.declared.desc.Method.{Method}
use Rattle.ob_types.specs.declared.typed.TypedStmt.{TypedStmt}
use Rattle.ob_types.specs.TypedView.{stmts_view}
use Rattle.ob_rules.specs.Shapes.{Map, AField, AMethod, member}
use Rattle.ob_rules.specs.Names.{Around, map_of}
use Rattle.ob_rules.specs.Statements.{judging, in_turn}
use Rattle.ob_layout.specs.LaidOut.{viewed}
use Rattle.ob_env.specs.Faces.{described}
use Rattle.ob_compile_model.specs.Compiling.{Compiled}
use Rattle.ob_builds.specs.Builds.{Text, Build, IsValid}
use Rattle.law_builds_seen.specs.Seen.{HasMethod, FieldSeen, StmtsSeen, ModuleSeen}

-- A map keeps the members of another one: each field and each bound procedure that is found there for a record is here one of the record that
-- declares it.
pub record KeepsMembers (map other : Map) : Type 0 where
  pub fields : (q o : QName) (x : List ℕ) (f : Field) → member other q x ≡ Some (AField o f) → FieldSeen map o f.name
  pub methods : (q o : QName) (x : List ℕ) (m : Method) → member other q x ≡ Some (AMethod o m) → HasMethod (map o) m.name

-- Statements that keep the rules name members that are there, in each map that keeps the members of the one that they are judged by.
abbrev pub StatementsAreSeen : Type 0
StatementsAreSeen = (map : Map) (u : Around) → KeepsMembers map (map_of u) → (xs : List Stmt) (ys : List TypedStmt) → (in_turn (each judging xs) u).node ≡ Some ys → StmtsSeen map (stmts_view ys)

-- SO DO VALID BUILDS: what their bodies name of members, and what their bound procedures are bound to, is there in the view of the module from
-- its interfaces.
abbrev pub ModulesSee : Type 0
ModulesSee = (b : Build) (c : Compiled Text) → IsValid b c → ModuleSeen (viewed (described c.against) c.tree) c.tree
