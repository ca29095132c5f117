-- The procedures of a checked module, as a text gives them: their names, and the places of their FOR and CASE.
use Rattle.std.specs.Prelude.{◌≡◌, true, List, map, Option, Some}
use Rattle.std.specs.List.{AllByRecursion}
use Rattle.ob_tree.specs.declared.names.QName.{QName}
use Rattle.ob_tree.specs.declared.stmt.Stmt.{Stmt}
use Rattle.ob_tree.specs.declared.decl.Module.{Module as Tree}
use Rattle.ob_types.specs.declared.desc.Desc.{Desc}
use Rattle.ob_types.specs.declared.typed.TypedStmt.{TypedStmt}
use Rattle.ob_types.specs.declared.typed.TypedProcedure.{TypedProcedure}
use Rattle.ob_types.specs.declared.typed.TypedModule.{TypedModule}
use Rattle.ob_types.specs.TypedView.{stmts_view}
use Rattle.ob_meaning.specs.Calls.{hidden_of_all}
use Rattle.ob_rules.specs.Names.{Around}
use Rattle.ob_rules.specs.Statements.{judging, in_turn}
use Rattle.ob_rules.specs.Declarations.{checked}
use Rattle.law_typing.specs.Bodies.{in_all, hidden_places}
use Rattle.law_names_distinct.specs.Procedures.{names_in}
use Rattle.law_spelling_read.specs.Placed.{are_rising, tree_placed}
use Rattle.law_image_code.specs.Fits.{IsNamed}
use Rattle.law_builds_bodies.specs.built_laws.Lettered.{is_lettered, tree_lettered}

-- Statements that are made of a text have the places of its FOR and CASE, in their order.
abbrev pub PlacesAreThose : Type 0
PlacesAreThose = (xs : List Stmt) (u : Around) (ys : List TypedStmt) → (in_turn (map judging xs) u).node ≡ Some ys → hidden_of_all (stmts_view ys) ≡ in_all (map hidden_places xs)

-- the places of FOR and CASE in a body rise
abbrev pub IsPlaced : List TypedStmt → Type 0
IsPlaced ys = are_rising (hidden_of_all (stmts_view ys)) ≡ true

pub record IsGiven (p : TypedProcedure) : Type 0 where
  pub named : IsNamed p.name
  -- its parameters, its receiver and its local variables
  pub names : AllByRecursion (λ x. is_lettered x ≡ true) (names_in p)
  pub placed : IsPlaced p.body

pub record AreGiven (m : TypedModule) : Type 0 where
  pub procedures : AllByRecursion IsGiven m.procedures
  pub body : IsPlaced m.body

-- THE PROCEDURES of a checked module are such.
abbrev pub ProceduresAreGiven : Type 0
ProceduresAreGiven = (shown : QName → Option Desc) (tree : Tree) (m : TypedModule) → checked shown tree ≡ Some m → tree_lettered tree ≡ true → tree_placed tree ≡ true → AreGiven m
