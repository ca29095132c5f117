-- What trees hold.
use Rattle.std.specs.Prelude.{ℤ, List, [], ◌∷◌, ◌++◌, Option, Some, None}
use Rattle.std.specs.Option.{option_map}
use Rattle.ob_tree.specs.declared.pos.Pos.{Pos}
use Rattle.ob_types.specs.declared.types.TypeRef.{TypeRef}
use Rattle.ob_rules.specs.declared.values.Place.{Place}
use Rattle.ob_rules.specs.Judged.{if_sound, paired}
use Rattle.ob_rules.specs.Shapes.{Map}
use Rattle.ob_rules.specs.Statements.{one, for_made}
use Rattle.ob_cstmt_parts.specs.declared.guards.Test.{Test}
use Rattle.ob_types.specs.declared.typed.Label.{Label}
use Rattle.ob_types.specs.declared.typed.TypedExpr.{TypedExpr}
use Rattle.ob_types.specs.declared.typed.TypedStmt.{TypedStmt}
use Rattle.ob_types.specs.declared.typed.TypedBranch.{TypedBranch, roll-TypedBranch}
use Rattle.ob_types.specs.declared.typed.TypedCase.{TypedCase, roll-TypedCase}
use Rattle.ob_types_trees.specs.declared.expr.ExprTree.{ExprTree}
use Rattle.ob_types_trees.specs.declared.stmt.StmtTree.{StmtTree}
use Rattle.ob_types_trees.specs.declared.stmt.StmtTrees.{StmtTrees}
use Rattle.ob_types_trees.specs.declared.stmt.BranchTrees.{BranchTrees}
use Rattle.ob_types_trees.specs.declared.stmt.CaseTrees.{CaseTrees}

abbrev pub expr_in : Option ExprTree → Option TypedExpr
expr_in o = option_map (λ t. t.inner) o

-- a statement alone
abbrev pub stmt_in : Option StmtTree → Option (List TypedStmt)
stmt_in o = option_map (λ t. t.inner ∷ []) o

abbrev pub stmts_in : Option StmtTrees → Option (List TypedStmt)
stmts_in o = option_map (λ t. t.inner) o

abbrev pub branches_in : Option BranchTrees → Option (List TypedBranch)
branches_in o = option_map (λ t. t.inner) o

abbrev pub cases_in : Option CaseTrees → Option (List TypedCase)
cases_in o = option_map (λ t. t.inner) o

-- what a row comes to, of what stands before and of the rest
abbrev pub rejoined : {A : Type 0} → Option (List A) → Option (List A) → Option (List A)
rejoined None b = None
rejoined (Some xs) None = None
rejoined (Some xs) (Some ys) = Some (xs ++ ys)

-- a test with its type
abbrev pub test_in : Option Test → Option (TypedExpr × TypeRef)
test_in o = option_map (λ t. (t.tree.inner, t.of)) o

-- one part as a row
abbrev pub singly : {A : Type 0} → Option A → Option (List A)
singly None = None
singly (Some x) = Some (x ∷ [])

abbrev pub branch_of : Option TypedExpr → Option (List TypedStmt) → Option TypedBranch
branch_of None b = None
branch_of (Some t) None = None
branch_of (Some t) (Some b) = Some (roll-TypedBranch (record { test = t; body = b }))

abbrev pub case_of : Option (List Label) → Option (List TypedStmt) → Option TypedCase
case_of None b = None
case_of (Some ls) None = None
case_of (Some ls) (Some b) = Some (roll-TypedCase (record { labels = ls; body = b }))

-- what stands behind ELSE, if it does
abbrev pub else_in : Option (Option StmtTrees) → Option (Option (List TypedStmt))
else_in o = option_map stmts_in o

-- FOR of its parts, over a variable
abbrev pub for_node : Map → Pos → Place → Option TypedExpr → Option TypedExpr → Option ℤ → Option (List TypedStmt) → Option (List TypedStmt)
for_node map at p a b step body = (if_sound (paired (paired a b) (paired step body)) (λ q. one (for_made map at p q.0 q.1.0 q.1.1))).node

abbrev pub for_parts_node : Map → Pos → Option Place → Option TypedExpr → Option TypedExpr → Option ℤ → Option (List TypedStmt) → Option (List TypedStmt)
for_parts_node map at None a b step body = None
for_parts_node map at (Some p) a b step body = for_node map at p a b step body
