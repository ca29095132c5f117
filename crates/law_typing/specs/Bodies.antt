-- Statements that keep the rules, and what is asked of their texts and of the variables that FOR and CASE keep.
use Rattle.std.specs.Prelude.{ℕ, List, [], ◌∷◌, ◌++◌, Option, Some, None, Bool, true, ◌&&◌}
use Rattle.std.specs.List.{AllByRecursion}
use Rattle.ob_tree.specs.declared.pos.Pos.{Pos}
use Rattle.ob_tree.specs.declared.names.QName.{QName}
use Rattle.ob_tree.specs.declared.expr.Expr.{Expr}
use Rattle.ob_tree.specs.declared.stmt.Stmt.{Stmt}
use Rattle.ob_tree.specs.declared.stmt.Branch.{Branch}
use Rattle.ob_tree.specs.declared.stmt.Case.{Case}
use Rattle.ob_tree.specs.declared.stmt.GuardedBranch.{GuardedBranch}
use Rattle.ob_tree.specs.declared.stmt.Stmt.TheOpen.{Stmt-F, Branch-F, Case-F, GuardedBranch-F}
use Rattle.ob_tree.specs.declared.stmt.Stmt.TheFolds.{fold-Stmt, fold-Branch, fold-Case, fold-GuardedBranch}
use Rattle.ob_types.specs.declared.types.TypeRef.{TypeRef}
use Rattle.ob_types.specs.declared.typed.TypedStmt.{TypedStmt}
use Rattle.ob_types.specs.TypedView.{stmt_view}
use Rattle.ob_meaning.specs.Values.{Program, Formals, Held}
use Rattle.law_simulation_relation.specs.Typed as typed
use Rattle.ob_rules.specs.Names.{Around}
use Rattle.ob_rules.specs.Statements.{Judging, Conditional}
use Rattle.law_typing.specs.Makes.{Makes}
use Rattle.law_typing.specs.Known.{IsScoped}
use Rattle.law_typing.specs.Meant.{PhraseIs}
use Rattle.law_typing.specs.Spelled.{all_true, is_spelled, designator_spelled}

-- STRINGS

abbrev pub all_if : Option (List Bool) → Bool
all_if None = true
all_if (Some bs) = all_true bs

abbrev pub spelled_if : Option Expr → Bool
spelled_if None = true
spelled_if (Some x) = is_spelled x

abbrev pub stmt_layer : Stmt-F Bool Bool Bool Bool → Bool
stmt_layer Stmt-F.Empty = true
stmt_layer (Stmt-F.Call d) = designator_spelled d
stmt_layer (Stmt-F.Assign d at x) = designator_spelled d && is_spelled x
stmt_layer (Stmt-F.If at bs otherwise) = all_true bs && all_if otherwise
stmt_layer (Stmt-F.Case at x cs otherwise) = is_spelled x && (all_true cs && all_if otherwise)
stmt_layer (Stmt-F.While at x body) = is_spelled x && all_true body
stmt_layer (Stmt-F.Repeat at body x) = is_spelled x && all_true body
stmt_layer (Stmt-F.For at x a b step body) = is_spelled a && (is_spelled b && (spelled_if step && all_true body))
stmt_layer (Stmt-F.Loop at body) = all_true body
stmt_layer (Stmt-F.Exit at) = true
stmt_layer (Stmt-F.Return at x) = spelled_if x
stmt_layer (Stmt-F.With at bs otherwise) = all_true bs && all_if otherwise

abbrev pub branch_layer : Branch-F Bool Bool Bool Bool → Bool
branch_layer b = is_spelled b.test && all_true b.body

abbrev pub case_layer : Case-F Bool Bool Bool Bool → Bool
case_layer c = all_true c.body

abbrev pub guarded_layer : GuardedBranch-F Bool Bool Bool Bool → Bool
guarded_layer b = all_true b.body

-- the strings in a statement are of characters, of 8 bits
abbrev pub stmt_spelled : Stmt → Bool
stmt_spelled = fold-Stmt Bool Bool Bool Bool stmt_layer branch_layer case_layer guarded_layer

abbrev pub branch_spelled : Branch → Bool
branch_spelled = fold-Branch Bool Bool Bool Bool stmt_layer branch_layer case_layer guarded_layer

abbrev pub case_spelled : Case → Bool
case_spelled = fold-Case Bool Bool Bool Bool stmt_layer branch_layer case_layer guarded_layer

abbrev pub guarded_spelled : GuardedBranch → Bool
guarded_spelled = fold-GuardedBranch Bool Bool Bool Bool stmt_layer branch_layer case_layer guarded_layer

-- THE PLACES OF FOR AND CASE

abbrev pub in_all : List (List Pos) → List Pos
in_all [] = []
in_all (ps ∷ rest) = ps ++ in_all rest

abbrev pub in_if : Option (List (List Pos)) → List Pos
in_if None = []
in_if (Some ps) = in_all ps

abbrev pub place_layer : Stmt-F (List Pos) (List Pos) (List Pos) (List Pos) → List Pos
place_layer Stmt-F.Empty = []
place_layer (Stmt-F.Call d) = []
place_layer (Stmt-F.Assign d at x) = []
place_layer (Stmt-F.If at bs otherwise) = in_all bs ++ in_if otherwise
place_layer (Stmt-F.Case at x cs otherwise) = at ∷ (in_all cs ++ in_if otherwise)
place_layer (Stmt-F.While at x body) = in_all body
place_layer (Stmt-F.Repeat at body x) = in_all body
place_layer (Stmt-F.For at x a b step body) = at ∷ in_all body
place_layer (Stmt-F.Loop at body) = in_all body
place_layer (Stmt-F.Exit at) = []
place_layer (Stmt-F.Return at x) = []
place_layer (Stmt-F.With at bs otherwise) = in_all bs ++ in_if otherwise

abbrev pub branch_places_layer : Branch-F (List Pos) (List Pos) (List Pos) (List Pos) → List Pos
branch_places_layer b = in_all b.body

abbrev pub case_places_layer : Case-F (List Pos) (List Pos) (List Pos) (List Pos) → List Pos
case_places_layer c = in_all c.body

abbrev pub guarded_places_layer : GuardedBranch-F (List Pos) (List Pos) (List Pos) (List Pos) → List Pos
guarded_places_layer b = in_all b.body

abbrev pub hidden_places : Stmt → List Pos
hidden_places = fold-Stmt (List Pos) (List Pos) (List Pos) (List Pos) place_layer branch_places_layer case_places_layer guarded_places_layer

abbrev pub branch_places : Branch → List Pos
branch_places = fold-Branch (List Pos) (List Pos) (List Pos) (List Pos) place_layer branch_places_layer case_places_layer guarded_places_layer

abbrev pub case_places : Case → List Pos
case_places = fold-Case (List Pos) (List Pos) (List Pos) (List Pos) place_layer branch_places_layer case_places_layer guarded_places_layer

abbrev pub guarded_places : GuardedBranch → List Pos
guarded_places = fold-GuardedBranch (List Pos) (List Pos) (List Pos) (List Pos) place_layer branch_places_layer case_places_layer guarded_places_layer

-- WELL TYPED

module _ (program : Program) (Has : Formals → QName → Type 0) (unit : List ℕ) (held : List Held) (result : Option TypeRef) where
  -- the procedure has the variables that FOR and CASE keep there
  abbrev pub AreHidden : List Pos → Type 0
  AreHidden ps = AllByRecursion (λ at. typed.HiddenOk program Has unit held result at) ps

  -- inside a LOOP or not
  abbrev pub AreStatements : Bool → List TypedStmt → Type 0
  AreStatements in_loop xs = AllByRecursion (λ s. typed.StmtOk program Has unit held result (stmt_view s) in_loop) xs

  -- a statement before it is judged
  abbrev pub JudgingIs : Judging → Type 0
  JudgingIs f = (u : Around) → IsScoped program Has unit held result u → Makes (AreStatements u.in_loop) (f u)

  abbrev pub AreJudging : List Judging → Type 0
  AreJudging fs = AllByRecursion JudgingIs fs

  pub record ConditionalIs (b : Conditional) : Type 0 where
    pub test : PhraseIs program Has unit held result b.test
    pub body : AreJudging b.body
