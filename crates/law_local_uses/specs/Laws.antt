-- The law: statements that keep the rules are tied to the types that they name, all of which are held.
use Rattle.std.specs.Prelude.{◌≡◌, ℕ, Bool, true, List, map as each, Some}
use Rattle.ob_tree.specs.declared.names.QName.{QName}
use Rattle.ob_tree.specs.declared.expr.Expr.{Expr}
use Rattle.ob_tree.specs.declared.stmt.Stmt.{Stmt}
use Rattle.ob_types.specs.declared.typed.TypedStmt.{TypedStmt}
use Rattle.ob_types.specs.TypedView.{stmts_view}
use Rattle.ob_uses_roots.specs.Counts.{counts_of_all}
use Rattle.ob_rules.specs.Shapes.{Map}
use Rattle.ob_rules.specs.Names.{Around}
use Rattle.ob_rules.specs.Expressions.{phrase_of, constant_value}
use Rattle.ob_rules.specs.Statements.{judging, in_turn}
use Rattle.law_local_judged.specs.Said.{SaidIn, CountsIn}
use Rattle.law_local_files.specs.Tied.{StmtsTied}
use Rattle.law_local_uses.specs.Settled.{IsSettled}

-- Statements that are judged where all is settled: they are tied in the other map, and what counts in them, and what their notes name, is held.
pub record AreTied (map : Map) (unit : List ℕ) (Own Held : QName → Type 0) (ys : List TypedStmt) : Type 0 where
  pub tied : StmtsTied map unit Own (stmts_view ys)
  pub held : CountsIn Held (counts_of_all (stmts_view ys))

abbrev pub StatementsAreTied : Type 0
StatementsAreTied =
    (map : Map) (unit : List ℕ) (own held : QName → Bool) (u : Around) → IsSettled map (λ q. own q ≡ true) (λ q. held q ≡ true) u
    → (xs : List Stmt) → SaidIn (λ q. held q ≡ true) (in_turn (each judging xs) u).notes
    × ((ys : List TypedStmt) → (in_turn (each judging xs) u).node ≡ Some ys → AreTied map unit (λ q. own q ≡ true) (λ q. held q ≡ true) ys)

-- What a constant expression names is held too.
abbrev pub ConstantsAreHeld : Type 0
ConstantsAreHeld =
    (map : Map) (own held : QName → Bool) (u : Around) → IsSettled map (λ q. own q ≡ true) (λ q. held q ≡ true) u
    → (e : Expr) → SaidIn (λ q. held q ≡ true) (constant_value u (phrase_of e)).notes
