-- The laws: what the rules accept is well typed.
use Rattle.std.specs.Prelude.{◌≡◌, ℕ, List, map, Option, Some, Bool, true}
use Rattle.ob_tree.specs.declared.names.QName.{QName}
use Rattle.ob_tree.specs.declared.expr.Expr.{Expr}
use Rattle.ob_tree.specs.declared.expr.Designator.{Designator}
use Rattle.ob_tree.specs.declared.stmt.Stmt.{Stmt}
use Rattle.ob_types.specs.declared.types.TypeRef.{TypeRef}
use Rattle.ob_types.specs.declared.typed.TypedStmt.{TypedStmt}
use Rattle.ob_types.specs.TypedView.{expr_view, stmts_view}
use Rattle.ob_meaning.specs.Values.{Program, form_in, Formals, Held}
use Rattle.law_simulation_relation.specs.Relation.{Scalar}
use Rattle.law_simulation_relation.specs.Typed as typed
use Rattle.ob_rules.specs.declared.meant.Meant.{Meant}
use Rattle.ob_rules.specs.declared.meant.Where.{Where}
use Rattle.ob_rules.specs.declared.values.Valued.{Valued}
use Rattle.ob_rules.specs.Names.{Around, map_of}
use Rattle.ob_rules.specs.Values.{tree, fits}
use Rattle.ob_rules.specs.Expressions.{phrase_of, named_of, meant_by}
use Rattle.ob_rules.specs.Statements.{judging, in_turn}
use Rattle.law_typing.specs.Forms.{IsDeclared}
use Rattle.law_typing.specs.Known.{IsScoped}
use Rattle.law_typing.specs.Surrounded.{IsSurrounded}
use Rattle.law_typing.specs.Kept.{ValuedIs}
use Rattle.law_typing.specs.Meant.{MeantIs}
use Rattle.law_typing.specs.Spelled.{all_true, is_spelled, designator_spelled}
use Rattle.law_typing.specs.Bodies.{stmt_spelled, in_all, hidden_places, AreHidden}

-- procedures that may be values, as a setting tells them
abbrev pub Having : (Formals → QName → Bool) → Formals → QName → Type 0
Having has s q = has s q ≡ true

-- An expression that keeps the rules where what is known is so in the program: it is well typed, and of each scalar type that it is assignable to.
abbrev pub ExpressionsFit : Type 0
ExpressionsFit =
    (program : Program) (has : Formals → QName → Bool) (unit : List ℕ) (held : List Held) (result : Option TypeRef) (u : Around) → IsScoped program (Having has) unit held result u
    → (e : Expr) → is_spelled e ≡ true → (x : Valued) → ((phrase_of e).value u).node ≡ Some x
    → ValuedIs program (Having has) unit held result (map_of u) x
    × ((t : TypeRef) → IsDeclared t → fits (map_of u) t x ≡ true → Scalar (form_in program t) → typed.ExprOk program (Having has) unit held result (expr_view (tree x)) (form_in program t))

-- A designator that keeps the rules comes to what is well typed.
abbrev pub DesignatorsFit : Type 0
DesignatorsFit =
    (program : Program) (has : Formals → QName → Bool) (unit : List ℕ) (held : List Held) (result : Option TypeRef) (u : Around) → IsScoped program (Having has) unit held result u
    → (w : Where) (d : Designator) → designator_spelled d ≡ true → (m : Meant) → (meant_by w (named_of d) u).node ≡ Some m
    → MeantIs program (Having has) unit held result (map_of u) u.receiver w m

-- Statements that keep the rules are well typed, where the procedure has the variables that FOR and CASE keep.
abbrev pub StatementsFit : Type 0
StatementsFit =
    (program : Program) (has : Formals → QName → Bool) (unit : List ℕ) (held : List Held) (result : Option TypeRef) (u : Around) → IsScoped program (Having has) unit held result u
    → (xs : List Stmt) → all_true (map stmt_spelled xs) ≡ true → AreHidden program (Having has) unit held result (in_all (map hidden_places xs))
    → (ys : List TypedStmt) → (in_turn (map judging xs) u).node ≡ Some ys
    → typed.StmtsOk program (Having has) unit held result (stmts_view ys) u.in_loop

-- What stands around is as the laws above want it where its map is formed and steady and its names are so.
abbrev pub SurroundingsFit : Type 0
SurroundingsFit = (program : Program) (has : Formals → QName → Bool) (unit : List ℕ) (held : List Held) (result : Option TypeRef) (u : Around) → IsSurrounded program (Having has) unit held result u → IsScoped program (Having has) unit held result u
