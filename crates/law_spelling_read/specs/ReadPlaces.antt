-- Texts whose places are numbers of 32 bits, and whose strings are short and of characters: expressions, statements and declarations.
use Rattle.std.specs.Prelude.{ℕ, suc, ◌^◌, Bool, true, ◌&&◌, nat_lt, List, length, map, Option, Some, None}
use Rattle.ob_tree.specs.declared.pos.Pos.{Pos}
use Rattle.ob_tree.specs.declared.ident.Ident.{Ident}
use Rattle.ob_tree.specs.declared.expr.Expr.{Expr}
use Rattle.ob_tree.specs.declared.expr.Designator.{Designator}
use Rattle.ob_tree.specs.declared.expr.Element.{Element}
use Rattle.ob_tree.specs.declared.expr.Tail.{Tail}
use Rattle.ob_tree.specs.declared.expr.Selector.{Selector}
use Rattle.ob_tree.specs.declared.expr.Expr.TheOpen.{Expr-F, Tail-F, Element-F, Designator-F, Selector-F}
use Rattle.ob_tree.specs.declared.expr.Expr.TheFolds.{fold-Expr, fold-Designator, fold-Element, fold-Tail, fold-Selector}
use Rattle.ob_tree.specs.declared.ident.Qualident.{Qualident}
use Rattle.ob_tree.specs.declared.stmt.Stmt.{Stmt}
use Rattle.ob_tree.specs.declared.stmt.Branch.{Branch}
use Rattle.ob_tree.specs.declared.stmt.Case.{Case}
use Rattle.ob_tree.specs.declared.stmt.GuardedBranch.{GuardedBranch}
use Rattle.ob_tree.specs.declared.stmt.Stmt.TheOpen.{Stmt-F, Branch-F, Case-F, GuardedBranch-F}
use Rattle.ob_tree.specs.declared.stmt.Stmt.TheFolds.{fold-Stmt, fold-Branch, fold-Case, fold-GuardedBranch}
use Rattle.ob_tree.specs.declared.decl.Decl.{Decl}
use Rattle.ob_tree.specs.declared.decl.Decl.TheOpen.{Decl-F}
use Rattle.ob_tree.specs.declared.decl.Decl.TheFolds.{fold-Decl}
use Rattle.ob_tree.specs.declared.decl.Module.{Module as Tree}
use Rattle.law_typing.specs.Spelled.{all_true, if_there, are_bytes}
use Rattle.law_typing.specs.Bodies.{all_if}

abbrev pub pos_fits : Pos → Bool
pos_fits at = nat_lt at.line (2 ^ 32) && nat_lt at.col (2 ^ 32)

-- characters of 8 bits, and their number, with one more, of 31
abbrev pub text_fits : List ℕ → Bool
text_fits text = are_bytes text && nat_lt (suc (length text)) (2 ^ 31)

-- EXPRESSIONS

abbrev pub expr_layer : Expr-F Bool Bool Bool Bool Bool → Bool
expr_layer (Expr-F.Designator n) = n
expr_layer (Expr-F.Int at text) = pos_fits at
expr_layer (Expr-F.Char at text) = pos_fits at
expr_layer (Expr-F.Str at text) = pos_fits at && text_fits text
expr_layer (Expr-F.Nil at) = pos_fits at
expr_layer (Expr-F.Set at xs) = pos_fits at && all_true xs
expr_layer (Expr-F.Paren at x) = pos_fits at && x
expr_layer (Expr-F.Not at x) = pos_fits at && x
expr_layer (Expr-F.Signed s at x) = pos_fits at && x
expr_layer (Expr-F.Chain x ts) = x && all_true ts
expr_layer (Expr-F.Relate l op at r) = pos_fits at && (l && r)

abbrev pub selector_layer : Selector-F Bool Bool Bool Bool Bool → Bool
selector_layer (Selector-F.Field at x) = pos_fits at
selector_layer (Selector-F.Index at i) = pos_fits at && i
selector_layer (Selector-F.Deref at) = pos_fits at
selector_layer (Selector-F.Call at xs) = pos_fits at && all_true xs

abbrev pub designator_layer : Designator-F Bool Bool Bool Bool Bool → Bool
designator_layer n = pos_fits n.ident.pos && all_true n.selectors

abbrev pub element_layer : Element-F Bool Bool Bool Bool Bool → Bool
element_layer x = x.low && if_there x.high

abbrev pub tail_layer : Tail-F Bool Bool Bool Bool Bool → Bool
tail_layer t = pos_fits t.pos && t.operand

abbrev pub expr_fits : Expr → Bool
expr_fits = fold-Expr Bool Bool Bool Bool Bool expr_layer selector_layer designator_layer element_layer tail_layer

abbrev pub designator_fits : Designator → Bool
designator_fits = fold-Designator Bool Bool Bool Bool Bool expr_layer selector_layer designator_layer element_layer tail_layer

abbrev pub element_fits : Element → Bool
element_fits = fold-Element Bool Bool Bool Bool Bool expr_layer selector_layer designator_layer element_layer tail_layer

abbrev pub tail_fits : Tail → Bool
tail_fits = fold-Tail Bool Bool Bool Bool Bool expr_layer selector_layer designator_layer element_layer tail_layer

abbrev pub selector_fits : Selector → Bool
selector_fits = fold-Selector Bool Bool Bool Bool Bool expr_layer selector_layer designator_layer element_layer tail_layer

-- STATEMENTS

abbrev pub fits_if : Option Expr → Bool
fits_if None = true
fits_if (Some x) = expr_fits x

-- a name, and the module's before it
abbrev pub qualifier_fits : Option Ident → Bool
qualifier_fits None = true
qualifier_fits (Some x) = pos_fits x.pos

abbrev pub name_fits : Qualident → Bool
name_fits q = qualifier_fits q.qualifier && pos_fits q.ident.pos

abbrev pub stmt_layer : Stmt-F Bool Bool Bool Bool → Bool
stmt_layer Stmt-F.Empty = true
stmt_layer (Stmt-F.Call d) = designator_fits d
stmt_layer (Stmt-F.Assign d at x) = pos_fits at && (designator_fits d && expr_fits x)
stmt_layer (Stmt-F.If at bs otherwise) = pos_fits at && (all_true bs && all_if otherwise)
stmt_layer (Stmt-F.Case at x cs otherwise) = pos_fits at && (expr_fits x && (all_true cs && all_if otherwise))
stmt_layer (Stmt-F.While at x body) = pos_fits at && (expr_fits x && all_true body)
stmt_layer (Stmt-F.Repeat at body x) = pos_fits at && (expr_fits x && all_true body)
stmt_layer (Stmt-F.For at x a b step body) = pos_fits at && (pos_fits x.pos && (expr_fits a && (expr_fits b && (fits_if step && all_true body))))
stmt_layer (Stmt-F.Loop at body) = pos_fits at && all_true body
stmt_layer (Stmt-F.Exit at) = pos_fits at
stmt_layer (Stmt-F.Return at x) = pos_fits at && fits_if x
stmt_layer (Stmt-F.With at bs otherwise) = pos_fits at && (all_true bs && all_if otherwise)

abbrev pub branch_layer : Branch-F Bool Bool Bool Bool → Bool
branch_layer b = expr_fits b.test && all_true b.body

abbrev pub case_layer : Case-F Bool Bool Bool Bool → Bool
case_layer c = all_true (map element_fits c.labels) && all_true c.body

abbrev pub guarded_layer : GuardedBranch-F Bool Bool Bool Bool → Bool
guarded_layer b = name_fits b.guard.variable && all_true b.body

abbrev pub stmt_fits : Stmt → Bool
stmt_fits = fold-Stmt Bool Bool Bool Bool stmt_layer branch_layer case_layer guarded_layer

abbrev pub branch_fits : Branch → Bool
branch_fits = fold-Branch Bool Bool Bool Bool stmt_layer branch_layer case_layer guarded_layer

abbrev pub case_fits : Case → Bool
case_fits = fold-Case Bool Bool Bool Bool stmt_layer branch_layer case_layer guarded_layer

abbrev pub guarded_fits : GuardedBranch → Bool
guarded_fits = fold-GuardedBranch Bool Bool Bool Bool stmt_layer branch_layer case_layer guarded_layer

-- DECLARATIONS: constants, and procedures with the places where they are named

abbrev pub decl_layer : Decl-F Bool → Bool
decl_layer (Decl-F.Constant d x) = expr_fits x
decl_layer (Decl-F.NamedType d n) = true
decl_layer (Decl-F.Variables ds n) = true
decl_layer (Decl-F.Procedure h ds body closing) = pos_fits h.name.ident.pos && (all_true ds && all_true (map stmt_fits body))
decl_layer (Decl-F.Forward h) = pos_fits h.name.ident.pos

abbrev pub decl_fits : Decl → Bool
decl_fits = fold-Decl Bool decl_layer

abbrev pub tree_fits : Tree → Bool
tree_fits m = all_true (map decl_fits m.decls) && all_true (map stmt_fits m.body)
