-- Whether places and strings fit, of each tree that the grammar makes.
use Rattle.std.proofs.Common.{◌≡◌, ℕ, Bool, true, List, map, Option, Some, None, sym, ap, ◌∙◌}
use Rattle.std.specs.Prelude.{◌&&◌}
use Rattle.ob_tree.specs.declared.token.Token.{Token}
use Rattle.ob_tree.specs.declared.pos.Pos.{Pos}
use Rattle.ob_tree.specs.declared.ident.Ident.{Ident}
use Rattle.ob_tree.specs.declared.ident.IdentDef.{IdentDef}
use Rattle.ob_tree.specs.declared.expr.Relation.{Relation}
use Rattle.ob_tree.specs.declared.expr.Sign.{Sign}
use Rattle.ob_tree.specs.declared.expr.Expr.{Expr}
use Rattle.ob_tree.specs.declared.expr.Expr.TheVariants as e
use Rattle.ob_tree.specs.declared.expr.Tail.{Tail}
use Rattle.ob_tree.specs.declared.expr.Element.{Element, roll-Element}
use Rattle.ob_tree.specs.declared.expr.Designator.{Designator, roll-Designator}
use Rattle.ob_tree.specs.declared.expr.Selector.{Selector}
use Rattle.ob_tree.specs.declared.expr.Selector.TheVariants as sel
use Rattle.ob_tree.specs.declared.expr.Expr.TheOpen.{Expr-F, Selector-F}
use Rattle.ob_tree.specs.declared.expr.Expr.TheFolds.{fold-roll-Expr, fold-roll-Selector, fold-roll-Designator, fold-roll-Element, fold-roll-Tail}
use Rattle.ob_tree.specs.declared.stmt.Stmt.{Stmt}
use Rattle.ob_tree.specs.declared.stmt.Stmt.TheVariants as st
use Rattle.ob_tree.specs.declared.stmt.Branch.{Branch, roll-Branch}
use Rattle.ob_tree.specs.declared.stmt.Case.{Case, roll-Case}
use Rattle.ob_tree.specs.declared.stmt.GuardedBranch.{GuardedBranch, roll-GuardedBranch}
use Rattle.ob_tree.specs.declared.stmt.Guard.{Guard}
use Rattle.ob_tree.specs.declared.stmt.Stmt.TheOpen.{Stmt-F}
use Rattle.ob_tree.specs.declared.stmt.Stmt.TheFolds.{fold-roll-Stmt, fold-roll-Branch, fold-roll-Case, fold-roll-GuardedBranch}
use Rattle.ob_tree.specs.declared.type_node.TypeNode.{TypeNode}
use Rattle.ob_tree.specs.declared.decl.Heading.{Heading}
use Rattle.ob_tree.specs.declared.decl.Decl.{Decl}
use Rattle.ob_tree.specs.declared.decl.Decl.TheVariants as d
use Rattle.ob_tree.specs.declared.decl.Decl.TheOpen.{Decl-F}
use Rattle.ob_tree.specs.declared.decl.Decl.TheFolds.{fold-roll-Decl}
use Rattle.ob_parse_grammar.specs.Expressions as ex
use Rattle.law_typing.specs.Spelled.{all_true}
use Rattle.law_spelling_read.specs.ReadPlaces.{pos_fits, text_fits, expr_layer, selector_layer, designator_layer, element_layer, tail_layer, expr_fits, designator_fits, element_fits, tail_fits, selector_fits, fits_if, name_fits, stmt_layer, branch_layer, case_layer, guarded_layer, stmt_fits, branch_fits, case_fits, guarded_fits, decl_layer, decl_fits}

-- ---- expressions

pub designator_expr : (n : Designator) → expr_fits (e.Designator n) ≡ designator_fits n
designator_expr n = ap expr_fits (sym (e.rolls-Designator n)) ∙ fold-roll-Expr Bool Bool Bool Bool Bool expr_layer selector_layer designator_layer element_layer tail_layer (Expr-F.Designator n)

pub int_is : (at : Pos) (t : List ℕ) → expr_fits (e.Int at t) ≡ pos_fits at
int_is at t = ap expr_fits (sym (e.rolls-Int at t)) ∙ fold-roll-Expr Bool Bool Bool Bool Bool expr_layer selector_layer designator_layer element_layer tail_layer (Expr-F.Int at t)

pub char_is : (at : Pos) (t : List ℕ) → expr_fits (e.Char at t) ≡ pos_fits at
char_is at t = ap expr_fits (sym (e.rolls-Char at t)) ∙ fold-roll-Expr Bool Bool Bool Bool Bool expr_layer selector_layer designator_layer element_layer tail_layer (Expr-F.Char at t)

pub str_is : (at : Pos) (t : List ℕ) → expr_fits (e.Str at t) ≡ pos_fits at && text_fits t
str_is at t = ap expr_fits (sym (e.rolls-Str at t)) ∙ fold-roll-Expr Bool Bool Bool Bool Bool expr_layer selector_layer designator_layer element_layer tail_layer (Expr-F.Str at t)

pub nil_is : (at : Pos) → expr_fits (e.Nil at) ≡ pos_fits at
nil_is at = ap expr_fits (sym (e.rolls-Nil at)) ∙ fold-roll-Expr Bool Bool Bool Bool Bool expr_layer selector_layer designator_layer element_layer tail_layer (Expr-F.Nil at)

pub set_is : (at : Pos) (xs : List Element) → expr_fits (e.Set at xs) ≡ pos_fits at && all_true (map element_fits xs)
set_is at xs = ap expr_fits (sym (e.rolls-Set at xs)) ∙ fold-roll-Expr Bool Bool Bool Bool Bool expr_layer selector_layer designator_layer element_layer tail_layer (Expr-F.Set at xs)

pub paren_is : (at : Pos) (x : Expr) → expr_fits (e.Paren at x) ≡ pos_fits at && expr_fits x
paren_is at x = ap expr_fits (sym (e.rolls-Paren at x)) ∙ fold-roll-Expr Bool Bool Bool Bool Bool expr_layer selector_layer designator_layer element_layer tail_layer (Expr-F.Paren at x)

pub not_is : (at : Pos) (x : Expr) → expr_fits (e.Not at x) ≡ pos_fits at && expr_fits x
not_is at x = ap expr_fits (sym (e.rolls-Not at x)) ∙ fold-roll-Expr Bool Bool Bool Bool Bool expr_layer selector_layer designator_layer element_layer tail_layer (Expr-F.Not at x)

pub signed_is : (z : Sign) (at : Pos) (x : Expr) → expr_fits (e.Signed z at x) ≡ pos_fits at && expr_fits x
signed_is z at x = ap expr_fits (sym (e.rolls-Signed z at x)) ∙ fold-roll-Expr Bool Bool Bool Bool Bool expr_layer selector_layer designator_layer element_layer tail_layer (Expr-F.Signed z at x)

pub chain_is : (x : Expr) (ts : List Tail) → expr_fits (e.Chain x ts) ≡ expr_fits x && all_true (map tail_fits ts)
chain_is x ts = ap expr_fits (sym (e.rolls-Chain x ts)) ∙ fold-roll-Expr Bool Bool Bool Bool Bool expr_layer selector_layer designator_layer element_layer tail_layer (Expr-F.Chain x ts)

pub relate_is : (l : Expr) (op : Relation) (at : Pos) (r : Expr) → expr_fits (e.Relate l op at r) ≡ pos_fits at && (expr_fits l && expr_fits r)
relate_is l op at r = ap expr_fits (sym (e.rolls-Relate l op at r)) ∙ fold-roll-Expr Bool Bool Bool Bool Bool expr_layer selector_layer designator_layer element_layer tail_layer (Expr-F.Relate l op at r)

pub field_is : (at : Pos) (x : Ident) → selector_fits (sel.Field at x) ≡ pos_fits at
field_is at x = ap selector_fits (sym (sel.rolls-Field at x)) ∙ fold-roll-Selector Bool Bool Bool Bool Bool expr_layer selector_layer designator_layer element_layer tail_layer (Selector-F.Field at x)

pub index_is : (at : Pos) (i : Expr) → selector_fits (sel.Index at i) ≡ pos_fits at && expr_fits i
index_is at i = ap selector_fits (sym (sel.rolls-Index at i)) ∙ fold-roll-Selector Bool Bool Bool Bool Bool expr_layer selector_layer designator_layer element_layer tail_layer (Selector-F.Index at i)

pub deref_is : (at : Pos) → selector_fits (sel.Deref at) ≡ pos_fits at
deref_is at = ap selector_fits (sym (sel.rolls-Deref at)) ∙ fold-roll-Selector Bool Bool Bool Bool Bool expr_layer selector_layer designator_layer element_layer tail_layer (Selector-F.Deref at)

pub call_is : (at : Pos) (xs : List Expr) → selector_fits (sel.Call at xs) ≡ pos_fits at && all_true (map expr_fits xs)
call_is at xs = ap selector_fits (sym (sel.rolls-Call at xs)) ∙ fold-roll-Selector Bool Bool Bool Bool Bool expr_layer selector_layer designator_layer element_layer tail_layer (Selector-F.Call at xs)

pub designator_is : (i : Ident) (ss : List Selector) → designator_fits (roll-Designator (record { ident = i; selectors = ss })) ≡ pos_fits i.pos && all_true (map selector_fits ss)
designator_is i ss = fold-roll-Designator Bool Bool Bool Bool Bool expr_layer selector_layer designator_layer element_layer tail_layer (record { ident = i; selectors = ss })

pub element_is : (l : Expr) (o : Option Expr) → element_fits (roll-Element (record { low = l; high = o })) ≡ expr_fits l && fits_if o
element_is l None = fold-roll-Element Bool Bool Bool Bool Bool expr_layer selector_layer designator_layer element_layer tail_layer (record { low = l; high = None })
element_is l (Some x) = fold-roll-Element Bool Bool Bool Bool Bool expr_layer selector_layer designator_layer element_layer tail_layer (record { low = l; high = Some x })

pub tail_is : (x : Token × Expr) → tail_fits (ex.tail_of x) ≡ pos_fits x.0.pos && expr_fits x.1
tail_is x = fold-roll-Tail Bool Bool Bool Bool Bool expr_layer selector_layer designator_layer element_layer tail_layer (record { operator = ex.operator_of x.0.symbol; pos = x.0.pos; operand = x.1 })

-- ---- statements

-- those of an ELSE
abbrev pub else_fits : Option (List Stmt) → Bool
else_fits None = true
else_fits (Some ss) = all_true (map stmt_fits ss)

pub empty_is : stmt_fits st.Empty ≡ true
empty_is = ap stmt_fits (sym st.rolls-Empty) ∙ fold-roll-Stmt Bool Bool Bool Bool stmt_layer branch_layer case_layer guarded_layer Stmt-F.Empty

pub call_stmt_is : (n : Designator) → stmt_fits (st.Call n) ≡ designator_fits n
call_stmt_is n = ap stmt_fits (sym (st.rolls-Call n)) ∙ fold-roll-Stmt Bool Bool Bool Bool stmt_layer branch_layer case_layer guarded_layer (Stmt-F.Call n)

pub assign_is : (n : Designator) (at : Pos) (x : Expr) → stmt_fits (st.Assign n at x) ≡ pos_fits at && (designator_fits n && expr_fits x)
assign_is n at x = ap stmt_fits (sym (st.rolls-Assign n at x)) ∙ fold-roll-Stmt Bool Bool Bool Bool stmt_layer branch_layer case_layer guarded_layer (Stmt-F.Assign n at x)

pub if_is : (at : Pos) (bs : List Branch) (o : Option (List Stmt)) → stmt_fits (st.If at bs o) ≡ pos_fits at && (all_true (map branch_fits bs) && else_fits o)
if_is at bs None = ap stmt_fits (sym (st.rolls-If at bs None)) ∙ fold-roll-Stmt Bool Bool Bool Bool stmt_layer branch_layer case_layer guarded_layer (Stmt-F.If at bs None)
if_is at bs (Some ss) = ap stmt_fits (sym (st.rolls-If at bs (Some ss))) ∙ fold-roll-Stmt Bool Bool Bool Bool stmt_layer branch_layer case_layer guarded_layer (Stmt-F.If at bs (Some ss))

pub case_stmt_is : (at : Pos) (x : Expr) (cs : List Case) (o : Option (List Stmt)) → stmt_fits (st.Case at x cs o) ≡ pos_fits at && (expr_fits x && (all_true (map case_fits cs) && else_fits o))
case_stmt_is at x cs None = ap stmt_fits (sym (st.rolls-Case at x cs None)) ∙ fold-roll-Stmt Bool Bool Bool Bool stmt_layer branch_layer case_layer guarded_layer (Stmt-F.Case at x cs None)
case_stmt_is at x cs (Some ss) = ap stmt_fits (sym (st.rolls-Case at x cs (Some ss))) ∙ fold-roll-Stmt Bool Bool Bool Bool stmt_layer branch_layer case_layer guarded_layer (Stmt-F.Case at x cs (Some ss))

pub while_is : (at : Pos) (x : Expr) (ss : List Stmt) → stmt_fits (st.While at x ss) ≡ pos_fits at && (expr_fits x && all_true (map stmt_fits ss))
while_is at x ss = ap stmt_fits (sym (st.rolls-While at x ss)) ∙ fold-roll-Stmt Bool Bool Bool Bool stmt_layer branch_layer case_layer guarded_layer (Stmt-F.While at x ss)

pub repeat_is : (at : Pos) (ss : List Stmt) (x : Expr) → stmt_fits (st.Repeat at ss x) ≡ pos_fits at && (expr_fits x && all_true (map stmt_fits ss))
repeat_is at ss x = ap stmt_fits (sym (st.rolls-Repeat at ss x)) ∙ fold-roll-Stmt Bool Bool Bool Bool stmt_layer branch_layer case_layer guarded_layer (Stmt-F.Repeat at ss x)

pub for_is : (at : Pos) (x : Ident) (a b : Expr) (o : Option Expr) (ss : List Stmt) → stmt_fits (st.For at x a b o ss) ≡ pos_fits at && (pos_fits x.pos && (expr_fits a && (expr_fits b && (fits_if o && all_true (map stmt_fits ss)))))
for_is at x a b o ss = ap stmt_fits (sym (st.rolls-For at x a b o ss)) ∙ fold-roll-Stmt Bool Bool Bool Bool stmt_layer branch_layer case_layer guarded_layer (Stmt-F.For at x a b o ss)

pub loop_is : (at : Pos) (ss : List Stmt) → stmt_fits (st.Loop at ss) ≡ pos_fits at && all_true (map stmt_fits ss)
loop_is at ss = ap stmt_fits (sym (st.rolls-Loop at ss)) ∙ fold-roll-Stmt Bool Bool Bool Bool stmt_layer branch_layer case_layer guarded_layer (Stmt-F.Loop at ss)

pub exit_is : (at : Pos) → stmt_fits (st.Exit at) ≡ pos_fits at
exit_is at = ap stmt_fits (sym (st.rolls-Exit at)) ∙ fold-roll-Stmt Bool Bool Bool Bool stmt_layer branch_layer case_layer guarded_layer (Stmt-F.Exit at)

pub return_is : (at : Pos) (o : Option Expr) → stmt_fits (st.Return at o) ≡ pos_fits at && fits_if o
return_is at o = ap stmt_fits (sym (st.rolls-Return at o)) ∙ fold-roll-Stmt Bool Bool Bool Bool stmt_layer branch_layer case_layer guarded_layer (Stmt-F.Return at o)

pub with_is : (at : Pos) (bs : List GuardedBranch) (o : Option (List Stmt)) → stmt_fits (st.With at bs o) ≡ pos_fits at && (all_true (map guarded_fits bs) && else_fits o)
with_is at bs None = ap stmt_fits (sym (st.rolls-With at bs None)) ∙ fold-roll-Stmt Bool Bool Bool Bool stmt_layer branch_layer case_layer guarded_layer (Stmt-F.With at bs None)
with_is at bs (Some ss) = ap stmt_fits (sym (st.rolls-With at bs (Some ss))) ∙ fold-roll-Stmt Bool Bool Bool Bool stmt_layer branch_layer case_layer guarded_layer (Stmt-F.With at bs (Some ss))

pub branch_is : (x : Expr) (ss : List Stmt) → branch_fits (roll-Branch (record { test = x; body = ss })) ≡ expr_fits x && all_true (map stmt_fits ss)
branch_is x ss = fold-roll-Branch Bool Bool Bool Bool stmt_layer branch_layer case_layer guarded_layer (record { test = x; body = ss })

pub case_is : (ls : List Element) (ss : List Stmt) → case_fits (roll-Case (record { labels = ls; body = ss })) ≡ all_true (map element_fits ls) && all_true (map stmt_fits ss)
case_is ls ss = fold-roll-Case Bool Bool Bool Bool stmt_layer branch_layer case_layer guarded_layer (record { labels = ls; body = ss })

pub guarded_is : (x : Guard) (ss : List Stmt) → guarded_fits (roll-GuardedBranch (record { guard = x; body = ss })) ≡ name_fits x.variable && all_true (map stmt_fits ss)
guarded_is x ss = fold-roll-GuardedBranch Bool Bool Bool Bool stmt_layer branch_layer case_layer guarded_layer (record { guard = x; body = ss })

-- ---- declarations

pub constant_is : (i : IdentDef) (x : Expr) → decl_fits (d.Constant i x) ≡ expr_fits x
constant_is i x = ap decl_fits (sym (d.rolls-Constant i x)) ∙ fold-roll-Decl Bool decl_layer (Decl-F.Constant i x)

pub type_is : (i : IdentDef) (x : TypeNode) → decl_fits (d.NamedType i x) ≡ true
type_is i x = ap decl_fits (sym (d.rolls-NamedType i x)) ∙ fold-roll-Decl Bool decl_layer (Decl-F.NamedType i x)

pub variables_are : (xs : List IdentDef) (x : TypeNode) → decl_fits (d.Variables xs x) ≡ true
variables_are xs x = ap decl_fits (sym (d.rolls-Variables xs x)) ∙ fold-roll-Decl Bool decl_layer (Decl-F.Variables xs x)

pub procedure_decl_is : (h : Heading) (ds : List Decl) (ss : List Stmt) (c : Ident) → decl_fits (d.Procedure h ds ss c) ≡ pos_fits h.name.ident.pos && (all_true (map decl_fits ds) && all_true (map stmt_fits ss))
procedure_decl_is h ds ss c = ap decl_fits (sym (d.rolls-Procedure h ds ss c)) ∙ fold-roll-Decl Bool decl_layer (Decl-F.Procedure h ds ss c)

pub forward_is : (h : Heading) → decl_fits (d.Forward h) ≡ pos_fits h.name.ident.pos
forward_is h = ap decl_fits (sym (d.rolls-Forward h)) ∙ fold-roll-Decl Bool decl_layer (Decl-F.Forward h)
