-- Whether strings are of characters, of each tree that the grammar makes.
use Rattle.std.proofs.Common.{◌≡◌, ℕ, Bool, true, List, [], ◌∷◌, map, Option, Some, None, refl, sym, ap, ◌∙◌}
use Rattle.std.specs.Prelude.{◌&&◌}
use Rattle.std.specs.List.{AllByRecursion}
use Rattle.ob_tree.specs.declared.token.Token.{Token}
use Rattle.ob_tree.specs.declared.pos.Pos.{Pos}
use Rattle.ob_tree.specs.declared.ident.Ident.{Ident}
use Rattle.ob_tree.specs.declared.ident.IdentDef.{IdentDef}
use Rattle.ob_tree.specs.declared.ident.Qualident.{Qualident}
use Rattle.ob_tree.specs.declared.expr.Relation.{Relation}
use Rattle.ob_tree.specs.declared.expr.Sign.{Sign}
use Rattle.ob_tree.specs.declared.expr.Expr.{Expr}
use Rattle.ob_tree.specs.declared.expr.Expr.TheVariants as e
use Rattle.ob_tree.specs.declared.expr.Tail.{Tail}
use Rattle.ob_tree.specs.declared.expr.Element.{Element, roll-Element}
use Rattle.ob_tree.specs.declared.expr.Designator.{Designator, roll-Designator}
use Rattle.ob_tree.specs.declared.expr.Selector.{Selector}
use Rattle.ob_tree.specs.declared.expr.Selector.TheVariants as sel
use Rattle.ob_tree.specs.declared.expr.Expr.TheOpen.{Expr-F, Selector-F}
use Rattle.ob_tree.specs.declared.expr.Expr.TheFolds.{fold-roll-Expr, fold-roll-Selector, fold-roll-Designator, fold-roll-Element, fold-roll-Tail}
use Rattle.ob_tree.specs.declared.stmt.Stmt.{Stmt}
use Rattle.ob_tree.specs.declared.stmt.Stmt.TheVariants as st
use Rattle.ob_tree.specs.declared.stmt.Branch.{Branch, roll-Branch}
use Rattle.ob_tree.specs.declared.stmt.Case.{Case, roll-Case}
use Rattle.ob_tree.specs.declared.stmt.GuardedBranch.{GuardedBranch, roll-GuardedBranch}
use Rattle.ob_tree.specs.declared.stmt.Guard.{Guard}
use Rattle.ob_tree.specs.declared.stmt.Stmt.TheOpen.{Stmt-F}
use Rattle.ob_tree.specs.declared.stmt.Stmt.TheFolds.{fold-roll-Stmt, fold-roll-Branch, fold-roll-Case, fold-roll-GuardedBranch}
use Rattle.ob_tree.specs.declared.type_node.TypeNode.{TypeNode}
use Rattle.ob_tree.specs.declared.type_node.TypeNode.TheVariants as node
use Rattle.ob_tree.specs.declared.type_node.FieldList.{FieldList, roll-FieldList}
use Rattle.ob_tree.specs.declared.type_node.FormalPars.{FormalPars, roll-FormalPars}
use Rattle.ob_tree.specs.declared.type_node.Section.{Section, roll-Section}
use Rattle.ob_tree.specs.declared.type_node.TypeNode.TheOpen.{TypeNode-F, FieldList-F, FormalPars-F, Section-F}
use Rattle.ob_tree.specs.declared.type_node.TypeNode.TheFolds.{fold-roll-TypeNode, fold-roll-FieldList, fold-roll-FormalPars, fold-roll-Section}
use Rattle.ob_tree.specs.declared.decl.Heading.{Heading}
use Rattle.ob_tree.specs.declared.decl.Decl.{Decl}
use Rattle.ob_tree.specs.declared.decl.Decl.TheVariants as d
use Rattle.ob_tree.specs.declared.decl.Decl.TheOpen.{Decl-F}
use Rattle.ob_tree.specs.declared.decl.Decl.TheFolds.{fold-roll-Decl}
use Rattle.ob_parse_grammar.specs.Expressions as ex
use Rattle.ob_parse_grammar.specs.Expressions.{joined}
use Rattle.law_typing.specs.Spelled.{all_true, are_bytes, expr_layer, selector_layer, designator_layer, element_layer, tail_layer, is_spelled, designator_spelled, element_spelled, tail_spelled, selector_spelled}
use Rattle.law_typing.specs.Bodies.{spelled_if, stmt_layer, branch_layer, case_layer, guarded_layer, stmt_spelled, branch_spelled, case_spelled, guarded_spelled}
use Rattle.law_body_context.specs.Spelled.{node_layer, fields_layer, parameters_layer, section_layer, type_spelled, fields_spelled, parameters_spelled, section_spelled, decl_layer, decl_spelled}
use Rattle.law_lists.proofs.Lists.{all_both, both_true}

-- ---- folds of what the grammar makes: expressions

pub designator_expr : (n : Designator) → is_spelled (e.Designator n) ≡ designator_spelled n
designator_expr n = ap is_spelled (sym (e.rolls-Designator n)) ∙ fold-roll-Expr Bool Bool Bool Bool Bool expr_layer selector_layer designator_layer element_layer tail_layer (Expr-F.Designator n)

pub int_is : (at : Pos) (t : List ℕ) → is_spelled (e.Int at t) ≡ true
int_is at t = ap is_spelled (sym (e.rolls-Int at t)) ∙ fold-roll-Expr Bool Bool Bool Bool Bool expr_layer selector_layer designator_layer element_layer tail_layer (Expr-F.Int at t)

pub char_is : (at : Pos) (t : List ℕ) → is_spelled (e.Char at t) ≡ true
char_is at t = ap is_spelled (sym (e.rolls-Char at t)) ∙ fold-roll-Expr Bool Bool Bool Bool Bool expr_layer selector_layer designator_layer element_layer tail_layer (Expr-F.Char at t)

pub str_is : (at : Pos) (t : List ℕ) → is_spelled (e.Str at t) ≡ are_bytes t
str_is at t = ap is_spelled (sym (e.rolls-Str at t)) ∙ fold-roll-Expr Bool Bool Bool Bool Bool expr_layer selector_layer designator_layer element_layer tail_layer (Expr-F.Str at t)

pub nil_is : (at : Pos) → is_spelled (e.Nil at) ≡ true
nil_is at = ap is_spelled (sym (e.rolls-Nil at)) ∙ fold-roll-Expr Bool Bool Bool Bool Bool expr_layer selector_layer designator_layer element_layer tail_layer (Expr-F.Nil at)

pub set_is : (at : Pos) (xs : List Element) → is_spelled (e.Set at xs) ≡ all_true (map element_spelled xs)
set_is at xs = ap is_spelled (sym (e.rolls-Set at xs)) ∙ fold-roll-Expr Bool Bool Bool Bool Bool expr_layer selector_layer designator_layer element_layer tail_layer (Expr-F.Set at xs)

pub paren_is : (at : Pos) (x : Expr) → is_spelled (e.Paren at x) ≡ is_spelled x
paren_is at x = ap is_spelled (sym (e.rolls-Paren at x)) ∙ fold-roll-Expr Bool Bool Bool Bool Bool expr_layer selector_layer designator_layer element_layer tail_layer (Expr-F.Paren at x)

pub not_is : (at : Pos) (x : Expr) → is_spelled (e.Not at x) ≡ is_spelled x
not_is at x = ap is_spelled (sym (e.rolls-Not at x)) ∙ fold-roll-Expr Bool Bool Bool Bool Bool expr_layer selector_layer designator_layer element_layer tail_layer (Expr-F.Not at x)

pub signed_is : (z : Sign) (at : Pos) (x : Expr) → is_spelled (e.Signed z at x) ≡ is_spelled x
signed_is z at x = ap is_spelled (sym (e.rolls-Signed z at x)) ∙ fold-roll-Expr Bool Bool Bool Bool Bool expr_layer selector_layer designator_layer element_layer tail_layer (Expr-F.Signed z at x)

pub chain_is : (x : Expr) (ts : List Tail) → is_spelled (e.Chain x ts) ≡ is_spelled x && all_true (map tail_spelled ts)
chain_is x ts = ap is_spelled (sym (e.rolls-Chain x ts)) ∙ fold-roll-Expr Bool Bool Bool Bool Bool expr_layer selector_layer designator_layer element_layer tail_layer (Expr-F.Chain x ts)

pub relate_is : (l : Expr) (op : Relation) (at : Pos) (r : Expr) → is_spelled (e.Relate l op at r) ≡ is_spelled l && is_spelled r
relate_is l op at r = ap is_spelled (sym (e.rolls-Relate l op at r)) ∙ fold-roll-Expr Bool Bool Bool Bool Bool expr_layer selector_layer designator_layer element_layer tail_layer (Expr-F.Relate l op at r)

pub field_is : (at : Pos) (x : Ident) → selector_spelled (sel.Field at x) ≡ true
field_is at x = ap selector_spelled (sym (sel.rolls-Field at x)) ∙ fold-roll-Selector Bool Bool Bool Bool Bool expr_layer selector_layer designator_layer element_layer tail_layer (Selector-F.Field at x)

pub index_is : (at : Pos) (i : Expr) → selector_spelled (sel.Index at i) ≡ is_spelled i
index_is at i = ap selector_spelled (sym (sel.rolls-Index at i)) ∙ fold-roll-Selector Bool Bool Bool Bool Bool expr_layer selector_layer designator_layer element_layer tail_layer (Selector-F.Index at i)

pub deref_is : (at : Pos) → selector_spelled (sel.Deref at) ≡ true
deref_is at = ap selector_spelled (sym (sel.rolls-Deref at)) ∙ fold-roll-Selector Bool Bool Bool Bool Bool expr_layer selector_layer designator_layer element_layer tail_layer (Selector-F.Deref at)

pub call_is : (at : Pos) (xs : List Expr) → selector_spelled (sel.Call at xs) ≡ all_true (map is_spelled xs)
call_is at xs = ap selector_spelled (sym (sel.rolls-Call at xs)) ∙ fold-roll-Selector Bool Bool Bool Bool Bool expr_layer selector_layer designator_layer element_layer tail_layer (Selector-F.Call at xs)

pub designator_is : (i : Ident) (ss : List Selector) → designator_spelled (roll-Designator (record { ident = i; selectors = ss })) ≡ all_true (map selector_spelled ss)
designator_is i ss = fold-roll-Designator Bool Bool Bool Bool Bool expr_layer selector_layer designator_layer element_layer tail_layer (record { ident = i; selectors = ss })

pub element_is : (l : Expr) (o : Option Expr) → element_spelled (roll-Element (record { low = l; high = o })) ≡ is_spelled l && spelled_if o
element_is l None = fold-roll-Element Bool Bool Bool Bool Bool expr_layer selector_layer designator_layer element_layer tail_layer (record { low = l; high = None })
element_is l (Some x) = fold-roll-Element Bool Bool Bool Bool Bool expr_layer selector_layer designator_layer element_layer tail_layer (record { low = l; high = Some x })

pub tail_is : (x : Token × Expr) → tail_spelled (ex.tail_of x) ≡ is_spelled x.1
tail_is x = fold-roll-Tail Bool Bool Bool Bool Bool expr_layer selector_layer designator_layer element_layer tail_layer (record { operator = ex.operator_of x.0.symbol; pos = x.0.pos; operand = x.1 })

-- ---- statements

-- those of an ELSE
abbrev pub else_spelled : Option (List Stmt) → Bool
else_spelled None = true
else_spelled (Some ss) = all_true (map stmt_spelled ss)

pub empty_is : stmt_spelled st.Empty ≡ true
empty_is = ap stmt_spelled (sym st.rolls-Empty) ∙ fold-roll-Stmt Bool Bool Bool Bool stmt_layer branch_layer case_layer guarded_layer Stmt-F.Empty

pub call_stmt_is : (n : Designator) → stmt_spelled (st.Call n) ≡ designator_spelled n
call_stmt_is n = ap stmt_spelled (sym (st.rolls-Call n)) ∙ fold-roll-Stmt Bool Bool Bool Bool stmt_layer branch_layer case_layer guarded_layer (Stmt-F.Call n)

pub assign_is : (n : Designator) (at : Pos) (x : Expr) → stmt_spelled (st.Assign n at x) ≡ designator_spelled n && is_spelled x
assign_is n at x = ap stmt_spelled (sym (st.rolls-Assign n at x)) ∙ fold-roll-Stmt Bool Bool Bool Bool stmt_layer branch_layer case_layer guarded_layer (Stmt-F.Assign n at x)

pub if_is : (at : Pos) (bs : List Branch) (o : Option (List Stmt)) → stmt_spelled (st.If at bs o) ≡ all_true (map branch_spelled bs) && else_spelled o
if_is at bs None = ap stmt_spelled (sym (st.rolls-If at bs None)) ∙ fold-roll-Stmt Bool Bool Bool Bool stmt_layer branch_layer case_layer guarded_layer (Stmt-F.If at bs None)
if_is at bs (Some ss) = ap stmt_spelled (sym (st.rolls-If at bs (Some ss))) ∙ fold-roll-Stmt Bool Bool Bool Bool stmt_layer branch_layer case_layer guarded_layer (Stmt-F.If at bs (Some ss))

pub case_stmt_is : (at : Pos) (x : Expr) (cs : List Case) (o : Option (List Stmt)) → stmt_spelled (st.Case at x cs o) ≡ is_spelled x && (all_true (map case_spelled cs) && else_spelled o)
case_stmt_is at x cs None = ap stmt_spelled (sym (st.rolls-Case at x cs None)) ∙ fold-roll-Stmt Bool Bool Bool Bool stmt_layer branch_layer case_layer guarded_layer (Stmt-F.Case at x cs None)
case_stmt_is at x cs (Some ss) = ap stmt_spelled (sym (st.rolls-Case at x cs (Some ss))) ∙ fold-roll-Stmt Bool Bool Bool Bool stmt_layer branch_layer case_layer guarded_layer (Stmt-F.Case at x cs (Some ss))

pub while_is : (at : Pos) (x : Expr) (ss : List Stmt) → stmt_spelled (st.While at x ss) ≡ is_spelled x && all_true (map stmt_spelled ss)
while_is at x ss = ap stmt_spelled (sym (st.rolls-While at x ss)) ∙ fold-roll-Stmt Bool Bool Bool Bool stmt_layer branch_layer case_layer guarded_layer (Stmt-F.While at x ss)

pub repeat_is : (at : Pos) (ss : List Stmt) (x : Expr) → stmt_spelled (st.Repeat at ss x) ≡ is_spelled x && all_true (map stmt_spelled ss)
repeat_is at ss x = ap stmt_spelled (sym (st.rolls-Repeat at ss x)) ∙ fold-roll-Stmt Bool Bool Bool Bool stmt_layer branch_layer case_layer guarded_layer (Stmt-F.Repeat at ss x)

pub for_is : (at : Pos) (x : Ident) (a b : Expr) (o : Option Expr) (ss : List Stmt) → stmt_spelled (st.For at x a b o ss) ≡ is_spelled a && (is_spelled b && (spelled_if o && all_true (map stmt_spelled ss)))
for_is at x a b o ss = ap stmt_spelled (sym (st.rolls-For at x a b o ss)) ∙ fold-roll-Stmt Bool Bool Bool Bool stmt_layer branch_layer case_layer guarded_layer (Stmt-F.For at x a b o ss)

pub loop_is : (at : Pos) (ss : List Stmt) → stmt_spelled (st.Loop at ss) ≡ all_true (map stmt_spelled ss)
loop_is at ss = ap stmt_spelled (sym (st.rolls-Loop at ss)) ∙ fold-roll-Stmt Bool Bool Bool Bool stmt_layer branch_layer case_layer guarded_layer (Stmt-F.Loop at ss)

pub exit_is : (at : Pos) → stmt_spelled (st.Exit at) ≡ true
exit_is at = ap stmt_spelled (sym (st.rolls-Exit at)) ∙ fold-roll-Stmt Bool Bool Bool Bool stmt_layer branch_layer case_layer guarded_layer (Stmt-F.Exit at)

pub return_is : (at : Pos) (o : Option Expr) → stmt_spelled (st.Return at o) ≡ spelled_if o
return_is at o = ap stmt_spelled (sym (st.rolls-Return at o)) ∙ fold-roll-Stmt Bool Bool Bool Bool stmt_layer branch_layer case_layer guarded_layer (Stmt-F.Return at o)

pub with_is : (at : Pos) (bs : List GuardedBranch) (o : Option (List Stmt)) → stmt_spelled (st.With at bs o) ≡ all_true (map guarded_spelled bs) && else_spelled o
with_is at bs None = ap stmt_spelled (sym (st.rolls-With at bs None)) ∙ fold-roll-Stmt Bool Bool Bool Bool stmt_layer branch_layer case_layer guarded_layer (Stmt-F.With at bs None)
with_is at bs (Some ss) = ap stmt_spelled (sym (st.rolls-With at bs (Some ss))) ∙ fold-roll-Stmt Bool Bool Bool Bool stmt_layer branch_layer case_layer guarded_layer (Stmt-F.With at bs (Some ss))

pub branch_is : (x : Expr) (ss : List Stmt) → branch_spelled (roll-Branch (record { test = x; body = ss })) ≡ is_spelled x && all_true (map stmt_spelled ss)
branch_is x ss = fold-roll-Branch Bool Bool Bool Bool stmt_layer branch_layer case_layer guarded_layer (record { test = x; body = ss })

pub case_is : (ls : List Element) (ss : List Stmt) → case_spelled (roll-Case (record { labels = ls; body = ss })) ≡ all_true (map stmt_spelled ss)
case_is ls ss = fold-roll-Case Bool Bool Bool Bool stmt_layer branch_layer case_layer guarded_layer (record { labels = ls; body = ss })

pub guarded_is : (x : Guard) (ss : List Stmt) → guarded_spelled (roll-GuardedBranch (record { guard = x; body = ss })) ≡ all_true (map stmt_spelled ss)
guarded_is x ss = fold-roll-GuardedBranch Bool Bool Bool Bool stmt_layer branch_layer case_layer guarded_layer (record { guard = x; body = ss })

-- ---- types

pub array_is : (at : Pos) (ls : List Expr) (x : TypeNode) → type_spelled (node.Array at ls x) ≡ all_true (map is_spelled ls) && type_spelled x
array_is at ls x = ap type_spelled (sym (node.rolls-Array at ls x)) ∙ fold-roll-TypeNode Bool Bool Bool Bool node_layer fields_layer parameters_layer section_layer (TypeNode-F.Array at ls x)

pub record_is : (at : Pos) (b : Option Qualident) (fs : List FieldList) → type_spelled (node.Record at b fs) ≡ all_true (map fields_spelled fs)
record_is at b fs = ap type_spelled (sym (node.rolls-Record at b fs)) ∙ fold-roll-TypeNode Bool Bool Bool Bool node_layer fields_layer parameters_layer section_layer (TypeNode-F.Record at b fs)

pub pointer_is : (at : Pos) (x : TypeNode) → type_spelled (node.Pointer at x) ≡ type_spelled x
pointer_is at x = ap type_spelled (sym (node.rolls-Pointer at x)) ∙ fold-roll-TypeNode Bool Bool Bool Bool node_layer fields_layer parameters_layer section_layer (TypeNode-F.Pointer at x)

pub procedure_is : (at : Pos) (p : FormalPars) → type_spelled (node.Procedure at p) ≡ parameters_spelled p
procedure_is at p = ap type_spelled (sym (node.rolls-Procedure at p)) ∙ fold-roll-TypeNode Bool Bool Bool Bool node_layer fields_layer parameters_layer section_layer (TypeNode-F.Procedure at p)

pub named_is : (q : Qualident) → type_spelled (node.Named q) ≡ true
named_is q = ap type_spelled (sym (node.rolls-Named q)) ∙ fold-roll-TypeNode Bool Bool Bool Bool node_layer fields_layer parameters_layer section_layer (TypeNode-F.Named q)

pub fields_are : (l : FieldList-F TypeNode FieldList FormalPars Section) → fields_spelled (roll-FieldList l) ≡ type_spelled l.node
fields_are l = fold-roll-FieldList Bool Bool Bool Bool node_layer fields_layer parameters_layer section_layer l

pub parameters_are : (p : FormalPars-F TypeNode FieldList FormalPars Section) → parameters_spelled (roll-FormalPars p) ≡ all_true (map section_spelled p.sections)
parameters_are p = fold-roll-FormalPars Bool Bool Bool Bool node_layer fields_layer parameters_layer section_layer p

pub section_is : (x : Section-F TypeNode FieldList FormalPars Section) → section_spelled (roll-Section x) ≡ type_spelled x.node
section_is x = fold-roll-Section Bool Bool Bool Bool node_layer fields_layer parameters_layer section_layer x

-- ---- declarations

pub constant_is : (n : IdentDef) (x : Expr) → decl_spelled (d.Constant n x) ≡ is_spelled x
constant_is n x = ap decl_spelled (sym (d.rolls-Constant n x)) ∙ fold-roll-Decl Bool decl_layer (Decl-F.Constant n x)

pub type_is : (n : IdentDef) (x : TypeNode) → decl_spelled (d.NamedType n x) ≡ type_spelled x
type_is n x = ap decl_spelled (sym (d.rolls-NamedType n x)) ∙ fold-roll-Decl Bool decl_layer (Decl-F.NamedType n x)

pub variables_are : (ns : List IdentDef) (x : TypeNode) → decl_spelled (d.Variables ns x) ≡ type_spelled x
variables_are ns x = ap decl_spelled (sym (d.rolls-Variables ns x)) ∙ fold-roll-Decl Bool decl_layer (Decl-F.Variables ns x)

pub procedure_decl_is : (h : Heading) (ds : List Decl) (body : List Stmt) (c : Ident) → decl_spelled (d.Procedure h ds body c) ≡ parameters_spelled h.parameters && (all_true (map decl_spelled ds) && all_true (map stmt_spelled body))
procedure_decl_is h ds body c = ap decl_spelled (sym (d.rolls-Procedure h ds body c)) ∙ fold-roll-Decl Bool decl_layer (Decl-F.Procedure h ds body c)

pub forward_is : (h : Heading) → decl_spelled (d.Forward h) ≡ parameters_spelled h.parameters
forward_is h = ap decl_spelled (sym (d.rolls-Forward h)) ∙ fold-roll-Decl Bool decl_layer (Decl-F.Forward h)

-- ---- lists

abbrev pub All : {A : Type 0} → (A → Bool) → List A → Type 0
All f xs = AllByRecursion (λ x. f x ≡ true) xs

pub all_of : {A : Type 0} (f : A → Bool) (xs : List A) → All f xs → all_true (map f xs) ≡ true
all_of f [] h = refl
all_of f (x ∷ xs) h = both_true (f x) (all_true (map f xs)) h.0 (all_of f xs h.1)

pub all_joined : {A : Type 0} (P : A → Type 0) (xss : List (List A)) → AllByRecursion (λ xs. AllByRecursion P xs) xss → AllByRecursion P (joined xss)
all_joined P [] h = tt
all_joined P (xs ∷ xss) h = all_both P xs (joined xss) h.0 (all_joined P xss h.1)
