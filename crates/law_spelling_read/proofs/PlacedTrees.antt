-- The places and the strings in a module that is read fit.
use Rattle.std.proofs.Common.{◌≡◌, ◌⊎◌, inl, inr, ℕ, zero, suc, ◌<◌, ◌^◌, true, List, [], ◌∷◌, ◌++◌, length, map, Option, Some, None, Result, Ok, Err, refl, sym, subst, ◌∙◌, arith}
use Rattle.std.specs.Prelude.{◌&&◌, IfSome}
use Rattle.std.specs.List.{AllByRecursion}
use Rattle.ob_tree.specs.declared.symbol.Symbol.{Symbol}
use Rattle.ob_tree.specs.declared.symbol.Symbol.TheVariants as s
use Rattle.ob_tree.specs.declared.token.Token.{Token}
use Rattle.ob_tree.specs.declared.ident.Ident.{Ident}
use Rattle.ob_tree.specs.declared.ident.IdentDef.{IdentDef}
use Rattle.ob_tree.specs.declared.ident.Qualident.{Qualident}
use Rattle.ob_tree.specs.declared.expr.Expr.{Expr}
use Rattle.ob_tree.specs.declared.expr.Tail.{Tail}
use Rattle.ob_tree.specs.declared.expr.Element.{Element}
use Rattle.ob_tree.specs.declared.expr.Designator.{Designator}
use Rattle.ob_tree.specs.declared.expr.Selector.{Selector}
use Rattle.ob_tree.specs.declared.stmt.Stmt.{Stmt}
use Rattle.ob_tree.specs.declared.stmt.Branch.{Branch}
use Rattle.ob_tree.specs.declared.stmt.Case.{Case}
use Rattle.ob_tree.specs.declared.stmt.Guard.{Guard}
use Rattle.ob_tree.specs.declared.stmt.GuardedBranch.{GuardedBranch}
use Rattle.ob_tree.specs.declared.decl.Heading.{Heading}
use Rattle.ob_tree.specs.declared.decl.Decl.{Decl}
use Rattle.ob_tree.specs.declared.decl.Module.{Module as Module}
use Rattle.ob_scan.specs.declared.fault.ScanFault.{ScanFault}
use Rattle.ob_scan.specs.Scanning.{Input, start_of}
use Rattle.ob_parse_grammar.specs.Phrase.{Tokens, Nest, AnExpr, AType, Statements, Negated, Procedure, Tree, Phrase, nest}
use Rattle.ob_parse_grammar.specs.Expressions as ex
use Rattle.ob_parse_grammar.specs.Expressions.{next_of, separated, list_of, exprs}
use Rattle.ob_parse_grammar.specs.Statements as sa
use Rattle.ob_parse_grammar.specs.Declarations as de
use Rattle.ob_parse_grammar.specs.Reading.{Read, Found, Fails, Wrong, Deep}
use Rattle.ob_parse_grammar.specs.Grammar.{rule, IsVoid, reads, spells}
use Rattle.ob_parse_grammar.proofs.Verdicts.{verdict}
use Rattle.ob_parse_grammar.specs.Depth.{limit}
use Rattle.ob_parse_grammar.specs.Texts.{tokens_of}
use Rattle.ob_parse_grammar.specs.TextReading.{NoModule, fault_of, parsed, by_fault, reading}
use Rattle.law_spelling.proofs.Phrases.{Holds, holds}
use Rattle.law_typing.specs.Spelled.{all_true}
use Rattle.law_spelling_read.proofs.Folds.{All, all_of, all_joined}
use Rattle.law_spelling_read.proofs.Marks.{is_str, tokens_spelled}
use Rattle.law_spelling_read.specs.ReadPlaces.{pos_fits, text_fits, expr_fits, designator_fits, element_fits, tail_fits, selector_fits, fits_if, name_fits, stmt_fits, branch_fits, case_fits, guarded_fits, decl_fits, tree_fits}
use Rattle.law_spelling_read.specs.PlacedLaws.{ReadingsArePlaced}
use Rattle.law_spelling_read.proofs.Tokens.{IsToken, Room, tokens_placed, both_all, string_fits}
use Rattle.law_spelling_read.proofs.PlacedFolds.{designator_expr, int_is, char_is, str_is, nil_is, set_is, paren_is, not_is, signed_is, chain_is, relate_is, field_is, index_is, deref_is, call_is, designator_is, element_is, tail_is, else_fits, empty_is, call_stmt_is, assign_is, if_is, case_stmt_is, while_is, repeat_is, for_is, loop_is, exit_is, return_is, with_is, branch_is, case_is, guarded_is, constant_is, type_is, variables_are, procedure_decl_is, forward_is}
use Rattle.law_lists.proofs.Lists.{all_both, all_from, both_true}

-- ---- phrases

abbrev PN : (n : Nest) → Tree n → Type 0
PN AnExpr x = expr_fits x ≡ true
PN AType x = Unit {0}
PN Statements xs = All stmt_fits xs
PN Negated x = expr_fits x ≡ true
PN Procedure x = decl_fits x ≡ true

abbrev H : {A : Type 0} → Phrase A → A → Type 0
H p x = Holds IsToken PN p x

-- items with symbols between them
next_all : {A : Type 0} (by : Symbol) (p : Phrase A) (Q : A → Type 0) → ((x : A) → H p x → Q x) → (xs : List A) → AllByRecursion (λ x. H (next_of by p) x) xs → AllByRecursion Q xs
next_all by p Q f [] h = tt
next_all by p Q f (x ∷ xs) h = (subst Q h.0.1 (f h.0.0.1 h.0.2.1), next_all by p Q f xs h.1)

separated_all : {A : Type 0} (by : Symbol) (p : Phrase A) (Q : A → Type 0) → ((x : A) → H p x → Q x) → (xs : List A) → H (separated by p) xs → AllByRecursion Q xs
separated_all by p Q f xs h = subst (AllByRecursion Q) h.1 (f h.0.0 h.2.0, next_all by p Q f h.0.1 h.2.1)

-- a name
IsIdent : Ident → Type 0
IsIdent x = pos_fits x.pos ≡ true

ident_ok : (x : Ident) → H ex.ident x → IsIdent x
unfolding IsIdent
ident_ok x h = subst (λ (x : Ident). pos_fits x.pos ≡ true) h.1 h.2.1.1.place

def_ok : (x : IdentDef) → H ex.ident_def x → pos_fits x.ident.pos ≡ true
unfolding IsIdent
def_ok x h = subst (λ (x : IdentDef). pos_fits x.ident.pos ≡ true) h.1 (go h.0.0 h.0.1 (ident_ok h.0.0 h.2.0))
  where
    go : (i : Ident) (o : Option Token) → pos_fits i.pos ≡ true → pos_fits (ex.ident_def_of (i, o)).ident.pos ≡ true
    go i None k = k
    go i (Some t) k = k

qualident_ok : (q : Qualident) → H ex.qualident q → name_fits q ≡ true
unfolding IsIdent
qualident_ok q h = subst (λ (q : Qualident). name_fits q ≡ true) h.1 (go h.0.0 h.0.1 (ident_ok h.0.0 h.2.0) h.2.1)
  where
    go : (i : Ident) (o : Option Ident) → pos_fits i.pos ≡ true → IfSome o (λ x. H (next_of s.Dot ex.ident) x) → name_fits (ex.qualident_of (i, o)) ≡ true
    go i None k m = k
    go i (Some j) k m = both_true (pos_fits i.pos) (pos_fits j.pos) k (subst (λ (x : Ident). pos_fits x.pos ≡ true) m.1 (ident_ok m.0.1 m.2.1))

-- ---- expressions

abbrev IsExpr : Expr → Type 0
IsExpr x = expr_fits x ≡ true

exprs_all : (xs : List Expr) → H exprs xs → All expr_fits xs
exprs_all xs h = separated_all s.Comma (nest AnExpr) IsExpr (λ x k. k) xs h

exprs_if : (o : Option (List Expr)) → IfSome o (λ xs. H exprs xs) → All expr_fits (list_of o)
exprs_if None h = tt
exprs_if (Some xs) h = exprs_all xs h

next_if : (by : Symbol) (o : Option Expr) → IfSome o (λ x. H (next_of by (nest AnExpr)) x) → fits_if o ≡ true
next_if by None h = refl
next_if by (Some x) h = subst IsExpr h.1 h.2.1

abbrev Selectors : List Selector → Type 0
Selectors xs = All selector_fits xs

further_ok : (x : Selector) → H ex.further_index x → selector_fits x ≡ true
further_ok x h = let y = h.0 in subst (λ (x : Selector). selector_fits x ≡ true) h.1 (index_is y.0.pos y.1 ∙ both_true (pos_fits y.0.pos) (expr_fits y.1) h.2.0.1.1.place h.2.1)

selector_ok : (xs : List Selector) → H ex.selector xs → Selectors xs
selector_ok xs (inl h) = subst Selectors h.1 (field_is h.0.0.pos h.0.1 ∙ h.2.0.1.1.place, tt)
selector_ok xs (inr (inl h)) = let y = h.0 in subst Selectors h.1 (index_is y.0.pos y.1.0 ∙ both_true (pos_fits y.0.pos) (expr_fits y.1.0) h.2.0.1.1.place h.2.1.0, all_from (λ x. H ex.further_index x) (λ x. selector_fits x ≡ true) further_ok y.1.1.0 h.2.1.1.0)
selector_ok xs (inr (inr (inl h))) = subst Selectors h.1 (deref_is h.0.pos ∙ h.2.1.1.place, tt)
selector_ok xs (inr (inr (inr h))) = let y = h.0 in subst Selectors h.1 (call_is y.0.pos (list_of y.1.0) ∙ both_true (pos_fits y.0.pos) (all_true (map expr_fits (list_of y.1.0))) h.2.0.1.1.place (all_of expr_fits (list_of y.1.0) (exprs_if y.1.0 h.2.1.0)), tt)

selectors_ok : (xs : List Selector) → H ex.selectors xs → Selectors xs
selectors_ok xs h = subst Selectors h.1 (all_joined (λ x. selector_fits x ≡ true) h.0 (all_from (λ xs. H ex.selector xs) Selectors selector_ok h.0 h.2))

designator_ok : (n : Designator) → H ex.designator n → designator_fits n ≡ true
unfolding IsIdent
designator_ok n h = let y = h.0 in subst (λ (n : Designator). designator_fits n ≡ true) h.1 (designator_is y.0 y.1 ∙ both_true (pos_fits y.0.pos) (all_true (map selector_fits y.1)) (ident_ok y.0 h.2.0) (all_of selector_fits y.1 (selectors_ok y.1 h.2.1)))

element_ok : (x : Element) → H ex.element x → element_fits x ≡ true
element_ok x h = let y = h.0 in subst (λ (x : Element). element_fits x ≡ true) h.1 (element_is y.0 y.1 ∙ both_true (expr_fits y.0) (fits_if y.1) h.2.0 (next_if s.DotDot y.1 h.2.1))

elements_ok : (xs : List Element) → H ex.elements xs → All element_fits xs
elements_ok xs h = separated_all s.Comma ex.element (λ x. element_fits x ≡ true) element_ok xs h

elements_if : (o : Option (List Element)) → IfSome o (λ xs. H ex.elements xs) → All element_fits (list_of o)
elements_if None h = tt
elements_if (Some xs) h = elements_ok xs h

str_symbol : {x : Symbol} → s.Str ≡ x → is_str (Some x) ≡ true
str_symbol i = subst (λ (x : Symbol). is_str (Some x) ≡ true) i refl

factor_ok : (x : Expr) → H ex.factor x → IsExpr x
factor_ok x (inl h) = subst IsExpr h.1 (designator_expr h.0 ∙ designator_ok h.0 h.2)
factor_ok x (inr (inl h)) = subst IsExpr h.1 (int_is h.0.pos h.0.text.now ∙ h.2.1.1.place)
factor_ok x (inr (inr (inl h))) = subst IsExpr h.1 (char_is h.0.pos h.0.text.now ∙ h.2.1.1.place)
factor_ok x (inr (inr (inr (inl h)))) = let t : Token = h.0 in subst IsExpr h.1 (str_is t.pos (ex.between_marks t.text.now) ∙ both_true (pos_fits t.pos) (text_fits (ex.between_marks t.text.now)) h.2.1.1.place (string_fits t h.2.1 (str_symbol (sym h.2.0))))
factor_ok x (inr (inr (inr (inr (inl h))))) = subst IsExpr h.1 (nil_is h.0.pos ∙ h.2.1.1.place)
factor_ok x (inr (inr (inr (inr (inr (inl h)))))) = let y = h.0 in subst IsExpr h.1 (set_is y.0.pos (list_of y.1.0) ∙ both_true (pos_fits y.0.pos) (all_true (map element_fits (list_of y.1.0))) h.2.0.1.1.place (all_of element_fits (list_of y.1.0) (elements_if y.1.0 h.2.1.0)))
factor_ok x (inr (inr (inr (inr (inr (inr (inl h))))))) = let y = h.0 in subst IsExpr h.1 (paren_is y.0.pos y.1.0 ∙ both_true (pos_fits y.0.pos) (expr_fits y.1.0) h.2.0.1.1.place h.2.1.0)
factor_ok x (inr (inr (inr (inr (inr (inr (inr h))))))) = h

negated_ok : (x : Expr) → H ex.negated x → IsExpr x
negated_ok x h = let y = h.0 in subst IsExpr h.1 (not_is y.0.pos y.1 ∙ both_true (pos_fits y.0.pos) (expr_fits y.1) h.2.0.1.1.place (factor_ok y.1 h.2.1))

chained : (a : Expr) (ts : List Tail) → IsExpr a → All tail_fits ts → IsExpr (ex.chain_of (a, ts))
chained a [] h k = h
chained a (t ∷ ts) h k = chain_is a (t ∷ ts) ∙ both_true (expr_fits a) (all_true (map tail_fits (t ∷ ts))) h (all_of tail_fits (t ∷ ts) k)

-- the places of operators
abbrev At : Token → Type 0
At t = pos_fits t.pos ≡ true

mul_at : (t : Token) → H ex.mul_op t → At t
mul_at t (inl h) = h.1.1.place
mul_at t (inr (inl h)) = h.1.1.place
mul_at t (inr (inr (inl h))) = h.1.1.place
mul_at t (inr (inr (inr (inl h)))) = h.1.1.place
mul_at t (inr (inr (inr (inr h)))) = h.1.1.place

add_at : (t : Token) → H ex.add_op t → At t
add_at t (inl h) = h.1.1.place
add_at t (inr (inl h)) = h.1.1.place
add_at t (inr (inr h)) = h.1.1.place

sign_at : (t : Token) → H ex.sign_symbol t → At t
sign_at t (inl h) = h.1.1.place
sign_at t (inr h) = h.1.1.place

relation_at : (t : Token) → H ex.relation t → At t
relation_at t (inl h) = h.1.1.place
relation_at t (inr (inl h)) = h.1.1.place
relation_at t (inr (inr (inl h))) = h.1.1.place
relation_at t (inr (inr (inr (inl h)))) = h.1.1.place
relation_at t (inr (inr (inr (inr (inl h))))) = h.1.1.place
relation_at t (inr (inr (inr (inr (inr (inl h)))))) = h.1.1.place
relation_at t (inr (inr (inr (inr (inr (inr (inl h))))))) = h.1.1.place
relation_at t (inr (inr (inr (inr (inr (inr (inr h))))))) = h.1.1.place

mul_ok : (t : Tail) → H ex.mul_tail t → tail_fits t ≡ true
mul_ok t h = let y = h.0 in subst (λ (t : Tail). tail_fits t ≡ true) h.1 (tail_is y ∙ both_true (pos_fits y.0.pos) (expr_fits y.1) (mul_at y.0 h.2.0) (factor_ok y.1 h.2.1))

term_ok : (x : Expr) → H ex.term x → IsExpr x
term_ok x h = let y = h.0 in subst IsExpr h.1 (chained y.0 y.1 (factor_ok y.0 h.2.0) (all_from (λ t. H ex.mul_tail t) (λ t. tail_fits t ≡ true) mul_ok y.1 h.2.1))

with_sign : (o : Option Token) (a : Expr) → IfSome o (λ t. H ex.sign_symbol t) → IsExpr a → IsExpr (ex.signed_of (o, a))
with_sign None a k h = h
with_sign (Some t) a k h = signed_is (ex.sign_of t.symbol) t.pos a ∙ both_true (pos_fits t.pos) (expr_fits a) (sign_at t k) h

signed_ok : (x : Expr) → H ex.signed x → IsExpr x
signed_ok x h = let y = h.0 in subst IsExpr h.1 (with_sign y.0 y.1 h.2.0 (term_ok y.1 h.2.1))

add_ok : (t : Tail) → H ex.add_tail t → tail_fits t ≡ true
add_ok t h = let y = h.0 in subst (λ (t : Tail). tail_fits t ≡ true) h.1 (tail_is y ∙ both_true (pos_fits y.0.pos) (expr_fits y.1) (add_at y.0 h.2.0) (term_ok y.1 h.2.1))

simple_ok : (x : Expr) → H ex.simple x → IsExpr x
simple_ok x h = let y = h.0 in subst IsExpr h.1 (chained y.0 y.1 (signed_ok y.0 h.2.0) (all_from (λ t. H ex.add_tail t) (λ t. tail_fits t ≡ true) add_ok y.1 h.2.1))

related : (a : Expr) (o : Option (Token × Expr)) → IsExpr a → IfSome o (λ p. At p.0 × IsExpr p.1) → IsExpr (ex.related_of (a, o))
related a None h k = h
related a (Some p) h k = relate_is a (ex.relation_of p.0.symbol) p.0.pos p.1 ∙ both_true (pos_fits p.0.pos) (expr_fits a && expr_fits p.1) k.0 (both_true (expr_fits a) (expr_fits p.1) h k.1)

expr_ok : (x : Expr) → H ex.expr x → IsExpr x
expr_ok x h = let y = h.0 in subst IsExpr h.1 (related y.0 y.1 (simple_ok y.0 h.2.0) (go y.1 h.2.1))
  where
    go : (o : Option (Token × Expr)) → IfSome o (λ p. H ex.relation p.0 × H ex.simple p.1) → IfSome o (λ p. At p.0 × IsExpr p.1)
    go None k = tt
    go (Some p) k = (relation_at p.0 k.0, simple_ok p.1 k.1)

-- ---- statements

abbrev IsStmt : Stmt → Type 0
IsStmt x = stmt_fits x ≡ true

abbrev Stmts : List Stmt → Type 0
Stmts xs = all_true (map stmt_fits xs) ≡ true

plain_as : (n : Designator) (o : Option (Token × Expr)) → designator_fits n ≡ true → IfSome o (λ p. At p.0 × IsExpr p.1) → IsStmt (sa.plain_of (n, o))
plain_as n None h k = call_stmt_is n ∙ h
plain_as n (Some p) h k = assign_is n p.0.pos p.1 ∙ both_true (pos_fits p.0.pos) (designator_fits n && expr_fits p.1) k.0 (both_true (designator_fits n) (expr_fits p.1) h k.1)

second_if : (o : Option (Token × Expr)) → IfSome o (λ p. ((p.0.symbol ≡ s.Becomes) × IsToken p.0) × IsExpr p.1) → IfSome o (λ p. At p.0 × IsExpr p.1)
second_if None k = tt
second_if (Some p) k = (k.0.1.1.place, k.1)

else_ok : (o : Option (List Stmt)) → H sa.otherwise o → else_fits o ≡ true
else_ok None h = refl
else_ok (Some ss) h = subst Stmts h.1 (all_of stmt_fits h.0.1 h.2.1)

branch_ok : (b : Branch) → H sa.branch b → branch_fits b ≡ true
branch_ok b h = let y = h.0 in subst (λ (b : Branch). branch_fits b ≡ true) h.1 (branch_is y.0 y.1.1 ∙ both_true (expr_fits y.0) (all_true (map stmt_fits y.1.1)) h.2.0 (all_of stmt_fits y.1.1 h.2.1.1))

case_as : (o : Option (List Element × (Token × List Stmt))) → IfSome o (λ x. All element_fits x.0 × All stmt_fits x.1.1) → case_fits (sa.case_of o) ≡ true
case_as None h = case_is [] []
case_as (Some x) h = case_is x.0 x.1.1 ∙ both_true (all_true (map element_fits x.0)) (all_true (map stmt_fits x.1.1)) (all_of element_fits x.0 h.0) (all_of stmt_fits x.1.1 h.1)

case_ok : (c : Case) → H sa.case_branch c → case_fits c ≡ true
case_ok c h = subst (λ (c : Case). case_fits c ≡ true) h.1 (case_as h.0 (go h.0 h.2))
  where
    go : (o : Option (List Element × (Token × List Stmt))) → IfSome o (λ x. H sa.labelled x) → IfSome o (λ x. All element_fits x.0 × All stmt_fits x.1.1)
    go None k = tt
    go (Some x) k = (elements_ok x.0 k.0, k.1.1)

guard_ok : (g : Guard) → H sa.guard g → name_fits g.variable ≡ true
guard_ok g h = subst (λ (g : Guard). name_fits g.variable ≡ true) h.1 (qualident_ok h.0.0 h.2.0)

guarded_ok : (b : GuardedBranch) → H sa.guarded b → guarded_fits b ≡ true
guarded_ok b h = let y = h.0 in subst (λ (b : GuardedBranch). guarded_fits b ≡ true) h.1 (guarded_is y.0 y.1.1 ∙ both_true (name_fits y.0.variable) (all_true (map stmt_fits y.1.1)) (guard_ok y.0 h.2.0) (all_of stmt_fits y.1.1 h.2.1.1))

plain_ok : (x : Stmt) → H sa.plain x → IsStmt x
plain_ok x h = let y = h.0 in subst IsStmt h.1 (plain_as y.0 y.1 (designator_ok y.0 h.2.0) (second_if y.1 h.2.1))

choice_ok : (x : Stmt) → H sa.choice x → IsStmt x
choice_ok x h =
    let y = h.0 in
    let bs = y.1.0 ∷ y.1.1.0 in
    subst IsStmt h.1 (if_is y.0.pos bs y.1.1.1.0 ∙ both_true (pos_fits y.0.pos) _ h.2.0.1.1.place (both_true (all_true (map branch_fits bs)) (else_fits y.1.1.1.0)
    (all_of branch_fits bs (branch_ok y.1.0 h.2.1.0, next_all s.KwElsif sa.branch (λ b. branch_fits b ≡ true) branch_ok y.1.1.0 h.2.1.1.0))
    (else_ok y.1.1.1.0 h.2.1.1.1.0)))

case_stmt_ok : (x : Stmt) → H sa.case_statement x → IsStmt x
case_stmt_ok x h =
    let y = h.0 in
    let cs = y.1.1.1.0 in
    let o = y.1.1.1.1.0 in
    subst IsStmt h.1 (case_stmt_is y.0.pos y.1.0 cs o ∙ both_true (pos_fits y.0.pos) _ h.2.0.1.1.place (both_true (expr_fits y.1.0) (all_true (map case_fits cs) && else_fits o) h.2.1.0
    (both_true (all_true (map case_fits cs)) (else_fits o)
    (all_of case_fits cs (separated_all s.Bar sa.case_branch (λ c. case_fits c ≡ true) case_ok cs h.2.1.1.1.0))
    (else_ok o h.2.1.1.1.1.0))))

while_ok : (x : Stmt) → H sa.while_loop x → IsStmt x
while_ok x h = let y = h.0 in subst IsStmt h.1 (while_is y.0.pos y.1.0 y.1.1.1.0 ∙ both_true (pos_fits y.0.pos) _ h.2.0.1.1.place (both_true (expr_fits y.1.0) (all_true (map stmt_fits y.1.1.1.0)) h.2.1.0 (all_of stmt_fits y.1.1.1.0 h.2.1.1.1.0)))

repeat_ok : (x : Stmt) → H sa.repeat_loop x → IsStmt x
repeat_ok x h = let y = h.0 in subst IsStmt h.1 (repeat_is y.0.pos y.1.0 y.1.1.1 ∙ both_true (pos_fits y.0.pos) _ h.2.0.1.1.place (both_true (expr_fits y.1.1.1) (all_true (map stmt_fits y.1.0)) h.2.1.1.1 (all_of stmt_fits y.1.0 h.2.1.0)))

for_ok : (x : Stmt) → H sa.for_loop x → IsStmt x
unfolding IsIdent
for_ok x h =
    let y = h.0 in
    let a = y.1.1.1.0 in
    let b = y.1.1.1.1.1.0 in
    let o = y.1.1.1.1.1.1.0 in
    let ss = y.1.1.1.1.1.1.1.1.0 in
    subst IsStmt h.1 (for_is y.0.pos y.1.0 a b o ss ∙ both_true (pos_fits y.0.pos) _ h.2.0.1.1.place (both_true (pos_fits y.1.0.pos) _ (ident_ok y.1.0 h.2.1.0) (both_true (expr_fits a) (expr_fits b && (fits_if o && all_true (map stmt_fits ss))) h.2.1.1.1.0
    (both_true (expr_fits b) (fits_if o && all_true (map stmt_fits ss)) h.2.1.1.1.1.1.0
    (both_true (fits_if o) (all_true (map stmt_fits ss)) (next_if s.KwBy o h.2.1.1.1.1.1.1.0) (all_of stmt_fits ss h.2.1.1.1.1.1.1.1.1.0))))))

loop_ok : (x : Stmt) → H sa.endless_loop x → IsStmt x
loop_ok x h = let y = h.0 in subst IsStmt h.1 (loop_is y.0.pos y.1.0 ∙ both_true (pos_fits y.0.pos) _ h.2.0.1.1.place (all_of stmt_fits y.1.0 h.2.1.0))

exit_ok : (x : Stmt) → H sa.exit_statement x → IsStmt x
exit_ok x h = subst IsStmt h.1 (exit_is h.0.pos ∙ h.2.1.1.place)

returned : (o : Option Expr) → IfSome o (λ x. IsExpr x) → fits_if o ≡ true
returned None h = refl
returned (Some x) h = h

return_ok : (x : Stmt) → H sa.return_statement x → IsStmt x
return_ok x h = let y = h.0 in subst IsStmt h.1 (return_is y.0.pos y.1 ∙ both_true (pos_fits y.0.pos) _ h.2.0.1.1.place (returned y.1 h.2.1))

with_ok : (x : Stmt) → H sa.with_statement x → IsStmt x
with_ok x h =
    let y = h.0 in
    subst IsStmt h.1 (with_is y.0.pos y.1.0 y.1.1.0 ∙ both_true (pos_fits y.0.pos) _ h.2.0.1.1.place (both_true (all_true (map guarded_fits y.1.0)) (else_fits y.1.1.0)
    (all_of guarded_fits y.1.0 (separated_all s.Bar sa.guarded (λ b. guarded_fits b ≡ true) guarded_ok y.1.0 h.2.1.0))
    (else_ok y.1.1.0 h.2.1.1.0)))

some_ok : (x : Stmt) → H sa.some_statement x → IsStmt x
some_ok x (inl h) = plain_ok x h
some_ok x (inr (inl h)) = choice_ok x h
some_ok x (inr (inr (inl h))) = case_stmt_ok x h
some_ok x (inr (inr (inr (inl h)))) = while_ok x h
some_ok x (inr (inr (inr (inr (inl h))))) = repeat_ok x h
some_ok x (inr (inr (inr (inr (inr (inl h)))))) = for_ok x h
some_ok x (inr (inr (inr (inr (inr (inr (inl h))))))) = loop_ok x h
some_ok x (inr (inr (inr (inr (inr (inr (inr (inl h)))))))) = exit_ok x h
some_ok x (inr (inr (inr (inr (inr (inr (inr (inr (inl h))))))))) = return_ok x h
some_ok x (inr (inr (inr (inr (inr (inr (inr (inr (inr h))))))))) = with_ok x h

stmt_if : (o : Option Stmt) → IfSome o (λ x. H sa.some_statement x) → IsStmt (sa.or_empty o)
stmt_if None h = empty_is
stmt_if (Some x) h = some_ok x h

stmt_ok : (x : Stmt) → H sa.statement x → IsStmt x
stmt_ok x h = subst IsStmt h.1 (stmt_if h.0 h.2)

statements_ok : (xs : List Stmt) → H sa.statements xs → All stmt_fits xs
statements_ok xs h = separated_all s.Semicolon sa.statement IsStmt stmt_ok xs h

-- ---- declarations

abbrev IsDecl : Decl → Type 0
IsDecl x = decl_fits x ≡ true

constant_ok : (x : Decl) → H de.constant x → IsDecl x
constant_ok x h = let y = h.0 in subst IsDecl h.1 (constant_is y.0 y.1.1.0 ∙ h.2.1.1.0)

named_type_ok : (x : Decl) → H de.named_type x → IsDecl x
named_type_ok x h = let y = h.0 in subst IsDecl h.1 (type_is y.0 y.1.1.0)

variables_ok : (x : Decl) → H de.variables x → IsDecl x
variables_ok x h = let y = h.0 in subst IsDecl h.1 (variables_are y.0 y.1.1.0)

heading_ok : (x : Heading) → H de.heading x → pos_fits x.name.ident.pos ≡ true
heading_ok x h = subst (λ (x : Heading). pos_fits x.name.ident.pos ≡ true) h.1 (def_ok h.0.1.0 h.2.1.0)

forward_ok : (x : Decl) → H de.forward x → IsDecl x
forward_ok x h = subst IsDecl h.1 (forward_is h.0.1 ∙ heading_ok h.0.1 h.2.1)

abbrev Decls : List Decl → Type 0
Decls ds = All decl_fits ds

block_ok : (ds : List Decl) → H de.block ds → Decls ds
block_ok ds (inl h) = subst Decls h.1 (all_from (λ x. H de.constant x) IsDecl constant_ok h.0.1 h.2.1)
block_ok ds (inr (inl h)) = subst Decls h.1 (all_from (λ x. H de.named_type x) IsDecl named_type_ok h.0.1 h.2.1)
block_ok ds (inr (inr h)) = subst Decls h.1 (all_from (λ x. H de.variables x) IsDecl variables_ok h.0.1 h.2.1)

item_ok : (x : Decl) → H de.procedure_item x → IsDecl x
item_ok x h = subst IsDecl h.1 (go h.0.0 h.2.0)
  where
    go : (x : Decl) → IsDecl x ⊎ H de.forward x → IsDecl x
    go x (inl k) = k
    go x (inr k) = forward_ok x k

declarations_ok : (ds : List Decl) → H de.declarations ds → Decls ds
declarations_ok ds h =
    let y = h.0 in
    let b = h.2.0 in
    let first : Decls y.0 = subst Decls b.1 (all_joined IsDecl b.0 (all_from (λ ds. H de.block ds) Decls block_ok b.0 b.2)) in
    subst Decls h.1 (all_both IsDecl y.0 y.1 first (all_from (λ x. H de.procedure_item x) IsDecl item_ok y.1 h.2.1))

body_ok : (ss : List Stmt) → H de.body ss → All stmt_fits ss
body_ok ss h = subst (All stmt_fits) h.1 (go h.0 h.2)
  where
    go : (o : Option (List Stmt)) → IfSome o (λ ss. H (next_of s.KwBegin (nest Statements)) ss) → All stmt_fits (list_of o)
    go None k = tt
    go (Some ss) k = subst (All stmt_fits) k.1 k.2.1

procedure_ok : (x : Decl) → H de.procedure x → IsDecl x
procedure_ok x h =
    let y = h.0 in
    let ds = y.1.1.0 in
    let ss = y.1.1.1.0 in
    subst IsDecl h.1
    (procedure_decl_is y.0 ds ss y.1.1.1.1.1 ∙ both_true (pos_fits y.0.name.ident.pos) (all_true (map decl_fits ds) && all_true (map stmt_fits ss)) (heading_ok y.0 h.2.0)
    (both_true (all_true (map decl_fits ds)) (all_true (map stmt_fits ss)) (all_of decl_fits ds (declarations_ok ds h.2.1.1.0)) (all_of stmt_fits ss (body_ok ss h.2.1.1.1.0))))

-- ---- within any number of levels

rules : (n : Nest) (x : Tree n) → H (rule n) x → PN n x
rules AnExpr x h = expr_ok x h
rules AType x h = tt
rules Statements x h = statements_ok x h
rules Negated x h = negated_ok x h
rules Procedure x h = procedure_ok x h

void : (n : Nest) (x : Tree n) → IsVoid n x → PN n x
void AnExpr x h = absurd h
void AType x h = tt
void Statements x h = subst (All stmt_fits) (sym h) (empty_is, tt)
void Negated x h = absurd h
void Procedure x h = absurd h

abbrev ArePlaced : Tokens → Type 0
ArePlaced ts = AllByRecursion IsToken ts

nested : (n : ℕ) (k : Nest) (x : Tree k) (ts : Tokens) → ArePlaced ts → spells n k x ts → PN k x
nested zero k x ts all h = void k x h.1
nested (suc n) k x ts all h = rules k x (holds IsToken PN (spells n) (λ k x ts a i. nested n k x ts a i) (rule k) x ts all h)

-- ---- a module

abbrev IsTree : Module → Type 0
IsTree m = tree_fits m ≡ true

module_ok : (m : Module) → H de.«module» m → IsTree m
module_ok m h =
    let y = h.0 in
    let ds = y.1.1.1.1.0 in
    let ss = y.1.1.1.1.1.0 in
    subst IsTree h.1 (both_true (all_true (map decl_fits ds)) (all_true (map stmt_fits ss)) (all_of decl_fits ds (declarations_ok ds h.2.1.1.1.1.0)) (all_of stmt_fits ss (body_ok ss h.2.1.1.1.1.1.0)))

abbrev PlacedBy : Result Module NoModule → Type 0
PlacedBy (Ok tree) = IsTree tree
PlacedBy (Err f) = Unit {0}

left_part : (a b ts : Tokens) → ts ≡ a ++ b → ArePlaced ts → ArePlaced a
left_part a b ts i all = go a (subst ArePlaced i all)
  where
    go : (a : Tokens) → ArePlaced (a ++ b) → ArePlaced a
    go [] all = tt
    go (t ∷ a) all = (all.0, go a all.1)

parsed_ok : (n : ℕ) (ts : Tokens) (r : Read Module) → ArePlaced ts → reads n de.«module» ts ≡ r → PlacedBy (parsed r)
parsed_ok n ts (Found m rest) all i =
    let v = verdict n ts (Found m rest) i in
    module_ok m (holds IsToken PN (spells n) (λ k x ts a j. nested n k x ts a j) de.«module» m v.0 (left_part v.0 rest ts v.1 all) v.2)
parsed_ok n ts (Fails Wrong rest) all i = tt
parsed_ok n ts (Fails Deep rest) all i = tt

fault_ok : (o : Option ScanFault) (i : Input) → Room i.pos i.text → PlacedBy (by_fault o i)
fault_ok (Some f) i r = tt
fault_ok None i r = parsed_ok limit (tokens_of i) (reads limit de.«module» (tokens_of i)) (both_all (tokens_of i) (tokens_spelled (suc (length i.text)) i) (tokens_placed (suc (length i.text)) i r)) refl

reading_ok : (text : List ℕ) → length text < 2 ^ 30 → PlacedBy (reading text)
unfolding reading
reading_ok text few = fault_ok (fault_of (start_of text)) (start_of text) (record { line = omega (arith, few); col = omega (arith, few); few = few })

pub readings_placed : ReadingsArePlaced
readings_placed text few tree i = subst PlacedBy i (reading_ok text few)
