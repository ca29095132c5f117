-- The strings in a module that is read are of characters.
use Rattle.std.proofs.Common.{◌≡◌, ◌⊎◌, inl, inr, ℕ, zero, suc, true, List, [], ◌∷◌, ◌++◌, length, map, Option, Some, None, Result, Ok, Err, refl, sym, subst, ◌∙◌}
use Rattle.std.specs.Prelude.{◌&&◌, IfSome, option_to_list}
use Rattle.std.specs.List.{AllByRecursion}
use Rattle.ob_tree.specs.declared.symbol.Symbol.{Symbol}
use Rattle.ob_tree.specs.declared.symbol.Symbol.TheVariants as s
use Rattle.ob_tree.specs.declared.token.Token.{Token}
use Rattle.ob_tree.specs.declared.expr.Expr.{Expr}
use Rattle.ob_tree.specs.declared.expr.Tail.{Tail}
use Rattle.ob_tree.specs.declared.expr.Element.{Element}
use Rattle.ob_tree.specs.declared.expr.Designator.{Designator}
use Rattle.ob_tree.specs.declared.expr.Selector.{Selector}
use Rattle.ob_tree.specs.declared.stmt.Stmt.{Stmt}
use Rattle.ob_tree.specs.declared.stmt.Branch.{Branch}
use Rattle.ob_tree.specs.declared.stmt.Case.{Case}
use Rattle.ob_tree.specs.declared.stmt.GuardedBranch.{GuardedBranch}
use Rattle.ob_tree.specs.declared.type_node.TypeNode.{TypeNode}
use Rattle.ob_tree.specs.declared.type_node.FieldList.{FieldList}
use Rattle.ob_tree.specs.declared.type_node.FormalPars.{FormalPars}
use Rattle.ob_tree.specs.declared.type_node.Section.{Section}
use Rattle.ob_tree.specs.declared.decl.Heading.{Heading}
use Rattle.ob_tree.specs.declared.decl.Decl.{Decl}
use Rattle.ob_tree.specs.declared.decl.Module.{Module as Module}
use Rattle.ob_scan.specs.declared.fault.ScanFault.{ScanFault}
use Rattle.ob_scan.specs.Scanning.{Input, start_of}
use Rattle.ob_parse_grammar.specs.Phrase.{Tokens, Nest, AnExpr, AType, Statements, Negated, Procedure, Tree, Phrase, nest}
use Rattle.ob_parse_grammar.specs.Expressions as ex
use Rattle.ob_parse_grammar.specs.Expressions.{next_of, separated, list_of, optional, exprs}
use Rattle.ob_parse_grammar.specs.Statements as sa
use Rattle.ob_parse_grammar.specs.Types as ty
use Rattle.ob_parse_grammar.specs.Declarations as de
use Rattle.ob_parse_grammar.specs.Reading.{Read, Found, Fails, Wrong, Deep}
use Rattle.ob_parse_grammar.specs.Grammar.{rule, IsVoid, reads, spells}
use Rattle.ob_parse_grammar.proofs.Verdicts.{verdict}
use Rattle.ob_parse_grammar.specs.Depth.{limit}
use Rattle.ob_parse_grammar.specs.Texts.{tokens_of}
use Rattle.ob_parse_grammar.specs.TextReading.{NoModule, fault_of, parsed, by_fault, reading}
use Rattle.law_spelling.proofs.Phrases.{Holds, holds}
use Rattle.law_typing.specs.Spelled.{all_true, is_spelled, designator_spelled, element_spelled, tail_spelled, selector_spelled}
use Rattle.law_typing.specs.Bodies.{spelled_if, stmt_spelled, branch_spelled, case_spelled, guarded_spelled}
use Rattle.law_body_context.specs.Spelled.{type_spelled, fields_spelled, parameters_spelled, section_spelled, decl_spelled, tree_spelled}
use Rattle.law_spelling_read.specs.Laws.{ReadingsAreSpelled}
use Rattle.law_spelling_read.proofs.Marks.{is_str, IsSpelledToken, tokens_spelled}
use Rattle.law_spelling_read.proofs.Folds.{designator_expr, int_is, char_is, str_is, nil_is, set_is, paren_is, not_is, signed_is, chain_is, relate_is, field_is, index_is, deref_is, call_is, designator_is, element_is, tail_is, else_spelled, empty_is, call_stmt_is, assign_is, if_is, case_stmt_is, while_is, repeat_is, for_is, loop_is, exit_is, return_is, with_is, branch_is, case_is, guarded_is, array_is, record_is, pointer_is, procedure_is, named_is, fields_are, parameters_are, section_is, constant_is, type_is, variables_are, procedure_decl_is, forward_is, All, all_of, all_joined}
use Rattle.law_lists.proofs.Lists.{all_both, all_from, both_true}

-- ---- phrases

abbrev PN : (n : Nest) → Tree n → Type 0
PN AnExpr x = is_spelled x ≡ true
PN AType x = type_spelled x ≡ true
PN Statements xs = All stmt_spelled xs
PN Negated x = is_spelled x ≡ true
PN Procedure x = decl_spelled x ≡ true

abbrev H : {A : Type 0} → Phrase A → A → Type 0
H p x = Holds IsSpelledToken PN p x

-- items with symbols between them
next_all : {A : Type 0} (by : Symbol) (p : Phrase A) (Q : A → Type 0) → ((x : A) → H p x → Q x) → (xs : List A) → AllByRecursion (λ x. H (next_of by p) x) xs → AllByRecursion Q xs
next_all by p Q f [] h = tt
next_all by p Q f (x ∷ xs) h = (subst Q h.0.1 (f h.0.0.1 h.0.2.1), next_all by p Q f xs h.1)

separated_all : {A : Type 0} (by : Symbol) (p : Phrase A) (Q : A → Type 0) → ((x : A) → H p x → Q x) → (xs : List A) → H (separated by p) xs → AllByRecursion Q xs
separated_all by p Q f xs h = subst (AllByRecursion Q) h.1 (f h.0.0 h.2.0, next_all by p Q f h.0.1 h.2.1)

-- ---- expressions

abbrev IsExpr : Expr → Type 0
IsExpr x = is_spelled x ≡ true

exprs_all : (xs : List Expr) → H exprs xs → All is_spelled xs
exprs_all xs h = separated_all s.Comma (nest AnExpr) IsExpr (λ x k. k) xs h

exprs_if : (o : Option (List Expr)) → IfSome o (λ xs. H exprs xs) → All is_spelled (list_of o)
exprs_if None h = tt
exprs_if (Some xs) h = exprs_all xs h

next_if : (by : Symbol) (o : Option Expr) → IfSome o (λ x. H (next_of by (nest AnExpr)) x) → spelled_if o ≡ true
next_if by None h = refl
next_if by (Some x) h = subst IsExpr h.1 h.2.1

abbrev Selectors : List Selector → Type 0
Selectors xs = All selector_spelled xs

further_ok : (x : Selector) → H ex.further_index x → selector_spelled x ≡ true
further_ok x h = subst (λ (x : Selector). selector_spelled x ≡ true) h.1 (index_is h.0.0.pos h.0.1 ∙ h.2.1)

selector_ok : (xs : List Selector) → H ex.selector xs → Selectors xs
selector_ok xs (inl h) = subst Selectors h.1 (field_is h.0.0.pos h.0.1, tt)
selector_ok xs (inr (inl h)) = let y = h.0 in subst Selectors h.1 (index_is y.0.pos y.1.0 ∙ h.2.1.0, all_from (λ x. H ex.further_index x) (λ x. selector_spelled x ≡ true) further_ok y.1.1.0 h.2.1.1.0)
selector_ok xs (inr (inr (inl h))) = subst Selectors h.1 (deref_is h.0.pos, tt)
selector_ok xs (inr (inr (inr h))) = let y = h.0 in subst Selectors h.1 (call_is y.0.pos (list_of y.1.0) ∙ all_of is_spelled (list_of y.1.0) (exprs_if y.1.0 h.2.1.0), tt)

selectors_ok : (xs : List Selector) → H ex.selectors xs → Selectors xs
selectors_ok xs h = subst Selectors h.1 (all_joined (λ x. selector_spelled x ≡ true) h.0 (all_from (λ xs. H ex.selector xs) Selectors selector_ok h.0 h.2))

designator_ok : (n : Designator) → H ex.designator n → designator_spelled n ≡ true
designator_ok n h = let y = h.0 in subst (λ (n : Designator). designator_spelled n ≡ true) h.1 (designator_is y.0 y.1 ∙ all_of selector_spelled y.1 (selectors_ok y.1 h.2.1))

element_ok : (x : Element) → H ex.element x → element_spelled x ≡ true
element_ok x h = let y = h.0 in subst (λ (x : Element). element_spelled x ≡ true) h.1 (element_is y.0 y.1 ∙ both_true (is_spelled y.0) (spelled_if y.1) h.2.0 (next_if s.DotDot y.1 h.2.1))

elements_if : (o : Option (List Element)) → IfSome o (λ xs. H ex.elements xs) → All element_spelled (list_of o)
elements_if None h = tt
elements_if (Some xs) h = separated_all s.Comma ex.element (λ x. element_spelled x ≡ true) element_ok xs h

str_symbol : {x : Symbol} → s.Str ≡ x → is_str (Some x) ≡ true
str_symbol i = subst (λ (x : Symbol). is_str (Some x) ≡ true) i refl

factor_ok : (x : Expr) → H ex.factor x → IsExpr x
factor_ok x (inl h) = subst IsExpr h.1 (designator_expr h.0 ∙ designator_ok h.0 h.2)
factor_ok x (inr (inl h)) = subst IsExpr h.1 (int_is h.0.pos h.0.text.now)
factor_ok x (inr (inr (inl h))) = subst IsExpr h.1 (char_is h.0.pos h.0.text.now)
factor_ok x (inr (inr (inr (inl h)))) = let t : Token = h.0 in subst IsExpr h.1 (str_is t.pos (ex.between_marks t.text.now) ∙ h.2.1 (str_symbol (sym h.2.0)))
factor_ok x (inr (inr (inr (inr (inl h))))) = subst IsExpr h.1 (nil_is h.0.pos)
factor_ok x (inr (inr (inr (inr (inr (inl h)))))) = let y = h.0 in subst IsExpr h.1 (set_is y.0.pos (list_of y.1.0) ∙ all_of element_spelled (list_of y.1.0) (elements_if y.1.0 h.2.1.0))
factor_ok x (inr (inr (inr (inr (inr (inr (inl h))))))) = let y = h.0 in subst IsExpr h.1 (paren_is y.0.pos y.1.0 ∙ h.2.1.0)
factor_ok x (inr (inr (inr (inr (inr (inr (inr h))))))) = h

negated_ok : (x : Expr) → H ex.negated x → IsExpr x
negated_ok x h = let y = h.0 in subst IsExpr h.1 (not_is y.0.pos y.1 ∙ factor_ok y.1 h.2.1)

chained : (a : Expr) (ts : List Tail) → IsExpr a → All tail_spelled ts → IsExpr (ex.chain_of (a, ts))
chained a [] h k = h
chained a (t ∷ ts) h k = chain_is a (t ∷ ts) ∙ both_true (is_spelled a) (all_true (map tail_spelled (t ∷ ts))) h (all_of tail_spelled (t ∷ ts) k)

mul_ok : (t : Tail) → H ex.mul_tail t → tail_spelled t ≡ true
mul_ok t h = subst (λ (t : Tail). tail_spelled t ≡ true) h.1 (tail_is h.0 ∙ factor_ok h.0.1 h.2.1)

term_ok : (x : Expr) → H ex.term x → IsExpr x
term_ok x h = let y = h.0 in subst IsExpr h.1 (chained y.0 y.1 (factor_ok y.0 h.2.0) (all_from (λ t. H ex.mul_tail t) (λ t. tail_spelled t ≡ true) mul_ok y.1 h.2.1))

with_sign : (o : Option Token) (a : Expr) → IsExpr a → IsExpr (ex.signed_of (o, a))
with_sign None a h = h
with_sign (Some t) a h = signed_is (ex.sign_of t.symbol) t.pos a ∙ h

signed_ok : (x : Expr) → H ex.signed x → IsExpr x
signed_ok x h = let y = h.0 in subst IsExpr h.1 (with_sign y.0 y.1 (term_ok y.1 h.2.1))

add_ok : (t : Tail) → H ex.add_tail t → tail_spelled t ≡ true
add_ok t h = subst (λ (t : Tail). tail_spelled t ≡ true) h.1 (tail_is h.0 ∙ term_ok h.0.1 h.2.1)

simple_ok : (x : Expr) → H ex.simple x → IsExpr x
simple_ok x h = let y = h.0 in subst IsExpr h.1 (chained y.0 y.1 (signed_ok y.0 h.2.0) (all_from (λ t. H ex.add_tail t) (λ t. tail_spelled t ≡ true) add_ok y.1 h.2.1))

related : (a : Expr) (o : Option (Token × Expr)) → IsExpr a → IfSome o (λ p. IsExpr p.1) → IsExpr (ex.related_of (a, o))
related a None h k = h
related a (Some p) h k = relate_is a (ex.relation_of p.0.symbol) p.0.pos p.1 ∙ both_true (is_spelled a) (is_spelled p.1) h k

expr_ok : (x : Expr) → H ex.expr x → IsExpr x
expr_ok x h = let y = h.0 in subst IsExpr h.1 (related y.0 y.1 (simple_ok y.0 h.2.0) (go y.1 h.2.1))
  where
    go : (o : Option (Token × Expr)) → IfSome o (λ p. H ex.relation p.0 × H ex.simple p.1) → IfSome o (λ p. IsExpr p.1)
    go None k = tt
    go (Some p) k = simple_ok p.1 k.1

-- ---- statements

abbrev IsStmt : Stmt → Type 0
IsStmt x = stmt_spelled x ≡ true

plain_as : (n : Designator) (o : Option (Token × Expr)) → designator_spelled n ≡ true → IfSome o (λ p. IsExpr p.1) → IsStmt (sa.plain_of (n, o))
plain_as n None h k = call_stmt_is n ∙ h
plain_as n (Some p) h k = assign_is n p.0.pos p.1 ∙ both_true (designator_spelled n) (is_spelled p.1) h k

second_if : (by : Symbol) (o : Option (Token × Expr)) → IfSome o (λ p. ((p.0.symbol ≡ by) × IsSpelledToken p.0) × IsExpr p.1) → IfSome o (λ p. IsExpr p.1)
second_if by None k = tt
second_if by (Some p) k = k.1

else_ok : (o : Option (List Stmt)) → H sa.otherwise o → else_spelled o ≡ true
else_ok None h = refl
else_ok (Some ss) h = subst (λ (ss : List Stmt). all_true (map stmt_spelled ss) ≡ true) h.1 (all_of stmt_spelled h.0.1 h.2.1)

branch_ok : (b : Branch) → H sa.branch b → branch_spelled b ≡ true
branch_ok b h = let y = h.0 in subst (λ (b : Branch). branch_spelled b ≡ true) h.1 (branch_is y.0 y.1.1 ∙ both_true (is_spelled y.0) (all_true (map stmt_spelled y.1.1)) h.2.0 (all_of stmt_spelled y.1.1 h.2.1.1))

case_as : (o : Option (List Element × (Token × List Stmt))) → IfSome o (λ x. All stmt_spelled x.1.1) → case_spelled (sa.case_of o) ≡ true
case_as None h = case_is [] []
case_as (Some x) h = case_is x.0 x.1.1 ∙ all_of stmt_spelled x.1.1 h

case_ok : (c : Case) → H sa.case_branch c → case_spelled c ≡ true
case_ok c h = subst (λ (c : Case). case_spelled c ≡ true) h.1 (case_as h.0 (go h.0 h.2))
  where
    go : (o : Option (List Element × (Token × List Stmt))) → IfSome o (λ x. H sa.labelled x) → IfSome o (λ x. All stmt_spelled x.1.1)
    go None k = tt
    go (Some x) k = k.1.1

guarded_ok : (b : GuardedBranch) → H sa.guarded b → guarded_spelled b ≡ true
guarded_ok b h = let y = h.0 in subst (λ (b : GuardedBranch). guarded_spelled b ≡ true) h.1 (guarded_is y.0 y.1.1 ∙ all_of stmt_spelled y.1.1 h.2.1.1)

plain_ok : (x : Stmt) → H sa.plain x → IsStmt x
plain_ok x h = let y = h.0 in subst IsStmt h.1 (plain_as y.0 y.1 (designator_ok y.0 h.2.0) (second_if s.Becomes y.1 h.2.1))

choice_ok : (x : Stmt) → H sa.choice x → IsStmt x
choice_ok x h =
    let y = h.0 in
    let bs = y.1.0 ∷ y.1.1.0 in
    subst IsStmt h.1 (if_is y.0.pos bs y.1.1.1.0 ∙ both_true (all_true (map branch_spelled bs)) (else_spelled y.1.1.1.0)
    (all_of branch_spelled bs (branch_ok y.1.0 h.2.1.0, next_all s.KwElsif sa.branch (λ b. branch_spelled b ≡ true) branch_ok y.1.1.0 h.2.1.1.0))
    (else_ok y.1.1.1.0 h.2.1.1.1.0))

case_stmt_ok : (x : Stmt) → H sa.case_statement x → IsStmt x
case_stmt_ok x h =
    let y = h.0 in
    let cs = y.1.1.1.0 in
    let o = y.1.1.1.1.0 in
    subst IsStmt h.1 (case_stmt_is y.0.pos y.1.0 cs o ∙ both_true (is_spelled y.1.0) (all_true (map case_spelled cs) && else_spelled o) h.2.1.0
    (both_true (all_true (map case_spelled cs)) (else_spelled o)
    (all_of case_spelled cs (separated_all s.Bar sa.case_branch (λ c. case_spelled c ≡ true) case_ok cs h.2.1.1.1.0))
    (else_ok o h.2.1.1.1.1.0)))

while_ok : (x : Stmt) → H sa.while_loop x → IsStmt x
while_ok x h = let y = h.0 in subst IsStmt h.1 (while_is y.0.pos y.1.0 y.1.1.1.0 ∙ both_true (is_spelled y.1.0) (all_true (map stmt_spelled y.1.1.1.0)) h.2.1.0 (all_of stmt_spelled y.1.1.1.0 h.2.1.1.1.0))

repeat_ok : (x : Stmt) → H sa.repeat_loop x → IsStmt x
repeat_ok x h = let y = h.0 in subst IsStmt h.1 (repeat_is y.0.pos y.1.0 y.1.1.1 ∙ both_true (is_spelled y.1.1.1) (all_true (map stmt_spelled y.1.0)) h.2.1.1.1 (all_of stmt_spelled y.1.0 h.2.1.0))

for_ok : (x : Stmt) → H sa.for_loop x → IsStmt x
for_ok x h =
    let y = h.0 in
    let a = y.1.1.1.0 in
    let b = y.1.1.1.1.1.0 in
    let o = y.1.1.1.1.1.1.0 in
    let ss = y.1.1.1.1.1.1.1.1.0 in
    subst IsStmt h.1 (for_is y.0.pos y.1.0 a b o ss ∙ both_true (is_spelled a) (is_spelled b && (spelled_if o && all_true (map stmt_spelled ss))) h.2.1.1.1.0
    (both_true (is_spelled b) (spelled_if o && all_true (map stmt_spelled ss)) h.2.1.1.1.1.1.0
    (both_true (spelled_if o) (all_true (map stmt_spelled ss)) (next_if s.KwBy o h.2.1.1.1.1.1.1.0) (all_of stmt_spelled ss h.2.1.1.1.1.1.1.1.1.0))))

loop_ok : (x : Stmt) → H sa.endless_loop x → IsStmt x
loop_ok x h = let y = h.0 in subst IsStmt h.1 (loop_is y.0.pos y.1.0 ∙ all_of stmt_spelled y.1.0 h.2.1.0)

exit_ok : (x : Stmt) → H sa.exit_statement x → IsStmt x
exit_ok x h = subst IsStmt h.1 (exit_is h.0.pos)

returned : (o : Option Expr) → IfSome o (λ x. IsExpr x) → spelled_if o ≡ true
returned None h = refl
returned (Some x) h = h

return_ok : (x : Stmt) → H sa.return_statement x → IsStmt x
return_ok x h = let y = h.0 in subst IsStmt h.1 (return_is y.0.pos y.1 ∙ returned y.1 h.2.1)

with_ok : (x : Stmt) → H sa.with_statement x → IsStmt x
with_ok x h =
    let y = h.0 in
    subst IsStmt h.1 (with_is y.0.pos y.1.0 y.1.1.0 ∙ both_true (all_true (map guarded_spelled y.1.0)) (else_spelled y.1.1.0)
    (all_of guarded_spelled y.1.0 (separated_all s.Bar sa.guarded (λ b. guarded_spelled b ≡ true) guarded_ok y.1.0 h.2.1.0))
    (else_ok y.1.1.0 h.2.1.1.0))

some_ok : (x : Stmt) → H sa.some_statement x → IsStmt x
some_ok x (inl h) = plain_ok x h
some_ok x (inr (inl h)) = choice_ok x h
some_ok x (inr (inr (inl h))) = case_stmt_ok x h
some_ok x (inr (inr (inr (inl h)))) = while_ok x h
some_ok x (inr (inr (inr (inr (inl h))))) = repeat_ok x h
some_ok x (inr (inr (inr (inr (inr (inl h)))))) = for_ok x h
some_ok x (inr (inr (inr (inr (inr (inr (inl h))))))) = loop_ok x h
some_ok x (inr (inr (inr (inr (inr (inr (inr (inl h)))))))) = exit_ok x h
some_ok x (inr (inr (inr (inr (inr (inr (inr (inr (inl h))))))))) = return_ok x h
some_ok x (inr (inr (inr (inr (inr (inr (inr (inr (inr h))))))))) = with_ok x h

stmt_if : (o : Option Stmt) → IfSome o (λ x. H sa.some_statement x) → IsStmt (sa.or_empty o)
stmt_if None h = empty_is
stmt_if (Some x) h = some_ok x h

stmt_ok : (x : Stmt) → H sa.statement x → IsStmt x
stmt_ok x h = subst IsStmt h.1 (stmt_if h.0 h.2)

statements_ok : (xs : List Stmt) → H sa.statements xs → All stmt_spelled xs
statements_ok xs h = separated_all s.Semicolon sa.statement IsStmt stmt_ok xs h

-- ---- types

section_ok : (x : Section) → H ty.section x → section_spelled x ≡ true
section_ok x h =
    let y = h.0 in
    subst (λ (x : Section). section_spelled x ≡ true) h.1
    (section_is (record { is_var = y.0; names = y.1.0; node = y.1.1.1 }) ∙ h.2.1.1.1)

sections_all : (o : Option (List Section)) → IfSome o (λ xs. H ty.sections xs) → All section_spelled (list_of o)
sections_all None h = tt
sections_all (Some xs) h = separated_all s.Semicolon ty.section (λ x. section_spelled x ≡ true) section_ok xs h

formal_ok : (p : FormalPars) → H ty.formal_pars p → parameters_spelled p ≡ true
formal_ok p h =
    let y = h.0 in
    let k = h.2.1.0 in
    let all : All section_spelled y.1.0 = subst (All section_spelled) k.1 (sections_all k.0 k.2) in
    subst (λ (p : FormalPars). parameters_spelled p ≡ true) h.1
    (parameters_are (record { sections = y.1.0; result_type = y.1.1.1 }) ∙ all_of section_spelled y.1.0 all)

parameters_if : (o : Option FormalPars) → IfSome o (λ p. H ty.formal_pars p) → parameters_spelled (ty.parameters_of o) ≡ true
parameters_if None h = parameters_are (record { sections = []; result_type = None })
parameters_if (Some p) h = formal_ok p h

parameters_ok : (p : FormalPars) → H ty.parameters p → parameters_spelled p ≡ true
parameters_ok p h = subst (λ (p : FormalPars). parameters_spelled p ≡ true) h.1 (parameters_if h.0 h.2)

fields_ok : (l : FieldList) → H ty.fields l → fields_spelled l ≡ true
fields_ok l h =
    let y = h.0 in
    subst (λ (l : FieldList). fields_spelled l ≡ true) h.1
    (fields_are (record { names = y.0; node = y.1.1 }) ∙ h.2.1.1)

field_list_ok : (ls : List FieldList) → H ty.field_list ls → All fields_spelled ls
field_list_ok ls h = subst (All fields_spelled) h.1 (go h.0 h.2)
  where
    go : (o : Option FieldList) → IfSome o (λ l. H ty.fields l) → All fields_spelled (option_to_list o)
    go None k = tt
    go (Some l) k = (fields_ok l k, tt)

field_lists_ok : (ls : List FieldList) → H ty.field_lists ls → All fields_spelled ls
field_lists_ok ls h = subst (All fields_spelled) h.1 (all_joined (λ l. fields_spelled l ≡ true) h.0 (separated_all s.Semicolon ty.field_list (λ ls. All fields_spelled ls) field_list_ok h.0 h.2))

abbrev IsType : TypeNode → Type 0
IsType x = type_spelled x ≡ true

lengths_ok : (ls : List Expr) → H (optional exprs) ls → All is_spelled ls
lengths_ok ls h = subst (All is_spelled) h.1 (exprs_if h.0 h.2)

type_ok : (x : TypeNode) → H ty.type_node x → IsType x
type_ok x (inl h) = subst IsType h.1 (named_is h.0)
type_ok x (inr (inl h)) =
    let y = h.0 in
    subst IsType h.1 (array_is y.0.pos y.1.0 y.1.1.1 ∙ both_true (all_true (map is_spelled y.1.0)) (type_spelled y.1.1.1) (all_of is_spelled y.1.0 (lengths_ok y.1.0 h.2.1.0)) h.2.1.1.1)
type_ok x (inr (inr (inl h))) = let y = h.0 in subst IsType h.1 (record_is y.0.pos y.1.0 y.1.1.0 ∙ all_of fields_spelled y.1.1.0 (field_lists_ok y.1.1.0 h.2.1.1.0))
type_ok x (inr (inr (inr (inl h)))) = let y = h.0 in subst IsType h.1 (pointer_is y.0.pos y.1.1 ∙ h.2.1.1)
type_ok x (inr (inr (inr (inr h)))) = let y = h.0 in subst IsType h.1 (procedure_is y.0.pos y.1 ∙ parameters_ok y.1 h.2.1)

-- ---- declarations

abbrev IsDecl : Decl → Type 0
IsDecl x = decl_spelled x ≡ true

constant_ok : (x : Decl) → H de.constant x → IsDecl x
constant_ok x h = let y = h.0 in subst IsDecl h.1 (constant_is y.0 y.1.1.0 ∙ h.2.1.1.0)

named_type_ok : (x : Decl) → H de.named_type x → IsDecl x
named_type_ok x h = let y = h.0 in subst IsDecl h.1 (type_is y.0 y.1.1.0 ∙ h.2.1.1.0)

variables_ok : (x : Decl) → H de.variables x → IsDecl x
variables_ok x h = let y = h.0 in subst IsDecl h.1 (variables_are y.0 y.1.1.0 ∙ h.2.1.1.0)

heading_ok : (x : Heading) → H de.heading x → parameters_spelled x.parameters ≡ true
heading_ok x h = subst (λ (x : Heading). parameters_spelled x.parameters ≡ true) h.1 (parameters_ok h.0.1.1 h.2.1.1)

forward_ok : (x : Decl) → H de.forward x → IsDecl x
forward_ok x h = let y = h.0 in subst IsDecl h.1 (forward_is y.1 ∙ heading_ok y.1 h.2.1)

abbrev Decls : List Decl → Type 0
Decls ds = All decl_spelled ds

block_ok : (ds : List Decl) → H de.block ds → Decls ds
block_ok ds (inl h) = subst Decls h.1 (all_from (λ x. H de.constant x) IsDecl constant_ok h.0.1 h.2.1)
block_ok ds (inr (inl h)) = subst Decls h.1 (all_from (λ x. H de.named_type x) IsDecl named_type_ok h.0.1 h.2.1)
block_ok ds (inr (inr h)) = subst Decls h.1 (all_from (λ x. H de.variables x) IsDecl variables_ok h.0.1 h.2.1)

item_ok : (x : Decl) → H de.procedure_item x → IsDecl x
item_ok x h = subst IsDecl h.1 (go h.0.0 h.2.0)
  where
    go : (x : Decl) → IsDecl x ⊎ H de.forward x → IsDecl x
    go x (inl k) = k
    go x (inr k) = forward_ok x k

declarations_ok : (ds : List Decl) → H de.declarations ds → Decls ds
declarations_ok ds h =
    let y = h.0 in
    let b = h.2.0 in
    let first : Decls y.0 = subst Decls b.1 (all_joined IsDecl b.0 (all_from (λ ds. H de.block ds) Decls block_ok b.0 b.2)) in
    subst Decls h.1 (all_both IsDecl y.0 y.1 first (all_from (λ x. H de.procedure_item x) IsDecl item_ok y.1 h.2.1))

body_ok : (ss : List Stmt) → H de.body ss → All stmt_spelled ss
body_ok ss h = subst (All stmt_spelled) h.1 (go h.0 h.2)
  where
    go : (o : Option (List Stmt)) → IfSome o (λ ss. H (next_of s.KwBegin (nest Statements)) ss) → All stmt_spelled (list_of o)
    go None k = tt
    go (Some ss) k = subst (All stmt_spelled) k.1 k.2.1

procedure_ok : (x : Decl) → H de.procedure x → IsDecl x
procedure_ok x h =
    let y = h.0 in
    let ds = y.1.1.0 in
    let ss = y.1.1.1.0 in
    subst IsDecl h.1
    (procedure_decl_is y.0 ds ss y.1.1.1.1.1 ∙ both_true (parameters_spelled y.0.parameters) (all_true (map decl_spelled ds) && all_true (map stmt_spelled ss)) (heading_ok y.0 h.2.0)
    (both_true (all_true (map decl_spelled ds)) (all_true (map stmt_spelled ss)) (all_of decl_spelled ds (declarations_ok ds h.2.1.1.0)) (all_of stmt_spelled ss (body_ok ss h.2.1.1.1.0))))

-- ---- within any number of levels

rules : (n : Nest) (x : Tree n) → H (rule n) x → PN n x
rules AnExpr x h = expr_ok x h
rules AType x h = type_ok x h
rules Statements x h = statements_ok x h
rules Negated x h = negated_ok x h
rules Procedure x h = procedure_ok x h

void : (n : Nest) (x : Tree n) → IsVoid n x → PN n x
void AnExpr x h = absurd h
void AType x h = absurd h
void Statements x h = subst (All stmt_spelled) (sym h) (empty_is, tt)
void Negated x h = absurd h
void Procedure x h = absurd h

abbrev AreSpelled : Tokens → Type 0
AreSpelled ts = AllByRecursion IsSpelledToken ts

nested : (n : ℕ) (k : Nest) (x : Tree k) (ts : Tokens) → AreSpelled ts → spells n k x ts → PN k x
nested zero k x ts all h = void k x h.1
nested (suc n) k x ts all h = rules k x (holds IsSpelledToken PN (spells n) (λ k x ts a i. nested n k x ts a i) (rule k) x ts all h)

-- ---- a module

abbrev IsTree : Module → Type 0
IsTree m = tree_spelled m ≡ true

module_ok : (m : Module) → H de.«module» m → IsTree m
module_ok m h =
    let y = h.0 in
    let ds = y.1.1.1.1.0 in
    let ss = y.1.1.1.1.1.0 in
    subst IsTree h.1 (both_true (all_true (map decl_spelled ds)) (all_true (map stmt_spelled ss)) (all_of decl_spelled ds (declarations_ok ds h.2.1.1.1.1.0)) (all_of stmt_spelled ss (body_ok ss h.2.1.1.1.1.1.0)))

abbrev SpelledBy : Result Module NoModule → Type 0
SpelledBy (Ok tree) = IsTree tree
SpelledBy (Err f) = Unit {0}

left_part : (a b ts : Tokens) → ts ≡ a ++ b → AreSpelled ts → AreSpelled a
left_part a b ts i all = go a (subst AreSpelled i all)
  where
    go : (a : Tokens) → AreSpelled (a ++ b) → AreSpelled a
    go [] all = tt
    go (t ∷ a) all = (all.0, go a all.1)

parsed_ok : (n : ℕ) (ts : Tokens) (r : Read Module) → AreSpelled ts → reads n de.«module» ts ≡ r → SpelledBy (parsed r)
parsed_ok n ts (Found m rest) all i =
    let v = verdict n ts (Found m rest) i in
    module_ok m (holds IsSpelledToken PN (spells n) (λ k x ts a j. nested n k x ts a j) de.«module» m v.0 (left_part v.0 rest ts v.1 all) v.2)
parsed_ok n ts (Fails Wrong rest) all i = tt
parsed_ok n ts (Fails Deep rest) all i = tt

fault_ok : (o : Option ScanFault) (i : Input) → SpelledBy (by_fault o i)
fault_ok (Some f) i = tt
fault_ok None i = parsed_ok limit (tokens_of i) (reads limit de.«module» (tokens_of i)) (tokens_spelled (suc (length i.text)) i) refl

reading_ok : (text : List ℕ) → SpelledBy (reading text)
unfolding reading
reading_ok text = fault_ok (fault_of (start_of text)) (start_of text)

pub readings_spelled : ReadingsAreSpelled
readings_spelled text tree i = subst SpelledBy i (reading_ok text)
