-- The strings' words are as many as the meaning counts.
use Rattle.std.proofs.Common.{◌≡◌, ℕ, ◌+◌, List, [], ◌∷◌, ◌++◌, length, Option, Some, None, refl, ap, ◌∙◌, arith, length-append}
use Rattle.std.proofs.lemmas.List.{length-take-le, length-replicate}
use Rattle.std.specs.Prelude.{ℤ, pos, map, replicate}
use Rattle.ob_types.specs.declared.types.TypeRef.{TypeRef}
use Rattle.ob_types.specs.declared.value.Value.{Value as Literal}
use Rattle.ob_types.specs.declared.value.Value.TheVariants as literal
use Rattle.ob_types.specs.declared.typed.Passing.{Passing}
use Rattle.ob_types.specs.declared.typed.Passing.TheVariants as passing
use Rattle.ob_types.specs.TypedSyntax.{Desig, OfVariable, Field, Index, Deref, Guard, Expr, Constant, ValueOf, ProcedureValue, Monadic, Dyadic, Logical, CompareTexts, IsPointer, IsRecord, Length, Call, CallVariable, Actuals, NoActual, AnActual, Stmt, Assign, CallProper, Updated, Copy, New, NewOpenArray, Assert, Halt, If, Case, While, Repeat, For, Loop, Exit, Return, With, Stmts, Nothing, Then, Branches, NoBranch, Branch, Cases, NoCase, OneCase, Otherwise, NoElse, Else, Procedure, Module}
use Rattle.ob_meaning.specs.Values.{Program, Form, form_in, words}
use Rattle.ob_meaning.specs.Globals.{literal_words, passed_words, texts_of_designator, texts_of_expr, texts_of_actuals, texts_of_optional, texts_of, texts_of_all, texts_of_branches, texts_of_cases, texts_of_else, texts_of_procedures}
use Rattle.law_simulation_relation.specs.Texts.{text_words, literal_text, passed_text, designator_texts, expr_texts, actuals_texts, optional_texts, stmt_texts, stmts_texts, branches_texts, cases_texts, else_texts, procedures_texts, module_texts}

text_length : (text : List ℕ) (n : ℕ) → length (text_words text n) ≡ n
text_length text n = let l = map pos text ++ replicate n (pos 0) in let h : length l ≡ length (map pos text) + n = length-append (map pos text) (replicate n (pos 0)) ∙ ap (λ k. length (map pos text) + k) (length-replicate n (pos 0)) in length-take-le n l (omega arith)

literal_length : (v : Literal) → length (literal_text v) ≡ literal_words v
literal_length (literal.Bool b) = refl
literal_length (literal.Char b) = refl
literal_length (literal.Int b) = refl
literal_length (literal.Set b) = refl
literal_length (literal.Str text) = text_length text (length text + 1)
literal_length literal.Nil = refl

passed_length : (how : Passing) (e : Expr) (n m : ℕ) (other : List ℤ) → length other ≡ m → length (passed_text how e n other) ≡ passed_words how e n m
passed_length passing.Scalar e n m other h = h
passed_length passing.OpenArray e n m other h = h
passed_length passing.Variable e n m other h = h
passed_length passing.VariableRecord e n m other h = h
passed_length passing.VariableOpenArray e n m other h = h
passed_length passing.Structure (Constant (literal.Str text)) n m other h = text_length text n
passed_length passing.Structure (Constant (literal.Bool b)) n m other h = h
passed_length passing.Structure (Constant (literal.Char b)) n m other h = h
passed_length passing.Structure (Constant (literal.Int b)) n m other h = h
passed_length passing.Structure (Constant (literal.Set b)) n m other h = h
passed_length passing.Structure (Constant literal.Nil) n m other h = h
passed_length passing.Structure (ValueOf d) n m other h = h
passed_length passing.Structure (ProcedureValue q signature) n m other h = h
passed_length passing.Structure (Monadic op e at) n m other h = h
passed_length passing.Structure (Dyadic op a b at) n m other h = h
passed_length passing.Structure (Logical op a b) n m other h = h
passed_length passing.Structure (CompareTexts r a b at) n m other h = h
passed_length passing.Structure (IsPointer e target) n m other h = h
passed_length passing.Structure (IsRecord d target) n m other h = h
passed_length passing.Structure (Length d) n m other h = h
passed_length passing.Structure (Call callee es at t) n m other h = h
passed_length passing.Structure (CallVariable d es at t) n m other h = h

module _ (form : TypeRef → Form) where
  two : (x y : List ℤ) (m n : ℕ) → length x ≡ m → length y ≡ n → length (x ++ y) ≡ m + n
  two x y m n h k = length-append x y ∙ omega (arith, h, k)

  mutual
    designator_length : (d : Desig) → length (designator_texts form d) ≡ texts_of_designator form d
    designator_length (OfVariable v t) = refl
    designator_length (Field d owner name t) = designator_length d
    designator_length (Index d n e at t) = two (designator_texts form d) (expr_texts form e) _ _ (designator_length d) (expr_length e)
    designator_length (Deref d at t) = designator_length d
    designator_length (Guard d g target at t) = designator_length d

    expr_length : (e : Expr) → length (expr_texts form e) ≡ texts_of_expr form e
    expr_length (Constant v) = literal_length v
    expr_length (ValueOf d) = designator_length d
    expr_length (ProcedureValue q signature) = refl
    expr_length (Monadic op e at) = expr_length e
    expr_length (Dyadic op a b at) = two (expr_texts form a) (expr_texts form b) _ _ (expr_length a) (expr_length b)
    expr_length (Logical op a b) = two (expr_texts form a) (expr_texts form b) _ _ (expr_length a) (expr_length b)
    expr_length (CompareTexts r a b at) = two (expr_texts form a) (expr_texts form b) _ _ (expr_length a) (expr_length b)
    expr_length (IsPointer e target) = expr_length e
    expr_length (IsRecord d target) = designator_length d
    expr_length (Length d) = designator_length d
    expr_length (Call callee es at t) = actuals_length es
    expr_length (CallVariable d es at t) = two (designator_texts form d) (actuals_texts form es) _ _ (designator_length d) (actuals_length es)

    actuals_length : (es : Actuals) → length (actuals_texts form es) ≡ texts_of_actuals form es
    actuals_length NoActual = refl
    actuals_length (AnActual how t e rest) = two (passed_text how e (words (form t)) (expr_texts form e)) (actuals_texts form rest) _ _ (passed_length how e (words (form t)) _ (expr_texts form e) (expr_length e)) (actuals_length rest)

  optional_length : (e : Option Expr) → length (optional_texts form e) ≡ texts_of_optional form e
  optional_length None = refl
  optional_length (Some e) = expr_length e

  mutual
    stmt_length : (s : Stmt) → length (stmt_texts form s) ≡ texts_of form s
    stmt_length (Assign d how e at) = two (designator_texts form d) (expr_texts form e) _ _ (designator_length d) (expr_length e)
    stmt_length (CallProper e) = expr_length e
    stmt_length (Updated op d e at) = two (designator_texts form d) (expr_texts form e) _ _ (designator_length d) (expr_length e)
    stmt_length (Copy e d at) = two (expr_texts form e) (designator_texts form d) _ _ (expr_length e) (designator_length d)
    stmt_length (New d what at) = designator_length d
    stmt_length (NewOpenArray d t n at) = two (designator_texts form d) (expr_texts form n) _ _ (designator_length d) (expr_length n)
    stmt_length (Assert e number at) = expr_length e
    stmt_length (Halt number at) = refl
    stmt_length (If branches otherwise) = two (branches_texts form branches) (stmts_texts form otherwise) _ _ (branches_length branches) (stmts_length otherwise)
    stmt_length (Case e cases otherwise at) =
        two (expr_texts form e) (cases_texts form cases ++ else_texts form otherwise) _ _ (expr_length e) (two (cases_texts form cases) (else_texts form otherwise) _ _ (cases_length cases) (else_length otherwise)) ∙ omega arith
    stmt_length (While e body at) = two (expr_texts form e) (stmts_texts form body) _ _ (expr_length e) (stmts_length body)
    stmt_length (Repeat body e at) = two (stmts_texts form body) (expr_texts form e) _ _ (stmts_length body) (expr_length e)
    stmt_length (For v w start end step body at) =
        two (expr_texts form end) (expr_texts form start ++ stmts_texts form body) _ _ (expr_length end) (two (expr_texts form start) (stmts_texts form body) _ _ (expr_length start) (stmts_length body)) ∙ omega arith
    stmt_length (Loop body at) = stmts_length body
    stmt_length Exit = refl
    stmt_length (Return e) = optional_length e
    stmt_length (With branches otherwise at) = two (branches_texts form branches) (else_texts form otherwise) _ _ (branches_length branches) (else_length otherwise)

    pub stmts_length : (s : Stmts) → length (stmts_texts form s) ≡ texts_of_all form s
    stmts_length Nothing = refl
    stmts_length (Then s rest) = two (stmt_texts form s) (stmts_texts form rest) _ _ (stmt_length s) (stmts_length rest)

    branches_length : (bs : Branches) → length (branches_texts form bs) ≡ texts_of_branches form bs
    branches_length NoBranch = refl
    branches_length (Branch test body rest) =
        two (expr_texts form test) (stmts_texts form body ++ branches_texts form rest) _ _ (expr_length test) (two (stmts_texts form body) (branches_texts form rest) _ _ (stmts_length body) (branches_length rest)) ∙ omega arith

    cases_length : (cs : Cases) → length (cases_texts form cs) ≡ texts_of_cases form cs
    cases_length NoCase = refl
    cases_length (OneCase labels body rest) = two (stmts_texts form body) (cases_texts form rest) _ _ (stmts_length body) (cases_length rest)

    else_length : (o : Otherwise) → length (else_texts form o) ≡ texts_of_else form o
    else_length NoElse = refl
    else_length (Else body) = stmts_length body

pub procedures_length : (program : Program) (ps : List Procedure) → length (procedures_texts program ps) ≡ texts_of_procedures program ps
procedures_length program [] = refl
procedures_length program (p ∷ ps) = two (form_in program) (stmts_texts (form_in program) p.body) (procedures_texts program ps) _ _ (stmts_length (form_in program) p.body) (procedures_length program ps)

pub module_length : (program : Program) (m : Module) → length (module_texts program m) ≡ texts_of_all (form_in program) m.body + texts_of_procedures program m.procedures
module_length program m = two (form_in program) (stmts_texts (form_in program) m.body) (procedures_texts program m.procedures) _ _ (stmts_length (form_in program) m.body) (procedures_length program m.procedures)
