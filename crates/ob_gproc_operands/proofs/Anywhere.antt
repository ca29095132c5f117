-- How many operands stand depends on no name.
use Rattle.std.specs.Prelude.{max, Option, Some, None}
use Rattle.std.proofs.Common.{◌≡◌, ℕ, ◌+◌, refl, sym, ap, ◌∙◌}
use Rattle.ob_types.specs.declared.types.TypeRef.{TypeRef}
use Rattle.ob_types.specs.declared.typed.Passing.{Passing}
use Rattle.ob_types.specs.declared.typed.Passing.TheVariants as passing
use Rattle.ob_types.specs.declared.typed.Guarded.TheVariants as guarded
use Rattle.ob_types.specs.TypedSyntax.{Desig, OfVariable, Field, Index, Deref, Guard, Expr, Constant, ValueOf, ProcedureValue, Monadic, Dyadic, Logical, CompareTexts, IsPointer, IsRecord, Length, Call, CallVariable, Actuals, NoActual, AnActual, Stmt, Assign, CallProper, Updated, Copy, New, NewOpenArray, Assert, Halt, If, Case, While, Repeat, For, Loop, Exit, Return, With, Stmts, Nothing, Then, Branches, NoBranch, Branch, Cases, NoCase, OneCase, Otherwise, NoElse, Else}
use Rattle.ob_scheme.specs.declared.want.Want.{Want}
use Rattle.ob_scheme.specs.declared.want.Want.TheVariants as want
use Rattle.ob_scheme.specs.Context.{Context, words}
use Rattle.ob_scheme.specs.Expressions.{wanted, index_want, guard_want}
use Rattle.ob_scheme.specs.Statements.{target_want, source_want}
use Rattle.ob_scheme.specs.Needs.{operands_of, label_operands, result_operands, need_desig, need_expr, need_actuals, need_result, need_stmt, need_stmts, need_branches, need_cases, need_else}
use Rattle.ob_gproc_operands.specs.Nowhere.{passed}

-- a structure's words make no difference
desig_room : (c : Context) (n : ℕ) (d : Desig) → need_desig c (want.Room n) d ≡ need_desig c want.Place d
desig_room c n (OfVariable v t) = refl
desig_room c n (Field d owner name t) = refl
desig_room c n (Index d l i at t) = refl
desig_room c n (Deref d at t) = refl
desig_room c n (Guard d guarded.Pointer target at t) = refl
desig_room c n (Guard d guarded.Record target at t) = refl

expr_room : (c : Context) (n : ℕ) (e : Expr) → need_expr c (want.Room n) e ≡ need_expr c want.Place e
expr_room c n (Constant v) = refl
expr_room c n (ValueOf d) = desig_room c n d
expr_room c n (ProcedureValue q signature) = refl
expr_room c n (Monadic o e at) = refl
expr_room c n (Dyadic o a b at) = refl
expr_room c n (Logical o a b) = refl
expr_room c n (CompareTexts r a b at) = refl
expr_room c n (IsPointer e target) = refl
expr_room c n (IsRecord d target) = refl
expr_room c n (Length d) = refl
expr_room c n (Call callee es at t) = refl
expr_room c n (CallVariable d es at t) = refl

pub wanted_need : (c : Context) (how : Passing) (t : TypeRef) (e : Expr) → need_expr c (wanted (words c) how t) e ≡ need_expr c (passed how) e
wanted_need c passing.Scalar t e = refl
wanted_need c passing.Structure t e = expr_room c (words c t) e
wanted_need c passing.OpenArray t e = refl
wanted_need c passing.Variable t e = refl
wanted_need c passing.VariableRecord t e = refl
wanted_need c passing.VariableOpenArray t e = refl

pub wanted_operands : (c : Context) (how : Passing) (t : TypeRef) → operands_of (wanted (words c) how t) ≡ operands_of (passed how)
wanted_operands c passing.Scalar t = refl
wanted_operands c passing.Structure t = refl
wanted_operands c passing.OpenArray t = refl
wanted_operands c passing.Variable t = refl
wanted_operands c passing.VariableRecord t = refl
wanted_operands c passing.VariableOpenArray t = refl

max_two : (a b m n : ℕ) → a ≡ m → b ≡ n → max a b ≡ max m n
max_two a b m n h k = ap (λ x. max x b) h ∙ ap (λ x. max m x) k

module _ (c d : Context) where
  mutual
    pub desig_need : (w : Want) (x : Desig) → need_desig c w x ≡ need_desig d w x
    desig_need w (OfVariable v t) = refl
    desig_need w (Field x owner name t) = ap (λ n. max n (operands_of w)) (desig_need want.Place x)
    desig_need w (Index x n i at t) = max_two _ _ _ _ (desig_need (index_want n) x) (ap (λ k. max (operands_of (index_want n) + k) (operands_of w)) (expr_need want.Value i))
    desig_need w (Deref x at t) = ap (λ n. max n (operands_of w)) (desig_need want.Value x)
    desig_need w (Guard x g target at t) = ap (λ n. max n (operands_of w)) (desig_need (guard_want g w) x)

    pub expr_need : (w : Want) (e : Expr) → need_expr c w e ≡ need_expr d w e
    expr_need w (Constant v) = refl
    expr_need w (ValueOf x) = desig_need w x
    expr_need w (ProcedureValue q signature) = refl
    expr_need w (Monadic o e at) = expr_need want.Value e
    expr_need w (Dyadic o a b at) = max_two _ _ _ _ (expr_need want.Value a) (ap (λ n. 1 + n) (expr_need want.Value b))
    expr_need w (Logical o a b) = max_two _ _ _ _ (expr_need want.Value a) (expr_need want.Value b)
    expr_need w (CompareTexts r a b at) = max_two _ _ _ _ (expr_need want.PlaceAndLength a) (ap (λ n. 2 + n) (expr_need want.PlaceAndLength b))
    expr_need w (IsPointer e target) = expr_need want.Value e
    expr_need w (IsRecord x target) = desig_need want.Tag x
    expr_need w (Length x) = desig_need want.Length x
    expr_need w (Call callee es at t) = ap (λ n. max n (result_operands t)) (actuals_need es)
    expr_need w (CallVariable x es at t) = max_two _ _ _ _ (desig_need want.Value x) (ap (λ n. 1 + n) (actuals_need es))

    pub actuals_need : (es : Actuals) → need_actuals c es ≡ need_actuals d es
    actuals_need NoActual = refl
    actuals_need (AnActual how t e rest) =
        max_two _ _ _ _ (wanted_need c how t e ∙ expr_need (passed how) e ∙ sym (wanted_need d how t e))
        (ap (λ k. k + need_actuals c rest) (wanted_operands c how t ∙ sym (wanted_operands d how t)) ∙ ap (λ n. operands_of (wanted (words d) how t) + n) (actuals_need rest))

  result_need : (e : Option Expr) → need_result c e ≡ need_result d e
  result_need None = refl
  result_need (Some e) = expr_need want.Value e

  mutual
    pub stmt_need : (s : Stmt) → need_stmt c s ≡ need_stmt d s
    stmt_need (Assign x how e at) = max_two _ _ _ _ (desig_need (target_want how x) x) (ap (λ n. operands_of (target_want how x) + n) (expr_need (source_want how) e))
    stmt_need (CallProper e) = expr_need want.Value e
    stmt_need (Updated o x e at) = max_two _ _ _ _ (desig_need want.Place x) (ap (λ n. 1 + n) (expr_need want.Value e))
    stmt_need (Copy e x at) = max_two _ _ _ _ (expr_need want.PlaceAndLength e) (ap (λ n. 2 + n) (desig_need want.PlaceAndLength x))
    stmt_need (New x what at) = desig_need want.Place x
    stmt_need (NewOpenArray x t n at) = max_two _ _ _ _ (desig_need want.Place x) (ap (λ k. 1 + k) (expr_need want.Value n))
    stmt_need (Assert e number at) = expr_need want.Value e
    stmt_need (Halt number at) = refl
    stmt_need (If branches otherwise) = max_two _ _ _ _ (branches_need branches) (stmts_need otherwise)
    stmt_need (Case e cases otherwise at) = max_two _ _ _ _ (ap (λ n. 1 + n) (expr_need want.Value e)) (max_two _ _ _ _ (cases_need cases) (else_need otherwise))
    stmt_need (While e body at) = max_two _ _ _ _ (expr_need want.Value e) (stmts_need body)
    stmt_need (Repeat body e at) = max_two _ _ _ _ (stmts_need body) (expr_need want.Value e)
    stmt_need (For v w start stop step body at) = max_two _ _ _ _ (ap (λ n. 1 + n) (expr_need want.Value stop)) (max_two _ _ _ _ (ap (λ n. 1 + n) (expr_need want.Value start)) (ap (max 2) (stmts_need body)))
    stmt_need (Loop body at) = stmts_need body
    stmt_need Exit = refl
    stmt_need (Return e) = result_need e
    stmt_need (With branches otherwise at) = max_two _ _ _ _ (branches_need branches) (else_need otherwise)

    pub stmts_need : (s : Stmts) → need_stmts c s ≡ need_stmts d s
    stmts_need Nothing = refl
    stmts_need (Then s rest) = max_two _ _ _ _ (stmt_need s) (stmts_need rest)

    pub branches_need : (bs : Branches) → need_branches c bs ≡ need_branches d bs
    branches_need NoBranch = refl
    branches_need (Branch test body rest) = max_two _ _ _ _ (expr_need want.Value test) (max_two _ _ _ _ (stmts_need body) (branches_need rest))

    pub cases_need : (cs : Cases) → need_cases c cs ≡ need_cases d cs
    cases_need NoCase = refl
    cases_need (OneCase labels body rest) = ap (max (label_operands labels)) (max_two _ _ _ _ (stmts_need body) (cases_need rest))

    pub else_need : (o : Otherwise) → need_else c o ≡ need_else d o
    else_need NoElse = refl
    else_need (Else body) = stmts_need body
