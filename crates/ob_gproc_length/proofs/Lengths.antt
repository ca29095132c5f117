-- The code of a tree ends as many lines behind its start as it is said to have.
use Rattle.std.proofs.Common.{◌≡◌, ℕ, suc, ◌+◌, refl, arith, Option, Some, None}
use Rattle.ob_tree.specs.declared.names.QName.{QName}
use Rattle.ob_types.specs.declared.types.TypeRef.{TypeRef}
use Rattle.ob_types.specs.declared.types.TypeRef.TheVariants as ref
use Rattle.ob_types.specs.declared.types.Basic.TheVariants as basic
use Rattle.ob_types.specs.declared.desc.Desc.{Desc}
use Rattle.ob_types.specs.declared.typed.Passing.{Passing}
use Rattle.ob_types.specs.declared.typed.Passing.TheVariants as passing
use Rattle.ob_types.specs.declared.typed.Variable.{Variable}
use Rattle.ob_types.specs.declared.typed.Variable.TheVariants as variable
use Rattle.ob_types.specs.declared.typed.Guarded.TheVariants as guarded
use Rattle.ob_types.specs.declared.typed.Connective.TheVariants as connective
use Rattle.ob_types.specs.declared.value.Value.{Value}
use Rattle.ob_types.specs.declared.value.Value.TheVariants as literal
use Rattle.ob_types.specs.TypedSyntax.{Desig, OfVariable, Field, Index, Deref, Guard, Expr, Constant, ValueOf, ProcedureValue, Monadic, Dyadic, Logical, CompareTexts, IsPointer, IsRecord, Length, Call, CallVariable, Actuals, NoActual, AnActual, Stmt, Assign, CallProper, Updated, Copy, New, NewOpenArray, Assert, Halt, If, Case, While, Repeat, For, Loop, Exit, Return, With, Stmts, Nothing, Then, Branches, NoBranch, Branch, Cases, NoCase, OneCase, Otherwise, NoElse, Else}
use Rattle.ob_scheme.specs.declared.want.Want.{Want}
use Rattle.ob_scheme.specs.declared.want.Want.TheVariants as want
use Rattle.ob_scheme.specs.Context.{Context, words}
use Rattle.ob_scheme.specs.Expressions.{wanted, index_want, guard_want, end_desig, end_expr, end_actuals}
use Rattle.ob_scheme.specs.Statements.{target_want, source_want, for_place, end_for_test, end_labels, end_result, end_stmt, end_stmts, end_branches, end_cases, end_else}
use Rattle.ob_scheme.specs.Lines.{behind}
use Rattle.ob_gproc_operands.specs.Nowhere.{passed}
use Rattle.ob_gstmt_labels.proofs.Behinds.{place_behind, pointer_behind, guard_behind, variable_behind, constant_behind, unary_behind, labels_behind}
use Rattle.ob_gproc_length.specs.Lengths.{desig_lines, expr_lines, actuals_lines, result_lines, stmt_lines, stmts_lines, branches_lines, cases_lines, else_lines}

-- ---- a structure's words make no difference

module _ (types : QName → Option Desc) where
  variable_room : (n : ℕ) (v : Variable) (t : TypeRef) → desig_lines types (want.Room n) (OfVariable v t) ≡ desig_lines types want.Place (OfVariable v t)
  variable_room n (variable.Module m x) t = refl
  variable_room n (variable.Local x) t = refl
  variable_room n (variable.Parameter passing.Scalar x) t = refl
  variable_room n (variable.Parameter passing.Structure x) t = refl
  variable_room n (variable.Parameter passing.OpenArray x) t = refl
  variable_room n (variable.Parameter passing.Variable x) t = refl
  variable_room n (variable.Parameter passing.VariableRecord x) t = refl
  variable_room n (variable.Parameter passing.VariableOpenArray x) t = refl

  desig_room : (n : ℕ) (d : Desig) → desig_lines types (want.Room n) d ≡ desig_lines types want.Place d
  desig_room n (OfVariable v t) = variable_room n v t
  desig_room n (Field d owner name t) = refl
  desig_room n (Index d l i at t) = refl
  desig_room n (Deref d at t) = refl
  desig_room n (Guard d guarded.Pointer target at t) = refl
  desig_room n (Guard d guarded.Record target at t) = refl

  constant_room : (n : ℕ) (v : Value) → expr_lines types (want.Room n) (Constant v) ≡ expr_lines types want.Place (Constant v)
  constant_room n (literal.Bool b) = refl
  constant_room n (literal.Char k) = refl
  constant_room n (literal.Int z) = refl
  constant_room n (literal.Set k) = refl
  constant_room n (literal.Str text) = refl
  constant_room n literal.Nil = refl

  expr_room : (n : ℕ) (e : Expr) → expr_lines types (want.Room n) e ≡ expr_lines types want.Place e
  expr_room n (Constant v) = constant_room n v
  expr_room n (ValueOf d) = desig_room n d
  expr_room n (ProcedureValue q signature) = refl
  expr_room n (Monadic o e at) = refl
  expr_room n (Dyadic o a b at) = refl
  expr_room n (Logical o a b) = refl
  expr_room n (CompareTexts r a b at) = refl
  expr_room n (IsPointer e target) = refl
  expr_room n (IsRecord d target) = refl
  expr_room n (Length d) = refl
  expr_room n (Call callee es at t) = refl
  expr_room n (CallVariable d es at t) = refl

  wanted_lines : (words : TypeRef → ℕ) (how : Passing) (t : TypeRef) (e : Expr) → expr_lines types (wanted words how t) e ≡ expr_lines types (passed how) e
  wanted_lines words passing.Scalar t e = refl
  wanted_lines words passing.Structure t e = expr_room (words t) e
  wanted_lines words passing.OpenArray t e = refl
  wanted_lines words passing.Variable t e = refl
  wanted_lines words passing.VariableRecord t e = refl
  wanted_lines words passing.VariableOpenArray t e = refl

-- ---- where the code ends

module _ (c : Context) where
  mutual
    pub desig_at : (w : Want) (d : Desig) (pc : ℕ) → end_desig c w d pc ≡ pc + desig_lines c.types w d
    desig_at w (OfVariable v t) pc = variable_behind c w v t pc
    desig_at w (Field d owner name t) pc =
        let p = end_desig c want.Place d pc in
        omega (arith, desig_at want.Place d pc, place_behind c w t (suc p))
    desig_at w (Index d n i at t) pc =
        let p = end_desig c (index_want n) d pc in
        let q = end_expr c want.Value i p in
        omega (arith, desig_at (index_want n) d pc, expr_at want.Value i p, place_behind c w t (suc q))
    desig_at w (Deref d at t) pc =
        let p = end_desig c want.Value d pc in
        omega (arith, desig_at want.Value d pc, pointer_behind c w t at p)
    desig_at w (Guard d g target at t) pc =
        let p = end_desig c (guard_want g w) d pc in
        omega (arith, desig_at (guard_want g w) d pc, guard_behind c g w t (suc p))

    pub expr_at : (w : Want) (e : Expr) (pc : ℕ) → end_expr c w e pc ≡ pc + expr_lines c.types w e
    expr_at w (Constant v) pc = constant_behind w v pc
    expr_at w (ValueOf d) pc = desig_at w d pc
    expr_at w (ProcedureValue q signature) pc = omega arith
    expr_at w (Monadic o e at) pc = omega (arith, expr_at want.Value e pc, unary_behind o at (end_expr c want.Value e pc))
    expr_at w (Dyadic o a b at) pc = omega (arith, expr_at want.Value a pc, expr_at want.Value b (end_expr c want.Value a pc))
    expr_at w (Logical connective.And a b) pc = omega (arith, expr_at want.Value a pc, expr_at want.Value b (suc (end_expr c want.Value a pc)))
    expr_at w (Logical connective.Or a b) pc = omega (arith, expr_at want.Value a pc, expr_at want.Value b (suc (suc (suc (end_expr c want.Value a pc)))))
    expr_at w (CompareTexts r a b at) pc = omega (arith, expr_at want.PlaceAndLength a pc, expr_at want.PlaceAndLength b (end_expr c want.PlaceAndLength a pc))
    expr_at w (IsPointer e target) pc = omega (arith, expr_at want.Value e pc)
    expr_at w (IsRecord d target) pc = omega (arith, desig_at want.Tag d pc)
    expr_at w (Length d) pc = desig_at want.Length d pc
    expr_at w (Call callee es at t) pc = omega (arith, actuals_at es pc)
    expr_at w (CallVariable d es at t) pc = omega (arith, desig_at want.Value d pc, actuals_at es (end_desig c want.Value d pc))

    pub actuals_at : (es : Actuals) (pc : ℕ) → end_actuals c es pc ≡ pc + actuals_lines c.types es
    actuals_at NoActual pc = omega arith
    actuals_at (AnActual how t e rest) pc =
        let w = wanted (words c) how t in
        omega (arith, expr_at w e pc, wanted_lines c.types (words c) how t e, actuals_at rest (end_expr c w e pc))

  result_at : (e : Option Expr) (pc : ℕ) → end_result c e pc ≡ pc + result_lines c.types e
  result_at None pc = omega arith
  result_at (Some e) pc = omega (arith, expr_at want.Value e pc)

  mutual
    pub stmt_at : (s : Stmt) (pc : ℕ) → end_stmt c s pc ≡ pc + stmt_lines c.types s
    stmt_at (Assign d how e at) pc = omega (arith, desig_at (target_want how d) d pc, expr_at (source_want how) e (end_desig c (target_want how d) d pc))
    stmt_at (CallProper e) pc = expr_at want.Value e pc
    stmt_at (Updated o d e at) pc = omega (arith, desig_at want.Place d pc, expr_at want.Value e (end_desig c want.Place d pc))
    stmt_at (Copy e d at) pc = omega (arith, expr_at want.PlaceAndLength e pc, desig_at want.PlaceAndLength d (end_expr c want.PlaceAndLength e pc))
    stmt_at (New d what at) pc = omega (arith, desig_at want.Place d pc)
    stmt_at (NewOpenArray d t n at) pc = omega (arith, desig_at want.Place d pc, expr_at want.Value n (end_desig c want.Place d pc))
    stmt_at (Assert e number at) pc = omega (arith, expr_at want.Value e pc)
    stmt_at (Halt number at) pc = omega arith
    stmt_at (If branches otherwise) pc = omega (arith, branches_at branches pc, stmts_at otherwise (end_branches c branches pc))
    stmt_at (Case e cases otherwise at) pc =
        let p = suc (end_expr c want.Value e (suc pc)) in
        omega (arith, expr_at want.Value e (suc pc), cases_at cases p, else_at otherwise (end_cases c cases p))
    stmt_at (While e body at) pc = omega (arith, expr_at want.Value e pc, stmts_at body (suc (end_expr c want.Value e pc)))
    stmt_at (Repeat body e at) pc = omega (arith, stmts_at body pc, expr_at want.Value e (end_stmts c body pc))
    stmt_at (For v w start stop step body at) pc =
        let p1 = suc (end_expr c want.Value stop (suc pc)) in
        let q1 = behind (for_place c v) p1 in
        let p2 = suc (end_expr c want.Value start q1) in
        let p3 = end_for_test c v p2 in
        let p4 = end_stmts c body p3 in
        omega (arith, expr_at want.Value stop (suc pc), variable_behind c want.Place v (ref.Basic basic.LongInt) p1, expr_at want.Value start q1, variable_behind c want.Value v (ref.Basic basic.LongInt) p2, stmts_at body p3, variable_behind c want.Place v (ref.Basic basic.LongInt) p4)
    stmt_at (Loop body at) pc = omega (arith, stmts_at body pc)
    stmt_at Exit pc = omega arith
    stmt_at (Return e) pc = result_at e pc
    stmt_at (With branches otherwise at) pc = omega (arith, branches_at branches pc, else_at otherwise (end_branches c branches pc))

    pub stmts_at : (s : Stmts) (pc : ℕ) → end_stmts c s pc ≡ pc + stmts_lines c.types s
    stmts_at Nothing pc = omega arith
    stmts_at (Then s rest) pc = omega (arith, stmt_at s pc, stmts_at rest (end_stmt c s pc))

    branches_at : (bs : Branches) (pc : ℕ) → end_branches c bs pc ≡ pc + branches_lines c.types bs
    branches_at NoBranch pc = omega arith
    branches_at (Branch test body rest) pc =
        let p1 = end_expr c want.Value test pc in
        let p2 = end_stmts c body (suc p1) in
        omega (arith, expr_at want.Value test pc, stmts_at body (suc p1), branches_at rest (suc p2))

    cases_at : (cs : Cases) (pc : ℕ) → end_cases c cs pc ≡ pc + cases_lines c.types cs
    cases_at NoCase pc = omega arith
    cases_at (OneCase labels body rest) pc =
        let p1 = end_labels c labels pc in
        let p2 = end_stmts c body (suc p1) in
        omega (arith, labels_behind c labels pc, stmts_at body (suc p1), cases_at rest (suc p2))

    else_at : (o : Otherwise) (pc : ℕ) → end_else c o pc ≡ pc + else_lines c.types o
    else_at NoElse pc = omega arith
    else_at (Else body) pc = stmts_at body pc
