-- The strings of a tree by words that are counted up to a limit: where there are few words in all, they are those that are not.
use Rattle.std.proofs.Common.{◌≡◌, ℕ, ◌<◌, List, [], ◌∷◌, ◌++◌, Option, Some, None, refl, arith}
use Rattle.std.specs.List.{AllZip, flat_map}
use Rattle.ob_types.specs.declared.types.TypeRef.{TypeRef}
use Rattle.ob_types.specs.declared.value.Value.TheVariants as literal
use Rattle.ob_types.specs.declared.typed.Passing.{Passing}
use Rattle.ob_types.specs.declared.typed.Passing.TheVariants as passing
use Rattle.ob_types.specs.TypedSyntax.{Desig, OfVariable, Field, Index, Deref, Guard, Expr, Constant, ValueOf, ProcedureValue, Monadic, Dyadic, Logical, CompareTexts, IsPointer, IsRecord, Length, Call, CallVariable, Actuals, NoActual, AnActual, Stmt, Assign, CallProper, Updated, Copy, New, NewOpenArray, Assert, Halt, If, Case, While, Repeat, For, Loop, Exit, Return, With, Stmts, Nothing, Then, Branches, NoBranch, Branch, Cases, NoCase, OneCase, Otherwise, NoElse, Else, Procedure, Module}
use Rattle.ob_layout.specs.Texts.{AText, texts_of_value, passed_texts, texts_of_designator, texts_of_expr, texts_of_actuals, texts_of_optional, texts_of, texts_of_all, texts_of_branches, texts_of_cases, texts_of_else, texts_of_module}
use Rattle.law_load_plan.proofs.Texts.{used}

-- the words of the second are those of the first, where they are below the limit
abbrev IsClose : AText → AText → Type 0
IsClose a b = b.words < 4294967296 → a.words ≡ b.words

abbrev AreClose : List AText → List AText → Type 0
AreClose as_ bs = AllZip IsClose as_ bs

close_both : (a b c d : List AText) → AreClose a b → AreClose c d → AreClose (a ++ c) (b ++ d)
close_both [] [] c d h k = k
close_both [] (y ∷ b) c d h k = absurd h
close_both (x ∷ a) [] c d h k = absurd h
close_both (x ∷ a) (y ∷ b) c d h k = (h.0, close_both a b c d h.1 k)

close_same : (a : List AText) → AreClose a a
close_same [] = tt
close_same (x ∷ a) = (λ l. refl, close_same a)

pub close_words : (a b : List AText) → AreClose a b → used b < 4294967296 → used a ≡ used b
close_words [] [] h l = refl
close_words [] (y ∷ b) h l = absurd h
close_words (x ∷ a) [] h l = absurd h
close_words (x ∷ a) (y ∷ b) h l =
    let e : x.words ≡ y.words = h.0 (omega (arith, l)) in
    let f : used a ≡ used b = close_words a b h.1 (omega (arith, l)) in
    omega (arith, e, f)

module _ (f g : TypeRef → ℕ) (counted : (t : TypeRef) → g t < 4294967296 → f t ≡ g t) where
  structure_close : (t : TypeRef) (e : Expr) → AreClose (texts_of_expr f e) (texts_of_expr g e) → AreClose (passed_texts passing.Structure e (f t) (texts_of_expr f e)) (passed_texts passing.Structure e (g t) (texts_of_expr g e))
  structure_close t (Constant (literal.Bool b)) h = h
  structure_close t (Constant (literal.Char n)) h = h
  structure_close t (Constant (literal.Int z)) h = h
  structure_close t (Constant (literal.Set n)) h = h
  structure_close t (Constant (literal.Str s)) h = (counted t, tt)
  structure_close t (Constant literal.Nil) h = h
  structure_close t (ValueOf d) h = h
  structure_close t (ProcedureValue q signature) h = h
  structure_close t (Monadic o e at) h = h
  structure_close t (Dyadic o a b at) h = h
  structure_close t (Logical o a b) h = h
  structure_close t (CompareTexts r a b at) h = h
  structure_close t (IsPointer e target) h = h
  structure_close t (IsRecord d target) h = h
  structure_close t (Length d) h = h
  structure_close t (Call callee es at u) h = h
  structure_close t (CallVariable d es at u) h = h

  passed_close : (how : Passing) (t : TypeRef) (e : Expr) → AreClose (texts_of_expr f e) (texts_of_expr g e) → AreClose (passed_texts how e (f t) (texts_of_expr f e)) (passed_texts how e (g t) (texts_of_expr g e))
  passed_close passing.Scalar t e h = h
  passed_close passing.Structure t e h = structure_close t e h
  passed_close passing.OpenArray t e h = h
  passed_close passing.Variable t e h = h
  passed_close passing.VariableRecord t e h = h
  passed_close passing.VariableOpenArray t e h = h

  mutual
    desig_close : (d : Desig) → AreClose (texts_of_designator f d) (texts_of_designator g d)
    desig_close (OfVariable v t) = tt
    desig_close (Field d owner name t) = desig_close d
    desig_close (Index d n e at t) = close_both (texts_of_designator f d) (texts_of_designator g d) (texts_of_expr f e) (texts_of_expr g e) (desig_close d) (expr_close e)
    desig_close (Deref d at t) = desig_close d
    desig_close (Guard d guarded target at t) = desig_close d

    expr_close : (e : Expr) → AreClose (texts_of_expr f e) (texts_of_expr g e)
    expr_close (Constant v) = close_same (texts_of_value v)
    expr_close (ValueOf d) = desig_close d
    expr_close (ProcedureValue q signature) = tt
    expr_close (Monadic o e at) = expr_close e
    expr_close (Dyadic o a b at) = close_both (texts_of_expr f a) (texts_of_expr g a) (texts_of_expr f b) (texts_of_expr g b) (expr_close a) (expr_close b)
    expr_close (Logical o a b) = close_both (texts_of_expr f a) (texts_of_expr g a) (texts_of_expr f b) (texts_of_expr g b) (expr_close a) (expr_close b)
    expr_close (CompareTexts r a b at) = close_both (texts_of_expr f a) (texts_of_expr g a) (texts_of_expr f b) (texts_of_expr g b) (expr_close a) (expr_close b)
    expr_close (IsPointer e target) = expr_close e
    expr_close (IsRecord d target) = desig_close d
    expr_close (Length d) = desig_close d
    expr_close (Call callee es at t) = actuals_close es
    expr_close (CallVariable d es at t) = close_both (texts_of_designator f d) (texts_of_designator g d) (texts_of_actuals f es) (texts_of_actuals g es) (desig_close d) (actuals_close es)

    actuals_close : (es : Actuals) → AreClose (texts_of_actuals f es) (texts_of_actuals g es)
    actuals_close NoActual = tt
    actuals_close (AnActual how t e rest) = close_both (passed_texts how e (f t) (texts_of_expr f e)) (passed_texts how e (g t) (texts_of_expr g e)) (texts_of_actuals f rest) (texts_of_actuals g rest) (passed_close how t e (expr_close e)) (actuals_close rest)

  optional_close : (e : Option Expr) → AreClose (texts_of_optional f e) (texts_of_optional g e)
  optional_close None = tt
  optional_close (Some e) = expr_close e

  mutual
    stmt_close : (s : Stmt) → AreClose (texts_of f s) (texts_of g s)
    stmt_close (Assign d how e at) = close_both (texts_of_designator f d) (texts_of_designator g d) (texts_of_expr f e) (texts_of_expr g e) (desig_close d) (expr_close e)
    stmt_close (CallProper e) = expr_close e
    stmt_close (Updated o d e at) = close_both (texts_of_designator f d) (texts_of_designator g d) (texts_of_expr f e) (texts_of_expr g e) (desig_close d) (expr_close e)
    stmt_close (Copy e d at) = close_both (texts_of_expr f e) (texts_of_expr g e) (texts_of_designator f d) (texts_of_designator g d) (expr_close e) (desig_close d)
    stmt_close (New d what at) = desig_close d
    stmt_close (NewOpenArray d t n at) = close_both (texts_of_designator f d) (texts_of_designator g d) (texts_of_expr f n) (texts_of_expr g n) (desig_close d) (expr_close n)
    stmt_close (Assert e number at) = expr_close e
    stmt_close (Halt number at) = tt
    stmt_close (If branches otherwise) = close_both (texts_of_branches f branches) (texts_of_branches g branches) (texts_of_all f otherwise) (texts_of_all g otherwise) (branches_close branches) (stmts_close otherwise)
    stmt_close (Case e cases otherwise at) = close_both (texts_of_expr f e ++ texts_of_cases f cases) (texts_of_expr g e ++ texts_of_cases g cases) (texts_of_else f otherwise) (texts_of_else g otherwise) (close_both (texts_of_expr f e) (texts_of_expr g e) (texts_of_cases f cases) (texts_of_cases g cases) (expr_close e) (cases_close cases)) (else_close otherwise)
    stmt_close (While e body at) = close_both (texts_of_expr f e) (texts_of_expr g e) (texts_of_all f body) (texts_of_all g body) (expr_close e) (stmts_close body)
    stmt_close (Repeat body e at) = close_both (texts_of_all f body) (texts_of_all g body) (texts_of_expr f e) (texts_of_expr g e) (stmts_close body) (expr_close e)
    stmt_close (For v w start end step body at) = close_both (texts_of_expr f end ++ texts_of_expr f start) (texts_of_expr g end ++ texts_of_expr g start) (texts_of_all f body) (texts_of_all g body) (close_both (texts_of_expr f end) (texts_of_expr g end) (texts_of_expr f start) (texts_of_expr g start) (expr_close end) (expr_close start)) (stmts_close body)
    stmt_close (Loop body at) = stmts_close body
    stmt_close Exit = tt
    stmt_close (Return e) = optional_close e
    stmt_close (With branches otherwise at) = close_both (texts_of_branches f branches) (texts_of_branches g branches) (texts_of_else f otherwise) (texts_of_else g otherwise) (branches_close branches) (else_close otherwise)

    stmts_close : (s : Stmts) → AreClose (texts_of_all f s) (texts_of_all g s)
    stmts_close Nothing = tt
    stmts_close (Then s rest) = close_both (texts_of f s) (texts_of g s) (texts_of_all f rest) (texts_of_all g rest) (stmt_close s) (stmts_close rest)

    branches_close : (bs : Branches) → AreClose (texts_of_branches f bs) (texts_of_branches g bs)
    branches_close NoBranch = tt
    branches_close (Branch test body rest) = close_both (texts_of_expr f test ++ texts_of_all f body) (texts_of_expr g test ++ texts_of_all g body) (texts_of_branches f rest) (texts_of_branches g rest) (close_both (texts_of_expr f test) (texts_of_expr g test) (texts_of_all f body) (texts_of_all g body) (expr_close test) (stmts_close body)) (branches_close rest)

    cases_close : (cs : Cases) → AreClose (texts_of_cases f cs) (texts_of_cases g cs)
    cases_close NoCase = tt
    cases_close (OneCase labels body rest) = close_both (texts_of_all f body) (texts_of_all g body) (texts_of_cases f rest) (texts_of_cases g rest) (stmts_close body) (cases_close rest)

    else_close : (o : Otherwise) → AreClose (texts_of_else f o) (texts_of_else g o)
    else_close NoElse = tt
    else_close (Else body) = stmts_close body

  procedures_close : (ps : List Procedure) → AreClose (flat_map (λ p. texts_of_all f p.body) ps) (flat_map (λ p. texts_of_all g p.body) ps)
  procedures_close [] = tt
  procedures_close (p ∷ ps) = close_both (texts_of_all f p.body) (texts_of_all g p.body) (flat_map (λ p. texts_of_all f p.body) ps) (flat_map (λ p. texts_of_all g p.body) ps) (stmts_close p.body) (procedures_close ps)

  pub module_close : (m : Module) → AreClose (texts_of_module f m) (texts_of_module g m)
  module_close m = close_both (texts_of_all f m.body) (texts_of_all g m.body) (flat_map (λ p. texts_of_all f p.body) m.procedures) (flat_map (λ p. texts_of_all g p.body) m.procedures) (stmts_close m.body) (procedures_close m.procedures)
