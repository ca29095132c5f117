-- How many nodes a designator and an expression have, the ends of lists of actual parameters too.
use Rattle.std.specs.Prelude.{ℕ, suc, ◌+◌}
use Rattle.ob_types.specs.TypedSyntax.{Desig, OfVariable, Field, Index, Deref, Guard, Expr, Constant, ValueOf, ProcedureValue, Monadic, Dyadic, Logical, CompareTexts, IsPointer, IsRecord, Length, Call, CallVariable, Actuals, NoActual, AnActual}

abbrev mutual
  pub size_of_designator : Desig → ℕ
  size_of_designator (OfVariable v t) = 1
  size_of_designator (Field d owner name t) = suc (size_of_designator d)
  size_of_designator (Index d n e at t) = suc (size_of_designator d + size_of_expr e)
  size_of_designator (Deref d at t) = suc (size_of_designator d)
  size_of_designator (Guard d g target at t) = suc (size_of_designator d)

  pub size_of_expr : Expr → ℕ
  size_of_expr (Constant v) = 1
  size_of_expr (ValueOf d) = suc (size_of_designator d)
  size_of_expr (ProcedureValue q signature) = 1
  size_of_expr (Monadic op e at) = suc (size_of_expr e)
  size_of_expr (Dyadic op a b at) = suc (size_of_expr a + size_of_expr b)
  size_of_expr (Logical op a b) = suc (size_of_expr a + size_of_expr b)
  size_of_expr (CompareTexts r a b at) = suc (size_of_expr a + size_of_expr b)
  size_of_expr (IsPointer e target) = suc (size_of_expr e)
  size_of_expr (IsRecord d target) = suc (size_of_designator d)
  size_of_expr (Length d) = suc (size_of_designator d)
  size_of_expr (Call callee es at t) = suc (size_of_actuals es)
  size_of_expr (CallVariable d es at t) = suc (size_of_designator d + size_of_actuals es)

  pub size_of_actuals : Actuals → ℕ
  size_of_actuals NoActual = 1
  size_of_actuals (AnActual how t e rest) = suc (size_of_expr e + size_of_actuals rest)
