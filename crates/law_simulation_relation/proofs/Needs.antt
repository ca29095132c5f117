-- A designator and an expression put at least one operand.
use Rattle.std.proofs.Common.{◌≤◌, arith}
use Rattle.std.specs.Prelude.{Some, None}
use Rattle.ob_types.specs.declared.typed.Guarded.TheVariants as guarded
use Rattle.ob_types.specs.TypedSyntax.{Desig, OfVariable, Field, Index, Deref, Guard, Expr, Constant, ValueOf, ProcedureValue, Monadic, Dyadic, Logical, CompareTexts, IsPointer, IsRecord, Length, Call, CallVariable}
use Rattle.law_simulation_relation.specs.Need.{need_place, need_tagged, need_expr, need_length}

mutual
  pub need_one : (d : Desig) → 1 ≤ need_place d
  need_one (OfVariable v t) = omega arith
  need_one (Field d o x t) = need_one d
  need_one (Index d (Some n) i at t) = omega arith
  need_one (Index d None i at t) = omega arith
  need_one (Deref d at t) = need_one d
  need_one (Guard d guarded.Pointer q at t) = need_one d
  need_one (Guard d guarded.Record q at t) = need_one_tagged d

  need_one_tagged : (d : Desig) → 1 ≤ need_tagged d
  need_one_tagged (OfVariable v t) = omega arith
  need_one_tagged (Field d o x t) = omega arith
  need_one_tagged (Index d (Some n) i at t) = omega arith
  need_one_tagged (Index d None i at t) = omega arith
  need_one_tagged (Deref d at t) = omega arith
  need_one_tagged (Guard d guarded.Pointer q at t) = omega arith
  need_one_tagged (Guard d guarded.Record q at t) = need_one_tagged d

  pub need_one_e : (e : Expr) → 1 ≤ need_expr e
  need_one_e (Constant c) = omega arith
  need_one_e (ValueOf d) = need_one d
  need_one_e (ProcedureValue q signature) = omega arith
  need_one_e (Monadic op e at) = need_one_e e
  need_one_e (Dyadic op a b at) = omega arith
  need_one_e (Logical op a b) = let h = need_one_e a in omega (arith, h)
  need_one_e (CompareTexts r a b at) = omega arith
  need_one_e (IsPointer e q) = need_one_e e
  need_one_e (IsRecord d q) = omega arith
  need_one_e (Length d) = need_one_length d
  need_one_e (Call callee es at t) = omega arith
  need_one_e (CallVariable d es at t) = omega arith

  need_one_length : (d : Desig) → 1 ≤ need_length d
  need_one_length (OfVariable v t) = omega arith
  need_one_length (Field d o x t) = omega arith
  need_one_length (Index d n i at t) = omega arith
  need_one_length (Deref d at t) = need_one d
  need_one_length (Guard d g q at t) = omega arith
