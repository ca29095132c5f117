-- What code adds to an index is the same from any index on.
use Rattle.std.proofs.Common.{◌≡◌, ℕ, suc, ◌+◌, List, arith}
use Rattle.ob_types.specs.declared.typed.Connective.TheVariants as connective
use Rattle.ob_types.specs.TypedSyntax.{Desig, OfVariable, Field, Index, Deref, Guard, Expr, Constant, ValueOf, ProcedureValue, Monadic, Dyadic, Logical, CompareTexts, IsPointer, IsRecord, Length, Call, CallVariable, Actuals, NoActual, AnActual}
use Rattle.ob_scheme.specs.declared.want.Want.{Want}
use Rattle.ob_scheme.specs.declared.want.Want.TheVariants as want
use Rattle.ob_scheme.specs.Lines.{Line, behind}
use Rattle.ob_scheme.specs.Context.{Context, words}
use Rattle.ob_scheme.specs.Operations.{unary_code}
use Rattle.ob_scheme.specs.Expressions.{wanted, constant_code, index_want, guard_want, from_guard, from_place, from_pointer, variable_code, end_desig, end_expr, end_actuals}
use Rattle.ob_scheme.proofs.Ends.{behind_is}

abbrev pub Shifts : (ℕ → ℕ) → Type 0
Shifts f = (n : ℕ) → f n ≡ n + f 0

behind_shifts : (l : List Line) → Shifts (behind l)
behind_shifts l n = omega (arith, behind_is l n, behind_is l 0)

-- behind what began at n and at 0
later : (f : ℕ → ℕ) (n p q : ℕ) → Shifts f → p ≡ n + q → f p ≡ n + f q
later f n p q s h = omega (arith, h, s p, s q)

one_later : (n p q : ℕ) → p ≡ n + q → suc p ≡ n + suc q
one_later n p q h = omega (arith, h)

module _ (c : Context) where
  mutual
    pub desig_shifts : (w : Want) (d : Desig) → Shifts (end_desig c w d)
    desig_shifts w (OfVariable v t) n = behind_shifts (variable_code c w v t) n
    desig_shifts w (Field d owner name t) n =
        let p = end_desig c want.Place d n in
        let q = end_desig c want.Place d 0 in
        later (behind (from_place c w t)) n (suc p) (suc q) (behind_shifts (from_place c w t)) (one_later n p q (desig_shifts want.Place d n))
    desig_shifts w (Index d length i at t) n =
        let p = end_desig c (index_want length) d n in
        let q = end_desig c (index_want length) d 0 in
        let p1 = end_expr c want.Value i p in
        let q1 = end_expr c want.Value i q in
        let h = later (end_expr c want.Value i) n p q (expr_shifts want.Value i) (desig_shifts (index_want length) d n) in
        later (behind (from_place c w t)) n (suc p1) (suc q1) (behind_shifts (from_place c w t)) (one_later n p1 q1 h)
    desig_shifts w (Deref d at t) n =
        let p = end_desig c want.Value d n in
        let q = end_desig c want.Value d 0 in
        later (behind (from_pointer c w t at)) n p q (behind_shifts (from_pointer c w t at)) (desig_shifts want.Value d n)
    desig_shifts w (Guard d g target at t) n =
        let p = end_desig c (guard_want g w) d n in
        let q = end_desig c (guard_want g w) d 0 in
        later (behind (from_guard c g w t)) n (suc p) (suc q) (behind_shifts (from_guard c g w t)) (one_later n p q (desig_shifts (guard_want g w) d n))

    pub expr_shifts : (w : Want) (e : Expr) → Shifts (end_expr c w e)
    expr_shifts w (Constant v) n = behind_shifts (constant_code w v) n
    expr_shifts w (ValueOf d) n = desig_shifts w d n
    expr_shifts w (ProcedureValue q signature) n = omega arith
    expr_shifts w (Monadic o e at) n =
        let p = end_expr c want.Value e n in
        let q = end_expr c want.Value e 0 in
        later (behind (unary_code o at)) n p q (behind_shifts (unary_code o at)) (expr_shifts want.Value e n)
    expr_shifts w (Dyadic o a b at) n =
        let p = end_expr c want.Value a n in
        let q = end_expr c want.Value a 0 in
        one_later n (end_expr c want.Value b p) (end_expr c want.Value b q) (later (end_expr c want.Value b) n p q (expr_shifts want.Value b) (expr_shifts want.Value a n))
    expr_shifts w (Logical connective.And a b) n =
        let p = suc (end_expr c want.Value a n) in
        let q = suc (end_expr c want.Value a 0) in
        let h = later (end_expr c want.Value b) n p q (expr_shifts want.Value b) (one_later n (end_expr c want.Value a n) (end_expr c want.Value a 0) (expr_shifts want.Value a n)) in
        let k = one_later n (end_expr c want.Value b p) (end_expr c want.Value b q) h in
        one_later n (suc (end_expr c want.Value b p)) (suc (end_expr c want.Value b q)) k
    expr_shifts w (Logical connective.Or a b) n =
        let p = end_expr c want.Value a n in
        let q = end_expr c want.Value a 0 in
        let h1 = one_later n p q (expr_shifts want.Value a n) in
        let h2 = one_later n (suc p) (suc q) h1 in
        let h3 = one_later n (suc (suc p)) (suc (suc q)) h2 in
        later (end_expr c want.Value b) n (suc (suc (suc p))) (suc (suc (suc q))) (expr_shifts want.Value b) h3
    expr_shifts w (CompareTexts r a b at) n =
        let p = end_expr c want.PlaceAndLength a n in
        let q = end_expr c want.PlaceAndLength a 0 in
        one_later n (end_expr c want.PlaceAndLength b p) (end_expr c want.PlaceAndLength b q) (later (end_expr c want.PlaceAndLength b) n p q (expr_shifts want.PlaceAndLength b) (expr_shifts want.PlaceAndLength a n))
    expr_shifts w (IsPointer e target) n = one_later n (end_expr c want.Value e n) (end_expr c want.Value e 0) (expr_shifts want.Value e n)
    expr_shifts w (IsRecord d target) n = one_later n (end_desig c want.Tag d n) (end_desig c want.Tag d 0) (desig_shifts want.Tag d n)
    expr_shifts w (Length d) n = desig_shifts want.Length d n
    expr_shifts w (Call callee es at t) n = one_later n (end_actuals c es n) (end_actuals c es 0) (actuals_shift es n)
    expr_shifts w (CallVariable d es at t) n =
        let p = end_desig c want.Value d n in
        let q = end_desig c want.Value d 0 in
        one_later n (end_actuals c es p) (end_actuals c es q) (later (end_actuals c es) n p q (actuals_shift es) (desig_shifts want.Value d n))

    pub actuals_shift : (es : Actuals) → Shifts (end_actuals c es)
    actuals_shift NoActual n = omega arith
    actuals_shift (AnActual how t e rest) n =
        let w = wanted (words c) how t in
        later (end_actuals c rest) n (end_expr c w e n) (end_expr c w e 0) (actuals_shift rest) (expr_shifts w e n)
