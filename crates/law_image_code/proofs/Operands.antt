-- The operands that the law asks for are no more than the scheme counts.
use Rattle.std.proofs.Common.{◌≡◌, ◌≤◌, ℕ, ◌+◌, max, refl, sym, subst, arith, Option, Some, None}
use Rattle.ob_tree.specs.declared.pos.Pos.{Pos}
use Rattle.ob_tree.specs.declared.names.QName.{QName}
use Rattle.ob_types.specs.declared.value.Value.{Value as Literal}
use Rattle.ob_types.specs.declared.types.TypeRef.{TypeRef}
use Rattle.ob_types.specs.declared.typed.Passing.TheVariants as passing
use Rattle.ob_types.specs.declared.typed.Variable.{Variable}
use Rattle.ob_types.specs.declared.typed.Variable.TheVariants as variable
use Rattle.ob_types.specs.declared.typed.Guarded.{Guarded}
use Rattle.ob_types.specs.declared.typed.Guarded.TheVariants as guarded
use Rattle.ob_types.specs.declared.typed.Assigned.{Assigned}
use Rattle.ob_types.specs.declared.typed.Assigned.TheVariants as assigned
use Rattle.ob_types.specs.TypedSyntax.{Desig, OfVariable, Field, Index, Deref, Guard, Expr, Constant, ValueOf, ProcedureValue, Monadic, Dyadic, Logical, CompareTexts, IsPointer, IsRecord, Length, Call, CallVariable, Actuals, NoActual, AnActual, Stmt, Assign, CallProper, Updated, Copy, New, NewOpenArray, Assert, Halt, If, Case, While, Repeat, For, Loop, Exit, Return, With, Stmts, Nothing, Then, Branches, NoBranch, Branch, Cases, NoCase, OneCase, Otherwise, NoElse, Else}
use Rattle.ob_meaning.specs.Values.{Program}
use Rattle.ob_scheme.specs.Context.{Context, words}
use Rattle.ob_scheme.specs.declared.want.Want.{Want}
use Rattle.ob_scheme.specs.declared.want.Want.TheVariants as want
use Rattle.ob_scheme.specs.Expressions.{guard_want}
use Rattle.ob_scheme.specs.Statements.{target_want, source_want, record_want, has_tag}
use Rattle.ob_scheme.specs.Needs as scheme
use Rattle.ob_scheme.specs.Needs.{operands_of}
use Rattle.law_simulation_relation.specs.Need.{need_place, need_tagged, need_open, need_expr, need_length, need_array, need_passed, need_actuals, need_optional, need_record, need_assigned, need_stmt, need_stmts, need_branches, need_cases, need_else}
use Rattle.law_image_code.specs.Fits.{GuardGives, ConstantGives, ProperFits, IsWhole, IsNoPointer, DesigFits, ExprFits, ActualsFit, ResultFits, AssignedFits, StmtFits, StmtsFit, BranchesFit, CasesFit, ElseFits}

-- what is wanted, as the law counts it
abbrev pub desig_need : Want → Desig → ℕ
desig_need want.Value d = need_place d
desig_need want.Place d = need_place d
desig_need (want.Room n) d = need_place d
desig_need want.PlaceAndTag d = need_tagged d
desig_need want.Tag d = 1
desig_need want.PlaceAndLength d = max (need_open d) (max 2 (need_place d))
desig_need want.Length d = need_length d

abbrev pub expr_need : Want → Expr → ℕ
expr_need want.Value e = need_expr e
expr_need want.Place e = need_passed e passing.Variable
expr_need (want.Room n) e = need_passed e passing.Structure
expr_need want.PlaceAndTag e = need_passed e passing.VariableRecord
expr_need want.Tag e = 0
expr_need want.PlaceAndLength e = need_passed e passing.OpenArray
expr_need want.Length e = 0

whole_need : (w : Want) (d : Desig) → IsWhole w → expr_need w (ValueOf d) ≡ desig_need w d
whole_need want.Value d h = refl
whole_need want.Place d h = refl
whole_need (want.Room n) d h = refl
whole_need want.PlaceAndTag d h = refl
whole_need want.Tag d h = absurd h
whole_need want.PlaceAndLength d h = refl
whole_need want.Length d h = absurd h

-- behind a variable with a place of its own
plain_need : (w : Want) (d : Desig) (n : ℕ) → need_place d ≤ n → need_tagged d ≤ max 2 n → need_open d ≤ max 2 n → need_length d ≤ 1 → desig_need w d ≤ max n (operands_of w)
plain_need want.Value d n a b o l = omega (arith, a)
plain_need want.Place d n a b o l = omega (arith, a)
plain_need (want.Room m) d n a b o l = omega (arith, a)
plain_need want.PlaceAndTag d n a b o l = omega (arith, b)
plain_need want.Tag d n a b o l = omega arith
plain_need want.PlaceAndLength d n a b o l = omega (arith, a, o)
plain_need want.Length d n a b o l = omega (arith, l)

module _ (program : Program) (c : Context) where
  variable_need : (w : Want) (v : Variable) (t : TypeRef) → desig_need w (OfVariable v t) ≤ operands_of w
  variable_need want.Value v t = omega arith
  variable_need want.Place v t = omega arith
  variable_need (want.Room n) v t = omega arith
  variable_need want.PlaceAndTag v t = omega arith
  variable_need want.Tag v t = omega arith
  variable_need want.PlaceAndLength v t = omega arith
  variable_need want.Length v t = omega arith

  pointer_need : (w : Want) (d : Desig) (at : Pos) (t : TypeRef) (n : ℕ) → need_place d ≤ n → desig_need w (Deref d at t) ≤ max n (operands_of w)
  pointer_need want.Value d at t n h = omega (arith, h)
  pointer_need want.Place d at t n h = omega (arith, h)
  pointer_need (want.Room m) d at t n h = omega (arith, h)
  pointer_need want.PlaceAndTag d at t n h = omega (arith, h)
  pointer_need want.Tag d at t n h = omega arith
  pointer_need want.PlaceAndLength d at t n h = omega (arith, h)
  pointer_need want.Length d at t n h = omega (arith, h)

  guard_need : (w : Want) (g : Guarded) (d : Desig) (q : QName) (at : Pos) (t : TypeRef) (n : ℕ) → GuardGives g w → desig_need (guard_want g w) d ≤ n → desig_need w (Guard d g q at t) ≤ max n (operands_of w)
  guard_need want.Value guarded.Pointer d q at t n f h = omega (arith, h)
  guard_need want.Place guarded.Pointer d q at t n f h = omega (arith, h)
  guard_need (want.Room m) guarded.Pointer d q at t n f h = omega (arith, h)
  guard_need want.Place guarded.Record d q at t n f h = omega (arith, h)
  guard_need (want.Room m) guarded.Record d q at t n f h = omega (arith, h)
  guard_need want.PlaceAndTag guarded.Record d q at t n f h = omega (arith, h)
  guard_need want.Tag guarded.Record d q at t n f h = omega arith
  guard_need want.Value guarded.Record d q at t n f h = absurd f
  guard_need want.PlaceAndLength guarded.Record d q at t n f h = absurd f
  guard_need want.Length guarded.Record d q at t n f h = absurd f
  guard_need w guarded.Pointer d q at t n f h = absurd f

  constant_need : (w : Want) (v : Literal) → ConstantGives w v → expr_need w (Constant v) ≤ operands_of w
  constant_need want.Value v g = omega arith
  constant_need want.Place v g = omega arith
  constant_need (want.Room n) v g = omega arith
  constant_need want.PlaceAndTag v g = omega arith
  constant_need want.Tag v g = omega arith
  constant_need want.PlaceAndLength v g = omega arith
  constant_need want.Length v g = omega arith

  desig_one_of : (w : Want) (d : Desig) → 1 ≤ operands_of w → 1 ≤ scheme.need_desig c w d
  desig_one_of w (OfVariable v t) h = h
  desig_one_of w (Field d o x t) h = omega (arith, h)
  desig_one_of w (Index d n i at t) h = omega (arith, h)
  desig_one_of w (Deref d at t) h = omega (arith, h)
  desig_one_of w (Guard d g q at t) h = omega (arith, h)

  array_need : (e : Expr) → ExprFits program c want.PlaceAndLength e → need_array e ≡ need_passed e passing.OpenArray
  array_need (Constant v) f = refl
  array_need (ValueOf d) f = refl
  array_need e f = absurd f.0

  scalar_same : (e : Expr) → ExprFits program c want.Value e → need_passed e passing.Scalar ≡ need_expr e
  scalar_same (Constant v) f = refl
  scalar_same e f = refl

  open_same : (e : Expr) → need_passed e passing.VariableOpenArray ≡ need_passed e passing.OpenArray
  open_same (Constant v) = refl
  open_same e = refl

  mutual
    pub desig_le : (w : Want) (d : Desig) → DesigFits program c w d → desig_need w d ≤ scheme.need_desig c w d
    desig_le w (OfVariable v t) f = variable_need w v t
    desig_le w (Field d o x t) f = let h = desig_le want.Place d f.0 in plain_need w (Field d o x t) (scheme.need_desig c want.Place d) h (omega (arith, h)) (omega arith) (omega arith)
    desig_le w (Index d (Some n) i at t) f =
        let h = desig_le want.Place d f.0 in
        let k = expr_le want.Value i f.1.0 in
        let r = plain_need w (Index d (Some n) i at t) (max (scheme.need_desig c want.Place d) (1 + scheme.need_expr c want.Value i)) (omega (arith, h, k)) (omega (arith, h, k)) (omega arith) (omega arith) in
        omega (arith, r)
    desig_le w (Index d None i at t) f =
        let h = desig_le want.PlaceAndLength d f.0 in
        let k = expr_le want.Value i f.1.1.0 in
        let r = plain_need w (Index d None i at t) (max (scheme.need_desig c want.PlaceAndLength d) (2 + scheme.need_expr c want.Value i)) (omega (arith, h, k)) (omega (arith, h, k)) (omega arith) (omega arith) in
        omega (arith, r)
    desig_le w (Deref d at t) f = pointer_need w d at t (scheme.need_desig c want.Value d) (desig_le want.Value d f.0)
    desig_le w (Guard d g q at t) f = guard_need w g d q at t (scheme.need_desig c (guard_want g w) d) f.1.1 (desig_le (guard_want g w) d f.0)

    pub expr_le : (w : Want) (e : Expr) → ExprFits program c w e → expr_need w e ≤ scheme.need_expr c w e
    expr_le w (Constant v) f = constant_need w v f
    expr_le w (ValueOf d) f = let h = desig_le w d f.1 in subst (λ n. n ≤ scheme.need_desig c w d) (sym (whole_need w d f.0)) h
    expr_le want.Value (ProcedureValue q signature) f = omega arith
    expr_le want.Value (Monadic o e at) f = expr_le want.Value e f.1
    expr_le want.Value (Dyadic o a b at) f = let h = expr_le want.Value a f.1.0 in let k = expr_le want.Value b f.1.1 in omega (arith, h, k)
    expr_le want.Value (Logical o a b) f = let h = expr_le want.Value a f.1.0 in let k = expr_le want.Value b f.1.1 in omega (arith, h, k)
    expr_le want.Value (CompareTexts r a b at) f =
        let h = expr_le want.PlaceAndLength a f.1.0 in
        let k = expr_le want.PlaceAndLength b f.1.1 in
        omega (arith, h, k, array_need a f.1.0, array_need b f.1.1)
    expr_le want.Value (IsPointer e q) f = expr_le want.Value e f.1.0
    expr_le want.Value (IsRecord d q) f = desig_le want.Tag d f.1.0
    expr_le want.Value (Length d) f = desig_le want.Length d f.1
    expr_le want.Value (Call callee es at None) f = absurd f.1.0
    expr_le want.Value (Call callee es at (Some t)) f = let k = actuals_le es f.1.1.0 in omega (arith, k)
    expr_le want.Value (CallVariable d es at t) f = let h = desig_le want.Value d f.1.0 in let k = actuals_le es f.1.1 in omega (arith, h, k)
    expr_le w e f = absurd f.0

    pub actuals_le : (es : Actuals) → ActualsFit program c es → need_actuals es ≤ scheme.need_actuals c es
    actuals_le NoActual f = omega arith
    actuals_le (AnActual passing.Scalar t e rest) f = let h = expr_le want.Value e f.0 in let k = actuals_le rest f.1 in omega (arith, h, k, scalar_same e f.0)
    actuals_le (AnActual passing.Structure t e rest) f = let h = expr_le (want.Room (words c t)) e f.0 in let k = actuals_le rest f.1 in omega (arith, h, k)
    actuals_le (AnActual passing.OpenArray t e rest) f = let h = expr_le want.PlaceAndLength e f.0 in let k = actuals_le rest f.1 in omega (arith, h, k)
    actuals_le (AnActual passing.Variable t e rest) f = let h = expr_le want.Place e f.0 in let k = actuals_le rest f.1 in omega (arith, h, k)
    actuals_le (AnActual passing.VariableRecord t e rest) f = let h = expr_le want.PlaceAndTag e f.0 in let k = actuals_le rest f.1 in omega (arith, h, k)
    actuals_le (AnActual passing.VariableOpenArray t e rest) f = let h = expr_le want.PlaceAndLength e f.0 in let k = actuals_le rest f.1 in omega (arith, h, k, open_same e)

  desig_one : (w : Want) (d : Desig) → 1 ≤ scheme.need_desig c w d
  desig_one want.Value d = desig_one_of want.Value d (omega arith)
  desig_one want.Place d = desig_one_of want.Place d (omega arith)
  desig_one (want.Room n) d = desig_one_of (want.Room n) d (omega arith)
  desig_one want.PlaceAndTag d = desig_one_of want.PlaceAndTag d (omega arith)
  desig_one want.Tag d = desig_one_of want.Tag d (omega arith)
  desig_one want.PlaceAndLength d = desig_one_of want.PlaceAndLength d (omega arith)
  desig_one want.Length d = desig_one_of want.Length d (omega arith)

  -- STATEMENTS: a call of a proper procedure alone puts nothing, where the law counts one operand

  passed_one : (e : Expr) → ExprFits program c want.Place e → 1 ≤ scheme.need_expr c want.Place e
  passed_one (Constant v) f = omega arith
  passed_one (ValueOf d) f = desig_one want.Place d
  passed_one e f = absurd f.0

  place_same : (e : Expr) → need_passed e passing.Structure ≡ need_passed e passing.Variable
  place_same (Constant v) = refl
  place_same (ValueOf d) = refl
  place_same e = refl

  record_need : (d : Desig) (n m : ℕ) → IsNoPointer d → DesigFits program c (record_want (has_tag d)) d → n ≤ m → need_record d n ≤ max (scheme.need_desig c (record_want (has_tag d)) d) (operands_of (record_want (has_tag d)) + m)
  record_need (OfVariable (variable.Module u x) t) n m p f h = omega (arith, h)
  record_need (OfVariable (variable.Local x) t) n m p f h = omega (arith, h)
  record_need (OfVariable (variable.Parameter passing.Scalar x) t) n m p f h = omega (arith, h)
  record_need (OfVariable (variable.Parameter passing.Structure x) t) n m p f h = omega (arith, h)
  record_need (OfVariable (variable.Parameter passing.OpenArray x) t) n m p f h = omega (arith, h)
  record_need (OfVariable (variable.Parameter passing.Variable x) t) n m p f h = omega (arith, h)
  record_need (OfVariable (variable.Parameter passing.VariableRecord x) t) n m p f h = omega (arith, h)
  record_need (OfVariable (variable.Parameter passing.VariableOpenArray x) t) n m p f h = omega (arith, h)
  record_need (Field d o x t) n m p f h = let k = desig_le want.Place (Field d o x t) f in omega (arith, h, k)
  record_need (Index d i e at t) n m p f h = let k = desig_le want.Place (Index d i e at t) f in omega (arith, h, k)
  record_need (Deref d at t) n m p f h = let k = desig_le want.PlaceAndTag (Deref d at t) f in omega (arith, h, k)
  record_need (Guard d guarded.Record q at t) n m p f h = let k = desig_le want.PlaceAndTag (Guard d guarded.Record q at t) f in omega (arith, h, k)
  record_need (Guard d guarded.Pointer q at t) n m p f h = absurd p

  assigned_le : (how : Assigned) (d : Desig) (e : Expr) → DesigFits program c (target_want how d) d → ExprFits program c (source_want how) e → AssignedFits program c how d → need_assigned how d e ≤ max (scheme.need_desig c (target_want how d) d) (operands_of (target_want how d) + scheme.need_expr c (source_want how) e)
  assigned_le assigned.Scalar d e f g a = let h = desig_le want.Place d f in let k = expr_le want.Value e g in omega (arith, h, k)
  assigned_le assigned.Text d e f g a = let h = desig_le want.Place d f in let k = expr_le want.Place e g in omega (arith, h, k, passed_one e g)
  assigned_le assigned.Array d e f g a = let h = desig_le want.Place d f in let k = expr_le want.Place e g in omega (arith, h, k, place_same e)
  assigned_le (assigned.Record q) d e f g a =
      let k = expr_le want.Place e g in
      let n = need_passed e passing.Structure in
      let m : n ≤ scheme.need_expr c want.Place e = omega (arith, k, place_same e) in
      record_need d n (scheme.need_expr c want.Place e) a.0 f m

  proper_le : (e : Expr) → ProperFits program c e → need_expr e ≤ max 1 (scheme.need_expr c want.Value e)
  proper_le (Call callee es at t) f = let k = actuals_le es f.0 in omega (arith, k)
  proper_le (CallVariable d es at t) f = let h = desig_le want.Value d f.0 in let k = actuals_le es f.1 in omega (arith, h, k)
  proper_le e f = absurd f

  result_le : (e : Option Expr) → ResultFits program c e → need_optional e ≤ scheme.need_result c e
  result_le None f = omega arith
  result_le (Some e) f = expr_le want.Value e f

  mutual
    pub stmt_le : (s : Stmt) → StmtFits program c s → need_stmt s ≤ max 2 (scheme.need_stmt c s)
    stmt_le (Assign d how e at) f = let h = assigned_le how d e f.0 f.1.0 f.1.1 in omega (arith, h)
    stmt_le (CallProper e) f = let h = proper_le e f in omega (arith, h)
    stmt_le (Updated o d e at) f = let h = desig_le want.Place d f.0 in let k = expr_le want.Value e f.1 in omega (arith, h, k)
    stmt_le (Copy e d at) f = let h = expr_le want.PlaceAndLength e f.0 in let k = desig_le want.PlaceAndLength d f.1 in omega (arith, h, k, array_need e f.0)
    stmt_le (New d what at) f = let h = desig_le want.Place d f.0 in omega (arith, h)
    stmt_le (NewOpenArray d t n at) f = let h = desig_le want.Place d f.0 in let k = expr_le want.Value n f.1 in omega (arith, h, k)
    stmt_le (Assert e number at) f = let h = expr_le want.Value e f in omega (arith, h)
    stmt_le (Halt number at) f = omega arith
    stmt_le (If branches otherwise) f = let h = branches_le branches f.0 in let k = stmts_le otherwise f.1 in omega (arith, h, k)
    stmt_le (Case e cases otherwise at) f = let g = expr_le want.Value e f.0 in let h = cases_le cases f.1.0 in let k = else_le otherwise f.1.1 in omega (arith, g, h, k)
    stmt_le (While e body at) f = let h = expr_le want.Value e f.0 in let k = stmts_le body f.1 in omega (arith, h, k)
    stmt_le (Repeat body e at) f = let h = stmts_le body f.0 in let k = expr_le want.Value e f.1 in omega (arith, h, k)
    stmt_le (For v w start stop step body at) f = let g = expr_le want.Value start f.1.0 in let h = expr_le want.Value stop f.1.1.0 in let k = stmts_le body f.1.1.1.1 in omega (arith, g, h, k)
    stmt_le (Loop body at) f = stmts_le body f
    stmt_le Exit f = omega arith
    stmt_le (Return e) f = let h = result_le e f in omega (arith, h)
    stmt_le (With branches otherwise at) f = let h = branches_le branches f.0 in let k = else_le otherwise f.1 in omega (arith, h, k)

    pub stmts_le : (s : Stmts) → StmtsFit program c s → need_stmts s ≤ max 2 (scheme.need_stmts c s)
    stmts_le Nothing f = omega arith
    stmts_le (Then s rest) f = let h = stmt_le s f.0 in let k = stmts_le rest f.1 in omega (arith, h, k)

    pub branches_le : (bs : Branches) → BranchesFit program c bs → need_branches bs ≤ max 2 (scheme.need_branches c bs)
    branches_le NoBranch f = omega arith
    branches_le (Branch test body rest) f = let g = expr_le want.Value test f.0 in let h = stmts_le body f.1.0 in let k = branches_le rest f.1.1 in omega (arith, g, h, k)

    pub cases_le : (cs : Cases) → CasesFit program c cs → need_cases cs ≤ max 2 (scheme.need_cases c cs)
    cases_le NoCase f = omega arith
    cases_le (OneCase labels body rest) f = let h = stmts_le body f.0 in let k = cases_le rest f.1 in omega (arith, h, k)

    pub else_le : (o : Otherwise) → ElseFits program c o → need_else o ≤ max 2 (scheme.need_else c o)
    else_le NoElse f = omega arith
    else_le (Else body) f = stmts_le body f
