-- Well typed statements are in the slice.
use Rattle.std.proofs.Common.{◌≡◌, ◌⊎◌, ⊎_elim, sym, subst, ℕ, List, ◌∷◌, Option, Some, None, Bool, true}
use Rattle.ob_tree.specs.declared.pos.Pos.{Pos}
use Rattle.ob_tree.specs.declared.names.QName.{QName}
use Rattle.ob_types.specs.declared.types.Basic.{Basic}
use Rattle.ob_types.specs.declared.types.Basic.TheVariants as basic
use Rattle.ob_types.specs.declared.types.TypeRef.{TypeRef}
use Rattle.ob_types.specs.declared.types.TypeRef.TheVariants as ref
use Rattle.ob_types.specs.declared.value.Value.TheVariants as literal
use Rattle.ob_types.specs.declared.typed.Passing.{Passing}
use Rattle.ob_types.specs.declared.typed.Passing.TheVariants as passing
use Rattle.ob_types.specs.declared.typed.OutProcedure.{OutProcedure}
use Rattle.ob_types.specs.declared.typed.OutProcedure.TheVariants as out
use Rattle.ob_types.specs.declared.typed.Callee.TheVariants as callee
use Rattle.ob_types.specs.declared.typed.Assigned.{Assigned}
use Rattle.ob_types.specs.declared.typed.Assigned.TheVariants as assigned
use Rattle.ob_types.specs.declared.typed.Update.{Update}
use Rattle.ob_types.specs.declared.typed.Update.TheVariants as update
use Rattle.ob_types.specs.declared.typed.Made.{Made}
use Rattle.ob_types.specs.declared.typed.Made.TheVariants as made
use Rattle.ob_types.specs.TypedSyntax.{Desig, Expr, Constant, ValueOf, ProcedureValue, Monadic, Dyadic, Logical, CompareTexts, IsPointer, IsRecord, Length, Call, CallVariable, Actuals, NoActual, AnActual, Stmt, Assign, CallProper, Updated, Copy, New, NewOpenArray, Assert, Halt, If, Case, While, Repeat, For, Loop, Exit, Return, With, Stmts, Nothing, Then, Branches, NoBranch, Branch, Cases, NoCase, OneCase, Otherwise, NoElse, Else}
use Rattle.ob_meaning.specs.Values.{Program, Form, BasicForm, ArrayForm, form_in, record_in, Held, Formals, formals_in}
use Rattle.law_simulation_relation.specs.Relation.{Sub, Scalar}
use Rattle.law_simulation_relation.specs.Passed.{IsUnguarded, AreOut}
use Rattle.law_simulation_relation.specs.Typed as typed
use Rattle.law_simulation_relation.specs.Typed.{boolean, char, longint, integer, IsRecordForm, IsRecordType}
use Rattle.law_simulation.specs.Slice.{InExpr, InOptional, InStmt, InStmts, InBranches, InCases, InElse}
use Rattle.law_simulation.proofs.Forms.{IsArrayForm, IsPointerForm, plain_variable, no_pointer}
use Rattle.law_simulation.proofs.Designators.{Ok, T, unguarded, unguarded_base, record_no_pointer, array_no_pointer, text_array, of_pointer, of_length, of_any, of_procedure, of_array, formed_actuals, formed_signature, in_desig, in_holder, in_tagged, in_array, in_expr, in_text, in_formed}

module _ (program : Program) (Has : Formals → QName → Type 0) (unit : List ℕ) (held : List Held) (result : Option TypeRef) where
  abbrev Fine : Desig → Type 0
  Fine d = Ok program Has unit held result d

  abbrev F : Desig → Form
  F d = T program Has unit held result d

  -- ASSIGNMENTS

  -- what is copied to an array or a record
  source_unguarded : (e : Desig) (u : Form) → Fine e → Sub (F e) u → (IsPointerForm u → ⊥) → IsUnguarded e
  source_unguarded e u h s n = unguarded program Has unit held result e h (no_pointer (F e) u s n)

  array_plain : (t : Form) (n : ℕ) (u : Form) → t ≡ ArrayForm n u → IsPointerForm t → ⊥
  array_plain t n u e = array_no_pointer program Has unit held result t (of_length program Has unit held result t n u e)

  built : (t : Form) (q : QName) → t ≡ record_in program q → IsRecordType program q → IsRecordForm t
  built t q e r = subst IsRecordForm (sym e) (q ∷ r.0, r.1)

  no_text : (t : Form) (n : ℕ) (u : Form) → IsRecordForm t → t ≡ ArrayForm n u → ⊥
  no_text t n u r e = different n u r.0 (subst IsRecordForm e r)
    where
      different : (n : ℕ) (u : Form) (line : List QName) → IsRecordForm (ArrayForm n u) → ⊥
      different n u line r = absurd cc

  in_assigned : (d : Desig) (how : Assigned) (e : Expr) (at : Pos) → Fine d → typed.AssignedOk program Has unit held result how d e → InStmt (Assign d how e at)
  in_assigned d assigned.Scalar e at h k = (in_holder program Has unit held result d h k.1, in_expr program Has unit held result e (F d) k.0)
  in_assigned d assigned.Text (Constant (literal.Str text)) at h k = in_desig program Has unit held result d h (of_array program Has unit held result d k.0 char h k.1)
  in_assigned d assigned.Array (ValueOf e) at h k = (in_desig program Has unit held result d h (of_array program Has unit held result d k.0.0 k.0.1 h k.0.2), in_desig program Has unit held result e k.1.0 (source_unguarded e (F d) k.1.0 k.1.1 (array_plain (F d) k.0.0 k.0.1 k.0.2)))
  in_assigned d (assigned.Record q) (ValueOf e) at h k =
      let r = built (F d) q k.0 k.1.0 in
      (in_tagged program Has unit held result d h r, in_desig program Has unit held result e k.1.1.0 (source_unguarded e (F d) k.1.1.0 k.1.1.1 (record_no_pointer program Has unit held result (F d) r)))
  in_assigned d (assigned.Record q) (Constant (literal.Str text)) at h k = absurd (no_text (F d) k.1.1.0 char (built (F d) q k.0 k.1.0) k.1.1.1)
  in_assigned d (assigned.Record q) e at h k = absurd k.1.1
  in_assigned d assigned.Text e at h k = absurd k.3
  in_assigned d assigned.Array e at h k = absurd k.2

  -- CALLS

  -- parameters of Out
  char_in : (how : Passing) (t : TypeRef) (e : Expr) (at : Pos) (r : Option TypeRef) → how ≡ passing.Scalar → t ≡ ref.Basic basic.Char → typed.OutOk program Has unit held result (AnActual how t e NoActual) → InStmt (CallProper (Call (callee.Out out.Char) (AnActual how t e NoActual) at r))
  char_in how t e at r p q h =
      let k : typed.OutOk program Has unit held result (AnActual passing.Scalar t e NoActual) = subst (λ w. typed.OutOk program Has unit held result (AnActual w t e NoActual)) p h in
      subst (λ w. InStmt (CallProper (Call (callee.Out out.Char) (AnActual w t e NoActual) at r))) (sym p)
      (subst (λ z. InStmt (CallProper (Call (callee.Out out.Char) (AnActual passing.Scalar z e NoActual) at r))) (sym q) (in_expr program Has unit held result e (form_in program t) k.0))

  int_in : (how : Passing) (t : TypeRef) (e : Expr) (way : Passing) (s : TypeRef) (f : Expr) (at : Pos) (r : Option TypeRef) → how ≡ passing.Scalar → t ≡ ref.Basic basic.LongInt → way ≡ passing.Scalar → s ≡ ref.Basic basic.LongInt → typed.OutOk program Has unit held result (AnActual how t e (AnActual way s f NoActual)) → InStmt (CallProper (Call (callee.Out out.Int) (AnActual how t e (AnActual way s f NoActual)) at r))
  int_in how t e way s f at r p q u v h =
      let k : typed.OutOk program Has unit held result (AnActual passing.Scalar t e (AnActual passing.Scalar s f NoActual)) = subst (λ w. typed.OutOk program Has unit held result (AnActual passing.Scalar t e (AnActual w s f NoActual))) u (subst (λ w. typed.OutOk program Has unit held result (AnActual w t e (AnActual way s f NoActual))) p h) in
      subst (λ w. InStmt (CallProper (Call (callee.Out out.Int) (AnActual w t e (AnActual way s f NoActual)) at r))) (sym p)
      (subst (λ z. InStmt (CallProper (Call (callee.Out out.Int) (AnActual passing.Scalar z e (AnActual way s f NoActual)) at r))) (sym q)
      (subst (λ w. InStmt (CallProper (Call (callee.Out out.Int) (AnActual passing.Scalar (ref.Basic basic.LongInt) e (AnActual w s f NoActual)) at r))) (sym u)
      (subst (λ z. InStmt (CallProper (Call (callee.Out out.Int) (AnActual passing.Scalar (ref.Basic basic.LongInt) e (AnActual passing.Scalar z f NoActual)) at r))) (sym v)
      (in_expr program Has unit held result e (form_in program t) k.0, in_expr program Has unit held result f (form_in program s) k.1.0))))

  text_in : (how : Passing) (t : TypeRef) (e : Expr) (at : Pos) (r : Option TypeRef) → how ≡ passing.OpenArray → typed.OutOk program Has unit held result (AnActual how t e NoActual) → InStmt (CallProper (Call (callee.Out out.Str) (AnActual how t e NoActual) at r))
  text_in how t e at r p h =
      let k : typed.OutOk program Has unit held result (AnActual passing.OpenArray t e NoActual) = subst (λ w. typed.OutOk program Has unit held result (AnActual w t e NoActual)) p h in
      subst (λ w. InStmt (CallProper (Call (callee.Out out.Str) (AnActual w t e NoActual) at r))) (sym p) (in_text program Has unit held result e k.0)

  in_out : (o : OutProcedure) (es : Actuals) (at : Pos) (r : Option TypeRef) → typed.OutOk program Has unit held result es → AreOut o es → InStmt (CallProper (Call (callee.Out o) es at r))
  in_out out.Ln NoActual at r h k = tt
  in_out out.Ln (AnActual how t e rest) at r h k = absurd k
  in_out out.Char NoActual at r h k = absurd k
  in_out out.Char (AnActual how t e NoActual) at r h k = char_in how t e at r k.0 k.1 h
  in_out out.Char (AnActual how t e (AnActual way s f rest)) at r h k = absurd k.2
  in_out out.Int NoActual at r h k = absurd k
  in_out out.Int (AnActual how t e NoActual) at r h k = absurd k.2
  in_out out.Int (AnActual how t e (AnActual way s f NoActual)) at r h k = int_in how t e way s f at r k.0 k.1 k.2.0 k.2.1 h
  in_out out.Int (AnActual how t e (AnActual way s f (AnActual by v g rest))) at r h k = absurd k.2.2
  in_out out.Str NoActual at r h k = absurd k
  in_out out.Str (AnActual how t e NoActual) at r h k = text_in how t e at r k h
  in_out out.Str (AnActual how t e (AnActual way s f rest)) at r h k = absurd k

  in_proper : (e : Expr) → typed.ProperOk program Has unit held result e → InStmt (CallProper e)
  in_proper (Call (callee.Declared q) es at r) h = in_formed program Has unit held result es (formed_actuals program Has unit held result es h.0.0.parameters h.0.3)
  in_proper (Call (callee.Bound f k) es at r) h = in_formed program Has unit held result es (formed_actuals program Has unit held result es h.0.2.parameters h.0.8)
  in_proper (Call (callee.Super base f k) es at r) h = in_formed program Has unit held result es (formed_actuals program Has unit held result es h.0.1.parameters h.0.6)
  in_proper (Call (callee.Out o) es at r) h = in_out o es at r h.0.1 h.2
  in_proper (CallVariable d es at r) h = (in_holder program Has unit held result d h.0.0 (of_procedure program Has unit held result (F d) (formals_in program h.0.1.0) h.0.1.1), in_formed program Has unit held result es (formed_signature program Has unit held result es h.0.1.0.params h.0.1.3))
  in_proper (Constant c) h = absurd h
  in_proper (ValueOf d) h = absurd h
  in_proper (ProcedureValue q s) h = absurd h
  in_proper (Monadic o x at) h = absurd h
  in_proper (Dyadic o x y at) h = absurd h
  in_proper (Logical o x y) h = absurd h
  in_proper (CompareTexts r x y at) h = absurd h
  in_proper (IsPointer x q) h = absurd h
  in_proper (IsRecord d q) h = absurd h
  in_proper (Length d) h = absurd h

  -- OTHERS

  basic_plain : (d : Desig) (b : Basic) → Fine d → F d ≡ BasicForm b → IsUnguarded d
  basic_plain d b h e = unguarded program Has unit held result d h (λ p. subst IsPointerForm e p)

  in_updated : (o : Update) (d : Desig) (e : Expr) (at : Pos) → Fine d → typed.UpdateOk program Has unit held result o d e → InStmt (Updated o d e at)
  in_updated (update.Inc w) d e at h k = (in_desig program Has unit held result d h (basic_plain d (typed.basic_of w) h k.1), in_expr program Has unit held result e longint k.0)
  in_updated (update.Dec w) d e at h k = (in_desig program Has unit held result d h (basic_plain d (typed.basic_of w) h k.1), in_expr program Has unit held result e longint k.0)
  in_updated update.Incl d e at h k = (in_desig program Has unit held result d h (basic_plain d basic.Set h k.1), in_expr program Has unit held result e longint k.0)
  in_updated update.Excl d e at h k = (in_desig program Has unit held result d h (basic_plain d basic.Set h k.1), in_expr program Has unit held result e longint k.0)

  in_new : (d : Desig) (what : Made) (at : Pos) → Fine d → typed.MadeOk program Has unit held result what (F d) → InStmt (New d what at)
  in_new d (made.Record q) at h k = in_holder program Has unit held result d h (of_pointer program Has unit held result (F d) k.0.0 k.0.1)
  in_new d (made.Array u) at h k = in_desig program Has unit held result d h (unguarded_base program Has unit held result d k.0.0 h k.0.1 (subst IsArrayForm (sym k.0.2) (of_length program Has unit held result (form_in program u) k.1.0 k.1.1 k.1.2)))

  in_optional : (e : Option Expr) (o : Option TypeRef) → typed.ReturnOk program Has unit held result e o → InOptional e
  in_optional None o h = tt
  in_optional (Some e) None h = absurd h
  in_optional (Some e) (Some t) h = in_expr program Has unit held result e (form_in program t) h.0

  in_case : (e : Expr) → typed.CaseOk program Has unit held result e → InExpr e
  in_case e h = ⊎_elim (λ k. in_expr program Has unit held result e longint k) (λ k. in_expr program Has unit held result e char k) h

  mutual
    pub in_stmt : (s : Stmt) (l : Bool) → typed.StmtOk program Has unit held result s l → InStmt s
    in_stmt (Assign d how e at) l h = in_assigned d how e at h.0 h.1
    in_stmt (CallProper e) l h = in_proper e h
    in_stmt (Updated o d e at) l h = in_updated o d e at h.0 h.1
    in_stmt (Copy e d at) l h = (in_text program Has unit held result e h.0, in_array program Has unit held result d h.1.0 (text_array program Has unit held result (F d) h.1.1))
    in_stmt (New d what at) l h = in_new d what at h.0 h.1
    in_stmt (NewOpenArray d t n at) l h = (in_desig program Has unit held result d h.0 (unguarded_base program Has unit held result d h.1.0.0 h.0 h.1.0.1 (of_any program Has unit held result (form_in program h.1.0.0) (form_in program t) h.1.0.2)), in_expr program Has unit held result n longint h.1.1.1)
    in_stmt (Assert e number at) l h = in_expr program Has unit held result e boolean h
    in_stmt (Halt number at) l h = tt
    in_stmt (If branches otherwise) l h = (in_branches branches l h.0, in_stmts otherwise l h.1)
    in_stmt (Case e cases otherwise at) l h = (in_case e h.0, (in_cases cases l h.1.1.0, in_else otherwise l h.1.1.1))
    in_stmt (While e body at) l h = (in_expr program Has unit held result e boolean h.0, in_stmts body l h.1)
    in_stmt (Repeat body e at) l h = (in_stmts body l h.0, in_expr program Has unit held result e boolean h.1)
    in_stmt (For v w start end step body at) l h = (plain_variable v w h.0.1, (in_expr program Has unit held result start (integer w) h.1.0, (in_expr program Has unit held result end longint h.1.1.0, in_stmts body l h.1.1.1.1.1)))
    in_stmt (Loop body at) l h = in_stmts body true h
    in_stmt Exit l h = tt
    in_stmt (Return e) l h = in_optional e result h
    in_stmt (With branches NoElse at) l h = in_branches branches l h.0
    in_stmt (With branches (Else body) at) l h = (in_branches branches l h.0, in_stmts body l h.1)

    pub in_stmts : (xs : Stmts) (l : Bool) → typed.StmtsOk program Has unit held result xs l → InStmts xs
    in_stmts Nothing l h = tt
    in_stmts (Then s rest) l h = (in_stmt s l h.0, in_stmts rest l h.1)

    in_branches : (bs : Branches) (l : Bool) → typed.BranchesOk program Has unit held result bs l → InBranches bs
    in_branches NoBranch l h = tt
    in_branches (Branch test body rest) l h = (in_expr program Has unit held result test boolean h.0, (in_stmts body l h.1.0, in_branches rest l h.1.1))

    in_cases : (cs : Cases) (l : Bool) → typed.CasesOk program Has unit held result cs l → InCases cs
    in_cases NoCase l h = tt
    in_cases (OneCase labels body rest) l h = (in_stmts body l h.0, in_cases rest l h.1)

    in_else : (o : Otherwise) (l : Bool) → typed.ElseOk program Has unit held result o l → InElse o
    in_else NoElse l h = tt
    in_else (Else body) l h = in_stmts body l h
