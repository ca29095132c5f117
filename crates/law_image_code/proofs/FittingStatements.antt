-- Well typed statements give what is wanted of them.
use Rattle.std.proofs.Common.{◌≡◌, ⊎_elim, sym, subst, ℕ, List, ◌∷◌, Option, Some, None, Bool, true, false}
use Rattle.ob_tree.specs.declared.pos.Pos.{Pos}
use Rattle.ob_tree.specs.declared.names.QName.{QName}
use Rattle.ob_types.specs.declared.types.TypeRef.{TypeRef}
use Rattle.ob_types.specs.declared.types.TypeRef.TheVariants as ref
use Rattle.ob_types.specs.declared.types.Basic.TheVariants as basic
use Rattle.ob_types.specs.declared.value.Value.TheVariants as literal
use Rattle.ob_types.specs.declared.typed.Passing.TheVariants as passing
use Rattle.ob_types.specs.declared.typed.Guarded.TheVariants as guarded
use Rattle.ob_types.specs.declared.typed.Variable.{Variable}
use Rattle.ob_types.specs.declared.typed.Variable.TheVariants as variable
use Rattle.ob_types.specs.declared.typed.Callee.TheVariants as callee
use Rattle.ob_types.specs.declared.typed.Assigned.{Assigned}
use Rattle.ob_types.specs.declared.typed.Assigned.TheVariants as assigned
use Rattle.ob_types.specs.declared.typed.Update.{Update}
use Rattle.ob_types.specs.declared.typed.Update.TheVariants as update
use Rattle.ob_types.specs.declared.typed.Made.{Made}
use Rattle.ob_types.specs.declared.typed.Made.TheVariants as made
use Rattle.ob_types.specs.TypedSyntax.{Desig, OfVariable, Field, Index, Deref, Guard, Expr, Constant, ValueOf, ProcedureValue, Monadic, Dyadic, Logical, CompareTexts, IsPointer, IsRecord, Length, Call, CallVariable, Stmt, Assign, CallProper, Updated, Copy, New, NewOpenArray, Assert, Halt, If, Case, While, Repeat, For, Loop, Exit, Return, With, Stmts, Nothing, Then, Branches, NoBranch, Branch, Cases, NoCase, OneCase, Otherwise, NoElse, Else}
use Rattle.ob_meaning.specs.Values.{Program, Form, record_in, form_in, Held, Formals, formals_in}
use Rattle.ob_scheme.specs.declared.want.Want.TheVariants as want
use Rattle.ob_scheme.specs.Context.{Context}
use Rattle.ob_scheme.specs.Statements.{record_want, has_tag, target_want, source_want}
use Rattle.law_simulation_relation.specs.Plain.{Plain}
use Rattle.law_simulation_relation.specs.Passed.{IsUnguarded}
use Rattle.law_simulation_relation.specs.Typed as typed
use Rattle.law_simulation_relation.specs.Typed.{boolean, char, longint, integer, IsRecordForm, IsRecordType}
use Rattle.law_image_code.specs.Fits.{IsNoPointer, VariableGives, DesigFits, ExprFits, ProperFits, ResultFits, AssignedFits, MadeFits, StmtFits, StmtsFit, BranchesFit, CasesFit, ElseFits}
use Rattle.law_simulation.proofs.Forms.{plain_variable}
use Rattle.law_simulation.proofs.Designators.{unguarded, record_no_pointer, formed_actuals, formed_signature, text_array, of_procedure}
use Rattle.law_image_code.specs.There.{ExprThere, OptionalThere, DesigThere, StmtThere, StmtsThere, BranchesThere, CasesThere, ElseThere}
use Rattle.law_image_code.specs.Laws.{Having, NamesStand, TypedStatementsFit}
use Rattle.law_image_code.proofs.Designators.{Fine, F, fit_desig, fit_expr, fit_text, fit_formed, fit_out}

no_pointer_is : (d : Desig) → IsUnguarded d → IsNoPointer d
no_pointer_is (Guard d guarded.Pointer q at t) h = h
no_pointer_is (Guard d guarded.Record q at t) h = tt
no_pointer_is (OfVariable v t) h = tt
no_pointer_is (Field d o x t) h = tt
no_pointer_is (Index d n i at t) h = tt
no_pointer_is (Deref d at t) h = tt

-- the value of FOR's variable can be had
counter_gives : (program : Program) (c : Context) (v : Variable) (t : TypeRef) → Plain v → VariableGives program c v want.Value t
counter_gives program c (variable.Module m x) t p = tt
counter_gives program c (variable.Local x) t p = tt
counter_gives program c (variable.Parameter passing.Scalar x) t p = tt
counter_gives program c (variable.Parameter passing.Variable x) t p = tt
counter_gives program c (variable.Parameter passing.Structure x) t p = absurd p
counter_gives program c (variable.Parameter passing.OpenArray x) t p = absurd p
counter_gives program c (variable.Parameter passing.VariableRecord x) t p = absurd p
counter_gives program c (variable.Parameter passing.VariableOpenArray x) t p = absurd p

module _ (program : Program) (has : Formals → QName → Bool) (c : Context) (names : NamesStand program has c) (unit : List ℕ) (held : List Held) (result : Option TypeRef) where
  abbrev Ok : Desig → Type 0
  Ok d = Fine program has c names unit held result d

  abbrev T : Desig → Form
  T d = F program has c names unit held result d

  abbrev Ex : Expr → Form → Type 0
  Ex x t = typed.ExprOk program (Having has) unit held result x t

  value : (x : Expr) (t : Form) → Ex x t → ExprThere c x → ExprFits program c want.Value x
  value x t h k = fit_expr program has c names unit held result x t h k

  place : (d : Desig) → Ok d → DesigThere c d → DesigFits program c want.Place d
  place d h k = fit_desig program has c names unit held result want.Place d h k tt

  -- ASSIGNMENTS

  built : (d : Desig) (q : QName) → T d ≡ record_in program q → IsRecordType program q → IsRecordForm (T d)
  built d q e r = subst IsRecordForm (sym e) (q ∷ r.0, r.1)

  -- with its tag or without
  record_target : (b : Bool) (d : Desig) → Ok d → DesigThere c d → IsRecordForm (T d) → DesigFits program c (record_want b) d
  record_target true d h k r = fit_desig program has c names unit held result want.PlaceAndTag d h k r
  record_target false d h k r = place d h k

  fit_target : (how : Assigned) (d : Desig) (x : Expr) → Ok d → DesigThere c d → typed.AssignedOk program (Having has) unit held result how d x → DesigFits program c (target_want how d) d
  fit_target (assigned.Record q) d x h k a = record_target (has_tag d) d h k (built d q a.0 a.1.0)
  fit_target assigned.Scalar d x h k a = place d h k
  fit_target assigned.Text d x h k a = place d h k
  fit_target assigned.Array d x h k a = place d h k

  -- a string, or what has a place
  structure_fits : (x : Expr) (t : Form) → typed.StructureOk program (Having has) unit held result x t → ExprThere c x → ExprFits program c want.Place x
  structure_fits (ValueOf d) t h k = (tt, place d h.0 k)
  structure_fits (Constant (literal.Str text)) t h k = tt
  structure_fits x t h k = absurd h

  fit_source : (how : Assigned) (d : Desig) (x : Expr) → typed.AssignedOk program (Having has) unit held result how d x → ExprThere c x → ExprFits program c (source_want how) x
  fit_source assigned.Scalar d x a k = value x (T d) a.0 k
  fit_source assigned.Text d x a k = structure_fits x (T d) a.2 k
  fit_source assigned.Array d x a k = structure_fits x (T d) a.1 k
  fit_source (assigned.Record q) d x a k = structure_fits x (T d) a.1.1 k

  fit_assigned : (how : Assigned) (d : Desig) (x : Expr) → Ok d → typed.AssignedOk program (Having has) unit held result how d x → AssignedFits program c how d
  fit_assigned assigned.Scalar d x h a = tt
  fit_assigned assigned.Text d x h a = tt
  fit_assigned assigned.Array d x h a = tt
  fit_assigned (assigned.Record q) d x h a = (no_pointer_is d (unguarded program (Having has) unit held result d h (record_no_pointer program (Having has) unit held result (T d) (built d q a.0 a.1.0))), (a.0, names.known q a.1.0))

  -- CALLS

  fit_proper : (x : Expr) → typed.ProperOk program (Having has) unit held result x → ExprThere c x → ProperFits program c x
  fit_proper (Call (callee.Declared q) es at r) h k = (fit_formed program has c names unit held result es (formed_actuals program (Having has) unit held result es h.0.0.parameters h.0.3) k, names.procedures q h.0.0 h.0.1)
  fit_proper (Call (callee.Bound f g) es at r) h k = (fit_formed program has c names unit held result es (formed_actuals program (Having has) unit held result es h.0.2.parameters h.0.8) k, tt)
  fit_proper (Call (callee.Super base f g) es at r) h k = (fit_formed program has c names unit held result es (formed_actuals program (Having has) unit held result es h.0.1.parameters h.0.6) k, names.known base h.0.2)
  fit_proper (Call (callee.Out o) es at r) h k = (fit_out program has c names unit held result es h.0.1 k, tt)
  fit_proper (CallVariable d es at r) h k = (fit_desig program has c names unit held result want.Value d h.0.0 k.0 (of_procedure program (Having has) unit held result (T d) (formals_in program h.0.1.0) h.0.1.1), fit_formed program has c names unit held result es (formed_signature program (Having has) unit held result es h.0.1.0.params h.0.1.3) k.1)
  fit_proper (Constant v) h k = absurd h
  fit_proper (ValueOf d) h k = absurd h
  fit_proper (ProcedureValue q s) h k = absurd h
  fit_proper (Monadic o x at) h k = absurd h
  fit_proper (Dyadic o x y at) h k = absurd h
  fit_proper (Logical o x y) h k = absurd h
  fit_proper (CompareTexts r x y at) h k = absurd h
  fit_proper (IsPointer x q) h k = absurd h
  fit_proper (IsRecord d q) h k = absurd h
  fit_proper (Length d) h k = absurd h

  -- OTHERS

  fit_updated : (o : Update) (d : Desig) (x : Expr) → typed.UpdateOk program (Having has) unit held result o d x → ExprThere c x → ExprFits program c want.Value x
  fit_updated (update.Inc w) d x h k = value x longint h.0 k
  fit_updated (update.Dec w) d x h k = value x longint h.0 k
  fit_updated update.Incl d x h k = value x longint h.0 k
  fit_updated update.Excl d x h k = value x longint h.0 k

  fit_made : (what : Made) (t : Form) → typed.MadeOk program (Having has) unit held result what t → MadeFits program c what
  fit_made (made.Record q) t h = names.known q h.1
  fit_made (made.Array u) t h = tt

  fit_optional : (x : Option Expr) (o : Option TypeRef) → typed.ReturnOk program (Having has) unit held result x o → OptionalThere c x → ResultFits program c x
  fit_optional None o h k = tt
  fit_optional (Some x) None h k = absurd h
  fit_optional (Some x) (Some t) h k = value x (form_in program t) h.0 k

  fit_case : (x : Expr) → typed.CaseOk program (Having has) unit held result x → ExprThere c x → ExprFits program c want.Value x
  fit_case x h k = ⊎_elim (λ e. value x longint e k) (λ e. value x char e k) h

  mutual
    fit_stmt : (s : Stmt) (l : Bool) → typed.StmtOk program (Having has) unit held result s l → StmtThere c s → StmtFits program c s
    fit_stmt (Assign d how x at) l h k = (fit_target how d x h.0 k.0 h.1, (fit_source how d x h.1 k.1, fit_assigned how d x h.0 h.1))
    fit_stmt (CallProper x) l h k = fit_proper x h k
    fit_stmt (Updated o d x at) l h k = (place d h.0 k.0, fit_updated o d x h.1 k.1)
    fit_stmt (Copy x d at) l h k = (fit_text program has c names unit held result x h.0 k.0, fit_desig program has c names unit held result want.PlaceAndLength d h.1.0 k.1 (text_array program (Having has) unit held result (T d) h.1.1))
    fit_stmt (New d what at) l h k = (place d h.0 k, fit_made what (T d) h.1)
    fit_stmt (NewOpenArray d t n at) l h k = (place d h.0 k.0, value n longint h.1.1.1 k.1)
    fit_stmt (Assert x number at) l h k = value x boolean h k
    fit_stmt (Halt number at) l h k = tt
    fit_stmt (If branches otherwise) l h k = (fit_branches branches l h.0 k.0, fit_stmts otherwise l h.1 k.1)
    fit_stmt (Case x cases otherwise at) l h k = (fit_case x h.0 k.0, (fit_cases cases l h.1.1.0 k.1.0, fit_else otherwise l h.1.1.1 k.1.1))
    fit_stmt (While x body at) l h k = (value x boolean h.0 k.0, fit_stmts body l h.1 k.1)
    fit_stmt (Repeat body x at) l h k = (fit_stmts body l h.0 k.0, value x boolean h.1 k.1)
    fit_stmt (For v w start stop step body at) l h k = ((k.0, counter_gives program c v (ref.Basic basic.LongInt) (plain_variable v w h.0.1)), (value start (integer w) h.1.0 k.1.0, (value stop longint h.1.1.0 k.1.1.0, (k.1.1.1.0, fit_stmts body l h.1.1.1.1.1 k.1.1.1.1))))
    fit_stmt (Loop body at) l h k = fit_stmts body true h k
    fit_stmt Exit l h k = tt
    fit_stmt (Return x) l h k = fit_optional x result h k
    fit_stmt (With branches otherwise at) l h k = (fit_branches branches l h.0 k.0, fit_else otherwise l h.1 k.1)

    pub fit_stmts : (xs : Stmts) (l : Bool) → typed.StmtsOk program (Having has) unit held result xs l → StmtsThere c xs → StmtsFit program c xs
    fit_stmts Nothing l h k = tt
    fit_stmts (Then s rest) l h k = (fit_stmt s l h.0 k.0, fit_stmts rest l h.1 k.1)

    fit_branches : (bs : Branches) (l : Bool) → typed.BranchesOk program (Having has) unit held result bs l → BranchesThere c bs → BranchesFit program c bs
    fit_branches NoBranch l h k = tt
    fit_branches (Branch test body rest) l h k = (value test boolean h.0 k.0, (fit_stmts body l h.1.0 k.1.0, fit_branches rest l h.1.1 k.1.1))

    fit_cases : (cs : Cases) (l : Bool) → typed.CasesOk program (Having has) unit held result cs l → CasesThere c cs → CasesFit program c cs
    fit_cases NoCase l h k = tt
    fit_cases (OneCase labels body rest) l h k = (fit_stmts body l h.0 k.0, fit_cases rest l h.1 k.1)

    fit_else : (o : Otherwise) (l : Bool) → typed.ElseOk program (Having has) unit held result o l → ElseThere c o → ElseFits program c o
    fit_else NoElse l h k = tt
    fit_else (Else body) l h k = fit_stmts body l h k

pub typed_statements_fit : TypedStatementsFit
typed_statements_fit program has c unit held result xs in_loop names h k = fit_stmts program has c names unit held result xs in_loop h k
