-- The induction over the forms of checked modules.
use Rattle.std.proofs.Common.{ℕ, ◌≤◌, Some, None, refl, arith}
use Rattle.ob_tree.specs.declared.pos.Pos.{Pos}
use Rattle.ob_tree.specs.declared.names.QName.{QName}
use Rattle.ob_types.specs.declared.types.TypeRef.{TypeRef}
use Rattle.ob_types.specs.declared.typed.Variable.{Variable}
use Rattle.ob_types.specs.declared.typed.Variable.TheVariants as variable
use Rattle.ob_types.specs.declared.typed.Guarded.TheVariants as guarded
use Rattle.ob_types.specs.declared.types.Basic.TheVariants as basic
use Rattle.ob_types.specs.declared.types.TypeRef.TheVariants as ref
use Rattle.ob_types.specs.declared.typed.OutProcedure.TheVariants as out
use Rattle.ob_types.specs.declared.value.Value.TheVariants as literal
use Rattle.ob_types.specs.declared.typed.Made.TheVariants as made
use Rattle.ob_types.specs.declared.typed.Update.TheVariants as update
use Rattle.ob_types.specs.declared.typed.Passing.TheVariants as passing
use Rattle.ob_types.specs.declared.typed.Connective.TheVariants as connective
use Rattle.ob_types.specs.declared.typed.Callee.TheVariants as callee
use Rattle.ob_types.specs.declared.typed.Assigned.TheVariants as assigned
use Rattle.ob_types.specs.TypedSyntax.{Desig, OfVariable, Field, Index, Deref, Guard, Expr, Constant, ValueOf, ProcedureValue, Monadic, Dyadic, Logical, CompareTexts, IsPointer, IsRecord, Length, Call, CallVariable, Actuals, NoActual, AnActual, Stmt, Assign, CallProper, Updated, Assert, Halt, If, While, Repeat, Loop, Exit, Return, With, NoElse, Else, Stmts, Nothing, Then, Branches, NoBranch, Branch, Copy, New, NewOpenArray, Case, For, Cases, NoCase, OneCase, Otherwise}
use Rattle.ob_meaning.specs.Results.{Caller}
use Rattle.law_simulation_relation.specs.Need.{need_array, need_expr, need_passed}
use Rattle.law_simulation_relation.proofs.Statements.{Activation, PlaceFollows, RecordFollows, OpenArrayFollows, ExprFollows, ActualsFollow, StmtFollows, StmtsFollow, BranchesFollow, CallsFollow}
use Rattle.law_simulation_relation.proofs.Exprs.{variable_case, and_case, or_case}
use Rattle.law_simulation_relation.proofs.Paths.{field_case, index_case}
use Rattle.law_simulation_relation.proofs.Pointers.{new_array_case}
use Rattle.law_simulation_relation.proofs.Parameters.{structure_parameter_case, open_parameter_case, open_place_case, variable_open_parameter_case, variable_open_place_case, closed_case, closed_structure_case}
use Rattle.law_simulation_relation.proofs.Actuals.{no_actual_case, scalar_actual_case, variable_actual_case, structure_actual_case, string_actual_case, open_actual_case, open_string_actual_case, variable_record_actual_case, variable_open_actual_case, call_case, call_proper_case}
use Rattle.law_simulation_relation.proofs.Stmts.{assert_case, halt_case, exit_case, nothing_case, then_case, no_branch_case, branch_case, if_case, return_case, return_value_case, while_case, repeat_case, loop_case}
use Rattle.law_simulation_relation.proofs.Out.{inc_case, dec_case, ln_case, char_case, int_case}
use Rattle.law_simulation_arrays.proofs.Slots.{length_by_variable_case, length_by_value_case}
use Rattle.law_simulation_arrays.proofs.Opens.{open_deref_case, open_index_case, length_case}
use Rattle.law_simulation_arrays.proofs.Made.{new_open_array_case}
use Rattle.law_simulation_arrays.proofs.Copies.{assign_array_case}
use Rattle.law_simulation_arrays.proofs.Texts.{TextFollows, CharsFollow, chars_case, text_value_case, text_constant_case, compare_texts_case}
use Rattle.law_simulation_arrays.proofs.Writing.{string_case, assign_text_case, copy_case}
use Rattle.law_simulation_operators.proofs.Exprs.{any_constant_case, any_monadic_case, any_dyadic_case, procedure_value_case}
use Rattle.law_simulation_operators.proofs.Updates.{incl_case, excl_case}
use Rattle.law_simulation_operators.proofs.For.{for_case}
use Rattle.law_simulation_operators.proofs.Case.{KeptCasesFollow, ElseOrTrapFollows, no_case_case, one_case_case, no_else_case, else_case, case_case}
use Rattle.law_simulation_relation.specs.Setting.{Setting}
use Rattle.law_simulation_records.proofs.Pointers.{HolderFollows, holder_of_place, value_holder_case, deref_holder_case, assign_holder_case, new_holder_case, is_pointer_case, guard_pointer_case}
use Rattle.law_simulation_records.proofs.With.{with_case, with_else_case}
use Rattle.law_simulation_records.proofs.Records.{variable_record_case, tagged_record_case, tagged_guard_case, guard_record_case, is_record_case}
use Rattle.law_simulation_records.proofs.Exact.{exact_structure_case, tagged_structure_case, exact_variable_case, exact_field_case, exact_index_case, exact_open_index_case, tagged_open_index_case, tagged_variable_case, tagged_field_case, tagged_index_case, tagged_deref_case}
use Rattle.law_simulation_records.proofs.Assign.{assign_tagged_case, assign_exact_case}
use Rattle.law_simulation_calls.specs.Tables.{TablesStand}
use Rattle.law_simulation_calls.proofs.Supers.{super_case, super_proper_case}
use Rattle.law_simulation_calls.proofs.Bound.{bound_case, bound_proper_case}
use Rattle.law_simulation_calls.proofs.Variables.{call_variable_case, call_variable_proper_case}
use Rattle.law_simulation.specs.Simulates.{ImageStands}
use Rattle.law_simulation.specs.Slice.{InActuals, InArray, InBranches, InCases, InDesig, InElse, InExpr, InHolder, InOpen, InStmt, InStmts, InTagged, InTaggedVariable, InText}

needs_scalar : (e : Expr) → need_expr e ≤ need_passed e passing.Scalar
needs_scalar (Constant l) = omega arith
needs_scalar (ValueOf d) = omega arith
needs_scalar (ProcedureValue q s) = omega arith
needs_scalar (Monadic o e at) = omega arith
needs_scalar (Dyadic o x y at) = omega arith
needs_scalar (Logical o x y) = omega arith
needs_scalar (CompareTexts r x y at) = omega arith
needs_scalar (IsPointer e q) = omega arith
needs_scalar (IsRecord d q) = omega arith
needs_scalar (Length d) = omega arith
needs_scalar (Call f es at r) = omega arith
needs_scalar (CallVariable d es at r) = omega arith

needs_text : (e : Expr) → InText e → need_array e ≤ need_passed e passing.OpenArray
needs_text (Constant l) i = omega arith
needs_text (ValueOf d) i = omega arith
needs_text e i = absurd i

module _ (c : Setting) (a : Activation c) (given : ImageStands c) (tables : TablesStand c a.methods) (n : ℕ) (call : Caller) where
  variable_follows : (b : ℕ) (v : Variable) (t : TypeRef) → PlaceFollows c a n call b (OfVariable v t)
  variable_follows b (variable.Parameter passing.Structure x) t = structure_parameter_case c a n call b x t
  variable_follows b (variable.Parameter passing.OpenArray x) t = open_place_case c a n call b x t
  variable_follows b (variable.Parameter passing.VariableRecord x) t = variable_record_case c a n call b x t
  variable_follows b (variable.Parameter passing.VariableOpenArray x) t = variable_open_place_case c a n call b x t
  variable_follows b (variable.Module m x) t = variable_case c a n call b (variable.Module m x) t tt
  variable_follows b (variable.Local x) t = variable_case c a n call b (variable.Local x) t tt
  variable_follows b (variable.Parameter passing.Scalar x) t = variable_case c a n call b (variable.Parameter passing.Scalar x) t tt
  variable_follows b (variable.Parameter passing.Variable x) t = variable_case c a n call b (variable.Parameter passing.Variable x) t tt

  tagged_variable_follows : (b : ℕ) (v : Variable) (t : TypeRef) → InTaggedVariable v → RecordFollows c a n call b (OfVariable v t)
  tagged_variable_follows b (variable.Module m x) t i = tagged_variable_case c a n call b given.bases (variable.Module m x) t i
  tagged_variable_follows b (variable.Local x) t i = tagged_variable_case c a n call b given.bases (variable.Local x) t i
  tagged_variable_follows b (variable.Parameter passing.Scalar x) t i = tagged_variable_case c a n call b given.bases (variable.Parameter passing.Scalar x) t i
  tagged_variable_follows b (variable.Parameter passing.Structure x) t i = tagged_structure_case c a n call b given.bases x t
  tagged_variable_follows b (variable.Parameter passing.OpenArray x) t i = absurd i
  tagged_variable_follows b (variable.Parameter passing.Variable x) t i = tagged_variable_case c a n call b given.bases (variable.Parameter passing.Variable x) t i
  tagged_variable_follows b (variable.Parameter passing.VariableRecord x) t i = tagged_record_case c a n call b x t
  tagged_variable_follows b (variable.Parameter passing.VariableOpenArray x) t i = absurd i

  module _ (b : ℕ) (calls : CallsFollow c call b) where
    mutual
      pub desig_follows : (d : Desig) → InDesig d → PlaceFollows c a n call b d
      desig_follows (OfVariable v t) i = variable_follows b v t
      desig_follows (Field d o x t) i = field_case c a n call b d o x t (desig_follows d i)
      desig_follows (Index d (Some l) e at t) i = index_case c a n call b d l e at t (desig_follows d i.0) (expr_follows e i.1)
      desig_follows (Index d None e at t) i = open_index_case c a n call b d e at t (open_follows d i.0) (expr_follows e i.1)
      desig_follows (Deref d at t) i = deref_holder_case c a n call b d at t (holder_follows d i)
      desig_follows (Guard d guarded.Pointer q at t) i = absurd i
      desig_follows (Guard d guarded.Record q at t) i = guard_record_case c a n call b given.bases d q at t (record_follows d i)

      pub holder_follows : (d : Desig) → InHolder d → HolderFollows c a n call b d
      holder_follows (OfVariable v t) i = holder_of_place c a n call b (OfVariable v t) (variable_follows b v t)
      holder_follows (Field d o x t) i = holder_of_place c a n call b (Field d o x t) (field_case c a n call b d o x t (desig_follows d i))
      holder_follows (Index d (Some l) e at t) i = holder_of_place c a n call b (Index d (Some l) e at t) (index_case c a n call b d l e at t (desig_follows d i.0) (expr_follows e i.1))
      holder_follows (Index d None e at t) i = holder_of_place c a n call b (Index d None e at t) (open_index_case c a n call b d e at t (open_follows d i.0) (expr_follows e i.1))
      holder_follows (Deref d at t) i = holder_of_place c a n call b (Deref d at t) (deref_holder_case c a n call b d at t (holder_follows d i))
      holder_follows (Guard d guarded.Pointer q at t) i = guard_pointer_case c a n call b given.bases d q at t (holder_follows d i)
      holder_follows (Guard d guarded.Record q at t) i = absurd i

      pub record_follows : (d : Desig) → InTagged d → RecordFollows c a n call b d
      record_follows (OfVariable v t) i = tagged_variable_follows b v t i
      record_follows (Field d o x t) i = tagged_field_case c a n call b given.bases d o x t (desig_follows d i)
      record_follows (Index d (Some l) e at t) i = tagged_index_case c a n call b given.bases d l e at t (desig_follows d i.0) (expr_follows e i.1)
      record_follows (Index d None e at t) i = tagged_open_index_case c a n call b given.bases d e at t (open_follows d i.0) (expr_follows e i.1)
      record_follows (Deref d at t) i = tagged_deref_case c a n call b d at t (holder_follows d i)
      record_follows (Guard d guarded.Pointer q at t) i = absurd i
      record_follows (Guard d guarded.Record q at t) i = tagged_guard_case c a n call b given.bases d q at t (record_follows d i)

      open_follows : (d : Desig) → InOpen d → OpenArrayFollows c a n call b d
      open_follows (OfVariable (variable.Parameter passing.OpenArray x) t) i = open_parameter_case c a n call b x t
      open_follows (OfVariable (variable.Parameter passing.VariableOpenArray x) t) i = variable_open_parameter_case c a n call b x t
      open_follows (Deref d at t) i = open_deref_case c a n call b d at t (desig_follows d i)
      open_follows d i = absurd i

      array_follows : (d : Desig) → InArray d → PlaceFollows c a n call b d
      array_follows (OfVariable v t) i = variable_follows b v t
      array_follows (Field d o x t) i = field_case c a n call b d o x t (desig_follows d i)
      array_follows (Index d (Some l) e at t) i = index_case c a n call b d l e at t (desig_follows d i.0) (expr_follows e i.1)
      array_follows (Index d None e at t) i = open_index_case c a n call b d e at t (open_follows d i.0) (expr_follows e i.1)
      array_follows (Deref d at t) i = deref_holder_case c a n call b d at t (holder_of_place c a n call b d (desig_follows d i))
      array_follows d i = absurd i

      -- an array with its length, where it is open; no other designator has such code
      long_follows : (d : Desig) → InArray d → OpenArrayFollows c a n call b d
      long_follows (OfVariable (variable.Parameter passing.Structure x) t) i = closed_structure_case c a n call b x t
      long_follows (OfVariable (variable.Parameter passing.OpenArray x) t) i = open_parameter_case c a n call b x t
      long_follows (OfVariable (variable.Parameter passing.VariableOpenArray x) t) i = variable_open_parameter_case c a n call b x t
      long_follows (OfVariable v t) i = closed_case c a n call b v t i
      long_follows (Field d o x t) i = λ u pc at ops os s w le has. absurd has
      long_follows (Index d (Some l) e at t) i = λ u pc at ops os s w le has. absurd has
      long_follows (Index d None e at t) i = λ u pc at ops os s w le has. absurd has
      long_follows (Deref d at t) i = open_deref_case c a n call b d at t (desig_follows d i)
      long_follows d i = absurd i

      pub text_follows : (e : Expr) → InText e → TextFollows c a n call b e
      text_follows (Constant (literal.Str text)) i = text_constant_case c a n call b text
      text_follows (ValueOf d) i = text_value_case c a n call b d (chars_case c a n call b d (array_follows d i) (long_follows d i))
      text_follows e i = absurd i

      pub expr_follows : (e : Expr) → InExpr e → ExprFollows c a n call b e
      expr_follows (Constant l) i = any_constant_case c a n call b l
      expr_follows (ValueOf d) i = value_holder_case c a n call b d (holder_follows d i)
      expr_follows (ProcedureValue q s) i = procedure_value_case c a n call b q s given.linked given.numbered
      expr_follows (Monadic o e at) i = any_monadic_case c a n call b o e at (expr_follows e i)
      expr_follows (Dyadic o x y at) i = any_dyadic_case c a n call b o x y at given.numbered (expr_follows x i.0) (expr_follows y i.1)
      expr_follows (Logical connective.And x y) i = and_case c a n call b x y (expr_follows x i.0) (expr_follows y i.1)
      expr_follows (Logical connective.Or x y) i = or_case c a n call b x y (expr_follows x i.0) (expr_follows y i.1)
      expr_follows (CompareTexts r x y at) i = compare_texts_case c a n call b r x y at (text_follows x i.0) (text_follows y i.1)
      expr_follows (IsPointer e q) i = is_pointer_case c a n call b given.bases e q (expr_follows e i)
      expr_follows (IsRecord d q) i = is_record_case c a n call b given.bases d q
      expr_follows (Length (OfVariable (variable.Parameter passing.OpenArray x) t)) i = length_by_value_case c a n call b x t
      expr_follows (Length (OfVariable (variable.Parameter passing.VariableOpenArray x) t)) i = length_by_variable_case c a n call b x t
      expr_follows (Length (Deref d at t)) i = length_case c a n call b d at t (desig_follows d i)
      expr_follows (Length d) i = absurd i
      expr_follows (Call (callee.Declared q) es at r) i = call_case c a n call b given.linked calls q es at r (actuals_follow es i)
      expr_follows (Call (callee.Bound f k) es at r) i = bound_case c a n call b given.families tables calls f k es at r (actuals_follow es i)
      expr_follows (Call (callee.Super q f k) es at r) i = super_case c a n call b given.linked tables calls q f k es at r (actuals_follow es i)
      expr_follows (Call (callee.Out p) es at r) i = absurd i
      expr_follows (CallVariable d es at r) i = call_variable_case c a n call b given.numbered given.match calls d es at r (holder_follows d i.0) (actuals_follow es i.1)

      pub actuals_follow : (es : Actuals) → InActuals es → ActualsFollow c a n call b es
      actuals_follow NoActual i = no_actual_case c a n call b
      actuals_follow (AnActual passing.Scalar t e rest) i = scalar_actual_case c a n call b t e rest (expr_follows e i.0) (actuals_follow rest i.1) (needs_scalar e)
      actuals_follow (AnActual passing.Variable t (ValueOf d) rest) i = variable_actual_case c a n call b t d rest (desig_follows d i.0) (actuals_follow rest i.1)
      actuals_follow (AnActual passing.Variable t (Constant l) rest) i = absurd i
      actuals_follow (AnActual passing.Variable t (ProcedureValue q s) rest) i = absurd i
      actuals_follow (AnActual passing.Variable t (Monadic o e at) rest) i = absurd i
      actuals_follow (AnActual passing.Variable t (Dyadic o x y at) rest) i = absurd i
      actuals_follow (AnActual passing.Variable t (Logical o x y) rest) i = absurd i
      actuals_follow (AnActual passing.Variable t (CompareTexts r x y at) rest) i = absurd i
      actuals_follow (AnActual passing.Variable t (IsPointer e q) rest) i = absurd i
      actuals_follow (AnActual passing.Variable t (IsRecord d q) rest) i = absurd i
      actuals_follow (AnActual passing.Variable t (Length d) rest) i = absurd i
      actuals_follow (AnActual passing.Variable t (Call f es at r) rest) i = absurd i
      actuals_follow (AnActual passing.Variable t (CallVariable d es at r) rest) i = absurd i
      actuals_follow (AnActual passing.Structure t (ValueOf d) rest) i = structure_actual_case c a n call b t d rest (desig_follows d i.0) (actuals_follow rest i.1)
      actuals_follow (AnActual passing.Structure t (Constant (literal.Str text)) rest) i = string_actual_case c a n call b t text rest (actuals_follow rest i)
      actuals_follow (AnActual passing.OpenArray t (ValueOf d) rest) i = open_actual_case c a n call b t d rest (array_follows d i.0) (long_follows d i.0) (actuals_follow rest i.1)
      actuals_follow (AnActual passing.OpenArray t (Constant (literal.Str text)) rest) i = open_string_actual_case c a n call b t text rest (actuals_follow rest i)
      actuals_follow (AnActual passing.VariableRecord t (ValueOf d) rest) i = variable_record_actual_case c a n call b t d rest (record_follows d i.0) (actuals_follow rest i.1)
      actuals_follow (AnActual passing.VariableOpenArray t (ValueOf d) rest) i = variable_open_actual_case c a n call b t d rest (array_follows d i.0) (long_follows d i.0) (actuals_follow rest i.1)
      actuals_follow es i = absurd i

    pub chars_follow : (d : Desig) → InArray d → CharsFollow c a n call b d
    chars_follow d i = chars_case c a n call b d (array_follows d i) (long_follows d i)

    -- the assignment of a record
    variable_assigned : (v : Variable) (t : TypeRef) (q : QName) (e : Desig) (at : Pos) → InTaggedVariable v → PlaceFollows c a n call b e → StmtFollows c a n call b (Assign (OfVariable v t) (assigned.Record q) (ValueOf e) at)
    variable_assigned (variable.Module m x) t q e at i ih = assign_exact_case c a n call b (OfVariable (variable.Module m x) t) q e at refl (λ pc. refl) (exact_variable_case c a n call b (variable.Module m x) t i) ih
    variable_assigned (variable.Local x) t q e at i ih = assign_exact_case c a n call b (OfVariable (variable.Local x) t) q e at refl (λ pc. refl) (exact_variable_case c a n call b (variable.Local x) t i) ih
    variable_assigned (variable.Parameter passing.Scalar x) t q e at i ih = assign_exact_case c a n call b (OfVariable (variable.Parameter passing.Scalar x) t) q e at refl (λ pc. refl) (exact_variable_case c a n call b (variable.Parameter passing.Scalar x) t i) ih
    variable_assigned (variable.Parameter passing.Structure x) t q e at i ih = assign_exact_case c a n call b (OfVariable (variable.Parameter passing.Structure x) t) q e at refl (λ pc. refl) (exact_structure_case c a n call b x t) ih
    variable_assigned (variable.Parameter passing.OpenArray x) t q e at i ih = absurd i
    variable_assigned (variable.Parameter passing.Variable x) t q e at i ih = assign_exact_case c a n call b (OfVariable (variable.Parameter passing.Variable x) t) q e at refl (λ pc. refl) (exact_variable_case c a n call b (variable.Parameter passing.Variable x) t i) ih
    variable_assigned (variable.Parameter passing.VariableRecord x) t q e at i ih = assign_tagged_case c a n call b given.bases (OfVariable (variable.Parameter passing.VariableRecord x) t) q e at refl (λ pc. refl) (tagged_record_case c a n call b x t) ih
    variable_assigned (variable.Parameter passing.VariableOpenArray x) t q e at i ih = absurd i

    pub record_assigned : (d : Desig) (q : QName) (e : Desig) (at : Pos) → InTagged d → PlaceFollows c a n call b e → StmtFollows c a n call b (Assign d (assigned.Record q) (ValueOf e) at)
    record_assigned (OfVariable v t) q e at i ih = variable_assigned v t q e at i ih
    record_assigned (Field d o x t) q e at i ih = assign_exact_case c a n call b (Field d o x t) q e at refl (λ pc. refl) (exact_field_case c a n call b d o x t (desig_follows d i)) ih
    record_assigned (Index d (Some l) k p t) q e at i ih = assign_exact_case c a n call b (Index d (Some l) k p t) q e at refl (λ pc. refl) (exact_index_case c a n call b d l k p t (desig_follows d i.0) (expr_follows k i.1)) ih
    record_assigned (Index d None k p t) q e at i ih = assign_exact_case c a n call b (Index d None k p t) q e at refl (λ pc. refl) (exact_open_index_case c a n call b d k p t (open_follows d i.0) (expr_follows k i.1)) ih
    record_assigned (Deref d p t) q e at i ih = assign_tagged_case c a n call b given.bases (Deref d p t) q e at refl (λ pc. refl) (tagged_deref_case c a n call b d p t (holder_follows d i)) ih
    record_assigned (Guard d guarded.Pointer r p t) q e at i ih = absurd i
    record_assigned (Guard d guarded.Record r p t) q e at i ih = assign_tagged_case c a n call b given.bases (Guard d guarded.Record r p t) q e at refl (λ pc. refl) (tagged_guard_case c a n call b given.bases d r p t (record_follows d i)) ih

  module _ (calls : (b : ℕ) → b ≤ n → CallsFollow c call b) where
    mutual
      pub stmt_follows : (t : Stmt) → InStmt t → (b : ℕ) → b ≤ n → StmtFollows c a n call b t
      stmt_follows (Assign d assigned.Scalar e at) i b le = assign_holder_case c a n call b d e at (holder_follows b (calls b le) d i.0) (expr_follows b (calls b le) e i.1)
      stmt_follows (Assign d assigned.Text (Constant (literal.Str text)) at) i b le = assign_text_case c a n call b d text at (desig_follows b (calls b le) d i)
      stmt_follows (Assign d assigned.Array (ValueOf e) at) i b le = assign_array_case c a n call b d e at (desig_follows b (calls b le) d i.0) (desig_follows b (calls b le) e i.1)
      stmt_follows (Assign d (assigned.Record q) (ValueOf e) at) i b le = record_assigned b (calls b le) d q e at i.0 (desig_follows b (calls b le) e i.1)
      stmt_follows (CallProper (Call (callee.Declared q) es at r)) i b le = call_proper_case c a n call b given.linked (calls b le) q es at r (actuals_follow b (calls b le) es i)
      stmt_follows (CallProper (Call (callee.Bound f k) es at r)) i b le = bound_proper_case c a n call b given.families tables (calls b le) f k es at r (actuals_follow b (calls b le) es i)
      stmt_follows (CallProper (Call (callee.Super q f k) es at r)) i b le = super_proper_case c a n call b given.linked tables (calls b le) q f k es at r (actuals_follow b (calls b le) es i)
      stmt_follows (CallProper (CallVariable d es at r)) i b le = call_variable_proper_case c a n call b given.numbered given.match (calls b le) d es at r (holder_follows b (calls b le) d i.0) (actuals_follow b (calls b le) es i.1)
      stmt_follows (CallProper (Call (callee.Out out.Ln) NoActual at r)) i b le = ln_case c a n call b at r
      stmt_follows (CallProper (Call (callee.Out out.Char) (AnActual passing.Scalar (ref.Basic basic.Char) e NoActual) at r)) i b le = char_case c a n call b e at r (expr_follows b (calls b le) e i) (needs_scalar e)
      stmt_follows (CallProper (Call (callee.Out out.Int) (AnActual passing.Scalar (ref.Basic basic.LongInt) e (AnActual passing.Scalar (ref.Basic basic.LongInt) f NoActual)) at r)) i b le = int_case c a n call b e f at r (expr_follows b (calls b le) e i.0) (expr_follows b (calls b le) f i.1) (needs_scalar e) (needs_scalar f)
      stmt_follows (CallProper (Call (callee.Out out.Str) (AnActual passing.OpenArray t e NoActual) at r)) i b le = string_case c a n call b e t at r (needs_text e i) (text_follows b (calls b le) e i)
      stmt_follows (New d (made.Array t) at) i b le = new_array_case c a n call b d t at (desig_follows b (calls b le) d i)
      stmt_follows (NewOpenArray d t e at) i b le = new_open_array_case c a n call b d t e at (desig_follows b (calls b le) d i.0) (expr_follows b (calls b le) e i.1)
      stmt_follows (Copy e d at) i b le = copy_case c a n call b e d at (text_follows b (calls b le) e i.0) (chars_follow b (calls b le) d i.1)
      stmt_follows (New d (made.Record q) at) i b le = new_holder_case c a n call b d q at given.types (holder_follows b (calls b le) d i)
      stmt_follows (Updated (update.Inc w) d e at) i b le = inc_case c a n call b w d e at (desig_follows b (calls b le) d i.0) (expr_follows b (calls b le) e i.1)
      stmt_follows (Updated (update.Dec w) d e at) i b le = dec_case c a n call b w d e at (desig_follows b (calls b le) d i.0) (expr_follows b (calls b le) e i.1)
      stmt_follows (Updated update.Incl d e at) i b le = incl_case c a n call b d e at (desig_follows b (calls b le) d i.0) (expr_follows b (calls b le) e i.1)
      stmt_follows (Updated update.Excl d e at) i b le = excl_case c a n call b d e at (desig_follows b (calls b le) d i.0) (expr_follows b (calls b le) e i.1)
      stmt_follows (Assert e number at) i b le = assert_case c a n call b e number at (expr_follows b (calls b le) e i)
      stmt_follows (Halt number at) i b le = halt_case c a n call b number at
      stmt_follows (If branches otherwise) i b le = if_case c a n call b branches otherwise (branches_follow branches i.0 b le) (stmts_follow otherwise i.1 b le)
      stmt_follows (Case e cases otherwise at) i b le = case_case c a n call b e cases otherwise at (expr_follows b (calls b le) e i.0) (cases_follow cases i.1.0 b le) (else_follows otherwise i.1.1 b le)
      stmt_follows (While e body at) i b le = while_case c a n call e body at (λ b le. expr_follows b (calls b le) e i.0) (λ b le. stmts_follow body i.1 b le) b le
      stmt_follows (Repeat body e at) i b le = repeat_case c a n call body e at (λ b le. stmts_follow body i.0 b le) (λ b le. expr_follows b (calls b le) e i.1) b le
      stmt_follows (For v w start end step body at) i b le = for_case c a n call v w start end step body at i.0 (λ b le. expr_follows b (calls b le) start i.1.0) (λ b le. expr_follows b (calls b le) end i.1.1.0) (λ b le. stmts_follow body i.1.1.1 b le) b le
      stmt_follows (Loop body at) i b le = loop_case c a n call body at (λ b le. stmts_follow body i b le) b le
      stmt_follows Exit i b le = exit_case c a n call b
      stmt_follows (Return None) i b le = return_case c a n call b
      stmt_follows (Return (Some e)) i b le = return_value_case c a n call b e (expr_follows b (calls b le) e i)
      stmt_follows (With branches NoElse at) i b le = with_case c a n call b branches at (branches_follow branches i b le)
      stmt_follows (With branches (Else body) at) i b le = with_else_case c a n call b branches body at (branches_follow branches i.0 b le) (stmts_follow body i.1 b le)
      stmt_follows t i b le = absurd i

      pub stmts_follow : (t : Stmts) → InStmts t → (b : ℕ) → b ≤ n → StmtsFollow c a n call b t
      stmts_follow Nothing i b le = nothing_case c a n call b
      stmts_follow (Then t rest) i b le = then_case c a n call b t rest (stmt_follows t i.0 b le) (stmts_follow rest i.1 b le)

      pub branches_follow : (t : Branches) → InBranches t → (b : ℕ) → b ≤ n → BranchesFollow c a n call b t
      branches_follow NoBranch i b le = no_branch_case c a n call b
      branches_follow (Branch test body rest) i b le = branch_case c a n call b test body rest (expr_follows b (calls b le) test i.0) (stmts_follow body i.1.0 b le) (branches_follow rest i.1.1 b le)

      pub cases_follow : (t : Cases) → InCases t → (b : ℕ) → b ≤ n → KeptCasesFollow c a n call b t
      cases_follow NoCase i b le = no_case_case c a n call b
      cases_follow (OneCase labels body rest) i b le = one_case_case c a n call b labels body rest (stmts_follow body i.0 b le) (cases_follow rest i.1 b le)

      pub else_follows : (t : Otherwise) → InElse t → (b : ℕ) → b ≤ n → ElseOrTrapFollows c a n call b t
      else_follows NoElse i b le = no_else_case c a n call b
      else_follows (Else body) i b le = else_case c a n call b body (stmts_follow body i b le)
