-- The scheme's code ends where the law of simulation says.
use Rattle.std.proofs.Common.{◌≡◌, ℕ, suc, List, [], ◌∷◌, refl, sym, ap, ◌∙◌, Option, Some, None, inl, inr}
use Rattle.ob_tree.specs.declared.pos.Pos.{Pos}
use Rattle.ob_types.specs.declared.types.TypeRef.{TypeRef}
use Rattle.ob_types.specs.declared.types.TypeRef.TheVariants as ref
use Rattle.ob_types.specs.declared.types.Basic.TheVariants as basic
use Rattle.ob_types.specs.declared.value.Value.{Value as Literal}
use Rattle.ob_types.specs.declared.value.Value.TheVariants as literal
use Rattle.ob_types.specs.declared.typed.Passing.{Passing}
use Rattle.ob_types.specs.declared.typed.Passing.TheVariants as passing
use Rattle.ob_types.specs.declared.typed.Variable.{Variable}
use Rattle.ob_types.specs.declared.typed.Variable.TheVariants as variable
use Rattle.ob_types.specs.declared.typed.Guarded.TheVariants as guarded
use Rattle.ob_types.specs.declared.typed.Connective.TheVariants as connective
use Rattle.ob_types.specs.declared.typed.Unary.{Unary}
use Rattle.ob_types.specs.declared.typed.Unary.TheVariants as unary
use Rattle.ob_types.specs.declared.typed.Assigned.{Assigned}
use Rattle.ob_types.specs.declared.typed.Assigned.TheVariants as assigned
use Rattle.ob_types.specs.declared.typed.Label.{Label}
use Rattle.ob_types.specs.TypedSyntax.{Desig, OfVariable, Field, Index, Deref, Guard, Expr, Constant, ValueOf, ProcedureValue, Monadic, Dyadic, Logical, CompareTexts, IsPointer, IsRecord, Length, Call, CallVariable, Actuals, NoActual, AnActual, Stmt, Assign, CallProper, Updated, Copy, New, NewOpenArray, Assert, Halt, If, Case, While, Repeat, For, Loop, Exit, Return, With, Stmts, Nothing, Then, Branches, NoBranch, Branch, Cases, NoCase, OneCase, Otherwise, NoElse, Else}
use Rattle.ob_types.specs.TypedKinds.{variable_type}
use Rattle.ob_meaning.specs.Values.{Program, form_in}
use Rattle.ob_scheme.specs.Lines.{behind}
use Rattle.ob_scheme.specs.Descriptions.{elements_of}
use Rattle.ob_scheme.specs.Context.{Context, words}
use Rattle.ob_scheme.specs.Operations.{unary_code}
use Rattle.ob_scheme.specs.declared.want.Want.{Want}
use Rattle.ob_scheme.specs.declared.want.Want.TheVariants as want
use Rattle.ob_scheme.specs.Expressions as scheme
use Rattle.ob_scheme.specs.Expressions.{constant_code, guard_want, from_guard, from_place, from_pointer, measured_behind, variable_code}
use Rattle.ob_scheme.specs.Statements as scheme_of
use Rattle.ob_scheme.specs.Statements.{target_want, source_want, record_want, has_tag, for_place, for_value}
use Rattle.law_simulation_relation.specs.Ends.{is_open, end_variable, end_place, end_tagged, end_open, end_unary, end_actuals, end_target, end_assigned, end_optional, end_labels, end_stmt, end_stmts, end_branches, end_cases, end_else, end_expr}
use Rattle.law_image_code.specs.Described.{IsDescribed}
use Rattle.law_image_code.specs.Fits.{IsWhole, IsArrayType, IsOpenType, PlaceGives, OpenGives, TaggedGives, VariableGives, PointerGives, GuardGives, ConstantGives, IsNoPointer, DesigFits, ExprFits, ActualsFit, ResultFits, AssignedFits, StmtFits, StmtsFit, BranchesFit, CasesFit, ElseFits, ProperFits}
use Rattle.law_image_code.specs.Wanted.{place_end, desig_end, expr_end}

unary_ends : (o : Unary) (at : Pos) (pc : ℕ) → behind (unary_code o at) pc ≡ end_unary o pc
unary_ends (unary.Negate w) at pc = refl
unary_ends unary.Not at pc = refl
unary_ends unary.Complement at pc = refl
unary_ends (unary.Abs w) at pc = refl
unary_ends unary.Cap at pc = refl
unary_ends unary.Chr at pc = refl
unary_ends (unary.Long w) at pc = refl
unary_ends unary.Odd at pc = refl
unary_ends unary.Ord at pc = refl
unary_ends (unary.Short w) at pc = refl
unary_ends unary.Element at pc = refl

module _ (c : Context) (program : Program) where
  pub from_place_ends : (w : Want) (t : TypeRef) (pc : ℕ) → behind (from_place c w t) pc ≡ place_end w pc
  from_place_ends want.Value t pc = refl
  from_place_ends want.Place t pc = refl
  from_place_ends (want.Room n) t pc = refl
  from_place_ends want.PlaceAndTag t pc = refl
  from_place_ends want.Tag t pc = refl
  from_place_ends want.PlaceAndLength t pc = refl
  from_place_ends want.Length t pc = refl

  pub array_end : (t : TypeRef) (a b : ℕ) → IsArrayType program c t → is_open (form_in program t) a b ≡ b
  array_end t a b h = ap (λ f. is_open f a b) h.2

  pub open_end : (t : TypeRef) (a b : ℕ) → IsOpenType program c t → is_open (form_in program t) a b ≡ a
  open_end t a b h = ap (λ f. is_open f a b) h.1

  -- a designator with a place of its own
  pub plain_end : (w : Want) (d : Desig) (pc : ℕ) → end_tagged program d pc ≡ suc (end_place program d pc) → PlaceGives program c w (variable_type d) → desig_end program w d pc ≡ place_end w (end_place program d pc)
  plain_end want.Value d pc e g = refl
  plain_end want.Place d pc e g = refl
  plain_end (want.Room n) d pc e g = refl
  plain_end want.PlaceAndTag d pc e g = e
  plain_end want.Tag d pc e g = absurd g
  plain_end want.PlaceAndLength d pc e g = array_end (variable_type d) _ _ g
  plain_end want.Length d pc e g = absurd g

  opened_ends : (w : Want) (how : Passing) (x : List ℕ) (t : TypeRef) (pc : ℕ) → end_place program (OfVariable (variable.Parameter how x) t) pc ≡ suc (suc pc) → OpenGives program c w t → behind (scheme.pair_code 0 w) pc ≡ desig_end program w (OfVariable (variable.Parameter how x) t) pc
  opened_ends want.Value how x t pc e g = absurd g
  opened_ends want.Place how x t pc e g = sym e
  opened_ends (want.Room n) how x t pc e g = sym e
  opened_ends want.PlaceAndTag how x t pc e g = absurd g
  opened_ends want.Tag how x t pc e g = absurd g
  opened_ends want.PlaceAndLength how x t pc e g = sym (open_end t _ _ g)
  opened_ends want.Length how x t pc e g = refl

  pair_ends : (w : Want) (k n pc : ℕ) → behind (scheme.pair_code k w) pc ≡ behind (scheme.pair_code n w) pc
  pair_ends want.Value k n pc = refl
  pair_ends want.Place k n pc = refl
  pair_ends (want.Room m) k n pc = refl
  pair_ends want.PlaceAndTag k n pc = refl
  pair_ends want.Tag k n pc = refl
  pair_ends want.PlaceAndLength k n pc = refl
  pair_ends want.Length k n pc = refl

  tagged_ends : (w : Want) (k : ℕ) (x : List ℕ) (t : TypeRef) (pc : ℕ) → TaggedGives w → behind (scheme.pair_code k w) pc ≡ desig_end program w (OfVariable (variable.Parameter passing.VariableRecord x) t) pc
  tagged_ends want.Value k x t pc g = absurd g
  tagged_ends want.Place k x t pc g = refl
  tagged_ends (want.Room n) k x t pc g = refl
  tagged_ends want.PlaceAndTag k x t pc g = refl
  tagged_ends want.Tag k x t pc g = refl
  tagged_ends want.PlaceAndLength k x t pc g = absurd g
  tagged_ends want.Length k x t pc g = absurd g

  pub variable_ends : (v : Variable) (w : Want) (t : TypeRef) (pc : ℕ) → VariableGives program c v w t → behind (variable_code c w v t) pc ≡ desig_end program w (OfVariable v t) pc
  variable_ends (variable.Module m x) w t pc g = from_place_ends w t (suc pc) ∙ sym (plain_end w (OfVariable (variable.Module m x) t) pc refl g)
  variable_ends (variable.Local x) w t pc g = from_place_ends w t (suc pc) ∙ sym (plain_end w (OfVariable (variable.Local x) t) pc refl g)
  variable_ends (variable.Parameter passing.Scalar x) w t pc g = from_place_ends w t (suc pc) ∙ sym (plain_end w (OfVariable (variable.Parameter passing.Scalar x) t) pc refl g)
  variable_ends (variable.Parameter passing.Structure x) w t pc g = from_place_ends w t (suc (suc pc)) ∙ sym (plain_end w (OfVariable (variable.Parameter passing.Structure x) t) pc refl g)
  variable_ends (variable.Parameter passing.OpenArray x) w t pc g = pair_ends w _ 0 pc ∙ opened_ends w passing.OpenArray x t pc refl g
  variable_ends (variable.Parameter passing.Variable x) w t pc g = from_place_ends w t (suc (suc pc)) ∙ sym (plain_end w (OfVariable (variable.Parameter passing.Variable x) t) pc refl g)
  variable_ends (variable.Parameter passing.VariableRecord x) w t pc g = tagged_ends w _ x t pc g
  variable_ends (variable.Parameter passing.VariableOpenArray x) w t pc g = pair_ends w _ 0 pc ∙ opened_ends w passing.VariableOpenArray x t pc refl g

  guard_ends : (w : Want) (g : _) (d : Desig) (q : _) (at : Pos) (t : TypeRef) (pc : ℕ) → GuardGives g w → behind (from_guard c g w t) (suc (desig_end program (guard_want g w) d pc)) ≡ desig_end program w (Guard d g q at t) pc
  guard_ends want.Value guarded.Pointer d q at t pc f = refl
  guard_ends want.Place guarded.Pointer d q at t pc f = refl
  guard_ends (want.Room n) guarded.Pointer d q at t pc f = refl
  guard_ends want.Place guarded.Record d q at t pc f = refl
  guard_ends (want.Room n) guarded.Record d q at t pc f = refl
  guard_ends want.PlaceAndTag guarded.Record d q at t pc f = refl
  guard_ends want.Tag guarded.Record d q at t pc f = refl
  guard_ends want.Value guarded.Record d q at t pc f = absurd f
  guard_ends want.PlaceAndLength guarded.Record d q at t pc f = absurd f
  guard_ends want.Length guarded.Record d q at t pc f = absurd f
  guard_ends w guarded.Pointer d q at t pc f = absurd f

  constant_ends : (w : Want) (v : Literal) (pc : ℕ) → ConstantGives w v → behind (constant_code w v) pc ≡ expr_end program w (Constant v) pc
  constant_ends want.Value (literal.Bool b) pc g = refl
  constant_ends want.Value (literal.Char n) pc g = refl
  constant_ends want.Value (literal.Int z) pc g = refl
  constant_ends want.Value (literal.Set n) pc g = refl
  constant_ends want.Value (literal.Str text) pc g = absurd g
  constant_ends want.Value literal.Nil pc g = refl
  constant_ends want.Place (literal.Str text) pc g = refl
  constant_ends (want.Room n) (literal.Str text) pc g = refl
  constant_ends want.PlaceAndLength (literal.Str text) pc g = refl
  constant_ends w v pc g = absurd g

  pub whole_end : (w : Want) (d : Desig) (pc : ℕ) → IsWhole w → desig_end program w d pc ≡ expr_end program w (ValueOf d) pc
  whole_end want.Value d pc h = refl
  whole_end want.Place d pc h = refl
  whole_end (want.Room n) d pc h = refl
  whole_end want.PlaceAndTag d pc h = refl
  whole_end want.Tag d pc h = absurd h
  whole_end want.PlaceAndLength d pc h = refl
  whole_end want.Length d pc h = absurd h

  module _ (described : IsDescribed c.types program) where
    pub measured_array : (t : TypeRef) (h : IsArrayType program c t) → elements_of c.types t ≡ Some h.0
    measured_array t h = described.elements t h.0 h.1 h.2

    pub measured_open : (t : TypeRef) (h : IsOpenType program c t) → elements_of c.types t ≡ None
    measured_open t h = described.opens t h.0 h.1

    pointer_ends : (w : Want) (d : Desig) (at : Pos) (t : TypeRef) (pc : ℕ) → PointerGives program c w t → behind (from_pointer c w t at) (suc (end_place program d pc)) ≡ desig_end program w (Deref d at t) pc
    pointer_ends want.Value d at t pc g = refl
    pointer_ends want.Place d at t pc g = refl
    pointer_ends (want.Room n) d at t pc g = refl
    pointer_ends want.PlaceAndTag d at t pc g = refl
    pointer_ends want.Tag d at t pc g = absurd g
    pointer_ends want.PlaceAndLength d at t pc (inl h) = ap (λ o. behind (measured_behind o at) (suc (end_place program d pc))) (measured_array t h) ∙ sym (array_end t _ _ h)
    pointer_ends want.PlaceAndLength d at t pc (inr h) = ap (λ o. behind (measured_behind o at) (suc (end_place program d pc))) (measured_open t h) ∙ sym (open_end t _ _ h)
    pointer_ends want.Length d at t pc g = refl

    mutual
      pub desig_ends : (w : Want) (d : Desig) (pc : ℕ) → DesigFits program c w d → scheme.end_desig c w d pc ≡ desig_end program w d pc
      desig_ends w (OfVariable v t) pc f = variable_ends v w t pc f.1
      desig_ends w (Field d o x t) pc f = from_place_ends w t _ ∙ ap (λ p. place_end w (suc p)) (desig_ends want.Place d pc f.0) ∙ sym (plain_end w (Field d o x t) pc refl f.1.1)
      desig_ends w (Index d (Some n) i at t) pc f =
          from_place_ends w t _ ∙ ap (λ p. place_end w (suc (scheme.end_expr c want.Value i p))) (desig_ends want.Place d pc f.0) ∙ ap (λ p. place_end w (suc p)) (expr_ends want.Value i (end_place program d pc) f.1.0) ∙ sym (plain_end w (Index d (Some n) i at t) pc refl f.1.1)
      desig_ends w (Index d None i at t) pc f =
          from_place_ends w t _ ∙ ap (λ p. place_end w (suc (scheme.end_expr c want.Value i p))) (desig_ends want.PlaceAndLength d pc f.0 ∙ open_end (variable_type d) _ _ f.1.0) ∙ ap (λ p. place_end w (suc p)) (expr_ends want.Value i (end_open program d pc) f.1.1.0) ∙ sym (plain_end w (Index d None i at t) pc refl f.1.1.1)
      desig_ends w (Deref d at t) pc f = ap (λ p. behind (from_pointer c w t at) p) (desig_ends want.Value d pc f.0) ∙ pointer_ends w d at t pc f.1
      desig_ends w (Guard d g q at t) pc f = ap (λ p. behind (from_guard c g w t) (suc p)) (desig_ends (guard_want g w) d pc f.0) ∙ guard_ends w g d q at t pc f.1.1

      pub expr_ends : (w : Want) (e : Expr) (pc : ℕ) → ExprFits program c w e → scheme.end_expr c w e pc ≡ expr_end program w e pc
      expr_ends w (Constant v) pc f = constant_ends w v pc f
      expr_ends w (ValueOf d) pc f = desig_ends w d pc f.1 ∙ whole_end w d pc f.0
      expr_ends want.Value (ProcedureValue q signature) pc f = refl
      expr_ends want.Value (Monadic o e at) pc f = unary_ends o at _ ∙ ap (end_unary o) (expr_ends want.Value e pc f.1)
      expr_ends want.Value (Dyadic o a b at) pc f = ap (λ p. suc (scheme.end_expr c want.Value b p)) (expr_ends want.Value a pc f.1.0) ∙ ap suc (expr_ends want.Value b _ f.1.1)
      expr_ends want.Value (Logical connective.And a b) pc f = ap (λ p. suc (suc (scheme.end_expr c want.Value b (suc p)))) (expr_ends want.Value a pc f.1.0) ∙ ap (λ p. suc (suc p)) (expr_ends want.Value b _ f.1.1)
      expr_ends want.Value (Logical connective.Or a b) pc f = ap (λ p. scheme.end_expr c want.Value b (suc (suc (suc p)))) (expr_ends want.Value a pc f.1.0) ∙ expr_ends want.Value b _ f.1.1
      expr_ends want.Value (CompareTexts r a b at) pc f = ap (λ p. suc (scheme.end_expr c want.PlaceAndLength b p)) (expr_ends want.PlaceAndLength a pc f.1.0) ∙ ap suc (expr_ends want.PlaceAndLength b _ f.1.1)
      expr_ends want.Value (IsPointer e q) pc f = ap suc (expr_ends want.Value e pc f.1.0)
      expr_ends want.Value (IsRecord d q) pc f = ap suc (desig_ends want.Tag d pc f.1.0)
      expr_ends want.Value (Length d) pc f = desig_ends want.Length d pc f.1
      expr_ends want.Value (Call callee es at t) pc f = ap suc (actuals_end es pc f.1.1.0)
      expr_ends want.Value (CallVariable d es at t) pc f = ap (λ p. suc (scheme.end_actuals c es p)) (desig_ends want.Value d pc f.1.0) ∙ ap suc (actuals_end es _ f.1.1)
      expr_ends w e pc f = absurd f.0

      pub actuals_end : (es : Actuals) (pc : ℕ) → ActualsFit program c es → scheme.end_actuals c es pc ≡ end_actuals program es pc
      actuals_end NoActual pc f = refl
      actuals_end (AnActual passing.Scalar t e rest) pc f = ap (scheme.end_actuals c rest) (expr_ends want.Value e pc f.0) ∙ actuals_end rest _ f.1
      actuals_end (AnActual passing.Structure t e rest) pc f = ap (scheme.end_actuals c rest) (expr_ends (want.Room (words c t)) e pc f.0) ∙ actuals_end rest _ f.1
      actuals_end (AnActual passing.OpenArray t e rest) pc f = ap (scheme.end_actuals c rest) (expr_ends want.PlaceAndLength e pc f.0) ∙ actuals_end rest _ f.1
      actuals_end (AnActual passing.Variable t e rest) pc f = ap (scheme.end_actuals c rest) (expr_ends want.Place e pc f.0) ∙ actuals_end rest _ f.1
      actuals_end (AnActual passing.VariableRecord t e rest) pc f = ap (scheme.end_actuals c rest) (expr_ends want.PlaceAndTag e pc f.0) ∙ actuals_end rest _ f.1
      actuals_end (AnActual passing.VariableOpenArray t e rest) pc f = ap (scheme.end_actuals c rest) (expr_ends want.PlaceAndLength e pc f.0) ∙ actuals_end rest _ f.1

    -- STATEMENTS

    pub target_end : (d : Desig) (pc : ℕ) → IsNoPointer d → desig_end program (record_want (has_tag d)) d pc ≡ end_target program d pc
    target_end (OfVariable (variable.Module m x) t) pc h = refl
    target_end (OfVariable (variable.Local x) t) pc h = refl
    target_end (OfVariable (variable.Parameter passing.Scalar x) t) pc h = refl
    target_end (OfVariable (variable.Parameter passing.Structure x) t) pc h = refl
    target_end (OfVariable (variable.Parameter passing.OpenArray x) t) pc h = refl
    target_end (OfVariable (variable.Parameter passing.Variable x) t) pc h = refl
    target_end (OfVariable (variable.Parameter passing.VariableRecord x) t) pc h = refl
    target_end (OfVariable (variable.Parameter passing.VariableOpenArray x) t) pc h = refl
    target_end (Field d o x t) pc h = refl
    target_end (Index d n i at t) pc h = refl
    target_end (Deref d at t) pc h = refl
    target_end (Guard d guarded.Record q at t) pc h = refl
    target_end (Guard d guarded.Pointer q at t) pc h = absurd h

    assigned_ends : (how : Assigned) (d : Desig) (e : Expr) (pc : ℕ) → DesigFits program c (target_want how d) d → ExprFits program c (source_want how) e → AssignedFits program c how d → suc (scheme.end_expr c (source_want how) e (scheme.end_desig c (target_want how d) d pc)) ≡ end_assigned program how d e pc
    assigned_ends assigned.Scalar d e pc f g h = ap (λ p. suc (scheme.end_expr c want.Value e p)) (desig_ends want.Place d pc f) ∙ ap suc (expr_ends want.Value e _ g)
    assigned_ends assigned.Text d e pc f g h = ap (λ p. suc (scheme.end_expr c want.Place e p)) (desig_ends want.Place d pc f) ∙ ap suc (expr_ends want.Place e _ g)
    assigned_ends assigned.Array d e pc f g h = ap (λ p. suc (scheme.end_expr c want.Place e p)) (desig_ends want.Place d pc f) ∙ ap suc (expr_ends want.Place e _ g)
    assigned_ends (assigned.Record q) d e pc f g h = ap (λ p. suc (scheme.end_expr c want.Place e p)) (desig_ends (record_want (has_tag d)) d pc f ∙ target_end d pc h.0) ∙ ap suc (expr_ends want.Place e _ g)

    pub labels_end : (ls : List Label) (pc : ℕ) → suc (scheme_of.end_labels c ls pc) ≡ end_labels program ls pc
    labels_end [] pc = refl
    labels_end (l ∷ ls) pc = labels_end ls _

    proper_ends : (e : Expr) (pc : ℕ) → ProperFits program c e → scheme.end_expr c want.Value e pc ≡ end_expr program e pc
    proper_ends (Call callee es at t) pc f = ap suc (actuals_end es pc f.0)
    proper_ends (CallVariable d es at t) pc f = expr_ends want.Value (CallVariable d es at t) pc (tt, f)
    proper_ends e pc f = absurd f

    result_ends : (e : Option Expr) (pc : ℕ) → ResultFits program c e → scheme_of.end_result c e pc ≡ suc (end_optional program e pc)
    result_ends None pc f = refl
    result_ends (Some e) pc f = ap suc (expr_ends want.Value e pc f)

    -- the variable of FOR
    pub counter_value : (v : Variable) (pc : ℕ) → VariableGives program c v want.Value (ref.Basic basic.LongInt) → behind (for_value c v) pc ≡ suc (end_variable v pc)
    counter_value v pc f = variable_ends v want.Value (ref.Basic basic.LongInt) pc f

    pub value_place : (v : Variable) (t : TypeRef) → VariableGives program c v want.Value t → VariableGives program c v want.Place t
    value_place (variable.Module m x) t f = tt
    value_place (variable.Local x) t f = tt
    value_place (variable.Parameter passing.Scalar x) t f = tt
    value_place (variable.Parameter passing.Structure x) t f = tt
    value_place (variable.Parameter passing.OpenArray x) t f = tt
    value_place (variable.Parameter passing.Variable x) t f = tt
    value_place (variable.Parameter passing.VariableRecord x) t f = tt
    value_place (variable.Parameter passing.VariableOpenArray x) t f = tt

    pub counter_place : (v : Variable) (pc : ℕ) → VariableGives program c v want.Value (ref.Basic basic.LongInt) → behind (for_place c v) pc ≡ end_variable v pc
    counter_place v pc f = variable_ends v want.Place (ref.Basic basic.LongInt) pc (value_place v _ f)

    mutual
      pub stmt_ends : (s : Stmt) (pc : ℕ) → StmtFits program c s → scheme_of.end_stmt c s pc ≡ end_stmt program s pc
      stmt_ends (Assign d how e at) pc f = assigned_ends how d e pc f.0 f.1.0 f.1.1
      stmt_ends (CallProper e) pc f = proper_ends e pc f
      stmt_ends (Updated o d e at) pc f = ap (λ p. suc (scheme.end_expr c want.Value e p)) (desig_ends want.Place d pc f.0) ∙ ap suc (expr_ends want.Value e _ f.1)
      stmt_ends (Copy e d at) pc f = ap (λ p. suc (scheme.end_desig c want.PlaceAndLength d p)) (expr_ends want.PlaceAndLength e pc f.0) ∙ ap suc (desig_ends want.PlaceAndLength d _ f.1)
      stmt_ends (New d what at) pc f = ap suc (desig_ends want.Place d pc f.0)
      stmt_ends (NewOpenArray d t n at) pc f = ap (λ p. suc (scheme.end_expr c want.Value n p)) (desig_ends want.Place d pc f.0) ∙ ap suc (expr_ends want.Value n _ f.1)
      stmt_ends (Assert e number at) pc f = ap suc (expr_ends want.Value e pc f)
      stmt_ends (Halt number at) pc f = refl
      stmt_ends (If branches otherwise) pc f = ap (scheme_of.end_stmts c otherwise) (branches_end branches pc f.0) ∙ stmts_end otherwise _ f.1
      stmt_ends (Case e cases otherwise at) pc f = ap (λ p. scheme_of.end_else c otherwise (scheme_of.end_cases c cases (suc p))) (expr_ends want.Value e (suc pc) f.0) ∙ ap (scheme_of.end_else c otherwise) (cases_end cases _ f.1.0) ∙ else_ends otherwise _ f.1.1
      stmt_ends (While e body at) pc f = ap (λ p. suc (scheme_of.end_stmts c body (suc p))) (expr_ends want.Value e pc f.0) ∙ ap suc (stmts_end body _ f.1)
      stmt_ends (Repeat body e at) pc f = ap (λ p. suc (scheme.end_expr c want.Value e p)) (stmts_end body pc f.0) ∙ ap suc (expr_ends want.Value e _ f.1)
      stmt_ends (For v w start stop step body at) pc f =
          let front : ℕ → ℕ = λ p. suc (scheme_of.end_for_step c v (scheme_of.end_stmts c body (scheme_of.end_for_test c v (suc p)))) in
          ap (λ p. front (scheme.end_expr c want.Value start (behind (for_place c v) (suc p)))) (expr_ends want.Value stop (suc pc) f.1.1.0)
          ∙ ap (λ p. front (scheme.end_expr c want.Value start p)) (counter_place v _ f.0.1)
          ∙ ap front (expr_ends want.Value start _ f.1.0)
          ∙ ap (λ p. suc (scheme_of.end_for_step c v (scheme_of.end_stmts c body (suc (suc (suc (suc p))))))) (counter_value v _ f.0.1)
          ∙ ap (λ p. suc (scheme_of.end_for_step c v p)) (stmts_end body _ f.1.1.1.1)
          ∙ ap (λ p. suc (suc (suc p))) (counter_place v _ f.0.1)
      stmt_ends (Loop body at) pc f = ap suc (stmts_end body pc f)
      stmt_ends Exit pc f = refl
      stmt_ends (Return e) pc f = result_ends e pc f
      stmt_ends (With branches otherwise at) pc f = ap (scheme_of.end_else c otherwise) (branches_end branches pc f.0) ∙ else_ends otherwise _ f.1

      pub stmts_end : (s : Stmts) (pc : ℕ) → StmtsFit program c s → scheme_of.end_stmts c s pc ≡ end_stmts program s pc
      stmts_end Nothing pc f = refl
      stmts_end (Then s rest) pc f = ap (scheme_of.end_stmts c rest) (stmt_ends s pc f.0) ∙ stmts_end rest _ f.1

      pub branches_end : (bs : Branches) (pc : ℕ) → BranchesFit program c bs → scheme_of.end_branches c bs pc ≡ end_branches program bs pc
      branches_end NoBranch pc f = refl
      branches_end (Branch test body rest) pc f =
          ap (λ p. scheme_of.end_branches c rest (suc (scheme_of.end_stmts c body (suc p)))) (expr_ends want.Value test pc f.0) ∙ ap (λ p. scheme_of.end_branches c rest (suc p)) (stmts_end body _ f.1.0) ∙ branches_end rest _ f.1.1

      pub cases_end : (cs : Cases) (pc : ℕ) → CasesFit program c cs → scheme_of.end_cases c cs pc ≡ end_cases program cs pc
      cases_end NoCase pc f = refl
      cases_end (OneCase labels body rest) pc f =
          ap (λ p. scheme_of.end_cases c rest (suc (scheme_of.end_stmts c body p))) (labels_end labels pc) ∙ ap (λ p. scheme_of.end_cases c rest (suc p)) (stmts_end body _ f.0) ∙ cases_end rest _ f.1

      pub else_ends : (o : Otherwise) (pc : ℕ) → ElseFits program c o → scheme_of.end_else c o pc ≡ end_else program o pc
      else_ends NoElse pc f = refl
      else_ends (Else body) pc f = stmts_end body pc f
