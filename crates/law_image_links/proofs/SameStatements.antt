-- The code of statements is the same by two maps that say the same of what they name.
use Rattle.std.proofs.Common.{◌≡◌, ℕ, suc, List, [], ◌∷◌, ◌++◌, refl, ap, ◌∙◌, Option, Some, None}
use Rattle.std.specs.Prelude.{Bool, true, false}
use Rattle.std.specs.List.{AllByRecursion}
use Rattle.ob_trap.specs.declared.trap.Trap.{Trap}
use Rattle.ob_trap.specs.declared.trap.Trap.TheVariants as trap
use Rattle.ob_tree.specs.declared.pos.Pos.{Pos}
use Rattle.ob_tree.specs.declared.names.QName.{QName}
use Rattle.ob_types.specs.declared.types.TypeRef.TheVariants as ref
use Rattle.ob_types.specs.declared.types.Basic.TheVariants as basic
use Rattle.ob_types.specs.declared.desc.Desc.{Desc}
use Rattle.ob_types.specs.declared.typed.Variable.{Variable}
use Rattle.ob_types.specs.declared.typed.Assigned.{Assigned}
use Rattle.ob_types.specs.declared.typed.Assigned.TheVariants as assigned
use Rattle.ob_types.specs.declared.typed.Made.{Made}
use Rattle.ob_types.specs.declared.typed.Made.TheVariants as made
use Rattle.ob_types.specs.declared.typed.Label.{Label}
use Rattle.ob_types.specs.declared.typed.TypedVariable.{TypedVariable}
use Rattle.ob_types.specs.declared.typed.TypedParameter.{TypedParameter}
use Rattle.ob_types.specs.Tests.{target}
use Rattle.ob_types.specs.TypedSyntax.{Desig, Expr, Stmt, Assign, CallProper, Updated, Copy, New, NewOpenArray, Assert, Halt, If, Case, While, Repeat, For, Loop, Exit, Return, With, Stmts, Nothing, Then, Branches, NoBranch, Branch, Cases, NoCase, OneCase, Otherwise, NoElse, Else, Module}
use Rattle.ob_instr.specs.declared.opcode.Opcode.TheVariants as op
use Rattle.ob_scheme.specs.declared.want.Want.{Want}
use Rattle.ob_scheme.specs.declared.want.Want.TheVariants as want
use Rattle.ob_scheme.specs.Lines.{Number, Line, plain, placed, placed_two, count, bare, jump, jump_if_false, jump_back, jump_back_if_false, behind}
use Rattle.ob_scheme.specs.Context.{Context, type_operand}
use Rattle.ob_scheme.specs.Operations.{bytes_of, update_line}
use Rattle.ob_scheme.specs.Expressions.{end_desig, end_expr, desig_code, expr_code}
use Rattle.ob_scheme.specs.Statements.{target_want, source_want, has_tag, copy_record, assign_line, new_line, for_place, for_value, end_for_test, end_for_step, end_label, end_labels, label_code, labels_code, end_result, result_code, within, end_stmt, end_stmts, end_branches, end_cases, end_else, next_stmt, next_stmts, next_branches, next_cases, next_else, stmt_code, stmts_code, branches_code, cases_code, else_code}
use Rattle.law_image_links.specs.Same.{IsSame, IsSameSize, DesigSame, ExprSame, ResultSame, AssignedSame, MadeSame, StmtSame, StmtsSame, BranchesSame, CasesSame, ElseSame}
use Rattle.law_image_links.proofs.SameCode as code

-- what does not look at descriptions
pub labels_end : (c d : Context) (ls : List Label) (pc : ℕ) → end_labels c ls pc ≡ end_labels d ls pc
labels_end c d [] pc = refl
labels_end c d (l ∷ ls) pc = labels_end c d ls (end_label c pc)

labels_same : (c d : Context) (t : ℕ) (ls : List Label) (pc body : ℕ) → labels_code c t ls pc body ≡ labels_code d t ls pc body
labels_same c d t [] pc body = refl
labels_same c d t (l ∷ ls) pc body = ap (λ k. label_code c t l pc body ++ k) (labels_same c d t ls (end_label c pc) body)

mutual
  stmt_next : (c d : Context) (s : Stmt) (t : ℕ) → next_stmt c s t ≡ next_stmt d s t
  stmt_next c d (If branches otherwise) t = stmts_next c d otherwise (next_branches c branches t) ∙ ap (next_stmts d otherwise) (branches_next c d branches t)
  stmt_next c d (Case e cases otherwise at) t = else_next c d otherwise (next_cases c cases (suc t)) ∙ ap (next_else d otherwise) (cases_next c d cases (suc t))
  stmt_next c d (While e body at) t = stmts_next c d body t
  stmt_next c d (Repeat body e at) t = stmts_next c d body t
  stmt_next c d (For v w start stop step body at) t = stmts_next c d body (suc t)
  stmt_next c d (Loop body at) t = stmts_next c d body t
  stmt_next c d (With branches otherwise at) t = else_next c d otherwise (next_branches c branches t) ∙ ap (next_else d otherwise) (branches_next c d branches t)
  stmt_next c d s t = refl

  pub stmts_next : (c d : Context) (s : Stmts) (t : ℕ) → next_stmts c s t ≡ next_stmts d s t
  stmts_next c d Nothing t = refl
  stmts_next c d (Then s rest) t = stmts_next c d rest (next_stmt c s t) ∙ ap (next_stmts d rest) (stmt_next c d s t)

  branches_next : (c d : Context) (s : Branches) (t : ℕ) → next_branches c s t ≡ next_branches d s t
  branches_next c d NoBranch t = refl
  branches_next c d (Branch test body rest) t = branches_next c d rest (next_stmts c body t) ∙ ap (next_branches d rest) (stmts_next c d body t)

  cases_next : (c d : Context) (s : Cases) (t : ℕ) → next_cases c s t ≡ next_cases d s t
  cases_next c d NoCase t = refl
  cases_next c d (OneCase labels body rest) t = cases_next c d rest (next_stmts c body t) ∙ ap (next_cases d rest) (stmts_next c d body t)

  else_next : (c d : Context) (s : Otherwise) (t : ℕ) → next_else c s t ≡ next_else d s t
  else_next c d NoElse t = refl
  else_next c d (Else body) t = stmts_next c d body t

module _ (a b : QName → Option Desc) (m : Module) (ps : List TypedParameter) (ls : List TypedVariable) (vs_same : AllByRecursion (λ v. IsSameSize a b v.of) m.variables) (ls_same : AllByRecursion (λ v. IsSameSize a b v.of) ls) where
  abbrev first : Context
  first = record { types = a; unit = m; parameters = ps; locals = ls }

  abbrev second : Context
  second = record { types = b; unit = m; parameters = ps; locals = ls }

  abbrev D : (w : Want) (d : Desig) (pc : ℕ) → DesigSame a b d → desig_code first w d pc ≡ desig_code second w d pc
  D w d pc s = code.desig_same a b m ps ls vs_same ls_same w d pc s

  abbrev E : (w : Want) (e : Expr) (pc : ℕ) → ExprSame a b e → expr_code first w e pc ≡ expr_code second w e pc
  E w e pc s = code.expr_same a b m ps ls vs_same ls_same w e pc s

  abbrev DE : (w : Want) (d : Desig) (pc : ℕ) → DesigSame a b d → end_desig first w d pc ≡ end_desig second w d pc
  DE w d pc s = code.desig_end a b m ps ls vs_same ls_same w d pc s

  abbrev EE : (w : Want) (e : Expr) (pc : ℕ) → ExprSame a b e → end_expr first w e pc ≡ end_expr second w e pc
  EE w e pc s = code.expr_end a b m ps ls vs_same ls_same w e pc s

  longint_same : IsSame a b (ref.Basic basic.LongInt)
  unfolding target
  longint_same = record { name = refl; elements = refl }

  place_same : (v : Variable) → for_place first v ≡ for_place second v
  place_same v = code.variable_same a b m ps ls vs_same ls_same want.Place v (ref.Basic basic.LongInt) longint_same

  value_same : (v : Variable) → for_value first v ≡ for_value second v
  value_same v = code.variable_same a b m ps ls vs_same ls_same want.Value v (ref.Basic basic.LongInt) longint_same

  test_end : (v : Variable) (p q : ℕ) → p ≡ q → end_for_test first v p ≡ end_for_test second v q
  test_end v p q e = ap (λ l. suc (suc (suc (suc (behind l p))))) (value_same v) ∙ ap (end_for_test second v) e

  step_end : (v : Variable) (p q : ℕ) → p ≡ q → end_for_step first v p ≡ end_for_step second v q
  step_end v p q e = ap (λ l. suc (suc (behind l p))) (place_same v) ∙ ap (end_for_step second v) e

  place_end : (v : Variable) (p q : ℕ) → p ≡ q → behind (for_place first v) p ≡ behind (for_place second v) q
  place_end v p q e = ap (λ l. behind l p) (place_same v) ∙ ap (behind (for_place second v)) e

  on_expr : (w : Want) (e : Expr) (p q : ℕ) → p ≡ q → ExprSame a b e → end_expr first w e p ≡ end_expr second w e q
  on_expr w e p q i s = EE w e p s ∙ ap (end_expr second w e) i

  on_desig : (w : Want) (d : Desig) (p q : ℕ) → p ≡ q → DesigSame a b d → end_desig first w d p ≡ end_desig second w d q
  on_desig w d p q i s = DE w d p s ∙ ap (end_desig second w d) i

  result_end : (e : Option Expr) (pc : ℕ) → ResultSame a b e → end_result first e pc ≡ end_result second e pc
  result_end None pc s = refl
  result_end (Some e) pc s = ap suc (EE want.Value e pc s)

  -- ENDS

  mutual
    pub stmt_end : (s : Stmt) (p q : ℕ) → p ≡ q → StmtSame a b s → end_stmt first s p ≡ end_stmt second s q
    stmt_end (Assign d how e at) p q i s = ap suc (on_expr (source_want how) e _ _ (on_desig (target_want how d) d p q i s.0) s.1.0)
    stmt_end (CallProper e) p q i s = on_expr want.Value e p q i s
    stmt_end (Updated o d e at) p q i s = ap suc (on_expr want.Value e _ _ (on_desig want.Place d p q i s.0) s.1)
    stmt_end (Copy e d at) p q i s = ap suc (on_desig want.PlaceAndLength d _ _ (on_expr want.PlaceAndLength e p q i s.0) s.1)
    stmt_end (New d what at) p q i s = ap suc (on_desig want.Place d p q i s.0)
    stmt_end (NewOpenArray d t n at) p q i s = ap suc (on_expr want.Value n _ _ (on_desig want.Place d p q i s.0) s.1.0)
    stmt_end (Assert e number at) p q i s = ap suc (on_expr want.Value e p q i s)
    stmt_end (Halt number at) p q i s = ap suc i
    stmt_end (If branches otherwise) p q i s = stmts_end otherwise _ _ (branches_end branches p q i s.0) s.1
    stmt_end (Case e cases otherwise at) p q i s = else_end otherwise _ _ (cases_end cases _ _ (ap suc (on_expr want.Value e _ _ (ap suc i) s.0)) s.1.0) s.1.1
    stmt_end (While e body at) p q i s = ap suc (stmts_end body _ _ (ap suc (on_expr want.Value e p q i s.0)) s.1)
    stmt_end (Repeat body e at) p q i s = ap suc (on_expr want.Value e _ _ (stmts_end body p q i s.0) s.1)
    stmt_end (For v w start stop step body at) p q i s = ap suc (step_end v _ _ (stmts_end body _ _ (test_end v _ _ (ap suc (on_expr want.Value start _ _ (place_end v _ _ (ap suc (on_expr want.Value stop _ _ (ap suc i) s.1.0))) s.0))) s.1.1))
    stmt_end (Loop body at) p q i s = ap suc (stmts_end body p q i s)
    stmt_end Exit p q i s = ap suc i
    stmt_end (Return e) p q i s = result_end e p s ∙ ap (end_result second e) i
    stmt_end (With branches otherwise at) p q i s = else_end otherwise _ _ (branches_end branches p q i s.0) s.1

    pub stmts_end : (s : Stmts) (p q : ℕ) → p ≡ q → StmtsSame a b s → end_stmts first s p ≡ end_stmts second s q
    stmts_end Nothing p q i s = i
    stmts_end (Then x rest) p q i s = stmts_end rest _ _ (stmt_end x p q i s.0) s.1

    branches_end : (s : Branches) (p q : ℕ) → p ≡ q → BranchesSame a b s → end_branches first s p ≡ end_branches second s q
    branches_end NoBranch p q i s = i
    branches_end (Branch test body rest) p q i s = branches_end rest _ _ (ap suc (stmts_end body _ _ (ap suc (on_expr want.Value test p q i s.0)) s.1.0)) s.1.1

    cases_end : (s : Cases) (p q : ℕ) → p ≡ q → CasesSame a b s → end_cases first s p ≡ end_cases second s q
    cases_end NoCase p q i s = i
    cases_end (OneCase labels body rest) p q i s = cases_end rest _ _ (ap suc (stmts_end body _ _ (ap suc (labels_end first second labels p ∙ ap (end_labels second labels) i)) s.0)) s.1

    else_end : (s : Otherwise) (p q : ℕ) → p ≡ q → ElseSame a b s → end_else first s p ≡ end_else second s q
    else_end NoElse p q i s = ap suc i
    else_end (Else body) p q i s = stmts_end body p q i s

  -- CODE

  place_after : (w : Want) (e : Expr) (p q : ℕ) → p ≡ q → ExprSame a b e → expr_code first w e p ≡ expr_code second w e q
  place_after w e p q i s = E w e p s ∙ ap (expr_code second w e) i

  desig_after : (w : Want) (d : Desig) (p q : ℕ) → p ≡ q → DesigSame a b d → desig_code first w d p ≡ desig_code second w d q
  desig_after w d p q i s = D w d p s ∙ ap (desig_code second w d) i

  both : (x y u v : List Line) → x ≡ u → y ≡ v → x ++ y ≡ u ++ v
  both x y u v e f = ap (λ l. l ++ y) e ∙ ap (λ l. u ++ l) f

  lines_two : (x y : Line) (u v : List Line) → x ≡ y → u ≡ v → x ∷ u ≡ y ∷ v
  lines_two x y u v e f = ap (λ l. l ∷ u) e ∙ ap (λ l. y ∷ l) f

  copy_same : (t : Bool) (q : QName) (p : Pos) → IsSameSize a b (ref.Named q) → copy_record first t q p ≡ copy_record second t q p
  copy_same true q p s = ap (λ n. placed_two op.CopyRec (count n) (type_operand second q) p) s
  copy_same false q p s = ap (λ n. plain op.Copy (count n)) s

  assign_same : (how : Assigned) (d : Desig) (e : Expr) (p : Pos) → AssignedSame a b how d → assign_line first how d e p ≡ assign_line second how d e p
  assign_same assigned.Scalar d e p s = refl
  assign_same assigned.Text d e p s = refl
  assign_same assigned.Array d e p s = ap (λ n. plain op.Copy (count n)) s
  assign_same (assigned.Record q) d e p s = copy_same (has_tag d) q p s

  new_same : (what : Made) (p : Pos) → MadeSame a b what → new_line first what p ≡ new_line second what p
  new_same (made.Record q) p s = refl
  new_same (made.Array t) p s = ap (λ n. placed op.NewA (count n) p) s

  result_same : (e : Option Expr) (pc : ℕ) → ResultSame a b e → result_code first e pc ≡ result_code second e pc
  result_same None pc s = refl
  result_same (Some e) pc s = ap (λ l. l ++ bare op.RetV ∷ []) (E want.Value e pc s)

  mutual
    pub stmt_same : (s : Stmt) (p q t u x y : ℕ) → p ≡ q → t ≡ u → x ≡ y → StmtSame a b s → stmt_code first s p t x ≡ stmt_code second s q u y
    stmt_same (Assign d how e at) p q t u x y i j k s = both _ _ _ _ (desig_after (target_want how d) d p q i s.0) (both _ _ _ _ (place_after (source_want how) e _ _ (on_desig (target_want how d) d p q i s.0) s.1.0) (ap (λ l. l ∷ []) (assign_same how d e at s.1.1)))
    stmt_same (CallProper e) p q t u x y i j k s = place_after want.Value e p q i s
    stmt_same (Updated o d e at) p q t u x y i j k s = both _ _ _ _ (desig_after want.Place d p q i s.0) (ap (λ l. l ++ update_line o at ∷ []) (place_after want.Value e _ _ (on_desig want.Place d p q i s.0) s.1))
    stmt_same (Copy e d at) p q t u x y i j k s = both _ _ _ _ (place_after want.PlaceAndLength e p q i s.0) (both _ _ _ _ (desig_after want.PlaceAndLength d _ _ (on_expr want.PlaceAndLength e p q i s.0) s.1) refl)
    stmt_same (New d what at) p q t u x y i j k s = both _ _ _ _ (desig_after want.Place d p q i s.0) (ap (λ l. l ∷ []) (new_same what at s.1))
    stmt_same (NewOpenArray d r n at) p q t u x y i j k s = both _ _ _ _ (desig_after want.Place d p q i s.0) (both _ _ _ _ (place_after want.Value n _ _ (on_desig want.Place d p q i s.0) s.1.0) (ap (λ z. placed op.NewO (count z) at ∷ []) s.1.1))
    stmt_same (Assert e number at) p q t u x y i j k s = ap (λ l. l ++ placed op.Assert (Number number) at ∷ []) (place_after want.Value e p q i s)
    stmt_same (Halt number at) p q t u x y i j k s = refl
    stmt_same (If branches otherwise) p q t u x y i j k s =
        let e1 = branches_end branches p q i s.0 in
        both _ _ _ _ (branches_same branches p q t u x y _ _ i j k (stmts_end otherwise _ _ e1 s.1) s.0) (stmts_same otherwise _ _ _ _ x y e1 (branches_next first second branches t ∙ ap (next_branches second branches) j) k s.1)
    stmt_same (Case e cases otherwise at) p q t u x y i j k s =
        let e1 = ap suc (on_expr want.Value e _ _ (ap suc i) s.0) in
        let e2 = cases_end cases _ _ e1 s.1.0 in
        lines_two _ _ _ _ (ap (λ z. plain op.Local (count z)) j) (both _ _ _ _ (place_after want.Value e _ _ (ap suc i) s.0) (ap (λ l. bare op.Store ∷ l) (both _ _ _ _ (cases_same t u cases _ _ _ _ x y _ _ j e1 (ap suc j) k (else_end otherwise _ _ e2 s.1.1) s.1.0) (else_same trap.NoCase at otherwise _ _ _ _ x y e2 (cases_next first second cases (suc t) ∙ ap (λ z. next_cases second cases (suc z)) j) k s.1.1))))
    stmt_same (While e body at) p q t u x y i j k s =
        let e1 = ap suc (on_expr want.Value e p q i s.0) in
        let e2 = stmts_end body _ _ e1 s.1 in
        both _ _ _ _ (place_after want.Value e p q i s.0) (lines_two _ _ _ _ (ap (λ z. jump_if_false (suc z)) e2) (both _ _ _ _ (stmts_same body _ _ t u x y e1 j k s.1) (ap (λ z. jump_back z at ∷ []) i)))
    stmt_same (Repeat body e at) p q t u x y i j k s = both _ _ _ _ (stmts_same body p q t u x y i j k s.0) (both _ _ _ _ (place_after want.Value e _ _ (stmts_end body p q i s.0) s.1) (ap (λ z. jump_back_if_false z at ∷ []) i))
    stmt_same (For v w start stop step body at) p q t u x y i j k s =
        let e1 = ap suc (on_expr want.Value stop _ _ (ap suc i) s.1.0) in
        let f1 = place_end v _ _ e1 in
        let e2 = ap suc (on_expr want.Value start _ _ f1 s.0) in
        let e3 = test_end v _ _ e2 in
        let e4 = stmts_end body _ _ e3 s.1.1 in
        lines_two _ _ _ _ (ap (λ z. plain op.Local (count z)) j)
        (both _ _ _ _ (place_after want.Value stop _ _ (ap suc i) s.1.0) (ap (λ l. bare op.Store ∷ l)
        (both _ _ _ _ (place_same v) (both _ _ _ _ (place_after want.Value start _ _ f1 s.0) (ap (λ l. bare op.Store ∷ l)
        (both _ _ _ _ (value_same v) (lines_two _ _ _ _ (ap (λ z. plain op.Local (count z)) j) (ap (λ l. bare op.Load ∷ bare (within second step) ∷ l) (lines_two _ _ _ _ (ap (λ z. jump_if_false (suc z)) (step_end v _ _ e4))
        (both _ _ _ _ (stmts_same body _ _ _ _ x y e3 (ap suc j) k s.1.1)
        (both _ _ _ _ (place_same v) (ap (λ z. plain op.Int (Number step) ∷ placed op.Inc (count (bytes_of w)) at ∷ jump_back z at ∷ []) e2))))))))))))
    stmt_same (Loop body at) p q t u x y i j k s = both _ _ _ _ (stmts_same body p q t u _ _ i j (ap suc (stmts_end body p q i s)) s) (ap (λ z. jump_back z at ∷ []) i)
    stmt_same Exit p q t u x y i j k s = ap (λ z. jump z ∷ []) k
    stmt_same (Return e) p q t u x y i j k s = result_same e p s ∙ ap (result_code second e) i
    stmt_same (With branches otherwise at) p q t u x y i j k s =
        let e1 = branches_end branches p q i s.0 in
        both _ _ _ _ (branches_same branches p q t u x y _ _ i j k (else_end otherwise _ _ e1 s.1) s.0) (else_same trap.NoMatch at otherwise _ _ _ _ x y e1 (branches_next first second branches t ∙ ap (next_branches second branches) j) k s.1)

    pub stmts_same : (s : Stmts) (p q t u x y : ℕ) → p ≡ q → t ≡ u → x ≡ y → StmtsSame a b s → stmts_code first s p t x ≡ stmts_code second s q u y
    stmts_same Nothing p q t u x y i j k s = refl
    stmts_same (Then r rest) p q t u x y i j k s = both _ _ _ _ (stmt_same r p q t u x y i j k s.0) (stmts_same rest _ _ _ _ x y (stmt_end r p q i s.0) (stmt_next first second r t ∙ ap (next_stmt second r) j) k s.1)

    branches_same : (r : Branches) (p q t u x y g h : ℕ) → p ≡ q → t ≡ u → x ≡ y → g ≡ h → BranchesSame a b r → branches_code first r p t x g ≡ branches_code second r q u y h
    branches_same NoBranch p q t u x y g h i j k n s = refl
    branches_same (Branch test body rest) p q t u x y g h i j k n s =
        let e1 = ap suc (on_expr want.Value test p q i s.0) in
        let e2 = ap suc (stmts_end body _ _ e1 s.1.0) in
        both _ _ _ _ (place_after want.Value test p q i s.0) (lines_two _ _ _ _ (ap jump_if_false e2) (both _ _ _ _ (stmts_same body _ _ t u x y e1 j k s.1.0) (lines_two _ _ _ _ (ap jump n) (branches_same rest _ _ _ _ x y g h e2 (stmts_next first second body t ∙ ap (next_stmts second body) j) k n s.1.1))))

    cases_same : (v w : ℕ) (r : Cases) (p q t u x y g h : ℕ) → v ≡ w → p ≡ q → t ≡ u → x ≡ y → g ≡ h → CasesSame a b r → cases_code first v r p t x g ≡ cases_code second w r q u y h
    cases_same v w NoCase p q t u x y g h o i j k n s = refl
    cases_same v w (OneCase labels body rest) p q t u x y g h o i j k n s =
        let e1 = ap suc (labels_end first second labels p ∙ ap (end_labels second labels) i) in
        let e2 = ap suc (stmts_end body _ _ e1 s.0) in
        both _ _ _ _ (labels_same first second v labels p _ ∙ ap (λ z. labels_code second z labels p (suc (end_labels first labels p))) o ∙ ap (λ z. labels_code second w labels z (suc (end_labels first labels p))) i ∙ ap (labels_code second w labels q) e1) (lines_two _ _ _ _ (ap jump e2) (both _ _ _ _ (stmts_same body _ _ t u x y e1 j k s.0) (lines_two _ _ _ _ (ap jump n) (cases_same v w rest _ _ _ _ x y g h o e2 (stmts_next first second body t ∙ ap (next_stmts second body) j) k n s.1))))

    else_same : (kind : Trap) (at : Pos) (r : Otherwise) (p q t u x y : ℕ) → p ≡ q → t ≡ u → x ≡ y → ElseSame a b r → else_code first kind at r p t x ≡ else_code second kind at r q u y
    else_same kind at NoElse p q t u x y i j k s = refl
    else_same kind at (Else body) p q t u x y i j k s = stmts_same body p q t u x y i j k s
