-- The code of statements, and of a module, names what its tree names.
use Rattle.std.proofs.Common.{◌≡◌, ℕ, suc, Bool, true, false, List, [], ◌∷◌, Option, Some, None, refl}
use Rattle.std.specs.List.{AllByRecursion}
use Rattle.ob_trap.specs.declared.trap.Trap.{Trap}
use Rattle.ob_trap.specs.declared.trap.Trap.TheVariants as trap
use Rattle.ob_tree.specs.declared.pos.Pos.{Pos}
use Rattle.ob_tree.specs.declared.names.QName.{QName}
use Rattle.ob_types.specs.declared.types.TypeRef.{TypeRef}
use Rattle.ob_types.specs.declared.types.TypeRef.TheVariants as ref
use Rattle.ob_types.specs.declared.types.Basic.TheVariants as basic
use Rattle.ob_types.specs.declared.typed.Label.{Label}
use Rattle.ob_types.specs.declared.typed.Update.{Update}
use Rattle.ob_types.specs.declared.typed.Update.TheVariants as update
use Rattle.ob_types.specs.declared.typed.Variable.{Variable}
use Rattle.ob_types.specs.declared.typed.Assigned.{Assigned}
use Rattle.ob_types.specs.declared.typed.Assigned.TheVariants as assigned
use Rattle.ob_types.specs.declared.typed.Made.{Made}
use Rattle.ob_types.specs.declared.typed.Made.TheVariants as made
use Rattle.ob_types.specs.TypedSyntax.{Desig, Expr, Stmt, Assign, CallProper, Updated, Copy, New, NewOpenArray, Assert, Halt, If, Case, While, Repeat, For, Loop, Exit, Return, With, Stmts, Nothing, Then, Branches, NoBranch, Branch, Cases, NoCase, OneCase, Otherwise, NoElse, Else, Procedure}
use Rattle.ob_scheme.specs.declared.want.Want.TheVariants as want
use Rattle.ob_scheme.specs.Lines.{Operand, Number, StringHere, OtherVariable, OtherProcedure, OtherType, Line, behind}
use Rattle.ob_scheme.specs.Context.{Context, first_hidden}
use Rattle.ob_scheme.specs.Operations.{update_line}
use Rattle.ob_scheme.specs.Expressions.{end_desig, end_expr, desig_code, expr_code}
use Rattle.ob_scheme.specs.Statements.{has_tag, record_want, target_want, source_want, copy_record, assign_line, new_line, for_place, for_value, end_for_test, end_label, label_code, labels_code, end_labels, result_code, end_stmt, end_stmts, end_branches, end_cases, end_else, next_stmt, next_stmts, next_branches, next_cases, stmt_code, stmts_code, branches_code, cases_code, else_code}
use Rattle.ob_scheme.specs.Procedures.{body_of, closing, within, end_procedure, procedure_code, procedures_code}
use Rattle.ob_compile_model.specs.Compiling.{Compiled}
use Rattle.law_load_plan.specs.Compiled.{Text, is_variable, is_procedure, is_record}
use Rattle.law_links.specs.Linked.{types_of, IsCounted, IsOperandCounted, IsLineCounted}
use Rattle.law_links_names.specs.Trees.{IfOther, VariableNamed, TagNamed, AssignedNamed, MadeNamed, ResultNamed, StmtNamed, StmtsNamed, BranchesNamed, CasesNamed, ElseNamed, DesigNamed, ExprNamed}
use Rattle.law_links.specs.Trees.{LinksFollowTrees}
use Rattle.law_links.proofs.Codes.{OperandOk, LineOk, AreOk, WantOk, type_ok, variable_ok, value_none, desig_ok, expr_ok}
use Rattle.law_links.proofs.Links.{links_are_used}
use Rattle.law_lists.proofs.Lists.{all_both}

module _ (x : Context) (Var Proc Rec : QName → Type 0) where
  abbrev L : Line → Type 0
  L l = LineOk x Var Proc Rec l

  abbrev Lines : List Line → Type 0
  Lines ls = AreOk x Var Proc Rec ls

  abbrev D : Desig → Type 0
  D d = DesigNamed x.types x.unit.name Var Proc Rec d

  abbrev E : Expr → Type 0
  E e = ExprNamed x.types x.unit.name Var Proc Rec e

  value_ok : (e : Expr) (pc : ℕ) → E e → Lines (expr_code x want.Value e pc)
  value_ok e pc h = expr_ok x Var Proc Rec want.Value e pc h (value_none x Var Proc Rec want.Value e (λ P. tt))

  spot_ok : (d : Desig) (pc : ℕ) → D d → Lines (desig_code x want.Place d pc)
  spot_ok d pc h = desig_ok x Var Proc Rec want.Place d pc h tt

  -- the target of an assignment: one that is wanted with its tag carries it
  tagged_want : (b : Bool) (P : Type 0) → WantOk x Var Proc Rec (record_want b) (b ≡ false → P)
  tagged_want true P = λ e. absurd cc
  tagged_want false P = tt

  target_ok : (how : Assigned) (d : Desig) → WantOk x Var Proc Rec (target_want how d) (TagNamed x.types x.unit.name Var Proc Rec d)
  target_ok assigned.Scalar d = tt
  target_ok assigned.Text d = tt
  target_ok assigned.Array d = tt
  target_ok (assigned.Record q) d = tagged_want (has_tag d) _

  source_ok : (how : Assigned) (e : Expr) (pc : ℕ) → E e → Lines (expr_code x (source_want how) e pc)
  source_ok assigned.Scalar e pc h = value_ok e pc h
  source_ok assigned.Text e pc h = expr_ok x Var Proc Rec want.Place e pc h (value_none x Var Proc Rec want.Place e (λ P. tt))
  source_ok assigned.Array e pc h = expr_ok x Var Proc Rec want.Place e pc h (value_none x Var Proc Rec want.Place e (λ P. tt))
  source_ok (assigned.Record q) e pc h = expr_ok x Var Proc Rec want.Place e pc h (value_none x Var Proc Rec want.Place e (λ P. tt))

  copy_ok : (b : Bool) (q : QName) (at : Pos) → (b ≡ true → IfOther x.types x.unit.name Var Proc Rec Rec q) → L (copy_record x b q at)
  copy_ok true q at h = (tt, type_ok x Var Proc Rec q (h refl))
  copy_ok false q at h = (tt, tt)

  assign_ok : (how : Assigned) (d : Desig) (e : Expr) (at : Pos) → AssignedNamed x.types x.unit.name Var Proc Rec how d → L (assign_line x how d e at)
  assign_ok assigned.Scalar d e at h = (tt, tt)
  assign_ok assigned.Text d e at h = (tt, tt)
  assign_ok assigned.Array d e at h = (tt, tt)
  assign_ok (assigned.Record q) d e at h = copy_ok (has_tag d) q at h

  new_ok : (what : Made) (at : Pos) → MadeNamed x.types x.unit.name Var Proc Rec what → L (new_line x what at)
  new_ok (made.Record q) at h = (type_ok x Var Proc Rec q h, tt)
  new_ok (made.Array t) at h = (tt, tt)

  update_ok : (o : Update) (at : Pos) → L (update_line o at)
  update_ok (update.Inc w) at = (tt, tt)
  update_ok (update.Dec w) at = (tt, tt)
  update_ok update.Incl at = (tt, tt)
  update_ok update.Excl at = (tt, tt)

  for_place_ok : (v : Variable) → VariableNamed x.types x.unit.name Var Proc Rec v → Lines (for_place x v)
  for_place_ok v h = variable_ok x Var Proc Rec want.Place v (ref.Basic basic.LongInt) h tt

  for_value_ok : (v : Variable) → VariableNamed x.types x.unit.name Var Proc Rec v → Lines (for_value x v)
  for_value_ok v h = variable_ok x Var Proc Rec want.Value v (ref.Basic basic.LongInt) h tt

  label_ok : (t : ℕ) (l : Label) (pc body : ℕ) → Lines (label_code x t l pc body)
  label_ok t l pc body = ((tt, tt), ((tt, tt), ((tt, tt), ((tt, tt), ((tt, tt), ((tt, tt), ((tt, tt), ((tt, tt), ((tt, tt), ((tt, tt), ((tt, tt), tt)))))))))))

  labels_ok : (t : ℕ) (ls : List Label) (pc body : ℕ) → Lines (labels_code x t ls pc body)
  labels_ok t [] pc body = tt
  labels_ok t (l ∷ ls) pc body = all_both L (label_code x t l pc body) (labels_code x t ls (end_label x pc) body) (label_ok t l pc body) (labels_ok t ls (end_label x pc) body)

  result_ok : (o : Option Expr) (pc : ℕ) → ResultNamed x.types x.unit.name Var Proc Rec o → Lines (result_code x o pc)
  result_ok None pc h = ((tt, tt), tt)
  result_ok (Some e) pc h = all_both L (expr_code x want.Value e pc) _ (value_ok e pc h) ((tt, tt), tt)

  -- ---- statements

  mutual
    stmt_ok : (s : Stmt) (pc t y : ℕ) → StmtNamed x.types x.unit.name Var Proc Rec s → Lines (stmt_code x s pc t y)
    stmt_ok (Assign d how e at) pc t y h =
        all_both L (desig_code x (target_want how d) d pc) _ (desig_ok x Var Proc Rec (target_want how d) d pc h.0 (target_ok how d))
        (all_both L (expr_code x (source_want how) e (end_desig x (target_want how d) d pc)) _ (source_ok how e (end_desig x (target_want how d) d pc) h.1) (assign_ok how d e at h.2, tt))
    stmt_ok (CallProper e) pc t y h = value_ok e pc h
    stmt_ok (Updated o d e at) pc t y h =
        all_both L (desig_code x want.Place d pc) _ (spot_ok d pc h.0)
        (all_both L (expr_code x want.Value e (end_desig x want.Place d pc)) _ (value_ok e (end_desig x want.Place d pc) h.1) (update_ok o at, tt))
    stmt_ok (Copy e d at) pc t y h =
        all_both L (expr_code x want.PlaceAndLength e pc) _ (expr_ok x Var Proc Rec want.PlaceAndLength e pc h.0 (value_none x Var Proc Rec want.PlaceAndLength e (λ P. tt)))
        (all_both L (desig_code x want.PlaceAndLength d (end_expr x want.PlaceAndLength e pc)) _ (desig_ok x Var Proc Rec want.PlaceAndLength d (end_expr x want.PlaceAndLength e pc) h.1 tt) ((tt, tt), tt))
    stmt_ok (New d what at) pc t y h = all_both L (desig_code x want.Place d pc) _ (spot_ok d pc h.0) (new_ok what at h.1, tt)
    stmt_ok (NewOpenArray d element n at) pc t y h =
        all_both L (desig_code x want.Place d pc) _ (spot_ok d pc h.0)
        (all_both L (expr_code x want.Value n (end_desig x want.Place d pc)) _ (value_ok n (end_desig x want.Place d pc) h.1) ((tt, tt), tt))
    stmt_ok (Assert e number at) pc t y h = all_both L (expr_code x want.Value e pc) _ (value_ok e pc h) ((tt, tt), tt)
    stmt_ok (Halt number at) pc t y h = ((tt, tt), tt)
    stmt_ok (If branches otherwise) pc t y h =
        let p1 = end_branches x branches pc in
        all_both L (branches_code x branches pc t y (end_stmts x otherwise p1)) _ (branches_ok branches pc t y (end_stmts x otherwise p1) h.0) (stmts_ok otherwise p1 (next_branches x branches t) y h.1)
    stmt_ok (Case e cases otherwise at) pc t y h =
        let p1 = suc (end_expr x want.Value e (suc pc)) in
        let p2 = end_cases x cases p1 in (
          (tt, tt),
          all_both L (expr_code x want.Value e (suc pc)) _ (value_ok e (suc pc) h.0)
              ((tt, tt), all_both L (cases_code x t cases p1 (suc t) y (end_else x otherwise p2)) _ (cases_ok t cases p1 (suc t) y (end_else x otherwise p2) h.1) (else_ok trap.NoCase at otherwise p2 (next_cases x cases (suc t)) y h.2)),
        )
    stmt_ok (While e body at) pc t y h =
        let p1 = end_expr x want.Value e pc in
        all_both L (expr_code x want.Value e pc) _ (value_ok e pc h.0) ((tt, tt), all_both L (stmts_code x body (suc p1) t y) _ (stmts_ok body (suc p1) t y h.1) ((tt, tt), tt))
    stmt_ok (Repeat body e at) pc t y h =
        all_both L (stmts_code x body pc t y) _ (stmts_ok body pc t y h.0) (all_both L (expr_code x want.Value e (end_stmts x body pc)) _ (value_ok e (end_stmts x body pc) h.1) ((tt, tt), tt))
    stmt_ok (For v w start stop step body at) pc t y h =
        let p1 = suc (end_expr x want.Value stop (suc pc)) in
        let p2 = suc (end_expr x want.Value start (behind (for_place x v) p1)) in
        let p3 = end_for_test x v p2 in (
          (tt, tt),
          all_both L (expr_code x want.Value stop (suc pc)) _ (value_ok stop (suc pc) h.2) (
            (tt, tt),
            all_both L (for_place x v) _ (for_place_ok v h.0)
                (all_both L (expr_code x want.Value start (behind (for_place x v) p1)) _ (value_ok start (behind (for_place x v) p1) h.1) (
                  (tt, tt),
                  all_both L (for_value x v) _ (for_value_ok v h.0) (
                    (tt, tt),
                    (
                      (tt, tt),
                      (
                        (tt, tt),
                        (
                          (tt, tt),
                          all_both L (stmts_code x body p3 (suc t) y) _ (stmts_ok body p3 (suc t) y h.3)
                              (all_both L (for_place x v) _ (for_place_ok v h.0) ((tt, tt), ((tt, tt), ((tt, tt), tt)))),
                        ),
                      ),
                    ),
                  ),
                )),
          ),
        )
    stmt_ok (Loop body at) pc t y h = all_both L (stmts_code x body pc t (suc (end_stmts x body pc))) _ (stmts_ok body pc t (suc (end_stmts x body pc)) h) ((tt, tt), tt)
    stmt_ok Exit pc t y h = ((tt, tt), tt)
    stmt_ok (Return e) pc t y h = result_ok e pc h
    stmt_ok (With branches otherwise at) pc t y h =
        let p1 = end_branches x branches pc in
        all_both L (branches_code x branches pc t y (end_else x otherwise p1)) _ (branches_ok branches pc t y (end_else x otherwise p1) h.0) (else_ok trap.NoMatch at otherwise p1 (next_branches x branches t) y h.1)

    pub stmts_ok : (ss : Stmts) (pc t y : ℕ) → StmtsNamed x.types x.unit.name Var Proc Rec ss → Lines (stmts_code x ss pc t y)
    stmts_ok Nothing pc t y h = tt
    stmts_ok (Then s rest) pc t y h = all_both L (stmt_code x s pc t y) _ (stmt_ok s pc t y h.0) (stmts_ok rest (end_stmt x s pc) (next_stmt x s t) y h.1)

    branches_ok : (bs : Branches) (pc t y end : ℕ) → BranchesNamed x.types x.unit.name Var Proc Rec bs → Lines (branches_code x bs pc t y end)
    branches_ok NoBranch pc t y end h = tt
    branches_ok (Branch test body rest) pc t y end h =
        let p1 = end_expr x want.Value test pc in
        let p2 = end_stmts x body (suc p1) in
        all_both L (expr_code x want.Value test pc) _ (value_ok test pc h.0)
        ((tt, tt), all_both L (stmts_code x body (suc p1) t y) _ (stmts_ok body (suc p1) t y h.1) ((tt, tt), branches_ok rest (suc p2) (next_stmts x body t) y end h.2))

    cases_ok : (k : ℕ) (cs : Cases) (pc t y end : ℕ) → CasesNamed x.types x.unit.name Var Proc Rec cs → Lines (cases_code x k cs pc t y end)
    cases_ok k NoCase pc t y end h = tt
    cases_ok k (OneCase labels body rest) pc t y end h =
        let p1 = end_labels x labels pc in
        let p2 = end_stmts x body (suc p1) in
        all_both L (labels_code x k labels pc (suc p1)) _ (labels_ok k labels pc (suc p1))
        ((tt, tt), all_both L (stmts_code x body (suc p1) t y) _ (stmts_ok body (suc p1) t y h.0) ((tt, tt), cases_ok k rest (suc p2) (next_stmts x body t) y end h.1))

    else_ok : (kind : Trap) (at : Pos) (o : Otherwise) (pc t y : ℕ) → ElseNamed x.types x.unit.name Var Proc Rec o → Lines (else_code x kind at o pc t y)
    else_ok kind at NoElse pc t y h = ((tt, tt), tt)
    else_ok kind at (Else body) pc t y h = stmts_ok body pc t y h

-- ---- a module

module _ (c : Compiled Text) where
  abbrev Named : Stmts → Type 0
  Named ss = StmtsNamed (types_of c) c.tree.name (IsCounted is_variable c) (IsCounted is_procedure c) (IsCounted is_record c) ss

  line_counted : (x : Context) (l : Line) → LineOk x (IsCounted is_variable c) (IsCounted is_procedure c) (IsCounted is_record c) l → IsLineCounted c l
  line_counted x l h = (operand l.a h.0, operand l.b h.1)
    where
      operand : (o : Operand) → OperandOk x (IsCounted is_variable c) (IsCounted is_procedure c) (IsCounted is_record c) o → IsOperandCounted c o
      operand (Number z) h = tt
      operand (StringHere text n) h = tt
      operand (OtherVariable m y) h = h
      operand (OtherProcedure m y) h = h
      operand (OtherType own q) h = h

  lines_counted : (x : Context) (ls : List Line) → AreOk x (IsCounted is_variable c) (IsCounted is_procedure c) (IsCounted is_record c) ls → AllByRecursion (IsLineCounted c) ls
  lines_counted x [] h = tt
  lines_counted x (l ∷ ls) h = (line_counted x l h.0, lines_counted x ls h.1)

  closing_ok : (o : Option TypeRef) (at : Pos) → IsLineCounted c (closing o at)
  closing_ok None at = (tt, tt)
  closing_ok (Some t) at = (tt, tt)

  procedure_counted : (p : Procedure) (pc : ℕ) → Named p.body → AllByRecursion (IsLineCounted c) (procedure_code (types_of c) c.tree p pc)
  procedure_counted p pc h =
      let x = within (types_of c) c.tree p in
      let first = first_hidden x in
      all_both (IsLineCounted c) (stmts_code x p.body pc first 0) _ (lines_counted x (stmts_code x p.body pc first 0) (stmts_ok x (IsCounted is_variable c) (IsCounted is_procedure c) (IsCounted is_record c) p.body pc first 0 h)) (closing_ok p.result p.at, tt)

  procedures_counted : (ps : List Procedure) (pc : ℕ) → AllByRecursion (λ p. Named p.body) ps → AllByRecursion (IsLineCounted c) (procedures_code (types_of c) c.tree ps pc)
  procedures_counted [] pc h = tt
  procedures_counted (p ∷ ps) pc h = all_both (IsLineCounted c) (procedure_code (types_of c) c.tree p pc) _ (procedure_counted p pc h.0) (procedures_counted ps (end_procedure (types_of c) c.tree p pc) h.1)

pub trees_are_used : LinksFollowTrees
trees_are_used c made h = links_are_used c made (record { code = procedures_counted c (body_of c.tree ∷ c.tree.procedures) 0 (h.body, h.procedures); bases = h.bases })
