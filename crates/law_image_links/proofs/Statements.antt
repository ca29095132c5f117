-- The strings of the code of statements, procedures and a module are those that the meaning counts, in the same order.
use Rattle.std.proofs.Common.{◌≡◌, ℕ, suc, List, [], ◌∷◌, ◌++◌, refl, ap, Option, Some, None}
use Rattle.std.specs.Prelude.{ℤ, Bool, true, false}
use Rattle.ob_trap.specs.declared.trap.Trap.{Trap}
use Rattle.ob_trap.specs.declared.trap.Trap.TheVariants as trap
use Rattle.ob_tree.specs.declared.pos.Pos.{Pos}
use Rattle.ob_tree.specs.declared.names.QName.{QName}
use Rattle.ob_types.specs.declared.types.TypeRef.{TypeRef}
use Rattle.ob_types.specs.declared.types.TypeRef.TheVariants as ref
use Rattle.ob_types.specs.declared.types.Basic.TheVariants as basic
use Rattle.ob_types.specs.declared.desc.Desc.{Desc}
use Rattle.ob_types.specs.declared.typed.Assigned.{Assigned}
use Rattle.ob_types.specs.declared.typed.Assigned.TheVariants as assigned
use Rattle.ob_types.specs.declared.typed.Made.{Made}
use Rattle.ob_types.specs.declared.typed.Made.TheVariants as made
use Rattle.ob_types.specs.declared.typed.Update.{Update}
use Rattle.ob_types.specs.declared.typed.Update.TheVariants as update
use Rattle.ob_types.specs.declared.typed.Label.{Label}
use Rattle.ob_types.specs.TypedSyntax.{Desig, Expr, Stmt, Assign, CallProper, Updated, Copy, New, NewOpenArray, Assert, Halt, If, Case, While, Repeat, For, Loop, Exit, Return, With, Stmts, Nothing, Then, Branches, NoBranch, Branch, Cases, NoCase, OneCase, Otherwise, NoElse, Else, Procedure, Module}
use Rattle.ob_meaning.specs.Values.{Program, form_in, words as words_in}
use Rattle.ob_scheme.specs.declared.want.Want.{Want}
use Rattle.ob_scheme.specs.declared.want.Want.TheVariants as want
use Rattle.ob_scheme.specs.Lines.{behind, jump}
use Rattle.ob_scheme.specs.Context.{Context, words, first_hidden}
use Rattle.ob_scheme.specs.Operations.{update_line}
use Rattle.ob_scheme.specs.Expressions.{end_desig, end_expr, desig_code, expr_code}
use Rattle.ob_scheme.specs.Statements.{target_want, source_want, has_tag, copy_record, assign_line, new_line, for_place, for_value, end_for_test, end_label, end_labels, labels_code, result_code, end_stmt, end_stmts, end_branches, end_cases, end_else, next_stmt, next_stmts, next_branches, next_cases, stmt_code, stmts_code, branches_code, cases_code, else_code}
use Rattle.ob_scheme.specs.Procedures.{all_procedures, within, closing, end_procedure, procedure_code, procedures_code, module_code}
use Rattle.law_simulation_relation.specs.Texts.{designator_texts, expr_texts, optional_texts, stmt_texts, stmts_texts, branches_texts, cases_texts, else_texts, procedures_texts, module_texts}
use Rattle.law_image_code.specs.Described.{IsDescribed}
use Rattle.law_image_links.proofs.Lines.{lines_words, two, then_none, none_then, no_string}
use Rattle.law_image_links.proofs.Expressions.{NotRoom, type_none, variable_none, as_whole, desig_words, expr_words}

-- SMALL PIECES

labels_none : (t : ℕ) (c : Context) (ls : List Label) (pc body : ℕ) → lines_words (labels_code c t ls pc body) ≡ []
labels_none t c [] pc body = refl
labels_none t c (l ∷ ls) pc body = labels_none t c ls (end_label c pc) body

update_none : (o : Update) (p : Pos) → lines_words (update_line o p ∷ []) ≡ []
update_none (update.Inc w) p = refl
update_none (update.Dec w) p = refl
update_none update.Incl p = refl
update_none update.Excl p = refl

closing_none : (r : Option TypeRef) (p : Pos) → lines_words (closing r p ∷ []) ≡ []
closing_none None p = refl
closing_none (Some t) p = refl

source_whole : (how : Assigned) → NotRoom (source_want how)
source_whole assigned.Scalar = tt
source_whole assigned.Text = tt
source_whole assigned.Array = tt
source_whole (assigned.Record q) = tt

module _ (c : Context) where
  copy_none : (b : Bool) (q : QName) (p : Pos) → lines_words (copy_record c b q p ∷ []) ≡ []
  copy_none true q p = ap (λ x. x ++ []) (type_none c q)
  copy_none false q p = refl

  assign_none : (how : Assigned) (d : Desig) (e : Expr) (p : Pos) → lines_words (assign_line c how d e p ∷ []) ≡ []
  assign_none assigned.Scalar d e p = refl
  assign_none assigned.Text d e p = refl
  assign_none assigned.Array d e p = refl
  assign_none (assigned.Record q) d e p = copy_none (has_tag d) q p

  new_none : (what : Made) (p : Pos) → lines_words (new_line c what p ∷ []) ≡ []
  new_none (made.Record q) p = no_string (new_line c (made.Record q) p) [] (type_none c q) refl
  new_none (made.Array t) p = refl

  module _ (program : Program) (sizes : (t : TypeRef) → words c t ≡ words_in (form_in program t)) where
    abbrev dt : Desig → List ℤ
    dt d = designator_texts (form_in program) d

    abbrev et : Expr → List ℤ
    et e = expr_texts (form_in program) e

    desig : (w : Want) (d : Desig) (pc : ℕ) → lines_words (desig_code c w d pc) ≡ dt d
    desig w d pc = desig_words c program sizes w d pc

    expr : (w : Want) (e : Expr) (pc : ℕ) → NotRoom w → lines_words (expr_code c w e pc) ≡ et e
    expr w e pc n = as_whole c program sizes e w pc n (expr_words c program sizes w e pc)

    result_words : (e : Option Expr) (pc : ℕ) → lines_words (result_code c e pc) ≡ optional_texts (form_in program) e
    result_words None pc = refl
    result_words (Some e) pc = then_none (expr_code c want.Value e pc) _ (et e) (expr want.Value e pc tt) refl

    -- STATEMENTS

    abbrev st : Stmt → List ℤ
    st s = stmt_texts (form_in program) s

    abbrev sst : Stmts → List ℤ
    sst s = stmts_texts (form_in program) s

    abbrev bt : Branches → List ℤ
    bt b = branches_texts (form_in program) b

    abbrev ct : Cases → List ℤ
    ct b = cases_texts (form_in program) b

    abbrev lt : Otherwise → List ℤ
    lt b = else_texts (form_in program) b

    mutual
      pub stmt_words : (s : Stmt) (pc t x : ℕ) → lines_words (stmt_code c s pc t x) ≡ st s
      stmt_words (Assign d how e p) pc t x =
          let q = end_desig c (target_want how d) d pc in
          two (desig_code c (target_want how d) d pc) _ (dt d) (et e) (desig (target_want how d) d pc) (then_none (expr_code c (source_want how) e q) (assign_line c how d e p ∷ []) (et e) (expr (source_want how) e q (source_whole how)) (assign_none how d e p))
      stmt_words (CallProper e) pc t x = expr want.Value e pc tt
      stmt_words (Updated o d e p) pc t x =
          let q = end_desig c want.Place d pc in
          two (desig_code c want.Place d pc) _ (dt d) (et e) (desig want.Place d pc) (then_none (expr_code c want.Value e q) (update_line o p ∷ []) (et e) (expr want.Value e q tt) (update_none o p))
      stmt_words (Copy e d p) pc t x =
          let q = end_expr c want.PlaceAndLength e pc in
          two (expr_code c want.PlaceAndLength e pc) _ (et e) (dt d) (expr want.PlaceAndLength e pc tt) (then_none (desig_code c want.PlaceAndLength d q) _ (dt d) (desig want.PlaceAndLength d q) refl)
      stmt_words (New d what p) pc t x = then_none (desig_code c want.Place d pc) (new_line c what p ∷ []) (dt d) (desig want.Place d pc) (new_none what p)
      stmt_words (NewOpenArray d u n p) pc t x =
          let q = end_desig c want.Place d pc in
          two (desig_code c want.Place d pc) _ (dt d) (et n) (desig want.Place d pc) (then_none (expr_code c want.Value n q) _ (et n) (expr want.Value n q tt) refl)
      stmt_words (Assert e number p) pc t x = then_none (expr_code c want.Value e pc) _ (et e) (expr want.Value e pc tt) refl
      stmt_words (Halt number p) pc t x = refl
      stmt_words (If branches otherwise) pc t x =
          let p1 = end_branches c branches pc in
          two (branches_code c branches pc t x (end_stmts c otherwise p1)) (stmts_code c otherwise p1 (next_branches c branches t) x) (bt branches) (sst otherwise) (branches_words branches pc t x (end_stmts c otherwise p1)) (stmts_words otherwise p1 (next_branches c branches t) x)
      stmt_words (Case e cases otherwise p) pc t x =
          let p1 = suc (end_expr c want.Value e (suc pc)) in
          let p2 = end_cases c cases p1 in
          two (expr_code c want.Value e (suc pc)) _ (et e) (ct cases ++ lt otherwise) (expr want.Value e (suc pc) tt) (two (cases_code c t cases p1 (suc t) x (end_else c otherwise p2)) (else_code c trap.NoCase p otherwise p2 (next_cases c cases (suc t)) x) (ct cases) (lt otherwise) (cases_words t cases p1 (suc t) x (end_else c otherwise p2)) (else_words trap.NoCase p otherwise p2 (next_cases c cases (suc t)) x))
      stmt_words (While e body p) pc t x =
          let p1 = end_expr c want.Value e pc in
          two (expr_code c want.Value e pc) _ (et e) (sst body) (expr want.Value e pc tt) (then_none (stmts_code c body (suc p1) t x) _ (sst body) (stmts_words body (suc p1) t x) refl)
      stmt_words (Repeat body e p) pc t x =
          let p1 = end_stmts c body pc in
          two (stmts_code c body pc t x) _ (sst body) (et e) (stmts_words body pc t x) (then_none (expr_code c want.Value e p1) _ (et e) (expr want.Value e p1 tt) refl)
      stmt_words (For v w start stop step body p) pc t x =
          let p1 = suc (end_expr c want.Value stop (suc pc)) in
          let p2 = behind (for_place c v) p1 in
          let p3 = end_for_test c v (suc (end_expr c want.Value start p2)) in
          let place = variable_none c want.Place v (ref.Basic basic.LongInt) in
          let value = variable_none c want.Value v (ref.Basic basic.LongInt) in
          two (expr_code c want.Value stop (suc pc)) _ (et stop) (et start ++ sst body) (expr want.Value stop (suc pc) tt)
          (none_then (for_place c v) _ (et start ++ sst body) place
          (two (expr_code c want.Value start p2) _ (et start) (sst body) (expr want.Value start p2 tt)
          (none_then (for_value c v) _ (sst body) value
          (then_none (stmts_code c body p3 (suc t) x) _ (sst body) (stmts_words body p3 (suc t) x)
          (none_then (for_place c v) _ [] place refl)))))
      stmt_words (Loop body p) pc t x = then_none (stmts_code c body pc t (suc (end_stmts c body pc))) _ (sst body) (stmts_words body pc t (suc (end_stmts c body pc))) refl
      stmt_words Exit pc t x = refl
      stmt_words (Return e) pc t x = result_words e pc
      stmt_words (With branches otherwise p) pc t x =
          let p1 = end_branches c branches pc in
          two (branches_code c branches pc t x (end_else c otherwise p1)) (else_code c trap.NoMatch p otherwise p1 (next_branches c branches t) x) (bt branches) (lt otherwise) (branches_words branches pc t x (end_else c otherwise p1)) (else_words trap.NoMatch p otherwise p1 (next_branches c branches t) x)

      pub stmts_words : (s : Stmts) (pc t x : ℕ) → lines_words (stmts_code c s pc t x) ≡ sst s
      stmts_words Nothing pc t x = refl
      stmts_words (Then s rest) pc t x = two (stmt_code c s pc t x) (stmts_code c rest (end_stmt c s pc) (next_stmt c s t) x) (st s) (sst rest) (stmt_words s pc t x) (stmts_words rest (end_stmt c s pc) (next_stmt c s t) x)

      branches_words : (b : Branches) (pc t x end : ℕ) → lines_words (branches_code c b pc t x end) ≡ bt b
      branches_words NoBranch pc t x end = refl
      branches_words (Branch test body rest) pc t x end =
          let p1 = end_expr c want.Value test pc in
          let p2 = end_stmts c body (suc p1) in
          two (expr_code c want.Value test pc) _ (et test) (sst body ++ bt rest) (expr want.Value test pc tt) (two (stmts_code c body (suc p1) t x) (jump end ∷ branches_code c rest (suc p2) (next_stmts c body t) x end) (sst body) (bt rest) (stmts_words body (suc p1) t x) (branches_words rest (suc p2) (next_stmts c body t) x end))

      cases_words : (k : ℕ) (b : Cases) (pc t x end : ℕ) → lines_words (cases_code c k b pc t x end) ≡ ct b
      cases_words k NoCase pc t x end = refl
      cases_words k (OneCase labels body rest) pc t x end =
          let p1 = end_labels c labels pc in
          let p2 = end_stmts c body (suc p1) in
          none_then (labels_code c k labels pc (suc p1)) _ (sst body ++ ct rest) (labels_none k c labels pc (suc p1)) (two (stmts_code c body (suc p1) t x) (jump end ∷ cases_code c k rest (suc p2) (next_stmts c body t) x end) (sst body) (ct rest) (stmts_words body (suc p1) t x) (cases_words k rest (suc p2) (next_stmts c body t) x end))

      else_words : (kind : Trap) (p : Pos) (b : Otherwise) (pc t x : ℕ) → lines_words (else_code c kind p b pc t x) ≡ lt b
      else_words kind p NoElse pc t x = refl
      else_words kind p (Else body) pc t x = stmts_words body pc t x

-- PROCEDURES, AND THE MODULE

module _ (types : QName → Option Desc) (m : Module) (program : Program) (described : IsDescribed types program) where
  procedure_words : (p : Procedure) (pc : ℕ) → lines_words (procedure_code types m p pc) ≡ stmts_texts (form_in program) p.body
  procedure_words p pc = let c = within types m p in then_none (stmts_code c p.body pc (first_hidden c) 0) (closing p.result p.at ∷ []) (stmts_texts (form_in program) p.body) (stmts_words c program described.sizes p.body pc (first_hidden c) 0) (closing_none p.result p.at)

  procedures_words : (ps : List Procedure) (pc : ℕ) → lines_words (procedures_code types m ps pc) ≡ procedures_texts program ps
  procedures_words [] pc = refl
  procedures_words (p ∷ ps) pc = two (procedure_code types m p pc) (procedures_code types m ps (end_procedure types m p pc)) (stmts_texts (form_in program) p.body) (procedures_texts program ps) (procedure_words p pc) (procedures_words ps (end_procedure types m p pc))

  -- THE STRINGS OF A MODULE'S CODE, in its order
  pub module_words : lines_words (module_code types m) ≡ module_texts program m
  module_words = procedures_words (all_procedures m) 0
