-- The words of FOR and CASE, counted on from any number.
use Rattle.std.specs.Prelude.{map}
use Rattle.std.proofs.Common.{◌≡◌, ◌<◌, ◌≤◌, ℕ, suc, ◌+◌, ◌-◌, Bool, List, [], ◌∷◌, ◌++◌, length, drop, get_or, Option, refl, sym, ap, ◌∙◌, arith, append_assoc, append-nil, length-append}
use Rattle.std.proofs.lemmas.List.{drop_more, drop_all}
use Rattle.ob_tree.specs.declared.names.QName.{QName}
use Rattle.ob_types.specs.declared.desc.Desc.{Desc}
use Rattle.ob_types.specs.declared.typed.Passing.{Passing}
use Rattle.ob_types.specs.declared.typed.Passing.TheVariants as passing
use Rattle.ob_types.specs.declared.typed.TypedParameter.{TypedParameter}
use Rattle.ob_types.specs.declared.typed.TypedProcedure.{TypedProcedure}
use Rattle.ob_types.specs.TypedView.{procedure_view}
use Rattle.ob_scheme.specs.Coded.{Coded, appended, place_in}
use Rattle.ob_scheme.proofs.Ends.{stmts_end}
use Rattle.ob_scheme.proofs.Appends.{put_two, next_place, appended_none}
use Rattle.ob_types.specs.declared.types.TypeRef.{TypeRef}
use Rattle.ob_instr.specs.declared.procedure.Param.{Param}
use Rattle.ob_instr.specs.declared.procedure.Procedure.{Procedure as Row}
use Rattle.ob_types.specs.TypedSyntax.{Stmt, Assign, CallProper, Updated, Copy, New, NewOpenArray, Assert, Halt, If, Case, While, Repeat, For, Loop, Exit, Return, With, Stmts, Nothing, Then, Branches, NoBranch, Branch, Cases, NoCase, OneCase, Otherwise, NoElse, Else, Procedure, Module}
use Rattle.ob_scheme.specs.Context.{Context, local_words, first_hidden}
use Rattle.ob_scheme.specs.Procedures.{has_result, closing, within, body_of, all_procedures, param_for, end_procedure, procedure_code, procedures_code, row_of, rows_of, module_code, module_rows}
use Rattle.ob_gproc.specs.Parts.{param_in, params_in, parts_row}
use Rattle.ob_scheme.specs.Statements.{next_stmt, next_stmts, next_branches, next_cases, next_else, stmts_code}

one_more : (k t : ℕ) → suc (k + t) ≡ k + suc t
one_more k t = omega arith

module _ (c : Context) (k : ℕ) where
  mutual
    pub stmt_on : (s : Stmt) (t : ℕ) → next_stmt c s (k + t) ≡ k + next_stmt c s t
    stmt_on (Assign d how e at) t = refl
    stmt_on (CallProper e) t = refl
    stmt_on (Updated o d e at) t = refl
    stmt_on (Copy e d at) t = refl
    stmt_on (New d what at) t = refl
    stmt_on (NewOpenArray d element n at) t = refl
    stmt_on (Assert e number at) t = refl
    stmt_on (Halt number at) t = refl
    stmt_on (If branches otherwise) t = ap (next_stmts c otherwise) (branches_on branches t) ∙ stmts_on otherwise (next_branches c branches t)
    stmt_on (Case e cases otherwise at) t = ap (λ u. next_else c otherwise (next_cases c cases u)) (one_more k t) ∙ ap (next_else c otherwise) (cases_on cases (suc t)) ∙ else_on otherwise (next_cases c cases (suc t))
    stmt_on (While e body at) t = stmts_on body t
    stmt_on (Repeat body e at) t = stmts_on body t
    stmt_on (For v w start stop step body at) t = ap (next_stmts c body) (one_more k t) ∙ stmts_on body (suc t)
    stmt_on (Loop body at) t = stmts_on body t
    stmt_on Exit t = refl
    stmt_on (Return e) t = refl
    stmt_on (With branches otherwise at) t = ap (next_else c otherwise) (branches_on branches t) ∙ else_on otherwise (next_branches c branches t)

    pub stmts_on : (s : Stmts) (t : ℕ) → next_stmts c s (k + t) ≡ k + next_stmts c s t
    stmts_on Nothing t = refl
    stmts_on (Then s rest) t = ap (next_stmts c rest) (stmt_on s t) ∙ stmts_on rest (next_stmt c s t)

    branches_on : (bs : Branches) (t : ℕ) → next_branches c bs (k + t) ≡ k + next_branches c bs t
    branches_on NoBranch t = refl
    branches_on (Branch test body rest) t = ap (next_branches c rest) (stmts_on body t) ∙ branches_on rest (next_stmts c body t)

    cases_on : (cs : Cases) (t : ℕ) → next_cases c cs (k + t) ≡ k + next_cases c cs t
    cases_on NoCase t = refl
    cases_on (OneCase labels body rest) t = ap (next_cases c rest) (stmts_on body t) ∙ cases_on rest (next_stmts c body t)

    else_on : (o : Otherwise) (t : ℕ) → next_else c o (k + t) ≡ k + next_else c o t
    else_on NoElse t = refl
    else_on (Else body) t = stmts_on body t

  -- the words behind the slots
  pub words_behind : (s : Stmts) (t n : ℕ) → n ≡ next_stmts c s (k + t) → n ≡ k + next_stmts c s t
  words_behind s t n h = h ∙ stmts_on s t

abbrev row : ℕ → List Param → ℕ → Bool → Row
row a b d e = record { entry = a; params = b; locals = d; has_result = e }

-- a procedure's row in the table
pub row_is : (c : Context) (body : Stmts) (outcome : Option TypeRef) (pc entry next k t locals : ℕ) (params : List Param) (has : Bool)
    → entry ≡ pc → params ≡ params_in c.types c.parameters → next ≡ next_stmts c body (k + t) → t ≡ local_words c → locals ≡ next - k → has ≡ has_result outcome
    → record { entry = entry; params = params; locals = locals; has_result = has } ≡ parts_row c body outcome pc
row_is c body outcome pc entry next k t locals params has e p n w l h =
    let u : locals ≡ next_stmts c body t = let v = words_behind c k body t next n in omega (arith, l, v) in
    ap (λ x. row x params locals has) e ∙ ap (λ x. row pc x locals has) p
    ∙ ap (λ x. row pc (params_in c.types c.parameters) x has) (u ∙ ap (next_stmts c body) w)
    ∙ ap (row pc (params_in c.types c.parameters) (next_stmts c body (local_words c))) h

-- the kinds of a procedure's parameters
pub params_same : (types : QName → Option Desc) (m : Module) (p : Procedure) (ps : List TypedParameter) → params_in types ps ≡ map (λ x. param_for types m (within types m p) x.passing x.of) ps
params_same types m p [] = refl
params_same types m p (x ∷ ps) = ap (λ a. a ∷ params_in types ps) (one x.passing x.of) ∙ ap (λ l. param_for types m (within types m p) x.passing x.of ∷ l) (params_same types m p ps)
  where
    one : (how : Passing) (t : TypeRef) → param_in types how t ≡ param_for types m (within types m p) how t
    one passing.Scalar t = refl
    one passing.Structure t = refl
    one passing.OpenArray t = refl
    one passing.Variable t = refl
    one passing.VariableRecord t = refl
    one passing.VariableOpenArray t = refl

-- where a procedure's code ends
pub procedure_end : (types : QName → Option Desc) (m : Module) (p : Procedure) (pc : ℕ) → end_procedure types m p pc ≡ pc + length (procedure_code types m p pc)
procedure_end types m p pc =
    let c = within types m p in
    omega (arith, stmts_end c p.body pc (first_hidden c) 0, length-append (stmts_code c p.body pc (first_hidden c) 0) (closing p.result p.at ∷ []))

-- a procedure more
pub procedure_put : (types : QName → Option Desc) (m : Module) (p : Procedure) (rest : List Procedure) (c0 c1 : Coded) → c1 ≡ appended c0 (procedure_code types m p (place_in c0)) → appended c1 (procedures_code types m rest (place_in c1)) ≡ appended c0 (procedures_code types m (p ∷ rest) (place_in c0))
procedure_put types m p rest c0 c1 h =
    let pc = place_in c0 in
    let l1 = next_place c0 c1 (procedure_code types m p pc) (end_procedure types m p pc) h (procedure_end types m p pc) in
    put_two c0 c1 (appended c1 (procedures_code types m rest (place_in c1))) (procedure_code types m p pc) (procedures_code types m rest (end_procedure types m p pc)) h (ap (λ q. appended c1 (procedures_code types m rest q)) l1)

pub procedures_turn : (types : QName → Option Desc) (m : Module) (ps : List TypedProcedure) (i : ℕ) (d : TypedProcedure) (c0 c1 whole : Coded) → i < length ps → c1 ≡ appended c0 (procedure_code types m (procedure_view (get_or ps i d)) (place_in c0))
    → appended c0 (procedures_code types m (map procedure_view (drop i ps)) (place_in c0)) ≡ whole → appended c1 (procedures_code types m (map procedure_view (drop (i + 1) ps)) (place_in c1)) ≡ whole
procedures_turn types m ps i d c0 c1 whole lt h inv =
    procedure_put types m (procedure_view (get_or ps i d)) (map procedure_view (drop (i + 1) ps)) c0 c1 h
    ∙ ap (λ l. appended c0 (procedures_code types m (map procedure_view l) (place_in c0))) (sym (drop_more ps i d lt)) ∙ inv

pub rows_turn : (types : QName → Option Desc) (m : Module) (ps : List TypedProcedure) (i : ℕ) (d : TypedProcedure) (c0 c1 : Coded) (r : Row) (rows rows' whole : List Row) → i < length ps → c1 ≡ appended c0 (procedure_code types m (procedure_view (get_or ps i d)) (place_in c0))
    → r ≡ row_of types m (procedure_view (get_or ps i d)) (place_in c0) → rows' ≡ rows ++ r ∷ []
    → rows ++ rows_of types m (map procedure_view (drop i ps)) (place_in c0) ≡ whole → rows' ++ rows_of types m (map procedure_view (drop (i + 1) ps)) (place_in c1) ≡ whole
rows_turn types m ps i d c0 c1 r rows rows' whole lt h e k inv =
    let p = procedure_view (get_or ps i d) in
    let rest = map procedure_view (drop (i + 1) ps) in
    let l1 = next_place c0 c1 (procedure_code types m p (place_in c0)) (end_procedure types m p (place_in c0)) h (procedure_end types m p (place_in c0)) in
    ap (λ l. l ++ rows_of types m rest (place_in c1)) (k ∙ ap (λ x. rows ++ x ∷ []) e)
    ∙ append_assoc rows (row_of types m p (place_in c0) ∷ []) (rows_of types m rest (place_in c1))
    ∙ ap (λ q. rows ++ (row_of types m p (place_in c0) ∷ rows_of types m rest q)) l1
    ∙ ap (λ l. rows ++ rows_of types m (map procedure_view l) (place_in c0)) (sym (drop_more ps i d lt)) ∙ inv

pub procedures_over : (types : QName → Option Desc) (m : Module) (ps : List TypedProcedure) (i : ℕ) (c0 whole : Coded) → length ps ≤ i → appended c0 (procedures_code types m (map procedure_view (drop i ps)) (place_in c0)) ≡ whole → c0 ≡ whole
procedures_over types m ps i c0 whole past inv = appended_none c0 ∙ ap (λ l. appended c0 (procedures_code types m (map procedure_view l) (place_in c0))) (sym (drop_all i ps past)) ∙ inv

pub rows_over : (types : QName → Option Desc) (m : Module) (ps : List TypedProcedure) (i pc : ℕ) (rows whole : List Row) → length ps ≤ i → rows ++ rows_of types m (map procedure_view (drop i ps)) pc ≡ whole → rows ≡ whole
rows_over types m ps i pc rows whole past inv = sym (append-nil rows) ∙ ap (λ l. rows ++ rows_of types m (map procedure_view l) pc) (sym (drop_all i ps past)) ∙ inv

-- the body, and then all procedures
pub module_put : (types : QName → Option Desc) (m : Module) (c0 c1 c2 : Coded) → place_in c0 ≡ 0 → c1 ≡ appended c0 (procedure_code types m (body_of m) (place_in c0)) → c2 ≡ appended c1 (procedures_code types m m.procedures (place_in c1)) → c2 ≡ appended c0 (module_code types m)
module_put types m c0 c1 c2 z h k = k ∙ procedure_put types m (body_of m) m.procedures c0 c1 h ∙ ap (λ q. appended c0 (procedures_code types m (all_procedures m) q)) z

pub module_rows_put : (types : QName → Option Desc) (m : Module) (c0 c1 : Coded) (r : Row) (l0 l1 l2 : List Row) → place_in c0 ≡ 0 → c1 ≡ appended c0 (procedure_code types m (body_of m) (place_in c0)) → r ≡ row_of types m (body_of m) (place_in c0) → l0 ≡ [] → l1 ≡ l0 ++ r ∷ [] → l2 ≡ l1 ++ rows_of types m m.procedures (place_in c1) → l2 ≡ module_rows types m
module_rows_put types m c0 c1 r l0 l1 l2 z h e n k j =
    let b = body_of m in
    let q1 = next_place c0 c1 (procedure_code types m b (place_in c0)) (end_procedure types m b (place_in c0)) h (procedure_end types m b (place_in c0)) in
    j ∙ ap (λ l. l ++ rows_of types m m.procedures (place_in c1)) (k ∙ ap (λ l. l ++ r ∷ []) n)
    ∙ ap (λ x. x ∷ rows_of types m m.procedures (place_in c1)) e
    ∙ ap (λ q. row_of types m b (place_in c0) ∷ rows_of types m m.procedures q) q1
    ∙ ap (rows_of types m (all_procedures m)) z
