-- Where all shapes that count are among some names, all layouts that count are too.
use Rattle.std.proofs.Common.{◌≡◌, ℕ, List, [], ◌∷◌, ◌++◌, true, Option, Some, None, map as each}
use Rattle.std.specs.List.{AllByRecursion, flat_map}
use Rattle.ob_tree.specs.declared.names.QName.{QName}
use Rattle.ob_types.specs.declared.types.Mode.{Mode}
use Rattle.ob_types.specs.declared.types.Mode.TheVariants as mode
use Rattle.ob_types.specs.declared.desc.Method.{Method}
use Rattle.ob_layout.specs.Members.{method_in}
use Rattle.ob_types.specs.declared.types.TypeRef.{TypeRef}
use Rattle.ob_types.specs.declared.types.TypeRef.TheVariants as ref
use Rattle.ob_types.specs.declared.desc.Desc.{Desc}
use Rattle.ob_types.specs.declared.desc.Desc.TheVariants as desc
use Rattle.ob_types.specs.declared.typed.Assigned.{Assigned}
use Rattle.ob_types.specs.declared.typed.Assigned.TheVariants as assigned
use Rattle.ob_types.specs.declared.typed.Made.{Made}
use Rattle.ob_types.specs.declared.typed.Made.TheVariants as made
use Rattle.ob_types.specs.declared.typed.Binding.{Binding}
use Rattle.ob_types.specs.TypedSyntax.{Desig, OfVariable, Field, Index, Deref, Guard, Expr, Constant, ValueOf, ProcedureValue, Monadic, Dyadic, Logical, CompareTexts, IsPointer, IsRecord, Length, Call, CallVariable, Actuals, NoActual, AnActual, Stmt, Assign, CallProper, Updated, Copy, New, NewOpenArray, Assert, Halt, If, Case, While, Repeat, For, Loop, Exit, Return, With, Stmts, Nothing, Then, Branches, NoBranch, Branch, Cases, NoCase, OneCase, Otherwise, NoElse, Else, Procedure, Module}
use Rattle.ob_types.specs.TypedKinds.{variable_type}
use Rattle.ob_types.specs.Maps.{listed, signature_types}
use Rattle.ob_uses_roots.specs.Counts.{Count, Shapes, Layouts, shapes, both, formals, without_receiver, has_receiver, counts_of_call, counts_of_held_call, counts_of_designator, counts_of_expr, counts_of_actuals, counts_of_optional, target_counts, made_counts, counts_of, counts_of_all, counts_of_branches, counts_of_cases, counts_of_else, formal_counts, counts_of_parameter, counts_of_variable, counts_of_binding, counts_of_procedure, counts_of_method, counts_of_desc, counts_of_type, counts_of_mentioned, counts_of_module, mode_of}
use Rattle.ob_uses.specs.declared.way.Way.TheVariants as way
use Rattle.ob_uses.specs.Closed.{is_among}
use Rattle.ob_uses.specs.Ways.{leads_by}
use Rattle.law_local_files.specs.Agreeing.{Map, On}
use Rattle.law_local_files.specs.Tied.{LeadsTo, MadeTied, StmtTied, StmtsTied, BranchesTied, CasesTied, ElseTied, ProcedureTied}
use Rattle.law_local_files.proofs.Counted.{CountsOn, counts_front, counts_back, type_on, leads_on}

pub counts_join : (P L : QName → Type 0) (cs ds : List Count) → CountsOn P L cs → CountsOn P L ds → CountsOn P L (cs ++ ds)
counts_join P L [] ds a b = b
counts_join P L (Shapes t ∷ cs) ds a b = (a.0, counts_join P L cs ds a.1 b)
counts_join P L (Layouts t ∷ cs) ds a b = (a.0, counts_join P L cs ds a.1 b)

-- of any layouts
abbrev pub Any : QName → Type 0
Any q = Unit {0}

module _ (P : QName → Type 0) where
  two_near : (f : List Count) (g : List Count) → (CountsOn P Any f → CountsOn P P f) → (CountsOn P Any g → CountsOn P P g) → CountsOn P Any (f ++ g) → CountsOn P P (f ++ g)
  two_near f g a b on = counts_join P P f g (a (counts_front P Any f g on)) (b (counts_back P Any f g on))

  both_near : (t : TypeRef) → CountsOn P Any (both t) → CountsOn P P (both t)
  both_near t on = (on.0, (on.0, tt))

  shapes_near : (ts : List TypeRef) → CountsOn P Any (shapes ts) → CountsOn P P (shapes ts)
  shapes_near [] on = tt
  shapes_near (t ∷ ts) on = (on.0, shapes_near ts on.1)

  formals_near : (es : Actuals) → CountsOn P Any (formals es) → CountsOn P P (formals es)
  formals_near NoActual on = tt
  formals_near (AnActual how t e rest) on = (on.0, formals_near rest on.1)

  mutual
    pub desig_near : (d : Desig) → CountsOn P Any (counts_of_designator d) → CountsOn P P (counts_of_designator d)
    desig_near (OfVariable v t) on = (on.0, tt)
    desig_near (Field d owner name t) on = two_near (counts_of_designator d) (Shapes t ∷ []) (desig_near d) (λ h. (h.0, tt)) on
    desig_near (Index d n i at t) on = two_near (counts_of_designator d ++ counts_of_expr i) (both t) (two_near (counts_of_designator d) (counts_of_expr i) (desig_near d) (expr_near i)) (both_near t) on
    desig_near (Deref d at t) on = two_near (counts_of_designator d) (Shapes t ∷ []) (desig_near d) (λ h. (h.0, tt)) on
    desig_near (Guard d g aim at t) on = two_near (counts_of_designator d) (Shapes t ∷ Shapes (ref.Named aim) ∷ []) (desig_near d) (λ h. (h.0, (h.1.0, tt))) on

    pub expr_near : (e : Expr) → CountsOn P Any (counts_of_expr e) → CountsOn P P (counts_of_expr e)
    expr_near (Constant v) on = tt
    expr_near (ValueOf d) on = desig_near d on
    expr_near (ProcedureValue q signature) on = shapes_near (signature_types signature) on
    expr_near (Monadic op e at) on = expr_near e on
    expr_near (Dyadic op a b at) on = two_near (counts_of_expr a) (counts_of_expr b) (expr_near a) (expr_near b) on
    expr_near (Logical op a b) on = two_near (counts_of_expr a) (counts_of_expr b) (expr_near a) (expr_near b) on
    expr_near (CompareTexts r a b at) on = two_near (counts_of_expr a) (counts_of_expr b) (expr_near a) (expr_near b) on
    expr_near (IsPointer e aim) on = two_near (counts_of_expr e) (Shapes (ref.Named aim) ∷ []) (expr_near e) (λ h. (h.0, tt)) on
    expr_near (IsRecord d aim) on = two_near (counts_of_designator d) (Shapes (ref.Named aim) ∷ []) (desig_near d) (λ h. (h.0, tt)) on
    expr_near (Length d) on = desig_near d on
    expr_near (Call c es at t) on = two_near (counts_of_actuals es) (counts_of_call c es t) (actuals_near es) (two_near (formals (without_receiver (has_receiver c) es)) (shapes (listed t)) (formals_near (without_receiver (has_receiver c) es)) (shapes_near (listed t))) on
    expr_near (CallVariable d es at t) on = two_near (counts_of_designator d ++ counts_of_actuals es) (counts_of_held_call es t) (two_near (counts_of_designator d) (counts_of_actuals es) (desig_near d) (actuals_near es)) (two_near (formals es) (shapes (listed t)) (formals_near es) (shapes_near (listed t))) on

    pub actuals_near : (es : Actuals) → CountsOn P Any (counts_of_actuals es) → CountsOn P P (counts_of_actuals es)
    actuals_near NoActual on = tt
    actuals_near (AnActual how t e rest) on = two_near (counts_of_expr e) (counts_of_actuals rest) (expr_near e) (actuals_near rest) on

  optional_near : (e : Option Expr) → CountsOn P Any (counts_of_optional e) → CountsOn P P (counts_of_optional e)
  optional_near None on = tt
  optional_near (Some e) on = expr_near e on

  -- ---- statements

  target_near : (how : Assigned) (t : TypeRef) → On P t → CountsOn P P (target_counts how t)
  target_near assigned.Scalar t on = tt
  target_near assigned.Text t on = (on, tt)
  target_near assigned.Array t on = (on, tt)
  target_near (assigned.Record q) t on = (on, tt)

  formal_near : (f : Mode × TypeRef) → CountsOn P Any (formal_counts f) → CountsOn P P (formal_counts f)
  formal_near (mode.Value, t) on = both_near t on
  formal_near (mode.Var, t) on = (on.0, tt)

  all_near : {A : Type 0} (f : A → List Count) → ((a : A) → CountsOn P Any (f a) → CountsOn P P (f a)) → (xs : List A) → CountsOn P Any (flat_map f xs) → CountsOn P P (flat_map f xs)
  all_near f g [] on = tt
  all_near f g (x ∷ xs) on = two_near (f x) (flat_map f xs) (g x) (all_near f g xs) on

module _ (map : Map) (m : List ℕ) (Own P : QName → Type 0) (near : (p q : QName) → P p → is_among (leads_by way.Near map m p) q ≡ true → P q) (owned : (q : QName) → Own q → P q) where
  variable_on : (d : Desig) → CountsOn P Any (counts_of_designator d) → On P (variable_type d)
  variable_on d on = type_on map m Own P Any near (λ _ _ _ _. tt) owned (λ _ _ _. tt) Any d on

  made_on : (d : Desig) (t : TypeRef) → CountsOn P Any (counts_of_designator d) → On (LeadsTo map m Own (variable_type d)) t → On P t
  made_on d t on tied = leads_on map m Own P Any near (λ _ _ _ _. tt) owned (λ _ _ _. tt) (variable_type d) t (variable_on d on) tied

  made_near : (what : Made) (d : Desig) → CountsOn P Any (counts_of_designator d) → MadeTied map m Own what d → CountsOn P P (made_counts what)
  made_near (made.Record q) d on tied = tt
  made_near (made.Array t) d on tied = (made_on d t on tied, tt)

  mutual
    pub stmt_near : (s : Stmt) → CountsOn P Any (counts_of s) → StmtTied map m Own s → CountsOn P P (counts_of s)
    stmt_near (Assign d how e at) on tied =
        let de = counts_front P Any (counts_of_designator d ++ counts_of_expr e) (target_counts how (variable_type d)) on in
        counts_join P P (counts_of_designator d ++ counts_of_expr e) (target_counts how (variable_type d)) (two_near P (counts_of_designator d) (counts_of_expr e) (desig_near P d) (expr_near P e) de)
        (target_near P how (variable_type d) (variable_on d (counts_front P Any (counts_of_designator d) (counts_of_expr e) de)))
    stmt_near (CallProper e) on tied = expr_near P e on
    stmt_near (Updated op d e at) on tied = two_near P (counts_of_designator d) (counts_of_expr e) (desig_near P d) (expr_near P e) on
    stmt_near (Copy e d at) on tied = two_near P (counts_of_expr e) (counts_of_designator d) (expr_near P e) (desig_near P d) on
    stmt_near (New d what at) on tied = two_near P (counts_of_designator d) (made_counts what) (desig_near P d) (λ _. made_near what d (counts_front P Any (counts_of_designator d) (made_counts what) on) tied.1) on
    stmt_near (NewOpenArray d t n at) on tied =
        let dn = counts_front P Any (counts_of_designator d ++ counts_of_expr n) (Layouts t ∷ []) on in
        counts_join P P (counts_of_designator d ++ counts_of_expr n) (Layouts t ∷ []) (two_near P (counts_of_designator d) (counts_of_expr n) (desig_near P d) (expr_near P n) dn)
        (made_on d t (counts_front P Any (counts_of_designator d) (counts_of_expr n) dn) tied.2, tt)
    stmt_near (Assert e number at) on tied = expr_near P e on
    stmt_near (Halt number at) on tied = tt
    stmt_near (If branches otherwise) on tied = two_near P (counts_of_branches branches) (counts_of_all otherwise) (λ h. branches_near branches h tied.0) (λ h. stmts_near otherwise h tied.1) on
    stmt_near (Case e cases otherwise at) on tied = two_near P (counts_of_expr e ++ counts_of_cases cases) (counts_of_else otherwise) (two_near P (counts_of_expr e) (counts_of_cases cases) (expr_near P e) (λ h. cases_near cases h tied.1)) (λ h. else_near otherwise h tied.2) on
    stmt_near (While e body at) on tied = two_near P (counts_of_expr e) (counts_of_all body) (expr_near P e) (λ h. stmts_near body h tied.1) on
    stmt_near (Repeat body e at) on tied = two_near P (counts_of_all body) (counts_of_expr e) (λ h. stmts_near body h tied.0) (expr_near P e) on
    stmt_near (For v w start stop step body at) on tied = two_near P (counts_of_expr start ++ counts_of_expr stop) (counts_of_all body) (two_near P (counts_of_expr start) (counts_of_expr stop) (expr_near P start) (expr_near P stop)) (λ h. stmts_near body h tied.2) on
    stmt_near (Loop body at) on tied = stmts_near body on tied
    stmt_near Exit on tied = tt
    stmt_near (Return e) on tied = optional_near P e on
    stmt_near (With branches otherwise at) on tied = two_near P (counts_of_branches branches) (counts_of_else otherwise) (λ h. branches_near branches h tied.0) (λ h. else_near otherwise h tied.1) on

    pub stmts_near : (ss : Stmts) → CountsOn P Any (counts_of_all ss) → StmtsTied map m Own ss → CountsOn P P (counts_of_all ss)
    stmts_near Nothing on tied = tt
    stmts_near (Then s rest) on tied = two_near P (counts_of s) (counts_of_all rest) (λ h. stmt_near s h tied.0) (λ h. stmts_near rest h tied.1) on

    pub branches_near : (bs : Branches) → CountsOn P Any (counts_of_branches bs) → BranchesTied map m Own bs → CountsOn P P (counts_of_branches bs)
    branches_near NoBranch on tied = tt
    branches_near (Branch test body rest) on tied = two_near P (counts_of_expr test ++ counts_of_all body) (counts_of_branches rest) (two_near P (counts_of_expr test) (counts_of_all body) (expr_near P test) (λ h. stmts_near body h tied.1)) (λ h. branches_near rest h tied.2) on

    pub cases_near : (cs : Cases) → CountsOn P Any (counts_of_cases cs) → CasesTied map m Own cs → CountsOn P P (counts_of_cases cs)
    cases_near NoCase on tied = tt
    cases_near (OneCase labels body rest) on tied = two_near P (counts_of_all body) (counts_of_cases rest) (λ h. stmts_near body h tied.0) (λ h. cases_near rest h tied.1) on

    pub else_near : (o : Otherwise) → CountsOn P Any (counts_of_else o) → ElseTied map m Own o → CountsOn P P (counts_of_else o)
    else_near NoElse on tied = tt
    else_near (Else body) on tied = stmts_near body on tied

  -- ---- declarations

  desc_near : (d : Desc) → CountsOn P Any (counts_of_desc d) → CountsOn P P (counts_of_desc d)
  desc_near (desc.Array k n t) on = both_near P t on
  desc_near (desc.OpenArray k t) on = both_near P t on
  desc_near (desc.ProcType k s) on = two_near P (flat_map formal_counts s.params) (shapes (listed s.result)) (all_near P formal_counts (formal_near P) s.params) (shapes_near P (listed s.result)) on
  desc_near (desc.Record r) on = two_near P (flat_map both (listed r.base)) (flat_map (λ f. both f.of) r.fields) (all_near P both (both_near P) (listed r.base)) (all_near P (λ f. both f.of) (λ f. both_near P f.of) r.fields) on
  desc_near (desc.Const v) on = tt
  desc_near (desc.Var k t) on = tt
  desc_near (desc.Proc s) on = tt
  desc_near (desc.Alias k t) on = tt
  desc_near (desc.Pointer k t) on = tt

  method_near : (o : Option Method) → CountsOn P Any (counts_of_method o) → CountsOn P P (counts_of_method o)
  method_near None on = tt
  method_near (Some p) on = shapes_near P (signature_types p.signature) on

  binding_near : (types : Map) (b : Option Binding) → CountsOn P Any (counts_of_binding types b) → CountsOn P P (counts_of_binding types b)
  binding_near types None on = tt
  binding_near types (Some b) on = method_near (method_in types b.family.owner b.family.name) on

  procedure_near : (types : Map) (p : Procedure) → ProcedureTied map m Own p → CountsOn P Any (counts_of_procedure types p) → CountsOn P P (counts_of_procedure types p)
  procedure_near types p tied on =
      let c1 = flat_map counts_of_parameter p.parameters in
      let c2 = shapes (listed p.result) in
      let c3 = flat_map counts_of_variable p.locals in
      let c4 = counts_of_binding types p.binding in
      let c5 = counts_of_all p.body in
      two_near P (c1 ++ c2 ++ c3 ++ c4) c5
      (two_near P (c1 ++ c2 ++ c3) c4 (two_near P (c1 ++ c2) c3 (two_near P c1 c2 (all_near P counts_of_parameter (λ x. formal_near P (mode_of x.passing, x.of)) p.parameters) (shapes_near P (listed p.result))) (all_near P counts_of_variable (λ v. both_near P v.of) p.locals)) (binding_near types p.binding))
      (λ h. stmts_near p.body h tied.body) on

  procedures_near : (types : Map) (ps : List Procedure) → AllByRecursion (ProcedureTied map m Own) ps → CountsOn P Any (flat_map (counts_of_procedure types) ps) → CountsOn P P (flat_map (counts_of_procedure types) ps)
  procedures_near types [] tied on = tt
  procedures_near types (p ∷ ps) tied on = two_near P (counts_of_procedure types p) (flat_map (counts_of_procedure types) ps) (procedure_near types p tied.0) (procedures_near types ps tied.1) on

  objects_near : (qs : List QName) → CountsOn P Any (each (λ q. Shapes (ref.Named q)) qs) → CountsOn P P (each (λ q. Shapes (ref.Named q)) qs)
  objects_near [] on = tt
  objects_near (q ∷ qs) on = (on.0, objects_near qs on.1)

  mentioned_near : (k : Module) → CountsOn P Any (counts_of_mentioned k) → CountsOn P P (counts_of_mentioned k)
  mentioned_near k on = two_near P (each (λ q. Shapes (ref.Named q)) k.mentioned.objects ++ shapes k.mentioned.types) (flat_map counts_of_designator k.mentioned.lengths) (two_near P (each (λ q. Shapes (ref.Named q)) k.mentioned.objects) (shapes k.mentioned.types) (objects_near k.mentioned.objects) (shapes_near P k.mentioned.types)) (all_near P counts_of_designator (desig_near P) k.mentioned.lengths) on

  -- ALL THAT COUNTS in a module
  pub module_near : (types : Map) (k : Module) → AllByRecursion (ProcedureTied map m Own) k.procedures → StmtsTied map m Own k.body → CountsOn P Any (counts_of_module types k) → CountsOn P P (counts_of_module types k)
  module_near types k procedures body on =
      let c1 = counts_of_mentioned k in
      let c2 = flat_map (counts_of_type k) k.types in
      let c3 = flat_map counts_of_variable k.variables in
      let c4 = flat_map (counts_of_procedure types) k.procedures in
      let c5 = counts_of_all k.body in
      two_near P (c1 ++ c2 ++ c3 ++ c4) c5
      (two_near P (c1 ++ c2 ++ c3) c4 (two_near P (c1 ++ c2) c3 (two_near P c1 c2 (mentioned_near k) (all_near P (counts_of_type k) (λ t h. (h.0, desc_near t.desc h.1)) k.types)) (all_near P counts_of_variable (λ v. both_near P v.of) k.variables)) (procedures_near types k.procedures procedures))
      (λ h. stmts_near k.body h body) on
