-- What counts, with what is tied to it, is all that code reads.
use Rattle.std.proofs.Common.{◌≡◌, ℕ, zero, suc, List, [], ◌∷◌, ◌++◌, true, Option, Some, None, refl, sym, ap, ◌∙◌, subst}
use Rattle.std.specs.List.{AllByRecursion, flat_map}
use Rattle.ob_tree.specs.declared.names.QName.{QName}
use Rattle.ob_types.specs.declared.types.TypeRef.{TypeRef}
use Rattle.ob_types.specs.declared.types.TypeRef.TheVariants as ref
use Rattle.ob_types.specs.declared.value.Value.{Value}
use Rattle.ob_types.specs.declared.value.Value.TheVariants as literal
use Rattle.ob_types.specs.declared.desc.Desc.{Desc}
use Rattle.ob_types.specs.declared.desc.Desc.TheVariants as desc
use Rattle.ob_types.specs.declared.typed.Passing.{Passing}
use Rattle.ob_types.specs.declared.typed.Passing.TheVariants as passing
use Rattle.ob_types.specs.declared.typed.Callee.{Callee}
use Rattle.ob_types.specs.declared.typed.Callee.TheVariants as callee
use Rattle.ob_types.specs.declared.typed.Assigned.{Assigned}
use Rattle.ob_types.specs.declared.typed.Assigned.TheVariants as assigned
use Rattle.ob_types.specs.declared.typed.Made.{Made}
use Rattle.ob_types.specs.declared.typed.Made.TheVariants as made
use Rattle.ob_types.specs.declared.typed.Binding.{Binding}
use Rattle.ob_types.specs.declared.typed.TypedParameter.{TypedParameter}
use Rattle.ob_types.specs.declared.typed.TypedVariable.{TypedVariable}
use Rattle.ob_types.specs.TypedSyntax.{Desig, OfVariable, Field, Index, Deref, Guard, Expr, Constant, ValueOf, ProcedureValue, Monadic, Dyadic, Logical, CompareTexts, IsPointer, IsRecord, Length, Call, CallVariable, Actuals, NoActual, AnActual, Stmt, Assign, CallProper, Updated, Copy, New, NewOpenArray, Assert, Halt, If, Case, While, Repeat, For, Loop, Exit, Return, With, Stmts, Nothing, Then, Branches, NoBranch, Branch, Cases, NoCase, OneCase, Otherwise, NoElse, Else, Procedure}
use Rattle.ob_types.specs.TypedKinds.{variable_type}
use Rattle.ob_types.specs.Tests.{target, target_of, follow}
use Rattle.ob_types.specs.Maps.{listed}
use Rattle.ob_uses_roots.specs.Counts.{Count, Shapes, Layouts, shapes, both, formals, without_receiver, has_receiver, counts_of_call, counts_of_held_call, counts_of_designator, counts_of_expr, counts_of_actuals, counts_of_optional, target_counts, made_counts, counts_of, counts_of_all, counts_of_branches, counts_of_cases, counts_of_else, formal_counts, counts_of_parameter, counts_of_variable, counts_of_binding, counts_of_procedure, mode_of}
use Rattle.ob_uses.specs.declared.way.Way.TheVariants as way
use Rattle.ob_uses.specs.Closed.{is_among, of_found}
use Rattle.ob_uses.specs.Reaching.{first, onward}
use Rattle.ob_uses.specs.Ways.{leads_by, desc_leads}
use Rattle.ob_uses.proofs.Searching.{itself, left_of}
use Rattle.law_local_files.specs.Agreeing.{Map, On}
use Rattle.law_local_files.specs.Laws.{IsRoom}
use Rattle.law_local_files.specs.Read.{CalleeRead, RoomRead, DesigRead, ExprRead, ActualsRead, ResultRead, AssignedRead, MadeRead, StmtRead, StmtsRead, BranchesRead, CasesRead, ElseRead, PassedRead, ParameterRead, BindingRead, ProcedureRead}
use Rattle.law_local_files.specs.Tied.{LeadsTo, RoomTied, ReceiverTied, SuperTied, CalleeTied, DesigTied, ExprTied, ActualsTied, ResultTied, AssignedTied, StmtTied, StmtsTied, BranchesTied, CasesTied, ElseTied, BindingTied, ProcedureTied}
use Rattle.law_local_files.proofs.Told.{among_on}

-- of all that counts the shapes are on P and the layouts on L
abbrev pub CountsOn : (QName → Type 0) → (QName → Type 0) → List Count → Type 0
CountsOn P L [] = Unit {0}
CountsOn P L (Shapes t ∷ cs) = On P t × CountsOn P L cs
CountsOn P L (Layouts t ∷ cs) = On L t × CountsOn P L cs

pub counts_front : (P L : QName → Type 0) (cs ds : List Count) → CountsOn P L (cs ++ ds) → CountsOn P L cs
counts_front P L [] ds on = tt
counts_front P L (Shapes t ∷ cs) ds on = (on.0, counts_front P L cs ds on.1)
counts_front P L (Layouts t ∷ cs) ds on = (on.0, counts_front P L cs ds on.1)

pub counts_back : (P L : QName → Type 0) (cs ds : List Count) → CountsOn P L (cs ++ ds) → CountsOn P L ds
counts_back P L [] ds on = on
counts_back P L (Shapes t ∷ cs) ds on = counts_back P L cs ds on.1
counts_back P L (Layouts t ∷ cs) ds on = counts_back P L cs ds on.1

-- of three parts
first3 : (P L : QName → Type 0) (a b c : List Count) → CountsOn P L (a ++ b ++ c) → CountsOn P L a
first3 P L a b c on = counts_front P L a b (counts_front P L (a ++ b) c on)

second3 : (P L : QName → Type 0) (a b c : List Count) → CountsOn P L (a ++ b ++ c) → CountsOn P L b
second3 P L a b c on = counts_back P L a b (counts_front P L (a ++ b) c on)

third3 : (P L : QName → Type 0) (a b c : List Count) → CountsOn P L (a ++ b ++ c) → CountsOn P L c
third3 P L a b c on = counts_back P L (a ++ b) c on

abbrev RoomsRead : (QName → Type 0) → (QName → Type 0) → Actuals → Type 0
RoomsRead P L NoActual = Unit {0}
RoomsRead P L (AnActual how t e rest) = RoomRead P L how e t × RoomsRead P L rest

module _ (map : Map) (m : List ℕ) (Own P L : QName → Type 0)
    (near : (p q : QName) → P p → is_among (leads_by way.Near map m p) q ≡ true → P q)
    (flat : (p q : QName) → L p → is_among (leads_by way.Flat map m p) q ≡ true → L q)
    (owned : (q : QName) → Own q → P q)
    (rooms : (q : QName) → P q → IsRoom map m q → L q) where
  leads_in : (t : TypeRef) (q : QName) → On P t → LeadsTo map m Own t q → P q
  leads_in t q on (first i) = among_on P (t ∷ []) (on, tt) q i
  leads_in t q on (onward {p = p} r i) = near p q (leads_in t p on r) i

  pub leads_on : (t u : TypeRef) → On P t → On (LeadsTo map m Own t) u → On P u
  leads_on t (ref.Basic b) on l = tt
  leads_on t (ref.Named q) on l = leads_in t q on l

  room_on : (t : TypeRef) → On P t → On (IsRoom map m) t → On L t
  room_on (ref.Basic b) on r = tt
  room_on (ref.Named q) on r = rooms q on r

  alias_in : (q : QName) (d : Option Desc) (u : TypeRef) → L q → map q ≡ d → target_of d ≡ Some u → On L u
  alias_in q None u on e f = absurd cc
  alias_in q (Some (desc.Alias k (ref.Basic b))) u on e f = let is : ref.Basic b ≡ u = cc in subst (On L) is tt
  alias_in q (Some (desc.Alias k (ref.Named r))) u on e f =
      let is : ref.Named r ≡ u = cc in
      subst (On L) is (flat q r on (ap (λ o. is_among (of_found (desc_leads way.Flat m q) o) r) e ∙ left_of _ _ (itself r)))
  alias_in q (Some (desc.Array k n t)) u on e f = absurd cc
  alias_in q (Some (desc.OpenArray k t)) u on e f = absurd cc
  alias_in q (Some (desc.Record r)) u on e f = absurd cc
  alias_in q (Some (desc.Const v)) u on e f = absurd cc
  alias_in q (Some (desc.Var k t)) u on e f = absurd cc
  alias_in q (Some (desc.Proc s)) u on e f = absurd cc
  alias_in q (Some (desc.Pointer k t)) u on e f = absurd cc
  alias_in q (Some (desc.ProcType k s)) u on e f = absurd cc

  target_in : (n : ℕ) (t : TypeRef) → On L t → On L (target map n t)
  unfolding target
  target_in zero t on = on
  target_in (suc n) (ref.Basic b) on = tt
  target_in (suc n) (ref.Named q) on = go (target_of (map q)) refl (λ u i. target_in n u i)
    where
      go : (o : Option TypeRef) → target_of (map q) ≡ o → ((u : TypeRef) → On L u → On L (target map n u)) → On L (follow (target_of (map q)) (ref.Named q) (λ u. target map n u))
      go None e more = subst (λ o. On L (follow o (ref.Named q) (λ u. target map n u))) (sym e) on
      go (Some u) e more = subst (λ o. On L (follow o (ref.Named q) (λ u. target map n u))) (sym e) (more u (alias_in q (map q) u on refl e))

  -- the type of a designator counts
  pub type_on : (Q : QName → Type 0) (d : Desig) → CountsOn P Q (counts_of_designator d) → On P (variable_type d)
  type_on Q (OfVariable v t) on = on.0
  type_on Q (Field d owner name t) on = (counts_back P Q (counts_of_designator d) (Shapes t ∷ []) on).0
  type_on Q (Index d n i at t) on = (third3 P Q (counts_of_designator d) (counts_of_expr i) (both t) on).0
  type_on Q (Deref d at t) on = (counts_back P Q (counts_of_designator d) (Shapes t ∷ []) on).0
  type_on Q (Guard d g aim at t) on = (counts_back P Q (counts_of_designator d) (Shapes t ∷ Shapes (ref.Named aim) ∷ []) on).0

  room_plain : (how : Passing) (d : Desig) (t : TypeRef) → RoomRead P L how (ValueOf d) t
  room_plain passing.Scalar d t = tt
  room_plain passing.Structure d t = tt
  room_plain passing.OpenArray d t = tt
  room_plain passing.Variable d t = tt
  room_plain passing.VariableRecord d t = tt
  room_plain passing.VariableOpenArray d t = tt

  room_value : (v : Value) (t : TypeRef) → On P t → RoomTied map m Own passing.Structure (Constant v) t → RoomRead P L passing.Structure (Constant v) t
  room_value (literal.Str text) t on tied = room_on t on tied
  room_value (literal.Bool b) t on tied = tt
  room_value (literal.Char b) t on tied = tt
  room_value (literal.Int b) t on tied = tt
  room_value (literal.Set b) t on tied = tt
  room_value literal.Nil t on tied = tt

  room_structure : (e : Expr) (t : TypeRef) → On P t → RoomTied map m Own passing.Structure e t → RoomRead P L passing.Structure e t
  room_structure (Constant v) t on tied = room_value v t on tied
  room_structure (ValueOf d) t on tied = tt
  room_structure (ProcedureValue q s) t on tied = tt
  room_structure (Monadic o x at) t on tied = tt
  room_structure (Dyadic o x y at) t on tied = tt
  room_structure (Logical o x y) t on tied = tt
  room_structure (CompareTexts r x y at) t on tied = tt
  room_structure (IsPointer x q) t on tied = tt
  room_structure (IsRecord d q) t on tied = tt
  room_structure (Length d) t on tied = tt
  room_structure (Call x es at r) t on tied = tt
  room_structure (CallVariable d es at r) t on tied = tt

  room_read : (how : Passing) (e : Expr) (t : TypeRef) → On P t → RoomTied map m Own how e t → RoomRead P L how e t
  room_read passing.Structure e t on tied = room_structure e t on tied
  room_read passing.Scalar e t on tied = tt
  room_read passing.OpenArray e t on tied = tt
  room_read passing.Variable e t on tied = tt
  room_read passing.VariableRecord e t on tied = tt
  room_read passing.VariableOpenArray e t on tied = tt

  rooms_read : (es : Actuals) → CountsOn P L (formals es) → ActualsTied map m Own es → RoomsRead P L es
  rooms_read NoActual fs tied = tt
  rooms_read (AnActual how t e rest) fs tied = (room_read how e t fs.0 tied.1, rooms_read rest fs.1 tied.2)

  receiver_room : (how : Passing) (e : Expr) (t : TypeRef) (q : QName) → ReceiverTied map m Own e q → RoomRead P L how e t
  receiver_room how (ValueOf d) t q by = room_plain how d t
  receiver_room how (Constant v) t q by = absurd by
  receiver_room how (ProcedureValue p s) t q by = absurd by
  receiver_room how (Monadic o x at) t q by = absurd by
  receiver_room how (Dyadic o x y at) t q by = absurd by
  receiver_room how (Logical o x y) t q by = absurd by
  receiver_room how (CompareTexts o x y at) t q by = absurd by
  receiver_room how (IsPointer x p) t q by = absurd by
  receiver_room how (IsRecord d p) t q by = absurd by
  receiver_room how (Length d) t q by = absurd by
  receiver_room how (Call x es at s) t q by = absurd by
  receiver_room how (CallVariable d es at s) t q by = absurd by

  super_room : (how : Passing) (e : Expr) (t : TypeRef) (q : QName) → SuperTied map m Own e q → RoomRead P L how e t
  super_room how (ValueOf d) t q by = room_plain how d t
  super_room how (Constant v) t q by = absurd by
  super_room how (ProcedureValue p s) t q by = absurd by
  super_room how (Monadic o x at) t q by = absurd by
  super_room how (Dyadic o x y at) t q by = absurd by
  super_room how (Logical o x y) t q by = absurd by
  super_room how (CompareTexts o x y at) t q by = absurd by
  super_room how (IsPointer x p) t q by = absurd by
  super_room how (IsRecord d p) t q by = absurd by
  super_room how (Length d) t q by = absurd by
  super_room how (Call x es at s) t q by = absurd by
  super_room how (CallVariable d es at s) t q by = absurd by

  call_rooms : (c : Callee) (es : Actuals) → CountsOn P L (formals (without_receiver (has_receiver c) es)) → ActualsTied map m Own es → CalleeTied map m Own c es → RoomsRead P L es
  call_rooms (callee.Declared q) es fs tied by = rooms_read es fs tied
  call_rooms (callee.Out p) es fs tied by = rooms_read es fs tied
  call_rooms (callee.Bound f r) NoActual fs tied by = tt
  call_rooms (callee.Bound f r) (AnActual how t e rest) fs tied by = (receiver_room how e t f.owner by, rooms_read rest fs tied.2)
  call_rooms (callee.Super base f r) NoActual fs tied by = tt
  call_rooms (callee.Super base f r) (AnActual how t e rest) fs tied by = (super_room how e t f.owner by, rooms_read rest fs tied.2)

  receiver_in : (e : Expr) (q : QName) → CountsOn P L (counts_of_expr e) → ReceiverTied map m Own e q → P q
  receiver_in (ValueOf d) q on by = leads_in (variable_type d) q (type_on L d on) by
  receiver_in (Constant v) q on by = absurd by
  receiver_in (ProcedureValue p s) q on by = absurd by
  receiver_in (Monadic o x at) q on by = absurd by
  receiver_in (Dyadic o x y at) q on by = absurd by
  receiver_in (Logical o x y) q on by = absurd by
  receiver_in (CompareTexts o x y at) q on by = absurd by
  receiver_in (IsPointer x p) q on by = absurd by
  receiver_in (IsRecord d p) q on by = absurd by
  receiver_in (Length d) q on by = absurd by
  receiver_in (Call x es at s) q on by = absurd by
  receiver_in (CallVariable d es at s) q on by = absurd by

  super_in : (e : Expr) (q : QName) → SuperTied map m Own e q → P q
  super_in (ValueOf d) q by = leads_in (ref.Named by.0) q (owned by.0 by.1) by.2
  super_in (Constant v) q by = absurd by
  super_in (ProcedureValue p s) q by = absurd by
  super_in (Monadic o x at) q by = absurd by
  super_in (Dyadic o x y at) q by = absurd by
  super_in (Logical o x y) q by = absurd by
  super_in (CompareTexts o x y at) q by = absurd by
  super_in (IsPointer x p) q by = absurd by
  super_in (IsRecord d p) q by = absurd by
  super_in (Length d) q by = absurd by
  super_in (Call x es at s) q by = absurd by
  super_in (CallVariable d es at s) q by = absurd by

  callee_in : (c : Callee) (es : Actuals) → CountsOn P L (counts_of_actuals es) → CalleeTied map m Own c es → CalleeRead P L c
  callee_in (callee.Declared q) es on by = tt
  callee_in (callee.Out p) es on by = tt
  callee_in (callee.Bound f r) NoActual on by = absurd by
  callee_in (callee.Bound f r) (AnActual how t e rest) on by = receiver_in e f.owner (counts_front P L (counts_of_expr e) (counts_of_actuals rest) on) by
  callee_in (callee.Super base f r) NoActual on by = absurd by
  callee_in (callee.Super base f r) (AnActual how t e rest) on by = super_in e f.owner by

  mutual
    pub desig_read : (d : Desig) → CountsOn P L (counts_of_designator d) → DesigTied map m Own d → DesigRead P L d
    desig_read (OfVariable v t) on tied = on.0
    desig_read (Field d owner name t) on tied =
        let f = counts_front P L (counts_of_designator d) (Shapes t ∷ []) on in
        (desig_read d f tied.0, leads_in (variable_type d) owner (type_on L d f) tied.1, (counts_back P L (counts_of_designator d) (Shapes t ∷ []) on).0)
    desig_read (Index d n i at t) on tied =
        let c = third3 P L (counts_of_designator d) (counts_of_expr i) (both t) on in
        (desig_read d (first3 P L (counts_of_designator d) (counts_of_expr i) (both t) on) tied.0, expr_read i (second3 P L (counts_of_designator d) (counts_of_expr i) (both t) on) tied.1, c.0, c.1.0)
    desig_read (Deref d at t) on tied = (desig_read d (counts_front P L (counts_of_designator d) (Shapes t ∷ []) on) tied, (counts_back P L (counts_of_designator d) (Shapes t ∷ []) on).0)
    desig_read (Guard d g aim at t) on tied = (desig_read d (counts_front P L (counts_of_designator d) (Shapes t ∷ Shapes (ref.Named aim) ∷ []) on) tied, (counts_back P L (counts_of_designator d) (Shapes t ∷ Shapes (ref.Named aim) ∷ []) on).0)

    pub expr_read : (e : Expr) → CountsOn P L (counts_of_expr e) → ExprTied map m Own e → ExprRead P L e
    expr_read (Constant v) on tied = tt
    expr_read (ValueOf d) on tied = desig_read d on tied
    expr_read (ProcedureValue q signature) on tied = tt
    expr_read (Monadic op e at) on tied = expr_read e on tied
    expr_read (Dyadic op a b at) on tied = (expr_read a (counts_front P L (counts_of_expr a) (counts_of_expr b) on) tied.0, expr_read b (counts_back P L (counts_of_expr a) (counts_of_expr b) on) tied.1)
    expr_read (Logical op a b) on tied = (expr_read a (counts_front P L (counts_of_expr a) (counts_of_expr b) on) tied.0, expr_read b (counts_back P L (counts_of_expr a) (counts_of_expr b) on) tied.1)
    expr_read (CompareTexts r a b at) on tied = (expr_read a (counts_front P L (counts_of_expr a) (counts_of_expr b) on) tied.0, expr_read b (counts_back P L (counts_of_expr a) (counts_of_expr b) on) tied.1)
    expr_read (IsPointer e aim) on tied = expr_read e (counts_front P L (counts_of_expr e) (Shapes (ref.Named aim) ∷ []) on) tied
    expr_read (IsRecord d aim) on tied = desig_read d (counts_front P L (counts_of_designator d) (Shapes (ref.Named aim) ∷ []) on) tied
    expr_read (Length d) on tied = desig_read d on tied
    expr_read (Call c es at t) on tied =
        let a = counts_front P L (counts_of_actuals es) (counts_of_call c es t) on in
        (actuals_read es a (call_rooms c es (counts_front P L (formals (without_receiver (has_receiver c) es)) (shapes (listed t)) (counts_back P L (counts_of_actuals es) (counts_of_call c es t) on)) tied.0 tied.1) tied.0, callee_in c es a tied.1)
    expr_read (CallVariable d es at t) on tied = (
      desig_read d (first3 P L (counts_of_designator d) (counts_of_actuals es) (counts_of_held_call es t) on) tied.0,
      actuals_read es (second3 P L (counts_of_designator d) (counts_of_actuals es) (counts_of_held_call es t) on) (rooms_read es (counts_front P L (formals es) (shapes (listed t)) (third3 P L (counts_of_designator d) (counts_of_actuals es) (counts_of_held_call es t) on)) tied.1) tied.1,
    )

    pub actuals_read : (es : Actuals) → CountsOn P L (counts_of_actuals es) → RoomsRead P L es → ActualsTied map m Own es → ActualsRead P L es
    actuals_read NoActual on rooms tied = tt
    actuals_read (AnActual how t e rest) on rooms tied = (expr_read e (counts_front P L (counts_of_expr e) (counts_of_actuals rest) on) tied.0, rooms.0, actuals_read rest (counts_back P L (counts_of_expr e) (counts_of_actuals rest) on) rooms.1 tied.2)

  result_read : (e : Option Expr) → CountsOn P L (counts_of_optional e) → ResultTied map m Own e → ResultRead P L e
  result_read None on tied = tt
  result_read (Some e) on tied = expr_read e on tied

  assigned_read : (how : Assigned) (d : Desig) → CountsOn P L (target_counts how (variable_type d)) → AssignedTied map m Own how d → AssignedRead P L how d
  assigned_read assigned.Scalar d on tied = tt
  assigned_read assigned.Text d on tied = tt
  assigned_read assigned.Array d on tied = on.0
  assigned_read (assigned.Record q) d on tied = subst (On L) tied (target_in 201 (variable_type d) on.0)

  made_read : (what : Made) → CountsOn P L (made_counts what) → MadeRead P L what
  made_read (made.Record q) on = tt
  made_read (made.Array t) on = on.0

  mutual
    pub stmt_read : (s : Stmt) → CountsOn P L (counts_of s) → StmtTied map m Own s → StmtRead P L s
    stmt_read (Assign d how e at) on tied =
        (desig_read d (first3 P L (counts_of_designator d) (counts_of_expr e) (target_counts how (variable_type d)) on) tied.0, expr_read e (second3 P L (counts_of_designator d) (counts_of_expr e) (target_counts how (variable_type d)) on) tied.1, assigned_read how d (third3 P L (counts_of_designator d) (counts_of_expr e) (target_counts how (variable_type d)) on) tied.2)
    stmt_read (CallProper e) on tied = expr_read e on tied
    stmt_read (Updated op d e at) on tied = (desig_read d (counts_front P L (counts_of_designator d) (counts_of_expr e) on) tied.0, expr_read e (counts_back P L (counts_of_designator d) (counts_of_expr e) on) tied.1)
    stmt_read (Copy e d at) on tied = (expr_read e (counts_front P L (counts_of_expr e) (counts_of_designator d) on) tied.0, desig_read d (counts_back P L (counts_of_expr e) (counts_of_designator d) on) tied.1)
    stmt_read (New d what at) on tied = (desig_read d (counts_front P L (counts_of_designator d) (made_counts what) on) tied.0, made_read what (counts_back P L (counts_of_designator d) (made_counts what) on))
    stmt_read (NewOpenArray d t n at) on tied =
        (desig_read d (first3 P L (counts_of_designator d) (counts_of_expr n) (Layouts t ∷ []) on) tied.0, expr_read n (second3 P L (counts_of_designator d) (counts_of_expr n) (Layouts t ∷ []) on) tied.1, (third3 P L (counts_of_designator d) (counts_of_expr n) (Layouts t ∷ []) on).0)
    stmt_read (Assert e number at) on tied = expr_read e on tied
    stmt_read (Halt number at) on tied = tt
    stmt_read (If branches otherwise) on tied = (branches_read branches (counts_front P L (counts_of_branches branches) (counts_of_all otherwise) on) tied.0, stmts_read otherwise (counts_back P L (counts_of_branches branches) (counts_of_all otherwise) on) tied.1)
    stmt_read (Case e cases otherwise at) on tied =
        (expr_read e (first3 P L (counts_of_expr e) (counts_of_cases cases) (counts_of_else otherwise) on) tied.0, cases_read cases (second3 P L (counts_of_expr e) (counts_of_cases cases) (counts_of_else otherwise) on) tied.1, else_read otherwise (third3 P L (counts_of_expr e) (counts_of_cases cases) (counts_of_else otherwise) on) tied.2)
    stmt_read (While e body at) on tied = (expr_read e (counts_front P L (counts_of_expr e) (counts_of_all body) on) tied.0, stmts_read body (counts_back P L (counts_of_expr e) (counts_of_all body) on) tied.1)
    stmt_read (Repeat body e at) on tied = (stmts_read body (counts_front P L (counts_of_all body) (counts_of_expr e) on) tied.0, expr_read e (counts_back P L (counts_of_all body) (counts_of_expr e) on) tied.1)
    stmt_read (For v w start stop step body at) on tied =
        (expr_read start (first3 P L (counts_of_expr start) (counts_of_expr stop) (counts_of_all body) on) tied.0, expr_read stop (second3 P L (counts_of_expr start) (counts_of_expr stop) (counts_of_all body) on) tied.1, stmts_read body (third3 P L (counts_of_expr start) (counts_of_expr stop) (counts_of_all body) on) tied.2)
    stmt_read (Loop body at) on tied = stmts_read body on tied
    stmt_read Exit on tied = tt
    stmt_read (Return e) on tied = result_read e on tied
    stmt_read (With branches otherwise at) on tied = (branches_read branches (counts_front P L (counts_of_branches branches) (counts_of_else otherwise) on) tied.0, else_read otherwise (counts_back P L (counts_of_branches branches) (counts_of_else otherwise) on) tied.1)

    pub stmts_read : (ss : Stmts) → CountsOn P L (counts_of_all ss) → StmtsTied map m Own ss → StmtsRead P L ss
    stmts_read Nothing on tied = tt
    stmts_read (Then s rest) on tied = (stmt_read s (counts_front P L (counts_of s) (counts_of_all rest) on) tied.0, stmts_read rest (counts_back P L (counts_of s) (counts_of_all rest) on) tied.1)

    pub branches_read : (bs : Branches) → CountsOn P L (counts_of_branches bs) → BranchesTied map m Own bs → BranchesRead P L bs
    branches_read NoBranch on tied = tt
    branches_read (Branch test body rest) on tied =
        (expr_read test (first3 P L (counts_of_expr test) (counts_of_all body) (counts_of_branches rest) on) tied.0, stmts_read body (second3 P L (counts_of_expr test) (counts_of_all body) (counts_of_branches rest) on) tied.1, branches_read rest (third3 P L (counts_of_expr test) (counts_of_all body) (counts_of_branches rest) on) tied.2)

    pub cases_read : (cs : Cases) → CountsOn P L (counts_of_cases cs) → CasesTied map m Own cs → CasesRead P L cs
    cases_read NoCase on tied = tt
    cases_read (OneCase labels body rest) on tied = (stmts_read body (counts_front P L (counts_of_all body) (counts_of_cases rest) on) tied.0, cases_read rest (counts_back P L (counts_of_all body) (counts_of_cases rest) on) tied.1)

    pub else_read : (o : Otherwise) → CountsOn P L (counts_of_else o) → ElseTied map m Own o → ElseRead P L o
    else_read NoElse on tied = tt
    else_read (Else body) on tied = stmts_read body on tied

  -- ---- procedures

  passed_read : (how : Passing) (t : TypeRef) → CountsOn P L (formal_counts (mode_of how, t)) → PassedRead P L how t
  passed_read passing.Scalar t on = tt
  passed_read passing.Structure t on = on.1.0
  passed_read passing.OpenArray t on = on.1.0
  passed_read passing.Variable t on = tt
  passed_read passing.VariableRecord t on = tt
  passed_read passing.VariableOpenArray t on = tt

  parameters_read : (xs : List TypedParameter) → CountsOn P L (flat_map counts_of_parameter xs) → AllByRecursion (ParameterRead P L) xs
  parameters_read [] on = tt
  parameters_read (x ∷ xs) on = (passed_read x.passing x.of (counts_front P L (counts_of_parameter x) (flat_map counts_of_parameter xs) on), parameters_read xs (counts_back P L (counts_of_parameter x) (flat_map counts_of_parameter xs) on))

  pub variables_read : (vs : List TypedVariable) → CountsOn P L (flat_map counts_of_variable vs) → AllByRecursion (λ v. On L v.of) vs
  variables_read [] on = tt
  variables_read (v ∷ vs) on = (on.1.0, variables_read vs on.1.1)

  binding_read : (b : Option Binding) → BindingTied map m Own b → BindingRead P L b
  binding_read None tied = tt
  binding_read (Some b) tied = leads_in (ref.Named b.owner) b.family.owner (owned b.owner tied.0) tied.1

  pub procedure_read : (types : Map) (p : Procedure) → CountsOn P L (counts_of_procedure types p) → ProcedureTied map m Own p → ProcedureRead P L p
  procedure_read types p on tied =
      let c1 = flat_map counts_of_parameter p.parameters in
      let c2 = shapes (listed p.result) in
      let c3 = flat_map counts_of_variable p.locals in
      let c4 = counts_of_binding types p.binding in
      let c5 = counts_of_all p.body in
      let f4 = counts_front P L (c1 ++ c2 ++ c3 ++ c4) c5 on in
      let f3 = counts_front P L (c1 ++ c2 ++ c3) c4 f4 in
      record {
        parameters = parameters_read p.parameters (first3 P L c1 c2 c3 f3);
        locals = variables_read p.locals (third3 P L c1 c2 c3 f3);
        binding = binding_read p.binding tied.binding;
        body = stmts_read p.body (counts_back P L (c1 ++ c2 ++ c3 ++ c4) c5 on) tied.body;
      }

  pub procedures_read : (types : Map) (ps : List Procedure) → CountsOn P L (flat_map (counts_of_procedure types) ps) → AllByRecursion (ProcedureTied map m Own) ps → AllByRecursion (ProcedureRead P L) ps
  procedures_read types [] on tied = tt
  procedures_read types (p ∷ ps) on tied = (procedure_read types p (counts_front P L (counts_of_procedure types p) (flat_map (counts_of_procedure types) ps) on) tied.0, procedures_read types ps (counts_back P L (counts_of_procedure types p) (flat_map (counts_of_procedure types) ps) on) tied.1)
