-- Every part of a program goes on: turns never rise, output only grows, and calls end.
use Rattle.std.proofs.Common.{◌≡◌, ℕ, zero, suc, List, [], ◌∷◌, ◌++◌, refl, sym, ◌∙◌, ap, append_assoc, append-nil, Bool, true, false, Option, Some, None, arith}
use Rattle.std.specs.Prelude.{ℤ, pos, negsuc, nat_lt, nat_le, unsigned_abs}
use Rattle.ob_trap.specs.declared.trap.Trap.TheVariants as trap
use Rattle.ob_tree.specs.declared.pos.Pos.{Pos}
use Rattle.ob_tree.specs.declared.names.QName.{QName}
use Rattle.ob_types.specs.declared.types.TypeRef.{TypeRef}
use Rattle.ob_types.specs.declared.desc.Receiver.{Receiver}
use Rattle.ob_types.specs.declared.desc.Receiver.TheVariants as receiver
use Rattle.ob_types.specs.declared.typed.Passing.{Passing}
use Rattle.ob_types.specs.declared.typed.Passing.TheVariants as passing
use Rattle.ob_types.specs.declared.typed.Variable.{Variable}
use Rattle.ob_types.specs.declared.typed.Guarded.{Guarded}
use Rattle.ob_types.specs.declared.typed.Connective.{Connective}
use Rattle.ob_types.specs.declared.typed.Connective.TheVariants as connective
use Rattle.ob_types.specs.declared.typed.OutProcedure.{OutProcedure}
use Rattle.ob_types.specs.declared.typed.OutProcedure.TheVariants as out
use Rattle.ob_types.specs.declared.typed.Family.{Family}
use Rattle.ob_types.specs.declared.typed.Callee.{Callee}
use Rattle.ob_types.specs.declared.typed.Callee.TheVariants as callee
use Rattle.ob_types.specs.declared.typed.Assigned.{Assigned}
use Rattle.ob_types.specs.declared.typed.Assigned.TheVariants as assigned
use Rattle.ob_types.specs.declared.typed.Update.{Update}
use Rattle.ob_types.specs.declared.typed.Update.TheVariants as update
use Rattle.ob_types.specs.TypedSyntax.{Desig, OfVariable, Field, Index, Deref, Guard, Expr, Constant, ValueOf, ProcedureValue, Monadic, Dyadic, Logical, CompareTexts, IsPointer, IsRecord, Length, Call, CallVariable, Actuals, NoActual, AnActual, Stmt, Assign, CallProper, Updated, Copy, New, NewOpenArray, Assert, Halt, If, Case, While, Repeat, For, Loop, Exit, Return, With, Stmts, Nothing, Then, Branches, NoBranch, Branch, Cases, NoCase, OneCase, Otherwise, NoElse, Else, Procedure}
use Rattle.ob_meaning.specs.Values as values
use Rattle.ob_meaning.specs.Values.{Program, procedure_of, Value, Truth, Character, Integer, SetOf, Nil, Object, ProcedureAt, Elements, Record, Place, Store, Active, State, AnObject}
use Rattle.ob_meaning.specs.Results.{M, Res, Gives, Stops, Why, Trapped, bind, ◌>>=◌, give, stop, spend_of, spend, read, assign, write, Passed, ByValue, ByPlace, Around}
use Rattle.ob_meaning.specs.Operators as operators
use Rattle.ob_types.specs.Numbers as numbers
use Rattle.ob_meaning.specs.Operators.{Computed, Is, Traps}
use Rattle.ob_meaning.specs.Meaning as meaning
use Rattle.ob_meaning.specs.Meaning.{Flow, Done, Leaves, Back, Round, Again, Leave, Source, Stands, Text, place, value, source, actuals, exec, execs, exec_branches, exec_cases, exec_else}
use Rattle.ob_meaning.specs.Calls as calls
use Rattle.ob_meaning.specs.Calls.{around, calling, called, invoke, begun, ended}
use Rattle.ob_meaning.specs.Laws.{Later, Onward, in_program}

-- LATER STATES

abbrev now : (s : State) → Later s s
now s = record { turns = omega arith; added = []; out = sym (append-nil s.out) }

abbrev then_later : {s t r : State} → Later s t → Later t r → Later s r
then_later {s} a b = record {
  turns = let h = a.turns in let g = b.turns in omega arith;
  added = a.added ++ b.added;
  out = b.out ∙ (ap (λ o. o ++ b.added) a.out ∙ append_assoc s.out a.added b.added);
}

abbrev onward_from : {A : Type 0} {s t : State} → Later s t → t.calls ≡ s.calls → (r : Res A) → Onward t r → Onward s r
onward_from a e (Gives x q) h = (then_later a h.0, h.1 ∙ e)
onward_from a e (Stops why q) h = then_later a h

pub record Keeps {A : Type 0} (m : M A) : Type 0 where
  pub at : (s : State) → Onward s (m s)

abbrev onward_bind : {A B : Type 0} (s : State) (r : Res A) (k : A → M B) → Onward s r → ((a : A) → Keeps (k a)) → Onward s (bind r k)
onward_bind s (Gives a t) k h g = onward_from h.0 h.1 (k a t) ((g a).at t)
onward_bind s (Stops why t) k h g = h

pub keep_bind : {A B : Type 0} {m : M A} {k : A → M B} → Keeps m → ((a : A) → Keeps (k a)) → Keeps (m >>= k)
keep_bind {m = m} {k = k} h g = record { at = λ s. onward_bind s (m s) k (h.at s) g }

pub keep_give : {A : Type 0} (a : A) → Keeps (give a)
keep_give a = record { at = λ s. (now s, refl) }

pub keep_stop : {A : Type 0} (why : Why) → Keeps {A = A} (stop why)
keep_stop why = record { at = λ s. now s }

-- THE PARTS OF THE MEANING

pub keep_choose : {A : Type 0} (b : Bool) {m other : M A} → Keeps m → Keeps other → Keeps (meaning.choose b m other)
keep_choose true h g = h
keep_choose false h g = g

pub keep_give_or : {A : Type 0} (o : Option A) {other : M A} → Keeps other → Keeps (meaning.give_or o other)
keep_give_or None h = h
keep_give_or (Some a) h = keep_give a

pub keep_computed : (c : Computed) (u : Around) (at : Pos) → Keeps (meaning.computed c u at)
keep_computed (Is v) u at = keep_give v
keep_computed (Traps kind) u at = keep_stop _

pub keep_find : (v : Variable) → Keeps (meaning.find v)
keep_find v = record { at = λ s. (now s, refl) }

pub keep_read : (p : Place) → Keeps (read p)
keep_read p = record { at = λ s. (now s, refl) }

abbrev same_out : (s t : State) → t.turns ≡ s.turns → t.out ≡ s.out → Later s t
same_out s t e o = record { turns = omega arith; added = []; out = o ∙ sym (append-nil s.out) }

pub keep_assign : (p : Place) (v : Value) → Keeps (assign p v)
keep_assign p v = record { at = λ s. (same_out s _ refl refl, refl) }

pub keep_write : (text : List ℕ) → Keeps (write text)
keep_write text = record { at = λ s. (record { turns = omega arith; added = text; out = refl }, refl) }

abbrev spend_at : {A : Type 0} (n : ℕ) (unit : List ℕ) (at : Pos) {m : M A} → Keeps m → (s : State) → s.turns ≡ n → Onward s (spend_of n unit at m s)
spend_at zero unit at h s e = now s
spend_at (suc n) unit at {m} h s e =
    onward_from {s = s} {t = record s { turns = n }} (record { turns = omega arith; added = []; out = sym (append-nil s.out) }) refl (m (record s { turns = n })) (h.at (record s { turns = n }))

pub keep_spend : {A : Type 0} (unit : List ℕ) (at : Pos) {m : M A} → Keeps m → Keeps (spend unit at m)
keep_spend unit at h = record { at = λ s. spend_at s.turns unit at h s refl }

pub keep_pointee : (v : Value) (u : Around) (at : Pos) → Keeps (meaning.pointee v u at)
keep_pointee (Object n) u at = keep_give _
keep_pointee v u at = keep_stop _

pub keep_element_place : (n : ℕ) (p : Place) (i : ℤ) (u : Around) (at : Pos) → Keeps (meaning.element_place n p i u at)
keep_element_place n p (pos i) u at = keep_choose (nat_lt i n) (keep_give _) (keep_stop _)
keep_element_place n p (negsuc i) u at = keep_stop _

pub keep_indexed : (n : Option ℕ) (p : Place) (i : ℤ) (u : Around) (at : Pos) → Keeps (meaning.indexed n p i u at)
keep_indexed n p i u at = record { at = λ s. (keep_element_place (meaning.array_length n s.store p) p i u at).at s }

pub keep_guarded : (g : Guarded) (target : QName) (p : Place) (u : Around) (at : Pos) → Keeps (meaning.guarded_place g target p u at)
keep_guarded g target p u at = record { at = λ s. (keep_choose (meaning.is_extension u.program (meaning.dynamic_type g s.store p) target) (keep_give p) (keep_stop (Trapped trap.GuardFails (pos 0) u.unit at))).at s }

pub keep_text : (x : Source) (u : Around) (at : Pos) → Keeps (meaning.text_of x u at)
keep_text x u at = record { at = λ s. (keep_give_or (meaning.text_in x s.store) (keep_stop (Trapped trap.NoEnd (pos 0) u.unit at))).at s }

pub keep_pass : (how : Passing) {m : M Value} {where_ : M Source} → Keeps m → Keeps where_ → Keeps (meaning.pass how m where_)
keep_pass passing.Scalar h g = keep_bind h (λ v. keep_give _)
keep_pass how h g = keep_bind g (λ x. keep_give _)

-- CALLS, where what is called keeps on

pub record CallsKeep (u : Around) : Type 0 where
  pub call : (q : QName) (xs : List Passed) (unit : List ℕ) (at : Pos) → Keeps (u.call q xs unit at)

pub keep_found : (q : Option QName) (xs : List Passed) (u : Around) (at : Pos) → CallsKeep u → Keeps (meaning.call_found q xs u at)
keep_found None xs u at c = keep_give _
keep_found (Some q) xs u at c = c.call q xs u.unit at

pub keep_bound : (r : Receiver) (family : Family) (xs : List Passed) (u : Around) (at : Pos) → CallsKeep u → Keeps (meaning.call_bound r family xs u at)
keep_bound receiver.Record family (ByPlace p ∷ xs) u at c = record { at = λ s. (keep_found _ (ByPlace p ∷ xs) u at c).at s }
keep_bound receiver.Pointer family (ByValue (Object n) ∷ xs) u at c = record { at = λ s. (keep_found _ (ByValue (Object n) ∷ xs) u at c).at s }
keep_bound r family xs u at c = keep_stop _

pub keep_out_text : (p : OutProcedure) (xs : List Passed) (u : Around) (at : Pos) → Keeps (meaning.out_text p xs u at)
keep_out_text out.Char (c ∷ xs) u at = keep_give _
keep_out_text out.Str (x ∷ xs) u at = keep_text (meaning.source_from x) u at
keep_out_text out.Int (i ∷ n ∷ xs) u at = keep_give _
keep_out_text out.Ln xs u at = keep_give _
keep_out_text p xs u at = keep_give _

pub keep_out : (p : OutProcedure) (xs : List Passed) (u : Around) (at : Pos) → Keeps (meaning.call_out p xs u at)
keep_out p xs u at = keep_bind (keep_spend u.unit at (keep_bind (keep_out_text p xs u at) (λ text. keep_write text))) (λ x. keep_give None)

pub keep_named : (c : Callee) (xs : List Passed) (u : Around) (at : Pos) → CallsKeep u → Keeps (meaning.call_named c xs u at)
keep_named (callee.Declared q) xs u at c = c.call q xs u.unit at
keep_named (callee.Bound family r) xs u at c = keep_bound r family xs u at c
keep_named (callee.Super base family r) xs u at c = keep_found _ xs u at c
keep_named (callee.Out p) xs u at c = keep_out p xs u at

pub keep_held : (v : Value) (xs : List Passed) (u : Around) (at : Pos) → CallsKeep u → Keeps (meaning.call_held v xs u at)
keep_held (ProcedureAt q) xs u at c = c.call q xs u.unit at
keep_held v xs u at c = keep_stop _

pub keep_connect : (op : Connective) (v : Value) {m : M Value} → Keeps m → Keeps (meaning.connect op v m)
keep_connect connective.And v h = keep_choose _ h (keep_give _)
keep_connect connective.Or v h = keep_choose _ (keep_give _) h

pub keep_is_type : (u : Around) (type : Store → Option QName) (target : QName) → Keeps (meaning.is_type u type target)
keep_is_type u type target = record { at = λ s. (now s, refl) }

-- DESIGNATORS AND EXPRESSIONS

module _ (u : Around) (c : CallsKeep u) where
  mutual
    pub keep_place : (d : Desig) → Keeps (place d u)
    keep_place (OfVariable v t) = keep_find v
    keep_place (Field d owner name t) = keep_bind (keep_place d) (λ p. keep_give _)
    keep_place (Index d n i at t) = keep_bind (keep_place d) (λ p. keep_bind (keep_value i) (λ v. keep_indexed n p _ u at))
    keep_place (Deref d at t) = keep_bind (keep_place d) (λ p. keep_bind (keep_read p) (λ v. keep_pointee v u at))
    keep_place (Guard d g target at t) = keep_bind (keep_place d) (λ p. keep_guarded g target p u at)

    pub keep_value : (e : Expr) → Keeps (value e u)
    keep_value (Constant v) = keep_give _
    keep_value (ValueOf d) = keep_bind (keep_place d) (λ p. keep_read p)
    keep_value (ProcedureValue q signature) = keep_give _
    keep_value (Monadic op e at) = keep_bind (keep_value e) (λ v. keep_computed _ u at)
    keep_value (Dyadic op a b at) = keep_bind (keep_value a) (λ v. keep_bind (keep_value b) (λ w. keep_computed _ u at))
    keep_value (Logical op a b) = keep_bind (keep_value a) (λ v. keep_connect op v (keep_value b))
    keep_value (CompareTexts r a b at) = keep_bind (keep_source a) (λ x. keep_bind (keep_source b) (λ y. keep_bind (keep_text x u at) (λ v. keep_bind (keep_text y u at) (λ w. keep_give _))))
    keep_value (IsPointer e target) = keep_bind (keep_value e) (λ v. keep_is_type u _ target)
    keep_value (IsRecord d target) = keep_bind (keep_place d) (λ p. keep_is_type u _ target)
    keep_value (Length d) = keep_bind (keep_place d) (λ p. keep_bind (keep_read p) (λ v. keep_give (Integer (pos (values.length_of v)))))
    keep_value (Call x es at t) = keep_bind (keep_actuals es) (λ xs. keep_bind (keep_named x xs u at c) (λ v. keep_give _))
    keep_value (CallVariable d es at t) = keep_bind (keep_place d) (λ p. keep_bind (keep_read p) (λ v. keep_bind (keep_actuals es) (λ xs. keep_bind (keep_held v xs u at c) (λ w. keep_give (meaning.result_of w)))))

    pub keep_source : (e : Expr) → Keeps (source e u)
    keep_source (ValueOf d) = keep_bind (keep_place d) (λ p. keep_give _)
    keep_source (Constant v) = keep_give _
    keep_source e = keep_give _

    pub keep_actuals : (es : Actuals) → Keeps (actuals es u)
    keep_actuals NoActual = keep_give _
    keep_actuals (AnActual how t e rest) = keep_bind (keep_pass how (keep_value e) (keep_source e)) (λ x. keep_bind (keep_actuals rest) (λ xs. keep_give _))

-- STATEMENTS

pub keep_assigned : (how : Assigned) (p : Place) {m : M Value} {where_ : M Source} (u : Around) (at : Pos) → Keeps m → Keeps where_ → Keeps (meaning.assigned_by how p m where_ u at)
keep_assigned assigned.Scalar p u at h g = keep_bind h (λ v. keep_assign p v)
keep_assigned assigned.Text p u at h g = keep_bind g (λ x. keep_bind (keep_read p) (λ v. keep_assign p (operators.with_text (meaning.source_text x) (values.length_of v) (values.element_of v))))
keep_assigned assigned.Array p u at h g = keep_bind g (λ x. record { at = λ s. (keep_assign p _).at s })
keep_assigned (assigned.Record q) p u at h g = keep_bind g (λ x. record { at = λ s. (keep_choose (meaning.is_exactly (values.type_of (values.value_at s.store p)) q) (keep_assign p (meaning.as_record u.program q (meaning.source_value x s.store))) (keep_stop (Trapped trap.OtherType (pos 0) u.unit at))).at s })

pub keep_copy : (x : Source) (p : Place) (u : Around) (at : Pos) → Keeps (meaning.copy_text x p u at)
keep_copy x p u at = keep_bind (keep_text x u at) (λ text. keep_bind (keep_read p) (λ v. keep_assign p (operators.with_text (meaning.shortened (values.length_of v) text) (values.length_of v) (values.element_of v))))

pub keep_object : (x : AnObject) (p : Place) → Keeps (meaning.with_object x p)
keep_object x p = record { at = λ s. (same_out s _ refl refl, refl) }

pub keep_make : (x : AnObject) (p : Place) (u : Around) (at : Pos) → Keeps (meaning.make x p u at)
keep_make x p u at = record { at = λ s. (keep_choose (nat_le (meaning.costs_of (x ∷ s.made)) u.heap) (keep_object x p) (keep_stop (Trapped trap.HeapFull (pos 0) u.unit at))).at s }

pub keep_make_open : (n : ℤ) (t : TypeRef) (p : Place) (u : Around) (at : Pos) → Keeps (meaning.make_open n t p u at)
keep_make_open n t p u at = keep_choose (numbers.is_positive n) (keep_make (values.Opened (unsigned_abs n) (values.form_in u.program t)) p u at) (keep_stop (Trapped trap.NoLength (pos 0) u.unit at))

pub keep_done : {m : M (Unit {0})} → Keeps m → Keeps (meaning.done m)
keep_done h = keep_bind h (λ x. keep_give Done)

pub keep_go_on : (f : Flow) {m : M Flow} → Keeps m → Keeps (meaning.go_on f m)
keep_go_on Done h = h
keep_go_on Leaves h = keep_give _
keep_go_on (Back v) h = keep_give _

pub keep_turn : (r : Round) {m : M Flow} → Keeps m → Keeps (meaning.turn r m)
keep_turn Again h = h
keep_turn (Leave f) h = keep_give f

pub keep_loop : (n : ℕ) (unit : List ℕ) (at : Pos) {round : M Round} → Keeps round → Keeps (meaning.loop n unit at round)
keep_loop zero unit at h = keep_bind h (λ r. keep_turn r (keep_stop _))
keep_loop (suc n) unit at h = keep_bind h (λ r. keep_turn r (keep_spend unit at (keep_loop n unit at h)))

pub keep_after : (f : Flow) {m : M Round} → Keeps m → Keeps (meaning.after_body f m)
keep_after Done h = h
keep_after Leaves h = keep_give _
keep_after (Back v) h = keep_give _

pub keep_keep : (at : Pos) (v : Value) → Keeps (meaning.keep at v)
keep_keep at v = record { at = λ s. (same_out s _ refl refl, refl) }

pub keep_kept : (at : Pos) → Keeps (meaning.kept at)
keep_kept at = record { at = λ s. (now s, refl) }

pub keep_for_test : (v : Variable) (step : ℤ) (at : Pos) → Keeps (meaning.for_test v step at)
keep_for_test v step at = keep_bind (keep_find v) (λ p. keep_bind (keep_read p) (λ i. keep_bind (keep_kept at) (λ n. keep_give (meaning.is_within step i n))))

pub keep_update : (op : Update) (p : Place) (n : Value) (u : Around) (at : Pos) → Keeps (meaning.update_at op p n u at)
keep_update op p n u at = keep_bind (keep_read p) (λ v. keep_bind (keep_computed (operators.updated op v n) u at) (λ w. keep_assign p w))

module _ (u : Around) (c : CallsKeep u) where
  pub keep_optional : (e : Option Expr) → Keeps (meaning.optional e u)
  keep_optional None = keep_give _
  keep_optional (Some e) = keep_bind (keep_value u c e) (λ v. keep_give _)

  mutual
    pub keep_exec : (s : Stmt) → Keeps (exec s u)
    keep_exec (Assign d how e at) = keep_bind (keep_place u c d) (λ p. keep_done (keep_assigned how p u at (keep_value u c e) (keep_source u c e)))
    keep_exec (CallProper e) = keep_bind (keep_value u c e) (λ v. keep_give _)
    keep_exec (Updated op d e at) = keep_bind (keep_place u c d) (λ p. keep_bind (keep_value u c e) (λ n. keep_done (keep_update op p n u at)))
    keep_exec (Copy e d at) = keep_bind (keep_source u c e) (λ x. keep_bind (keep_place u c d) (λ p. keep_done (keep_copy x p u at)))
    keep_exec (New d what at) = keep_bind (keep_place u c d) (λ p. keep_done (keep_make _ p u at))
    keep_exec (NewOpenArray d t n at) = keep_bind (keep_place u c d) (λ p. keep_bind (keep_value u c n) (λ v. keep_done (keep_make_open (values.integer_of v) t p u at)))
    keep_exec (Assert e number at) = keep_bind (keep_value u c e) (λ v. keep_choose _ (keep_give _) (keep_stop _))
    keep_exec (Halt number at) = keep_stop _
    keep_exec (If branches otherwise) = keep_branches branches (keep_execs otherwise)
    keep_exec (Case e cases otherwise at) = keep_bind (keep_value u c e) (λ v. keep_bind (keep_keep at (Integer (values.integer_of v))) (λ x. keep_cases cases (values.integer_of v) (keep_else otherwise (keep_stop (Trapped trap.NoCase (pos 0) u.unit at)))))
    keep_exec (While e body at) = keep_loop u.bound u.unit at (keep_bind (keep_value u c e) (λ v. keep_choose _ (keep_bind (keep_execs body) (λ f. keep_after f (keep_give Again))) (keep_give _)))
    keep_exec (Repeat body e at) = keep_loop u.bound u.unit at (keep_bind (keep_execs body) (λ f. keep_after f (keep_bind (keep_value u c e) (λ v. keep_choose _ (keep_give _) (keep_give _)))))
    keep_exec (For v w start end step body at) =
        keep_bind (keep_value u c end) (λ n. keep_bind (keep_keep at n) (λ x.
        keep_bind (keep_find v) (λ p. keep_bind (keep_value u c start) (λ i. keep_bind (keep_assign p i) (λ x.
        keep_loop u.bound u.unit at (keep_bind (keep_for_test v step at) (λ b. keep_choose b (keep_bind (keep_execs body) (λ f. keep_after f (keep_bind (keep_find v) (λ q. keep_bind (keep_update (update.Inc w) q (Integer step) u at) (λ x. keep_give Again))))) (keep_give (Leave Done)))))))))
    keep_exec (Loop body at) = keep_loop u.bound u.unit at (keep_bind (keep_execs body) (λ f. keep_give _))
    keep_exec Exit = keep_give _
    keep_exec (Return e) = keep_bind (keep_optional e) (λ v. keep_give _)
    keep_exec (With branches otherwise at) = keep_branches branches (keep_else otherwise (keep_stop _))

    pub keep_execs : (b : Stmts) → Keeps (execs b u)
    keep_execs Nothing = keep_give _
    keep_execs (Then s rest) = keep_bind (keep_exec s) (λ f. keep_go_on f (keep_execs rest))

    pub keep_branches : (b : Branches) {other : M Flow} → Keeps other → Keeps (exec_branches b u other)
    keep_branches NoBranch h = h
    keep_branches (Branch test body rest) h = keep_bind (keep_value u c test) (λ v. keep_choose _ (keep_execs body) (keep_branches rest h))

    pub keep_cases : (b : Cases) (z : ℤ) {other : M Flow} → Keeps other → Keeps (exec_cases b z u other)
    keep_cases NoCase z h = h
    keep_cases (OneCase labels body rest) z h = keep_choose _ (keep_execs body) (keep_cases rest z h)

    pub keep_else : (b : Otherwise) {other : M Flow} → Keeps other → Keeps (exec_else b u other)
    keep_else NoElse h = h
    keep_else (Else body) h = keep_execs body

-- CALLS

-- the body of a call, with its own call on top, and its end
abbrev after_end : (s t : State) → Later s t → t.calls ≡ s.calls → (a : Active) (rest : List Active) → s.calls ≡ a ∷ rest → calls.without_newest t.calls ≡ rest
after_end s t l e a rest h = ap calls.without_newest (e ∙ h)

abbrev end_flow : (b s : State) (a : Active) → Later s b → b.calls ≡ a ∷ s.calls → (f : Flow) (p : Procedure) (q : QName) (t : State) → Later b t → t.calls ≡ b.calls → Onward s (calls.result_of_flow f p q t)
end_flow b s a l h Done p q t m e = at_end p.result
  where
    at_end : (r : Option TypeRef) → Onward s (calls.result_at_end r q.module p.at t)
    at_end None = (then_later (then_later l m) (same_out t (ended t) refl refl), ap calls.without_newest (e ∙ h))
    at_end (Some r) = then_later l m
end_flow b s a l h Leaves p q t m e = (then_later (then_later l m) (same_out t (ended t) refl refl), ap calls.without_newest (e ∙ h))
end_flow b s a l h (Back v) p q t m e = (then_later (then_later l m) (same_out t (ended t) refl refl), ap calls.without_newest (e ∙ h))

abbrev end_result : (b s : State) (a : Active) → Later s b → b.calls ≡ a ∷ s.calls → (p : Procedure) (q : QName) (r : Res Flow) → Onward b r → Onward s (bind r (λ f. calls.result_of_flow f p q))
end_result b s a l h p q (Gives f t) o = end_flow b s a l h f p q t o.0 o.1
end_result b s a l h p q (Stops why t) o = then_later l o

pub keep_room : {A : Type 0} (b : Bool) (unit : List ℕ) (at : Pos) {m : M A} → Keeps m → Keeps (calls.if_room b unit at m)
keep_room true unit at h = h
keep_room false unit at h = keep_stop _

pub keep_invoke : (program : Program) (q : QName) (p : Procedure) {body : M Flow} (xs : List Passed) (unit : List ℕ) (at : Pos) → Keeps body → Keeps (invoke program q p body xs unit at)
keep_invoke program q p {body} xs unit at h = record {
  at = λ s. (keep_room (calls.has_room (begun program q p xs s).calls) unit at
      (record { at = λ t. end_result (begun program q p xs t) t _ (same_out t (begun program q p xs t) refl refl) refl p q (body (begun program q p xs t)) (h.at (begun program q p xs t)) })).at s;
}

pub keep_calling : (program : Program) (heap n : ℕ) (q : QName) (xs : List Passed) (unit : List ℕ) (at : Pos) → Keeps (calling program heap n q xs unit at)
keep_calling program heap zero q xs unit at = keep_stop _
keep_calling program heap (suc n) q xs unit at = keep_spend unit at (found (procedure_of program q) (record { call = λ q xs unit at. keep_calling program heap n q xs unit at }))
  where
    found : (o : Option Procedure) → CallsKeep (around program heap n (calling program heap n) q.module) → Keeps (called o program heap n (calling program heap n) q xs unit at)
    found None c = keep_give _
    found (Some p) c = keep_invoke program q p xs unit at (keep_execs _ c p.body)

pub calls_keep : (program : Program) (heap n : ℕ) (unit : List ℕ) → CallsKeep (in_program program heap n unit)
calls_keep program heap n unit = record { call = keep_calling program heap n }
