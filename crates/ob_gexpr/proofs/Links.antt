-- The code of chains, link by link.
use Rattle.std.specs.Prelude.{pos}
use Rattle.std.specs.Option.{option_map, option_copied}
use Rattle.std.proofs.Common.{◌≡◌, ◌<◌, ℕ, suc, ◌-◌, List, [], ◌∷◌, ◌++◌, length, slice_index_or, append_assoc, arith, Option, Some, None, refl, sym, ap, ◌∙◌, Bor}
use Rattle.ob_tree.specs.declared.pos.Pos.{Pos}
use Rattle.ob_tree.specs.declared.names.QName.{QName}
use Rattle.ob_types.specs.declared.types.TypeRef.{TypeRef}
use Rattle.ob_types.specs.declared.typed.Variable.{Variable}
use Rattle.ob_types.specs.declared.typed.Guarded.{Guarded}
use Rattle.ob_types.specs.declared.typed.Connective.TheVariants as connective
use Rattle.ob_types.specs.declared.typed.Designator.{Designator}
use Rattle.ob_types.specs.declared.typed.Designator.TheVariants as d
use Rattle.ob_types.specs.declared.typed.TypedExpr.{TypedExpr}
use Rattle.ob_types.specs.TypedView.{designator_view, expr_view}
use Rattle.ob_types.proofs.TypedViews.{view_variable, view_field, view_index, view_deref, view_guard}
use Rattle.ob_types.specs.TypedSyntax.{Desig, OfVariable, Field, Index, Deref, Guard, Expr, Constant, ValueOf, ProcedureValue, Monadic, Dyadic, Logical, CompareTexts, IsPointer, IsRecord, Length, Call, CallVariable}
use Rattle.ob_instr.specs.declared.opcode.Opcode.TheVariants as op
use Rattle.ob_scheme.specs.declared.want.Want.{Want}
use Rattle.ob_scheme.specs.declared.want.Want.TheVariants as want
use Rattle.ob_scheme.specs.Numbers.{instr}
use Rattle.ob_scheme.specs.Lines.{plain, count, jump, jump_if_false}
use Rattle.ob_scheme.specs.Context.{Context}
use Rattle.ob_scheme.specs.Coded.{Coded, appended, place_in, with_instr}
use Rattle.ob_scheme.specs.Expressions.{index_want, guard_want, end_desig, end_expr, desig_code, expr_code}
use Rattle.ob_scheme.proofs.Ends.{desig_ends, expr_ends}
use Rattle.ob_scheme.proofs.Appends.{appended_length, appended_two, appended_none, put_two, next_place, put_aimed}
use Rattle.ob_gexpr.specs.Chains.{left_of, selector_code, operator_code, with_selector, with_operator, outward}

-- ---- the way in, and the way out

outward_more : {A B : Type 0} (f : A → B → B) (xs : List A) (x : A) (k : B) → outward f (xs ++ x ∷ []) k ≡ outward f xs (f x k)
outward_more f [] x k = refl
outward_more f (y ∷ xs) x k = ap (f y) (outward_more f xs x k)

-- a link more
pub inward_turn : {A B : Type 0} (f : A → B → B) (xs : List A) (x : A) (k m whole : B) → f x k ≡ m → outward f xs m ≡ whole → outward f (xs ++ x ∷ []) k ≡ whole
inward_turn f xs x k m whole h inv = outward_more f xs x k ∙ ap (outward f xs) h ∙ inv

-- the last link put
pub outward_turn : {A B : Type 0} (f : A → B → B) (all xs : List A) (x : A) (k m whole : B) → all ≡ xs ++ x ∷ [] → m ≡ f x k → outward f all k ≡ whole → outward f xs m ≡ whole
outward_turn f all xs x k m whole e h inv = ap (outward f xs) h ∙ sym (outward_more f xs x k) ∙ ap (λ l. outward f l k) (sym e) ∙ inv

-- none left
pub outward_over : {A B : Type 0} (f : A → B → B) (all : List A) (n : ℕ) (r : Option A) (k whole : B) → n ≡ length all → ((x : A) → r ≡ Some x → ⊥) → ((x : A) → 0 < n → r ≡ Some (slice_index_or all (n - 1) x)) → outward f all k ≡ whole → k ≡ whole
outward_over f [] n r k whole many none last inv = inv
outward_over f (x ∷ xs) n r k whole many none last inv = absurd (none _ (last x (omega (arith, many))))

-- ---- one link

pub selector_link : (c : Context) (w v : Want) (d inner : Desig) (k : Coded) → ((n : ℕ) → desig_code c w d n ≡ desig_code c v inner n ++ selector_code c w d (end_desig c v inner n)) → with_selector c w d (appended k (desig_code c v inner (place_in k))) ≡ appended k (desig_code c w d (place_in k))
selector_link c w v d inner k h =
    let pc = place_in k in
    let x = desig_code c v inner pc in
    let p = end_desig c v inner pc in
    let l : place_in (appended k x) ≡ p = appended_length k x ∙ sym (desig_ends c v inner pc) in
    ap (λ n. appended (appended k x) (selector_code c w d n)) l ∙ appended_two k x (selector_code c w d p) ∙ ap (appended k) (sym (h pc))

pub operator_link : (c : Context) (w v : Want) (e left : Expr) (k : Coded) → ((n : ℕ) → expr_code c w e n ≡ expr_code c v left n ++ operator_code c w e (end_expr c v left n)) → with_operator c w e (appended k (expr_code c v left (place_in k))) ≡ appended k (expr_code c w e (place_in k))
operator_link c w v e left k h =
    let pc = place_in k in
    let x = expr_code c v left pc in
    let p = end_expr c v left pc in
    let l : place_in (appended k x) ≡ p = appended_length k x ∙ sym (expr_ends c v left pc) in
    ap (λ n. appended (appended k x) (operator_code c w e n)) l ∙ appended_two k x (operator_code c w e p) ∙ ap (appended k) (sym (h pc))

-- a selector put behind what it stands on, over what is known where the list gets it
pub field_step : (c : Context) (w : Want) (rest x y : Designator) (owner : QName) (name : List ℕ) (t : TypeRef) (k : Coded) → rest ≡ d.Field x owner name t → y ≡ x
    → with_selector c w (designator_view rest) (appended k (desig_code c want.Place (designator_view y) (place_in k))) ≡ appended k (desig_code c w (designator_view rest) (place_in k))
field_step c w rest x y owner name t k is first =
    let view : designator_view rest ≡ Field (designator_view x) owner name t = ap designator_view is ∙ view_field x owner name t in
    ap (λ z. with_selector c w (designator_view rest) (appended k (desig_code c want.Place (designator_view z) (place_in k)))) first
    ∙ ap (λ v. with_selector c w v (appended k (desig_code c want.Place (designator_view x) (place_in k)))) view
    ∙ selector_link c w want.Place (Field (designator_view x) owner name t) (designator_view x) k (λ n. refl)
    ∙ ap (λ v. appended k (desig_code c w v (place_in k))) (sym view)

pub index_step : (c : Context) (w v : Want) (rest x y : Designator) (n : Option ℕ) (i : TypedExpr) (at : Pos) (t : TypeRef) (k : Coded) → rest ≡ d.Index x n i at t → y ≡ x → v ≡ index_want n
    → with_selector c w (designator_view rest) (appended k (desig_code c v (designator_view y) (place_in k))) ≡ appended k (desig_code c w (designator_view rest) (place_in k))
index_step c w v rest x y n i at t k is first how =
    let view : designator_view rest ≡ Index (designator_view x) n (expr_view i) at t = ap designator_view is ∙ view_index x n i at t in
    ap (λ z. with_selector c w (designator_view rest) (appended k (desig_code c v (designator_view z) (place_in k)))) first
    ∙ ap (λ u. with_selector c w (designator_view rest) (appended k (desig_code c u (designator_view x) (place_in k)))) how
    ∙ ap (λ u. with_selector c w u (appended k (desig_code c (index_want n) (designator_view x) (place_in k)))) view
    ∙ selector_link c w (index_want n) (Index (designator_view x) n (expr_view i) at t) (designator_view x) k (λ n. refl)
    ∙ ap (λ u. appended k (desig_code c w u (place_in k))) (sym view)

pub deref_step : (c : Context) (w : Want) (rest x y : Designator) (at : Pos) (t : TypeRef) (k : Coded) → rest ≡ d.Deref x at t → y ≡ x
    → with_selector c w (designator_view rest) (appended k (desig_code c want.Value (designator_view y) (place_in k))) ≡ appended k (desig_code c w (designator_view rest) (place_in k))
deref_step c w rest x y at t k is first =
    let view : designator_view rest ≡ Deref (designator_view x) at t = ap designator_view is ∙ view_deref x at t in
    ap (λ z. with_selector c w (designator_view rest) (appended k (desig_code c want.Value (designator_view z) (place_in k)))) first
    ∙ ap (λ v. with_selector c w v (appended k (desig_code c want.Value (designator_view x) (place_in k)))) view
    ∙ selector_link c w want.Value (Deref (designator_view x) at t) (designator_view x) k (λ n. refl)
    ∙ ap (λ v. appended k (desig_code c w v (place_in k))) (sym view)

pub guard_step : (c : Context) (w v : Want) (rest x y : Designator) (g : Guarded) (target : QName) (at : Pos) (t : TypeRef) (k : Coded) → rest ≡ d.Guard x g target at t → y ≡ x → v ≡ guard_want g w
    → with_selector c w (designator_view rest) (appended k (desig_code c v (designator_view y) (place_in k))) ≡ appended k (desig_code c w (designator_view rest) (place_in k))
guard_step c w v rest x y g target at t k is first how =
    let view : designator_view rest ≡ Guard (designator_view x) g target at t = ap designator_view is ∙ view_guard x g target at t in
    ap (λ z. with_selector c w (designator_view rest) (appended k (desig_code c v (designator_view z) (place_in k)))) first
    ∙ ap (λ u. with_selector c w (designator_view rest) (appended k (desig_code c u (designator_view x) (place_in k)))) how
    ∙ ap (λ u. with_selector c w u (appended k (desig_code c (guard_want g w) (designator_view x) (place_in k)))) view
    ∙ selector_link c w (guard_want g w) (Guard (designator_view x) g target at t) (designator_view x) k (λ n. refl)
    ∙ ap (λ u. appended k (desig_code c w u (place_in k))) (sym view)

-- the variable of a chain
pub variable_step : (c : Context) (w : Want) (rest : Designator) (v : Variable) (t : TypeRef) (k : Coded) → rest ≡ d.Variable v t → with_selector c w (designator_view rest) k ≡ appended k (desig_code c w (designator_view rest) (place_in k))
variable_step c w rest v t k is =
    let view : designator_view rest ≡ OfVariable v t = ap designator_view is ∙ view_variable v t in
    ap (λ u. with_selector c w u k) view ∙ ap (λ u. appended k (desig_code c w u (place_in k))) (sym view)

-- an operator, and what has none
pub operator_more : (c : Context) (w : Want) (e left : Expr) (k : Coded) → Some left ≡ left_of e → with_operator c w e (appended k (expr_code c want.Value left (place_in k))) ≡ appended k (expr_code c w e (place_in k))
operator_more c w (Dyadic o a b at) left k h = let same : left ≡ a = cc in ap (λ x. with_operator c w (Dyadic o a b at) (appended k (expr_code c want.Value x (place_in k)))) same ∙ operator_link c w want.Value (Dyadic o a b at) a k (λ n. refl)
operator_more c w (Logical connective.And a b) left k h = let same : left ≡ a = cc in ap (λ x. with_operator c w (Logical connective.And a b) (appended k (expr_code c want.Value x (place_in k)))) same ∙ operator_link c w want.Value (Logical connective.And a b) a k (λ n. refl)
operator_more c w (Logical connective.Or a b) left k h = let same : left ≡ a = cc in ap (λ x. with_operator c w (Logical connective.Or a b) (appended k (expr_code c want.Value x (place_in k)))) same ∙ operator_link c w want.Value (Logical connective.Or a b) a k (λ n. refl)
operator_more c w e left k h = absurd (cc)

pub operator_none : (c : Context) (w : Want) (e : Expr) (k : Coded) → None ≡ left_of e → with_operator c w e k ≡ appended k (expr_code c w e (place_in k))
operator_none c w (Dyadic o a b at) k h = absurd (cc)
operator_none c w (Logical o a b) k h = absurd (cc)
operator_none c w (Constant v) k h = refl
operator_none c w (ValueOf d) k h = refl
operator_none c w (ProcedureValue q signature) k h = refl
operator_none c w (Monadic o e at) k h = refl
operator_none c w (CompareTexts r a b at) k h = refl
operator_none c w (IsPointer e target) k h = refl
operator_none c w (IsRecord d target) k h = refl
operator_none c w (Length d) k h = refl
operator_none c w (Call callee es at t) k h = refl
operator_none c w (CallVariable d es at t) k h = refl

-- by what the loop is told of the left operand
pub operator_end : (c : Context) (w : Want) (e : Expr) (k : Coded) (r : Option (Bor TypedExpr)) → ((x : Bor TypedExpr) → r ≡ Some x → ⊥) → option_map expr_view (option_copied r) ≡ left_of e → with_operator c w e k ≡ appended k (expr_code c w e (place_in k))
operator_end c w e k None none is = operator_none c w e k is
operator_end c w e k (Some x) none is = absurd (none x refl)

-- ---- & and OR, behind the left operand

-- where it is FALSE, to the word 0 behind
pub and_put : (c : Context) (w : Want) (a b : Expr) (c1 c2 c3 c4 c5 c6 : Coded) (n m : ℕ) → n ≡ place_in c1 → c2 ≡ appended c1 (jump_if_false 0 ∷ []) → c3 ≡ appended c2 (expr_code c want.Value b (place_in c2)) → m ≡ suc (suc (place_in c3)) → c4 ≡ appended c3 (jump m ∷ []) → c5 ≡ with_instr c4 n (instr op.JumpF (pos (place_in c4)) (pos 0)) → c6 ≡ appended c5 (plain op.Int (count 0) ∷ []) → c6 ≡ with_operator c w (Logical connective.And a b) c1
and_put c w a b c1 c2 c3 c4 c5 c6 n m e h2 h3 f h4 h5 h6 =
    let p1 = place_in c1 in
    let l2 : place_in c2 ≡ suc p1 = next_place c1 c2 (jump_if_false 0 ∷ []) (suc p1) h2 (omega arith) in
    let y = expr_code c want.Value b (suc p1) in
    let p2 = end_expr c want.Value b (suc p1) in
    let k3 : c3 ≡ appended c2 y = h3 ∙ ap (λ q. appended c2 (expr_code c want.Value b q)) l2 in
    let l3 : place_in c3 ≡ p2 = next_place c2 c3 y p2 k3 (let k = l2 in let v = expr_ends c want.Value b (suc p1) in omega (arith, k, v)) in
    let l4 : place_in c4 ≡ suc p2 = next_place c3 c4 (jump m ∷ []) (suc p2) h4 (let k = l3 in omega (arith, k)) in
    let k4 : c4 ≡ appended c3 (jump (suc (suc p2)) ∷ []) = h4 ∙ ap (λ q. appended c3 (jump q ∷ [])) (f ∙ ap (λ q. suc (suc q)) l3) in
    let k5 : c5 ≡ with_instr c4 n (instr op.JumpF (pos (suc p2)) (pos 0)) = h5 ∙ ap (λ q. with_instr c4 n (instr op.JumpF (pos q) (pos 0))) l4 in
    let g = put_aimed c1 c1 c2 c4 c5 [] (y ++ jump (suc (suc p2)) ∷ []) op.JumpF 0 (suc p2) n (appended_none c1) e h2 (put_two c2 c3 c4 y (jump (suc (suc p2)) ∷ []) k3 k4) k5 in
    put_two c1 c5 c6 (jump_if_false (suc p2) ∷ (y ++ jump (suc (suc p2)) ∷ [])) (plain op.Int (count 0) ∷ []) g h6
    ∙ ap (appended c1) (simp append_assoc)

-- where it is TRUE, the word 1 and over the right one
pub or_put : (c : Context) (w : Want) (a b : Expr) (c1 c2 c3 c4 c5 c6 : Coded) (k n : ℕ) → k ≡ suc (suc (suc (place_in c1))) → c2 ≡ appended c1 (jump_if_false k ∷ []) → c3 ≡ appended c2 (plain op.Int (count 1) ∷ []) → n ≡ place_in c3 → c4 ≡ appended c3 (jump 0 ∷ []) → c5 ≡ appended c4 (expr_code c want.Value b (place_in c4)) → c6 ≡ with_instr c5 n (instr op.Jump (pos (place_in c5)) (pos 0)) → c6 ≡ with_operator c w (Logical connective.Or a b) c1
or_put c w a b c1 c2 c3 c4 c5 c6 k n e h2 h3 f h4 h5 h6 =
    let p1 = place_in c1 in
    let p2 = suc (suc (suc p1)) in
    let k2 : c2 ≡ appended c1 (jump_if_false p2 ∷ []) = h2 ∙ ap (λ q. appended c1 (jump_if_false q ∷ [])) e in
    let l2 : place_in c2 ≡ suc p1 = next_place c1 c2 (jump_if_false p2 ∷ []) (suc p1) k2 (omega arith) in
    let l3 : place_in c3 ≡ suc (suc p1) = next_place c2 c3 (plain op.Int (count 1) ∷ []) (suc (suc p1)) h3 (let v = l2 in omega (arith, v)) in
    let l4 : place_in c4 ≡ p2 = next_place c3 c4 (jump 0 ∷ []) p2 h4 (let v = l3 in omega (arith, v)) in
    let y = expr_code c want.Value b p2 in
    let p3 = end_expr c want.Value b p2 in
    let k5 : c5 ≡ appended c4 y = h5 ∙ ap (λ q. appended c4 (expr_code c want.Value b q)) l4 in
    let l5 : place_in c5 ≡ p3 = next_place c4 c5 y p3 k5 (let v = l4 in let u = expr_ends c want.Value b p2 in omega (arith, v, u)) in
    let k6 : c6 ≡ with_instr c5 n (instr op.Jump (pos p3) (pos 0)) = h6 ∙ ap (λ q. with_instr c5 n (instr op.Jump (pos q) (pos 0))) l5 in
    put_aimed c1 c3 c4 c5 c6 (jump_if_false p2 ∷ plain op.Int (count 1) ∷ []) y op.Jump 0 p3 n (put_two c1 c2 c3 (jump_if_false p2 ∷ []) (plain op.Int (count 1) ∷ []) k2 h3) f h4 k5 k6
