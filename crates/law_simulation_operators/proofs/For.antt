-- The code of FOR follows its meaning.
use Rattle.std.proofs.Common.{◌≡◌, ℕ, suc, ◌+◌, ◌≤◌, ◌<◌, List, [], ◌∷◌, length, ℤ, refl, sym, ap, ◌∙◌, subst, arith}
use Rattle.std.proofs.lemmas.Bool.Decides.{nat_tests}
use Rattle.std.specs.Prelude.{pos, negsuc, Bool, true, false, not, int_lt, int_le, if◌then◌else◌}
use Rattle.ob_tree.specs.declared.pos.Pos.{Pos}
use Rattle.ob_types.specs.declared.typed.Width.{Width}
use Rattle.ob_types.specs.declared.typed.Variable.{Variable}
use Rattle.ob_types.specs.declared.typed.Variable.TheVariants as variable
use Rattle.ob_types.specs.declared.typed.Update.TheVariants as update
use Rattle.ob_types.specs.TypedSyntax.{Expr, Stmt, For, Stmts}
use Rattle.ob_instr.specs.declared.opcode.Opcode.TheVariants as op
use Rattle.ob_instr.specs.Image.{World, Point}
use Rattle.ob_instr.specs.Rows.{Next, truth}
use Rattle.ob_meaning.specs.Values.{changed, Form, Value, Integer, OfCall, Place, At, Store, AnObject, State, value_at, with_value_at}
use Rattle.ob_meaning.specs.Results.{Gives, M, bind, ◌>>=◌, give, read, assign, Caller}
use Rattle.ob_types.specs.Numbers.{is_positive}
use Rattle.ob_meaning.specs.Operators.{updated}
use Rattle.ob_meaning.specs.Meaning.{computed, place_of, find, own_place, choose, Flow, Done, Leaves, Back, Round, Again, Leave as Leaving, after_body, hidden, keep, kept, is_within, for_test, update_at, execs}
use Rattle.law_simulation_relation.specs.Layout.{static_held, address}
use Rattle.law_simulation_relation.specs.Relation.{Fine, word_of, Scalar}
use Rattle.law_simulation_relation.specs.Need.{need_stmt}
use Rattle.law_simulation_relation.specs.Ends.{end_variable, end_test, end_step, end_expr, end_stmt, end_stmts}
use Rattle.law_simulation_relation.specs.Stands as code
use Rattle.law_simulation_relation.specs.Typed as typed
use Rattle.law_simulation_relation.specs.Typed.{integer, longint}
use Rattle.law_simulation_relation.specs.Plain.{Plain}
use Rattle.law_simulation_relation.proofs.Names.{nat_same, bytes_same}
use Rattle.law_simulation_relation.proofs.Steps.{Reach, here, Follows, follows_bind, follows_after, follows_value, follows_map}
use Rattle.law_simulation_relation.proofs.Statements.{Activation, scope, go, K, here_in, Keeps, PlaceTo, PlaceKept, ValueTo, ValueKept, StmtsFollow, FlowTo, FlowKept, ExitLies, RoundTo, RoundKept}
use Rattle.law_simulation_relation.proofs.Grow.{address_same, place_of_more}
use Rattle.law_simulation_relation.proofs.Located.{spot}
use Rattle.law_simulation_relation.proofs.Behind.{variable_ends, stmts_end}
use Rattle.law_simulation_relation.proofs.Moves.{goes}
use Rattle.law_simulation_relation.proofs.Variables.{variable_of, variable_goes}
use Rattle.law_simulation_relation.proofs.Values.{sub_scalar, integer_is}
use Rattle.law_simulation_relation.proofs.Exprs.{from_here, since, load_follows, int_goes, true_passes, false_jumps}
use Rattle.law_simulation_relation.proofs.Stmts.{store_follows, lies_less, loop_ends, back_jump, lies_same, AllExpr, AllStmts, AllStmt}
use Rattle.law_simulation_relation.proofs.Out.{inc_follows}
use Rattle.law_simulation_relation.specs.Setting.{Setting, has_of}

pub at_most : (x y : ℤ) → not (int_lt y x) ≡ int_le x y
at_most (pos m) (pos n) = grind (arith, nat_tests)
at_most (pos m) (negsuc n) = refl
at_most (negsuc m) (pos n) = refl
at_most (negsuc m) (negsuc n) = grind (arith, nat_tests)

-- a variable of a call has the value that was assigned last
own_changed : (g : Store) (k : ℕ) (x : List ℕ) (v : Value) → value_at (with_value_at g (At (OfCall k x) []) v) (At (OfCall k x) []) ≡ v
own_changed g k x v = ap (λ b. (if b then changed (g.locals k) x v else g.locals k) x) (nat_same k) ∙ ap (λ b. if b then v else g.locals k x) (bytes_same x)

module _ (c : Setting) (a : Activation c) (n : ℕ) (call : Caller) where
  abbrev W : List AnObject → Value → ℤ
  W os v = word_of c.program (has_of c) c.img os v

  abbrev F : List AnObject → Form → Value → Type 0
  F os t v = Fine c.program (has_of c) os t v

  abbrev pub VariableOk : Variable → Form → Type 0
  VariableOk v t = typed.VariableOk c.program (has_of c) a.unit (static_held c.program a.procedure) a.procedure.result v t

  abbrev StmtOk : Stmt → Bool → Type 0
  StmtOk t l = typed.StmtOk c.program (has_of c) a.unit (static_held c.program a.procedure) a.procedure.result t l

  -- where the test of FOR begins, and its jump back
  abbrev loop_start : Variable → Expr → Expr → ℕ → ℕ
  loop_start v start end pc = suc (end_expr c.program start (end_variable v (suc (end_expr c.program end (suc pc)))))

  abbrev loop_back : Variable → Expr → Expr → Stmts → ℕ → ℕ
  loop_back v start end body pc = end_step v (end_stmts c.program body (suc (end_test v (loop_start v start end pc))))

  -- the hidden variable of a statement
  abbrev pub hidden_at : Pos → Place
  hidden_at at = own_place (K c a) (hidden at)

  module _ (b : ℕ) where
    abbrev Kp : List AnObject → State → World → Type 0
    Kp os s w = Keeps c a n call b os s w

    abbrev at_place : State → Place → ℤ
    at_place s p = pos (address c.program c.img s.made (K c a) p)

    -- VARIABLES

    pub find_follows : (v : Variable) (t : Form) → Plain v → (pc : ℕ) (ops : List ℤ) (os : List AnObject) (s : State) (w : World) → length ops + 1 ≤ 256 → code.VariableCode (scope c a) v pc → VariableOk v t → Kp os s w →
        Follows c (go c a pc ops w) (PlaceTo c a n call b (end_variable v pc) ops) (PlaceKept c a n call b t os) (find v s)
    find_follows v t pl pc ops os s w le has ok st =
        subst (λ k. Follows c (go c a pc ops w) (PlaceTo c a n call b (end_variable v pc) ops) (PlaceKept c a n call b t os) (Gives (place_of v k) s)) (sym st.calls)
        (follows_value c w (variable_goes c a s w st.all v t pc ops le pl has ok) (variable_of c a s w st.all v t pl ok, st))

    -- the address of a hidden variable
    pub hidden_goes : (at : Pos) (pc : ℕ) (ops : List ℤ) (os : List AnObject) (s : State) (w : World) → length ops + 1 ≤ 256 → code.Has (scope c a) pc (code.with_a op.Local (code.hidden_slot (scope c a) at)) → VariableOk (variable.Local (hidden at)) longint → Kp os s w →
        Reach c (go c a pc ops w) (go c a (suc pc) (at_place s (hidden_at at) ∷ ops) w)
    hidden_goes at pc ops os s w le has ok st = variable_goes c a s w st.all (variable.Local (hidden at)) longint pc ops le tt has ok

    -- a value is kept in it
    pub keep_follows : (at : Pos) (v : Value) (pc : ℕ) (os : List AnObject) (s : State) (w : World) → code.Has (scope c a) pc (code.plain op.Store) → VariableOk (variable.Local (hidden at)) longint → F s.made longint v → Kp os s w →
        Follows c (go c a pc (W s.made v ∷ at_place s (hidden_at at) ∷ []) w) (λ u s w. go c a (suc pc) [] w) (λ u s w. Kp os s w × (value_at s.store (hidden_at at) ≡ v)) (keep at v s)
    keep_follows at v pc os s w has ok fine st =
        let h = (store_follows c a n call b (hidden_at at) longint v pc [] os s w (omega arith) has tt (variable_of c a s w st.all (variable.Local (hidden at)) longint tt ok) fine st).by in
        subst (λ k. Follows c (go c a pc (W s.made v ∷ at_place s (hidden_at at) ∷ []) w) (λ u s w. go c a (suc pc) [] w) (λ u s w. Kp os s w × (value_at s.store (hidden_at at) ≡ v)) (assign (own_place k (hidden at)) v s)) (sym st.calls)
        (follows_value c h.0 h.1 (h.2, own_changed s.store (length a.cs) (hidden at) v))

    -- and read
    pub kept_follows : (at : Pos) (pc : ℕ) (ops : List ℤ) (os : List AnObject) (s : State) (w : World) → length ops + 1 ≤ 256 → code.Has (scope c a) pc (code.with_a op.Local (code.hidden_slot (scope c a) at)) → code.Has (scope c a) (suc pc) (code.plain op.Load) → VariableOk (variable.Local (hidden at)) longint → Kp os s w →
        Follows c (go c a pc ops w) (ValueTo c a n call b (suc (suc pc)) ops) (ValueKept c a n call b longint os) (kept at s)
    kept_follows at pc ops os s w le has has2 ok st =
        follows_after c (hidden_goes at pc ops os s w le has ok st)
        (subst (λ k. Follows c (go c a (suc pc) (at_place s (hidden_at at) ∷ ops) w) (ValueTo c a n call b (suc (suc pc)) ops) (ValueKept c a n call b longint os) (read (own_place k (hidden at)) s)) (sym st.calls)
        (load_follows c a n call b (hidden_at at) longint (suc pc) ops os s w le has2 tt (variable_of c a s w st.all (variable.Local (hidden at)) longint tt ok, st)))

    -- THE TEST

    compare_goes : (step x y : ℤ) (pc : ℕ) (w : World) → code.Has (scope c a) pc (code.plain (code.for_code (scope c a) step)) → Reach c (go c a pc (y ∷ x ∷ []) w) (go c a (suc pc) (truth (is_within step (Integer x) (Integer y)) ∷ []) w)
    compare_goes step x y pc w has = by (is_positive step) has
      where
        by : (t : Bool) → code.Has (scope c a) pc (code.plain (if t then op.Le else op.Ge)) → Reach c (go c a pc (y ∷ x ∷ []) w) (go c a (suc pc) (truth (if t then int_le x y else int_le y x) ∷ []) w)
        by true h = goes c a _ w h (ap (λ b. Next (truth b ∷ []) w) (at_most x y)) (omega arith)
        by false h = goes c a _ w h (ap (λ b. Next (truth b ∷ []) w) (at_most y x)) (omega arith)

    abbrev TestCode : Variable → ℤ → Pos → ℕ → ℕ → Type 0
    TestCode v step at l next = code.VariableCode (scope c a) v l × (code.Has (scope c a) (end_variable v l) (code.plain op.Load) × (code.Has (scope c a) (suc (end_variable v l)) (code.with_a op.Local (code.hidden_slot (scope c a) at)) × (code.Has (scope c a) (suc (suc (end_variable v l))) (code.plain op.Load) × (code.Has (scope c a) (suc (suc (suc (end_variable v l)))) (code.plain (code.for_code (scope c a) step)) × code.Has (scope c a) (end_test v l) (code.with_a op.JumpF next)))))

    test_follows : (v : Variable) (w : Width) (step : ℤ) (at : Pos) (l next : ℕ) (os : List AnObject) (s : State) (m : World) → Plain v → TestCode v step at l next → VariableOk v (integer w) → VariableOk (variable.Local (hidden at)) longint → Kp os s m →
        Follows c (go c a l [] m) (λ t s m. go c a (end_test v l) (truth t ∷ []) m) (λ t s m. Kp os s m) (for_test v step at s)
    test_follows v w step at l next os s m pl has ok hid st =
        let l1 = end_variable v l in
        follows_bind c (find_follows v (integer w) pl l [] os s m (omega arith) has.0 ok st) λ p s1 m1 k1.
        follows_bind c (load_follows c a n call b p (integer w) l1 [] os s1 m1 (omega arith) has.1.0 tt k1) λ i s2 m2 k2.
        let x = integer_is c s2.made w i k2.0 in
        subst (λ i. Follows c (go c a (suc l1) (W s2.made i ∷ []) m2) (λ t s m. go c a (end_test v l) (truth t ∷ []) m) (λ t s m. Kp os s m) (bind (kept at s2) (λ e s. Gives (is_within step i e) s))) (sym x.2)
        (follows_bind c (kept_follows at (suc l1) (x.0 ∷ []) os s2 m2 (omega arith) has.1.1.0 has.1.1.1.0 hid k2.1) λ e s3 m3 k3.
        let y = k3.0 in
        subst (λ e. Follows c (go c a (suc (suc (suc l1))) (W s3.made e ∷ x.0 ∷ []) m3) (λ t s m. go c a (end_test v l) (truth t ∷ []) m) (λ t s m. Kp os s m) (Gives (is_within step (Integer x.0) e) s3)) (sym y.2)
        (follows_value c m3 (compare_goes step x.0 y.0 (suc (suc (suc l1))) m3 has.1.1.1.1.0) k3.1))

    -- THE STEP

    step_follows : (v : Variable) (w : Width) (step : ℤ) (at : Pos) (pc : ℕ) (os : List AnObject) (s : State) (m : World) → Plain v → code.VariableCode (scope c a) v pc → code.Has (scope c a) (end_variable v pc) (code.instr op.Int step (pos 0)) → code.HasAt (scope c a) (suc (end_variable v pc)) (code.update_code (update.Inc w)) at → VariableOk v (integer w) → Kp os s m →
        Follows c (go c a pc [] m) (λ r s m. go c a (end_step v pc) [] m) (λ r s m. (r ≡ Again) × Kp os s m) (bind (find v s) (λ q s. bind (update_at (update.Inc w) q (Integer step) (here_in c a n call b) at s) (λ x s. Gives Again s)))
    step_follows v w step at pc os s m pl has has2 has3 ok st =
        let pc1 = end_variable v pc in
        follows_bind c (find_follows v (integer w) pl pc [] os s m (omega arith) has ok st) λ q s1 m1 k1.
        let form = sub_scalar _ _ k1.0.1 tt in
        let old = integer_is c s1.made w (value_at s1.store q) (subst (λ u. F s1.made u (value_at s1.store q)) form ((spot c (K c a) s1 m1 k1.1.all q (subst (λ u. Scalar u) (sym form) tt) k1.0.0).fine)) in
        follows_after c (int_goes c a n call b step pc1 (at_place s1 q ∷ []) m1 (omega arith) has2)
        (follows_bind c {to = λ u s m. go c a (end_step v pc) [] m} {Keep = λ u s m. Kp os s m}
        (subst (λ z. Follows c (go c a (suc pc1) (step ∷ at_place s1 q ∷ []) m1) (λ u s m. go c a (end_step v pc) [] m) (λ u s m. Kp os s m) (bind (computed (updated (update.Inc w) z (Integer step)) (here_in c a n call b) at s1) (λ v s. assign q v s))) (sym old.2)
        (inc_follows c a n call b w q old.0 step at (suc pc1) [] os s1 m1 (omega arith) has3 k1.0 old.2 k1.1))
        λ u s2 m2 k2. follows_value c m2 (here c _) (refl, k2))

    -- A ROUND

    round_follows : (v : Variable) (w : Width) (start end : Expr) (step : ℤ) (body : Stmts) (at : Pos) → Plain v → StmtsFollow c a n call b body → (l : Bool) (exit pc k : ℕ) (os : List AnObject) (s : State) (m : World) → need_stmt (For v w start end step body at) ≤ 256 → end_stmt c.program (For v w start end step body at) pc < length a.u.code → ExitLies c a n call b l (end_stmt c.program (For v w start end step body at) pc) exit → code.StmtCode (scope c a) (For v w start end step body at) exit pc k → StmtOk (For v w start end step body at) l → Kp os s m →
        Follows c (go c a (loop_start v start end pc) [] m) (RoundTo c a n call b (λ m. go c a (loop_back v start end body pc) [] m) (suc (loop_back v start end body pc)) exit) (RoundKept c a n call b l os)
        (bind (for_test v step at s) (λ t. choose t (execs body (here_in c a n call b) >>= λ f. after_body f (find v >>= λ q. update_at (update.Inc w) q (Integer step) (here_in c a n call b) at >>= λ x. give Again)) (give (Leaving Done))))
    round_follows v w start end step body at pl ih l exit pc k os s m le inside lies has ok st =
        follows_bind c (test_follows v w step at l0 (suc back) os s m pl has.1.1.1.1.1.1.0 ok.0.0 ok.1.1.1.0 st) λ t s1 m1 k1. by t s1 m1 k1
      where
        l0 : ℕ
        l0 = loop_start v start end pc

        j : ℕ
        j = end_test v l0

        p4 : ℕ
        p4 = end_stmts c.program body (suc j)

        back : ℕ
        back = loop_back v start end body pc

        To : Round → State → World → Point
        To = RoundTo c a n call b (λ m. go c a back [] m) (suc back) exit

        Keep : Round → State → World → Type 0
        Keep = RoundKept c a n call b l os

        rest : M Round
        rest = find v >>= λ q. update_at (update.Inc w) q (Integer step) (here_in c a n call b) at >>= λ x. give Again

        up : p4 ≤ back
        up = let h = variable_ends v p4 in omega (arith, h)

        after : (f : Flow) (s2 : State) (m2 : World) → FlowKept c a n call b l os f s2 m2 → Follows c (FlowTo c a n call b p4 exit f s2 m2) To Keep (after_body f rest s2)
        after Done s2 m2 h =
            follows_map c (step_follows v w step at p4 os s2 m2 pl has.1.1.1.1.1.1.1.1.0 has.1.1.1.1.1.1.1.1.1.0 has.1.1.1.1.1.1.1.1.1.1.0 ok.0.0 h.1)
            (λ r s m k. subst (λ r. Reach c (go c a back [] m) (To r s m)) (sym k.0) (here c _)) (λ r s m k. subst (λ r. Keep r s m) (sym k.0) k.1)
        after Leaves s2 m2 h = follows_value c m2 (here c _) h
        after (Back v) s2 m2 h = follows_value c m2 (here c _) h

        by : (t : Bool) (s1 : State) (m1 : World) → Kp os s1 m1 → Follows c (go c a j (truth t ∷ []) m1) To Keep (choose t (execs body (here_in c a n call b) >>= λ f. after_body f rest) (give (Leaving Done)) s1)
        by true s1 m1 st1 =
            follows_after c (true_passes c a n call b (suc back) j [] m1 inside has.1.1.1.1.1.1.0.1.1.1.1.1 (omega arith))
            (follows_bind c (ih l exit (suc j) _ os s1 m1 (omega (arith, le)) (omega (arith, inside, up)) (lies_less c a n call b l p4 (suc back) exit (omega (arith, up)) lies) has.1.1.1.1.1.1.1.0 ok.1.1.1.1.1 st1) λ f s2 m2 k2. after f s2 m2 k2)
        by false s1 m1 st1 =
            let h = stmts_end c.program body (suc j) in
            follows_after c (false_jumps c a n call b (suc back) j [] m1 inside (omega (arith, h, up)) has.1.1.1.1.1.1.0.1.1.1.1.1 (omega arith))
            (follows_value c m1 (here c _) (tt, st1))

  pub for_case : (v : Variable) (w : Width) (start end : Expr) (step : ℤ) (body : Stmts) (at : Pos) → Plain v → AllExpr c a n call start → AllExpr c a n call end → AllStmts c a n call body → AllStmt c a n call (For v w start end step body at)
  for_case v w start end step body at pl ih_start ih_end ih_body b le_b l exit pc k os s m le inside lies has ok st =
      let p1 = end_expr c.program end (suc pc) in
      let p2 = end_variable v (suc p1) in
      let p3 = end_expr c.program start p2 in
      let back = loop_back v start end body pc in
      let hid : VariableOk (variable.Local (hidden at)) longint = ok.1.1.1.0 in
      follows_after c (hidden_goes b at pc [] os s m (omega arith) has.0 hid st)
      (follows_bind c (ih_end b le_b longint (suc pc) k (at_place b s (hidden_at at) ∷ []) s.made s m (omega (arith, le)) has.1.0 ok.1.1.0 (from_here c a n call b st)) λ e s1 m1 k1.
      let hidden_in = variable_of c a s m st.all (variable.Local (hidden at)) longint tt hid in
      follows_bind c
      (subst (λ z. Follows c (go c a p1 (W s1.made e ∷ pos z ∷ []) m1) (λ u s m. go c a (suc p1) [] m) (λ u s m. Kp b os s m × (value_at s.store (hidden_at at) ≡ e)) (keep at e s1)) (address_same c s.made s1.made k1.1.objects (K c a) (hidden_at at) hidden_in.0)
      (keep_follows b at e p1 os s1 m1 has.1.1.0 hid k1.0 (since c a n call b st.objects k1.1))) λ u s2 m2 k2.
      follows_bind c (find_follows b v (integer w) pl (suc p1) [] os s2 m2 (omega arith) has.1.1.1.0 ok.0.0 k2.0) λ p s3 m3 k3.
      follows_bind c (ih_start b le_b (integer w) p2 _ (at_place b s3 p ∷ []) s3.made s3 m3 (omega (arith, le)) has.1.1.1.1.0 ok.1.0 (from_here c a n call b k3.1)) λ i s4 m4 k4.
      follows_bind c
      (subst (λ z. Follows c (go c a p3 (W s4.made i ∷ pos z ∷ []) m4) (λ u s m. go c a (suc p3) [] m) (λ u s m. Kp b os s m) (assign p i s4)) (address_same c s3.made s4.made k4.1.objects (K c a) p k3.0.0)
      (store_follows c a n call b p (integer w) i p3 [] os s4 m4 (omega arith) has.1.1.1.1.1.0 tt (place_of_more c s3.made s4.made k4.1.objects (K c a) (integer w) p k3.0) k4.0 (since c a n call b k3.1.objects k4.1))) λ u s5 m5 k5.
      let h1 = variable_ends v (suc p3) in
      let h2 = stmts_end c.program body (suc (end_test v (suc p3))) in
      let h3 = variable_ends v (end_stmts c.program body (suc (end_test v (suc p3)))) in
      loop_ends c a n call n b (λ m. go c a back [] m) (suc p3) (suc back) exit at l os _ le_b (omega arith) (back_jump c a n call b (suc p3) back at (omega (arith, h1, h2, h3)) (omega (arith, inside)) has.1.1.1.1.1.1.1.1.1.1.1.0)
      (λ b2 s m le2 st. round_follows b2 v w start end step body at pl (ih_body b2 le2) l exit pc k os s m le inside (lies_same c a n call b b2 l _ exit lies) has ok st)
      s5 m5 k5)
