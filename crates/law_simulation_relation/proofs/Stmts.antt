-- The code of statements follows their meaning.
use Rattle.std.proofs.Common.{◌≡◌, ℕ, zero, suc, ◌≤◌, ◌<◌, List, [], ◌∷◌, ◌++◌, length, length-append, Option, Some, None, ℤ, refl, sym, ap, ◌∙◌, subst, arith}
use Rattle.std.proofs.lemmas.Bool.Decides.{nat_tests}
use Rattle.std.specs.Prelude.{pos, Bool, true, false, nat_lt, nat_le}
use Rattle.ob_trap.specs.declared.trap.Trap.TheVariants as trap
use Rattle.ob_tree.specs.declared.pos.Pos.{Pos}
use Rattle.ob_types.specs.declared.types.TypeRef.{TypeRef}
use Rattle.ob_types.specs.declared.typed.Assigned.TheVariants as assigned
use Rattle.ob_types.specs.TypedSyntax.{Desig, Expr, Stmt, Assign, Assert, Halt, If, While, Repeat, Loop, Exit, Return, Stmts, Nothing, Then, Branches, NoBranch, Branch}
use Rattle.ob_instr.specs.declared.opcode.Opcode.TheVariants as op
use Rattle.ob_instr.specs.Image.{World, Act, Point}
use Rattle.ob_instr.specs.Rows.{truth, with_memory}
use Rattle.ob_instr.specs.Table.{left}
use Rattle.ob_instr.proofs.Goes as rows
use Rattle.ob_instr.proofs.Steps as machine
use Rattle.ob_meaning.specs.Values.{form_in, Form, Value, Place, AnObject, State, truth_of}
use Rattle.ob_meaning.specs.Results.{Trapped, Spent, Res, Gives, M, bind, ◌>>=◌, give, stop, assign, spend, spend_of, Caller}
use Rattle.ob_meaning.specs.Meaning.{value, choose, Flow, Done, Leaves, Back, go_on, Round, Again, Leave as Leaving, turn, loop, after_body, after_loop_body, execs, exec_branches}
use Rattle.law_simulation_relation.specs.Layout.{static_held, address}
use Rattle.law_simulation_relation.specs.Relation.{Fine, word_of, Scalar, PlaceOf}
use Rattle.law_simulation_relation.specs.Need.{need_stmt}
use Rattle.law_simulation_relation.specs.Ends.{end_place, end_expr, end_stmt, end_stmts, end_branches}
use Rattle.law_simulation_relation.specs.Stands as code
use Rattle.law_simulation_relation.specs.Typed as typed
use Rattle.law_simulation_relation.specs.Typed.{boolean}
use Rattle.law_simulation_relation.proofs.Steps.{Reach, here, Follows, follows_bind, follows_after, follows_value, follows_stop, follows_map, stands_any}
use Rattle.law_simulation_relation.proofs.Statements.{Activation, scope, go, fb, K, here_in, Keeps, PlaceFollows, ExprFollows, StmtFollows, StmtsFollow, BranchesFollow, FlowTo, FlowFine, FlowKept, ExitLies, RoundTo, RoundKept, BackAt, result_words, ResultFine, ResultFits}
use Rattle.law_simulation_relation.proofs.Grow.{address_same, place_of_more}
use Rattle.law_simulation_relation.proofs.Located.{spot}
use Rattle.law_simulation_relation.proofs.Behind.{expr_ends, stmts_end, branches_end}
use Rattle.law_simulation_relation.proofs.Moves.{goes, jumps, traps, spends, has_it}
use Rattle.law_simulation_relation.proofs.Values.{sub_scalar}
use Rattle.law_simulation_relation.proofs.Exprs.{from_here, since, by_truth, true_passes, false_jumps, jump_goes, target_is}
use Rattle.law_simulation_relation.specs.Linked.{has_one}
use Rattle.law_simulation_relation.specs.Setting.{Setting, has_of}

module _ (c : Setting) (a : Activation c) (n : ℕ) (call : Caller) where
  abbrev W : List AnObject → Value → ℤ
  W os v = word_of c.program (has_of c) c.img os v

  abbrev F : List AnObject → Form → Value → Type 0
  F os t v = Fine c.program (has_of c) os t v

  module _ (b : ℕ) where
    abbrev Kp : List AnObject → State → World → Type 0
    Kp os s w = Keeps c a n call b os s w

    abbrev S : Stmt → Type 0
    S t = StmtFollows c a n call b t

    abbrev FTo : ℕ → ℕ → Flow → State → World → Point
    FTo next exit f s w = FlowTo c a n call b next exit f s w

    abbrev FKept : Bool → List AnObject → Flow → State → World → Type 0
    FKept l os f s w = FlowKept c a n call b l os f s w

    -- ASSIGNMENT

    abbrev pub plain_to : ℕ → List ℤ → Unit {0} → State → World → Point
    plain_to pc ops u s w = go c a pc ops w

    abbrev pub plain_kept : List AnObject → Unit {0} → State → World → Type 0
    plain_kept os u s w = Kp os s w

    pub store_follows : (p : Place) (t : Form) (v : Value) (pc : ℕ) (ops : List ℤ) (os : List AnObject) (s : State) (w : World) → length ops ≤ 256 → code.Has (scope c a) pc (code.plain op.Store) → Scalar t → PlaceOf c.program (has_of c) c.img s.made (K c a) t p → F s.made t v → Kp os s w → Follows c (go c a pc (W s.made v ∷ pos (address c.program c.img s.made (K c a) p) ∷ ops) w) (plain_to (suc pc) ops) (plain_kept os) (assign p v s)
    store_follows p t v pc ops os s w le has sc k fine st =
        let e = sub_scalar _ _ k.1 sc in
        let x = spot c (K c a) s w st.all p (subst (λ u. Scalar u) (sym e) sc) k.0 in
        let new = x.store v (subst (λ u. F s.made u v) (sym e) fine) in
        follows_value c (with_memory w new.0) (goes c a ops (with_memory w new.0) has (rows.store_next c.img a.u a.m a.p (fb c a) pc w (pos (address c.program c.img s.made (K c a) p)) (W s.made v) new.0 ops new.1) le)
        (record { all = new.2; calls = st.calls; bound = st.bound; objects = st.objects })

    pub assign_case : (d : Desig) (e : Expr) (at : Pos) → PlaceFollows c a n call b d → ExprFollows c a n call b e → S (Assign d assigned.Scalar e at)
    assign_case d e at ih_d ih_e l exit pc k os s w le inside lies has ok st =
        let p1 = end_place c.program d pc in
        let t = code.form_of (scope c a) d in
        follows_bind c (ih_d pc k [] os s w (omega (arith, le)) has.0 ok.0 st) λ p s1 w1 k1.
        follows_bind c
        (follows_bind c (ih_e t p1 _ (pos (address c.program c.img s1.made (K c a) p) ∷ []) s1.made s1 w1 (omega (arith, le)) has.1.0 ok.1.0 (from_here c a n call b k1.1)) λ v s2 w2 k2.
        let same = address_same c s1.made s2.made k2.1.objects (K c a) p k1.0.0 in
        subst (λ m. Follows c (go c a (end_expr c.program e p1) (W s2.made v ∷ pos m ∷ []) w2) (plain_to (suc (end_expr c.program e p1)) []) (plain_kept os) (assign p v s2)) same
        (store_follows p t v (end_expr c.program e p1) [] os s2 w2 (omega arith) has.1.1 ok.1.1 (place_of_more c s1.made s2.made k2.1.objects (K c a) t p k1.0) k2.0 (since c a n call b k1.1.objects k2.1)))
        λ u s3 w3 k3. follows_value c w3 (here c _) (tt, k3)

    -- ASSERT AND HALT

    pub assert_case : (e : Expr) (number : ℤ) (at : Pos) → ExprFollows c a n call b e → S (Assert e number at)
    assert_case e number at ih l exit pc k os s w le inside lies has ok st =
        let p1 = end_expr c.program e pc in
        follows_bind c (ih boolean pc k [] os s w (omega (arith, le)) has.0 ok st) λ v s1 w1 k1.
        by_truth c a n call b v s1.made p1 [] w1 (λ v. choose (truth_of v) (give Done) (stop (Trapped trap.AssertionFails number a.unit at)) s1) k1.0 (λ z. by z p1 s1 w1 has.1 k1.1)
      where
        by : (z : Bool) (p1 : ℕ) (s1 : State) (w1 : World) → code.HasAt (scope c a) p1 (code.instr op.Assert number (pos 0)) at → Kp os s1 w1 → Follows c (go c a p1 (truth z ∷ []) w1) (FTo (suc p1) exit) (FKept l os) (choose z (give Done) (stop (Trapped trap.AssertionFails number a.unit at)) s1)
        by true p1 s1 w1 has st = follows_value c w1 (goes c a [] w1 has.has (rows.assert_next c.img a.u a.m a.p (fb c a) p1 w1 number (pos 1) [] refl) (omega arith)) (tt, st)
        by false p1 s1 w1 has st = follows_stop c w1 (traps c a trap.AssertionFails number w1 has (rows.assert_traps c.img a.u a.m a.p (fb c a) p1 w1 number [])) (stands_any c st)

    pub halt_case : (number : ℤ) (at : Pos) → S (Halt number at)
    halt_case number at l exit pc k os s w le inside lies has ok st =
        follows_stop c w (traps c a trap.Halted number w has (rows.trap_traps c.img a.u a.m a.p (fb c a) pc w trap.Halted number [])) (stands_any c st)

    -- EXIT

    pub exit_case : S Exit
    exit_case l exit pc k os s w le inside lies has ok st = by l refl lies
      where
        by : (z : Bool) → l ≡ z → ExitLies c a n call b z (suc pc) exit → Follows c (go c a pc [] w) (FTo (suc pc) exit) (FKept l os) (give Leaves s)
        by true e h = follows_value c w (jump_goes c a n call b exit pc [] w h.1 (omega (arith, h.0)) has (omega arith)) (e, st)
        by false e h = absurd (cc)

    -- SEQUENCES

    pub lies_less : (l : Bool) (m k exit : ℕ) → m ≤ k → ExitLies c a n call b l k exit → ExitLies c a n call b l m exit
    lies_less true m k exit le h = (omega (arith, h.0, le), h.1)
    lies_less false m k exit le h = tt

    pub nothing_case : StmtsFollow c a n call b Nothing
    nothing_case l exit pc k os s w le inside lies has ok st = follows_value c w (here c _) (tt, st)

    pub then_case : (t : Stmt) (rest : Stmts) → S t → StmtsFollow c a n call b rest → StmtsFollow c a n call b (Then t rest)
    then_case t rest ih_t ih_rest l exit pc k os s w le inside lies has ok st =
        let p1 = end_stmt c.program t pc in
        let ends = stmts_end c.program rest p1 in
        follows_bind c (ih_t l exit pc k os s w (omega (arith, le)) (omega (arith, ends, inside)) (lies_less l p1 _ exit ends lies) has.0 ok.0 st) λ f s1 w1 k1.
        by f s1 w1 k1.0 k1.1
      where
        by : (f : Flow) (s1 : State) (w1 : World) → FlowFine c a n call b l s1.made f → Kp os s1 w1 → Follows c (FTo (end_stmt c.program t pc) exit f s1 w1) (FTo (end_stmts c.program rest (end_stmt c.program t pc)) exit) (FKept l os) (go_on f (execs rest (here_in c a n call b)) s1)
        by Done s1 w1 fine st1 = ih_rest l exit (end_stmt c.program t pc) _ os s1 w1 (omega (arith, le)) inside lies has.1 ok.1 st1
        by Leaves s1 w1 fine st1 = follows_value c w1 (here c _) (fine, st1)
        by (Back v) s1 w1 fine st1 = follows_value c w1 (here c _) (fine, st1)

    -- BRANCHES

    pub no_branch_case : BranchesFollow c a n call b NoBranch
    no_branch_case l end exit pc k os s w other le ends inside lies has ok others st = others s w st

    pub branch_case : (test : Expr) (body : Stmts) (rest : Branches) → ExprFollows c a n call b test → StmtsFollow c a n call b body → BranchesFollow c a n call b rest → BranchesFollow c a n call b (Branch test body rest)
    branch_case test body rest ih_test ih_body ih_rest l end exit pc k os s w other le ends inside lies has ok others st =
        let p1 = end_expr c.program test pc in
        follows_bind c (ih_test boolean pc k [] os s w (omega (arith, le)) has.0 ok.0 st) λ v s1 w1 k1.
        by_truth c a n call b v s1.made p1 [] w1 (λ v. choose (truth_of v) (execs body (here_in c a n call b)) (exec_branches rest (here_in c a n call b) other) s1) k1.0 (λ z. by z s1 w1 k1.1)
      where
        p1 : ℕ
        p1 = end_expr c.program test pc

        p2 : ℕ
        p2 = end_stmts c.program body (suc p1)

        behind : suc p2 ≤ end
        behind = let h = branches_end c.program rest (suc p2) in omega (arith, h, ends)

        body_ends : suc p1 ≤ p2
        body_ends = stmts_end c.program body (suc p1)

        out : (f : Flow) (s : State) (w : World) → FKept l os f s w → Reach c (FTo p2 exit f s w) (FTo end exit f s w)
        out Done s w h = jump_goes c a n call b end p2 [] w inside behind has.1.1.1.0 (omega arith)
        out Leaves s w h = here c _
        out (Back v) s w h = here c _

        by : (z : Bool) (s1 : State) (w1 : World) → Kp os s1 w1 → Follows c (go c a p1 (truth z ∷ []) w1) (FTo end exit) (FKept l os) (choose z (execs body (here_in c a n call b)) (exec_branches rest (here_in c a n call b) other) s1)
        by true s1 w1 st1 =
            follows_after c (true_passes c a n call b (suc p2) p1 [] w1 has.1.1.1.1.0 has.1.0 (omega arith))
            (follows_map c (ih_body l exit (suc p1) _ os s1 w1 (omega (arith, le)) (omega (arith, behind, inside)) (lies_less l p2 end exit (omega (arith, behind)) lies) has.1.1.0 ok.1.0 st1) out (λ f s w h. h))
        by false s1 w1 st1 =
            follows_after c (false_jumps c a n call b (suc p2) p1 [] w1 has.1.1.1.1.0 (omega (arith, body_ends)) has.1.0 (omega arith))
            (ih_rest l end exit (suc p2) _ os s1 w1 other (omega (arith, le)) ends inside lies has.1.1.1.1.1.1 ok.1.1 others st1)

    pub if_case : (branches : Branches) (otherwise : Stmts) → BranchesFollow c a n call b branches → StmtsFollow c a n call b otherwise → S (If branches otherwise)
    if_case branches otherwise ih_b ih_o l exit pc k os s w le inside lies has ok st =
        let p1 = end_branches c.program branches pc in
        ih_b l (end_stmts c.program otherwise p1) exit pc k os s w (execs otherwise (here_in c a n call b)) (omega (arith, le)) (stmts_end c.program otherwise p1) inside lies has.0 ok.0
        (λ s1 w1 st1. ih_o l exit p1 _ os s1 w1 (omega (arith, le)) inside lies has.1 ok.1 st1) st

    -- RETURN

    abbrev result_count : Option TypeRef → ℕ
    result_count None = 0
    result_count (Some t) = 1

    pub left_small : (r : Option TypeRef) (ws : List ℤ) (w : World) → ResultFits r a.acts → length ws ≤ result_count r → machine.Small c.img (left (fb c a) a.acts ws w)
    left_small r ws w fits le = by a.acts r fits le
      where
        by : (acts : List Act) (r : Option TypeRef) → ResultFits r acts → length ws ≤ result_count r → machine.Small c.img (left (fb c a) acts ws w)
        by [] r fits le = tt
        by (x ∷ acts) None fits le = let h = length-append ws x.ops in omega (arith, h, fits, le, c.operands)
        by (x ∷ acts) (Some t) fits le = let h = length-append ws x.ops in omega (arith, h, fits, le, c.operands)

    pub return_case : S (Return None)
    return_case l exit pc k os s w le inside lies has ok st = by a.procedure.result refl ok
      where
        by : (r : Option TypeRef) → a.procedure.result ≡ r → typed.ReturnOk c.program (has_of c) a.unit (static_held c.program a.procedure) a.procedure.result None r → Follows c (go c a pc [] w) (FTo (suc pc) exit) (FKept l os) (Gives (Back None) s)
        by (Some t) e h = absurd h
        by None e h =
            let none : a.entry.has_result ≡ false = a.gives ∙ ap has_one e in
            let leave = rows.ret_leaves c.img a.u a.m a.p (fb c a) pc w a.entry [] a.here_it_is none in
            follows_value c w (machine.leaves c.img a.m a.p (fb c a) a.acts a.u a.is [] w (has_it c a has) leave (left_small None [] w (subst (λ r. ResultFits r a.acts) e a.result_fits) (omega arith)))
            (subst (λ r. ResultFine c r s.made None) (sym e) refl, st)

    pub return_value_case : (e : Expr) → ExprFollows c a n call b e → S (Return (Some e))
    return_value_case e ih l exit pc k os s w le inside lies has ok st = by a.procedure.result refl ok
      where
        p1 : ℕ
        p1 = end_expr c.program e pc

        by : (r : Option TypeRef) → a.procedure.result ≡ r → typed.ReturnOk c.program (has_of c) a.unit (static_held c.program a.procedure) a.procedure.result (Some e) r → Follows c (go c a pc [] w) (FTo (suc p1) exit) (FKept l os) (bind (bind (value e (here_in c a n call b) s) (λ v. give (Some v))) (λ v. give (Back v)))
        by None f h = absurd h
        by (Some t) f h =
            follows_bind c
            (follows_bind c (ih (form_in c.program t) pc k [] os s w (omega (arith, le)) has.0 h.0 st) λ v s1 w1 k1.
            follows_value c {to = λ v s w. go c a p1 (result_words c s.made v ++ []) w} {Keep = λ v s w. ResultFine c (Some t) s.made v × Kp os s w} {a = Some v} w1 (here c _) ((v, refl, h.1, k1.0), k1.1))
            λ v s2 w2 k2.
            let x = k2.0.0 in
            let some : a.entry.has_result ≡ true = a.gives ∙ ap has_one f in
            let leave = rows.ret_v_leaves c.img a.u a.m a.p (fb c a) p1 w2 a.entry (W s2.made x) [] a.here_it_is some in
            let goes_out = machine.leaves c.img a.m a.p (fb c a) a.acts a.u a.is (W s2.made x ∷ []) w2 (has_it c a has.1) leave (left_small (Some t) (W s2.made x ∷ []) w2 (subst (λ r. ResultFits r a.acts) f a.result_fits) (omega arith)) in
            follows_value c w2
            (subst (λ o. Reach c (go c a p1 (result_words c s2.made o ++ []) w2) (left (fb c a) a.acts (result_words c s2.made o) w2)) (sym k2.0.1) goes_out)
            (subst (λ r. ResultFine c r s2.made v) (sym f) k2.0, k2.1)

  -- LOOPS

  pub loop_ends : (m b : ℕ) (again : World → Point) (start next exit : ℕ) (at : Pos) (l : Bool) (os : List AnObject) (round : M Round) → b ≤ m → m ≤ n → BackAt c a n call b again start at →
      ((b : ℕ) (s : State) (w : World) → b ≤ n → Keeps c a n call b os s w → Follows c (go c a start [] w) (RoundTo c a n call b again next exit) (RoundKept c a n call b l os) (round s)) →
      (s : State) (w : World) → Keeps c a n call b os s w → Follows c (go c a start [] w) (FlowTo c a n call b next exit) (FlowKept c a n call b l os) (loop m a.unit at round s)
  loop_ends zero b again start next exit at l os round le le2 back rounds s w st =
      follows_bind c (rounds b s w (omega (arith, le)) st) λ r s1 w1 k1. by r s1 w1 k1
    where
      by : (r : Round) (s1 : State) (w1 : World) → RoundKept c a n call b l os r s1 w1 → Follows c (RoundTo c a n call b again next exit r s1 w1) (FlowTo c a n call b next exit) (FlowKept c a n call b l os) (turn r (stop (Spent a.unit at)) s1)
      by Again s1 w1 k = follows_stop c w1 (back.ends w1 (omega (arith, le, k.bound, k.all.turns))) (stands_any c k)
      by (Leaving f) s1 w1 k = follows_value c w1 (here c _) k
  loop_ends (suc m) b again start next exit at l os round le le2 back rounds s w st =
      follows_bind c (rounds b s w (omega (arith, le, le2)) st) λ r s1 w1 k1.
      by r s1 w1 k1 (λ b s w le st. loop_ends m b again start next exit at l os round le (omega (arith, le2)) (record { goes = back.goes; ends = back.ends }) rounds s w st)
    where
      More : Type 0
      More = (b : ℕ) (s : State) (w : World) → b ≤ m → Keeps c a n call b os s w → Follows c (go c a start [] w) (FlowTo c a n call b next exit) (FlowKept c a n call b l os) (loop m a.unit at round s)

      less : (t : ℕ) (s1 : State) (w1 : World) → suc t ≤ b → (r : Res Flow) → Follows c (go c a start [] w1) (FlowTo c a n call t next exit) (FlowKept c a n call t l os) r → Follows c (go c a start [] w1) (FlowTo c a n call b next exit) (FlowKept c a n call b l os) r
      less t s1 w1 lt r f = follows_map c f (λ f s w k. same f s w) (λ f s w k. more f s w k)
        where
          same : (f : Flow) (s : State) (w : World) → Reach c (FlowTo c a n call t next exit f s w) (FlowTo c a n call b next exit f s w)
          same Done s w = here c _
          same Leaves s w = here c _
          same (Back v) s w = here c _

          more : (f : Flow) (s : State) (w : World) → FlowKept c a n call t l os f s w → FlowKept c a n call b l os f s w
          more Done s w k = (tt, record { all = k.1.all; calls = k.1.calls; bound = omega (arith, k.1.bound, lt); objects = k.1.objects })
          more Leaves s w k = (k.0, record { all = k.1.all; calls = k.1.calls; bound = omega (arith, k.1.bound, lt); objects = k.1.objects })
          more (Back v) s w k = (k.0, record { all = k.1.all; calls = k.1.calls; bound = omega (arith, k.1.bound, lt); objects = k.1.objects })

      spend_one : (t : ℕ) (s1 : State) (w1 : World) → Keeps c a n call b os s1 w1 → s1.turns ≡ t → More → Follows c (again w1) (FlowTo c a n call b next exit) (FlowKept c a n call b l os) (spend_of t a.unit at (loop m a.unit at round) s1)
      spend_one zero s1 w1 k e more = follows_stop c w1 (back.ends w1 (k.all.turns ∙ e)) (stands_any c k)
      spend_one (suc t) s1 w1 k e more =
          let lt : suc t ≤ b = omega (arith, k.bound, e) in
          let all = k.all in
          let st2 : Keeps c a n call t os (record s1 { turns = t }) (record w1 { turns = t }) = record {
            all = record { stack_free = all.stack_free; heap_free = all.heap_free; words = all.words; globals_size = all.globals_size; stack_size = all.stack_size; heap_size = all.heap_size; stack = all.stack; heap_next = all.heap_next; turns = refl; out = all.out; modules_fine = all.modules_fine; calls_fine = all.calls_fine; objects_fine = all.objects_fine };
            calls = k.calls;
            bound = omega arith;
            objects = k.objects;
          } in
          follows_after c (back.goes w1 t (all.turns ∙ e)) (less t (record s1 { turns = t }) (record w1 { turns = t }) lt _ (more t (record s1 { turns = t }) (record w1 { turns = t }) (omega (arith, lt, le)) st2))

      by : (r : Round) (s1 : State) (w1 : World) → RoundKept c a n call b l os r s1 w1 → More → Follows c (RoundTo c a n call b again next exit r s1 w1) (FlowTo c a n call b next exit) (FlowKept c a n call b l os) (turn r (spend a.unit at (loop m a.unit at round)) s1)
      by Again s1 w1 k more = spend_one s1.turns s1 w1 k refl more
      by (Leaving f) s1 w1 k more = follows_value c w1 (here c _) k

  -- the jump at the end of a loop, and the one of REPEAT with its value
  pub back_jump : (b pc back : ℕ) (at : Pos) → pc ≤ back → back < length a.u.code → code.HasAt (scope c a) back (code.with_a op.Jump pc) at → BackAt c a n call b (λ w. go c a back [] w) pc at
  back_jump b pc back at up inside has =
      let t : nat_le pc back ≡ true = grind (arith, nat_tests) in
      let i : nat_lt pc (length a.u.code) ≡ true = target_is c a n call b pc (omega (arith, up, inside)) in
      record {
        goes = λ w k e. jumps c a pc [] (record w { turns = k }) has.has (rows.jump_back c.img a.u a.m a.p (fb c a) back w pc k [] i t e) (omega arith);
        ends = λ w e. spends c a w has (rows.jump_spends c.img a.u a.m a.p (fb c a) back w pc [] i t e);
      }

  back_jump_if : (b pc back : ℕ) (at : Pos) → pc ≤ back → back < length a.u.code → code.HasAt (scope c a) back (code.with_a op.JumpF pc) at → BackAt c a n call b (λ w. go c a back (pos 0 ∷ []) w) pc at
  back_jump_if b pc back at up inside has =
      let t : nat_le pc back ≡ true = grind (arith, nat_tests) in
      let i : nat_lt pc (length a.u.code) ≡ true = target_is c a n call b pc (omega (arith, up, inside)) in
      record {
        goes = λ w k e. jumps c a pc [] (record w { turns = k }) has.has (rows.jump_f_back c.img a.u a.m a.p (fb c a) back w pc k [] i t e) (omega arith);
        ends = λ w e. spends c a w has (rows.jump_f_spends c.img a.u a.m a.p (fb c a) back w pc [] i t e);
      }

  abbrev pub AllExpr : Expr → Type 0
  AllExpr e = (b : ℕ) → b ≤ n → ExprFollows c a n call b e

  abbrev pub AllStmts : Stmts → Type 0
  AllStmts t = (b : ℕ) → b ≤ n → StmtsFollow c a n call b t

  abbrev pub AllStmt : Stmt → Type 0
  AllStmt t = (b : ℕ) → b ≤ n → StmtFollows c a n call b t

  -- the target of EXIT asks nothing of the turns
  pub lies_same : (b b2 : ℕ) (l : Bool) (end exit : ℕ) → ExitLies c a n call b l end exit → ExitLies c a n call b2 l end exit
  lies_same b b2 true end exit h = h
  lies_same b b2 false end exit h = h

  while_round : (b : ℕ) (e : Expr) (body : Stmts) (at : Pos) → ExprFollows c a n call b e → StmtsFollow c a n call b body → (l : Bool) (exit pc k : ℕ) (os : List AnObject) (s : State) (w : World) → need_stmt (While e body at) ≤ 256 → end_stmt c.program (While e body at) pc < length a.u.code → ExitLies c a n call b l (end_stmt c.program (While e body at) pc) exit → code.StmtCode (scope c a) (While e body at) exit pc k → typed.StmtOk c.program (has_of c) a.unit (static_held c.program a.procedure) a.procedure.result (While e body at) l → Keeps c a n call b os s w →
      Follows c (go c a pc [] w) (RoundTo c a n call b (λ w. go c a (end_stmts c.program body (suc (end_expr c.program e pc))) [] w) (suc (end_stmts c.program body (suc (end_expr c.program e pc)))) exit) (RoundKept c a n call b l os)
      (bind (value e (here_in c a n call b) s) (λ v. choose (truth_of v) (execs body (here_in c a n call b) >>= λ f. after_body f (give Again)) (give (Leaving Done))))
  while_round b e body at ih_e ih_body l exit pc k os s w le inside lies has ok st =
      follows_bind c (ih_e boolean pc k [] os s w (omega (arith, le)) has.0 ok.0 st) λ v s1 w1 k1.
      by_truth c a n call b v s1.made p1 [] w1 (λ v. choose (truth_of v) (execs body (here_in c a n call b) >>= λ f. after_body f (give Again)) (give (Leaving Done)) s1) k1.0 (λ z. by z s1 w1 k1.1)
    where
      p1 : ℕ
      p1 = end_expr c.program e pc

      p2 : ℕ
      p2 = end_stmts c.program body (suc p1)

      To : Round → State → World → Point
      To = RoundTo c a n call b (λ w. go c a p2 [] w) (suc p2) exit

      Keep : Round → State → World → Type 0
      Keep = RoundKept c a n call b l os

      after : (f : Flow) (s2 : State) (w2 : World) → FlowKept c a n call b l os f s2 w2 → Follows c (FlowTo c a n call b p2 exit f s2 w2) To Keep (after_body f (give Again) s2)
      after Done s2 w2 h = follows_value c w2 (here c _) h.1
      after Leaves s2 w2 h = follows_value c w2 (here c _) h
      after (Back v) s2 w2 h = follows_value c w2 (here c _) h

      by : (z : Bool) (s1 : State) (w1 : World) → Keeps c a n call b os s1 w1 → Follows c (go c a p1 (truth z ∷ []) w1) To Keep (choose z (execs body (here_in c a n call b) >>= λ f. after_body f (give Again)) (give (Leaving Done)) s1)
      by true s1 w1 st1 =
          follows_after c (true_passes c a n call b (suc p2) p1 [] w1 inside has.1.0 (omega arith))
          (follows_bind c (ih_body l exit (suc p1) _ os s1 w1 (omega (arith, le)) (omega (arith, inside)) (lies_less b l p2 (suc p2) exit (omega arith) lies) has.1.1.0 ok.1 st1) λ f s2 w2 k2. after f s2 w2 k2)
      by false s1 w1 st1 =
          let h = stmts_end c.program body (suc p1) in
          follows_after c (false_jumps c a n call b (suc p2) p1 [] w1 inside (omega (arith, h)) has.1.0 (omega arith))
          (follows_value c w1 (here c _) (tt, st1))

  pub while_case : (e : Expr) (body : Stmts) (at : Pos) → AllExpr e → AllStmts body → AllStmt (While e body at)
  while_case e body at ih_e ih_body b le_b l exit pc k os s w le inside lies has ok st =
      let p1 = end_expr c.program e pc in
      let p2 = end_stmts c.program body (suc p1) in
      let h1 = expr_ends c.program e pc in
      let h2 = stmts_end c.program body (suc p1) in
      loop_ends n b (λ w. go c a p2 [] w) pc (suc p2) exit at l os _ le_b (omega arith) (back_jump b pc p2 at (omega (arith, h1, h2)) (omega (arith, inside)) has.1.1.1.0)
      (λ b2 s w le2 st. while_round b2 e body at (ih_e b2 le2) (ih_body b2 le2) l exit pc k os s w le inside (lies_same b b2 l _ exit lies) has ok st)
      s w st

  repeat_round : (b : ℕ) (body : Stmts) (e : Expr) (at : Pos) → StmtsFollow c a n call b body → ExprFollows c a n call b e → (l : Bool) (exit pc k : ℕ) (os : List AnObject) (s : State) (w : World) → need_stmt (Repeat body e at) ≤ 256 → end_stmt c.program (Repeat body e at) pc < length a.u.code → ExitLies c a n call b l (end_stmt c.program (Repeat body e at) pc) exit → code.StmtCode (scope c a) (Repeat body e at) exit pc k → typed.StmtOk c.program (has_of c) a.unit (static_held c.program a.procedure) a.procedure.result (Repeat body e at) l → Keeps c a n call b os s w →
      Follows c (go c a pc [] w) (RoundTo c a n call b (λ w. go c a (end_expr c.program e (end_stmts c.program body pc)) (pos 0 ∷ []) w) (suc (end_expr c.program e (end_stmts c.program body pc))) exit) (RoundKept c a n call b l os)
      (bind (execs body (here_in c a n call b) s) (λ f. after_body f (value e (here_in c a n call b) >>= λ v. choose (truth_of v) (give (Leaving Done)) (give Again))))
  repeat_round b body e at ih_body ih_e l exit pc k os s w le inside lies has ok st =
      let h = expr_ends c.program e p1 in
      follows_bind c (ih_body l exit pc k os s w (omega (arith, le)) (omega (arith, inside, h)) (lies_less b l p1 (suc p2) exit (omega (arith, h)) lies) has.0 ok.0 st) λ f s1 w1 k1. after f s1 w1 k1
    where
      p1 : ℕ
      p1 = end_stmts c.program body pc

      p2 : ℕ
      p2 = end_expr c.program e p1

      To : Round → State → World → Point
      To = RoundTo c a n call b (λ w. go c a p2 (pos 0 ∷ []) w) (suc p2) exit

      Keep : Round → State → World → Type 0
      Keep = RoundKept c a n call b l os

      by : (z : Bool) (s2 : State) (w2 : World) → Keeps c a n call b os s2 w2 → Follows c (go c a p2 (truth z ∷ []) w2) To Keep (choose z (give (Leaving Done)) (give Again) s2)
      by true s2 w2 st2 = let up = stmts_end c.program body pc in let h = expr_ends c.program e p1 in follows_value c w2 (true_passes c a n call b pc p2 [] w2 (omega (arith, up, h, inside)) has.1.1.0.has (omega arith)) (tt, st2)
      by false s2 w2 st2 = follows_value c w2 (here c _) st2

      after : (f : Flow) (s1 : State) (w1 : World) → FlowKept c a n call b l os f s1 w1 → Follows c (FlowTo c a n call b p1 exit f s1 w1) To Keep (after_body f (value e (here_in c a n call b) >>= λ v. choose (truth_of v) (give (Leaving Done)) (give Again)) s1)
      after Done s1 w1 h =
          follows_bind c (ih_e boolean p1 _ [] os s1 w1 (omega (arith, le)) has.1.0 ok.1 h.1) λ v s2 w2 k2.
          by_truth c a n call b v s2.made p2 [] w2 (λ v. choose (truth_of v) (give (Leaving Done)) (give Again) s2) k2.0 (λ z. by z s2 w2 k2.1)
      after Leaves s1 w1 h = follows_value c w1 (here c _) h
      after (Back v) s1 w1 h = follows_value c w1 (here c _) h

  pub repeat_case : (body : Stmts) (e : Expr) (at : Pos) → AllStmts body → AllExpr e → AllStmt (Repeat body e at)
  repeat_case body e at ih_body ih_e b le_b l exit pc k os s w le inside lies has ok st =
      let p1 = end_stmts c.program body pc in
      let p2 = end_expr c.program e p1 in
      let h1 = stmts_end c.program body pc in
      let h2 = expr_ends c.program e p1 in
      loop_ends n b (λ w. go c a p2 (pos 0 ∷ []) w) pc (suc p2) exit at l os _ le_b (omega arith) (back_jump_if b pc p2 at (omega (arith, h1, h2)) (omega (arith, inside)) has.1.1.0)
      (λ b2 s w le2 st. repeat_round b2 body e at (ih_body b2 le2) (ih_e b2 le2) l exit pc k os s w le inside (lies_same b b2 l _ exit lies) has ok st)
      s w st

  pub loop_case : (body : Stmts) (at : Pos) → AllStmts body → AllStmt (Loop body at)
  loop_case body at ih_body b le_b l exit pc k os s w le inside lies has ok st =
      let h1 = stmts_end c.program body pc in
      loop_ends n b (λ w. go c a p1 [] w) pc (suc p1) exit at l os _ le_b (omega arith) (back_jump b pc p1 at h1 (omega (arith, inside)) has.1.0)
      (λ b2 s w le2 st. follows_bind c (ih_body b2 le2 true (suc p1) pc k os s w le (omega (arith, inside)) (omega arith, inside) has.0 ok st) λ f s1 w1 k1. after b2 f s1 w1 k1)
      s w st
    where
      p1 : ℕ
      p1 = end_stmts c.program body pc

      after : (b2 : ℕ) (f : Flow) (s1 : State) (w1 : World) → FlowKept c a n call b2 true os f s1 w1 → Follows c (FlowTo c a n call b2 p1 (suc p1) f s1 w1) (RoundTo c a n call b2 (λ w. go c a p1 [] w) (suc p1) exit) (RoundKept c a n call b2 l os) (give (after_loop_body f) s1)
      after b2 Done s1 w1 h = follows_value c w1 (here c _) h.1
      after b2 Leaves s1 w1 h = follows_value c w1 (here c _) (tt, h.1)
      after b2 (Back v) s1 w1 h = follows_value c w1 (here c _) h
