-- The code of CASE follows its meaning.
use Rattle.std.proofs.Common.{◌≡◌, ℕ, suc, ◌≤◌, ◌<◌, List, [], ◌∷◌, length, Some, ℤ, refl, sym, ap, ◌∙◌, subst, arith, ⊎_elim}
use Rattle.std.proofs.lemmas.Bool.Decides.{nat_tests}
use Rattle.std.specs.Prelude.{pos, Bool, true, false, ◌&&◌, ◌||◌, int_le, nat_lt, if◌then◌else◌}
use Rattle.ob_trap.specs.declared.trap.Trap.{Trap}
use Rattle.ob_trap.specs.Numbers.{trap_number}
use Rattle.ob_trap.specs.declared.trap.Trap.TheVariants as traps_of
use Rattle.ob_tree.specs.declared.pos.Pos.{Pos}
use Rattle.ob_types.specs.declared.typed.Width.TheVariants as width
use Rattle.ob_types.specs.declared.typed.Variable.TheVariants as variable
use Rattle.ob_types.specs.declared.typed.Label.{Label}
use Rattle.ob_types.specs.TypedSyntax.{Expr, Case, Stmts, Cases, NoCase, OneCase, Otherwise, NoElse, Else}
use Rattle.ob_mem.specs.Words.{word_at}
use Rattle.ob_instr.specs.declared.opcode.Opcode.TheVariants as op
use Rattle.ob_instr.specs.Image.{World}
use Rattle.ob_instr.specs.Rows.{Next, truth}
use Rattle.ob_instr.proofs.Goes as rows
use Rattle.ob_meaning.specs.Values.{Form, Value, Integer, integer_of, value_at, AnObject, State}
use Rattle.ob_meaning.specs.Results.{M, bind, trap, Caller}
use Rattle.ob_types.specs.Numbers.{is_in}
use Rattle.ob_meaning.specs.Meaning.{value, choose, Flow, Done, Leaves, Back, hidden, keep, is_labelled, execs, exec_cases, exec_else}
use Rattle.law_simulation_relation.specs.Layout.{static_held, address}
use Rattle.law_simulation_relation.specs.Relation.{Fine, Scalar, word_of}
use Rattle.law_simulation_relation.specs.Need.{need_cases, need_else}
use Rattle.law_simulation_relation.specs.Ends.{end_expr, end_labels, end_stmts, end_cases, end_else}
use Rattle.law_simulation_relation.specs.Stands as code
use Rattle.law_simulation_relation.specs.Typed as typed
use Rattle.law_simulation_relation.specs.Typed.{longint, char}
use Rattle.law_simulation_relation.proofs.Steps.{Reach, here, then_reach, Follows, follows_bind, follows_after, follows_map, follows_stop, stands_any}
use Rattle.law_simulation_relation.proofs.Statements.{Activation, scope, go, fb, K, here_in, Keeps, ExprFollows, StmtsFollow, StmtFollows, FlowTo, FlowKept, ExitLies, OtherFollows}
use Rattle.law_simulation_relation.proofs.Grow.{address_same}
use Rattle.law_simulation_relation.proofs.Located.{spot}
use Rattle.law_simulation_relation.proofs.Behind.{labels_end, stmts_end, cases_end, else_ends}
use Rattle.law_simulation_relation.proofs.Moves.{goes, traps}
use Rattle.law_simulation_relation.proofs.Variables.{variable_of}
use Rattle.law_simulation_relation.proofs.Values.{sub_scalar}
use Rattle.law_simulation_relation.proofs.Exprs.{from_here, since, int_goes, true_passes, false_jumps, jump_goes}
use Rattle.law_simulation_relation.proofs.Stmts.{lies_less}
use Rattle.law_simulation_relation.specs.Setting.{Setting, has_of}
use Rattle.law_simulation_operators.proofs.For.{at_most, VariableOk, hidden_at, hidden_goes, keep_follows}

module _ (c : Setting) (a : Activation c) (n : ℕ) (call : Caller) (b : ℕ) where
  abbrev W : List AnObject → Value → ℤ
  W os v = word_of c.program (has_of c) c.img os v

  abbrev F : List AnObject → Form → Value → Type 0
  F os t v = Fine c.program (has_of c) os t v

  abbrev Kp : List AnObject → State → World → Type 0
  Kp os s w = Keeps c a n call b os s w

  abbrev HiddenOk : Pos → Type 0
  HiddenOk at = VariableOk c a n call (variable.Local (hidden at)) longint

  abbrev KeptIs : Pos → ℤ → State → Type 0
  KeptIs at z s = value_at s.store (hidden_at c a n call at) ≡ Integer z

  -- LABELS

  -- the value that is kept
  kept_goes : (at : Pos) (z : ℤ) (pc : ℕ) (os : List AnObject) (s : State) (w : World) → code.Has (scope c a) pc (code.with_a op.Local (code.hidden_slot (scope c a) at)) → code.Has (scope c a) (suc pc) (code.plain op.Load) → HiddenOk at → KeptIs at z s → Kp os s w → Reach c (go c a pc [] w) (go c a (suc (suc pc)) (z ∷ []) w)
  kept_goes at z pc os s w has has2 ok is st =
      let p = hidden_at c a n call at in
      let there = variable_of c a s w st.all (variable.Local (hidden at)) longint tt ok in
      let e = sub_scalar _ _ there.1 tt in
      let x = spot c (K c a) s w st.all p (subst (λ u. Scalar u) (sym e) tt) there.0 in
      let load : word_at w.words (pos (address c.program c.img s.made (K c a) p)) ≡ Some z = x.load ∙ ap (λ v. Some (W s.made v)) is in
      then_reach c (hidden_goes c a n call b at pc [] os s w (omega arith) has ok st)
      (goes c a _ w has2 (rows.load_next c.img a.u a.m a.p (fb c a) (suc pc) w (pos (address c.program c.img s.made (K c a) p)) z [] load) (omega arith))

  at_least_goes : (x y : ℤ) (pc : ℕ) (w : World) → code.Has (scope c a) pc (code.plain op.Ge) → Reach c (go c a pc (y ∷ x ∷ []) w) (go c a (suc pc) (truth (int_le y x) ∷ []) w)
  at_least_goes x y pc w has = goes c a _ w has (ap (λ b. Next (truth b ∷ []) w) (at_most y x)) (omega arith)

  at_most_goes : (x y : ℤ) (pc : ℕ) (w : World) → code.Has (scope c a) pc (code.plain op.Le) → Reach c (go c a pc (y ∷ x ∷ []) w) (go c a (suc pc) (truth (int_le x y) ∷ []) w)
  at_most_goes x y pc w has = goes c a _ w has (ap (λ b. Next (truth b ∷ []) w) (at_most x y)) (omega arith)

  -- to the body where a label fits, else to what is next
  labels_go : (ls : List Label) (at : Pos) (z : ℤ) (pc body next : ℕ) (os : List AnObject) (s : State) (w : World) → end_labels c.program ls pc ≤ body → body ≤ next → code.LabelsCode (scope c a) ls at pc body next → HiddenOk at → KeptIs at z s → Kp os s w → Reach c (go c a pc [] w) (go c a (if is_labelled ls z then body else next) [] w)
  labels_go [] at z pc body next os s w le le2 has ok is st = jump_goes c a n call b next pc [] w has.1 (omega (arith, le, le2)) has.0 (omega arith)
  labels_go (l ∷ ls) at z pc body next os s w le le2 has ok is st =
      then_reach c (kept_goes at z pc os s w has.0.0 has.0.1.0 ok is st)
      (then_reach c (int_goes c a n call b l.low (suc (suc pc)) (z ∷ []) w (omega arith) has.0.1.1.0)
      (then_reach c (at_least_goes z l.low (suc (suc (suc pc))) w has.0.1.1.1.0)
      (low (int_le l.low z) (λ u. labels_go ls at z next_label body next os s w le le2 has.1.1.1.1 ok is st))))
    where
      next_label : ℕ
      next_label = suc (suc (suc (suc (suc (suc (suc (suc (suc (suc (suc pc))))))))))

      p4 : ℕ
      p4 = suc (suc (suc (suc pc)))

      p5 : ℕ
      p5 = suc p4

      p9 : ℕ
      p9 = suc (suc (suc (suc p5)))

      Rest : Type 0
      Rest = Unit {0} → Reach c (go c a next_label [] w) (go c a (if is_labelled ls z then body else next) [] w)

      high : (t : Bool) → Rest → Reach c (go c a p9 (truth t ∷ []) w) (go c a (if t || is_labelled ls z then body else next) [] w)
      high true rest =
          then_reach c (true_passes c a n call b next_label p9 [] w has.1.1.0 has.1.0.1.1.1.1.0 (omega arith))
          (jump_goes c a n call b body (suc p9) [] w has.1.1.1.0 (let h = labels_end c.program ls next_label in omega (arith, h, le)) has.1.0.1.1.1.1.1 (omega arith))
      high false rest = then_reach c (false_jumps c a n call b next_label p9 [] w has.1.1.0 (omega arith) has.1.0.1.1.1.1.0 (omega arith)) (rest tt)

      low : (t : Bool) → Rest → Reach c (go c a p4 (truth t ∷ []) w) (go c a (if (t && int_le z l.high) || is_labelled ls z then body else next) [] w)
      low true rest =
          then_reach c (true_passes c a n call b next_label p4 [] w has.1.1.0 has.0.1.1.1.1 (omega arith))
          (then_reach c (kept_goes at z p5 os s w has.1.0.0 has.1.0.1.0 ok is st)
          (then_reach c (int_goes c a n call b l.high (suc (suc p5)) (z ∷ []) w (omega arith) has.1.0.1.1.0)
          (then_reach c (at_most_goes z l.high (suc (suc (suc p5))) w has.1.0.1.1.1.0)
          (high (int_le z l.high) rest))))
      low false rest = then_reach c (false_jumps c a n call b next_label p4 [] w has.1.1.0 (omega arith) has.0.1.1.1.1 (omega arith)) (rest tt)

  -- CASES: the first whose labels fit the value that is kept, else the other

  abbrev pub KeptCasesFollow : Cases → Type 0
  KeptCasesFollow t = (z : ℤ) (p : Pos) (l : Bool) (end exit pc at : ℕ) (os : List AnObject) (s : State) (w : World) (other : M Flow) → need_cases t ≤ 256 → end_cases c.program t pc ≤ end → end < length a.u.code → ExitLies c a n call b l end exit → code.CasesCode (scope c a) t p end exit pc at → typed.CasesOk c.program (has_of c) a.unit (static_held c.program a.procedure) a.procedure.result t l → HiddenOk p → KeptIs p z s → OtherFollows c a n call b l (end_cases c.program t pc) end exit os other → Kp os s w →
      Follows c (go c a pc [] w) (FlowTo c a n call b end exit) (FlowKept c a n call b l os) (exec_cases t z (here_in c a n call b) other s)

  pub no_case_case : KeptCasesFollow NoCase
  no_case_case z p l end exit pc k os s w other le ends inside lies has ok hid is others st = others s w st

  pub one_case_case : (labels : List Label) (body : Stmts) (rest : Cases) → StmtsFollow c a n call b body → KeptCasesFollow rest → KeptCasesFollow (OneCase labels body rest)
  one_case_case labels body rest ih_body ih_rest z p l end exit pc k os s w other le ends inside lies has ok hid is others st =
      by (is_labelled labels z) (labels_go labels p z pc p1 (suc p2) os s w (omega arith) (omega (arith, body_ends)) has.0 hid is st)
    where
      p1 : ℕ
      p1 = end_labels c.program labels pc

      p2 : ℕ
      p2 = end_stmts c.program body p1

      body_ends : p1 ≤ p2
      body_ends = stmts_end c.program body p1

      behind : suc p2 ≤ end
      behind = let h = cases_end c.program rest (suc p2) in omega (arith, h, ends)

      out : (f : Flow) (s : State) (w : World) → FlowKept c a n call b l os f s w → Reach c (FlowTo c a n call b p2 exit f s w) (FlowTo c a n call b end exit f s w)
      out Done s w h = jump_goes c a n call b end p2 [] w inside behind has.1.1.0 (omega arith)
      out Leaves s w h = here c _
      out (Back v) s w h = here c _

      by : (t : Bool) → Reach c (go c a pc [] w) (go c a (if t then p1 else suc p2) [] w) → Follows c (go c a pc [] w) (FlowTo c a n call b end exit) (FlowKept c a n call b l os) (choose t (execs body (here_in c a n call b)) (exec_cases rest z (here_in c a n call b) other) s)
      by true r =
          follows_after c r
          (follows_map c (ih_body l exit p1 _ os s w (omega (arith, le)) (omega (arith, behind, inside)) (lies_less c a n call b l p2 end exit (omega (arith, behind)) lies) has.1.0 ok.0 st) out (λ f s w h. h))
      by false r =
          follows_after c r
          (ih_rest z p l end exit (suc p2) _ os s w other (omega (arith, le)) ends inside lies has.1.1.1.1 ok.1 hid is others st)

  -- ELSE, or the trap where there is none

  abbrev pub ElseOrTrapFollows : Otherwise → Type 0
  ElseOrTrapFollows t = (kind : Trap) (p : Pos) (l : Bool) (exit pc at : ℕ) (os : List AnObject) (s : State) (w : World) → need_else t ≤ 256 → end_else c.program t pc < length a.u.code → ExitLies c a n call b l (end_else c.program t pc) exit → code.ElseCode (scope c a) t (code.HasAt (scope c a) pc (code.with_a op.Trap (trap_number kind)) p) exit pc at → typed.ElseOk c.program (has_of c) a.unit (static_held c.program a.procedure) a.procedure.result t l → Kp os s w →
      Follows c (go c a pc [] w) (FlowTo c a n call b (end_else c.program t pc) exit) (FlowKept c a n call b l os) (exec_else t (here_in c a n call b) (trap kind (here_in c a n call b) p) s)

  pub no_else_case : ElseOrTrapFollows NoElse
  no_else_case kind p l exit pc at os s w le inside lies has ok st = follows_stop c w (traps c a kind (pos 0) w has (rows.trap_traps c.img a.u a.m a.p (fb c a) pc w kind (pos 0) [])) (stands_any c st)

  pub else_case : (body : Stmts) → StmtsFollow c a n call b body → ElseOrTrapFollows (Else body)
  else_case body ih kind p l exit pc at os s w le inside lies has ok st = ih l exit pc at os s w le inside lies has ok st

  -- THE STATEMENT

  -- the value of CASE as an integer
  abbrev IsNumber : List AnObject → Value → Type 0
  IsNumber os v = (W os v ≡ integer_of v) × F os longint (Integer (integer_of v))

  long_number : (os : List AnObject) (v : Value) → F os longint v → IsNumber os v
  long_number os v h = subst (λ v. IsNumber os v) (sym h.2) (refl, (h.0, h.1, refl))

  char_in : (k : ℕ) → k < 256 → is_in width.LongInt (pos k) ≡ true
  char_in k lt = grind (arith, nat_tests)

  char_number : (os : List AnObject) (v : Value) → F os char v → IsNumber os v
  char_number os v h = subst (λ v. IsNumber os v) (sym h.2) (refl, (pos h.0, char_in h.0 h.1, refl))

  pub case_case : (e : Expr) (cases : Cases) (otherwise : Otherwise) (at : Pos) → ExprFollows c a n call b e → KeptCasesFollow cases → ElseOrTrapFollows otherwise → StmtFollows c a n call b (Case e cases otherwise at)
  case_case e cases otherwise at ih_e ih_cases ih_else l exit pc k os s w le inside lies has ok st =
      ⊎_elim (λ h. whole longint h (λ os v f. long_number os v f)) (λ h. whole char h (λ os v f. char_number os v f)) ok.0
    where
      p1 : ℕ
      p1 = end_expr c.program e (suc pc)

      p2 : ℕ
      p2 = end_cases c.program cases (suc p1)

      end : ℕ
      end = end_else c.program otherwise p2

      hid : HiddenOk at
      hid = ok.1.0

      whole : (t : Form) → typed.ExprOk c.program (has_of c) a.unit (static_held c.program a.procedure) a.procedure.result e t → ((os : List AnObject) (v : Value) → F os t v → IsNumber os v) →
          Follows c (go c a pc [] w) (FlowTo c a n call b end exit) (FlowKept c a n call b l os) (bind (value e (here_in c a n call b) s) (λ v s. bind (keep at (Integer (integer_of v)) s) (λ x. exec_cases cases (integer_of v) (here_in c a n call b) (exec_else otherwise (here_in c a n call b) (trap traps_of.NoCase (here_in c a n call b) at)))))
      whole t h number =
          let p = hidden_at c a n call at in
          let there = variable_of c a s w st.all (variable.Local (hidden at)) longint tt hid in
          follows_after c (hidden_goes c a n call b at pc [] os s w (omega arith) has.0 hid st)
          (follows_bind c (ih_e t (suc pc) k (pos (address c.program c.img s.made (K c a) p) ∷ []) s.made s w (omega (arith, le)) has.1.0 h (from_here c a n call b st)) λ v s1 w1 k1.
          let is = number s1.made v k1.0 in
          follows_bind c
          (subst (λ m. Follows c (go c a p1 (W s1.made v ∷ pos m ∷ []) w1) (λ u s w. go c a (suc p1) [] w) (λ u s w. Kp os s w × (value_at s.store p ≡ Integer (integer_of v))) (keep at (Integer (integer_of v)) s1)) (address_same c s.made s1.made k1.1.objects (K c a) p there.0)
          (subst (λ z. Follows c (go c a p1 (z ∷ pos (address c.program c.img s1.made (K c a) p) ∷ []) w1) (λ u s w. go c a (suc p1) [] w) (λ u s w. Kp os s w × (value_at s.store p ≡ Integer (integer_of v))) (keep at (Integer (integer_of v)) s1)) (sym is.0)
          (keep_follows c a n call b at (Integer (integer_of v)) p1 os s1 w1 has.1.1.0 hid is.1 (since c a n call b st.objects k1.1)))) λ u s2 w2 k2.
          ih_cases (integer_of v) at l end exit (suc p1) _ os s2 w2 (exec_else otherwise (here_in c a n call b) (trap traps_of.NoCase (here_in c a n call b) at)) (omega (arith, le)) (else_ends c.program otherwise p2) inside lies has.1.1.1.0 ok.1.1.0 hid k2.1
          (λ s3 w3 k3. ih_else traps_of.NoCase at l exit p2 _ os s3 w3 (omega (arith, le)) inside lies has.1.1.1.1 ok.1.1.1 k3)
          k2.0)
