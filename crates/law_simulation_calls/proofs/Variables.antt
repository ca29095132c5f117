-- Calls of procedure variables follow their meaning.
use Rattle.std.proofs.Common.{◌≡◌, ⊎_elim, ℕ, suc, ◌+◌, ◌≤◌, ◌<◌, List, [], ◌∷◌, ◌++◌, length, Option, Some, None, ℤ, refl, sym, ap, ◌∙◌, subst, arith}
use Rattle.std.specs.Prelude.{pos, if◌then◌else◌, ◌*◌, ◌/◌, ◌%◌}
use Rattle.std.proofs.lemmas.Nat.{div-mul-add, div-add-mod'}
use Rattle.ob_trap.specs.declared.trap.Trap.TheVariants as trap
use Rattle.ob_tree.specs.declared.pos.Pos.{Pos}
use Rattle.ob_tree.specs.declared.names.QName.{QName}
use Rattle.ob_tree.specs.declared.proc_ref.ProcRef.{ProcRef}
use Rattle.ob_types.specs.declared.types.Mode.{Mode}
use Rattle.ob_types.specs.declared.types.TypeRef.{TypeRef}
use Rattle.ob_types.specs.declared.types.Signature.{Signature}
use Rattle.ob_types.specs.declared.typed.Passing.{Passing}
use Rattle.ob_types.specs.declared.typed.Passing.TheVariants as passing
use Rattle.ob_types.specs.declared.typed.TypedParameter.{TypedParameter}
use Rattle.ob_types.specs.TypedSyntax.{Desig, Expr, CallVariable, Actuals, NoActual, AnActual, CallProper}
use Rattle.ob_instr.specs.declared.opcode.Opcode.TheVariants as op
use Rattle.ob_instr.specs.Image.{World}
use Rattle.ob_instr.specs.Rows.{Traps, calls, is_zero, on_one, on_found, proc_value, proc_of_value}
use Rattle.ob_meaning.specs.Values.{Form, ProcedureForm, form_in, formals_in, Value, Nil, ProcedureAt, AnObject, State}
use Rattle.ob_meaning.specs.Results.{give, Passed, Caller}
use Rattle.ob_meaning.specs.Meaning.{call_held, value, result_of}
use Rattle.law_simulation_relation.specs.Layout.{static_held}
use Rattle.law_simulation_relation.specs.Relation.{Fine, word_of, number_of, Scalar}
use Rattle.law_simulation_relation.specs.Ends.{end_place, end_actuals}
use Rattle.law_simulation_relation.specs.Stands as code
use Rattle.law_simulation_relation.specs.Stands.{operands_of}
use Rattle.law_simulation_relation.specs.Typed as typed
use Rattle.law_simulation_relation.specs.Typed.{passing_for, result_form}
use Rattle.law_simulation_relation.proofs.Steps.{here, Follows, follows_bind, follows_map, follows_value, follows_stop, by_bind, stands_any}
use Rattle.law_simulation_relation.proofs.Statements.{Activation, scope, go, fb, K, here_in, Keeps, onto, ExprFollows, ActualsFollow, StmtFollows, ArgumentsFit, CallsFollow, ResultFine, result_fine, result_words, result_slots, DesigOk}
use Rattle.law_simulation_relation.proofs.Passings.{formal_is}
use Rattle.law_simulation_relation.proofs.Needs.{need_one}
use Rattle.law_simulation_relation.proofs.Moves.{has_it, traps, effect}
use Rattle.law_simulation_relation.proofs.Values.{widen}
use Rattle.law_simulation_relation.specs.Setting.{Setting, has_of}
use Rattle.law_simulation_records.proofs.Pointers.{HolderFollows, holder_load}
use Rattle.law_simulation_operators.specs.Procedures.{ValuesNumbered}
use Rattle.law_simulation_calls.specs.Signatures.{Alike, ParametersMatch, ValuesMatch}
use Rattle.law_simulation_calls.proofs.Fits.{args_are, all_alike, counted}

-- a procedure by its value
abbrev procedure_by : ℕ → ℕ → ProcRef
procedure_by m p = record { «module» = m; proc = p }

value_is : (r : ProcRef) → proc_value r ≡ pos (suc (65536 * r.module + r.proc))
value_is r = ap pos (let e : 1 + (65536 * r.module + r.proc) ≡ suc (65536 * r.module + r.proc) = omega arith in e)

value_tells : (r : ProcRef) → r.proc < 65536 → proc_of_value (pos (suc (65536 * r.module + r.proc))) ≡ Some r
value_tells r lt =
    let n = 65536 * r.module + r.proc in
    let turned : n ≡ r.module * 65536 + r.proc = omega arith in
    let first : n / 65536 ≡ r.module = ap (λ n. n / 65536) turned ∙ div-mul-add r.module 65536 r.proc lt in
    let whole = div-add-mod' n 65536 in
    let second : n % 65536 ≡ r.proc = omega (arith, whole, first) in
    ap (λ m. Some (procedure_by m (n % 65536))) first ∙ ap (λ p. Some (procedure_by r.module p)) second

module _ (c : Setting) (a : Activation c) (n : ℕ) (call : Caller) (b : ℕ) where
  abbrev W : List AnObject → Value → ℤ
  W os v = word_of c.program (has_of c) c.img os v

  abbrev T : Desig → Form
  T d = code.form_of (scope c a) d

  abbrev Sg : Actuals → List (Mode × TypeRef) → Type 0
  Sg es ts = typed.SignatureOk c.program (has_of c) a.unit (static_held c.program a.procedure) a.procedure.result es ts

  -- the parameters that a signature asks for
  abbrev parameters_of : List (Mode × TypeRef) → List TypedParameter
  parameters_of [] = []
  parameters_of (t ∷ ts) = record { name = []; passing = passing_for t.0 (form_in c.program t.1); of = t.1 } ∷ parameters_of ts

  -- what is asked of an actual parameter by how it is passed
  abbrev Passes : Passing → Expr → Form → Type 0
  Passes how e t = typed.ByPassing how (typed.ExprOk c.program (has_of c) a.unit (static_held c.program a.procedure) a.procedure.result e t × Scalar t) (typed.StructureOk c.program (has_of c) a.unit (static_held c.program a.procedure) a.procedure.result e t) (typed.ArrayOk c.program (has_of c) a.unit (static_held c.program a.procedure) a.procedure.result e t) (typed.ReferredOk c.program (has_of c) a.unit (static_held c.program a.procedure) a.procedure.result e t) (typed.RecordOk c.program (has_of c) a.unit (static_held c.program a.procedure) a.procedure.result e t) (typed.VariableArrayOk c.program (has_of c) a.unit (static_held c.program a.procedure) a.procedure.result e t)

  actuals_ok : (es : Actuals) (ts : List (Mode × TypeRef)) → Sg es ts → typed.ActualsOk c.program (has_of c) a.unit (static_held c.program a.procedure) a.procedure.result es (parameters_of ts)
  actuals_ok NoActual [] ok = ok
  actuals_ok NoActual (t ∷ ts) ok = ok
  actuals_ok (AnActual how t e rest) [] ok = ok
  actuals_ok (AnActual how t e rest) (u ∷ ts) ok = (ok.0, (formal_is c.program how u.0 t u.1 ok.0 ok.1.0, (subst (λ z. Passes how e z) ok.1.0 ok.1.1.0, actuals_ok rest ts ok.1.1.1)))

  match_alike : (os : List AnObject) (ps : List TypedParameter) (ts : List (Mode × TypeRef)) → ParametersMatch c.program ps ts → Alike c.program (parameters_of ts) ps
  match_alike os [] [] k = k
  match_alike os [] (t ∷ ts) k = k
  match_alike os (p ∷ ps) [] k = k
  match_alike os (p ∷ ps) (t ∷ ts) k = ((sym k.0.0, sym k.0.1), match_alike os ps ts k.1)

  module _ (numbered : ValuesNumbered c) (match : ValuesMatch c) (calls_follow : CallsFollow c call b) where
    -- the call, where the value is known and its arguments are on the stack
    held_goes : (v : Value) (sig : Signature) (es : Actuals) (xs : List Passed) (ws ops : List ℤ) (at : Pos) (pc : ℕ) (os os2 : List AnObject) (s : State) (w : World) → Fine c.program (has_of c) os2 (ProcedureForm (formals_in c.program sig)) v → code.HasAt (scope c a) pc (code.with_a op.CallV (operands_of es)) at → Sg es sig.params → ArgumentsFit c s.made (K c a) (parameters_of sig.params) xs ws → length ops + 1 ≤ 256 → Keeps c a n call b os s w →
        Follows c (go c a pc (onto ws (W os2 v ∷ ops)) w) (λ r s w. go c a (suc pc) (result_words c s.made r ++ ops) w) (λ r s w. ResultFine c sig.result s.made r × Keeps c a n call b os s w) (call_held v xs (here_in c a n call b) at s)
    held_goes v sig es xs ws ops at pc os os2 s w fine has ok fit le st = ⊎_elim (λ e. subst Goal (sym e) nothing) (λ k. subst Goal (sym k.1) (something k.0 k.2)) fine
      where
        Goal : Value → Type 0
        Goal v = Follows c (go c a pc (onto ws (W os2 v ∷ ops)) w) (λ r s w. go c a (suc pc) (result_words c s.made r ++ ops) w) (λ r s w. ResultFine c sig.result s.made r × Keeps c a n call b os s w) (call_held v xs (here_in c a n call b) at s)

        len : length ws ≡ operands_of es
        len = counted c s.made (K c a) a es (parameters_of sig.params) xs ws (actuals_ok es sig.params ok) fit

        taken : (v : ℤ) → effect c a pc (onto ws (v ∷ ops)) w (code.with_a op.CallV (operands_of es)) ≡ (if is_zero v then Traps trap.Nil (pos 0) w else on_found (proc_of_value v) (λ r. calls c.img r ws ops w))
        taken v = args_are (operands_of es) ws (v ∷ ops) (λ args rest. on_one rest (λ v below. if is_zero v then Traps trap.Nil (pos 0) w else on_found (proc_of_value v) (λ r. calls c.img r args below w))) len

        nothing : Goal Nil
        nothing = follows_stop c w (traps c a trap.Nil (pos 0) w has (taken (pos 0))) (stands_any c st)

        by : (r : Option TypeRef) → length ops + result_slots c r ≤ 256
        by None = omega (arith, le)
        by (Some t) = le

        something : (q : QName) → has_of c (formals_in c.program sig) q → Goal (ProcedureAt q)
        something q may =
            let num = numbered (formals_in c.program sig) q may in
            let m = match sig q num.p may num.is in
            let r = number_of c.program (has_of c) c.img q in
            let is : effect c a pc (onto ws (proc_value r ∷ ops)) w (code.with_a op.CallV (operands_of es)) ≡ calls c.img r ws ops w = taken (proc_value r) ∙ ap (λ z. if is_zero z then Traps trap.Nil (pos 0) w else on_found (proc_of_value z) (λ r. calls c.img r ws ops w)) (value_is r) ∙ ap (λ o. on_found o (λ r. calls c.img r ws ops w)) (value_tells r num.below) in
            let fits = all_alike c s.made (K c a) (parameters_of sig.params) num.p.parameters xs ws (match_alike s.made num.p.parameters sig.params m.1) fit in
            let depth : length (K c a) ≡ suc (length a.acts) = ap suc a.depth in
            follows_map c (calls_follow q num.p xs ws ops a.unit at a.m a.p (fb c a) pc a.u (code.with_a op.CallV (operands_of es)) (K c a) a.acts (onto ws (proc_value r ∷ ops)) os s w a.is a.named (has_it c a has.has) has.place is num.is fits (by num.p.result) depth st)
            (λ r s w k. here c _) (λ r s w k. (result_fine c num.p.result sig.result s.made r m.0 k.0, k.1))

    abbrev VariableOk : Desig → Actuals → Option TypeRef → Type 0
    VariableOk d es r = DesigOk c a n call b d × ((s : Signature) × (T d ≡ ProcedureForm (formals_in c.program s)) × (result_form c.program s.result ≡ result_form c.program r) × Sg es s.params)

    pub call_variable_case : (d : Desig) (es : Actuals) (at : Pos) (r : Option TypeRef) → HolderFollows c a n call b d → ActualsFollow c a n call b es → ExprFollows c a n call b (CallVariable d es at r)
    call_variable_case d es at r ih_d ih_es t pc k ops os s w le has ok st = by r refl ok.1
      where
        p1 : ℕ
        p1 = end_place c.program d pc

        p2 : ℕ
        p2 = end_actuals c.program es (suc p1)

        sig : Signature
        sig = ok.0.1.0

        by : (z : Option TypeRef) → r ≡ z → typed.ResultOk c.program (has_of c) a.unit (static_held c.program a.procedure) a.procedure.result z t → Follows c (go c a pc ops w) (λ v s w. go c a (suc p2) (W s.made v ∷ ops) w) (λ v s w. Fine c.program (has_of c) s.made t v × Keeps c a n call b os s w) (value (CallVariable d es at r) (here_in c a n call b) s)
        by None e h = absurd h
        by (Some u) e h =
            let is : result_form c.program sig.result ≡ result_form c.program (Some u) = ok.0.1.2 ∙ ap (result_form c.program) e in
            follows_bind c (ih_d pc k ops os s w (omega (arith, le)) has.0 ok.0.0 (subst (λ u. Scalar u) (sym ok.0.1.1) tt) st) λ p s1 w1 k1.
            follows_bind c (holder_load c a n call b p (T d) p1 ops os s1 w1 (omega (arith, le, need_one d)) has.1.0 k1) λ v s2 w2 k2.
            by_bind c (ih_es (parameters_of sig.params) (suc p1) _ (W s2.made v ∷ ops) os s2 w2 (omega (arith, le)) has.1.1.0 (actuals_ok es sig.params ok.0.1.3) k2.1) λ ws xs s3 w3 k3.
            follows_bind c (held_goes v sig es xs ws ops at p2 os s2.made s3 w3 (subst (λ u. Fine c.program (has_of c) s2.made u v) ok.0.1.1 k2.0) has.1.1.1 ok.0.1.3 k3.0 (omega (arith, le)) k3.1) λ v s4 w4 k4.
            let g : ResultFine c (Some u) s4.made v = result_fine c sig.result (Some u) s4.made v is k4.0 in
            subst (λ v. Follows c (go c a (suc p2) (result_words c s4.made v ++ ops) w4) (λ v s w. go c a (suc p2) (W s.made v ∷ ops) w) (λ v s w. Fine c.program (has_of c) s.made t v × Keeps c a n call b os s w) (give (result_of v) s4)) (sym g.1)
            (follows_value c w4 (here c _) (widen c s4.made a (form_in c.program u) t g.0 h.1 g.3, k4.1))

    pub call_variable_proper_case : (d : Desig) (es : Actuals) (at : Pos) (r : Option TypeRef) → HolderFollows c a n call b d → ActualsFollow c a n call b es → StmtFollows c a n call b (CallProper (CallVariable d es at r))
    call_variable_proper_case d es at r ih_d ih_es l exit pc k os s w le inside lies has ok st =
        let p1 = end_place c.program d pc in
        let p2 = end_actuals c.program es (suc p1) in
        let sig = ok.0.1.0 in
        let is : result_form c.program sig.result ≡ result_form c.program None = ok.0.1.2 ∙ ap (result_form c.program) ok.1 in
        follows_bind c
        (follows_bind c (ih_d pc k [] os s w (omega (arith, le)) has.0 ok.0.0 (subst (λ u. Scalar u) (sym ok.0.1.1) tt) st) λ p s1 w1 k1.
        follows_bind c (holder_load c a n call b p (T d) p1 [] os s1 w1 (omega arith) has.1.0 k1) λ v s2 w2 k2.
        by_bind c (ih_es (parameters_of sig.params) (suc p1) _ (W s2.made v ∷ []) os s2 w2 (omega (arith, le)) has.1.1.0 (actuals_ok es sig.params ok.0.1.3) k2.1) λ ws xs s3 w3 k3.
        follows_bind c (held_goes v sig es xs ws [] at p2 os s2.made s3 w3 (subst (λ u. Fine c.program (has_of c) s2.made u v) ok.0.1.1 k2.0) has.1.1.1 ok.0.1.3 k3.0 (omega arith) k3.1) λ v s4 w4 k4.
        let g : v ≡ None = result_fine c sig.result None s4.made v is k4.0 in
        subst (λ v. Follows c (go c a (suc p2) (result_words c s4.made v ++ []) w4) (λ v s w. go c a (suc p2) [] w) (λ v s w. Keeps c a n call b os s w) (give (result_of v) s4)) (sym g)
        (follows_value c w4 (here c _) k4.1))
        λ v s5 w5 k5. follows_value c w5 (here c _) (tt, k5)
