-- A command, from its start to its end.
use Rattle.std.proofs.Common.{◌≡◌, ℕ, suc, ◌+◌, ◌≤◌, List, [], ◌∷◌, length, Option, Some, None, refl, sym, ap, ◌∙◌, subst, arith}
use Rattle.std.specs.Prelude.{false, slice_get}
use Rattle.ob_tree.specs.declared.names.QName.{QName}
use Rattle.ob_types.specs.declared.types.TypeRef.{TypeRef}
use Rattle.ob_types.specs.declared.typed.TypedParameter.{TypedParameter}
use Rattle.ob_types.specs.TypedSyntax.{Procedure, Module}
use Rattle.ob_instr.specs.Parts.{slots}
use Rattle.ob_instr.specs.Image as image
use Rattle.ob_instr.specs.Image.{World, End, Point, Go, Over}
use Rattle.ob_instr.specs.Rows as rows_of
use Rattle.ob_instr.specs.Rows.{procedures_of, procedure_of}
use Rattle.ob_instr.specs.Table.{begins, start, run, Ends}
use Rattle.ob_instr.specs.declared.procedure.Param.{Param}
use Rattle.ob_instr.proofs.Goes as rows
use Rattle.ob_instr.proofs.Steps as machine
use Rattle.ob_meaning.specs.Values as values
use Rattle.ob_meaning.specs.Values.{Active, State}
use Rattle.ob_meaning.specs.Results.{Res, Gives, Stops}
use Rattle.ob_meaning.specs.Meaning.{Flow, Done, Leaves, Back}
use Rattle.ob_meaning.specs.Calls.{held_by, begun, ended, cost_of_calls, calling}
use Rattle.ob_meaning.specs.Commands.{run_first, at_rest, body_name, body_procedure}
use Rattle.law_simulation_relation.specs.Layout.{module_number, copies_words}
use Rattle.law_simulation_relation.specs.Relation.{number_of, call_start}
use Rattle.law_simulation_relation.specs.Ends.{end_stmts}
use Rattle.law_simulation_relation.proofs.Steps.{Reach, then_reach, Follows}
use Rattle.law_simulation_relation.proofs.Statements.{Activation, K, go, fb, FlowTo, FlowKept, ArgumentsFit}
use Rattle.law_simulation_relation.proofs.Grow.{grows_same}
use Rattle.law_simulation_relation.proofs.Moves.{has_it}
use Rattle.law_simulation_relation.proofs.Rooms.{called_by, is_call, new_call, copied_words, enter_stands, leave_stands}
use Rattle.law_simulation_calls.specs.Tables.{TablesStand}
use Rattle.law_simulation.proofs.Slice.{stmts_follow}
use Rattle.law_simulation.proofs.Calls.{call_follows}
use Rattle.law_simulation_relation.specs.Linked.{KindsAre, LastCode, ProcedureStands, has_one, scope_of}
use Rattle.law_simulation_relation.specs.Setting.{Kept, Setting, StandIn, stopped, has_of}
use Rattle.law_simulation.specs.Simulates.{ImageStands, Simulates, idle}
use Rattle.law_simulation.specs.Slice.{AllIn, InStmts}

module _ (c : Setting) where
  pub rest_stands : (cs : List Active) (s : State) (w : World) → StandIn c cs s w → StandIn c [] (at_rest s) (idle c w)
  rest_stands [] s w st = record { stack_free = st.stack_free; heap_free = st.heap_free; words = st.words; globals_size = st.globals_size; stack_size = st.stack_size; heap_size = st.heap_size; stack = refl; heap_next = st.heap_next; turns = st.turns; out = st.out; modules_fine = st.modules_fine; calls_fine = tt; objects_fine = st.objects_fine }
  rest_stands (a ∷ cs) s w st = rest_stands cs (ended s) (record w { stack = call_start c.program (has_of c) c.img cs }) (leave_stands c a cs s w st)

  module _ (given : ImageStands c) (all : AllIn c) (q : QName) (p : Procedure) (ps : ProcedureStands c q p) (tables : TablesStand c ps.methods) (in_it : InStmts p.body) (plain : p.parameters ≡ []) (proper : p.result ≡ None) (s : State) (w : World) (idle_state : s.calls ≡ []) (st : StandIn c s.calls s w) where
    no_args : (z : List TypedParameter) → p.parameters ≡ z → z ≡ [] → ArgumentsFit c s.made s.calls p.parameters [] []
    no_args z e f = subst (λ z. ArgumentsFit c s.made s.calls z [] []) (sym (e ∙ f)) refl

    fit : ArgumentsFit c s.made s.calls p.parameters [] []
    fit = no_args p.parameters refl plain

    no_kinds : (ks : List Param) → KindsAre c.program p.parameters ks → ks ≡ []
    no_kinds [] k = refl
    no_kinds (y ∷ ks) k = absurd (subst (λ z. KindsAre c.program z (y ∷ ks)) plain k)

    len : 0 ≡ slots ps.entry.params
    len = sym (ap slots (no_kinds ps.entry.params ps.kinds))

    abbrev or_none : Option ℕ → ℕ
    or_none None = 0
    or_none (Some n) = n

    none_copied : copies_words (held_by c.program p s.store []) ≡ 0
    none_copied = ap or_none (sym (copied_words c q p ps s w [] [] st fit) ∙ ap (λ ks. rows_of.copy_words (length w.words) ks []) (no_kinds ps.entry.params ps.kinds))

    abbrev new : Activation c
    new = record {
      m = ps.m;
      u = ps.u;
      is = ps.is;
      unit = q.module;
      named = ps.named;
      first = ps.first;
      p = (number_of c.program (has_of c) c.img q).proc;
      procedure = p;
      methods = ps.methods;
      entry = ps.entry;
      here_it_is = ps.found;
      gives = ps.gives;
      active = called_by c q p s.store [];
      cs = s.calls;
      acts = [];
      depth = ap length idle_state;
      result_fits = tt;
      call = is_call c q p s.made s.calls s.store [] [] fit;
    }

    abbrev w2 : World
    w2 = record w { words = rows_of.entered w.words w.stack ps.entry []; stack = w.stack + (slots ps.entry.params + ps.entry.locals + 0) }

    cost : cost_of_calls (called_by c q p s.store [] ∷ s.calls) ≤ 1048576
    cost =
        let n = new_call c q p ps s w st [] [] fit in
        let none : cost_of_calls s.calls ≡ 0 = ap cost_of_calls idle_state in
        omega (arith, n.cost, none_copied, none, ps.small, ps.locals, len)

    begins_so : Kept c (K c new) s.turns s.made (begun c.program q p [] s) w2
    begins_so = record { all = subst (λ k. StandIn c (called_by c q p s.store [] ∷ s.calls) (begun c.program q p [] s) (record w { words = rows_of.entered w.words w.stack ps.entry []; stack = w.stack + (slots ps.entry.params + ps.entry.locals + k) })) none_copied (enter_stands c q p ps s w [] [] st fit len cost); calls = refl; bound = omega arith; objects = grows_same c s.made }

    abbrev n : ℕ
    n = s.turns

    follows : Follows c (go c new ps.entry.entry [] w2) (FlowTo c new n (calling c.program c.heap n) n (end_stmts c.program p.body ps.entry.entry) 0) (FlowKept c new n (calling c.program c.heap n) n false s.made) (run_first c.program c.heap q p s)
    follows = stmts_follow c new given tables n (calling c.program c.heap n) (λ b le. call_follows c given all n b le) p.body in_it n (omega arith) false 0 ps.entry.entry ps.at s.made (begun c.program q p [] s) w2 ps.need ps.inside tt ps.code ps.ok begins_so

    -- the first activation
    starts : start c.img (number_of c.program (has_of c) c.img q) w ≡ go c new ps.entry.entry [] w2
    starts =
        let r = number_of c.program (has_of c) c.img q in
        let entry_found : procedure_of c.img r ≡ Some ps.entry = ap (λ m. slice_get (procedures_of (slice_get c.img.modules m)) r.proc) ps.named ∙ ap (λ o. slice_get (procedures_of o) r.proc) ps.is.is ∙ ps.found in
        let top : w.stack ≡ suc c.img.room.globals = st.stack ∙ ap (λ cs. call_start c.program (has_of c) c.img cs) idle_state ∙ omega arith in
        let size : suc c.img.room.globals + (slots ps.entry.params + ps.entry.locals) ≡ w.stack + (slots ps.entry.params + ps.entry.locals + 0) = omega (arith, top) in
        ap (λ o. begins o r (suc c.img.room.globals) w) entry_found
        ∙ ap (λ k. Go r.module r.proc (suc c.img.room.globals) [] ps.entry.entry [] (record w { words = rows_of.entered w.words (suc c.img.room.globals) ps.entry []; stack = k })) size
        ∙ ap (λ f. Go r.module r.proc f [] ps.entry.entry [] (record w { words = rows_of.entered w.words f ps.entry []; stack = w.stack + (slots ps.entry.params + ps.entry.locals + 0) })) (sym top)
        ∙ ap (λ m. Go m r.proc w.stack [] ps.entry.entry [] w2) ps.named
        ∙ ap (λ f. Go ps.m r.proc f [] ps.entry.entry [] w2) st.stack

    returns : (s3 : State) (w3 : World) → Reach c (go c new (end_stmts c.program p.body ps.entry.entry) [] w3) (Over image.Done w3)
    returns s3 w3 = by p.result proper ps.last
      where
        by : (z : Option TypeRef) → z ≡ None → LastCode (scope_of c ps.u q.module p ps.methods) p (end_stmts c.program p.body ps.entry.entry) z → Reach c (go c new (end_stmts c.program p.body ps.entry.entry) [] w3) (Over image.Done w3)
        by None e last = machine.leaves c.img ps.m (number_of c.program (has_of c) c.img q).proc (fb c new) [] ps.u ps.is [] w3 (has_it c new last) (rows.ret_leaves c.img ps.u ps.m (number_of c.program (has_of c) c.img q).proc (fb c new) (end_stmts c.program p.body ps.entry.entry) w3 ps.entry [] ps.found (ps.gives ∙ ap has_one proper)) tt
        by (Some t) e last = absurd (cc)

    -- THE THEOREM: a command's run ends as its meaning does
    pub simulates : Simulates c (number_of c.program (has_of c) c.img q) w (run_first c.program c.heap q p s)
    simulates = by (run_first c.program c.heap q p s) follows
      where
        To : Flow → State → World → Point
        To = FlowTo c new n (calling c.program c.heap n) n (end_stmts c.program p.body ps.entry.entry) 0

        Keep : Flow → State → World → Type 0
        Keep = FlowKept c new n (calling c.program c.heap n) n false s.made

        over : (end : End) (w3 : World) → Reach c (go c new ps.entry.entry [] w2) (Over end w3) → Ends c.img (number_of c.program (has_of c) c.img q) w end w3
        over end w3 l = record { count = l.n; is = ap (run c.img l.n) starts ∙ l.is }

        gives : (f : Flow) (s3 : State) (w3 : World) → Reach c (go c new ps.entry.entry [] w2) (To f s3 w3) → Keep f s3 w3 → Simulates c (number_of c.program (has_of c) c.img q) w (Gives f s3)
        gives Done s3 w3 l k = record { end = image.Done; after = w3; run_ends = over image.Done w3 (then_reach c l (returns s3 w3)); same = (refl, rest_stands (K c new) s3 w3 k.1.all) }
        gives Leaves s3 w3 l k = absurd (let e = k.0 in cc)
        gives (Back v) s3 w3 l k = record { end = image.Done; after = w3; run_ends = over image.Done w3 l; same = (refl, rest_stands (K c new) s3 w3 k.1.all) }

        by : (r : Res Flow) → Follows c (go c new ps.entry.entry [] w2) To Keep r → Simulates c (number_of c.program (has_of c) c.img q) w r
        by (Gives f s3) h = gives f s3 h.by.0 h.by.1 h.by.2
        by (Stops y s3) h = record { end = stopped c y; after = h.by.0; run_ends = over (stopped c y) h.by.0 h.by.1; same = (refl, rest_stands s3.calls s3 h.by.0 h.by.2) }

  -- of a command, and of a module's body, which is procedure 0
  pub command_simulates : ImageStands c → AllIn c → (q : QName) (p : Procedure) → values.procedure_of c.program q ≡ Some p → p.parameters ≡ [] → p.result ≡ None → (s : State) (w : World) → s.calls ≡ [] → StandIn c s.calls s w → Simulates c (number_of c.program (has_of c) c.img q) w (run_first c.program c.heap q p s)
  command_simulates given all q p found plain proper s w idle_state st = simulates given all q p (given.linked q p found) (given.tables q p found) (all q p found) plain proper s w idle_state st

  pub body_simulates : ImageStands c → AllIn c → (m : Module) (ps : ProcedureStands c (body_name m) (body_procedure m)) → TablesStand c ps.methods → InStmts m.body → (s : State) (w : World) → s.calls ≡ [] → StandIn c s.calls s w → Simulates c (record { «module» = module_number c.program m.name; proc = 0 }) w (run_first c.program c.heap (body_name m) (body_procedure m) s)
  body_simulates given all m ps tables in_it s w idle_state st = simulates given all (body_name m) (body_procedure m) ps tables in_it refl refl s w idle_state st
