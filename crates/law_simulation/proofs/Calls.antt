-- Calls follow their meaning: turns, room, the new call, its body and its end.
use Rattle.std.proofs.lemmas.Bool.Decides.{nat_tests}
use Rattle.std.proofs.Common.{◌≡◌, ℕ, zero, suc, ◌+◌, ◌≤◌, List, [], ◌∷◌, ◌++◌, length, Option, Some, None, ℤ, refl, sym, ap, ◌∙◌, subst, arith}
use Rattle.std.specs.Prelude.{pos, Bool, true, false, nat_le, nat_lt, ◌&&◌, slice_get}
use Rattle.ob_trap.specs.declared.trap.Trap.{Trap}
use Rattle.ob_trap.specs.declared.trap.Trap.TheVariants as trap
use Rattle.ob_tree.specs.declared.pos.Pos.{Pos}
use Rattle.ob_tree.specs.declared.names.QName.{QName}
use Rattle.ob_tree.specs.declared.proc_ref.ProcRef.{ProcRef}
use Rattle.ob_types.specs.declared.types.TypeRef.{TypeRef}
use Rattle.ob_types.specs.TypedSyntax.{Procedure}
use Rattle.ob_instr.specs.declared.instr.Instr.{Instr}
use Rattle.ob_instr.specs.Parts.{slots}
use Rattle.ob_instr.specs.Image as image
use Rattle.ob_instr.specs.Image.{ModuleImage, World, Act, Point, Go, Over}
use Rattle.ob_instr.specs.Rows as rows_of
use Rattle.ob_instr.specs.Rows.{Enter, calls, procedures_of, procedure_of}
use Rattle.ob_instr.specs.Table as table
use Rattle.ob_instr.specs.Table.{row, position_at}
use Rattle.ob_instr.proofs.Goes as rows
use Rattle.ob_instr.proofs.Steps as machine
use Rattle.ob_meaning.specs.Values as values
use Rattle.ob_meaning.specs.Values.{Value, Active, AnObject, State}
use Rattle.ob_meaning.specs.Results.{Trapped, Res, bind, spend_of, Passed}
use Rattle.ob_meaning.specs.Meaning.{Flow, Done, Leaves, Back, execs}
use Rattle.ob_meaning.specs.Calls.{held_by, cost_of_calls, cost_of_all, has_room, begun, ended, without_newest, result_of_flow, result_at_end, if_room, around, called, calling}
use Rattle.law_simulation_relation.specs.Layout.{module_number, copies_words}
use Rattle.law_simulation_relation.specs.Relation.{number_of, call_start, Grows}
use Rattle.law_simulation_relation.specs.Ends.{end_stmts}
use Rattle.law_simulation_relation.proofs.Steps.{Reach, here, Follows, follows_bind, follows_after, follows_value, follows_stop, stands_any}
use Rattle.law_simulation_relation.proofs.Statements.{Activation, K, FlowTo, FlowFine, ResultFits, ResultFine, result_words, result_slots, ArgumentsFit, CallsFollow, go, fb}
use Rattle.law_simulation_relation.proofs.Moves.{has_it, traps}
use Rattle.law_simulation_relation.proofs.Actuals.{slots_fit}
use Rattle.law_simulation_relation.proofs.Rooms.{copied_words, called_by, is_call, new_call, enter_stands, leave_stands}
use Rattle.law_simulation_calls.specs.Tables.{TablesStand}
use Rattle.law_simulation.proofs.Slice.{stmts_follow}
use Rattle.law_simulation_relation.specs.Linked.{LastCode, ProcedureStands, has_one, scope_of}
use Rattle.law_simulation_relation.specs.Setting.{Kept, Setting, StandIn, stopped, has_of}
use Rattle.law_simulation.specs.Simulates.{ImageStands}
use Rattle.law_simulation.specs.Slice.{AllIn}
use Rattle.law_lists.proofs.Lists.{and_parts}

module _ (c : Setting) (given : ImageStands c) (all : AllIn c) where
  -- the new call as an activation
  abbrev pub new_activation : (q : QName) (p : Procedure) (ps : ProcedureStands c q p) (s : State) (xs : List Passed) (ws : List ℤ) (cs : List Active) (act : Act) (acts : List Act) → ArgumentsFit c s.made cs p.parameters xs ws → length cs ≡ suc (length acts) → ResultFits p.result (act ∷ acts) → Activation c
  new_activation q p ps s xs ws cs act acts fit depth fits = record {
    m = ps.m;
    u = ps.u;
    is = ps.is;
    unit = q.module;
    named = ps.named;
    first = ps.first;
    p = (number_of c.program (has_of c) c.img q).proc;
    procedure = p;
    methods = ps.methods;
    entry = ps.entry;
    here_it_is = ps.found;
    gives = ps.gives;
    active = called_by c q p s.store xs;
    cs = cs;
    acts = act ∷ acts;
    depth = depth;
    result_fits = fits;
    call = is_call c q p s.made cs s.store xs ws fit;
  }

  -- the words of the copies that a call begins with
  abbrev pub copies : Procedure → State → List Passed → ℕ
  copies p s xs = copies_words (held_by c.program p s.store xs)

  -- the room of a call is that of the machine
  room_same : (q : QName) (p : Procedure) (ps : ProcedureStands c q p) (s : State) (w : World) (xs : List Passed) (ws : List ℤ) (acts : List Act) → StandIn c s.calls s w → ArgumentsFit c s.made s.calls p.parameters xs ws → length ws ≡ slots ps.entry.params → length s.calls ≡ suc (length acts) →
      table.has_room c.img.room (slots ps.entry.params + ps.entry.locals + copies p s xs) acts w ≡ has_room (called_by c q p s.store xs ∷ s.calls)
  room_same q p ps s w xs ws acts st fit len depth =
      let n = new_call c q p ps s w st xs ws fit in
      let cost : cost_of_all (called_by c q p s.store xs).held ≡ slots ps.entry.params + ps.entry.locals + copies p s xs = n.cost ∙ omega (arith, len, ps.locals) in
      let first : nat_le (w.stack + (slots ps.entry.params + ps.entry.locals + copies p s xs)) (suc (c.img.room.globals + c.img.room.stack)) ≡ nat_le (cost_of_all (called_by c q p s.store xs).held + cost_of_calls s.calls) 1048576 =
      le_same (w.stack + (slots ps.entry.params + ps.entry.locals + copies p s xs)) (suc (c.img.room.globals + c.img.room.stack)) (cost_of_all (called_by c q p s.store xs).held + cost_of_calls s.calls) 1048576 (λ h. omega (arith, h, cost, st.stack, c.stack)) (λ h. omega (arith, h, cost, st.stack, c.stack)) in
      let second : nat_lt (suc (length acts)) c.img.room.activations ≡ nat_le (suc (length s.calls)) 4096 = le_same (suc (suc (length acts))) c.img.room.activations (suc (length s.calls)) 4096 (λ h. omega (arith, h, depth, c.activations)) (λ h. omega (arith, h, depth, c.activations)) in
      ap (λ b. b && nat_lt (suc (length acts)) c.img.room.activations) first ∙ ap (λ b. nat_le (cost_of_all (called_by c q p s.store xs).held + cost_of_calls s.calls) 1048576 && b) second
    where
      le_same : (m n k l : ℕ) → (m ≤ n → k ≤ l) → (k ≤ l → m ≤ n) → nat_le m n ≡ nat_le k l
      le_same m n k l f g = by (nat_le m n) (nat_le k l) refl refl
        where
          by : (x y : Bool) → nat_le m n ≡ x → nat_le k l ≡ y → x ≡ y
          by true true e h = refl
          by false false e h = refl
          by true false e h = let le : m ≤ n = grind (arith, nat_tests) in let le2 = f le in absurd (grind (arith, nat_tests))
          by false true e h = let le : k ≤ l = grind (arith, nat_tests) in let le2 = g le in absurd (grind (arith, nat_tests))

  -- the caller goes on here, with the result
  abbrev pub back_to : (m pn fb pc : ℕ) → List Act → List ℤ → Option Value → State → World → Point
  back_to m pn fb pc acts rest r s w = Go m pn fb acts (suc pc) (result_words c s.made r ++ rest) w

  abbrev pub back_kept : Option TypeRef → List Active → ℕ → List AnObject → Option Value → State → World → Type 0
  back_kept t cs b os r s w = ResultFine c t s.made r × Kept c cs b os s w

  module _ (n : ℕ) (calls_follow : (b : ℕ) → b ≤ n → CallsFollow c (calling c.program c.heap n) b) where
    -- the body of a call, from its entry to the caller
    body_follows : (q : QName) (p : Procedure) (ps : ProcedureStands c q p) (tables : TablesStand c ps.methods) (found : values.procedure_of c.program q ≡ Some p) (xs : List Passed) (ws rest : List ℤ) (m pn fb0 pc : ℕ) (acts : List Act) (b t : ℕ) (os : List AnObject) (s : State) (w : World) → t ≤ n → suc t ≤ b → s.turns ≡ t →
        (fit : ArgumentsFit c s.made s.calls p.parameters xs ws) → length ws ≡ slots ps.entry.params → length rest + result_slots c p.result ≤ 256 → (depth : length s.calls ≡ suc (length acts)) → StandIn c s.calls s w → (cs : List Active) → s.calls ≡ cs → Grows c.program (has_of c) c.img os s.made →
        cost_of_calls (called_by c q p s.store xs ∷ s.calls) ≤ 1048576 →
        Follows c (Go (number_of c.program (has_of c) c.img q).module (number_of c.program (has_of c) c.img q).proc w.stack (record { m = m; p = pn; fb = fb0; pc = suc pc; ops = rest } ∷ acts) ps.entry.entry [] (record w { words = rows_of.entered w.words w.stack ps.entry ws; stack = w.stack + (slots ps.entry.params + ps.entry.locals + copies p s xs) }))
        (back_to m pn fb0 pc acts rest) (back_kept p.result cs b os)
        (bind (execs p.body (around c.program c.heap n (calling c.program c.heap n) q.module) (begun c.program q p xs s)) (λ f. result_of_flow f p q))
    body_follows q p ps tables found xs ws rest m pn fb0 pc acts b t os s w le lt e fit len fits depth st cs is grows room =
        subst (λ z. Follows c (Go z (number_of c.program (has_of c) c.img q).proc w.stack (act ∷ acts) ps.entry.entry [] w2) (back_to m pn fb0 pc acts rest) (back_kept p.result cs b os) r) (sym ps.named)
        (subst (λ z. Follows c (Go ps.m (number_of c.program (has_of c) c.img q).proc z (act ∷ acts) ps.entry.entry [] w2) (back_to m pn fb0 pc acts rest) (back_kept p.result cs b os) r) (sym st.stack)
        (follows_bind c (stmts_follow c new given tables n (calling c.program c.heap n) calls_follow p.body (all q p found) t le false 0 ps.entry.entry ps.at os (begun c.program q p xs s) w2 ps.need ps.inside tt ps.code ps.ok begins) λ f s3 w3 k3.
        ends f s3 w3 k3.0 k3.1))
      where
        act : Act
        act = record { m = m; p = pn; fb = fb0; pc = suc pc; ops = rest }

        w2 : World
        w2 = record w { words = rows_of.entered w.words w.stack ps.entry ws; stack = w.stack + (slots ps.entry.params + ps.entry.locals + copies p s xs) }

        r : Res (Option Value)
        r = bind (execs p.body (around c.program c.heap n (calling c.program c.heap n) q.module) (begun c.program q p xs s)) (λ f. result_of_flow f p q)

        result_fits : (z : Option TypeRef) → length rest + result_slots c z ≤ 256 → ResultFits z (act ∷ acts)
        result_fits None h = omega (arith, h)
        result_fits (Some t) h = h

        new : Activation c
        new = new_activation q p ps s xs ws s.calls act acts fit depth (result_fits p.result fits)

        begins : Kept c (K c new) t os (begun c.program q p xs s) w2
        begins = record { all = enter_stands c q p ps s w xs ws st fit len room; calls = refl; bound = omega (arith, e); objects = grows }

        -- after the end the caller's words stand
        after : (s3 : State) (w3 : World) → Kept c (K c new) t os s3 w3 → Kept c cs b os (ended s3) (record w3 { stack = call_start c.program (has_of c) c.img s.calls })
        after s3 w3 k = record {
          all = subst (λ cs. StandIn c cs (ended s3) (record w3 { stack = call_start c.program (has_of c) c.img s.calls })) is (leave_stands c (called_by c q p s.store xs) s.calls s3 w3 k.all);
          calls = ap values_rest k.calls ∙ is;
          bound = omega (arith, k.bound, lt);
          objects = k.objects;
        }
          where
            values_rest : List Active → List Active
            values_rest cs = without_newest cs

        by_result : (z : Option TypeRef) → p.result ≡ z → LastCode (scope_of c ps.u q.module p ps.methods) p (end_stmts c.program p.body ps.entry.entry) z → (s3 : State) (w3 : World) → Kept c (K c new) t os s3 w3 →
            Follows c (go c new (end_stmts c.program p.body ps.entry.entry) [] w3) (back_to m pn fb0 pc acts rest) (back_kept p.result cs b os) (result_at_end z q.module p.at s3)
        by_result None f last s3 w3 k =
            let none : ps.entry.has_result ≡ false = ps.gives ∙ ap has_one f in
            let leave = rows.ret_leaves c.img ps.u ps.m (number_of c.program (has_of c) c.img q).proc (fb c new) (end_stmts c.program p.body ps.entry.entry) w3 ps.entry [] ps.found none in
            follows_value c (record w3 { stack = call_start c.program (has_of c) c.img s.calls })
            (machine.leaves c.img ps.m (number_of c.program (has_of c) c.img q).proc (fb c new) (act ∷ acts) ps.u ps.is [] w3 (has_it c new last) leave (omega (arith, fits, c.operands)))
            (subst (λ r. ResultFine c r s3.made None) (sym f) refl, after s3 w3 k)
        by_result (Some u) f last s3 w3 k =
            follows_stop c w3 (traps c new trap.NoReturn (pos 0) w3 last (rows.trap_traps c.img ps.u ps.m (number_of c.program (has_of c) c.img q).proc (fb c new) (end_stmts c.program p.body ps.entry.entry) w3 trap.NoReturn (pos 0) [])) (stands_any c k)

        ends : (f : Flow) (s3 : State) (w3 : World) → FlowFine c new n (calling c.program c.heap n) t false s3.made f → Kept c (K c new) t os s3 w3 →
            Follows c (FlowTo c new n (calling c.program c.heap n) t (end_stmts c.program p.body ps.entry.entry) 0 f s3 w3) (back_to m pn fb0 pc acts rest) (back_kept p.result cs b os) (result_of_flow f p q s3)
        ends Done s3 w3 fine k = by_result p.result refl ps.last s3 w3 k
        ends Leaves s3 w3 fine k = absurd (cc)
        ends (Back v) s3 w3 fine k = follows_value c (record w3 { stack = call_start c.program (has_of c) c.img s.calls }) (here c _) (fine, after s3 w3 k)

    -- one call, where a turn may be left
    step_follows : (q : QName) (p : Procedure) → values.procedure_of c.program q ≡ Some p → (b : ℕ) → b ≤ suc n → (xs : List Passed) (ws rest : List ℤ) (unit : List ℕ) (at : Pos) (m pn fb0 pc : ℕ) (u : ModuleImage) (i : Instr) (cs : List Active) (acts : List Act) (ops : List ℤ) (os : List AnObject) (s : State) (w : World) →
        machine.InModule c.img m u → module_number c.program unit ≡ m → machine.Has u pc i → position_at u.positions pc ≡ at → row c.img u m pn fb0 pc i.op i.a i.b ops w ≡ calls c.img (number_of c.program (has_of c) c.img q) ws rest w →
        ArgumentsFit c s.made cs p.parameters xs ws → length rest + result_slots c p.result ≤ 256 → length cs ≡ suc (length acts) → Kept c cs b os s w →
        Follows c (Go m pn fb0 acts pc ops w) (back_to m pn fb0 pc acts rest) (back_kept p.result cs b os) (spend_of s.turns unit at (called (Some p) c.program c.heap n (calling c.program c.heap n) q xs unit at) s)
    step_follows q p found b le xs ws rest unit at m pn fb0 pc u i cs acts ops os s w inside named has place is fit fits depth st = by s.turns refl
      where
        ps : ProcedureStands c q p
        ps = given.linked q p found

        r : ProcRef
        r = number_of c.program (has_of c) c.img q

        len : length ws ≡ slots ps.entry.params
        len = slots_fit c s.made cs p.parameters ps.entry.params xs ws ps.kinds fit

        entry_found : procedure_of c.img r ≡ Some ps.entry
        entry_found = ap (λ m. slice_get (procedures_of (slice_get c.img.modules m)) r.proc) ps.named ∙ ap (λ o. slice_get (procedures_of o) r.proc) ps.is.is ∙ ps.found

        fit_here : ArgumentsFit c s.made s.calls p.parameters xs ws
        fit_here = subst (λ cs. ArgumentsFit c s.made cs p.parameters xs ws) (sym st.calls) fit

        many : rows_of.copy_words (length w.words) ps.entry.params ws ≡ Some (copies p s xs)
        many = copied_words c q p ps s w xs ws (stands_any c st) fit_here

        same_stop : (kind : Trap) (number : ℤ) (w2 : World) → Reach c (Go m pn fb0 acts pc ops w) (Over (image.Trapped kind number m (position_at u.positions pc)) w2) → Reach c (Go m pn fb0 acts pc ops w) (Over (stopped c (Trapped kind number unit at)) w2)
        same_stop kind number w2 h = subst (λ k. Reach c (Go m pn fb0 acts pc ops w) (Over (image.Trapped kind number k at) w2)) (sym named) (subst (λ z. Reach c (Go m pn fb0 acts pc ops w) (Over (image.Trapped kind number m z) w2)) place h)

        by : (z : ℕ) → s.turns ≡ z → Follows c (Go m pn fb0 acts pc ops w) (back_to m pn fb0 pc acts rest) (back_kept p.result cs b os) (spend_of z unit at (called (Some p) c.program c.heap n (calling c.program c.heap n) q xs unit at) s)
        by zero e =
            let spent = is ∙ rows.calls_spends c.img u m pn fb0 pc w r ps.entry ws rest (copies p s xs) entry_found many (st.all.turns ∙ e) in
            let reach = machine.spends c.img m pn fb0 acts u inside w has spent in
            follows_stop c w (subst (λ k. Reach c (Go m pn fb0 acts pc ops w) (Over (image.Spent k at) w)) (sym named) (subst (λ z. Reach c (Go m pn fb0 acts pc ops w) (Over (image.Spent m z) w)) place reach)) (stands_any c st)
        by (suc t) e = room (has_room (called_by c q p s.store xs ∷ s.calls)) refl
          where
            s2 : State
            s2 = record s { turns = t }

            w2 : World
            w2 = record w { turns = t }

            enters : row c.img u m pn fb0 pc i.op i.a i.b ops w ≡ Enter r ps.entry ws (copies p s xs) rest w2
            enters = is ∙ rows.calls_enters c.img u m pn fb0 pc w r ps.entry ws rest (copies p s xs) t entry_found many (st.all.turns ∙ e)

            -- the words stand for the state with one turn less
            less : StandIn c s2.calls s2 w2
            less = let all = stands_any c st in record { stack_free = all.stack_free; heap_free = all.heap_free; words = all.words; globals_size = all.globals_size; stack_size = all.stack_size; heap_size = all.heap_size; stack = all.stack; heap_next = all.heap_next; turns = refl; out = all.out; modules_fine = all.modules_fine; calls_fine = all.calls_fine; objects_fine = all.objects_fine }

            fit2 : ArgumentsFit c s2.made s2.calls p.parameters xs ws
            fit2 = fit_here

            depth2 : length s2.calls ≡ suc (length acts)
            depth2 = ap length st.calls ∙ depth

            room : (z : Bool) → has_room (called_by c q p s.store xs ∷ s.calls) ≡ z → Follows c (Go m pn fb0 acts pc ops w) (back_to m pn fb0 pc acts rest) (back_kept p.result cs b os) (if_room (has_room (called_by c q p s.store xs ∷ s.calls)) unit at (λ s3. bind (execs p.body (around c.program c.heap n (calling c.program c.heap n) q.module) (begun c.program q p xs s3)) (λ f. result_of_flow f p q)) s2)
            room true f =
                let same = room_same q p ps s2 w2 xs ws acts less fit2 len depth2 ∙ f in
                let both = and_parts (nat_le (cost_of_calls (called_by c q p s.store xs ∷ s.calls)) 1048576) (nat_le (length (called_by c q p s.store xs ∷ s.calls)) 4096) f in
                let few : cost_of_calls (called_by c q p s.store xs ∷ s.calls) ≤ 1048576 = let g = both.0 in grind (arith, nat_tests) in
                subst (λ z. Follows c (Go m pn fb0 acts pc ops w) (back_to m pn fb0 pc acts rest) (back_kept p.result cs b os) (if_room z unit at (λ s3. bind (execs p.body (around c.program c.heap n (calling c.program c.heap n) q.module) (begun c.program q p xs s3)) (λ f. result_of_flow f p q)) s2)) (sym f)
                (follows_after c (machine.enters c.img m pn fb0 acts u inside r ps.entry ws (copies p s xs) rest w2 has enters same)
                (body_follows q p ps (given.tables q p found) found xs ws rest m pn fb0 pc acts b t os s2 w2 (omega (arith, le, st.bound, e)) (omega (arith, st.bound, e)) refl fit2 len fits depth2 less cs st.calls st.objects few))
            room false f =
                let same = room_same q p ps s2 w2 xs ws acts less fit2 len depth2 ∙ f in
                subst (λ z. Follows c (Go m pn fb0 acts pc ops w) (back_to m pn fb0 pc acts rest) (back_kept p.result cs b os) (if_room z unit at (λ s3. bind (execs p.body (around c.program c.heap n (calling c.program c.heap n) q.module) (begun c.program q p xs s3)) (λ f. result_of_flow f p q)) s2)) (sym f)
                (follows_stop c w2 (same_stop trap.StackFull (pos 0) w2 (machine.is_full c.img m pn fb0 acts u inside r ps.entry ws (copies p s xs) rest w2 has enters same)) less)

  -- all calls follow, whatever number bounds the turns
  pub call_follows : (n b : ℕ) → b ≤ n → CallsFollow c (calling c.program c.heap n) b
  call_follows zero b le q p xs ws rest unit at m pn fb0 pc u i cs acts ops os s w inside named has place is found fit fits depth st =
      let ps = given.linked q p found in
      let len = slots_fit c s.made cs p.parameters ps.entry.params xs ws ps.kinds fit in
      let r = number_of c.program (has_of c) c.img q in
      let entry_found : procedure_of c.img r ≡ Some ps.entry = ap (λ m. slice_get (procedures_of (slice_get c.img.modules m)) r.proc) ps.named ∙ ap (λ o. slice_get (procedures_of o) r.proc) ps.is.is ∙ ps.found in
      let many = copied_words c q p ps s w xs ws (stands_any c st) (subst (λ cs. ArgumentsFit c s.made cs p.parameters xs ws) (sym st.calls) fit) in
      let turns : w.turns ≡ 0 = omega (arith, st.all.turns, st.bound, le) in
      let spent = is ∙ rows.calls_spends c.img u m pn fb0 pc w r ps.entry ws rest (copies p s xs) entry_found many turns in
      let reach = machine.spends c.img m pn fb0 acts u inside w has spent in
      follows_stop c w (subst (λ k. Reach c (Go m pn fb0 acts pc ops w) (Over (image.Spent k at) w)) (sym named) (subst (λ z. Reach c (Go m pn fb0 acts pc ops w) (Over (image.Spent m z) w)) place reach)) (stands_any c st)
  call_follows (suc n) b le q p xs ws rest unit at m pn fb0 pc u i cs acts ops os s w inside named has place is found fit fits depth st =
      subst (λ o. Follows c (Go m pn fb0 acts pc ops w) (back_to m pn fb0 pc acts rest) (back_kept p.result cs b os) (spend_of s.turns unit at (called o c.program c.heap n (calling c.program c.heap n) q xs unit at) s)) (sym found)
      (step_follows n (λ b le. call_follows n b le) q p found b le xs ws rest unit at m pn fb0 pc u i cs acts ops os s w inside named has place is fit fits depth st)
