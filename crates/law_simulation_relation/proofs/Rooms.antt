-- The words stand for the state in which a call has begun, and for that in which it has ended.
use Rattle.std.proofs.lemmas.List.{take-append-drop, length-take-le, length-replicate, length-drop}
use Rattle.std.proofs.Common.{◌≡◌, ℕ, suc, ◌+◌, ◌-◌, ◌≤◌, List, [], ◌∷◌, ◌++◌, length, Some, refl, sym, ap, ◌∙◌, subst, arith, append_assoc, append-nil, length-append}
use Rattle.std.specs.Prelude.{ℤ, pos, map, take, drop, replicate, true, nat_eq, if◌then◌else◌}
use Rattle.ob_tree.specs.declared.names.QName.{QName}
use Rattle.ob_types.specs.declared.typed.Passing.{Passing}
use Rattle.ob_types.specs.declared.typed.Passing.TheVariants as passing
use Rattle.ob_types.specs.declared.typed.TypedParameter.{TypedParameter}
use Rattle.ob_types.specs.declared.typed.TypedVariable.{TypedVariable}
use Rattle.ob_types.specs.TypedSyntax.{Procedure}
use Rattle.ob_tree.specs.declared.pos.Pos.{Pos}
use Rattle.ob_mem.specs.Words.{with_words}
use Rattle.ob_instr.specs.Parts.{slots}
use Rattle.ob_instr.specs.Image.{World}
use Rattle.ob_instr.specs.Rows as rows
use Rattle.ob_meaning.specs.Values.{changed_at, Program, Form, form_in, Value, Place, Held, Active, AnObject, Store, State}
use Rattle.ob_meaning.specs.Results.{Passed}
use Rattle.ob_meaning.specs.Calls.{held_variable, hidden_held, hidden_of_all, held_parameter, held_parameters, held_by, with_parameters, passed_value, first_values, places_for, cost_of_all, cost_of_calls, begun, ended}
use Rattle.law_simulation_relation.specs.Layout.{held_name, slots_words, copies_words, static_held}
use Rattle.law_simulation_relation.specs.Relation.{Fresh, AreDifferent, call_start}
use Rattle.law_simulation_relation.proofs.Names.{nat_same}
use Rattle.law_simulation_relation.proofs.Statements.{IsCallOf, ArgumentsFit}
use Rattle.law_simulation_relation.proofs.Places.{S, C, Hs, Cs, Call, Os, slots_fresh, fresh_fine, slots-length, copies-length, all_words, calls-length, call-length, other_calls, other_calls_fine}
use Rattle.law_simulation_relation.proofs.Modules.{Ms}
use Rattle.law_simulation_relation.proofs.Firsts.{zeros}
use Rattle.law_simulation_relation.proofs.Frames.{call_alike}
use Rattle.law_simulation_relation.proofs.Copies as copies
use Rattle.law_simulation_relation.proofs.Copies.{among, total, among_length, Becomes, put_at}
use Rattle.law_simulation_relation.proofs.Sources.{front, back, room}
use Rattle.law_simulation_relation.proofs.Enter.{different_alike, apart, AllFresh, AllOwn, own_none, slots_both, copies_both, fine_both, own_zero, own_fine, firsts_behind, firsts_behind_fine, params_held, passes}
use Rattle.law_simulation_relation.specs.Linked.{ProcedureStands, own_variables}
use Rattle.law_simulation_relation.specs.Setting.{Setting, StandIn, has_of}

-- as it stands beside the copies
pub put_seam : (l front part back new : List ℤ) (n m : ℕ) → l ≡ front ++ (part ++ back) → length front ≡ n → length part ≡ m → length new ≡ m → take n l ++ (new ++ drop (n + length new) l) ≡ front ++ (new ++ back)
put_seam l front part back new n m e len len2 len3 = copies.put_seam l front part back new n m e len len2 len3

-- variables of a call that are its own
variables_own : (program : Program) (vs : List TypedVariable) (rest : List Held) → AllOwn rest → AllOwn (map (held_variable program) vs ++ rest)
variables_own program [] rest o = o
variables_own program (v ∷ vs) rest o = variables_own program vs rest o

hidden_own : (ps : List Pos) → AllOwn (map hidden_held ps)
hidden_own [] = tt
hidden_own (p ∷ ps) = hidden_own ps

pub all_own : (program : Program) (p : Procedure) → AllOwn (own_variables program p)
all_own program p = variables_own program p.locals (map hidden_held (hidden_of_all p.body)) (hidden_own (hidden_of_all p.body))

module _ (c : Setting) where
  -- parameters change nothing of the variables behind them
  fresh_of : (how : Passing) (x : List ℕ) (t : Form) (g : Store) (a : Passed) → held_name (held_parameter x how t g a) ≡ x
  fresh_of passing.Scalar x t g a = refl
  fresh_of passing.Structure x t g a = refl
  fresh_of passing.OpenArray x t g a = refl
  fresh_of passing.Variable x t g a = refl
  fresh_of passing.VariableRecord x t g a = refl
  fresh_of passing.VariableOpenArray x t g a = refl

  behind_words : (os : List AnObject) (cs : List Active) (places : List ℕ → Place) (base : ℕ) (ks : List Held) (s : Store) (g0 : List ℕ → Value) (ps : List TypedParameter) (xs : List Passed) → AllFresh (held_parameters c.program ps s xs) ks → S c os cs places base ks (with_parameters c.program ps s xs g0) ≡ S c os cs places base ks g0
  behind_words os cs places base ks s g0 [] xs f = refl
  behind_words os cs places base ks s g0 (p ∷ ps) [] f = refl
  behind_words os cs places base ks s g0 (p ∷ ps) (x ∷ xs) f =
      slots_fresh c os cs places ks p.name base (with_parameters c.program ps s xs g0) (passed_value c.program (form_in c.program p.of) s x) (subst (λ y. Fresh y ks) (fresh_of p.passing p.name (form_in c.program p.of) s x) f.0)
      ∙ behind_words os cs places base ks s g0 ps xs f.1

  behind_fine : (os : List AnObject) (cs : List Active) (places : List ℕ → Place) (ks : List Held) (s : Store) (g0 : List ℕ → Value) (ps : List TypedParameter) (xs : List Passed) → AllFresh (held_parameters c.program ps s xs) ks → Hs c os cs places ks g0 → Hs c os cs places ks (with_parameters c.program ps s xs g0)
  behind_fine os cs places ks s g0 [] xs f h = h
  behind_fine os cs places ks s g0 (p ∷ ps) [] f h = h
  behind_fine os cs places ks s g0 (p ∷ ps) (x ∷ xs) f h =
      fresh_fine c os cs places ks p.name (with_parameters c.program ps s xs g0) (passed_value c.program (form_in c.program p.of) s x) (subst (λ y. Fresh y ks) (fresh_of p.passing p.name (form_in c.program p.of) s x) f.0)
      (behind_fine os cs places ks s g0 ps xs f.1 h)

  pub args_many : (os : List AnObject) (cs : List Active) (ps : List TypedParameter) (xs : List Passed) (ws : List ℤ) → ArgumentsFit c os cs ps xs ws → length xs ≡ length ps
  args_many os cs [] [] ws f = refl
  args_many os cs [] (x ∷ xs) ws f = absurd f
  args_many os cs (p ∷ ps) [] ws f = absurd f
  args_many os cs (p ∷ ps) (x ∷ xs) ws f = ap suc (args_many os cs ps xs f.1 f.4)

  -- a new call
  abbrev pub called_by : QName → Procedure → Store → List Passed → Active
  called_by q p s xs = record { procedure = q; held = held_by c.program p s xs; places = places_for p.parameters xs }

  pub is_call : (q : QName) (p : Procedure) (os : List AnObject) (cs : List Active) (s : Store) (xs : List Passed) (ws : List ℤ) → ArgumentsFit c os cs p.parameters xs ws → IsCallOf c.program p (called_by q p s xs)
  is_call q p os cs s xs ws f = record { parameters = held_parameters c.program p.parameters s xs; is = refl; fit = params_held c.program p.parameters s xs (args_many os cs p.parameters xs ws f) }

  -- Its words are what becomes of those of the arguments, 0 behind them, and the copies.
  pub record NewCall (q : QName) (p : Procedure) (ps : ProcedureStands c q p) (s : State) (w : World) (st : StandIn c s.calls s w) (xs : List Passed) (ws : List ℤ) (g : List ℕ → Value) : Type 0 where
    pub ss : ℕ → List ℤ
    pub cc : List ℤ
    pub becomes : Becomes (front c s.calls s w st) (back c s.calls s w st) (room c s.calls s w st) ps.entry.params ws ss cc
    pub words : Call c s.made s.calls (called_by q p s.store xs) g ≡ ss (call_start c.program (has_of c) c.img s.calls + slots_words (held_by c.program p s.store xs)) ++ (zeros (slots_words (own_variables c.program p)) ++ cc)
    pub different : AreDifferent (held_by c.program p s.store xs)
    pub fine : Hs c s.made s.calls (places_for p.parameters xs) (held_by c.program p s.store xs) g
    pub slots : slots_words (held_by c.program p s.store xs) ≡ length ws + slots_words (own_variables c.program p)
    pub copies : length cc ≡ copies_words (held_by c.program p s.store xs)
    pub cost : cost_of_all (held_by c.program p s.store xs) ≡ length ws + slots_words (own_variables c.program p) + copies_words (held_by c.program p s.store xs)

  pub new_call : (q : QName) (p : Procedure) (ps : ProcedureStands c q p) (s : State) (w : World) (st : StandIn c s.calls s w) (xs : List Passed) (ws : List ℤ) → ArgumentsFit c s.made s.calls p.parameters xs ws → NewCall q p ps s w st xs ws (with_parameters c.program p.parameters s.store xs (first_values (held_by c.program p s.store xs)))
  new_call q p ps s w st xs ws fit =
      let os = s.made in
      let cs = s.calls in
      let hp = held_parameters c.program p.parameters s.store xs in
      let ow = own_variables c.program p in
      let held = hp ++ ow in
      let places = places_for p.parameters xs in
      let g0 = first_values held in
      let g = with_parameters c.program p.parameters s.store xs g0 in
      let base = call_start c.program (has_of c) c.img cs + slots_words held in
      let different = different_alike (static_held c.program p) held (call_alike c.program p (called_by q p s.store xs) (is_call q p os cs s.store xs ws fit)) ps.different in
      let parts = apart hp ow different in
      let r = passes c cs s w st g0 p.parameters ps.entry.params xs ws ps.kinds fit parts.0 in
      let own = all_own c.program p in
      let none : C c os cs places held g ≡ C c os cs places hp g = copies_both c os cs places hp ow g ∙ ap (λ l. C c os cs places hp g ++ l) (own_none c os cs places ow g own) ∙ append-nil (C c os cs places hp g) in
      let zero : (base : ℕ) → S c os cs places base ow g ≡ zeros (slots_words ow) = λ base. behind_words os cs places base ow s.store g0 p.parameters xs parts.1.1 ∙ firsts_behind c os cs places base hp ow parts.1.1 ∙ own_zero c os cs places base ow own ps.forms parts.1.0 in
      let slots_are : slots_words held ≡ length ws + slots_words ow =
      sym (slots-length c os cs places held base g) ∙ ap length (slots_both c os cs places base hp ow g) ∙ length-append (S c os cs places base hp g) _ ∙ omega (arith, r.becomes.slots base, slots-length c os cs places ow (base + copies_words hp) g) in
      let many : length (C c os cs places hp g) ≡ copies_words held = ap length (sym none) ∙ copies-length c os cs places held g in
      record {
        ss = λ base. S c os cs places base hp g;
        cc = C c os cs places hp g;
        becomes = r.becomes;
        words = ap (λ l. S c os cs places base held g ++ l) none ∙ ap (λ l. l ++ C c os cs places hp g) (slots_both c os cs places base hp ow g ∙ ap (λ l. S c os cs places base hp g ++ l) (zero (base + copies_words hp))) ∙ append_assoc (S c os cs places base hp g) (zeros (slots_words ow)) (C c os cs places hp g);
        different = different;
        fine = fine_both c os cs places hp ow g r.fine (behind_fine os cs places ow s.store g0 p.parameters xs parts.1.1 (firsts_behind_fine c os cs places hp ow parts.1.1 (own_fine c os cs places ow own ps.forms parts.1.0)));
        slots = slots_are;
        copies = many;
        cost = all_words c os held ∙ omega (arith, slots_are);
      }

  -- how many words the machine copies
  pub copied_words : (q : QName) (p : Procedure) (ps : ProcedureStands c q p) (s : State) (w : World) (xs : List Passed) (ws : List ℤ) → StandIn c s.calls s w → ArgumentsFit c s.made s.calls p.parameters xs ws → rows.copy_words (length w.words) ps.entry.params ws ≡ Some (copies_words (held_by c.program p s.store xs))
  copied_words q p ps s w xs ws st fit =
      let n = new_call q p ps s w st xs ws fit in
      let f = front c s.calls s w st in
      let b = back c s.calls s w st in
      let r = room c s.calls s w st in
      let is : w.words ≡ among f b r st.stack_free = st.words ∙ simp append_assoc in
      let len : length w.words ≡ total f b r = ap length is ∙ among_length f b r st.stack_free refl in
      ap (λ k. rows.copy_words k ps.entry.params ws) len ∙ n.becomes.count ∙ ap Some n.copies

  -- the words after a call has begun
  pub enter_stands : (q : QName) (p : Procedure) (ps : ProcedureStands c q p) (s : State) (w : World) (xs : List Passed) (ws : List ℤ) → StandIn c s.calls s w → ArgumentsFit c s.made s.calls p.parameters xs ws → length ws ≡ slots ps.entry.params → cost_of_calls (called_by q p s.store xs ∷ s.calls) ≤ 1048576 →
      StandIn c (called_by q p s.store xs ∷ s.calls) (begun c.program q p xs s) (record w { words = rows.entered w.words w.stack ps.entry ws; stack = w.stack + (slots ps.entry.params + ps.entry.locals + copies_words (held_by c.program p s.store xs)) })
  enter_stands q p ps s w xs ws st fit len few =
      let n = new_call q p ps s w st xs ws fit in
      let cs = s.calls in
      let new = called_by q p s.store xs in
      let values = with_parameters c.program p.parameters s.store xs (first_values (held_by c.program p s.store xs)) in
      let locals2 = changed_at s.store.locals (length cs) values in
      let G = Ms c s.made c.program s.store.globals in
      let K = Cs c s.made s.store.locals cs in
      let O = Os c s.made s.made s.store.objects in
      let f = front c cs s w st in
      let b = back c cs s w st in
      let r = room c cs s w st in
      let zs = replicate ps.entry.locals (pos 0) in
      let args = ws ++ zs in
      let k = length args in
      let own = slots_words (own_variables c.program p) in
      let copies = copies_words new.held in
      let zs_length : length zs ≡ ps.entry.locals = length-replicate ps.entry.locals (pos 0) in
      let arg_length : k ≡ length ws + ps.entry.locals = length-append ws zs ∙ omega (arith, zs_length) in
      let cost : cost_of_all new.held ≡ k + copies = n.cost ∙ omega (arith, arg_length, ps.locals) in
      let fits : k + copies ≤ length st.stack_free = omega (arith, few, cost, st.stack_size, c.stack) in
      let part = take k st.stack_free in
      let others = drop k st.stack_free in
      let part_length : length part ≡ k = length-take-le k st.stack_free (omega (arith, fits)) in
      let others_length : length others ≡ length st.stack_free - k = length-drop k st.stack_free in
      let cut = take copies others in
      let free = drop copies others in
      let cut_length : length cut ≡ copies = length-take-le copies others (omega (arith, others_length, fits)) in
      let split : st.stack_free ≡ part ++ (cut ++ free) = sym (take-append-drop k st.stack_free) ∙ ap (λ l. part ++ l) (sym (take-append-drop copies others)) in
      let split_length : length st.stack_free ≡ k + (copies + length free) = ap length split ∙ length-append part (cut ++ free) ∙ omega (arith, part_length, cut_length, length-append cut free) in
      let below : length K ≡ cost_of_calls cs = calls-length c s.made cs s.store.locals in
      let front_length : length f ≡ c.img.room.globals + cost_of_calls cs = length-append G (c.behind ++ K) ∙ omega (arith, length-append c.behind K, st.globals_size, below) in
      let is : w.words ≡ f ++ (part ++ ((cut ++ free) ++ b)) = st.words ∙ ap (λ l. G ++ (c.behind ++ (K ++ (l ++ b)))) split ∙ simp append_assoc in
      let put : with_words w.words (pos w.stack) args ≡ f ++ (args ++ ((cut ++ free) ++ b)) = put_at w.words f part ((cut ++ free) ++ b) args w.stack is (omega (arith, front_length, st.stack)) part_length in
      let regroup : f ++ (args ++ ((cut ++ free) ++ b)) ≡ among f b r (ws ++ (zs ++ (cut ++ free))) = simp append_assoc in
      let next = w.stack + (slots ps.entry.params + ps.entry.locals) in
      let base = call_start c.program (has_of c) c.img cs + slots_words new.held in
      let same : next ≡ base = omega (arith, st.stack, n.slots, len, ps.locals) in
      let copied : rows.entered w.words w.stack ps.entry ws ≡ among f b r (n.ss next ++ (zs ++ (n.cc ++ free))) =
      ap (λ l. rows.with_copies l ps.entry.params ws w.stack next) (put ∙ regroup) ∙ n.becomes.goes [] zs [] cut free w.stack next (cut_length ∙ sym n.copies) (omega (arith, front_length, st.stack)) (omega (arith, len, zs_length)) (omega (arith, split_length, arg_length, zs_length, cut_length)) in
      let zero_words : zs ≡ zeros own = ap zeros ps.locals in
      let e : nat_eq (length cs) (length cs) ≡ true = nat_same (length cs) in
      let top : locals2 (length cs) ≡ values = ap (λ b. if b then values else s.store.locals (length cs)) e in
      let calls : Cs c s.made locals2 (new ∷ cs) ≡ K ++ (n.ss next ++ (zs ++ n.cc)) =
      ap (λ l. l ++ Call c s.made cs new (locals2 (length cs))) (other_calls c s.made cs s.store.locals (length cs) values (omega arith)) ∙ ap (λ g. K ++ Call c s.made cs new g) top ∙ ap (λ l. K ++ l) n.words ∙ ap (λ z. K ++ (n.ss z ++ (zeros own ++ n.cc))) (sym same) ∙ ap (λ l. K ++ (n.ss next ++ (l ++ n.cc))) (sym zero_words) in
      record {
        stack_free = free;
        heap_free = st.heap_free;
        words = copied ∙ (simp append_assoc) ∙ ap (λ l. G ++ (c.behind ++ (l ++ (free ++ (O ++ st.heap_free))))) (sym calls);
        globals_size = st.globals_size;
        stack_size = omega (arith, st.stack_size, cost, split_length);
        heap_size = st.heap_size;
        stack = omega (arith, st.stack, cost, arg_length, len);
        heap_next = st.heap_next;
        turns = st.turns;
        out = st.out;
        modules_fine = st.modules_fine;
        calls_fine = (other_calls_fine c s.made cs s.store.locals (length cs) values (omega arith) st.calls_fine, (n.different, subst (λ g. Hs c s.made cs new.places new.held g) (sym top) n.fine));
        objects_fine = st.objects_fine;
      }

  -- and after it has ended
  pub leave_stands : (a : Active) (cs : List Active) (s : State) (w : World) → StandIn c (a ∷ cs) s w → StandIn c cs (ended s) (record w { stack = call_start c.program (has_of c) c.img cs })
  leave_stands a cs s w st =
      let G = Ms c s.made c.program s.store.globals in
      let K = Cs c s.made s.store.locals cs in
      let O = Os c s.made s.made s.store.objects in
      let own = Call c s.made cs a (s.store.locals (length cs)) in
      record {
        stack_free = own ++ st.stack_free;
        heap_free = st.heap_free;
        words = st.words ∙ simp append_assoc;
        globals_size = st.globals_size;
        stack_size = let d = length-append own st.stack_free in let l = call-length c s.made cs a (s.store.locals (length cs)) in omega (arith, d, l, st.stack_size);
        heap_size = st.heap_size;
        stack = refl;
        heap_next = st.heap_next;
        turns = st.turns;
        out = st.out;
        modules_fine = st.modules_fine;
        calls_fine = st.calls_fine.0;
        objects_fine = st.objects_fine;
      }
