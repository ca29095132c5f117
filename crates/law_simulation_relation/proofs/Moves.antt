-- Steps of the machine inside one call, and results that follow from one instruction.
use Rattle.std.proofs.Common.{◌≡◌, ℕ, suc, ◌+◌, ◌≤◌, List, ◌++◌, length, ℤ, sym, ap, ◌∙◌, subst, arith, length-append}
use Rattle.std.proofs.lemmas.Bool.Decides.{nat_tests}
use Rattle.std.specs.Prelude.{pos, true}
use Rattle.ob_trap.specs.declared.trap.Trap.{Trap}
use Rattle.ob_tree.specs.declared.pos.Pos.{Pos}
use Rattle.ob_instr.specs.declared.instr.Instr.{Instr}
use Rattle.ob_instr.specs.Image as image
use Rattle.ob_instr.specs.Image.{World, Point, Go, Over}
use Rattle.ob_instr.specs.Rows.{Effect, Next, Goto, Traps, Spends, in_width}
use Rattle.ob_instr.specs.Table.{row, position_at}
use Rattle.ob_instr.proofs.Steps as machine
use Rattle.ob_meaning.specs.Values.{Place, Active, State}
use Rattle.ob_meaning.specs.Results.{Trapped, Spent}
use Rattle.law_simulation_relation.specs.Layout.{address}
use Rattle.law_simulation_relation.specs.Relation.{PlaceIn, OrElse}
use Rattle.law_simulation_relation.specs.Stands as code
use Rattle.law_simulation_relation.proofs.Steps.{Reach, here}
use Rattle.law_simulation_relation.proofs.Stopping.{Stopped, stops_only}
use Rattle.law_simulation_relation.proofs.Statements.{Activation, scope, go, fb}
use Rattle.law_simulation_relation.proofs.Places.{Cs, Os, calls-length, objects-length}
use Rattle.law_simulation_relation.proofs.Modules.{Ms}
use Rattle.law_simulation_relation.proofs.Located.{located}
use Rattle.law_simulation_relation.specs.Setting.{Setting, StandIn, stopped, has_of}

module _ (c : Setting) where
  pub all_length : (cs : List Active) (s : State) (w : World) → StandIn c cs s w → length w.words ≤ 5505024
  all_length cs s w st =
      let g = Ms c s.made c.program s.store.globals in
      let k = Cs c s.made s.store.locals cs in
      let o = Os c s.made s.made s.store.objects in
      let r3 = length-append o st.heap_free in
      let r2 = length-append st.stack_free (o ++ st.heap_free) in
      let r1 = length-append k (st.stack_free ++ (o ++ st.heap_free)) in
      let r0 = length-append c.behind (k ++ (st.stack_free ++ (o ++ st.heap_free))) in
      let r = ap length st.words ∙ length-append g (c.behind ++ (k ++ (st.stack_free ++ (o ++ st.heap_free)))) in
      omega (arith, r, r0, r1, r2, r3, st.globals_size, st.stack_size, st.heap_size, calls-length c s.made cs s.store.locals, objects-length c s.made s.made s.store.objects, c.globals, c.stack, c.heap_few)

  pub whole_length : (cs : List Active) (s : State) (w : World) → StandIn c cs s w → length w.words ≡ c.img.room.globals + (c.img.room.stack + c.heap)
  whole_length cs s w st =
      let g = Ms c s.made c.program s.store.globals in
      let k = Cs c s.made s.store.locals cs in
      let o = Os c s.made s.made s.store.objects in
      let r3 = length-append o st.heap_free in
      let r2 = length-append st.stack_free (o ++ st.heap_free) in
      let r1 = length-append k (st.stack_free ++ (o ++ st.heap_free)) in
      let r0 = length-append c.behind (k ++ (st.stack_free ++ (o ++ st.heap_free))) in
      let r = ap length st.words ∙ length-append g (c.behind ++ (k ++ (st.stack_free ++ (o ++ st.heap_free)))) in
      omega (arith, r, r0, r1, r2, r3, st.globals_size, st.stack_size, st.heap_size, calls-length c s.made cs s.store.locals, objects-length c s.made s.made s.store.objects)

  pub small_word : (n : ℕ) → n ≤ 5505025 → in_width 4 (pos n) ≡ true
  small_word n le = grind (arith, nat_tests)

  pub address_small : (cs : List Active) (s : State) (w : World) (p : Place) → StandIn c cs s w → PlaceIn c.program (has_of c) c.img s.made cs p → address c.program c.img s.made cs p ≤ 5505025
  address_small cs s w p st here =
      let k = located c cs s w st p here in
      let all = all_length cs s w st in
      let len = ap length k.is ∙ length-append k.before _ in
      omega (arith, k.at, all, len)

  module _ (a : Activation c) where
    abbrev pub effect : ℕ → List ℤ → World → Instr → Effect
    effect pc ops w i = row c.img a.u a.m a.p (fb c a) pc i.op i.a i.b ops w

    pub has_it : {pc : ℕ} {i : Instr} → code.Has (scope c a) pc i → machine.Has a.u pc i
    has_it h = record { is = h.is }

    -- where it stops, it has its position
    place_of : {pc : ℕ} {i : Instr} {at : Pos} (ops : List ℤ) (w : World) → code.HasAt (scope c a) pc i at → Stopped (effect pc ops w i) → position_at a.u.positions pc ≡ at
    place_of {pc} {i} {at} ops w h s = subst (λ b. OrElse b (Unit {0}) (position_at a.u.positions pc ≡ at)) (stops_only c.img a.u a.m a.p (fb c a) pc i.op i.a i.b ops w s) h.place

    pub goes : {pc : ℕ} {ops : List ℤ} {w : World} {i : Instr} (ops2 : List ℤ) (w2 : World) → code.Has (scope c a) pc i → effect pc ops w i ≡ Next ops2 w2 → length ops2 ≤ 256 → Reach c (go c a pc ops w) (go c a (suc pc) ops2 w2)
    goes {pc} {ops} {w} {i} ops2 w2 h e le = machine.goes c.img a.m a.p (fb c a) a.acts a.u a.is ops2 w2 (has_it h) e (omega (arith, le, c.operands))

    pub jumps : {pc : ℕ} {ops : List ℤ} {w : World} {i : Instr} (at : ℕ) (ops2 : List ℤ) (w2 : World) → code.Has (scope c a) pc i → effect pc ops w i ≡ Goto at ops2 w2 → length ops2 ≤ 256 → Reach c (go c a pc ops w) (go c a at ops2 w2)
    jumps {pc} {ops} {w} {i} at ops2 w2 h e le = machine.jumps c.img a.m a.p (fb c a) a.acts a.u a.is at ops2 w2 (has_it h) e (omega (arith, le, c.operands))

    pub traps : {pc : ℕ} {ops : List ℤ} {w : World} {i : Instr} {at : Pos} (kind : Trap) (number : ℤ) (w2 : World) → code.HasAt (scope c a) pc i at → effect pc ops w i ≡ Traps kind number w2 → Reach c (go c a pc ops w) (Over (stopped c (Trapped kind number a.unit at)) w2)
    traps {pc} {ops} {w} {i} {at} kind number w2 h e =
        subst (λ m. Reach c (go c a pc ops w) (Over (image.Trapped kind number m at) w2)) (sym a.named)
        (subst (λ p. Reach c (go c a pc ops w) (Over (image.Trapped kind number a.m p) w2)) (place_of ops w h (subst Stopped (sym e) tt)) (machine.traps c.img a.m a.p (fb c a) a.acts a.u a.is kind number w2 (has_it h.has) e))

    pub spends : {pc : ℕ} {ops : List ℤ} {w : World} {i : Instr} {at : Pos} (w2 : World) → code.HasAt (scope c a) pc i at → effect pc ops w i ≡ Spends w2 → Reach c (go c a pc ops w) (Over (stopped c (Spent a.unit at)) w2)
    spends {pc} {ops} {w} {i} {at} w2 h e =
        subst (λ m. Reach c (go c a pc ops w) (Over (image.Spent m at) w2)) (sym a.named)
        (subst (λ p. Reach c (go c a pc ops w) (Over (image.Spent a.m p) w2)) (place_of ops w h (subst Stopped (sym e) tt)) (machine.spends c.img a.m a.p (fb c a) a.acts a.u a.is w2 (has_it h.has) e))
