-- Runs of the machine, step by step.
use Rattle.std.proofs.Common.{◌≡◌, ℕ, zero, suc, ◌≤◌, length, List, [], ◌∷◌, Some, ℤ, refl, sym, ap, ◌∙◌, subst, arith}
use Rattle.std.proofs.lemmas.Bool.Decides.{nat_tests}
use Rattle.std.specs.Prelude.{◌+◌, pos, slice_get, nat_le, true, false, if◌then◌else◌}
use Rattle.ob_trap.specs.declared.trap.Trap.{Trap}
use Rattle.ob_trap.specs.declared.trap.Trap.TheVariants as trap
use Rattle.ob_tree.specs.declared.proc_ref.ProcRef.{ProcRef}
use Rattle.ob_instr.specs.declared.instr.Instr.{Instr}
use Rattle.ob_instr.specs.declared.procedure.Procedure.{Procedure}
use Rattle.ob_instr.specs.Parts.{slots}
use Rattle.ob_instr.specs.Image.{ModuleImage, Image, World, Act, End, Trapped, Spent, Point, Go, Over}
use Rattle.ob_instr.specs.Rows.{Effect, Next, Goto, Enter, Leave, Traps, Spends, entered}
use Rattle.ob_instr.specs.Table.{row, position_at, checked, has_room, left, come_to, act, act_in, step, run}

pub record InModule (img : Image) (m : ℕ) (u : ModuleImage) : Type 0 where
  pub is : slice_get img.modules m ≡ Some u

-- an instruction stands at an index of a module's code
pub record Has (u : ModuleImage) (pc : ℕ) (i : Instr) : Type 0 where
  pub is : slice_get u.code pc ≡ Some i

module _ (img : Image) where
  -- the machine comes from x to y
  pub record Reach (x y : Point) : Type 0 where
    pub n : ℕ
    pub is : run img n x ≡ y

  pub here : (x : Point) → Reach x x
  here x = record { n = 0; is = refl }

  pub one_step : {x y : Point} → Reach (step img x) y → Reach x y
  one_step r = record { n = suc r.n; is = r.is }

  pub then_reach : {x y z : Point} → Reach x y → Reach y z → Reach x z
  then_reach {x} {y} {z} r q = go r.n x r.is
    where
      go : (n : ℕ) (x : Point) → run img n x ≡ y → Reach x z
      go zero x e = record { n = q.n; is = ap (run img q.n) e ∙ q.is }
      go (suc n) x e = one_step (go n (step img x) e)

  -- no more operands stand than may
  abbrev pub Small : Point → Type 0
  Small (Go m p fb acts pc ops w) = length ops ≤ img.room.operands
  Small (Over end w) = Unit {0}

  small_checked : (m pc : ℕ) (x : Point) → Small x → checked img.room.operands m pc x ≡ x
  small_checked m pc (Go n p fb acts at ops w) h = let e : nat_le (length ops) img.room.operands ≡ true = grind (arith, nat_tests) in rw e refl
  small_checked m pc (Over end w) h = refl

  module _ (m p fb : ℕ) (acts : List Act) (u : ModuleImage) (inside : InModule img m u) where
    abbrev pub effect : ℕ → List ℤ → World → Instr → Effect
    effect pc ops w i = row img u m p fb pc i.op i.a i.b ops w

    -- one instruction, by the point that it comes to
    pub has_step : {pc : ℕ} {ops : List ℤ} {w : World} {i : Instr} {y : Point} → Has u pc i → (x : Point) → come_to img u m p fb acts pc w (effect pc ops w i) ≡ x → Small x → Reach x y → Reach (Go m p fb acts pc ops w) y
    has_step {pc} {ops} {w} {i} {y} h x e small r =
        one_step (subst (λ z. Reach z y) (sym (ap (λ o. act_in img o m p fb acts pc ops w) inside.is ∙ ap (act img u m p fb acts pc ops w) h.is ∙ ap (checked img.room.operands m pc) e ∙ small_checked m pc x small)) r)

    -- and by its effect
    pub goes : {pc : ℕ} {ops : List ℤ} {w : World} {i : Instr} (ops2 : List ℤ) (w2 : World) → Has u pc i → effect pc ops w i ≡ Next ops2 w2 → length ops2 ≤ img.room.operands → Reach (Go m p fb acts pc ops w) (Go m p fb acts (suc pc) ops2 w2)
    goes {pc} {ops} {w} {i} ops2 w2 h e small = has_step h _ (ap (come_to img u m p fb acts pc w) e) small (here _)

    pub jumps : {pc : ℕ} {ops : List ℤ} {w : World} {i : Instr} (at : ℕ) (ops2 : List ℤ) (w2 : World) → Has u pc i → effect pc ops w i ≡ Goto at ops2 w2 → length ops2 ≤ img.room.operands → Reach (Go m p fb acts pc ops w) (Go m p fb acts at ops2 w2)
    jumps {pc} {ops} {w} {i} at ops2 w2 h e small = has_step h _ (ap (come_to img u m p fb acts pc w) e) small (here _)

    pub traps : {pc : ℕ} {ops : List ℤ} {w : World} {i : Instr} (kind : Trap) (number : ℤ) (w2 : World) → Has u pc i → effect pc ops w i ≡ Traps kind number w2 → Reach (Go m p fb acts pc ops w) (Over (Trapped kind number m (position_at u.positions pc)) w2)
    traps {pc} {ops} {w} {i} kind number w2 h e = has_step h _ (ap (come_to img u m p fb acts pc w) e) tt (here _)

    pub spends : {pc : ℕ} {ops : List ℤ} {w : World} {i : Instr} (w2 : World) → Has u pc i → effect pc ops w i ≡ Spends w2 → Reach (Go m p fb acts pc ops w) (Over (Spent m (position_at u.positions pc)) w2)
    spends {pc} {ops} {w} {i} w2 h e = has_step h _ (ap (come_to img u m p fb acts pc w) e) tt (here _)

    -- a call, where there is room, and where there is none
    abbrev pub need : Procedure → ℕ → ℕ
    need q n = slots q.params + q.locals + n

    pub enters : {pc : ℕ} {ops : List ℤ} {w : World} {i : Instr} (r : ProcRef) (q : Procedure) (args : List ℤ) (n : ℕ) (rest : List ℤ) (w2 : World) → Has u pc i → effect pc ops w i ≡ Enter r q args n rest w2 → has_room img.room (need q n) acts w2 ≡ true → Reach (Go m p fb acts pc ops w) (Go r.module r.proc w2.stack (record { m = m; p = p; fb = fb; pc = suc pc; ops = rest } ∷ acts) q.entry [] (record w2 { words = entered w2.words w2.stack q args; stack = w2.stack + need q n }))
    enters {pc} {ops} {w} {i} r q args n rest w2 h e room = has_step h _ (ap (come_to img u m p fb acts pc w) e ∙ ap (λ t. if t then Go r.module r.proc w2.stack (record { m = m; p = p; fb = fb; pc = suc pc; ops = rest } ∷ acts) q.entry [] (record w2 { words = entered w2.words w2.stack q args; stack = w2.stack + need q n }) else Over (Trapped trap.StackFull (pos 0) m (position_at u.positions pc)) w2) room) (omega arith) (here _)

    pub is_full : {pc : ℕ} {ops : List ℤ} {w : World} {i : Instr} (r : ProcRef) (q : Procedure) (args : List ℤ) (n : ℕ) (rest : List ℤ) (w2 : World) → Has u pc i → effect pc ops w i ≡ Enter r q args n rest w2 → has_room img.room (need q n) acts w2 ≡ false → Reach (Go m p fb acts pc ops w) (Over (Trapped trap.StackFull (pos 0) m (position_at u.positions pc)) w2)
    is_full {pc} {ops} {w} {i} r q args n rest w2 h e room = has_step h _ (ap (come_to img u m p fb acts pc w) e ∙ ap (λ t. if t then Go r.module r.proc w2.stack (record { m = m; p = p; fb = fb; pc = suc pc; ops = rest } ∷ acts) q.entry [] (record w2 { words = entered w2.words w2.stack q args; stack = w2.stack + need q n }) else Over (Trapped trap.StackFull (pos 0) m (position_at u.positions pc)) w2) room) tt (here _)

    pub leaves : {pc : ℕ} {ops : List ℤ} {w : World} {i : Instr} (given : List ℤ) (w2 : World) → Has u pc i → effect pc ops w i ≡ Leave given w2 → Small (left fb acts given w2) → Reach (Go m p fb acts pc ops w) (left fb acts given w2)
    leaves {pc} {ops} {w} {i} given w2 h e small = has_step h _ (ap (come_to img u m p fb acts pc w) e) small (here _)

  -- a run that is over stays so
  pub over_stays : (n : ℕ) (end : End) (w : World) → run img n (Over end w) ≡ Over end w
  over_stays zero end w = refl
  over_stays (suc n) end w = over_stays n end w
