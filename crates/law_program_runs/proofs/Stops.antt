-- Where a run is stopped, it has stopped in a module that is there.
use Rattle.std.proofs.Common.{◌≡◌, ℕ, zero, suc, ◌<◌, List, [], ◌∷◌, length, ℤ, Option, Some, None, Bool, true, false, refl, subst, arith}
use Rattle.std.specs.Prelude.{slice_get, nat_le, if◌then◌else◌}
use Rattle.ob_tree.specs.declared.proc_ref.ProcRef.{ProcRef}
use Rattle.ob_instr.specs.declared.instr.Instr.{Instr}
use Rattle.ob_instr.specs.declared.procedure.Procedure.{Procedure}
use Rattle.ob_instr.specs.Image.{ModuleImage, Image, World, Act, End, Done, Trapped, Spent, Illegal, Point, Go, Over}
use Rattle.ob_instr.specs.Rows.{Effect, Next, Goto, Enter, Leave, Traps, Spends, Unable, procedure_of}
use Rattle.ob_instr.specs.Table.{Ends, row, checked, has_room, left, come_to, act, act_in, step, run, begins, start}

there_at : {A : Type 0} (l : List A) (n : ℕ) (x : A) → slice_get l n ≡ Some x → n < length l
there_at [] n x e = absurd (cc)
there_at (y ∷ l) zero x e = omega arith
there_at (y ∷ l) (suc n) x e = let h = there_at l n x e in omega (arith, h)

module _ (img : Image) where
  abbrev pub IsThere : End → Type 0
  IsThere Done = Unit {0}
  IsThere (Trapped kind number m at) = m < length img.modules
  IsThere (Spent m at) = m < length img.modules
  IsThere (Illegal m at) = Unit {0}

  abbrev AtThere : Point → Type 0
  AtThere (Go m p fb acts pc ops w) = Unit {0}
  AtThere (Over end w) = IsThere end

  either : (b : Bool) (x y : Point) → AtThere x → AtThere y → AtThere (if b then x else y)
  either true x y f g = f
  either false x y f g = g

  left_there : (fb : ℕ) (acts : List Act) (given : List ℤ) (w : World) → AtThere (left fb acts given w)
  left_there fb [] given w = tt
  left_there fb (a ∷ acts) given w = tt

  come_there : (u : ModuleImage) (m p fb : ℕ) (acts : List Act) (pc : ℕ) (v : World) (e : Effect) → m < length img.modules → AtThere (come_to img u m p fb acts pc v e)
  come_there u m p fb acts pc v (Next ops w) lt = tt
  come_there u m p fb acts pc v (Goto at ops w) lt = tt
  come_there u m p fb acts pc v (Enter r q args n ops w) lt = either (has_room img.room _ acts w) _ _ tt lt
  come_there u m p fb acts pc v (Leave given w) lt = left_there fb acts given w
  come_there u m p fb acts pc v (Traps kind number w) lt = lt
  come_there u m p fb acts pc v (Spends w) lt = lt
  come_there u m p fb acts pc v Unable lt = tt

  checked_there : (most m pc : ℕ) (x : Point) → AtThere x → AtThere (checked most m pc x)
  checked_there most m pc (Go n p fb acts at ops w) h = either (nat_le (length ops) most) _ _ tt tt
  checked_there most m pc (Over end w) h = h

  act_there : (u : ModuleImage) (m p fb : ℕ) (acts : List Act) (pc : ℕ) (ops : List ℤ) (w : World) (i : Option Instr) → m < length img.modules → AtThere (act img u m p fb acts pc ops w i)
  act_there u m p fb acts pc ops w None lt = tt
  act_there u m p fb acts pc ops w (Some i) lt = checked_there img.room.operands m pc (come_to img u m p fb acts pc w (row img u m p fb pc i.op i.a i.b ops w)) (come_there u m p fb acts pc w (row img u m p fb pc i.op i.a i.b ops w) lt)

  act_in_there : (o : Option ModuleImage) (m p fb : ℕ) (acts : List Act) (pc : ℕ) (ops : List ℤ) (w : World) → slice_get img.modules m ≡ o → AtThere (act_in img o m p fb acts pc ops w)
  act_in_there None m p fb acts pc ops w e = tt
  act_in_there (Some u) m p fb acts pc ops w e = act_there u m p fb acts pc ops w (slice_get u.code pc) (there_at img.modules m u e)

  run_there : (n : ℕ) (x : Point) → AtThere x → AtThere (run img n x)
  run_there zero x h = h
  run_there (suc n) (Go m p fb acts pc ops w) h = run_there n (step img (Go m p fb acts pc ops w)) (act_in_there (slice_get img.modules m) m p fb acts pc ops w refl)
  run_there (suc n) (Over end w) h = run_there n (Over end w) h

  begins_there : (q : Option Procedure) (r : ProcRef) (fb : ℕ) (w : World) → AtThere (begins q r fb w)
  begins_there None r fb w = tt
  begins_there (Some q) r fb w = tt

  pub ends_there : (r : ProcRef) (w : World) (end : End) (after : World) → Ends img r w end after → IsThere end
  ends_there r w end after e = subst AtThere e.is (run_there e.count (start img r w) (begins_there (procedure_of img r) r _ w))
