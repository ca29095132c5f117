-- How the calls that wait are kept.
use Rattle.std.specs.Prelude.{◌≡◌, ◌<◌, ◌≤◌, List, [], ◌∷◌, length, take, drop, reverse, ℤ, vec_capacity}
use Rattle.ob_instr.specs.Image.{Act}
use Rattle.ob_machine_calls.specs.declared.calls.Waiting.{Waiting}
use Rattle.ob_machine_calls.specs.declared.calls.Calls.TheInside.{Inside}

abbrev pub act_of : Waiting → List ℤ → Act
act_of w ops = record { m = w.place.unit; p = w.place.procedure; fb = w.place.first; pc = w.place.next; ops = ops }

-- the calls, the newest first, from the operands of all, the last one first
abbrev pub acts_of : List Waiting → List ℤ → List Act
acts_of [] os = []
acts_of (w ∷ ws) os = act_of w (take w.operands os) ∷ acts_of ws (drop w.operands os)

-- each has as many operands as it says, and at most 256
abbrev pub AreCounted : List Waiting → List ℤ → Type 0
AreCounted [] os = os ≡ []
AreCounted (w ∷ ws) os = (w.operands ≤ length os) × (w.operands ≤ 256) × (0 < w.place.first) × AreCounted ws (drop w.operands os)

pub record IsKept (c : Inside) : Type 0 where
  pub counted : AreCounted (reverse c.waiting.items) (reverse c.operands.items)
  pub few : length c.waiting.items ≤ 4095
  pub room : 4096 ≤ vec_capacity c.waiting
  pub operands : 1048576 ≤ vec_capacity c.operands
