-- Where the machine stands after a call or a return.
use Rattle.std.specs.Prelude.{◌≡◌, ℕ, List, pos}
use Rattle.ob_instr.specs.Image.{ModuleImage, Image, Act, World, Point, Go, Over, Done, Trapped, Spent, Illegal}
use Rattle.ob_instr.specs.Rows.{Effect}
use Rattle.ob_instr.specs.Table.{come_to, position_at}
use Rattle.ob_machine_operands.specs.declared.state.State.{State}
use Rattle.ob_machine_operands.specs.Effects.{ops_of, world_of}
use Rattle.ob_machine_calls.specs.declared.calls.Place.{Place}
use Rattle.ob_machine_calls.specs.declared.calling.Called.{Called}
use Rattle.ob_machine_calls.specs.declared.calling.Called.TheVariants as called

-- from a place with a state, over the calls that wait
abbrev pub at_place : Place → List Act → State → List ℕ → Point
at_place p acts s out = Go p.unit p.procedure p.first acts p.next (ops_of s) (world_of s out)

-- from the instruction at the place here, in this module
abbrev pub reached : ModuleImage → Place → Place → List Act → State → List ℕ → Called → Point
reached u here new acts s out called.Goes = at_place new acts s out
reached u here new acts s out called.Done = Over Done (world_of s out)
reached u here new acts s out (called.Traps kind) = Over (Trapped kind (pos 0) here.unit (position_at u.positions here.next)) (world_of s out)
reached u here new acts s out called.Spends = Over (Spent here.unit (position_at u.positions here.next)) (world_of s out)
reached u here new acts s out called.Unable = Over (Illegal here.unit here.next) (world_of s out)

-- A call or a return comes to what the effect of an instruction comes to, in each module and after each
-- text.
abbrev pub Comes : Image → (World → Effect) → Place → Place → List Act → List Act → State → State → Called → Type 0
Comes img effect here new acts acts_new s s_new result = (u : ModuleImage) (out : List ℕ) → come_to img u here.unit here.procedure here.first acts here.next (world_of s out) (effect (world_of s out)) ≡ reached u here new acts_new s_new out result
