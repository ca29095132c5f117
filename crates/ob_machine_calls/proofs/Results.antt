-- What a return with a result comes to.
use Rattle.std.proofs.Common.{◌≡◌, ℕ, List, [], ◌∷◌, Bool, Option, Some, None, refl, ap, ◌∙◌, sym}
use Rattle.std.specs.Prelude.{ℤ, option_map, unwrap_or, if◌then◌else◌}
use Rattle.std.proofs.lemmas.Option.{none-some}
use Rattle.ob_instr.specs.declared.procedure.Procedure.{Procedure}
use Rattle.ob_instr.specs.Image.{Image, Act, World, Point, Go, Over}
use Rattle.ob_instr.specs.Rows.{Effect, Leave, on_found, on_one}
use Rattle.ob_instr.specs.Table.{left}
use Rattle.ob_machine_operands.specs.declared.state.State.{State}
use Rattle.ob_machine_operands.specs.Effects.{ops_of, world_of}
use Rattle.ob_machine_calls.specs.declared.calls.Place.{Place}
use Rattle.ob_machine_calls.specs.declared.calling.Called.{Called}
use Rattle.ob_machine_calls.specs.declared.calling.Called.TheVariants as called
use Rattle.ob_machine_calls.specs.Reached.{Comes}

-- with one operand more
abbrev over : ℤ → Point → Point
over v (Go m p fb acts pc ops w) = Go m p fb acts pc (v ∷ ops) w
over v (Over end w) = Over end w

left_over : (fb : ℕ) (acts : List Act) (v : ℤ) (w : World) → left fb acts (v ∷ []) w ≡ over v (left fb acts [] w)
left_over fb [] v w = refl
left_over fb (a ∷ acts) v w = refl

-- a result that stands on the operands then
pub returned : (img : Image) (here new : Place) (acts acts_new : List Act) (s mid s_new : State) (v : ℤ) → Comes img (λ w. Leave [] w) here new acts acts_new s mid called.Goes → ops_of s_new ≡ v ∷ ops_of mid → s_new.words ≡ mid.words → s_new.stack ≡ mid.stack → s_new.turns ≡ mid.turns → Comes img (λ w. Leave (v ∷ []) w) here new acts acts_new s s_new called.Goes
returned img here new acts acts_new s mid s_new v c eo ew es et = λ u out. left_over here.first acts v (world_of s out) ∙ ap (over v) (c u out) ∙ rw (eo, ew, es, et) refl

-- a return that does not go on
pub kept : (img : Image) (here new : Place) (acts acts_new : List Act) (s s_new : State) (v : ℤ) (r : Called) → (r ≡ called.Goes → ⊥) → Comes img (λ w. Leave [] w) here new acts acts_new s s_new r → Comes img (λ w. Leave (v ∷ []) w) here new acts acts_new s s_new r
kept img here new acts acts_new s s_new v called.Goes n c = absurd (n refl)
kept img here new acts acts_new s s_new v called.Done n c = λ u out. left_over here.first acts v (world_of s out) ∙ ap (over v) (c u out)
kept img here new acts acts_new s s_new v (called.Traps kind) n c = λ u out. left_over here.first acts v (world_of s out) ∙ ap (over v) (c u out)
kept img here new acts acts_new s s_new v called.Spends n c = λ u out. left_over here.first acts v (world_of s out) ∙ ap (over v) (c u out)
kept img here new acts acts_new s s_new v called.Unable n c = λ u out. left_over here.first acts v (world_of s out) ∙ ap (over v) (c u out)

-- what a procedure that is there makes of its results
pub tested : (o : Option Procedure) (b : Bool) (d e : Effect) → Some b ≡ option_map (λ q. q.has_result) o → on_found o (λ q. if q.has_result then d else e) ≡ (if b then d else e)
tested None b d e h = absurd (none-some b (sym h))
tested (Some q) b d e h = ap (λ (o : Option Bool). if unwrap_or o q.has_result then d else e) (sym h)

pub tested_one : (o : Option Procedure) (b : Bool) (ops : List ℤ) (k : Bool → ℤ → Effect) → Some b ≡ option_map (λ q. q.has_result) o → on_found o (λ q. on_one ops (λ v rest. k q.has_result v)) ≡ on_one ops (λ v rest. k b v)
tested_one None b ops k h = absurd (none-some b (sym h))
tested_one (Some q) b ops k h = ap (λ (o : Option Bool). on_one ops (λ v rest. k (unwrap_or o q.has_result) v)) (sym h)
