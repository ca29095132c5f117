-- What a call, a leg and a run by legs do.
use Rattle.std.proofs.Common.{◌≡◌, ℕ, zero, suc, ◌+◌, ◌-◌, ◌<◌, ◌≤◌, ◌⊎◌, List, [], ◌++◌, length, ℤ, pos, Option, Some, None, Bool, true, false, inl, inr, refl, sym, ap, subst, ◌∙◌, ⊎_elim, arith, append_assoc, vec_len}
use Rattle.std.specs.Prelude.{slice_get, nat_le, if◌then◌else◌, vec_capacity}
use Rattle.std.proofs.lemmas.Bool.{cases_lt}
use Rattle.std.proofs.lemmas.Bool.Decides.{nat_tests}
use Rattle.std.proofs.lemmas.List.{append-nil, length-reverse}
use Rattle.std.proofs.lemmas.Option.{slice_get_past}
use Rattle.ob_trap.specs.declared.trap.Trap.{Trap}
use Rattle.ob_io.specs.Fronts.{front_later}
use Rattle.ob_instr.specs.declared.instr.Instr.{Instr}
use Rattle.ob_instr.specs.Image as image
use Rattle.ob_instr.specs.Image.{Image, ModuleImage, World, Act, End, Point, Go, Over}
use Rattle.ob_instr.specs.Table as table
use Rattle.ob_instr.specs.Table.{row, position_at, checked, come_to, act, act_in, run}
use Rattle.ob_machine_image.specs.Room.{room}
use Rattle.ob_machine_operands.specs.declared.state.State.{State}
use Rattle.ob_machine_operands.specs.Effects.{ops_of, world_of}
use Rattle.ob_machine_step.specs.declared.acting.Place as effect_place
use Rattle.ob_machine_loop.specs.declared.pause.Pause.TheVariants as pause
use Rattle.ob_machine_fused.specs.Points.{IsHere, Comes, point_of}
use Rattle.ob_machine_loop.specs.Turns.{Begins, TurnDoes, Spends}
use Rattle.ob_machine_calls.specs.declared.calls.Place.{Place}
use Rattle.ob_machine_calls.specs.declared.calling.Called.{Called}
use Rattle.ob_machine_calls.specs.declared.calling.Called.TheVariants as called
use Rattle.ob_machine_calls.specs.Reached as reaching
use Rattle.ob_machine_calls.specs.Reached.{at_place, reached}
use Rattle.ob_machine.specs.declared.outcome.Outcome.{Outcome}
use Rattle.ob_machine.specs.declared.outcome.Outcome.TheVariants as outcome
use Rattle.ob_machine.specs.Machine.{name_of, name_in, outcome_of}
use Rattle.ob_machine.specs.Legs.{EndsAt, Leg, LegDoes, LegHasCause, Wrote, CallDoes, CanRun, left_of}

nothing : (b : List ℕ) → b ≡ b ++ []
nothing b = sym (append-nil b)

run_on : (img : Image) (a b : ℕ) (x : Point) → run img (a + b) x ≡ run img b (run img a x)
run_on img zero b x = let e : zero + b ≡ b = omega arith in ap (λ n. run img n x) e
run_on img (suc a) b x = let e : suc a + b ≡ suc (a + b) = omega arith in ap (λ n. run img n x) e ∙ run_on img a b (table.step img x)

over_stays : (img : Image) (n : ℕ) (end : End) (w : World) → run img n (Over end w) ≡ Over end w
over_stays img zero end w = refl
over_stays img (suc n) end w = over_stays img n end w

longer : (img : Image) (a b : ℕ) (x : Point) (end : End) (w : World) → a ≤ b → run img a x ≡ Over end w → run img b x ≡ Over end w
longer img a b x end w le e =
    let d : (k : ℕ) × (a + k ≡ b) = (b - a, omega arith) in
    ap (λ n. run img n x) (sym d.1) ∙ run_on img a d.0 x ∙ ap (run img d.0) e ∙ over_stays img d.0 end w

then_comes : (img : Image) (x y z : Point) → Comes img x y → Comes img y z → Comes img x z
then_comes img x y z a b = record { steps = a.steps + b.steps; comes = run_on img a.steps b.steps x ∙ ap (run img b.steps) a.comes ∙ b.comes }

then_ends : (img : Image) (x y : Point) (last : World) (r : Outcome) → Comes img x y → EndsAt img y last r → EndsAt img x last r
then_ends img x y last r a b = record { steps = a.steps + b.steps; end = b.end; comes = run_on img a.steps b.steps x ∙ ap (run img b.steps) a.comes ∙ b.comes; is = b.is }

then_begins : (img : Image) (x y : Point) (text : List ℕ) → Comes img x y → Begins img y text → Begins img x text
then_begins img x y text c d = record {
  more = λ steps end last e.
      let le : steps ≤ c.steps + steps = omega arith in
      let there = ap (run img steps) (sym c.comes) ∙ sym (run_on img c.steps steps x) ∙ longer img steps (c.steps + steps) x end last le e in
      d.more steps end last there;
}

-- CALLS

-- the step at a call or a return
called_step : (img : Image) (u : ModuleImage) (here new : Place) (acts now : List Act) (old s : State) (i : Instr) (r : Called) → slice_get img.modules here.unit ≡ Some u → img.room ≡ room → slice_get u.code here.next ≡ Some i → reaching.Comes img (row img u here.unit here.procedure here.first here.next i.op i.a i.b (ops_of old)) here new acts now old s r → (out : List ℕ) → table.step img (at_place here acts old out) ≡ checked 256 here.unit here.next (reached u here new now s out r)
called_step img u here new acts now old s i r at er code c out =
    ap (λ o. act_in img o here.unit here.procedure here.first acts here.next (ops_of old) (world_of old out)) at
    ∙ ap (λ o. act img u here.unit here.procedure here.first acts here.next (ops_of old) (world_of old out) o) code
    ∙ ap (λ k. checked k.operands here.unit here.next (come_to img u here.unit here.procedure here.first acts here.next (world_of old out) (row img u here.unit here.procedure here.first here.next i.op i.a i.b (ops_of old) (world_of old out)))) er
    ∙ ap (checked 256 here.unit here.next) (c u out)

name_at : (img : Image) (m : ℕ) (u : ModuleImage) → slice_get img.modules m ≡ Some u → u.name ≡ name_in img m
name_at img m u at = sym (ap name_of at)

few_ops : (s : State) → length s.operands.items ≤ 256 → nat_le (length (ops_of s)) 256 ≡ true
few_ops s le = grind (arith, nat_tests, length-reverse s.operands.items)

many_ops : (s : State) → 256 < length s.operands.items → nat_le (length (ops_of s)) 256 ≡ false
many_ops s lt = grind (arith, nat_tests, length-reverse s.operands.items)

pub goes_on : (img : Image) (u : ModuleImage) (here new : Place) (acts now : List Act) (old s : State) (i : Instr) → slice_get img.modules here.unit ≡ Some u → img.room ≡ room → slice_get u.code here.next ≡ Some i → reaching.Comes img (row img u here.unit here.procedure here.first here.next i.op i.a i.b (ops_of old)) here new acts now old s called.Goes → length s.operands.items ≤ 256 → CallDoes img here new acts now old s None
goes_on img u here new acts now old s i at er code c le = record {
  turn = λ out. record { steps = 1; comes = called_step img u here new acts now old s i called.Goes at er code c out ∙ ap (λ t. if t then at_place new now s out else Over (image.Illegal here.unit here.next) (world_of s out)) (few_ops s le) };
}

pub has_many : (img : Image) (u : ModuleImage) (here new : Place) (acts now : List Act) (old s : State) (i : Instr) → slice_get img.modules here.unit ≡ Some u → img.room ≡ room → slice_get u.code here.next ≡ Some i → reaching.Comes img (row img u here.unit here.procedure here.first here.next i.op i.a i.b (ops_of old)) here new acts now old s called.Goes → 256 < length s.operands.items → CallDoes img here new acts now old s (Some (outcome.Illegal u.name here.next))
has_many img u here new acts now old s i at er code c lt = record {
  turn = λ out. record {
    steps = 1;
    end = image.Illegal here.unit here.next;
    comes = called_step img u here new acts now old s i called.Goes at er code c out ∙ ap (λ t. if t then at_place new now s out else Over (image.Illegal here.unit here.next) (world_of s out)) (many_ops s lt);
    is = ap (λ n. outcome.Illegal n here.next) (name_at img here.unit u at);
  };
}

pub is_done : (img : Image) (u : ModuleImage) (here new : Place) (acts now : List Act) (old s : State) (i : Instr) → slice_get img.modules here.unit ≡ Some u → img.room ≡ room → slice_get u.code here.next ≡ Some i → reaching.Comes img (row img u here.unit here.procedure here.first here.next i.op i.a i.b (ops_of old)) here new acts now old s called.Done → CallDoes img here new acts now old s (Some outcome.Done)
is_done img u here new acts now old s i at er code c = record {
  turn = λ out. record { steps = 1; end = image.Done; comes = called_step img u here new acts now old s i called.Done at er code c out; is = refl };
}

pub traps : (img : Image) (u : ModuleImage) (here new : Place) (acts now : List Act) (old s : State) (i : Instr) (kind : Trap) → slice_get img.modules here.unit ≡ Some u → img.room ≡ room → slice_get u.code here.next ≡ Some i → reaching.Comes img (row img u here.unit here.procedure here.first here.next i.op i.a i.b (ops_of old)) here new acts now old s (called.Traps kind) → CallDoes img here new acts now old s (Some (outcome.Trap kind (pos 0) u.name (position_at u.positions here.next)))
traps img u here new acts now old s i kind at er code c = record {
  turn = λ out. record {
    steps = 1;
    end = image.Trapped kind (pos 0) here.unit (position_at u.positions here.next);
    comes = called_step img u here new acts now old s i (called.Traps kind) at er code c out;
    is = ap (λ n. outcome.Trap kind (pos 0) n (position_at u.positions here.next)) (name_at img here.unit u at);
  };
}

pub is_spent : (img : Image) (u : ModuleImage) (here new : Place) (acts now : List Act) (old s : State) (i : Instr) → slice_get img.modules here.unit ≡ Some u → img.room ≡ room → slice_get u.code here.next ≡ Some i → reaching.Comes img (row img u here.unit here.procedure here.first here.next i.op i.a i.b (ops_of old)) here new acts now old s called.Spends → CallDoes img here new acts now old s (Some (outcome.TurnsSpent u.name (position_at u.positions here.next)))
is_spent img u here new acts now old s i at er code c = record {
  turn = λ out. record {
    steps = 1;
    end = image.Spent here.unit (position_at u.positions here.next);
    comes = called_step img u here new acts now old s i called.Spends at er code c out;
    is = ap (λ n. outcome.TurnsSpent n (position_at u.positions here.next)) (name_at img here.unit u at);
  };
}

pub is_unable : (img : Image) (u : ModuleImage) (here new : Place) (acts now : List Act) (old s : State) (i : Instr) → slice_get img.modules here.unit ≡ Some u → img.room ≡ room → slice_get u.code here.next ≡ Some i → reaching.Comes img (row img u here.unit here.procedure here.first here.next i.op i.a i.b (ops_of old)) here new acts now old s called.Unable → CallDoes img here new acts now old s (Some (outcome.Illegal u.name here.next))
is_unable img u here new acts now old s i at er code c = record {
  turn = λ out. record {
    steps = 1;
    end = image.Illegal here.unit here.next;
    comes = called_step img u here new acts now old s i called.Unable at er code c out;
    is = ap (λ n. outcome.Illegal n here.next) (name_at img here.unit u at);
  };
}

pub within : (code : List Instr) (pc : ℕ) (i : Instr) → slice_get code pc ≡ Some i → length code ≤ 262144 → pc < 262144
within code pc i at le = ⊎_elim (λ lt. let m : pc < length code = lt in omega arith) (λ ge. let none : slice_get code pc ≡ None = slice_get_past code pc ge in let no : Some i ≡ None = sym at ∙ none in cc) (cases_lt pc (length code))

pub calls_less : (acts now : List Act) (old s : State) → length now ≤ 4095 → (s.turns + 1 ≡ old.turns) ⊎ ((s.turns ≡ old.turns) × (length now < length acts)) → left_of s now < left_of old acts
calls_less acts now old s few (inl e) = omega arith
calls_less acts now old s few (inr p) = let e = p.0 in let l = p.1 in omega arith

pub ruleset calls = (goes_on, has_many, is_done, traps, is_spent, is_unable, within, calls_less)

-- LEGS

point_is : (place : effect_place.Place) (here : Place) (pc : ℕ) (acts : List Act) (s : State) (out : List ℕ) → place.«module» ≡ here.unit → place.frame ≡ here.first → point_of place here.procedure acts pc s out ≡ at_place (record here { next = pc }) acts s out
point_is place here pc acts s out em ef =
    ap (λ m. Go m here.procedure place.frame acts pc (ops_of s) (world_of s out)) em
    ∙ ap (λ f. Go here.unit here.procedure f acts pc (ops_of s) (world_of s out)) ef

from_here : (img : Image) (place : effect_place.Place) (here : Place) (acts : List Act) (s : State) (out : List ℕ) (y : Point) → place.«module» ≡ here.unit → place.frame ≡ here.first → Comes img (point_of place here.procedure acts here.next s out) y → Comes img (at_place here acts s out) y
from_here img place here acts s out y em ef c = subst (λ x. Comes img x y) (point_is place here here.next acts s out em ef) c

-- what an end of the instructions is, said of the machine
ended : (img : Image) (place : effect_place.Place) (here : Place) (acts : List Act) (old : State) (out : List ℕ) (last : World) (end : End) (r : Outcome) → place.«module» ≡ here.unit → place.frame ≡ here.first → Comes img (point_of place here.procedure acts here.next old out) (Over end last) → r ≡ outcome_of img end → EndsAt img (at_place here acts old out) last r
ended img place here acts old out last end r em ef c is =
    let d = from_here img place here acts old out (Over end last) em ef c in
    record { steps = d.steps; end = end; comes = d.comes; is = is }

pub leg_traps : (t : Bool) (b now : List ℕ) (img : Image) (u : ModuleImage) (place : effect_place.Place) (here : Place) (pc : ℕ) (acts : List Act) (old s : State) (kind : Trap) (number : ℤ) → IsHere place u.code img u → place.«module» ≡ here.unit → place.frame ≡ here.first → TurnDoes t b now place u.code here.next pc old s (Some (pause.Traps kind number)) → LegDoes t b now img here (record here { next = pc }) acts acts old s (Some (outcome.Trap kind number u.name (position_at u.positions pc)))
leg_traps t b now img u place here pc acts old s kind number h em ef d = record {
  piece = d.piece;
  leg = λ out. ended img place here acts old out (world_of s (out ++ d.piece)) (image.Trapped kind number place.«module» (position_at u.positions pc)) (outcome.Trap kind number u.name (position_at u.positions pc)) em ef (d.turn img u h here.procedure acts out) (ap (λ n. outcome.Trap kind number n (position_at u.positions pc)) (name_at img place.«module» u h.unit));
  wrote = d.wrote;
}

pub leg_spent : (t : Bool) (b now : List ℕ) (img : Image) (u : ModuleImage) (place : effect_place.Place) (here : Place) (pc : ℕ) (acts : List Act) (old s : State) → IsHere place u.code img u → place.«module» ≡ here.unit → place.frame ≡ here.first → TurnDoes t b now place u.code here.next pc old s (Some pause.Spent) → LegDoes t b now img here (record here { next = pc }) acts acts old s (Some (outcome.TurnsSpent u.name (position_at u.positions pc)))
leg_spent t b now img u place here pc acts old s h em ef d = record {
  piece = d.piece;
  leg = λ out. ended img place here acts old out (world_of s (out ++ d.piece)) (image.Spent place.«module» (position_at u.positions pc)) (outcome.TurnsSpent u.name (position_at u.positions pc)) em ef (d.turn img u h here.procedure acts out) (ap (λ n. outcome.TurnsSpent n (position_at u.positions pc)) (name_at img place.«module» u h.unit));
  wrote = d.wrote;
}

pub leg_illegal : (t : Bool) (b now : List ℕ) (img : Image) (u : ModuleImage) (place : effect_place.Place) (here : Place) (pc : ℕ) (acts : List Act) (old s : State) → IsHere place u.code img u → place.«module» ≡ here.unit → place.frame ≡ here.first → TurnDoes t b now place u.code here.next pc old s (Some pause.Illegal) → LegDoes t b now img here (record here { next = pc }) acts acts old s (Some (outcome.Illegal u.name pc))
leg_illegal t b now img u place here pc acts old s h em ef d = record {
  piece = d.piece;
  leg = λ out. ended img place here acts old out (world_of s (out ++ d.piece)) (image.Illegal place.«module» pc) (outcome.Illegal u.name pc) em ef (d.turn img u h here.procedure acts out) (ap (λ n. outcome.Illegal n pc) (name_at img place.«module» u h.unit));
  wrote = d.wrote;
}

pub leg_faults : (t : Bool) (b now : List ℕ) (img : Image) (u : ModuleImage) (place : effect_place.Place) (here : Place) (pc : ℕ) (acts : List Act) (old s : State) → IsHere place u.code img u → place.«module» ≡ here.unit → place.frame ≡ here.first → TurnDoes t b now place u.code here.next pc old s (Some pause.SinkFault) → LegDoes t b now img here (record here { next = pc }) acts acts old s (Some outcome.SinkFault)
leg_faults t b now img u place here pc acts old s h em ef d = record {
  piece = d.piece;
  leg = λ out. subst (λ x. Begins img x (out ++ d.piece)) (point_is place here here.next acts old out em ef) (d.turn img u h here.procedure acts out);
  wrote = d.wrote;
}

-- the instructions up to a call
reaches : (img : Image) (u : ModuleImage) (place : effect_place.Place) (here : Place) (pc : ℕ) (acts : List Act) (old f : State) (piece out : List ℕ) → place.«module» ≡ here.unit → place.frame ≡ here.first → Comes img (point_of place here.procedure acts here.next old out) (point_of place here.procedure acts pc f (out ++ piece)) → Comes img (at_place here acts old out) (at_place (record here { next = pc }) acts f (out ++ piece))
reaches img u place here pc acts old f piece out em ef c =
    subst (λ y. Comes img (at_place here acts old out) y) (point_is place here pc acts f (out ++ piece) em ef)
    (from_here img place here acts old out (point_of place here.procedure acts pc f (out ++ piece)) em ef c)

with_call : (img : Image) (here mid new : Place) (acts now : List Act) (old f s : State) (r : Option Outcome) (piece : List ℕ) → ((out : List ℕ) → Comes img (at_place here acts old out) (at_place mid acts f (out ++ piece))) → CallDoes img mid new acts now f s r → Leg img here new acts now old s r piece
with_call img here mid new acts now old f s None piece a d = λ out. then_comes img (at_place here acts old out) (at_place mid acts f (out ++ piece)) (at_place new now s (out ++ piece)) (a out) (d.turn (out ++ piece))
with_call img here mid new acts now old f s (Some outcome.SinkFault) piece a d = absurd d.turn
with_call img here mid new acts now old f s (Some outcome.Done) piece a d = λ out. then_ends img (at_place here acts old out) (at_place mid acts f (out ++ piece)) (world_of s (out ++ piece)) outcome.Done (a out) (d.turn (out ++ piece))
with_call img here mid new acts now old f s (Some (outcome.Trap k z n p)) piece a d = λ out. then_ends img (at_place here acts old out) (at_place mid acts f (out ++ piece)) (world_of s (out ++ piece)) (outcome.Trap k z n p) (a out) (d.turn (out ++ piece))
with_call img here mid new acts now old f s (Some (outcome.TurnsSpent n p)) piece a d = λ out. then_ends img (at_place here acts old out) (at_place mid acts f (out ++ piece)) (world_of s (out ++ piece)) (outcome.TurnsSpent n p) (a out) (d.turn (out ++ piece))
with_call img here mid new acts now old f s (Some (outcome.Illegal n p)) piece a d = λ out. then_ends img (at_place here acts old out) (at_place mid acts f (out ++ piece)) (world_of s (out ++ piece)) (outcome.Illegal n p) (a out) (d.turn (out ++ piece))

call_wrote : (img : Image) (mid new : Place) (acts now : List Act) (f s : State) (r : Option Outcome) (b after piece : List ℕ) → CallDoes img mid new acts now f s r → after ≡ b ++ piece → Wrote b after r piece
call_wrote img mid new acts now f s None b after piece d e = e
call_wrote img mid new acts now f s (Some outcome.SinkFault) b after piece d e = absurd d.turn
call_wrote img mid new acts now f s (Some outcome.Done) b after piece d e = e
call_wrote img mid new acts now f s (Some (outcome.Trap k z n p)) b after piece d e = e
call_wrote img mid new acts now f s (Some (outcome.TurnsSpent n p)) b after piece d e = e
call_wrote img mid new acts now f s (Some (outcome.Illegal n p)) b after piece d e = e

pub leg_calls : (t : Bool) (b after : List ℕ) (img : Image) (u : ModuleImage) (place : effect_place.Place) (here new : Place) (pc : ℕ) (acts now : List Act) (old f s : State) (i : Instr) (r : Option Outcome) → IsHere place u.code img u → place.«module» ≡ here.unit → place.frame ≡ here.first → TurnDoes t b after place u.code here.next pc old f (Some (pause.Calls i)) → CallDoes img (record here { next = pc }) new acts now f s r → LegDoes t b after img here new acts now old s r
leg_calls t b after img u place here new pc acts now old f s i r h em ef d e = record {
  piece = d.piece;
  leg = with_call img here (record here { next = pc }) new acts now old f s r d.piece (λ out. reaches img u place here pc acts old f d.piece out em ef (d.turn img u h here.procedure acts out)) e;
  wrote = λ told. call_wrote img (record here { next = pc }) new acts now f s r b after d.piece e (d.wrote told);
}

pub call_cause : (img : Image) (mid new : Place) (acts now : List Act) (f s : State) (r : Option Outcome) (b n : ℕ) → b ≤ n → CallDoes img mid new acts now f s r → LegHasCause b n r
call_cause img mid new acts now f s None b n le d = record { later = le; failed = λ e. cc }
call_cause img mid new acts now f s (Some outcome.SinkFault) b n le d = absurd d.turn
call_cause img mid new acts now f s (Some outcome.Done) b n le d = record { later = le; failed = λ e. cc }
call_cause img mid new acts now f s (Some (outcome.Trap k z m p)) b n le d = record { later = le; failed = λ e. cc }
call_cause img mid new acts now f s (Some (outcome.TurnsSpent m p)) b n le d = record { later = le; failed = λ e. cc }
call_cause img mid new acts now f s (Some (outcome.Illegal m p)) b n le d = record { later = le; failed = λ e. cc }

pub can_on : (n : ℕ) (here : Place) (pc : ℕ) (acts : List Act) (old s : State) → CanRun n here acts old → Spends old s → vec_len s.operands ≤ 256 → vec_capacity s.operands ≡ vec_capacity old.operands → CanRun n (record here { next = pc }) acts s
can_on n here pc acts old s c p few e =
    let k = p.stack in
    let z = c.stack in
    let m = c.room in
    record { unit = c.unit; units = c.units; first = c.first; stack = omega arith; few = few; room = omega arith }

pub leg_less : (acts now : List Act) (old f s : State) → Spends old f → left_of s now < left_of f acts → left_of s now < left_of old acts
leg_less acts now old f s p lt = let k = p.turns in omega arith

pub ruleset legs = (leg_traps, leg_spent, leg_illegal, leg_faults, leg_calls, call_cause, can_on, leg_less)

-- RUNS

pub run_start : (t : Bool) (b : List ℕ) (img : Image) (here : Place) (acts : List Act) (s : State) → LegDoes t b b img here here acts acts s s None
run_start t b img here acts s = record { piece = []; leg = λ out. record { steps = 0; comes = ap (λ o. at_place here acts s o) (nothing out) }; wrote = λ e. nothing b }

joined_end : (img : Image) (here mid new : Place) (acts at now : List Act) (old f s : State) (r : Outcome) (text piece : List ℕ) → ((out : List ℕ) → Comes img (at_place here acts old out) (at_place mid at f (out ++ text))) → ((out : List ℕ) → EndsAt img (at_place mid at f out) (world_of s (out ++ piece)) r) → (out : List ℕ) → EndsAt img (at_place here acts old out) (world_of s (out ++ (text ++ piece))) r
joined_end img here mid new acts at now old f s r text piece a b out =
    subst (λ o. EndsAt img (at_place here acts old out) (world_of s o) r) (append_assoc out text piece)
    (then_ends img (at_place here acts old out) (at_place mid at f (out ++ text)) (world_of s ((out ++ text) ++ piece)) r (a out) (b (out ++ text)))

joined : (img : Image) (here mid new : Place) (acts at now : List Act) (old f s : State) (r : Option Outcome) (text piece : List ℕ) → Leg img here mid acts at old f None text → Leg img mid new at now f s r piece → Leg img here new acts now old s r (text ++ piece)
joined img here mid new acts at now old f s None text piece a b = λ out.
    subst (λ o. Comes img (at_place here acts old out) (at_place new now s o)) (append_assoc out text piece)
    (then_comes img (at_place here acts old out) (at_place mid at f (out ++ text)) (at_place new now s ((out ++ text) ++ piece)) (a out) (b (out ++ text)))
joined img here mid new acts at now old f s (Some outcome.SinkFault) text piece a b = λ out.
    subst (λ o. Begins img (at_place here acts old out) o) (append_assoc out text piece)
    (then_begins img (at_place here acts old out) (at_place mid at f (out ++ text)) ((out ++ text) ++ piece) (a out) (b (out ++ text)))
joined img here mid new acts at now old f s (Some outcome.Done) text piece a b = joined_end img here mid new acts at now old f s outcome.Done text piece a b
joined img here mid new acts at now old f s (Some (outcome.Trap k z n p)) text piece a b = joined_end img here mid new acts at now old f s (outcome.Trap k z n p) text piece a b
joined img here mid new acts at now old f s (Some (outcome.TurnsSpent n p)) text piece a b = joined_end img here mid new acts at now old f s (outcome.TurnsSpent n p) text piece a b
joined img here mid new acts at now old f s (Some (outcome.Illegal n p)) text piece a b = joined_end img here mid new acts at now old f s (outcome.Illegal n p) text piece a b

wrote_whole : (b m now : List ℕ) (r : Option Outcome) (text piece : List ℕ) → m ≡ b ++ text → Wrote m now r piece → Wrote b now r (text ++ piece)
wrote_whole b m now (Some outcome.SinkFault) text piece e p = front_later b m now text piece e p
wrote_whole b m now None text piece e p = p ∙ ap (λ l. l ++ piece) e ∙ append_assoc b text piece
wrote_whole b m now (Some outcome.Done) text piece e p = p ∙ ap (λ l. l ++ piece) e ∙ append_assoc b text piece
wrote_whole b m now (Some (outcome.Trap k z n q)) text piece e p = p ∙ ap (λ l. l ++ piece) e ∙ append_assoc b text piece
wrote_whole b m now (Some (outcome.TurnsSpent n q)) text piece e p = p ∙ ap (λ l. l ++ piece) e ∙ append_assoc b text piece
wrote_whole b m now (Some (outcome.Illegal n q)) text piece e p = p ∙ ap (λ l. l ++ piece) e ∙ append_assoc b text piece

pub run_on_by : (t : Bool) (b mid after : List ℕ) (img : Image) (here place new : Place) (acts at now : List Act) (old f s : State) (r : Option Outcome) → LegDoes t b mid img here place acts at old f None → LegDoes t mid after img place new at now f s r → LegDoes t b after img here new acts now old s r
run_on_by t b mid after img here place new acts at now old f s r d e = record {
  piece = d.piece ++ e.piece;
  leg = joined img here place new acts at now old f s r d.piece e.piece d.leg e.leg;
  wrote = λ told. wrote_whole b mid after r d.piece e.piece (d.wrote told) (e.wrote told);
}
