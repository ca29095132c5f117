-- A run from a procedure's first instruction.
use Rattle.std.proofs.Common.{◌≡◌, ℕ, suc, ◌+◌, ◌≤◌, List, [], ◌++◌, length, replicate, pos, Some, Bool, true, sym, ap, ◌∙◌, subst, arith}
use Rattle.std.specs.Prelude.{ℤ, reverse, unwrap_or}
use Rattle.ob_io.specs.Io.{AddsFront}
use Rattle.ob_io.specs.Fronts.{front_more}
use Rattle.ob_tree.specs.declared.proc_ref.ProcRef.{ProcRef}
use Rattle.ob_mem.specs.Words.{Held, cleared, with_words}
use Rattle.ob_instr.specs.declared.procedure.Procedure.{Procedure}
use Rattle.ob_instr.specs.declared.procedure.Param.{Param}
use Rattle.ob_instr.specs.Image.{Image, Act, Go}
use Rattle.ob_instr.specs.Parts.{slots}
use Rattle.ob_instr.specs.Rows.{entered, with_copies, procedure_of}
use Rattle.ob_instr.specs.Table.{begins, begun, start, run}
use Rattle.ob_machine_image.specs.Room.{room}
use Rattle.ob_machine_image.specs.WordLaws.{cleared_as}
use Rattle.ob_machine_operands.specs.declared.state.State.{State}
use Rattle.ob_machine_operands.specs.Effects.{world_of}
use Rattle.ob_machine_calls.specs.declared.calls.Place.{Place}
use Rattle.ob_machine_calls.specs.Reached.{at_place}
use Rattle.ob_machine.specs.declared.outcome.Outcome.{Outcome}
use Rattle.ob_machine.specs.declared.outcome.Outcome.TheVariants as outcome
use Rattle.ob_machine.specs.Machine as machine
use Rattle.ob_machine.specs.Machine.{IsEntry, Came, Runs}
use Rattle.ob_machine.specs.Legs.{EndsAt, LegDoes, IsBegun}

-- what a machine with this image and state holds
abbrev pub held : Image → State → machine.Held
held img s = record { image = img; words = s.words.words; heap = s.words.next }

-- the place of a procedure's first instruction
abbrev pub entry_place : ProcRef → Procedure → Place
entry_place r q = record { unit = r.module; procedure = r.proc; first = 262145; next = q.entry }

pub begun_at : (img : Image) (r : ProcRef) (q : Procedure) (old new : State) (turns : ℕ) → img.room ≡ room → procedure_of img r ≡ Some q → IsBegun old new q turns → start img r (machine.world_of (held img old) turns) ≡ at_place (entry_place r q) [] new []
begun_at img r q old new turns er at b =
    ap (λ o. begins o r (suc img.room.globals) (machine.world_of (held img old) turns)) at
    ∙ ap (λ k. begun r q (suc k.globals) (machine.world_of (held img old) turns)) er
    ∙ ap (λ h. Go r.module r.proc 262145 [] q.entry [] (record { words = h.words; stack = 262145 + (slots q.params + q.locals); heap = h.next; turns = turns; out = [] })) (sym b.words)
    ∙ ap (λ n. Go r.module r.proc 262145 [] q.entry [] (record { words = new.words.words; stack = n; heap = new.words.next; turns = turns; out = [] })) (sym b.stack)
    ∙ ap (λ n. Go r.module r.proc 262145 [] q.entry [] (record { words = new.words.words; stack = new.stack; heap = new.words.next; turns = n; out = [] })) (sym b.full)
    ∙ ap (λ o. Go r.module r.proc 262145 [] q.entry (reverse o) (world_of new [])) (sym b.empty)

came : (t : Bool) (b now : List ℕ) (img : Image) (r : ProcRef) (q : Procedure) (s0 s1 s2 : State) (turns : ℕ) (o : Outcome) (text : List ℕ) → img.room ≡ room → procedure_of img r ≡ Some q → IsBegun s0 s1 q turns → EndsAt img (at_place (entry_place r q) [] s1 []) (world_of s2 text) o → (t ≡ true → now ≡ b ++ text) → Came t b now (held img s0) (held img s2) r turns s2.turns o
came t b now img r q s0 s1 s2 turns o text er at begun e w = record {
  end = e.end;
  stack = s2.stack;
  text = text;
  comes = record { count = e.steps; is = ap (run img e.steps) (begun_at img r q s0 s1 turns er at begun) ∙ e.comes };
  is = e.is;
  written = w;
}

-- what a run by legs does, said of the machine
pub runs : (t : Bool) (b now : List ℕ) (img : Image) (r : ProcRef) (q : Procedure) (s0 s1 s2 : State) (new : Place) (last : List Act) (turns : ℕ) (o : Outcome) → img.room ≡ room → procedure_of img r ≡ Some q → IsBegun s0 s1 q turns → LegDoes t b now img (entry_place r q) new [] last s1 s2 (Some o) → Runs t b now (held img s0) (held img s2) r turns s2.turns o
runs t b now img r q s0 s1 s2 new last turns outcome.SinkFault er at begun d = record {
  front = λ told end w e.
      let more = (d.leg []).more e.count end w (ap (run img e.count) (sym (begun_at img r q s0 s1 turns er at begun)) ∙ e.is) in
      subst (AddsFront b now) (sym more.1) (front_more b now d.piece more.0 (d.wrote told));
}
runs t b now img r q s0 s1 s2 new last turns outcome.Done er at begun d = came t b now img r q s0 s1 s2 turns outcome.Done d.piece er at begun (d.leg []) d.wrote
runs t b now img r q s0 s1 s2 new last turns (outcome.Trap k z n p) er at begun d = came t b now img r q s0 s1 s2 turns (outcome.Trap k z n p) d.piece er at begun (d.leg []) d.wrote
runs t b now img r q s0 s1 s2 new last turns (outcome.TurnsSpent n p) er at begun d = came t b now img r q s0 s1 s2 turns (outcome.TurnsSpent n p) d.piece er at begun (d.leg []) d.wrote
runs t b now img r q s0 s1 s2 new last turns (outcome.Illegal n p) er at begun d = came t b now img r q s0 s1 s2 turns (outcome.Illegal n p) d.piece er at begun (d.leg []) d.wrote

pub runs_over : (t : Bool) (b now : List ℕ) (img : Image) (r : ProcRef) (q : Procedure) (s0 s1 s2 : State) (new : Place) (acts last : List Act) (turns next : ℕ) (o : Outcome) → img.room ≡ room → procedure_of img r ≡ Some q → IsBegun s0 s1 q turns → acts ≡ [] → next ≡ q.entry → LegDoes t b now img (record { unit = r.module; procedure = r.proc; first = 262145; next = next }) new acts last s1 s2 (Some o) → Runs t b now (held img s0) (held img s2) r turns s2.turns o
runs_over t b now img r q s0 s1 s2 new acts last turns next o er at begun none first d =
    let placed = subst (λ n. LegDoes t b now img (record { unit = r.module; procedure = r.proc; first = 262145; next = n }) new acts last s1 s2 (Some o)) first d in
    runs t b now img r q s0 s1 s2 new last turns o er at begun (subst (λ a. LegDoes t b now img (entry_place r q) new a last s1 s2 (Some o)) none placed)

-- a procedure without parameters has no copies
no_copies : (words : List ℤ) (params : List Param) (slot next : ℕ) → params ≡ [] → with_copies words params [] slot next ≡ words
no_copies words params slot next e = ap (λ p. with_copies words p [] slot next) e

pub entered_none : (words : List ℤ) (q : Procedure) → q.params ≡ [] → 262145 + q.locals ≤ length words + 1 → unwrap_or (cleared words (pos 262145) q.locals) words ≡ entered words 262145 q []
entered_none words q e le =
    cleared_as words 262145 q.locals (omega arith) le
    ∙ sym (no_copies (with_words words (pos 262145) (replicate q.locals (pos 0))) q.params 262145 (262145 + (slots q.params + q.locals)) e)

pub begins_so : (h new : Held) (q : Procedure) (n : ℕ) → n ≡ q.locals → q.params ≡ [] → 262145 + q.locals ≤ length h.words + 1 → new ≡ record h { words = unwrap_or (cleared h.words (pos 262145) n) h.words } → new ≡ record h { words = entered h.words 262145 q [] }
begins_so h new q n is_locals e le is = is ∙ ap (λ k. record h { words = unwrap_or (cleared h.words (pos 262145) k) h.words }) is_locals ∙ ap (λ l. record h { words = l }) (entered_none h.words q e le)

pub stack_so : (q : Procedure) (n : ℕ) → n ≡ q.locals → q.params ≡ [] → 262145 + n ≡ 262145 + (slots q.params + q.locals)
stack_so q n is_locals e = let none : 262145 + n ≡ 262145 + (0 + q.locals) = omega arith in none ∙ ap (λ p. 262145 + (slots p + q.locals)) (sym e)
