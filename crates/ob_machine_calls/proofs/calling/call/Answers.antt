use Rattle.std.proofs.Common.{◌≡◌, ◌+◌, ◌-◌, true, false, suc, ◌∷◌, length, take, drop, Some, refl, ap, sym, ◌∙◌, arith}
use Rattle.std.proofs.lemmas.List.{length-drop}
use Rattle.std.specs.Prelude.{reverse, nat_le, nat_lt, ◌&&◌}
use Rattle.ob_instr.specs.Parts.{slots}
use Rattle.ob_instr.specs.Rows.{copy_words, entered}
use Rattle.ob_machine_operands.specs.declared.state.State.{State}
use Rattle.ob_machine_calls.specs.declared.calls.Place.{Place}
use Rattle.ob_machine_calls.proofs.Comings.{has_no_room, has_its_room}
use Rattle.ob_machine_calls.proofs.calling.call.Goals as goal

pub returns-then-not-has_room-clause-comes : goal.returns-then-not-has_room-clause-comes
returns-then-not-has_room-clause-comes c =
    let s = c.args.state.now in
    let q = c.args.q.now in
    let args = drop c.args.from s.operands.items in
    let n = c.in-Some.copies in
    let et : s.turns ≡ suc (s.turns - 1) = omega (arith, c.if-state-eq0.false) in
    let ea : c.behind-args.result.now ≡ args = c.behind-args.ensures ∙ ap (drop c.args.from) c.deref.ensures.value in
    let ec : copy_words (length s.words.words) q.params args ≡ Some n = ap (copy_words (length s.words.words) q.params) (sym ea) ∙ sym c.in-Some.ensures.count in
    let need : length c.behind-args.result.now + c.from.result + n ≡ slots q.params + q.locals + n = omega (arith, c.from.ensures, c.requires.from, ap length ea, length-drop c.args.from s.operands.items, s.operands.ok.0) in
    let eb : (nat_le (s.stack + (slots q.params + q.locals + n)) 1310721 && nat_lt (suc (length c.args.waiting.now)) 4096) ≡ false = ap (λ k. nat_le (s.stack + k) 1310721 && nat_lt (suc (length c.args.waiting.now)) 4096) (sym need) ∙ ap (λ k. nat_le (s.stack + (length c.behind-args.result.now + c.from.result + n)) 1310721 && nat_lt (suc k) 4096) (sym c.len.ensures.len) ∙ sym c.has_room.ensures ∙ c.if-not-has_room.true in
    has_no_room c.args.image.now c.args.here.now c.args.waiting.now s _ c.args.r q args (reverse (take c.args.below s.operands.items)) n (s.turns - 1) c.count.ensures.room c.requires.found ec et eb refl

pub returns-clause-comes : goal.returns-clause-comes
returns-clause-comes c =
    let s = c.args.state.now in
    let q = c.args.q.now in
    let args = drop c.args.from s.operands.items in
    let n = c.in-Some.copies in
    let et : s.turns ≡ suc (s.turns - 1) = omega (arith, c.if-state-eq0.false) in
    let ea : c.behind-args.result.now ≡ args = c.behind-args.ensures ∙ ap (drop c.args.from) c.deref.ensures.value in
    let ec : copy_words (length s.words.words) q.params args ≡ Some n = ap (copy_words (length s.words.words) q.params) (sym ea) ∙ sym c.in-Some.ensures.count in
    let need : length c.behind-args.result.now + c.from.result + n ≡ slots q.params + q.locals + n = omega (arith, c.from.ensures, c.requires.from, ap length ea, length-drop c.args.from s.operands.items, s.operands.ok.0) in
    let here = c.args.here.now in
    let ops = reverse (take c.args.below s.operands.items) in
    let eb : (nat_le (s.stack + (slots q.params + q.locals + n)) 1310721 && nat_lt (suc (length c.args.waiting.now)) 4096) ≡ true = ap (λ k. nat_le (s.stack + k) 1310721 && nat_lt (suc (length c.args.waiting.now)) 4096) (sym need) ∙ ap (λ k. nat_le (s.stack + (length c.behind-args.result.now + c.from.result + n)) 1310721 && nat_lt (suc k) 4096) (sym c.len.ensures.len) ∙ sym c.has_room.ensures ∙ c.if-not-has_room.false in
    let next : here.next + 1 ≡ suc here.next = omega arith in
    let waits : c.push.new.self ≡ record { m = here.unit; p = here.procedure; fb = here.first; pc = suc here.next; ops = ops } ∷ c.args.waiting.now = c.push.ensures.calls ∙ ap (λ k. record { m = here.unit; p = here.procedure; fb = here.first; pc = k; ops = reverse c.truncate.new.self.items } ∷ c.args.waiting.now) next ∙ ap (λ l. record { m = here.unit; p = here.procedure; fb = here.first; pc = suc here.next; ops = reverse l } ∷ c.args.waiting.now) c.truncate.ensures.items in
    let words : c.enter_call.new.words ≡ record s.words { words = entered s.words.words s.stack q args } = c.enter_call.ensures ∙ ap (λ l. record s.words { words = entered s.words.words s.stack q (drop c.args.from l) }) c.deref-2.ensures.value in
    let stack : s.stack + (length c.behind-args.result.now + c.from.result + n) ≡ s.stack + (slots q.params + q.locals + n) = omega arith in
    let after : State = record { words = c.enter_call.new.words; stack = s.stack + (length c.behind-args.result.now + c.from.result + n); operands = c.push.new.operands; turns = s.turns - 1 } in
    let place : Place = record { unit = c.args.r.module; procedure = c.args.r.proc; first = s.stack; next = c.entry-here.result } in
    has_its_room c.args.image.now here place c.args.waiting.now c.push.new.self s after c.args.r q args ops n (s.turns - 1) c.count.ensures.room c.requires.found ec et eb (ap (λ k. record { unit = c.args.r.module; procedure = c.args.r.proc; first = s.stack; next = k }) c.entry-here.ensures) waits c.push.ensures.operands words stack refl
