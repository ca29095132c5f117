-- What a call comes to.
use Rattle.std.proofs.Common.{◌≡◌, ℕ, suc, ◌+◌, true, false, List, [], ◌∷◌, length, Some, None, refl, ◌∙◌}
use Rattle.std.specs.Prelude.{ℤ, nat_le, nat_lt, ◌&&◌}
use Rattle.ob_trap.specs.declared.trap.Trap.TheVariants as trap
use Rattle.ob_tree.specs.declared.proc_ref.ProcRef.{ProcRef}
use Rattle.ob_instr.specs.declared.procedure.Procedure.{Procedure}
use Rattle.ob_instr.specs.Parts.{slots}
use Rattle.ob_instr.specs.Image.{ModuleImage, Image, World, Act}
use Rattle.ob_instr.specs.Rows.{Enter, copy_words, calls, procedure_of, entered}
use Rattle.ob_instr.specs.Table.{come_to, has_room}
use Rattle.ob_machine_image.specs.Room.{room}
use Rattle.ob_machine_operands.specs.declared.state.State.{State}
use Rattle.ob_machine_operands.specs.Effects.{world_of}
use Rattle.ob_machine_calls.specs.declared.calls.Place.{Place}
use Rattle.ob_machine_calls.specs.declared.calling.Called.TheVariants as called
use Rattle.ob_machine_calls.specs.Reached.{Comes}

pub call_enters : (img : Image) (u : ModuleImage) (m p fb : ℕ) (acts : List Act) (pc : ℕ) (w : World) (r : ProcRef) (q : Procedure) (args ops : List ℤ) (n t : ℕ) → procedure_of img r ≡ Some q → copy_words (length w.words) q.params args ≡ Some n → w.turns ≡ suc t → come_to img u m p fb acts pc w (calls img r args ops w) ≡ come_to img u m p fb acts pc w (Enter r q args n ops (record w { turns = t }))
call_enters img u m p fb acts pc w r q args ops n t e1 e2 e3 = rw (e1, e2, e3) refl

room_is : (img : Image) (need : ℕ) (acts : List Act) (w : World) → img.room ≡ room → has_room img.room need acts w ≡ (nat_le (w.stack + need) 1310721 && nat_lt (suc (length acts)) 4096)
room_is img need acts w e = rw e refl

pub has_no_room : (img : Image) (here : Place) (acts : List Act) (s s_new : State) (r : ProcRef) (q : Procedure) (args ops : List ℤ) (n t : ℕ) → img.room ≡ room → procedure_of img r ≡ Some q → copy_words (length s.words.words) q.params args ≡ Some n → s.turns ≡ suc t → (nat_le (s.stack + (slots q.params + q.locals + n)) 1310721 && nat_lt (suc (length acts)) 4096) ≡ false → s_new ≡ record s { turns = t } → Comes img (calls img r args ops) here here acts acts s s_new (called.Traps trap.StackFull)
has_no_room img here acts s s_new r q args ops n t er ep ec et eb es = λ u out.
    let v : World = record (world_of s out) { turns = t } in
    let test = room_is img (slots q.params + q.locals + n) acts v er ∙ eb in
    call_enters img u here.unit here.procedure here.first acts here.next (world_of s out) r q args ops n t ep ec et ∙ rw (test, es) refl

pub has_its_room : (img : Image) (here new : Place) (acts acts_new : List Act) (s s_new : State) (r : ProcRef) (q : Procedure) (args ops : List ℤ) (n t : ℕ) → img.room ≡ room → procedure_of img r ≡ Some q → copy_words (length s.words.words) q.params args ≡ Some n → s.turns ≡ suc t → (nat_le (s.stack + (slots q.params + q.locals + n)) 1310721 && nat_lt (suc (length acts)) 4096) ≡ true → new ≡ record { unit = r.module; procedure = r.proc; first = s.stack; next = q.entry } → acts_new ≡ record { m = here.unit; p = here.procedure; fb = here.first; pc = suc here.next; ops = ops } ∷ acts → s_new.operands.items ≡ [] → s_new.words ≡ record s.words { words = entered s.words.words s.stack q args } → s_new.stack ≡ s.stack + (slots q.params + q.locals + n) → s_new.turns ≡ t → Comes img (calls img r args ops) here new acts acts_new s s_new called.Goes
has_its_room img here new acts acts_new s s_new r q args ops n t er ep ec et eb en ea eo ew es ett = λ u out.
    let v : World = record (world_of s out) { turns = t } in
    let test = room_is img (slots q.params + q.locals + n) acts v er ∙ eb in
    call_enters img u here.unit here.procedure here.first acts here.next (world_of s out) r q args ops n t ep ec et ∙ rw (test, en, ea, eo, ew, es, ett) refl

pub has_no_copies : (img : Image) (here : Place) (acts : List Act) (s : State) (r : ProcRef) (q : Procedure) (args ops : List ℤ) → procedure_of img r ≡ Some q → copy_words (length s.words.words) q.params args ≡ None → Comes img (calls img r args ops) here here acts acts s s called.Unable
has_no_copies img here acts s r q args ops ep ec = λ u out. rw (ep, ec) refl
