-- What a call or a return keeps: the turns and the waiting calls become less, and the modules are there.
use Rattle.std.proofs.Common.{◌≡◌, ℕ, zero, suc, ◌+◌, ◌<◌, Bool, true, false, List, [], ◌∷◌, length, Option, Some, None, refl, sym, ap, subst, true≢false, ◌⊎◌, inl, inr, arith}
use Rattle.std.specs.Prelude.{ℤ, pos, negsuc, if◌then◌else◌, nat_le, slice_get}
use Rattle.std.specs.List.{AllByRecursion}
use Rattle.std.proofs.lemmas.Option.{slice_get_within, none-some}
use Rattle.ob_trap.specs.declared.trap.Trap.TheVariants as trap
use Rattle.ob_tree.specs.declared.proc_ref.ProcRef.{ProcRef}
use Rattle.ob_instr.specs.declared.opcode.Opcode.{Opcode}
use Rattle.ob_instr.specs.declared.opcode.Opcode.TheVariants as op
use Rattle.ob_instr.specs.declared.procedure.Procedure.{Procedure}
use Rattle.ob_instr.specs.Parts.{slots}
use Rattle.ob_instr.specs.Image.{ModuleImage, Image, World, Act, Point, Go, Over}
use Rattle.ob_instr.specs.Rows.{Effect, Next, Goto, Enter, Leave, Traps, Spends, Unable, on_found, on_count, on_args, on_one, on_receiver, on_tag, turn_or, item, below, is_zero, copy_words, calls, calls_with, procedures_of, procedure_of, proc_of_value, method_at, tag_method, pointer_method}
use Rattle.ob_instr.specs.Table.{row, come_to, has_room, left}
use Rattle.ob_mem.specs.Words.{word_at}
use Rattle.ob_machine_step.specs.Places.{is_call}
use Rattle.ob_machine_operands.specs.declared.state.State.{State}
use Rattle.ob_machine_operands.specs.Effects.{ops_of, world_of}
use Rattle.ob_machine_calls.specs.declared.calls.Place.{Place}
use Rattle.ob_machine_calls.specs.declared.calling.Called.TheVariants as called
use Rattle.ob_machine_calls.specs.Reached.{Comes}

module _ (img : Image) (w : World) where
  -- what a call or a return can do
  abbrev IsCall : Effect → Type 0
  IsCall (Next ops v) = ⊥
  IsCall (Goto at ops v) = ⊥
  IsCall (Enter r q args n ops v) = (r.module < length img.modules) × (v.turns + 1 ≡ w.turns)
  IsCall (Leave given v) = v ≡ w
  IsCall e = Unit {0}

  found : {A : Type 0} (o : Option A) (k : A → Effect) → ((x : A) → o ≡ Some x → IsCall (k x)) → IsCall (on_found o k)
  found None k h = tt
  found (Some x) k h = h x refl

  counted : (z : ℤ) (k : ℕ → Effect) → ((n : ℕ) → IsCall (k n)) → IsCall (on_count z k)
  counted (pos n) k h = h n
  counted (negsuc n) k h = tt

  either : (b : Bool) (d e : Effect) → IsCall d → IsCall e → IsCall (if b then d else e)
  either true d e hd he = hd
  either false d e hd he = he

  args_of : (n : ℕ) (ops : List ℤ) (k : List ℤ → List ℤ → Effect) → ((args rest : List ℤ) → IsCall (k args rest)) → IsCall (on_args n ops k)
  args_of n ops k h = either (nat_le n (length ops)) _ Unable (h _ _) tt

  one : (ops : List ℤ) (k : ℤ → List ℤ → Effect) → ((x : ℤ) (rest : List ℤ) → IsCall (k x rest)) → IsCall (on_one ops k)
  one [] k h = tt
  one (x ∷ ops) k h = h x ops

  receiver : (args : List ℤ) (k : ℤ → Effect) → ((x : ℤ) → IsCall (k x)) → IsCall (on_receiver args k)
  receiver [] k h = tt
  receiver (x ∷ args) k h = h x

  tag_of : (args : List ℤ) (k : ℤ → Effect) → ((x : ℤ) → IsCall (k x)) → IsCall (on_tag args k)
  tag_of [] k h = tt
  tag_of (x ∷ []) k h = tt
  tag_of (x ∷ g ∷ args) k h = h g

  turned : (n : ℕ) (k : World → Effect) → ((m : ℕ) → n ≡ suc m → IsCall (k (record w { turns = m }))) → IsCall (turn_or n w k)
  turned zero k h = tt
  turned (suc m) k h = h m refl

  module_there : (o : Option ModuleImage) (p : ℕ) (q : Procedure) → slice_get (procedures_of o) p ≡ Some q → (m : ℕ) → o ≡ slice_get img.modules m → m < length img.modules
  module_there None p q e m eo = absurd (none-some q e)
  module_there (Some u) p q e m eo = slice_get_within img.modules m u (sym eo)

  called_by : (r : ProcRef) (args ops : List ℤ) → IsCall (calls img r args ops w)
  called_by r args ops = found (procedure_of img r) _ (λ q eq. found (copy_words (length w.words) q.params args) _ (λ n en. turned w.turns (λ v. Enter r q args n ops v) (λ m em. (module_there (slice_get img.modules r.module) r.proc q eq r.module refl, omega (arith, em)))))

  called_with : (r : ProcRef) (ops : List ℤ) → IsCall (calls_with img r ops w)
  called_with r ops = found (procedure_of img r) _ (λ q eq. args_of (slots q.params) ops _ (λ args rest. called_by r args rest))

  by_pointer : (x a : ℤ) (k : ProcRef → Effect) → ((r : ProcRef) → IsCall (k r)) → IsCall (pointer_method img w x a k)
  by_pointer x a k h = found (word_at w.words _) _ (λ g eg. found (tag_method img g a) k (λ r er. h r))

  calls_row : (u : ModuleImage) (m p fb pc : ℕ) (o : Opcode) (a b : ℤ) (ops : List ℤ) → is_call o ≡ true → IsCall (row img u m p fb pc o a b ops w)
  calls_row u m p fb pc op.Call a b ops e = found (below (length u.procedures) a) _ (λ q eq. called_with _ ops)
  calls_row u m p fb pc op.CallX a b ops e = found (item u.procedure_links a) _ (λ r er. called_with r ops)
  calls_row u m p fb pc op.CallV a b ops e = counted a _ (λ n. args_of n ops _ (λ args rest. one rest _ (λ v below. either (is_zero v) (Traps trap.Nil (pos 0) w) _ tt (found (proc_of_value v) _ (λ r er. called_by r args below)))))
  calls_row u m p fb pc op.CallP a b ops e = counted b _ (λ n. args_of (suc n) ops _ (λ args rest. receiver args _ (λ x. either (is_zero x) (Traps trap.Nil (pos 0) w) _ tt (by_pointer x a _ (λ r. called_by r args rest)))))
  calls_row u m p fb pc op.CallR a b ops e = counted b _ (λ n. args_of (suc (suc n)) ops _ (λ args rest. tag_of args _ (λ g. found (tag_method img g a) _ (λ r er. called_by r args rest))))
  calls_row u m p fb pc op.CallS a b ops e = found (item u.types a) _ (λ t et. found (method_at (slice_get img.types t) b) _ (λ r er. called_with r ops))
  calls_row u m p fb pc op.Ret a b ops e = found (slice_get u.procedures p) _ (λ q eq. either q.has_result Unable (Leave [] w) tt refl)
  calls_row u m p fb pc op.RetV a b ops e = found (slice_get u.procedures p) _ (λ q eq. one ops _ (λ v rest. either q.has_result (Leave (v ∷ []) w) Unable refl tt))
  calls_row u m p fb pc op.Int a b ops e = absurd (true≢false (sym e))
  calls_row u m p fb pc op.Local a b ops e = absurd (true≢false (sym e))
  calls_row u m p fb pc op.Global a b ops e = absurd (true≢false (sym e))
  calls_row u m p fb pc op.ExtVar a b ops e = absurd (true≢false (sym e))
  calls_row u m p fb pc op.Load a b ops e = absurd (true≢false (sym e))
  calls_row u m p fb pc op.Store a b ops e = absurd (true≢false (sym e))
  calls_row u m p fb pc op.Copy a b ops e = absurd (true≢false (sym e))
  calls_row u m p fb pc op.CopyRec a b ops e = absurd (true≢false (sym e))
  calls_row u m p fb pc op.Offset a b ops e = absurd (true≢false (sym e))
  calls_row u m p fb pc op.Index a b ops e = absurd (true≢false (sym e))
  calls_row u m p fb pc op.IndexO a b ops e = absurd (true≢false (sym e))
  calls_row u m p fb pc op.Deref a b ops e = absurd (true≢false (sym e))
  calls_row u m p fb pc op.Tagged a b ops e = absurd (true≢false (sym e))
  calls_row u m p fb pc op.Lenned a b ops e = absurd (true≢false (sym e))
  calls_row u m p fb pc op.Tag a b ops e = absurd (true≢false (sym e))
  calls_row u m p fb pc op.IsP a b ops e = absurd (true≢false (sym e))
  calls_row u m p fb pc op.IsR a b ops e = absurd (true≢false (sym e))
  calls_row u m p fb pc op.GuardAt a b ops e = absurd (true≢false (sym e))
  calls_row u m p fb pc op.GuardR a b ops e = absurd (true≢false (sym e))
  calls_row u m p fb pc op.Drop a b ops e = absurd (true≢false (sym e))
  calls_row u m p fb pc op.Add a b ops e = absurd (true≢false (sym e))
  calls_row u m p fb pc op.Sub a b ops e = absurd (true≢false (sym e))
  calls_row u m p fb pc op.Mul a b ops e = absurd (true≢false (sym e))
  calls_row u m p fb pc op.Div a b ops e = absurd (true≢false (sym e))
  calls_row u m p fb pc op.Mod a b ops e = absurd (true≢false (sym e))
  calls_row u m p fb pc op.Neg a b ops e = absurd (true≢false (sym e))
  calls_row u m p fb pc op.Abs a b ops e = absurd (true≢false (sym e))
  calls_row u m p fb pc op.Eq a b ops e = absurd (true≢false (sym e))
  calls_row u m p fb pc op.Ne a b ops e = absurd (true≢false (sym e))
  calls_row u m p fb pc op.Lt a b ops e = absurd (true≢false (sym e))
  calls_row u m p fb pc op.Le a b ops e = absurd (true≢false (sym e))
  calls_row u m p fb pc op.Gt a b ops e = absurd (true≢false (sym e))
  calls_row u m p fb pc op.Ge a b ops e = absurd (true≢false (sym e))
  calls_row u m p fb pc op.Not a b ops e = absurd (true≢false (sym e))
  calls_row u m p fb pc op.Union a b ops e = absurd (true≢false (sym e))
  calls_row u m p fb pc op.Minus a b ops e = absurd (true≢false (sym e))
  calls_row u m p fb pc op.Meet a b ops e = absurd (true≢false (sym e))
  calls_row u m p fb pc op.Xor a b ops e = absurd (true≢false (sym e))
  calls_row u m p fb pc op.Compl a b ops e = absurd (true≢false (sym e))
  calls_row u m p fb pc op.Bit a b ops e = absurd (true≢false (sym e))
  calls_row u m p fb pc op.Bits a b ops e = absurd (true≢false (sym e))
  calls_row u m p fb pc op.In a b ops e = absurd (true≢false (sym e))
  calls_row u m p fb pc op.Incl a b ops e = absurd (true≢false (sym e))
  calls_row u m p fb pc op.Excl a b ops e = absurd (true≢false (sym e))
  calls_row u m p fb pc op.Range a b ops e = absurd (true≢false (sym e))
  calls_row u m p fb pc op.Chr a b ops e = absurd (true≢false (sym e))
  calls_row u m p fb pc op.Odd a b ops e = absurd (true≢false (sym e))
  calls_row u m p fb pc op.Cap a b ops e = absurd (true≢false (sym e))
  calls_row u m p fb pc op.Ash a b ops e = absurd (true≢false (sym e))
  calls_row u m p fb pc op.Inc a b ops e = absurd (true≢false (sym e))
  calls_row u m p fb pc op.Dec a b ops e = absurd (true≢false (sym e))
  calls_row u m p fb pc op.StrRel a b ops e = absurd (true≢false (sym e))
  calls_row u m p fb pc op.StrCopy a b ops e = absurd (true≢false (sym e))
  calls_row u m p fb pc op.Jump a b ops e = absurd (true≢false (sym e))
  calls_row u m p fb pc op.JumpF a b ops e = absurd (true≢false (sym e))
  calls_row u m p fb pc op.Trap a b ops e = absurd (true≢false (sym e))
  calls_row u m p fb pc op.Assert a b ops e = absurd (true≢false (sym e))
  calls_row u m p fb pc op.NewR a b ops e = absurd (true≢false (sym e))
  calls_row u m p fb pc op.NewA a b ops e = absurd (true≢false (sym e))
  calls_row u m p fb pc op.NewO a b ops e = absurd (true≢false (sym e))
  calls_row u m p fb pc op.Proc a b ops e = absurd (true≢false (sym e))
  calls_row u m p fb pc op.ProcX a b ops e = absurd (true≢false (sym e))
  calls_row u m p fb pc op.Out a b ops e = absurd (true≢false (sym e))

-- WHERE IT GOES

-- of a point where the machine goes on: the module, the calls that wait and the turns
abbrev m_of : Point → ℕ
m_of (Go m p fb acts pc ops w) = m
m_of (Over end w) = 0

abbrev acts_of : Point → List Act
acts_of (Go m p fb acts pc ops w) = acts
acts_of (Over end w) = []

abbrev turns_of : Point → ℕ
turns_of (Go m p fb acts pc ops w) = w.turns
turns_of (Over end w) = w.turns

abbrev goes_on : Point → Bool
goes_on (Go m p fb acts pc ops w) = true
goes_on (Over end w) = false

-- what is less then
abbrev IsLess : Image → ℕ → List Act → ℕ → Point → Type 0
IsLess img m acts turns x = ((turns_of x + 1 ≡ turns) ⊎ ((turns_of x ≡ turns) × (length (acts_of x) < length acts))) × ((n : ℕ) → n ≡ length img.modules → m < n → AllByRecursion (λ a. a.m < n) acts → (m_of x < n) × AllByRecursion (λ a. a.m < n) (acts_of x))

entering : (img : Image) (u : ModuleImage) (m p fb : ℕ) (acts : List Act) (pc : ℕ) (w : World) (r : ProcRef) (q : Procedure) (args : List ℤ) (n : ℕ) (ops : List ℤ) (v : World) (b : Bool) → r.module < length img.modules → v.turns + 1 ≡ w.turns → has_room img.room (slots q.params + q.locals + n) acts v ≡ b → goes_on (come_to img u m p fb acts pc w (Enter r q args n ops v)) ≡ true → IsLess img m acts w.turns (come_to img u m p fb acts pc w (Enter r q args n ops v))
entering img u m p fb acts pc w r q args n ops v true lt et eb g = rw eb (inl et, λ k ek lm all. (omega (arith, lt, ek), (lm, all)))
entering img u m p fb acts pc w r q args n ops v false lt et eb g = absurd (true≢false (sym (rw eb at g)))

leaving : (img : Image) (fb m : ℕ) (acts : List Act) (given : List ℤ) (w : World) → goes_on (left fb acts given w) ≡ true → IsLess img m acts w.turns (left fb acts given w)
leaving img fb m [] given w g = absurd (true≢false (sym g))
leaving img fb m (a ∷ acts) given w g = (inr (refl, omega arith), λ k ek lm all. (all.0, all.1))

coming : (img : Image) (u : ModuleImage) (m p fb : ℕ) (acts : List Act) (pc : ℕ) (w : World) (e : Effect) → IsCall img w e → goes_on (come_to img u m p fb acts pc w e) ≡ true → IsLess img m acts w.turns (come_to img u m p fb acts pc w e)
coming img u m p fb acts pc w (Next ops v) h g = absurd h
coming img u m p fb acts pc w (Goto at ops v) h g = absurd h
coming img u m p fb acts pc w (Enter r q args n ops v) h g = entering img u m p fb acts pc w r q args n ops v (has_room img.room (slots q.params + q.locals + n) acts v) h.0 h.1 refl g
coming img u m p fb acts pc w (Leave given v) h g = subst (λ x. IsLess img m acts x.turns (left fb acts given v)) h (leaving img fb m acts given v g)
coming img u m p fb acts pc w (Traps kind number v) h g = absurd (true≢false (sym g))
coming img u m p fb acts pc w (Spends v) h g = absurd (true≢false (sym g))
coming img u m p fb acts pc w Unable h g = absurd (true≢false (sym g))

pub less : (img : Image) (u : ModuleImage) (here new : Place) (acts acts_new : List Act) (s s_new : State) (o : Opcode) (a b : ℤ) → is_call o ≡ true → Comes img (row img u here.unit here.procedure here.first here.next o a b (ops_of s)) here new acts acts_new s s_new called.Goes → ((s_new.turns + 1 ≡ s.turns) ⊎ ((s_new.turns ≡ s.turns) × (length acts_new < length acts))) × ((n : ℕ) → n ≡ length img.modules → here.unit < n → AllByRecursion (λ a. a.m < n) acts → (new.unit < n) × AllByRecursion (λ a. a.m < n) acts_new)
less img u here new acts acts_new s s_new o a b e c =
    let w = world_of s [] in
    let r = row img u here.unit here.procedure here.first here.next o a b (ops_of s) w in
    let at = c u [] in
    subst (IsLess img here.unit acts s.turns) at (coming img u here.unit here.procedure here.first acts here.next w r (calls_row img w u here.unit here.procedure here.first here.next o a b (ops_of s) e) (ap goes_on at))
