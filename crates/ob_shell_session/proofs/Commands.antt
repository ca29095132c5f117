-- What a command's line comes to, by what the load and the report did.
use Rattle.std.proofs.Common.{◌≡◌, ℕ, List, ◌++◌, Bool, true, false, refl, sym, ap, ◌∙◌, subst, append_assoc, Result, Ok, Err}
use Rattle.std.proofs.lemmas.Bool.{false≢true}
use Rattle.ob_io.specs.Io.{AddsFront}
use Rattle.ob_io.specs.Fronts.{front_later, front_more}
use Rattle.ob_tree.specs.declared.print.Print.{Print}
use Rattle.ob_obj.specs.declared.file.ObjFile.{ObjFile}
use Rattle.ob_machine.specs.declared.outcome.Outcome.{Outcome}
use Rattle.ob_machine.specs.declared.outcome.Outcome.TheVariants as outcome
use Rattle.ob_link.specs.Plan as load
use Rattle.ob_link.specs.Plan.{Refusal}
use Rattle.ob_link.specs.Files.{Files, file_plan, planned, answered}
use Rattle.ob_link.specs.declared.fault.LoadRefusal.{LoadRefusal}
use Rattle.ob_link.specs.declared.fault.LoadFault.TheVariants as fault
use Rattle.ob_load.specs.Command.{Ran, ran}
use Rattle.ob_load.specs.Contract.{Standing, Came, RunDoes, Answers}
use Rattle.ob_shell_reports.specs.declared.stop.Stop.{Stop}
use Rattle.ob_shell_reports.specs.declared.stop.Stop.TheVariants.{Sink, Folder, Memory}
use Rattle.ob_shell_reports.specs.Texts.{report, stops, load_refused, load_answered}
use Rattle.ob_shell_reports.specs.Prints.{PrintDoes}
use Rattle.ob_shell_session.specs.Running.{is_cut}
use Rattle.ob_words.specs.declared.asked.Settings.{Settings}
use Rattle.ob_shell_model.specs.Bytes.{World, denied, ran_answer, load_answer, command_answer}
use Rattle.ob_shell_session.proofs.Said.{printed, said_one}
use Rattle.ob_shell_session.specs.Does.{Shows, OneDoes, IsOne}

came_line : (told : Bool) (w : World) (r : Ran) (before mid now : List ℕ) (files files2 : Files) (new : Standing) (o : Outcome) (result : Result Bool Stop) → told ≡ true → files ≡ w.files → files2 ≡ files → Came told before mid new r o → PrintDoes told mid now (report o) (stops o) result → OneDoes before now files files2 new (ran_answer w r) result
came_line told w r before mid now files files2 new o (Ok b) t f g c p = (
  p.0 t ∙ ap (λ x. x ++ report o) (c.written t) ∙ append_assoc before r.text (report o) ∙ ap (λ x. before ++ (r.text ++ report x)) c.is,
  record { stands = c.system.stands; words = c.system.words; heap = c.system.heap; files = g ∙ f },
  p.1 ∙ ap stops c.is,
)
came_line told w r before mid now files files2 new o (Err Sink) t f g c p = (
  subst (λ x. AddsFront before now (r.text ++ report x)) c.is (front_later before mid now r.text (report o) (c.written t) (p t)),
  g,
)
came_line told w r before mid now files files2 new o (Err Folder) t f g c p = absurd p
came_line told w r before mid now files files2 new o (Err Memory) t f g c p = absurd p

run_line : (told : Bool) (w : World) (r : Ran) (before mid now : List ℕ) (files files2 : Files) (new : Standing) (o : Outcome) (result : Result Bool Stop) → told ≡ true → files ≡ w.files → files2 ≡ files → (o ≡ outcome.SinkFault → ⊥) → RunDoes told before mid new r o → PrintDoes told mid now (report o) (stops o) result → OneDoes before now files files2 new (ran_answer w r) result
run_line told w r before mid now files files2 new outcome.SinkFault result t f g n c p = absurd (n refl)
run_line told w r before mid now files files2 new outcome.Done result t f g n c p = came_line told w r before mid now files files2 new outcome.Done result t f g c p
run_line told w r before mid now files files2 new (outcome.Trap a b d e) result t f g n c p = came_line told w r before mid now files files2 new (outcome.Trap a b d e) result t f g c p
run_line told w r before mid now files files2 new (outcome.TurnsSpent a b) result t f g n c p = came_line told w r before mid now files files2 new (outcome.TurnsSpent a b) result t f g c p
run_line told w r before mid now files files2 new (outcome.Illegal a b) result t f g n c p = came_line told w r before mid now files files2 new (outcome.Illegal a b) result t f g c p

load_line : (told : Bool) (s : Settings) (w : World) (m name : List ℕ) (q : Result (List ObjFile) (Refusal Print)) (before mid now : List ℕ) (files files2 : Files) (old new : Standing) (o : Outcome) (result : Result Bool Stop) → told ≡ true → old.machine.words ≡ w.words → old.machine.heap ≡ w.heap → files ≡ w.files → files2 ≡ files → (o ≡ outcome.SinkFault → ⊥) → Answers told before mid old new w.loaded m name s.turns q (Ok o) → PrintDoes told mid now (report o) (stops o) result → OneDoes before now files files2 new (load_answer s w m name q) result
load_line told s w m name (Err e) before mid now files files2 old new o result t a h f g n c p = absurd c
load_line told s w m name (Ok fs) before mid now files files2 old new o result t a h f g n c p =
    run_line told w (ran w.loaded w.words w.heap (planned w.loaded m name fs) s.turns) before mid now files files2 new o result t f g n
    (subst (λ x. RunDoes told before mid new (ran w.loaded x w.heap (planned w.loaded m name fs) s.turns) o) a (subst (λ x. RunDoes told before mid new (ran w.loaded old.machine.words x (planned w.loaded m name fs) s.turns) o) h c)) p

-- the load came to its end, and its report was printed
pub came_on : (told : Bool) (s : Settings) (w : World) (m name before mid now : List ℕ) (files files2 : Files) (old new : Standing) (o : Outcome) (result : Result Bool Stop) → told ≡ true → Shows old files w → files2 ≡ files → is_cut o ≡ false → Answers told before mid old new w.loaded m name s.turns (file_plan files w.loaded m name) (Ok o) → PrintDoes told mid now (report o) (stops o) result → OneDoes before now files files2 new (command_answer s w m name) result
came_on told s w m name before mid now files files2 old new o result t h g n c p =
    load_line told s w m name (file_plan w.files w.loaded m name) before mid now files files2 old new o result t h.words h.heap h.files g (λ e. false≢true (sym n ∙ ap is_cut e))
    (subst (λ x. Answers told before mid old new w.loaded m name s.turns (file_plan x w.loaded m name) (Ok o)) h.files c) p

-- the sink cut the run short
cut_line : (told : Bool) (s : Settings) (w : World) (m name : List ℕ) (q : Result (List ObjFile) (Refusal Print)) (before now : List ℕ) (files files2 : Files) (old new : Standing) (o : Outcome) → told ≡ true → old.machine.words ≡ w.words → old.machine.heap ≡ w.heap → files2 ≡ files → is_cut o ≡ true → Answers told before now old new w.loaded m name s.turns q (Ok o) → OneDoes before now files files2 new (load_answer s w m name q) (Err Sink)
cut_line told s w m name (Err e) before now files files2 old new o t a h g n c = absurd c
cut_line told s w m name (Ok fs) before now files files2 old new outcome.SinkFault t a h g n c =
    let r = ran w.loaded w.words w.heap (planned w.loaded m name fs) s.turns in
    let d = subst (λ x. RunDoes told before now new (ran w.loaded x w.heap (planned w.loaded m name fs) s.turns) outcome.SinkFault) a (subst (λ x. RunDoes told before now new (ran w.loaded old.machine.words x (planned w.loaded m name fs) s.turns) outcome.SinkFault) h c) in
    (front_more before now r.text (report r.outcome) (d t), g)
cut_line told s w m name (Ok fs) before now files files2 old new outcome.Done t a h g n c = absurd (false≢true n)
cut_line told s w m name (Ok fs) before now files files2 old new (outcome.Trap x y z u) t a h g n c = absurd (false≢true n)
cut_line told s w m name (Ok fs) before now files files2 old new (outcome.TurnsSpent x y) t a h g n c = absurd (false≢true n)
cut_line told s w m name (Ok fs) before now files files2 old new (outcome.Illegal x y) t a h g n c = absurd (false≢true n)

pub came_cut : (told : Bool) (s : Settings) (w : World) (m name before now : List ℕ) (files files2 : Files) (old new : Standing) (o : Outcome) → told ≡ true → Shows old files w → files2 ≡ files → is_cut o ≡ true → Answers told before now old new w.loaded m name s.turns (file_plan files w.loaded m name) (Ok o) → OneDoes before now files files2 new (command_answer s w m name) (Err Sink)
came_cut told s w m name before now files files2 old new o t h g n c =
    cut_line told s w m name (file_plan w.files w.loaded m name) before now files files2 old new o t h.words h.heap g n
    (subst (λ x. Answers told before now old new w.loaded m name s.turns (file_plan x w.loaded m name) (Ok o)) h.files c)

load_one : (s : Settings) (w : World) (m name : List ℕ) (r : Result (List ObjFile) (Refusal Print)) → IsOne (load_answer s w m name r)
load_one s w m name (Ok files) = refl
load_one s w m name (Err r) = refl

-- the answer to a command has one part
pub command_one : (s : Settings) (w : World) (m name : List ℕ) → IsOne (command_answer s w m name)
command_one s w m name = load_one s w m name (file_plan w.files w.loaded m name)

-- THE LOAD IS REFUSED

refused_text : (name : List ℕ) (r : Refusal Print) → load_refused name r ≡ load_answered name (answered r)
refused_text name (load.NoObject m) = refl
refused_text name (load.Damaged m) = refl
refused_text name (load.Absent client object) = refl
refused_text name (load.Changed client object aspect wanted found) = refl
refused_text name (load.Cycle m) = refl
refused_text name (load.NoRoom used asked) = refl
refused_text name (load.TooMany count) = refl
refused_text name (load.NoCommand m command) = refl
refused_text name (load.Long m) = refl

refused_line : (told : Bool) (s : Settings) (w : World) (m name : List ℕ) (q : Result (List ObjFile) (Refusal Print)) (before mid now : List ℕ) (files files2 : Files) (old new : Standing) (why : LoadRefusal) (result : Result Bool Stop) → told ≡ true → Shows new files w → files2 ≡ files → mid ≡ before → Answers told before mid old new w.loaded m name s.turns q (Err (fault.Refused why)) → PrintDoes told mid now (load_answered m why) true result → OneDoes before now files files2 new (load_answer s w m name q) result
refused_line told s w m name (Ok fs) before mid now files files2 old new why result t h g e a p = absurd a
refused_line told s w m name (Err r) before mid now files files2 old new why result t h g e a p =
    said_one told w (denied (load_refused m r)) before now files files2 new result t h g
    (printed told before now (denied (load_refused m r)) result (subst (λ x. PrintDoes told x now (load_refused m r) true result) e (subst (λ x. PrintDoes told mid now x true result) (ap (load_answered m) a ∙ sym (refused_text m r)) p)))

pub came_refused : (told : Bool) (s : Settings) (w : World) (m name before mid now : List ℕ) (files files2 : Files) (old new : Standing) (why : LoadRefusal) (result : Result Bool Stop) → told ≡ true → Shows old files w → new ≡ old → files2 ≡ files → mid ≡ before → Answers told before mid old new w.loaded m name s.turns (file_plan files w.loaded m name) (Err (fault.Refused why)) → PrintDoes told mid now (load_answered m why) true result → OneDoes before now files files2 new (command_answer s w m name) result
came_refused told s w m name before mid now files files2 old new why result t h same g e a p =
    refused_line told s w m name (file_plan w.files w.loaded m name) before mid now files files2 old new why result t (subst (λ x. Shows x files w) (sym same) h) g e
    (subst (λ x. Answers told before mid old new w.loaded m name s.turns (file_plan x w.loaded m name) (Err (fault.Refused why))) h.files a) p
