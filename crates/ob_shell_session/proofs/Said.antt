-- What a line does, by what it says and by what it does to the files.
use Rattle.std.proofs.Common.{◌≡◌, ℕ, zero, suc, List, [], ◌∷◌, ◌++◌, take, Bool, true, refl, sym, ap, ◌∙◌, subst, append_assoc, Result, Ok, Err, Some, None}
use Rattle.ob_tree.specs.declared.print.Print.{Print}
use Rattle.ob_link.specs.Files.{Files}
use Rattle.ob_load.specs.Standing.{Standing}
use Rattle.ob_cmp.specs.Check.{Checked, check_text, is_refused}
use Rattle.ob_compile_model.specs.Compiling as compile
use Rattle.ob_compile_model.specs.Compiling.{Compiled}
use Rattle.ob_shell_reports.specs.declared.stop.Stop.{Stop}
use Rattle.ob_shell_reports.specs.declared.stop.Stop.TheVariants.{Sink, Folder, Memory}
use Rattle.ob_shell_reports.specs.Prints.{PrintDoes}
use Rattle.ob_shell_model.specs.Folds.{Part, Answer, made_by}
use Rattle.ob_shell_model.specs.Bytes.{World, Change, Said, Making, changed, says, check_said, compile_answer, demo_answer}
use Rattle.ob_words.specs.declared.asked.Settings.{Settings}
use Rattle.ob_shell_model.specs.Session.{first_part, part_at}
use Rattle.ob_shell_session.specs.Does.{Shows, LineDoes, OneDoes, IsOne, SaidDoes, AnswerDo, TextDoes}
use Rattle.ob_shell_session.proofs.Parts.{one_line}

-- a text that was printed
pub printed : (told : Bool) (before now : List ℕ) (s : Said) (result : Result Bool Stop) → PrintDoes told before now s.text s.refused result → SaidDoes told before now s result
printed told before now s (Ok r) p = p
printed told before now s (Err Sink) p = p
printed told before now s (Err Folder) p = absurd p
printed told before now s (Err Memory) p = absurd p

pub said_one : (told : Bool) (w : World) (s : Said) (before now : List ℕ) (files files2 : Files) (system : Standing) (result : Result Bool Stop) → told ≡ true → Shows system files w → files2 ≡ files → SaidDoes told before now s result → OneDoes before now files files2 system (says w s) result
said_one told w s before now files files2 system (Ok r) t h e d = (d.0 t, record { stands = h.stands; words = h.words; heap = h.heap; files = e ∙ h.files }, d.1)
said_one told w s before now files files2 system (Err Sink) t h e d = (d t, e)
said_one told w s before now files files2 system (Err Folder) t h e d = (d t, (0, e))
said_one told w s before now files files2 system (Err Memory) t h e d = (d t, e)

pub said_line : (told : Bool) (w : World) (s : Said) (before now : List ℕ) (files files2 : Files) (system : Standing) (result : Result Bool Stop) → told ≡ true → Shows system files w → files2 ≡ files → SaidDoes told before now s result → LineDoes before now files files2 system (says w s) result
said_line told w s before now files files2 system result t h e d = one_line (says w s) before now files files2 system result refl (said_one told w s before now files files2 system result t h e d)

pub said_files : (told : Bool) (w : World) (s : Said) (before now : List ℕ) (files files2 : Files) (result : Result Bool Stop) → told ≡ true → files2 ≡ files → SaidDoes told before now s result → AnswerDo before now files files2 (says w s) result
said_files told w s before now files files2 (Ok r) t e d = (d.0 t, e, d.1)
said_files told w s before now files files2 (Err Sink) t e d = (d t, e)
said_files told w s before now files files2 (Err Folder) t e d = (d t, (0, e))
said_files told w s before now files files2 (Err Memory) t e d = (d t, e)

shows_more : (w v : World) (files files2 : Files) (system : Standing) → Shows system files w → v ≡ record w { files = files2 } → Shows system files2 v
shows_more w v files files2 system h e = subst (λ (x : World). Shows system files2 x) (sym e) (record { stands = h.stands; words = h.words; heap = h.heap; files = refl })

-- parts that change no file
abbrev Silent : List (Part Change) → Type 0
Silent [] = Unit {0}
Silent (p ∷ ps) = (p.changes ≡ []) × Silent ps

silent_made : (ps : List (Part Change)) → Silent ps → (k : ℕ) → made_by (take k ps) ≡ []
silent_made ps h zero = refl
silent_made [] h (suc k) = refl
silent_made (p ∷ ps) h (suc k) = ap (λ (x : List Change). x ++ made_by (take k ps)) h.0 ∙ silent_made ps h.1 k

silent_here : (ps : List (Part Change)) → Silent ps → (k : ℕ) → made_by (take k ps) ++ (part_at k ps).changes ≡ []
silent_here [] h zero = refl
silent_here (p ∷ ps) h zero = h.0
silent_here [] h (suc k) = refl
silent_here (p ∷ ps) h (suc k) = ap (λ (x : List Change). (x ++ made_by (take k ps)) ++ (part_at k ps).changes) h.0 ∙ silent_here ps h.1 k

files_one : (w : World) (a : Answer World Change) (before now : List ℕ) (files files2 : Files) (system : Standing) (result : Result Bool Stop) → Shows system files w → a.world ≡ record w { files = changed w.files (first_part a.parts).changes } → AnswerDo before now files files2 a result → OneDoes before now files files2 system a result
files_one w a before now files files2 system (Ok r) h e d = (d.0, shows_more w a.world files files2 system h (e ∙ ap (λ (x : Files). record w { files = x }) (ap (λ (x : Files). changed x (first_part a.parts).changes) (sym h.files) ∙ sym d.1)), d.2)
files_one w a before now files files2 system (Err Sink) h e d = d
files_one w a before now files files2 system (Err Folder) h e d = d
files_one w a before now files files2 system (Err Memory) h e d = d

compile_world : (w : World) (name : List ℕ) (r : Result (Compiled Print) (compile.Refusal Print)) → (compile_answer w name r).world ≡ record w { files = changed w.files (first_part (compile_answer w name r).parts).changes }
compile_world w name (Ok c) = refl
compile_world w name (Err r) = refl

pub compile_one : (w : World) (name : List ℕ) (r : Result (Compiled Print) (compile.Refusal Print)) → IsOne (compile_answer w name r)
compile_one w name (Ok c) = refl
compile_one w name (Err r) = refl

-- what the line of a compile does
pub compile_does : (w : World) (name : List ℕ) (r : Result (Compiled Print) (compile.Refusal Print)) (before now : List ℕ) (files files2 : Files) (system : Standing) (result : Result Bool Stop) → Shows system files w → AnswerDo before now files files2 (compile_answer w name r) result → OneDoes before now files files2 system (compile_answer w name r) result
compile_does w name r before now files files2 system result h d = files_one w (compile_answer w name r) before now files files2 system result h (compile_world w name r) d

pub compile_line : (w : World) (name : List ℕ) (r : Result (Compiled Print) (compile.Refusal Print)) (before now : List ℕ) (files files2 : Files) (system : Standing) (result : Result Bool Stop) → Shows system files w → AnswerDo before now files files2 (compile_answer w name r) result → LineDoes before now files files2 system (compile_answer w name r) result
compile_line w name r before now files files2 system result h d = one_line (compile_answer w name r) before now files files2 system result (compile_one w name r) (compile_does w name r before now files files2 system result h d)

text_does : (w : World) (a : Answer World Change) (before now : List ℕ) (files : Files) (system : Standing) (result : Result Bool Stop) → Shows system files w → a.world ≡ w → Silent a.parts → TextDoes before now a result → LineDoes before now files files system a result
text_does w a before now files system (Ok r) h e c d = (d.0, subst (λ (x : World). Shows system files x) (sym e) h, d.1)
text_does w a before now files system (Err Sink) h e c d = (d.0, d.1, sym (ap (changed files) (silent_here a.parts c d.0)))
text_does w a before now files system (Err Folder) h e c d = absurd d
text_does w a before now files system (Err Memory) h e c d = (d.0, d.1, d.2, sym (ap (changed files) (silent_made a.parts c d.0)))

-- what is said of the files at hand
pub said_by : (told : Bool) (w : World) (of : Files → Said) (before now : List ℕ) (files files2 : Files) (system : Standing) (result : Result Bool Stop) → told ≡ true → Shows system files w → files2 ≡ files → SaidDoes told before now (of files) result → LineDoes before now files files2 system (says w (of w.files)) result
said_by told w of before now files files2 system result t h e d = said_line told w (of w.files) before now files files2 system result t h e (subst (λ (f : Files). SaidDoes told before now (of f) result) h.files d)

demo_world : (s : Settings) (w : World) (n : ℕ) (x : Making) → (demo_answer s w n x).world ≡ w
demo_world s w n (Some x) = refl
demo_world s w n None = refl

demo_silent : (s : Settings) (w : World) (n : ℕ) (x : Making) → Silent (demo_answer s w n x).parts
demo_silent s w n (Some x) = (refl, (refl, tt))
demo_silent s w n None = (refl, tt)

-- what the line of a demo does
pub demo_line : (s : Settings) (w : World) (n : ℕ) (x : Making) (before now : List ℕ) (files : Files) (system : Standing) (result : Result Bool Stop) → Shows system files w → TextDoes before now (demo_answer s w n x) result → LineDoes before now files files system (demo_answer s w n x) result
demo_line s w n x before now files system result h d = text_does w (demo_answer s w n x) before now files system result h (demo_world s w n x) (demo_silent s w n x) d

-- what a check found
pub said_check : (told : Bool) (m before now : List ℕ) (c d : Checked) (result : Result Bool Stop) → c ≡ d → PrintDoes told before now (check_text m d) (is_refused d) result → SaidDoes told before now (check_said m c) result
said_check told m before now c d result e p = subst (λ (x : Checked). SaidDoes told before now (check_said m x) result) (sym e) (printed told before now (check_said m d) result p)

-- pieces in a row, however they are put together
pub five : (a b c d e : List ℕ) → a ++ (b ++ (c ++ (d ++ e))) ≡ a ++ b ++ c ++ d ++ e
five a b c d e = sym (append_assoc (a ++ b ++ c) d e ∙ append_assoc (a ++ b) c (d ++ e) ∙ append_assoc a b (c ++ (d ++ e)))
