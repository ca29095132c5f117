-- What the line of a compile comes to, by what was compiled and written.
use Rattle.std.proofs.Common.{◌≡◌, ℕ, List, [], ◌∷◌, ◌++◌, Bool, true, false, refl, sym, ap, ◌∙◌, subst, append_assoc, Result, Ok, Err, Option, Some, None, ⊎_elim}
use Rattle.std.specs.Prelude.{map as each, codes, decimal}
use Rattle.ob_tree.specs.declared.print.Print.{Print}
use Rattle.ob_types.specs.declared.desc.Desc.{Desc}
use Rattle.ob_parse_grammar.specs.declared.fault.ParseFault.TheVariants as parsing
use Rattle.ob_scan.specs.declared.fault.ScanFault.TheVariants as scanning
use Rattle.ob_parse_grammar.specs.TextReading.{NoModule, Scan, Parse}
use Rattle.ob_env.specs.Faces.{Face, Wanted, face_of, interface_of, object_of, use_of, wanted_of}
use Rattle.ob_env.specs.Stale.{Found, StaleUse, AsWanted, IsAbsent, IsChanged}
use Rattle.ob_env_walk.specs.Walk.{Walked, Left, NoInterface, Damaged, Cycle, TooMany, symbol_name}
use Rattle.ob_io.specs.Io.{put, Replaces}
use Rattle.ob_io.specs.declared.traits.Failed.{Failed}
use Rattle.ob_cmp.specs.Verdicts.{compiled_text}
use Rattle.ob_link.specs.Files.{Files, object_file_name}
use Rattle.ob_compile_model.specs.Compiling as compile
use Rattle.ob_compile_model.specs.Compiling.{Compiled}
use Rattle.ob_compile_trait.specs.Contract.{IsBuilt, IsRefused, answered, unread, stopped, stale, built}
use Rattle.ob_compile_trait.specs.declared.shape.Built.{Built}
use Rattle.ob_compile_model.specs.declared.fault.CompileRefusal.{CompileRefusal}
use Rattle.ob_shell_reports.specs.declared.stop.Stop.{Stop}
use Rattle.ob_shell_reports.specs.Prints.{PrintDoes}
use Rattle.ob_shell_reports.specs.Texts.{refused, compile_refused, compile_reason, reason_answered, unread_text, walk_text, unmet_text, compiled_line}
use Rattle.ob_shell_reports.specs.declared.counts.Counts.{Counts}
use Rattle.ob_shell_model.specs.Bytes.{World, Change, compile_answer, counted, denied}
use Rattle.ob_shell_session.specs.Counting.{counts_between}
use Rattle.ob_shell_session.specs.Does.{FilesDo, AnswerDo, ChangesDo}
use Rattle.ob_shell_model.specs.Files.{SymFile, stood}
use Rattle.ob_shell_session.proofs.Said.{printed, said_files}

-- THE TEXT OF A REFUSAL

abbrev reason_of : Option CompileRefusal → List ℕ
reason_of None = []
reason_of (Some s) = reason_answered s

same_unread : (f : NoModule) → unread_text f ≡ reason_of (unread f)
same_unread (Scan (scanning.Symbol at)) = refl
same_unread (Scan (scanning.Real at)) = refl
same_unread (Scan (scanning.Limit at)) = refl
same_unread (Scan scanning.Memory) = refl
same_unread (Parse (parsing.Syntax at)) = refl
same_unread (Parse (parsing.TooDeep at)) = refl
same_unread (Parse parsing.Memory) = refl

same_walk : (w : Walked Print) → walk_text w ≡ reason_of (stopped w)
same_walk (Left faces) = refl
same_walk (NoInterface m) = refl
same_walk (Damaged m) = refl
same_walk (Cycle m) = refl
same_walk TooMany = refl

same_unmet : (u : StaleUse Print) (f : Found Print) → unmet_text u f ≡ reason_of (stale u f)
same_unmet u AsWanted = refl
same_unmet u IsAbsent = refl
same_unmet u (IsChanged k) = refl

same_reason : (r : compile.Refusal Print) → compile_reason r ≡ reason_of (answered r)
same_reason compile.NoSource = refl
same_reason compile.Long = refl
same_reason (compile.Unread f) = same_unread f
same_reason (compile.Broken b) = refl
same_reason (compile.Walk w) = same_walk w
same_reason (compile.Unmet u) = same_unmet u u.found
same_reason (compile.NoFit q) = refl
same_reason (compile.Limit w) = refl

refused_text : (name : List ℕ) (r : compile.Refusal Print) (s : CompileRefusal) → answered r ≡ Some s → refused name (reason_answered s) ≡ compile_refused name r
refused_text name r s e = ap (refused name) (sym (same_reason r ∙ ap reason_of e))

pub compile_denied : (told : Bool) (w : World) (name : List ℕ) (r : Result (Compiled Print) (compile.Refusal Print)) (s : CompileRefusal) (before now : List ℕ) (files files2 : Files) (result : Result Bool Stop) → told ≡ true → files2 ≡ files → IsRefused r s → PrintDoes told before now (refused name (reason_answered s)) true result → AnswerDo before now files files2 (compile_answer w name r) result
compile_denied told w name (Ok x) s before now files files2 result t g i p = absurd i
compile_denied told w name (Err r) s before now files files2 result t g i p =
    said_files told w (denied (compile_refused name r)) before now files files2 result t g
    (printed told before now (denied (compile_refused name r)) result (subst (λ (x : List ℕ). PrintDoes told before now x true result) (refused_text name r s i) p))

-- THE INTERFACE THAT WAS MADE

objects_again : (m : List ℕ) (os : List (List ℕ × Desc)) → each (λ o. (o.name, o.desc)) (each (object_of m) os) ≡ os
objects_again m [] = refl
objects_again m (o ∷ os) = ap (λ r. o ∷ r) (objects_again m os)

uses_again : (us : List (Wanted Print)) → each wanted_of (each use_of us) ≡ us
uses_again [] = refl
uses_again (u ∷ us) = ap (λ r. u ∷ r) (uses_again us)

pub face_again : (f : Face Print) → face_of (interface_of f) ≡ f
face_again f = λ i. record { «module» = f.«module»; imports = f.imports; objects = objects_again f.«module» f.objects i; uses = uses_again f.uses i }

-- the two files of a module
abbrev pub both_files : Built → List Change
both_files b = (object_file_name b.face.«module», b.obj) ∷ (symbol_name b.face.«module», b.sym) ∷ []

pub compile_built : (w : World) (name : List ℕ) (r : Result (Compiled Print) (compile.Refusal Print)) (b : Built) (before now : List ℕ) (files files2 : Files) (result : Result Bool Stop) → files ≡ w.files → IsBuilt r b → FilesDo before now files files2 (both_files b) (counted files (face_of b.face)) false result → AnswerDo before now files files2 (compile_answer w name r) result
compile_built w name (Err r) b before now files files2 result f i d = absurd i
compile_built w name (Ok x) b before now files files2 result f i d =
    subst (λ (y : List ℕ). FilesDo before now files files2 (both_files (built x)) y false result) (ap (counted files) (face_again x.shows) ∙ ap (λ (y : Files). counted y x.shows) f)
    (subst (λ (y : Built). FilesDo before now files files2 (both_files y) (counted files (face_of y.face)) false result) i d)

-- TWO FILES ARE REPLACED

pub replaced_both : (old mid new : Files) (c d : Change) (result : Result (Unit {0}) Failed) → mid ≡ put old c.0 c.1 → Replaces mid new d.0 d.1 result → ChangesDo old new (c ∷ d ∷ []) result
replaced_both old mid new c d (Ok u) e r = r ∙ ap (λ f. put f d.0 d.1) e
replaced_both old mid new c d (Err x) e r = ⊎_elim (λ q. (1, q ∙ e)) (λ q. (2, q ∙ ap (λ f. put f d.0 d.1) e)) r

-- pieces in a row, however they are put together
in_a_row : (a b c d e f g h i j k : List ℕ) → a ++ (b ++ (c ++ (d ++ (e ++ (f ++ (g ++ (h ++ (i ++ (j ++ k))))))))) ≡ a ++ b ++ c ++ d ++ e ++ f ++ g ++ h ++ i ++ j ++ k
in_a_row a b c d e f g h i j k = sym (
    append_assoc (a ++ b ++ c ++ d ++ e ++ f ++ g ++ h ++ i) j k
    ∙ append_assoc (a ++ b ++ c ++ d ++ e ++ f ++ g ++ h) i (j ++ k)
    ∙ append_assoc (a ++ b ++ c ++ d ++ e ++ f ++ g) h (i ++ (j ++ k))
    ∙ append_assoc (a ++ b ++ c ++ d ++ e ++ f) g (h ++ (i ++ (j ++ k)))
    ∙ append_assoc (a ++ b ++ c ++ d ++ e) f (g ++ (h ++ (i ++ (j ++ k))))
    ∙ append_assoc (a ++ b ++ c ++ d) e (f ++ (g ++ (h ++ (i ++ (j ++ k)))))
    ∙ append_assoc (a ++ b ++ c) d (e ++ (f ++ (g ++ (h ++ (i ++ (j ++ k))))))
    ∙ append_assoc (a ++ b) c (d ++ (e ++ (f ++ (g ++ (h ++ (i ++ (j ++ k)))))))
    ∙ append_assoc a b (c ++ (d ++ (e ++ (f ++ (g ++ (h ++ (i ++ (j ++ k)))))))))

line_is : (old new : Face Print) → compiled_line new.«module» (counts_between old new) ≡ compiled_text old new
line_is old new =
    let c = counts_between old new in
    in_a_row (codes "compiled ") new.«module» (codes ": ") (decimal c.objects) (codes " objects, ") (decimal c.added) (codes " new, ") (decimal c.changed) (codes " changed, ") (decimal c.gone) (codes " gone\n")

-- the text is that of what was counted
pub put_done : (before now : List ℕ) (files mid files2 : Files) (changes : List Change) (c : Counts) (s t : SymFile) (f : Face Print) (result : Result Bool Stop) → mid ≡ files → c ≡ counts_between (stood f.«module» s) f → t ≡ s → FilesDo before now mid files2 changes (compiled_line f.«module» c) false result → FilesDo before now files files2 changes (compiled_text (stood f.«module» t) f) false result
put_done before now files mid files2 changes c s t f result g e h d =
    subst (λ (y : List ℕ). FilesDo before now files files2 changes y false result) (line_is (stood f.«module» s) f ∙ ap (λ (y : SymFile). compiled_text (stood f.«module» y) f) (sym h))
    (subst (λ (y : Counts). FilesDo before now files files2 changes (compiled_line f.«module» y) false result) e
    (subst (λ (y : Files). FilesDo before now y files2 changes (compiled_line f.«module» c) false result) g d))
