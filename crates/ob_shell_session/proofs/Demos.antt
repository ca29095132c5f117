-- What the line of a demo comes to, by what was made and run.
use Rattle.std.proofs.Common.{◌≡◌, ℕ, zero, suc, ◌+◌, ◌-◌, ◌≤◌, List, [], ◌∷◌, ◌++◌, length, Bool, true, false, refl, sym, ap, ◌∙◌, subst, append_assoc, Result, Ok, Err, Option, Some, None, arith}
use Rattle.std.specs.Prelude.{codes}
use Rattle.std.proofs.lemmas.Fmt.{length-decimal-le}
use Rattle.std.proofs.lemmas.List.{append-nil}
use Rattle.ob_io.specs.Io.{AddsFront, put}
use Rattle.ob_io.specs.Fronts.{same_functions}
use Rattle.ob_io.specs.Kept.{file_in}
use Rattle.ob_types.specs.declared.face.Interface.{Interface}
use Rattle.ob_sym.specs.Grammar.{face as face_form}
use Rattle.ob_machine.specs.Machine.{Held, made}
use Rattle.ob_demo.specs.Source.{module_name, source}
use Rattle.ob_link.specs.Files.{Files}
use Rattle.ob_load.specs.Standing.{Standing}
use Rattle.ob_shell_reports.specs.declared.stop.Stop.{Stop}
use Rattle.ob_shell_reports.specs.declared.stop.Stop.TheVariants.{Sink, Folder, Memory}
use Rattle.ob_shell_reports.specs.Prints.{PrintDoes}
use Rattle.ob_shell_reports.specs.Texts.{demo_text}
use Rattle.ob_words.specs.declared.asked.Settings.{Settings}
use Rattle.ob_shell_model.specs.Folds.{Part, Answer, printed_by}
use Rattle.ob_shell_model.specs.Session.{first_part}
use Rattle.ob_shell_model.specs.Bytes.{World, Change, Making, changed, start, no_files, command_answer, source_name, compiled_file, made_of, made_one, and_more, demo_from, demo_made, demo_answer, demo_ran}
use Rattle.ob_shell_session.specs.Does.{Shows, OneDoes, IsOne, SaidDoes, TextDoes, MakesSo, said_of}
use Rattle.ob_shell_session.proofs.Parts.{front_from}
use Rattle.ob_shell_session.proofs.Commands.{command_one}

-- THE MODULES

pub name_fits : (count : ℕ) → count ≤ 60 → length (module_name count) ≤ 64
name_fits count h = let d = length-decimal-le 2 count (omega arith) (omega (arith, h)) (omega (arith, h)) in omega (arith, d)

-- no file of a demo is there yet
none_there : (name : List ℕ) → no_files name ≡ file_in [] name
none_there name = refl

pub starts : (n : ℕ) (pairs : List (List ℕ × List ℕ)) → pairs ≡ [] → demo_made n ≡ demo_from n n 1 0 (file_in pairs)
unfolding demo_made
starts n pairs e = ap (demo_from n n 1 0) (same_functions no_files (file_in []) none_there ∙ ap file_in (sym e))

pub goes_on : (n more i objects : ℕ) (files files2 : Files) (k : ℕ) (all : Making) → 1 ≤ more → all ≡ demo_from n more i objects files → MakesSo (made_one n i files) files2 (Some k) → all ≡ demo_from n (more - 1) (i + 1) (objects + k) files2
goes_on n zero i objects files files2 k all h e m = absurd (omega (arith, h))
goes_on n (suc more) i objects files files2 k all h e m =
    let next : suc i ≡ i + 1 = omega arith in
    let same : more ≡ suc more - 1 = omega arith in
    e ∙ ap (λ (x : Making). and_more x (λ y. demo_from n more (suc i) (objects + y.0) y.1)) m ∙ ap (λ j. demo_from n more j (objects + k) files2) next ∙ ap (λ j. demo_from n j (i + 1) (objects + k) files2) same

pub goes_none : (n more i objects : ℕ) (files files2 : Files) (all : Making) → 1 ≤ more → all ≡ demo_from n more i objects files → MakesSo (made_one n i files) files2 None → all ≡ None
goes_none n zero i objects files files2 all h e m = absurd (omega (arith, h))
goes_none n (suc more) i objects files files2 all h e m = e ∙ ap (λ (x : Making). and_more x (λ y. demo_from n more (suc i) (objects + y.0) y.1)) m

pub goes_done : (n more i objects : ℕ) (files : Files) (all : Making) → more ≤ 0 → all ≡ demo_from n more i objects files → all ≡ Some (objects, files)
goes_done n zero i objects files all h e = e
goes_done n (suc more) i objects files all h e = absurd (omega (arith, h))

-- THE COMMAND

one_text : (a : Answer World Change) → IsOne a → printed_by a.parts ≡ (first_part a.parts).text
one_text a e = ap (λ (x : List (Part Change)). printed_by x) e ∙ append-nil (first_part a.parts).text

one_says : (a : Answer World Change) (before now : List ℕ) (files files2 : Files) (system : Standing) (result : Result Bool Stop) → IsOne a → OneDoes before now files files2 system a result → SaidDoes true before now (said_of a) result
one_says a before now files files2 system (Ok r) e d = (λ t. d.0 ∙ ap (λ x. before ++ x) (sym (one_text a e)), d.2)
one_says a before now files files2 system (Err Sink) e d = λ t. subst (λ x. AddsFront before now x) (sym (one_text a e)) d.0
one_says a before now files files2 system (Err Folder) e d = λ t. d.0
one_says a before now files files2 system (Err Memory) e d = λ t. d.0

-- behind its first line
ran_text : (w : World) (opening : List ℕ) (a : Answer World Change) (before mid now : List ℕ) (result : Result Bool Stop) → mid ≡ before ++ opening → (result ≡ Err Folder → ⊥) → SaidDoes true mid now (said_of a) result → TextDoes before now (demo_ran w opening a) result
ran_text w opening a before mid now (Ok r) m n d =
    let t = printed_by a.parts in
    (d.0 refl ∙ ap (λ x. x ++ t) m ∙ append_assoc before opening t ∙ ap (λ x. before ++ (opening ++ x)) (sym (append-nil t)), d.1)
ran_text w opening a before mid now (Err Sink) m n d = (1, front_from mid (before ++ (opening ++ [])) now (printed_by a.parts) (ap (λ x. before ++ x) (append-nil opening) ∙ sym m) (d refl))
ran_text w opening a before mid now (Err Folder) m n d = absurd (n refl)
ran_text w opening a before mid now (Err Memory) m n d = (1, omega arith, d refl ∙ m ∙ ap (λ x. before ++ x) (sym (append-nil opening)))

-- A FILE IN MEMORY

abbrev pub Pairs : Type 0
Pairs = List (List ℕ × List ℕ)

pub file_put : (old mid new : Pairs) (name bytes : List ℕ) → mid ≡ old → file_in new ≡ put (file_in mid) name bytes → file_in new ≡ put (file_in old) name bytes
file_put old mid new name bytes e r = r ∙ ap (λ (p : Pairs). put (file_in p) name bytes) e

pub both_put : (old mid new : Files) (first second a b m n : List ℕ) → first ≡ m → second ≡ n → mid ≡ put old first a → new ≡ put mid second b → new ≡ changed old ((m, a) ∷ (n, b) ∷ [])
both_put old mid new first second a b m n e f p q =
    q ∙ ap (λ (x : Files). put x second b) p ∙ ap (λ (x : List ℕ). put (put old x a) second b) e ∙ ap (λ (x : List ℕ). put (put old m a) x b) f

pub few_objects : (f : Interface) → face_form.fits f → length f.objects ≤ 4096
unfolding face_form
few_objects f h = h.1.objects

-- a module whose source was put into the folder
pub one_made : (n i : ℕ) (files mid files2 : Files) (name text : List ℕ) (o : Option ℕ) → name ≡ source_name i → text ≡ source n i → mid ≡ put files name text → MakesSo (made_of mid (compiled_file mid name)) files2 o → MakesSo (made_one n i files) files2 o
one_made n i files mid files2 name text o e f p m =
    subst (λ (x : Files). MakesSo (made_of x (compiled_file x (source_name i))) files2 o) (p ∙ ap (λ (y : List ℕ). put files y text) e ∙ ap (put files (source_name i)) f)
    (subst (λ (y : List ℕ). MakesSo (made_of mid (compiled_file mid y)) files2 o) e m)

-- no module is loaded
pub fresh : (s : Settings) (files : Files) (x : Standing) → x.members ≡ [] → x.machine ≡ made s.heap → Shows x files (start s files)
fresh s files x e m = record {
  stands = record { loaded = record { members = e; enterable = tt }; image = ap (λ (h : Held). h.image) m };
  words = ap (λ (h : Held). h.words) m;
  heap = ap (λ (h : Held). h.heap) m;
  files = refl;
}

-- the first line was cut short
pub opening_cut : (told : Bool) (s : Settings) (w : World) (n objects : ℕ) (files : Files) (before now : List ℕ) (stop : Stop) → told ≡ true → PrintDoes told before now (demo_text n objects) false (Err stop) → TextDoes before now (demo_answer s w n (Some (objects, files))) (Err stop)
opening_cut told s w n objects files before now Sink t p = (0, front_from before (before ++ []) now (demo_text n objects) (append-nil before) (p t))
opening_cut told s w n objects files before now Folder t p = absurd p
opening_cut told s w n objects files before now Memory t p = absurd p

-- the command behind the first line, over the files that were made
pub command_text : (s : Settings) (w : World) (n objects : ℕ) (files : Files) (name before mid now : List ℕ) (result : Result Bool Stop) → name ≡ module_name n → mid ≡ before ++ demo_text n objects → (result ≡ Err Folder → ⊥) → SaidDoes true mid now (said_of (command_answer s (start s files) name (codes "Go"))) result → TextDoes before now (demo_answer s w n (Some (objects, files))) result
command_text s w n objects files name before mid now result e m un d =
    ran_text w (demo_text n objects) (command_answer s (start s files) (module_name n) (codes "Go")) before mid now result m un
    (subst (λ (y : List ℕ). SaidDoes true mid now (said_of (command_answer s (start s files) y (codes "Go"))) result) e d)

-- the line of the command, in whatever way it ended
pub went : (s : Settings) (w : World) (name command before now : List ℕ) (files files2 : Files) (system : Standing) (result other : Result Bool Stop) → result ≡ other → command ≡ codes "Go" → OneDoes before now files files2 system (command_answer s w name command) result → SaidDoes true before now (said_of (command_answer s w name (codes "Go"))) other
went s w name command before now files files2 system result other e f d =
    subst (λ (y : List ℕ). SaidDoes true before now (said_of (command_answer s w name y)) other) f
    (subst (λ (r : Result Bool Stop). SaidDoes true before now (said_of (command_answer s w name command)) r) e (one_says (command_answer s w name command) before now files files2 system result (command_one s w name command) d))

-- the text of a demo whose modules were made
pub demo_is : (s : Settings) (w : World) (n : ℕ) (m : Making) (x : ℕ × Files) (before now : List ℕ) (result : Result Bool Stop) → m ≡ Some x → TextDoes before now (demo_answer s w n (Some x)) result → TextDoes before now (demo_answer s w n m) result
demo_is s w n m x before now result e d = subst (λ (y : Making). TextDoes before now (demo_answer s w n y) result) (sym e) d
