-- Behind each line of a session each symbol file that is read has a spelling, where it was so before.
use Rattle.std.proofs.Common.{◌≡◌, ◌⊎◌, ℕ, ◌+◌, if◌then◌else◌, List, [], ◌∷◌, Bool, true, false, length, refl, sym, ap, ◌∙◌, subst, inl, inr, Option, Some, None, Result, Ok, Err}
use Rattle.std.specs.Prelude.{bytes_eq}
use Rattle.ob_tree.specs.declared.print.Print.{Print}
use Rattle.ob_sym.specs.Grammar.{face as face_form}
use Rattle.ob_obj.specs.declared.file.ObjFile.{ObjFile}
use Rattle.ob_env.specs.Faces.{Face, face_of, interface_of}
use Rattle.ob_env_walk.specs.Walk.{symbol_entry}
use Rattle.ob_cmp.specs.Check.{Present, NotThere, TooLong, Refused, There, symbols_of}
use Rattle.ob_link.specs.Files.{Files, file_plan}
use Rattle.ob_link.specs.Plan.{Refusal}
use Rattle.ob_make.specs.Order.{MakeEnd, order}
use Rattle.ob_make.specs.Folder.{source_name}
use Rattle.ob_make.specs.declared.turns.Turn.{Turn}
use Rattle.ob_make.specs.declared.turns.Turn.TheVariants as turn
use Rattle.ob_compile_model.specs.Compiling as compile
use Rattle.ob_compile_model.specs.Compiling.{Compiled, prints, object_bytes, symbol_bytes, interface_by}
use Rattle.ob_shell_lines.specs.Lines as line
use Rattle.ob_shell_lines.specs.Lines.{Line, line_of}
use Rattle.ob_shell_reports.specs.Texts.{made_text}
use Rattle.ob_words.specs.declared.asked.Settings.{Settings}
use Rattle.ob_shell_model.specs.Folds.{Answer, part, world_from}
use Rattle.ob_shell_model.specs.Making.{turn_at, by_turn, in_turn, and_on, behind, behind_turns, made_in}
use Rattle.ob_shell_model.specs.Bytes.{World, Change, Making, maker, changed, files_of, compile_answer, compiled_in, load_answer, demo_answer, demo_made, answer}
use Rattle.law_builds.proofs.Compiled.{comes, short}
use Rattle.law_builds.proofs.Faces.{face_back}
use Rattle.law_lists.proofs.Lists.{same_bytes}
use Rattle.law_make.proofs.Names.{true_or}
use Rattle.law_make.proofs.Entries.{held, held_same, found_there}
use Rattle.law_make.proofs.Replaced.{symbols_stay, symbols_are}
use Rattle.law_make.proofs.Spelled.{AreSpelled, IsWritten, written}

there_is : (x y : Face Print) → (let a : Present (Face Print) = There x in a) ≡ There y → x ≡ y
there_is x y e = ap (or_it x) e
  where
    or_it : Face Print → Present (Face Print) → Face Print
    or_it d NotThere = d
    or_it d TooLong = d
    or_it d Refused = d
    or_it d (There y) = y

-- where a module that compiles was written
pub written_on : (files : Files) (source : Option (List ℕ)) (c : Compiled Print) → compile.compiled prints (symbol_entry files) source ≡ Ok c → AreSpelled files → AreSpelled (changed files (files_of c))
written_on files source c is spelled n f e = go (true_or (bytes_eq n c.shows.«module»))
  where
    w : IsWritten c
    w = written files spelled source c is

    now : symbols_of (changed files (files_of c)) c.shows.«module» ≡ There (face_of (interface_by prints c))
    now = symbols_are files c.shows.«module» (object_bytes prints c) (symbol_bytes prints c) (interface_by prints c) (short prints c (comes prints (symbol_entry files) source c is).limits).1 w.again.1 refl

    go : (bytes_eq n c.shows.«module» ≡ true) ⊎ (bytes_eq n c.shows.«module» ≡ false) → face_form.fits (interface_of f)
    go (inr o) = spelled n f (held_same files n ∙ ap held (sym (symbols_stay files c.shows.«module» (object_bytes prints c) (symbol_bytes prints c) n o)) ∙ sym (held_same (changed files (files_of c)) n) ∙ e)
    go (inl o) =
        let t : symbols_of (changed files (files_of c)) c.shows.«module» ≡ There f = ap (symbols_of (changed files (files_of c))) (sym (same_bytes n c.shows.«module» o)) ∙ found_there (changed files (files_of c)) n f e in
        let g : c.shows ≡ f = sym (face_back c.shows) ∙ there_is (face_of (interface_by prints c)) f (sym now ∙ t) in
        subst (λ (h : Face Print). face_form.fits (interface_of h)) g w.symbols

pub compile_keeps : (v : World) (name : List ℕ) (source : Option (List ℕ)) → AreSpelled v.files → AreSpelled (compile_answer v name (compiled_in v source)).world.files
compile_keeps v name source i = go (compiled_in v source) refl
  where
    go : (r : Result (Compiled Print) (compile.Refusal Print)) → compiled_in v source ≡ r → AreSpelled (compile_answer v name r).world.files
    go (Err r) e = i
    go (Ok c) e = written_on v.files source c e i

-- ---- a make

on_keeps : (a : Answer World Change) (f : World → Answer World Change) → AreSpelled a.world.files → ((v : World) → AreSpelled v.files → AreSpelled (f v).world.files) → AreSpelled (and_on a f).world.files
on_keeps a f h k = go a.refused
  where
    go : (b : Bool) → AreSpelled (if b then a else behind a.parts (f a.world)).world.files
    go true = h
    go false = k a.world h

turn_keeps : (t : Turn) (v : World) (x : List ℕ) → AreSpelled v.files → AreSpelled (by_turn maker t v x).world.files
turn_keeps turn.Stays v x i = i
turn_keeps turn.Compiles v x i = compile_keeps v (source_name x) (v.files (source_name x)) i
turn_keeps turn.LacksSource v x i = i

turns_keep : (m : List ℕ) (xs : List (List ℕ)) (v : World) → AreSpelled v.files → AreSpelled (behind_turns maker m xs v).world.files
unfolding behind_turns
turns_keep m [] v i = i
turns_keep m (x ∷ xs) v i = on_keeps (in_turn maker m v x) (behind_turns maker m xs) (turn_keeps (turn_at maker m v x) v x i) (λ u j. turns_keep m xs u j)

make_keeps : (m : List ℕ) (o : Result (List (List ℕ)) MakeEnd) (v : World) → AreSpelled v.files → AreSpelled (made_in maker m o v).world.files
make_keeps m (Ok xs) v i =
    let a = behind_turns maker m xs v in
    on_keeps a (λ u. record { world = u; parts = part [] (made_text m (length a.parts)); refused = false }) (turns_keep m xs v i) (λ u j. j)
make_keeps m (Err e) v i = i

-- ---- a line

demo_keeps : (s : Settings) (v : World) (n : ℕ) (x : Making) → AreSpelled v.files → AreSpelled (demo_answer s v n x).world.files
demo_keeps s v n None i = i
demo_keeps s v n (Some x) i = i

load_keeps : (s : Settings) (v : World) (name command : List ℕ) (r : Result (List ObjFile) (Refusal Print)) → AreSpelled v.files → AreSpelled (load_answer s v name command r).world.files
load_keeps s v name command (Ok files) i = i
load_keeps s v name command (Err r) i = i

line_keeps : (s : Settings) (v : World) (n : ℕ) (l : Line) → AreSpelled v.files → AreSpelled (answer s v n l).world.files
line_keeps s v n (line.Compile name) i = compile_keeps v name (v.files name) i
line_keeps s v n (line.Compare old new) i = i
line_keeps s v n (line.Check m) i = i
line_keeps s v n (line.Make m) i = make_keeps m (order (maker.sees v) m) v i
line_keeps s v n (line.Show m) i = i
line_keeps s v n (line.Demo k) i = demo_keeps s v k (demo_made k) i
line_keeps s v n (line.Command m command) i = load_keeps s v m command (file_plan v.files v.loaded m command) i
line_keeps s v n line.Unknown i = i
line_keeps s v n line.Nothing i = i

pub lines_keep : (s : Settings) (v : World) (n : ℕ) (past : List (List ℕ)) → AreSpelled v.files → AreSpelled (world_from (answer s) v n past).files
unfolding world_from
lines_keep s v n [] i = i
lines_keep s v n (l ∷ past) i = lines_keep s (answer s v n (line_of l)).world (n + 1) past (line_keeps s v n (line_of l) i)
