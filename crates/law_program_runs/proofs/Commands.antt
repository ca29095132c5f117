-- All commands, one behind the other.
use Rattle.std.proofs.Common.{◌≡◌, ℕ, zero, suc, ◌+◌, ◌≤◌, List, [], ◌∷◌, ◌++◌, length, take, drop, ℤ, pos, refl, ap, sym, ◌∙◌, subst, arith, length-append}
use Rattle.std.proofs.lemmas.List.{append-nil, length-drop, length-replicate}
use Rattle.std.proofs.Math.Seq.{take-append_seam}
use Rattle.std.specs.Prelude.{map, replicate}
use Rattle.std.specs.List.{AllByRecursion}
use Rattle.ob_obj.specs.declared.file.ObjFile.{ObjFile}
use Rattle.ob_obj.specs.Images.{image_of, words_with}
use Rattle.ob_meaning.specs.Values.{Program, Value, AnObject, State}
use Rattle.ob_meaning.specs.Commands.{System, Ended, nothing_loaded, command_begins}
use Rattle.ob_machine.specs.Machine.{made}
use Rattle.law_simulation_relation.specs.Layout.{module_held}
use Rattle.law_simulation_relation.specs.Relation.{no_places}
use Rattle.law_simulation_relation.specs.Texts.{module_texts}
use Rattle.law_simulation_relation.specs.Setting.{Setting, StandIn, has_of}
use Rattle.law_simulation_relation.proofs.Places.{S, slots-length}
use Rattle.law_simulation_relation.proofs.Modules.{M, Ms}
use Rattle.law_simulation_relation.proofs.Firsts.{zeros, zeros_both}
use Rattle.law_simulation.specs.Simulates.{CommandsSimulate, BodiesSimulate}
use Rattle.ob_link.specs.Members.{empty_image}
use Rattle.ob_link.specs.Plan.{words_of}
use Rattle.ob_link.specs.Files.{planned, command_at}
use Rattle.ob_load.specs.Command.{Ran, ran, came, runs, begin, image_for}
use Rattle.ob_words.specs.declared.asked.Settings.{Settings}
use Rattle.ob_builds.specs.Builds.{Build, tree_of, file_of, asks}
use Rattle.ob_builds.specs.Simulated.{joined, ended, IsPlanned, IsSameRun, StandFor, ran_over}
use Rattle.ob_builds.specs.Afresh.{AreTogether}
use Rattle.law_program_runs.specs.Builds.{program_of, AreEntered, HasModule, BuildsStand}
use Rattle.law_program_runs.proofs.Images.{image_both, all_words, next_is, globals_of, globals_length, strings_length, IsFull, words_are}
use Rattle.law_program_runs.proofs.Settings.{map_both, all_of, all_map, are_few, setting, front, large, small, stands_small, stands_large}
use Rattle.law_program_runs.proofs.Runs.{kept_with, world_with, with_turns}
use Rattle.law_program_runs.proofs.Bodies.{length_map, Alike, all_run}

-- THE WORDS OF ALL GLOBALS

modules_words : (c : Setting) (os : List AnObject) (g : List ℕ → List ℕ → Value) (bs : List Build) → AllByRecursion (HasModule c.program) bs → length (Ms c os (map tree_of bs) g) ≡ all_words (map file_of bs)
modules_words c os g [] h = refl
modules_words c os g (b ∷ bs) h =
    let m = tree_of b in
    let slots = S c os [] (no_places c.program (has_of c) c.img) 0 (module_held c.program m) (g m.name) in
    let a = length-append (M c os m (g m.name)) (Ms c os (map tree_of bs) g) in
    let d = length-append slots (module_texts c.program m) in
    let e = slots-length c os [] (no_places c.program (has_of c) c.img) (module_held c.program m) 0 (g m.name) in
    let v = h.0.variables in
    let t = ap length h.0.strings in
    let s = strings_length (file_of b).globals.strings h.0.long in
    let rest = modules_words c os g bs h.1 in
    omega (arith, a, d, e, v, t, s, rest)

asked_words : (program : Program) (bs : List Build) → AllByRecursion (HasModule program) bs → words_of asks bs ≡ all_words (map file_of bs)
asked_words program [] h = refl
asked_words program (b ∷ bs) h = let a = h.0.words in let r = asked_words program bs h.1 in omega (arith, a, r)

take_map : {A B : Type 0} (f : A → B) (n : ℕ) (xs : List A) → take n (map f xs) ≡ map f (take n xs)
take_map f zero [] = refl
take_map f zero (x ∷ xs) = refl
take_map f (suc n) [] = refl
take_map f (suc n) (x ∷ xs) = ap (λ l. f x ∷ l) (take_map f n xs)

ran_is : (fs gs : List ObjFile) (words : List ℤ) (heap : ℕ) (m x : List ℕ) (turns : ℕ) → ran fs words heap (planned fs m x gs) turns ≡ came (image_of (image_for fs) gs) (fs ++ gs) (runs (image_of (image_for fs) gs) (command_at 0 m x (fs ++ gs)) (length fs) (length gs) (begin (words_with (image_for fs) gs words) heap turns))
unfolding ran
ran_is fs gs words heap m x turns = refl

module _ (commands : CommandsSimulate) (bodies : BodiesSimulate) (B : BuildsStand) (s : Settings) (few : s.heap ≤ 4194304) where
  -- the words stand for the system of these builds
  pub record Standing (bs : List Build) (system : System) (words : List ℤ) (heap : ℕ) : Type 0 where
    pub loaded : AreEntered bs
    pub program : system.program ≡ program_of bs
    pub behind : List ℤ
    pub stands : StandIn (setting B s.heap few bs loaded bs [] system.program (sym (append-nil bs)) program behind) [] (kept_with system 0) (world_with words heap 0)

  -- ONE COMMAND

  module _ (bs : List Build) (system : System) (words : List ℤ) (heap : ℕ) (st : Standing bs system words heap) (new : List Build) (m x : List ℕ) (together : AreTogether [] (bs ++ new)) (plan : IsPlanned bs new m x) where
    abbrev all : List Build
    all = bs ++ new

    abbrev l : AreEntered all
    l = record { loaded = record { together = together; few = are_few (bs ++ new) together }; words = plan.words }

    abbrev P : Program
    P = system.program

    abbrev s0 : State
    s0 = command_begins system s.turns

    abbrev c : List ℤ → Setting
    c behind = large B s.heap few all l bs new P refl st.program behind

    old : StandIn (c st.behind) [] s0 (world_with words heap s.turns)
    old =
        let one = with_turns (small B s.heap few all l bs new P refl st.program st.behind) (kept_with system 0) (world_with words heap 0) s.turns st.stands in
        stands_large B s.heap few all l bs new P refl st.program st.behind s0 (world_with words heap s.turns) one

    abbrev files : List ObjFile
    files = map file_of new

    abbrev words2 : List ℤ
    words2 = words_with (image_for (map file_of bs)) files words

    abbrev rest : List ℤ
    rest = drop (all_words files) st.behind

    all_have : AllByRecursion (HasModule (program_of all)) all
    all_have = all_of (HasModule (program_of all)) all (λ b i. B.modules all l.loaded b i)

    full : AllByRecursion IsFull files
    full = all_map file_of IsFull new (behind_of bs new (all_of (λ b. IsFull (file_of b)) all (λ b i. (B.modules all l.loaded b i).long)))
      where
        behind_of : (xs ys : List Build) → AllByRecursion (λ b. IsFull (file_of b)) (xs ++ ys) → AllByRecursion (λ b. IsFull (file_of b)) ys
        behind_of [] ys h = h
        behind_of (x ∷ xs) ys h = behind_of xs ys h.1

    have : AllByRecursion (HasModule P) bs
    have = subst (λ p. AllByRecursion (HasModule p) bs) (sym st.program) (all_of (HasModule (program_of bs)) bs (λ b i. B.modules bs st.loaded.loaded b i))

    abbrev front_words : List ℤ
    front_words = Ms (c st.behind) system.made P system.store.globals

    front_length : length front_words ≡ all_words (map file_of bs)
    front_length = ap (λ p. length (Ms (c st.behind) system.made p system.store.globals)) st.program ∙ modules_words (c st.behind) system.made system.store.globals bs have

    enough : all_words (map file_of bs) + all_words files ≤ 262144
    enough =
        let a = asked_words (program_of all) all all_have in
        let b = both_words bs new in
        let w = plan.words in
        omega (arith, a, b, w)
      where
        both_words : (xs ys : List Build) → all_words (map file_of (xs ++ ys)) ≡ all_words (map file_of xs) + all_words (map file_of ys)
        both_words [] ys = omega arith
        both_words (b ∷ xs) ys = let r = both_words xs ys in omega (arith, r)

    room : all_words files ≤ length st.behind
    room = let a = old.globals_size in let b = (c st.behind).globals in let e = enough in let f = front_length in omega (arith, a, b, e, f)

    entered : StandIn (c (globals_of files ++ rest)) [] s0 (world_with words2 heap s.turns)
    entered =
        let next : (image_for (map file_of bs)).next ≡ suc (length front_words) = next_is empty_image (map file_of bs) ∙ omega (arith, front_length) in
        let a = length-append (globals_of files) rest in
        let b = globals_length files full in
        let d = length-drop (all_words files) st.behind in
        let le = room in
        record {
          stack_free = old.stack_free;
          heap_free = old.heap_free;
          words = ap (words_with (image_for (map file_of bs)) files) old.words ∙ words_are files (image_for (map file_of bs)) front_words st.behind _ next full room;
          globals_size = let g = old.globals_size in omega (arith, g, a, b, d, le);
          stack_size = old.stack_size;
          heap_size = old.heap_size;
          stack = old.stack;
          heap_next = old.heap_next;
          turns = refl;
          out = refl;
          modules_fine = old.modules_fine;
          calls_fine = tt;
          objects_fine = old.objects_fine;
        }

    abbrev en : Ended
    en = ended s system new m x

    alike : Alike commands bodies B s.heap few all l m x plan.command s0 (runs (image_for (map file_of all)) (command_at 0 m x (map file_of all)) (length bs) (length new) (begin words2 heap s.turns)) en
    alike = all_run commands bodies B s.heap few all l m x plan.command new bs P refl st.program rest s0 (begin words2 heap s.turns) refl entered

    abbrev r : Ran
    r = came (image_for (map file_of all)) (map file_of all) (runs (image_for (map file_of all)) (command_at 0 m x (map file_of all)) (length bs) (length new) (begin words2 heap s.turns))

    r_is : ran_over s bs words heap new m x ≡ r
    r_is =
        let fs = map file_of bs in
        let w = begin words2 heap s.turns in
        let i : image_of (image_for fs) files ≡ image_for (map file_of all) = sym (image_both fs files empty_image) ∙ ap (image_of empty_image) (sym (map_both file_of bs new)) in
        ran_is fs files words heap m x s.turns
        ∙ ap (λ g. came (image_of (image_for fs) files) g (runs (image_of (image_for fs) files) (command_at 0 m x g) (length fs) (length files) w)) (sym (map_both file_of bs new))
        ∙ ap (λ i. came i (map file_of all) (runs i (command_at 0 m x (map file_of all)) (length fs) (length files) w)) i
        ∙ ap (λ n. came (image_for (map file_of all)) (map file_of all) (runs (image_for (map file_of all)) (command_at 0 m x (map file_of all)) n (length files) w)) (length_map file_of bs)
        ∙ ap (λ n. came (image_for (map file_of all)) (map file_of all) (runs (image_for (map file_of all)) (command_at 0 m x (map file_of all)) (length bs) n w)) (length_map file_of new)

    -- how many have joined
    many : length en.system.program ≡ length alike.bs
    many = ap length alike.program ∙ length_map tree_of alike.bs

    joined_is : joined all en ≡ alike.bs
    joined_is = ap (λ n. take n all) many ∙ ap (take (length alike.bs)) alike.split ∙ take-append_seam alike.bs alike.more

    same_run : IsSameRun all r en
    same_run = record {
      outcome = alike.outcome;
      text = sym alike.text;
      loaded = ap (λ n. take n (map file_of all)) (alike.count ∙ sym many) ∙ take_map file_of (length en.system.program) all;
    }

    later : Standing (joined all en) en.system r.words r.heap
    later = subst (λ bs. Standing bs en.system r.words r.heap) (sym joined_is) (record {
      loaded = front B s.heap few all l alike.bs alike.more en.system.program alike.split alike.program;
      program = alike.program;
      behind = alike.behind;
      stands = stands_small B s.heap few all l alike.bs alike.more en.system.program alike.split alike.program alike.behind (kept_with en.system 0) (world_with r.words r.heap 0) alike.stands;
    })

  -- ALL COMMANDS

  all_stand_for : (n : ℕ) (bs : List Build) (system : System) (words : List ℤ) (heap : ℕ) → Standing bs system words heap → StandFor n s bs system words heap
  all_stand_for zero bs system words heap st = tt
  all_stand_for (suc n) bs system words heap st = λ new m x together plan.
      subst (λ (r : Ran). IsSameRun (bs ++ new) r (ended s system new m x) × StandFor n s (joined (bs ++ new) (ended s system new m x)) (ended s system new m x).system r.words r.heap) (sym (r_is bs system words heap st new m x together plan))
      (same_run bs system words heap st new m x together plan, all_stand_for n _ _ _ _ (later bs system words heap st new m x together plan))

  -- THE FIRST

  free : ℕ → List ℤ
  free n = replicate n (pos 0)

  free_length : (n : ℕ) → length (free n) ≡ n
  unfolding free
  free_length n = length-replicate n (pos 0)

  free_parts : (n a b d : ℕ) → n ≡ a + (b + d) → replicate n (pos 0) ≡ free a ++ (free b ++ free d)
  unfolding free
  free_parts n a b d e = ap zeros e ∙ sym (zeros_both a (b + d)) ∙ ap (λ l. zeros a ++ l) (sym (zeros_both b d))

  none_loaded : AreEntered []
  none_loaded = record { loaded = record { together = tt; few = omega arith }; words = omega arith }

  first : Standing [] nothing_loaded (made s.heap).words (made s.heap).heap
  first =
      let d = setting B s.heap few [] none_loaded [] [] [] (sym (append-nil [])) refl (free 262144) in
      let a = free_length 262144 in
      let b = free_length 1048576 in
      let h = free_length s.heap in
      let g = d.globals in
      let k = d.stack in
      record {
        loaded = none_loaded;
        program = refl;
        behind = free 262144;
        stands = record {
          stack_free = free 1048576;
          heap_free = free s.heap;
          words = free_parts (1310720 + s.heap) 262144 1048576 s.heap (omega arith);
          globals_size = omega (arith, a, g);
          stack_size = omega (arith, b, k);
          heap_size = omega (arith, h);
          stack = omega (arith, g);
          heap_next = omega (arith, g, k);
          turns = refl;
          out = refl;
          modules_fine = tt;
          calls_fine = tt;
          objects_fine = tt;
        };
      }

  pub commands_stand : (n : ℕ) → StandFor n s [] nothing_loaded (made s.heap).words (made s.heap).heap
  commands_stand n = all_stand_for n [] nothing_loaded (made s.heap).words (made s.heap).heap first
