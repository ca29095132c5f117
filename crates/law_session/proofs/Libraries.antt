-- What the changes of a session make of a library is a library.
use Rattle.std.proofs.Common.{◌≡◌, ℕ, ◌+◌, List, [], ◌∷◌, ◌++◌, Bool, true, false, cond, length, take, refl, sym, ap, ◌∙◌, subst, Option, Some, None, Result, Ok, Err, ⊎_elim}
use Rattle.std.specs.Prelude.{zero, suc}
use Rattle.std.specs.List.{AllByRecursion}
use Rattle.ob_link.specs.Plan as load
use Rattle.ob_link.specs.Plan.{Entry, Holds}
use Rattle.ob_compile_model.specs.Compiling as compile
use Rattle.ob_compile_model.specs.Compiling.{Compiled, compiled, texts}
use Rattle.ob_shell_lines.specs.Lines as line
use Rattle.ob_shell_lines.specs.Lines.{Line, line_of}
use Rattle.ob_words.specs.declared.asked.Settings.{Settings}
use Rattle.ob_builds.specs.Builds.{Text, Build, IsValid, name_of}
use Rattle.ob_make.specs.declared.turns.Turn.{Turn}
use Rattle.ob_make.specs.declared.turns.Turn.TheVariants as turn
use Rattle.ob_make.specs.Order.{MakeEnd, order}
use Rattle.ob_make.specs.Folder.{source_name as source_file}
use Rattle.ob_shell_model.specs.Folds.{Answer, made_by, changes_from}
use Rattle.ob_shell_model.specs.Making.{by_turn, turn_at, in_turn, behind, and_on, behind_turns, made_in}
use Rattle.ob_shell_model.specs.Library.{Library, IsLibrary, IsEntry, Change, ObjectBecomes, SymbolBecomes, with_entry, after, after_all}
use Rattle.ob_shell_model.specs.Model.{World, Making, answer, interface_in, becomes, new_build, or_empty, compile_answer, compiled_in, load_answer, build_plan, demo_answer, demo_behind, seen_in, maker}
use Rattle.law_session.specs.New.{NewIsValid}
use Rattle.law_session.proofs.Parts.{made_append, at_end}
use Rattle.law_session.proofs.Keeping.{same_or}
use Rattle.law_builds.proofs.Compiled.{some_source}
use Rattle.law_builds.proofs.Faces.{of_is}

-- a change to a valid build of the module of its name
abbrev pub IsGood : Change → Type 0
IsGood (ObjectBecomes name b) = IsEntry name (Holds b)
IsGood (SymbolBecomes name b) = IsEntry name (Holds b)

entry_stays : (entries : List ℕ → Entry Build) (name : List ℕ) (b : Build) → ((n : List ℕ) → IsEntry n (entries n)) → IsEntry name (Holds b) → (n : List ℕ) → IsEntry n (with_entry entries name b n)
entry_stays entries name b h g n = ⊎_elim
    (λ s. subst (λ e. IsEntry n e) (sym (ap (λ t. cond t (Holds b) (entries n)) s.1)) (subst (λ m. IsEntry m (Holds b)) (sym s.0) g))
    (λ f. subst (λ e. IsEntry n e) (sym (ap (λ t. cond t (Holds b) (entries n)) f)) (h n))
    (same_or n name)

stays : (l : Library) (c : Change) → IsLibrary l → IsGood c → IsLibrary (after l c)
stays l (ObjectBecomes name b) h g = record { objects = entry_stays l.objects name b h.objects g; symbols = h.symbols }
stays l (SymbolBecomes name b) h g = record { objects = h.objects; symbols = entry_stays l.symbols name b h.symbols g }

pub library_stays : (cs : List Change) (l : Library) → IsLibrary l → AllByRecursion IsGood cs → IsLibrary (after_all l cs)
library_stays [] l h g = h
library_stays (c ∷ cs) l h g = library_stays cs (after l c) (stays l c h g.0) g.1

pub front_good : (k : ℕ) (cs : List Change) → AllByRecursion IsGood cs → AllByRecursion IsGood (take k cs)
front_good zero [] g = tt
front_good zero (c ∷ cs) g = tt
front_good (suc k) [] g = tt
front_good (suc k) (c ∷ cs) g = (g.0, front_good k cs g.1)

behind_good : (cs ds : List Change) → AllByRecursion IsGood cs → AllByRecursion IsGood ds → AllByRecursion IsGood (cs ++ ds)
behind_good [] ds g h = h
behind_good (c ∷ cs) ds g h = (g.0, behind_good cs ds g.1 h)

-- ---- the changes of a line

pub becomes_good : (text : List ℕ) (c : Compiled Text) → IsValid (new_build text c) c → AllByRecursion IsGood (becomes text c)
becomes_good text c v =
    let named : name_of (new_build text c) ≡ c.shows.«module» = ap (λ (x : Compiled Text). x.shows.«module») (of_is (new_build text c) c v) in
    ((c, v, named), ((c, v, named), tt))

-- the changes are good, and the library of the world behind the line is the one after them
abbrev pub IsGoodLine : World → Answer World Change → Type 0
IsGoodLine w a = AllByRecursion IsGood (made_by a.parts) × (a.world.library ≡ after_all w.library (made_by a.parts))

compile_good : (w : World) (name text : List ℕ) (r : Result (Compiled Text) (compile.Refusal Text)) → ((c : Compiled Text) → r ≡ Ok c → IsValid (new_build text c) c) → IsGoodLine w (compile_answer w name text r)
compile_good w name text (Err r) h = (tt, refl)
compile_good w name text (Ok c) h = (becomes_good text c (h c refl), refl)

pub new_valid : NewIsValid → (l : Library) → IsLibrary l → (file : Option (List ℕ)) (c : Compiled Text) → compiled texts (interface_in l) file ≡ Ok c → IsValid (new_build (or_empty file) c) c
new_valid valid l h file c e =
    let x = some_source texts (interface_in l) file c e in
    let is : file ≡ Some (or_empty file) = x.1 ∙ ap (λ (o : Option (List ℕ)). Some (or_empty o)) (sym x.1) in
    valid l (or_empty file) c h (ap (compiled texts (interface_in l)) (sym is) ∙ e)

load_good : (s : Settings) (w : World) (m name : List ℕ) (r : Result (List Build) (load.Refusal Text)) → IsGoodLine w (load_answer s w m name r)
load_good s w m name (Err r) = (tt, refl)
load_good s w m name (Ok new) = (tt, refl)

demo_good : (s : Settings) (w : World) (n : ℕ) (m : Making) → IsGoodLine w (demo_answer s w n m)
demo_good s w n None = (tt, refl)
demo_good s w n (Some x) = (tt, refl)

-- ---- the turns of a make

after_behind : (cs ds : List Change) (l : Library) → after_all l (cs ++ ds) ≡ after_all (after_all l cs) ds
after_behind [] ds l = refl
after_behind (c ∷ cs) ds l = after_behind cs ds (after l c)

on_good : (w : World) (a : Answer World Change) (more : World → Answer World Change) → IsGoodLine w a → IsGoodLine a.world (more a.world) → IsGoodLine w (and_on a more)
on_good w a more g h = go a.refused
  where
    go : (t : Bool) → IsGoodLine w (cond t a (behind a.parts (more a.world)))
    go true = g
    go false =
        let b = more a.world in
        let e = made_append a.parts b.parts in (
          subst (AllByRecursion IsGood) (sym e) (behind_good (made_by a.parts) (made_by b.parts) g.0 h.0),
          h.1 ∙ ap (λ l. after_all l (made_by b.parts)) g.1 ∙ sym (after_behind (made_by a.parts) (made_by b.parts) w.library) ∙ ap (after_all w.library) (sym e),
        )

turn_good : NewIsValid → (m : List ℕ) (w : World) (x : List ℕ) → IsLibrary w.library → IsGoodLine w (in_turn maker m w x)
turn_good valid m w x h = go (turn_at maker m w x)
  where
    go : (t : Turn) → IsGoodLine w (by_turn maker t w x)
    go turn.Stays = (tt, refl)
    go turn.Compiles = compile_good w (source_file x) (or_empty (w.files (source_file x))) (compiled_in w (w.files (source_file x))) (λ c e. new_valid valid w.library h (w.files (source_file x)) c e)
    go turn.LacksSource = (tt, refl)

pub turns_good : NewIsValid → (m : List ℕ) (xs : List (List ℕ)) (w : World) → IsLibrary w.library → IsGoodLine w (behind_turns maker m xs w)
unfolding behind_turns
turns_good valid m [] w h = (tt, refl)
turns_good valid m (x ∷ xs) w h =
    let a = in_turn maker m w x in
    let g = turn_good valid m w x h in
    on_good w a (behind_turns maker m xs) g (turns_good valid m xs a.world (subst IsLibrary (sym g.1) (library_stays (made_by a.parts) w.library h g.0)))

make_good : NewIsValid → (m : List ℕ) (r : Result (List (List ℕ)) MakeEnd) (w : World) → IsLibrary w.library → IsGoodLine w (made_in maker m r w)
make_good valid m (Ok xs) w h = let a = behind_turns maker m xs w in on_good w a (at_end m (length a.parts)) (turns_good valid m xs w h) (tt, refl)
make_good valid m (Err e) w h = (tt, refl)

pub line_good : NewIsValid → (s : Settings) (w : World) (n : ℕ) (l : Line) → IsLibrary w.library → IsGoodLine w (answer s w n l)
line_good valid s w n (line.Compile name) h = compile_good w name (or_empty (w.files name)) (compiled_in w (w.files name)) (λ c e. new_valid valid w.library h (w.files name) c e)
line_good valid s w n (line.Compare old new) h = (tt, refl)
line_good valid s w n (line.Check m) h = (tt, refl)
line_good valid s w n (line.Make m) h = make_good valid m (order (seen_in w) m) w h
line_good valid s w n (line.Show m) h = (tt, refl)
line_good valid s w n (line.Demo k) h = demo_good s w k (demo_behind k k)
line_good valid s w n (line.Command m name) h = load_good s w m name (build_plan w.library w.loaded m name)
line_good valid s w n line.Unknown h = (tt, refl)
line_good valid s w n line.Nothing h = (tt, refl)

-- ---- the changes of lines

pub lines_good : NewIsValid → (s : Settings) (ls : List (List ℕ)) (w : World) (n : ℕ) → IsLibrary w.library → AllByRecursion IsGood (changes_from (answer s) w n ls)
unfolding changes_from
lines_good valid s [] w n h = tt
lines_good valid s (l ∷ ls) w n h =
    let a = answer s w n (line_of l) in
    let g = line_good valid s w n (line_of l) h in
    behind_good (made_by a.parts) (changes_from (answer s) a.world (n + 1) ls) g.0
    (lines_good valid s ls a.world (n + 1) (subst IsLibrary (sym g.1) (library_stays (made_by a.parts) w.library h g.0)))
