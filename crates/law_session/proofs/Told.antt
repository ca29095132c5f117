-- Where no two texts of the builds spoken of have one print, prints tell apart all that a session compares.
use Rattle.std.proofs.Common.{◌≡◌, ℕ, ◌+◌, ◌≤◌, List, [], ◌∷◌, ◌++◌, true, false, length, refl, sym, subst, Option, Some, None, Result, Ok, Err, ⊎_elim, inl, inr, Bool, arith}
use Rattle.std.specs.Prelude.{zero, suc, map, Contains, ◌⊎◌}
use Rattle.ob_env.specs.Faces.{Face}
use Rattle.ob_link.specs.Plan as load
use Rattle.ob_link.specs.Plan.{Entry, Holds}
use Rattle.ob_compile_model.specs.Compiling as compile
use Rattle.ob_compile_model.specs.Compiling.{Compiled, imported}
use Rattle.ob_demo.specs.Source.{module_name}
use Rattle.ob_link.specs.Files.{Files}
use Rattle.ob_shell_lines.specs.Lines.{Line, Compile, Compare, Check, Make, Show, Demo, Command, Unknown, Nothing, line_of, done_lines}
use Rattle.ob_words.specs.declared.asked.Settings.{Settings}
use Rattle.ob_builds.specs.Builds.{Text, Build, IsValid, shows_of}
use Rattle.ob_builds.specs.Apart.{IsTextOfBuild}
use Rattle.ob_builds.specs.Simulated.{ended}
use Rattle.ob_shell_model.specs.Bytes.{source_name}
use Rattle.ob_make.specs.declared.turns.Turn.TheVariants as turn
use Rattle.ob_make.specs.Order.{order}
use Rattle.ob_make.specs.Folder.{source_name as source_file}
use Rattle.ob_shell_model.specs.Folds.{made_by, changes_from, world_from}
use Rattle.ob_shell_model.specs.Making.{turn_at, make_answer}
use Rattle.ob_shell_model.specs.Library.{Library, IsLibrary, IsEntry, ObjectBecomes}
use Rattle.ob_shell_model.specs.Model.{World, Making, start, answer, interface_in, becomes, new_build, or_empty, with_source, compiled_in, load_answer, build_plan, demo_answer, demo_behind, made_of, made_one, and_more, seen_in, maker}
use Rattle.ob_shell_model.specs.Headline.{IsIn, IsOfDemo, IsText, Stands}
use Rattle.ob_shell_model.specs.OneAge.{ByCompile, ByCheck, IsNeeded, ByLoad, ByDemo, ByMake, ByLine, StandsAsCompared}
use Rattle.law_builds.proofs.Members.{In, to_in, has_left, has_right, has_more, has_head, has_none, has_take, has_either}
use Rattle.law_builds.proofs.Again.{IsHeld, AreHeld, walk_again}
use Rattle.law_session.specs.New.{NewIsValid}
use Rattle.law_session.proofs.Libraries.{library_stays, becomes_good, new_valid, line_good}
use Rattle.law_session.proofs.Made.{IsThere, IsMadeIn, by_compile, make_from, at_turn, library_at}
use Rattle.law_session.proofs.LoadLaw.{plan_found}
use Rattle.law_session.proofs.Spoken.{IsKeptBy, ShownAmong, shown_among, of_build, spoken, found_named}

-- WHAT IS COMPARED WHERE ALL TEXTS ARE AMONG SOME

-- all texts of the builds of a library are such
abbrev AreOf : (Text → Type 0) → Library → Type 0
AreOf P l = (b : Build) → IsIn l b → (t : Text) → IsTextOfBuild b t → P t

abbrev Both : (Text → Type 0) → Text → Text → Type 0
Both P kept found = P kept × P found

pub held_in : (l : Library) (fs : List (Face Text)) (f : Face Text) → AreHeld (interface_in l) fs → In fs f → IsHeld (interface_in l) f
held_in l [] f h i = absurd i
held_in l (g ∷ fs) f h (inl e) = subst (IsHeld (interface_in l)) e h.0
held_in l (g ∷ fs) f h (inr i) = held_in l fs f h.1 i

valid_of : (l : Library) → IsLibrary l → (b : Build) → IsIn l b → (c : Compiled Text) × IsValid b c
valid_of l library b i = ⊎_elim
    (λ (o : l.objects i.0 ≡ Holds b). let k : IsEntry i.0 (Holds b) = subst (IsEntry i.0) o (library.objects i.0) in (k.0, k.1))
    (λ (o : l.symbols i.0 ≡ Holds b). let k : IsEntry i.0 (Holds b) = subst (IsEntry i.0) o (library.symbols i.0) in (k.0, k.1))
    i.1

-- a text that a use of a build keeps, and one that a build shows
kept_of : (l : Library) → IsLibrary l → (b : Build) → IsIn l b → (t : Text) → IsKeptBy (shows_of b) t → IsTextOfBuild b t
kept_of l library b i t k = let v = valid_of l library b i in of_build b v.0 v.1 t (inr k)

module _ (P : Text → Type 0) (l : Library) (library : IsLibrary l) (all : AreOf P l) where
  in_compile : (source : Option (List ℕ)) (kept found : Text) → ByCompile l source kept found → Both P kept found
  in_compile source kept found c =
      let held : AreHeld (interface_in l) c.2 = (walk_again (interface_in l) (found_named l library) c.1.name.name (map imported c.1.imports) c.2 c.5).1 in
      let by : IsHeld (interface_in l) c.6 = held_in l c.2 c.6 held (to_in c.2 c.6 c.7) in
      let u = c.8 in
      let k = spoken l library by.0 c.6 by.1 kept (inr (u.0, u.1, u.2)) in
      let s : ShownAmong c.2 u.0.object u.0.aspect found = shown_among c.2 u.0.object u.0.aspect found u.3 in
      let from : IsHeld (interface_in l) s.face = held_in l c.2 s.face held s.among in
      let f = spoken l library from.0 s.face from.1 found (inl (u.0.object, u.0.aspect, s.shows)) in
      (all k.0 k.1 kept k.2, all f.0 f.1 found f.2)

  in_check : (m : List ℕ) (kept found : Text) → ByCheck l m kept found → Both P kept found
  in_check m kept found c =
      let u = c.5 in
      let i : IsIn l c.0 = (m, inl c.3) in
      (all c.0 i kept (kept_of l library c.0 i kept (u.0, u.1, u.2)), all c.1 (c.2, inr c.4) found (inl (u.0.object, u.0.aspect, u.3)))

  in_load : (loaded : List Build) → ((b : Build) → Contains loaded b → (t : Text) → IsTextOfBuild b t → P t) → (m : List ℕ) (kept found : Text) → ByLoad l loaded m kept found → Both P kept found
  in_load loaded too m kept found c =
      let u = c.4 in
      let i : IsIn l c.0 = (c.2.1, inl c.2.3) in
      let shown : IsTextOfBuild c.1 found = inl (u.0.object, u.0.aspect, u.3) in (
        all c.0 i kept (kept_of l library c.0 i kept (u.0, u.1, u.2)),
        ⊎_elim (λ (n : IsNeeded l m c.1). all c.1 (n.1, inl n.3) found shown) (λ (n : Contains loaded c.1). too c.1 n found shown) c.3,
      )

-- ---- the worlds of a demo

abbrev none_or : Making → Bool
none_or None = false
none_or (Some x) = true

-- they have libraries, and nothing is loaded
abbrev pub IsFresh : ℕ × World → Type 0
IsFresh x = IsLibrary x.1.library × (x.1.loaded ≡ [])

abbrev pub AreFresh : Making → Type 0
AreFresh None = Unit {0}
AreFresh (Some x) = IsFresh x

fresh_made : NewIsValid → (objects : ℕ) (w : World) (text : List ℕ) (r : Result (Compiled Text) (compile.Refusal Text)) → ((c : Compiled Text) → r ≡ Ok c → IsValid (new_build text c) c) → IsFresh (objects, w) → AreFresh (made_of objects w text r)
fresh_made valid objects w text (Ok c) v h = (library_stays (becomes text c) w.library h.0 (becomes_good text c (v c refl)), h.1)
fresh_made valid objects w text (Err r) v h = tt

fresh_one : NewIsValid → (n i : ℕ) (m : Making) → AreFresh m → AreFresh (and_more m (made_one n i))
fresh_one valid n i None h = tt
fresh_one valid n i (Some x) h =
    let there = with_source x.1 n i in
    fresh_made valid x.0 there (or_empty (there.files (source_name i))) (compiled_in there (there.files (source_name i)))
    (λ c e. new_valid valid there.library h.0 (there.files (source_name i)) c e) h

pub fresh_behind : NewIsValid → (n k : ℕ) → AreFresh (demo_behind n k)
unfolding demo_behind
fresh_behind valid n zero = (record { objects = λ name. tt; symbols = λ name. tt }, refl)
fresh_behind valid n (suc k) = fresh_one valid n (suc k) (demo_behind n k) (fresh_behind valid n k)

-- WHAT LINES COMPARE

-- a build that the lines from here on make, or a demo among them
abbrev IsToCome : Settings → World → ℕ → List (List ℕ) → Build → Type 0
IsToCome s v n rest b = ((name : List ℕ) × Contains (changes_from (answer s) v n rest) (ObjectBecomes name b)) ⊎ IsOfDemo rest b

-- In a world before some lines: all texts of its builds, and of those to come, are such.
record Before (s : Settings) (P : Text → Type 0) (v : World) (n : ℕ) (rest : List (List ℕ)) : Type 0 where
  library : IsLibrary v.library
  texts : (b : Build) → IsIn v.library b ⊎ Contains v.loaded b → (t : Text) → IsTextOfBuild b t → P t
  to_come : (b : Build) → IsToCome s v n rest b → (t : Text) → IsTextOfBuild b t → P t

module _ (valid : NewIsValid) (s : Settings) (P : Text → Type 0) where
  in_demo : (n : ℕ) → ((k : ℕ) (x : ℕ × World) → k ≤ n → demo_behind n k ≡ Some x → AreOf P x.1.library) → (kept found : Text) → ByDemo n kept found → Both P kept found
  in_demo n all kept found c =
      let f : IsFresh c.1 = subst AreFresh c.2 (fresh_behind valid n c.0) in
      ⊎_elim
      (λ (d : (suc c.0 ≤ n) × ByCompile c.1.1.library ((with_source c.1.1 n (suc c.0)).files (source_name (suc c.0))) kept found).
      let le = d.0 in
      in_compile P c.1.1.library f.0 (all c.0 c.1 (omega (arith, le)) c.2) ((with_source c.1.1 n (suc c.0)).files (source_name (suc c.0))) kept found d.1)
      (λ (d : (c.0 ≡ n) × ByLoad c.1.1.library c.1.1.loaded (module_name n) kept found).
      let is = d.0 in
      in_load P c.1.1.library f.0 (all c.0 c.1 (omega (arith, is)) c.2) c.1.1.loaded
      (λ b i. absurd (has_none b (subst (λ bs. Contains bs b) f.1 i))) (module_name n) kept found d.1)
      c.3

  -- what the first line makes is to come
  now : (v : World) (n : ℕ) (l : List ℕ) (ls : List (List ℕ)) (name : List ℕ) (b : Build) → Contains (made_by (answer s v n (line_of l)).parts) (ObjectBecomes name b) → IsToCome s v n (l ∷ ls) b
  unfolding changes_from
  now v n l ls name b c = let a = answer s v n (line_of l) in inl (name, has_left (made_by a.parts) (changes_from (answer s) a.world (n + 1) ls) (ObjectBecomes name b) c)

  -- the turns of a make
  in_make : (v : World) (n : ℕ) (l : List ℕ) (ls : List (List ℕ)) → Before s P v n (l ∷ ls) → (m : List ℕ) → line_of l ≡ Make m → (kept found : Text) → ByMake v m kept found → Both P kept found
  in_make v n l ls h m e kept found c =
      let library : IsLibrary c.1.library = library_at valid m v c.0 c.1 h.library c.2 in
      let all : AreOf P c.1.library = λ b i t x. ⊎_elim
      (λ (j : IsThere v b). h.texts b j t x)
      (λ (k : IsMadeIn (make_answer maker m v) b). h.to_come b (now v n l ls k.0 b (subst (λ z. Contains (made_by (answer s v n z).parts) (ObjectBecomes k.0 b)) (sym e) k.1)) t x)
      (at_turn m v c.0 c.1 c.2 b (inl i)) in
      ⊎_elim
      (λ (d : ByCheck c.1.library c.0 kept found). in_check P c.1.library library all c.0 kept found d)
      (λ (d : (turn_at maker m c.1 c.0 ≡ turn.Compiles) × ByCompile c.1.library (c.1.files (source_file c.0)) kept found). in_compile P c.1.library library all (c.1.files (source_file c.0)) kept found d.1)
      c.3

  in_line : (v : World) (n : ℕ) (l : List ℕ) (ls : List (List ℕ)) → Before s P v n (l ∷ ls) → (line : Line) → line_of l ≡ line → (kept found : Text) → ByLine v line kept found → Both P kept found
  in_line v n l ls h (Compile name) e kept found c = in_compile P v.library h.library (λ b i t x. h.texts b (inl i) t x) (v.files name) kept found c
  in_line v n l ls h (Compare old new) e kept found c = absurd c
  in_line v n l ls h (Check m) e kept found c = in_check P v.library h.library (λ b i t x. h.texts b (inl i) t x) m kept found c
  in_line v n l ls h (Make m) e kept found c = in_make v n l ls h m e kept found c
  in_line v n l ls h (Show m) e kept found c = absurd c
  in_line v n l ls h (Demo k) e kept found c = in_demo k (λ j x le is b i t y. h.to_come b (inr (k, j, l, x, has_head l ls, e, le, is, i)) t y) kept found c
  in_line v n l ls h (Command m name) e kept found c = in_load P v.library h.library (λ b i t x. h.texts b (inl i) t x) v.loaded (λ b i t x. h.texts b (inr i) t x) m kept found c
  in_line v n l ls h Unknown e kept found c = absurd c
  in_line v n l ls h Nothing e kept found c = absurd c

  -- ---- the builds behind a line were there before it, or the line made them

  by_load : (v : World) (m name : List ℕ) (r : Result (List Build) (load.Refusal Text)) → ((bs : List Build) → r ≡ Ok bs → (b : Build) → Contains bs b → IsIn v.library b) → (b : Build) → IsThere (load_answer s v m name r).world b → IsThere v b
  by_load v m name (Err r) found b i = i
  by_load v m name (Ok bs) found b (inl i) = inl i
  by_load v m name (Ok bs) found b (inr i) =
      let e = ended s v.system bs m name in
      ⊎_elim (λ (c : Contains v.loaded b). inr c) (λ (c : Contains bs b). inl (found bs refl b c)) (has_either v.loaded bs b (has_take (length e.system.program) (v.loaded ++ bs) b i))

  by_demo : (v : World) (k : ℕ) (m : Making) (b : Build) → IsThere (demo_answer s v k m).world b → IsThere v b
  by_demo v k None b i = i
  by_demo v k (Some x) b i = i

  by_line : (v : World) (n : ℕ) (line : Line) → IsLibrary v.library → (b : Build) → IsThere (answer s v n line).world b → IsThere v b ⊎ IsMadeIn (answer s v n line) b
  by_line v n (Compile name) h b i = by_compile v name (or_empty (v.files name)) (compiled_in v (v.files name)) b i
  by_line v n (Compare old new) h b i = inl i
  by_line v n (Check m) h b i = inl i
  by_line v n (Make m) h b i = make_from m (order (seen_in v) m) v b i
  by_line v n (Show m) h b i = inl i
  by_line v n (Demo k) h b i = inl (by_demo v k (demo_behind k k) b i)
  by_line v n (Command m name) h b i = inl (by_load v m name (build_plan v.library v.loaded m name) (λ bs e. plan_found v.library h v.loaded m name bs e) b i)
  by_line v n Unknown h b i = inl i
  by_line v n Nothing h b i = inl i

  -- what is to come behind a line was to come before it
  later : (v : World) (n : ℕ) (l : List ℕ) (ls : List (List ℕ)) (b : Build) → IsToCome s (answer s v n (line_of l)).world (n + 1) ls b → IsToCome s v n (l ∷ ls) b
  unfolding changes_from
  later v n l ls b (inl c) = let a = answer s v n (line_of l) in inl (c.0, has_right (made_by a.parts) (changes_from (answer s) a.world (n + 1) ls) (ObjectBecomes c.0 b) c.1)
  later v n l ls b (inr d) = inr (d.0, d.1, d.2, d.3, has_more l ls d.2 d.4, d.5, d.6, d.7, d.8)

  behind : (v : World) (n : ℕ) (l : List ℕ) (ls : List (List ℕ)) → Before s P v n (l ∷ ls) → Before s P (answer s v n (line_of l)).world (n + 1) ls
  behind v n l ls h =
      let a = answer s v n (line_of l) in
      let g = line_good valid s v n (line_of l) h.library in
      record {
        library = subst IsLibrary (sym g.1) (library_stays (made_by a.parts) v.library h.library g.0);
        texts = λ b i t x. ⊎_elim
            (λ (j : IsThere v b). h.texts b j t x)
            (λ (c : IsMadeIn a b). h.to_come b (now v n l ls c.0 b c.1) t x)
            (by_line v n (line_of l) h.library b i);
        to_come = λ b i t x. h.to_come b (later v n l ls b i) t x;
      }

  compared : (past rest : List (List ℕ)) (l : List ℕ) (v : World) (n : ℕ) → Before s P v n (past ++ l ∷ rest) → (kept found : Text) → ByLine (world_from (answer s) v n past) (line_of l) kept found → Both P kept found
  unfolding world_from
  compared [] rest l v n h kept found c = in_line v n l rest h (line_of l) refl kept found c
  compared (p ∷ past) rest l v n h kept found c = compared past rest l (answer s v n (line_of p)).world (n + 1) (behind v n p (past ++ l ∷ rest) h) kept found c

-- THE PREMISE on what is compared, from that on the texts of the builds spoken of
pub told_so : NewIsValid → (s : Settings) (files : Files) (l : Library) (script : List ℕ) → Stands s files l script → StandsAsCompared s files l script
told_so valid s files l script h =
    let P : Text → Type 0 = IsText s files l script in
    let first : Before s P (start files l) 1 (done_lines script) = record {
      library = h.library;
      texts = λ b i t x. ⊎_elim (λ (i : IsIn l b). (b, inl i, x)) (λ n. absurd (has_none b n)) i;
      to_come = λ b i t x. (b, inr i, x);
    } in
    record {
      library = h.library;
      kept = h.kept;
      told = λ kept found c same.
          let both = compared valid s P c.0 c.1 c.2 (start files l) 1 (subst (Before s P (start files l) 1) c.3 first) kept found c.4 in
          h.apart kept found both.0 both.1 same;
    }
