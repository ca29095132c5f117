-- Lines that compile nothing, over a library of one age.
use Rattle.std.proofs.Common.{◌≡◌, ℕ, ◌+◌, ◌≤◌, List, [], ◌∷◌, ◌++◌, length, refl, sym, subst, arith, Option, Some, Result, Ok, Err, ⊎_elim, inl, inr}
use Rattle.std.specs.Prelude.{suc, map, Contains}
use Rattle.std.specs.List.{AllByRecursion}
use Rattle.ob_env.specs.Faces.{Face, text_in}
use Rattle.ob_compile_model.specs.Compiling.{imported}
use Rattle.ob_demo.specs.Source.{module_name}
use Rattle.ob_link.specs.Plan as load
use Rattle.ob_link.specs.Files.{Files}
use Rattle.ob_shell_lines.specs.Lines.{Line, Compile, Compare, Check, Make, Show, Demo, Command, Unknown, Nothing, line_of}
use Rattle.ob_words.specs.declared.asked.Settings.{Settings}
use Rattle.ob_builds.specs.Builds.{Text, Build}
use Rattle.ob_builds.specs.Simulated.{ended}
use Rattle.ob_shell_model.specs.Bytes.{source_name}
use Rattle.ob_make.specs.declared.turns.Turn.TheVariants as turn
use Rattle.ob_make.specs.Folder.{source_name as source_file}
use Rattle.ob_shell_model.specs.Folds.{made_by, world_from}
use Rattle.ob_shell_model.specs.Making.{HasTurn, turn_at}
use Rattle.ob_shell_model.specs.Library.{Library, IsLibrary}
use Rattle.ob_shell_model.specs.Model.{World, start, answer, interface_in, with_source, load_answer, build_plan, demo_behind, maker}
use Rattle.ob_shell_model.specs.Headline.{IsIn}
use Rattle.ob_shell_model.specs.OneAge.{OfBuilds, ByCompile, ByCheck, IsNeeded, ByLoad, ByDemo, ByMake, ByLine, StandsAsCompared, AreOfOneAge, StandsInOneAge, IsOfOneAge, CompilesNothing}
use Rattle.law_builds.proofs.Members.{to_in, has_right, has_head, has_none, has_take, has_either}
use Rattle.law_builds.proofs.Again.{IsHeld, AreHeld, walk_again}
use Rattle.law_session.specs.New.{NewIsValid}
use Rattle.law_session.specs.OneAge.{WorldsGiveOneAge, OneAgeStays}
use Rattle.law_session.proofs.New.{new_is_valid}
use Rattle.law_session.proofs.Libraries.{library_stays, line_good}
use Rattle.law_session.proofs.LoadLaw.{plan_found}
use Rattle.law_session.proofs.Spoken.{ShownAmong, shown_among, found_build, found_named}
use Rattle.law_session.proofs.Told.{held_in, IsFresh, AreFresh, fresh_behind}
use Rattle.law_session.proofs.Made.{library_at}

-- what is of one age needs no prints
pub compared_so : (s : Settings) (l : Library) (files : Files) (script : List ℕ) → StandsInOneAge s files l script → StandsAsCompared s files l script
compared_so s l files script h = record { library = h.library; kept = h.kept; told = λ kept found c same. h.age kept found c }

-- WORLDS OF ONE AGE

in_compile : (v : World) → IsLibrary v.library → IsOfOneAge v → (source : Option (List ℕ)) (kept found : Text) → ByCompile v.library source kept found → kept ≡ found
in_compile v library age source kept found c =
    let held : AreHeld (interface_in v.library) c.2 = (walk_again (interface_in v.library) (found_named v.library library) c.1.name.name (map imported c.1.imports) c.2 c.5).1 in
    let by : IsHeld (interface_in v.library) c.6 = held_in v.library c.2 c.6 held (to_in c.2 c.6 c.7) in
    let u = c.8 in
    let s : ShownAmong c.2 u.0.object u.0.aspect found = shown_among c.2 u.0.object u.0.aspect found u.3 in
    let from : IsHeld (interface_in v.library) s.face = held_in v.library c.2 s.face held s.among in
    let b = found_build v.library by.0 c.6 by.1 in
    let d = found_build v.library from.0 s.face from.1 in
    age b.0 d.0 (inl b.1) (inl d.1) kept found (
      u.0,
      subst (λ (f : Face Text). Contains f.uses u.0) (sym b.2) u.1,
      u.2,
      subst (λ (f : Face Text). text_in (f ∷ []) u.0.object u.0.aspect ≡ Some found) (sym d.2) s.shows,
    )

in_load : (v : World) → IsOfOneAge v → (m : List ℕ) (kept found : Text) → ByLoad v.library v.loaded m kept found → kept ≡ found
in_load v age m kept found c =
    age c.0 c.1 (inl (c.2.1, inl c.2.3))
    (⊎_elim (λ (d : IsNeeded v.library m c.1). inl (d.1, inl d.3)) (λ (i : Contains v.loaded c.1). inr i) c.3)
    kept found c.4

module _ (valid : NewIsValid) (s : Settings) where
  in_demo : (n : ℕ) → ((k : ℕ) (x : ℕ × World) → k ≤ n → demo_behind n k ≡ Some x → IsOfOneAge x.1) → (kept found : Text) → ByDemo n kept found → kept ≡ found
  in_demo n age kept found c =
      let f : IsFresh c.1 = subst AreFresh c.2 (fresh_behind valid n c.0) in
      ⊎_elim
      (λ (d : (suc c.0 ≤ n) × ByCompile c.1.1.library ((with_source c.1.1 n (suc c.0)).files (source_name (suc c.0))) kept found).
      let le = d.0 in
      in_compile c.1.1 f.0 (age c.0 c.1 (omega (arith, le)) c.2) ((with_source c.1.1 n (suc c.0)).files (source_name (suc c.0))) kept found d.1)
      (λ (d : (c.0 ≡ n) × ByLoad c.1.1.library c.1.1.loaded (module_name n) kept found).
      let is = d.0 in
      in_load c.1.1 (age c.0 c.1 (omega (arith, is)) c.2) (module_name n) kept found d.1)
      c.3

  in_make : (v : World) → IsLibrary v.library → (m : List ℕ) → ((x : List ℕ) (u : World) → HasTurn maker m v x u → IsOfOneAge u) → (kept found : Text) → ByMake v m kept found → kept ≡ found
  in_make v library m turns kept found c =
      let age : IsOfOneAge c.1 = turns c.0 c.1 c.2 in
      ⊎_elim
      (λ (d : ByCheck c.1.library c.0 kept found). age d.0 d.1 (inl (c.0, inl d.3)) (inl (d.2, inr d.4)) kept found d.5)
      (λ (d : (turn_at maker m c.1 c.0 ≡ turn.Compiles) × ByCompile c.1.library (c.1.files (source_file c.0)) kept found).
      in_compile c.1 (library_at valid m v c.0 c.1 library c.2) age (c.1.files (source_file c.0)) kept found d.1)
      c.3

  in_line : (v : World) → IsLibrary v.library → IsOfOneAge v → (line : Line) → ((n k : ℕ) (x : ℕ × World) → line ≡ Demo n → k ≤ n → demo_behind n k ≡ Some x → IsOfOneAge x.1) → ((m x : List ℕ) (u : World) → line ≡ Make m → HasTurn maker m v x u → IsOfOneAge u) → (kept found : Text) → ByLine v line kept found → kept ≡ found
  in_line v library age (Compile name) demos turns kept found c = in_compile v library age (v.files name) kept found c
  in_line v library age (Compare old new) demos turns kept found c = absurd c
  in_line v library age (Check m) demos turns kept found c = age c.0 c.1 (inl (m, inl c.3)) (inl (c.2, inr c.4)) kept found c.5
  in_line v library age (Make m) demos turns kept found c = in_make v library m (λ x u t. turns m x u refl t) kept found c
  in_line v library age (Show m) demos turns kept found c = absurd c
  in_line v library age (Demo n) demos turns kept found c = in_demo n (λ k x le e. demos n k x refl le e) kept found c
  in_line v library age (Command m name) demos turns kept found c = in_load v age m kept found c
  in_line v library age Unknown demos turns kept found c = absurd c
  in_line v library age Nothing demos turns kept found c = absurd c

  library_behind : (past : List (List ℕ)) (v : World) (n : ℕ) → IsLibrary v.library → IsLibrary (world_from (answer s) v n past).library
  unfolding world_from
  library_behind [] v n h = h
  library_behind (p ∷ past) v n h =
      let g = line_good valid s v n (line_of p) h in
      library_behind past (answer s v n (line_of p)).world (n + 1) (subst IsLibrary (sym g.1) (library_stays (made_by (answer s v n (line_of p)).parts) v.library h g.0))

pub worlds_so : WorldsGiveOneAge
worlds_so k s l files script library kept h = record {
  library = library;
  kept = kept;
  age = λ a b c. in_line (new_is_valid k.written) s (world_from (answer s) (start files l) 1 c.0) (library_behind (new_is_valid k.written) s c.0 (start files l) 1 library)
      (h.worlds c.0 (c.2 ∷ c.1) c.3) (line_of c.2)
      (λ n j x e le is. h.demos n j c.2 x (subst (λ ls. Contains ls c.2) (sym c.3) (has_right c.0 (c.2 ∷ c.1) c.2 (has_head c.2 c.1))) e le is)
      (λ m x u e t. h.turns c.0 c.1 c.2 m x u c.3 e t)
      a b c.4;
}

-- LINES THAT COMPILE NOTHING

-- a world whose library is of one age, and has the loaded builds
record Still (v : World) : Type 0 where
  library : IsLibrary v.library
  age : (b d : Build) → IsIn v.library b → IsIn v.library d → AreOfOneAge (OfBuilds b d)
  loaded : (b : Build) → Contains v.loaded b → IsIn v.library b

module _ (s : Settings) where
  of_line : (v : World) → Still v → (line : Line) → CompilesNothing line → (kept found : Text) → ByLine v line kept found → kept ≡ found
  of_line v h (Compile name) n kept found c = absurd n
  of_line v h (Compare old new) n kept found c = absurd c
  of_line v h (Check m) n kept found c = h.age c.0 c.1 (m, inl c.3) (c.2, inr c.4) kept found c.5
  of_line v h (Make m) n kept found c = absurd n
  of_line v h (Show m) n kept found c = absurd c
  of_line v h (Demo k) n kept found c = absurd n
  of_line v h (Command m name) n kept found c =
      h.age c.0 c.1 (c.2.1, inl c.2.3)
      (⊎_elim (λ (d : IsNeeded v.library m c.1). (d.1, inl d.3)) (λ (i : Contains v.loaded c.1). h.loaded c.1 i) c.3)
      kept found c.4
  of_line v h Unknown n kept found c = absurd c
  of_line v h Nothing n kept found c = absurd c

  behind_load : (v : World) (m name : List ℕ) (r : Result (List Build) (load.Refusal Text)) → ((bs : List Build) → r ≡ Ok bs → (b : Build) → Contains bs b → IsIn v.library b) → Still v → Still (load_answer s v m name r).world
  behind_load v m name (Err r) found h = h
  behind_load v m name (Ok bs) found h = record {
    library = h.library;
    age = h.age;
    loaded = λ b i.
        let e = ended s v.system bs m name in
        ⊎_elim (λ (c : Contains v.loaded b). h.loaded b c) (λ (c : Contains bs b). found bs refl b c) (has_either v.loaded bs b (has_take (length e.system.program) (v.loaded ++ bs) b i));
  }

  behind : (v : World) (n : ℕ) (line : Line) → CompilesNothing line → Still v → Still (answer s v n line).world
  behind v n (Compile name) c h = absurd c
  behind v n (Compare old new) c h = h
  behind v n (Check m) c h = h
  behind v n (Make m) c h = absurd c
  behind v n (Show m) c h = h
  behind v n (Demo k) c h = absurd c
  behind v n (Command m name) c h = behind_load v m name (build_plan v.library v.loaded m name) (λ bs e. plan_found v.library h.library v.loaded m name bs e) h
  behind v n Unknown c h = h
  behind v n Nothing c h = h

  of_lines : (past rest : List (List ℕ)) (l : List ℕ) (v : World) (n : ℕ) → AllByRecursion (λ text. CompilesNothing (line_of text)) (past ++ l ∷ rest) → Still v → (kept found : Text) → ByLine (world_from (answer s) v n past) (line_of l) kept found → kept ≡ found
  unfolding world_from
  of_lines [] rest l v n c h kept found b = of_line v h (line_of l) c.0 kept found b
  of_lines (p ∷ past) rest l v n c h kept found b = of_lines past rest l (answer s v n (line_of p)).world (n + 1) c.1 (behind v n (line_of p) c.0 h) kept found b

pub stays : OneAgeStays
stays s l files script library kept age nothing = record {
  library = library;
  kept = kept;
  age = λ a b c. of_lines s c.0 c.1 c.2 (start files l) 1 (subst (AllByRecursion (λ text. CompilesNothing (line_of text))) c.3 nothing)
      (record { library = library; age = λ b d i j. age b d (inl i) (inl j); loaded = λ x i. absurd (has_none x i) }) a b c.4;
}
