-- A demo by files and by builds.
use Rattle.std.proofs.Common.{◌≡◌, ℕ, ◌+◌, ◌≤◌, List, [], ◌++◌, length, refl, sym, ap, ◌∙◌, subst, arith, Some, None, Result, Ok, Err, inl, inr}
use Rattle.std.specs.Prelude.{zero, suc, codes}
use Rattle.ob_tree.specs.declared.print.Print.{Print}
use Rattle.ob_io.specs.Io.{put}
use Rattle.ob_machine.specs.Machine.{made}
use Rattle.ob_meaning.specs.Commands.{nothing_loaded}
use Rattle.ob_env.specs.Faces.{Face}
use Rattle.ob_env_walk.specs.Walk.{symbol_entry}
use Rattle.ob_demo.specs.Source.{source, module_name}
use Rattle.ob_link.specs.Files.{Files}
use Rattle.ob_compile_model.specs.Compiling as compile
use Rattle.ob_compile_model.specs.Compiling.{Compiled, compiled, texts, prints}
use Rattle.ob_words.specs.declared.asked.Settings.{Settings}
use Rattle.ob_shell_reports.specs.Texts.{demo_text}
use Rattle.ob_shell_model.specs.Folds.{printed_by}
use Rattle.ob_shell_model.specs.Bytes as bytes
use Rattle.ob_shell_model.specs.Bytes.{source_name, no_files}
use Rattle.ob_builds.specs.Builds.{Text}
use Rattle.ob_shell_model.specs.Library.{empty}
use Rattle.ob_shell_model.specs.Model.{World, Making, start, interface_in, or_empty, made_of, made_one, with_source, and_more, demo_behind, demo_answer, command_answer}
use Rattle.ob_builds.specs.Written.{BuildsAreWritten}
use Rattle.law_session.specs.New.{NewIsValid}
use Rattle.ob_builds.specs.Simulated.{StandFor}
use Rattle.ob_shell_model.specs.OneAge.{ByCompile, ByDemo, AreToldApart}
use Rattle.law_session.specs.Composing.{as_bytes, CompilesAlike, PlansAlike}
use Rattle.law_session.proofs.Parts.{printed_same}
use Rattle.law_session.proofs.Keeping.{source_stays}
use Rattle.law_session.proofs.Named.{module_named}
use Rattle.law_session.proofs.Core.{Core, CompilesSo, compiles_so}
use Rattle.law_session.proofs.Commanded.{Alright, one_part, commands_so}

-- THE EMPTY FOLDER

-- the words of a machine with no module stand for nothing loaded
abbrev pub StandsFirst : Settings → Type 0
StandsFirst s = (commands : ℕ) → StandFor commands s [] nothing_loaded (made s.heap).words (made s.heap).heap

empty_core : (s : Settings) → StandsFirst s → Core s (bytes.start s no_files) (start no_files empty)
empty_core s first = record {
  files = refl;
  library = record { objects = λ n. tt; symbols = λ n. tt };
  kept = record { objects = λ n i. refl; symbols = λ n i. refl };
  loaded = refl;
  together = tt;
  stand = first;
}

-- A STEP

abbrev Stepped : Settings → ℕ → bytes.Making → Making → Type 0
Stepped s o (Some x) (Some y) = (o + x.0 ≡ y.0) × Core s (bytes.start s x.1) y.1
Stepped s o None None = Unit {0}
Stepped s o (Some x) None = ⊥
Stepped s o None (Some y) = ⊥

source_core : (s : Settings) (files : Files) (v : World) (n i : ℕ) → Core s (bytes.start s files) v → Core s (bytes.start s (put files (source_name i) (source n i))) (with_source v n i)
source_core s files v n i h = record {
  files = ap (λ f. put f (source_name i) (source n i)) h.files;
  library = h.library;
  kept = source_stays v.files v.library i (source n i) h.kept;
  loaded = h.loaded;
  together = h.together;
  stand = h.stand;
}

step_by : (s : Settings) (o : ℕ) (files : Files) (v : World) (text : List ℕ) (r : Result (Compiled Print) (compile.Refusal Print)) (q : Result (Compiled Text) (compile.Refusal Text)) → CompilesSo s (bytes.start s files) v text r q → Stepped s o (bytes.made_of files r) (made_of o v text q)
step_by s o files v text (Ok c) (Ok d) k = (ap (λ (f : Face Print). o + length f.objects) k.shows, k.core)
step_by s o files v text (Err r) (Err q) k = tt
step_by s o files v text (Ok c) (Err q) k = k
step_by s o files v text (Err r) (Ok d) k = k

module _ (s : Settings) (compiles : CompilesAlike) (plans : PlansAlike) (written : BuildsAreWritten) (valid : NewIsValid) (first : StandsFirst s) where
  step : (n i o : ℕ) (files : Files) (v : World) → Core s (bytes.start s files) v → AreToldApart (ByCompile v.library ((with_source v n i).files (source_name i))) → Stepped s o (bytes.made_one n i files) (made_one n i (o, v))
  step n i o files v h told =
      let there = put files (source_name i) (source n i) in
      let w = bytes.start s there in
      let z = with_source v n i in
      let core : Core s w z = source_core s files v n i h in
      let file = z.files (source_name i) in
      let q = compiled texts (interface_in z.library) file in
      step_by s o there z (or_empty file) (compiled prints (symbol_entry there) (there (source_name i))) q
      (subst (λ x. CompilesSo s w z (or_empty file) (compiled prints (symbol_entry there) x) q) (sym (ap (λ (f : Files). f (source_name i)) core.files))
      (compiles_so s w z file compiles written valid core told))

  -- ALL MODULES

  abbrev SameMaking : bytes.Making → Making → Type 0
  SameMaking x y = Stepped s 0 x y

  none_later : (n j k m : ℕ) → j + k ≡ m → demo_behind n j ≡ None → demo_behind n m ≡ None
  unfolding demo_behind
  none_later n j zero m e h = let x : j ≡ m = omega (arith, e) in subst (λ i. demo_behind n i ≡ None) x h
  none_later n j (suc k) m e h =
      let x : suc (j + k) ≡ m = omega (arith, e) in
      subst (λ i. demo_behind n i ≡ None) x (ap (λ y. and_more y (made_one n (suc (j + k)))) (none_later n j k (j + k) refl h))

  next : (n j : ℕ) → suc j ≤ n → AreToldApart (ByDemo n) → (o : ℕ) (files : Files) (y : Making) → demo_behind n j ≡ y → SameMaking (Some (o, files)) y → Stepped s o (bytes.made_one n (suc j) files) (demo_behind n (suc j))
  unfolding demo_behind
  next n j le told o files None e h = absurd h
  next n j le told o files (Some y) e h =
      let is : o ≡ y.0 = let k = h.0 in omega (arith, k) in
      let so : demo_behind n (suc j) ≡ made_one n (suc j) (o, y.1) = ap (λ x. and_more x (made_one n (suc j))) e ∙ ap (λ a. made_one n (suc j) (a, y.1)) (sym is) in
      subst (Stepped s o (bytes.made_one n (suc j) files)) (sym so)
      (step n (suc j) o files y.1 h.1 (λ kept found c p. told kept found (j, y, e, inl (le, c)) p))

  demo_so : (n more j m : ℕ) → j + more ≡ m → m ≤ n → AreToldApart (ByDemo n) → (o : ℕ) (files : Files) → SameMaking (Some (o, files)) (demo_behind n j) → SameMaking (bytes.demo_from n more (suc j) o files) (demo_behind n m)
  demo_so n zero j m e le told o files h = let x : j ≡ m = omega (arith, e) in subst (λ i. SameMaking (Some (o, files)) (demo_behind n i)) x h
  demo_so n (suc more) j m e le told o files h =
      rest (bytes.made_one n (suc j) files) (demo_behind n (suc j)) refl (next n j (omega (arith, e, le)) told o files (demo_behind n j) refl h)
      (λ a z k. demo_so n more (suc j) m (omega (arith, e)) le told a z k)
    where
      rest : (x : bytes.Making) (z : Making) → demo_behind n (suc j) ≡ z → Stepped s o x z →
          ((a : ℕ) (f : Files) → SameMaking (Some (a, f)) (demo_behind n (suc j)) → SameMaking (bytes.demo_from n more (suc (suc j)) a f) (demo_behind n m)) →
          SameMaking (bytes.and_more x (λ y. bytes.demo_from n more (suc (suc j)) (o + y.0) y.1)) (demo_behind n m)
      rest (Some x) (Some z) k t go = let e = t.0 in go (o + x.0) x.1 (subst (SameMaking (Some (o + x.0, x.1))) (sym k) (omega (arith, e), t.1))
      rest None None k t go = subst (SameMaking None) (sym (none_later n (suc j) more m (omega (arith, e)) k)) tt
      rest (Some x) None k t go = absurd t
      rest None (Some z) k t go = absurd t

  demo_same : (n : ℕ) → AreToldApart (ByDemo n) → SameMaking (bytes.demo_made n) (demo_behind n n)
  unfolding demo_behind bytes.demo_made
  demo_same n told = demo_so n n 0 n (omega arith) (omega arith) told 0 no_files (refl, empty_core s first)

  -- THE LINE

  answered : (w : bytes.World) (v : World) (n : ℕ) → n ≤ 60 → AreToldApart (ByDemo n) → Core s w v → (x : bytes.Making) (y : Making) → demo_behind n n ≡ y → SameMaking x y → Alright s (bytes.demo_answer s w n x) (demo_answer s v n y)
  answered w v n le told h None None e k = record { same = record { parts = refl; refused = refl }; core = h }
  answered w v n le told h (Some x) None e k = absurd k
  answered w v n le told h None (Some y) e k = absurd k
  answered w v n le told h (Some x) (Some y) e k =
      let c = commands_so s (bytes.start s x.1) y.1 (module_name n) (codes "Go") plans (module_named n le) refl k.1 (λ kept found c p. told kept found (n, y, e, inr (refl, c)) p) in
      let is : x.0 ≡ y.0 = let e = k.0 in omega (arith, e) in
      record {
        same = record {
          parts = ap (λ o. one_part (demo_text n o) ++ one_part (printed_by (bytes.command_answer s (bytes.start s x.1) (module_name n) (codes "Go")).parts)) is
              ∙ ap (λ t. one_part (demo_text n y.0) ++ one_part t) (ap printed_by c.same.parts ∙ printed_same as_bytes (command_answer s y.1 (module_name n) (codes "Go")).parts);
          refused = c.same.refused;
        };
        core = h;
      }

  pub demos_so : (w : bytes.World) (v : World) (n : ℕ) → n ≤ 60 → Core s w v → AreToldApart (ByDemo n) → Alright s (bytes.demo_answer s w n (bytes.demo_made n)) (demo_answer s v n (demo_behind n n))
  demos_so w v n le h told = answered w v n le told h (bytes.demo_made n) (demo_behind n n) refl (demo_same n told)
