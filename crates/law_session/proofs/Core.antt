-- Worlds that are alike, whatever lines are to come.
use Rattle.std.proofs.Common.{◌≡◌, ℕ, List, [], ◌∷◌, Bool, true, false, cond, refl, sym, ap, ◌∙◌, subst, Option, Some, Result, Ok, Err}
use Rattle.std.specs.Prelude.{map, bytes_eq}
use Rattle.std.proofs.lemmas.Slice.Eq.{bytes_eq-Decides}
use Rattle.ob_tree.specs.declared.print.Print.{Print}
use Rattle.ob_io.specs.Io.{put}
use Rattle.ob_env.specs.Faces.{Face, printed}
use Rattle.ob_env_walk.specs.Walk.{symbol_name, symbol_entry}
use Rattle.ob_link.specs.Plan.{Entry, Holds}
use Rattle.ob_link.specs.Files.{Files, object_file_name}
use Rattle.ob_compile_model.specs.Compiling as compile
use Rattle.ob_compile_model.specs.Compiling.{Compiled, compiled, texts, prints, object_bytes, symbol_bytes}
use Rattle.ob_words.specs.declared.asked.Settings.{Settings}
use Rattle.ob_shell_reports.specs.Texts.{compile_reason}
use Rattle.ob_shell_model.specs.Bytes as bytes
use Rattle.ob_shell_model.specs.Bytes.{files_of}
use Rattle.ob_builds.specs.Builds.{Text, Build, IsValid, of, file_of, bytes_of, symbols_of}
use Rattle.ob_shell_model.specs.Library.{IsLibrary, IsEntry, Kept, with_entry}
use Rattle.ob_shell_model.specs.Model.{World, interface_in, becomes, new_build, counted, with_changes, or_empty}
use Rattle.ob_builds.specs.Afresh.{AreTogether}
use Rattle.ob_builds.specs.Simulated.{StandFor}
use Rattle.ob_builds.specs.Written.{BuildsAreWritten}
use Rattle.law_session.specs.New.{NewIsValid}
use Rattle.ob_shell_model.specs.OneAge.{ByCompile, AreToldApart}
use Rattle.law_session.specs.Composing.{as_bytes, SameCompile, CompilesAlike}
use Rattle.law_session.proofs.Keeping.{all_stay}
use Rattle.law_builds.proofs.Compiled.{some_source}
use Rattle.law_builds.proofs.Faces.{of_is}
use Rattle.law_session.proofs.Stood.{counted_same}
use Rattle.law_session.proofs.Spelled.{module_named}

pub record Core (s : Settings) (w : bytes.World) (v : World) : Type 0 where
  pub files : w.files ≡ v.files
  pub library : IsLibrary v.library
  pub kept : Kept v.files v.library
  pub loaded : w.loaded ≡ map file_of v.loaded
  pub together : AreTogether [] v.loaded
  pub stand : (commands : ℕ) → StandFor commands s v.loaded v.system w.words w.heap

-- ---- an entry that becomes a build

entry_after : (entries : List ℕ → Entry Build) (name : List ℕ) (b : Build) → IsEntry name (Holds b) → ((n : List ℕ) → IsEntry n (entries n)) → (n : List ℕ) → IsEntry n (with_entry entries name b n)
entry_after entries name b i h n = go (bytes_eq n name) refl
  where
    go : (t : Bool) → bytes_eq n name ≡ t → IsEntry n (cond t (Holds b) (entries n))
    go true e = (i.0, i.1, i.2 ∙ sym ((bytes_eq-Decides n name).0 e))
    go false e = h n

-- ---- a compile

-- what it makes of two worlds that are alike
pub record Made (s : Settings) (w : bytes.World) (v : World) (text : List ℕ) (c : Compiled Print) (d : Compiled Text) : Type 0 where
  pub shows : c.shows ≡ printed d.shows
  pub changes : files_of c ≡ map as_bytes (becomes text d)
  pub counts : bytes.counted w.files c.shows ≡ counted v.library d.shows
  pub core : Core s (record w { files = bytes.changed w.files (files_of c) }) (with_changes v (becomes text d))

abbrev pub CompilesSo : Settings → bytes.World → World → List ℕ → Result (Compiled Print) (compile.Refusal Print) → Result (Compiled Text) (compile.Refusal Text) → Type 0
CompilesSo s w v text (Ok c) (Ok d) = Made s w v text c d
CompilesSo s w v text (Err r) (Err q) = compile_reason r ≡ compile_reason q
CompilesSo s w v text (Ok c) (Err q) = ⊥
CompilesSo s w v text (Err r) (Ok d) = ⊥

abbrev two : Files → List ℕ → List ℕ → List ℕ → Files
two files m object symbol = put (put files (object_file_name m) object) (symbol_name m) symbol

abbrev both : List ℕ → List ℕ → List ℕ → List bytes.Change
both m object symbol = (object_file_name m, object) ∷ (symbol_name m, symbol) ∷ []

made_so : (s : Settings) (w : bytes.World) (v : World) (text : List ℕ) (c : Compiled Print) (d : Compiled Text) → BuildsAreWritten → Core s w v → IsValid (new_build text d) d →
    (c.shows ≡ printed d.shows) × (object_bytes prints c ≡ object_bytes texts d) × (symbol_bytes prints c ≡ symbol_bytes texts d) → Made s w v text c d
made_so s w v text c d written h valid same =
    let b = new_build text d in
    let is : of b ≡ d = of_is b d valid in
    let m : c.shows.«module» ≡ d.shows.«module» = ap (λ (f : Face Print). f.«module») same.0 in
    let o : object_bytes prints c ≡ bytes_of b = same.1 ∙ ap (object_bytes texts) (sym is) in
    let y : symbol_bytes prints c ≡ symbols_of b = same.2 ∙ ap (symbol_bytes texts) (sym is) in
    let entry : IsEntry d.shows.«module» (Holds b) = (d, valid, ap (λ (x : Compiled Text). x.shows.«module») is) in
    record {
      shows = same.0;
      changes = ap (λ x. both x (object_bytes prints c) (symbol_bytes prints c)) m ∙ ap (λ x. both d.shows.«module» x (symbol_bytes prints c)) o ∙ ap (λ x. both d.shows.«module» (bytes_of b) x) y;
      counts = ap (λ f. bytes.counted f c.shows) h.files ∙ ap (bytes.counted v.files) same.0 ∙ counted_same written v.files v.library d.shows h.kept h.library (h.kept.symbols d.shows.«module» (module_named d.shows (written b d valid).symbols));
      core = record {
        files = ap (λ f. two f c.shows.«module» (object_bytes prints c) (symbol_bytes prints c)) h.files ∙ ap (λ x. two v.files x (object_bytes prints c) (symbol_bytes prints c)) m ∙ ap (λ x. two v.files d.shows.«module» x (symbol_bytes prints c)) o ∙ ap (λ x. two v.files d.shows.«module» (bytes_of b) x) y;
        library = record {
          objects = entry_after v.library.objects d.shows.«module» b entry h.library.objects;
          symbols = entry_after v.library.symbols d.shows.«module» b entry h.library.symbols;
        };
        kept = all_stay (becomes text d) v.files v.library h.kept;
        loaded = h.loaded;
        together = h.together;
        stand = h.stand;
      };
    }

so_by : (s : Settings) (w : bytes.World) (v : World) (file : Option (List ℕ)) (r : Result (Compiled Print) (compile.Refusal Print)) (q : Result (Compiled Text) (compile.Refusal Text)) → BuildsAreWritten → NewIsValid → Core s w v → compiled texts (interface_in v.library) file ≡ q → SameCompile r q → CompilesSo s w v (or_empty file) r q
so_by s w v file (Ok c) (Ok d) written valid h e same =
    let x = some_source texts (interface_in v.library) file d e in
    let is : file ≡ Some (or_empty file) = x.1 ∙ ap (λ (o : Option (List ℕ)). Some (or_empty o)) (sym x.1) in
    made_so s w v (or_empty file) c d written h (valid v.library (or_empty file) d h.library (ap (compiled texts (interface_in v.library)) (sym is) ∙ e)) same
so_by s w v file (Err r) (Err q) written valid h e same = same
so_by s w v file (Ok c) (Err q) written valid h e same = same
so_by s w v file (Err r) (Ok d) written valid h e same = same

pub compiles_so : (s : Settings) (w : bytes.World) (v : World) (file : Option (List ℕ)) → CompilesAlike → BuildsAreWritten → NewIsValid → Core s w v → AreToldApart (ByCompile v.library file) →
    CompilesSo s w v (or_empty file) (compiled prints (symbol_entry w.files) file) (compiled texts (interface_in v.library) file)
compiles_so s w v file alike written valid h told =
    so_by s w v file (compiled prints (symbol_entry w.files) file) (compiled texts (interface_in v.library) file) written valid h refl
    (subst (λ f. SameCompile (compiled prints (symbol_entry f) file) (compiled texts (interface_in v.library) file)) (sym h.files)
    (alike v.files v.library file h.library h.kept told))
