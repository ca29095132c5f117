-- What the kept files of a build are read as.
use Rattle.std.proofs.Common.{◌≡◌, ℕ, List, [], length, Bool, true, false, cond, refl, sym, ap, ◌∙◌, subst, Option, Some, None}
use Rattle.std.specs.Prelude.{bytes_eq}
use Rattle.std.proofs.lemmas.Bool.{false≢true}
use Rattle.ob_tree.specs.declared.print.Print.{Print}
use Rattle.ob_format.specs.Format.{whole}
use Rattle.ob_types.specs.declared.desc.Desc.{Desc}
use Rattle.ob_types.specs.declared.face.Interface.{Interface}
use Rattle.ob_sym.specs.Grammar.{face as face_form}
use Rattle.ob_env.specs.Faces.{Face, face_of, interface_of, printed}
use Rattle.ob_env_walk.specs.Walk as walk
use Rattle.ob_env_walk.specs.Walk.{file_limit, named_face, symbol_name}
use Rattle.ob_cmp.specs.Verdicts.{no_face, compiled_text}
use Rattle.ob_compile_model.specs.Compiling.{Compiled, texts, interface_by}
use Rattle.ob_link.specs.Plan.{Entry, Missing, TooLong, Junk, Holds}
use Rattle.ob_link.specs.Files.{Files}
use Rattle.ob_builds.specs.Builds.{Text, Build, IsValid, shows_of, name_of, symbols_of}
use Rattle.ob_builds.specs.Written.{IsWritten, BuildsAreWritten}
use Rattle.law_builds.proofs.Faces.{of_is, face_back, not_beyond, within_limit, whole_symbols, short_symbols}
use Rattle.ob_shell_model.specs.Files.{SymFile, IsLong, IsOf, sym_file, sym_file_of, decoded_file, stood}
use Rattle.ob_shell_model.specs.Library.{Library, IsLibrary, IsEntry, Kept, SymbolKept}
use Rattle.ob_shell_model.specs.Model.{stood_as}
use Rattle.law_lists.proofs.Lists.{bytes_same}

-- ---- the symbol file of a build

pub file_of_build : (b : Build) (c : Compiled Text) → IsValid b c → IsWritten c → sym_file_of (Some (symbols_of b)) ≡ IsOf (interface_by texts c)
file_of_build b c v w = ap (λ t. cond t (decoded_file (whole face_form (symbols_of b))) IsLong) (short_symbols b c v) ∙ ap decoded_file (whole_symbols b c v w)

-- ---- what stood there

pub record SameObjects (f : Face Print) (g : Face Text) : Type 0 where
  pub name : f.«module» ≡ g.«module»
  pub objects : f.objects ≡ g.objects

none_here : (m : List ℕ) (x : SymFile) → stood m x ≡ no_face m → SameObjects (stood m x) (no_face m)
none_here m x e = record { name = ap (λ (f : Face Print). f.«module») e; objects = ap (λ (f : Face Print). f.objects) e }

is_junk : walk.Entry Print → Bool
is_junk walk.Missing = false
is_junk walk.Junk = true
is_junk (walk.Holds f) = false

junk_other : (m : List ℕ) (i : Interface) (t : Bool) → bytes_eq m i.«module» ≡ t → cond t (walk.Holds (face_of i)) walk.Junk ≡ walk.Junk → cond t (face_of i) (no_face m) ≡ no_face m
unfolding is_junk
junk_other m i true e j = absurd (false≢true (ap is_junk j))
junk_other m i false e j = refl

junk_stood : (m : List ℕ) (o : Option Interface) → named_face m o ≡ walk.Junk → stood m (decoded_file o) ≡ no_face m
junk_stood m None j = refl
junk_stood m (Some i) j = junk_other m i (bytes_eq m i.«module») refl j

stood_build : (m : List ℕ) (b : Build) (c : Compiled Text) → IsValid b c → IsWritten c → name_of b ≡ m → SameObjects (stood m (sym_file_of (Some (symbols_of b)))) (shows_of b)
stood_build m b c v w n =
    let f : Face Text = shows_of b in
    let k : c.shows ≡ f = ap (λ (x : Compiled Text). x.shows) (sym (of_is b c v)) in
    let e : stood m (sym_file_of (Some (symbols_of b))) ≡ printed f =
    ap (stood m) (file_of_build b c v w ∙ ap (λ x. IsOf (interface_of (printed x))) k)
    ∙ ap (λ t. cond t (face_of (interface_of (printed f))) (no_face m)) (bytes_same m f.«module» (sym n))
    ∙ face_back (printed f) in
    record { name = ap (λ (x : Face Print). x.«module») e; objects = ap (λ (x : Face Print). x.objects) e }

stood_same : BuildsAreWritten → (m : List ℕ) (file : Option (List ℕ)) (e : Entry Build) → SymbolKept m file e → IsEntry m e → SameObjects (stood m (sym_file_of file)) (stood_as m e)
stood_same written m file Missing k i = none_here m (sym_file_of file) (ap (λ x. stood m (sym_file_of x)) k)
stood_same written m None TooLong k i = absurd k
stood_same written m (Some bytes) TooLong k i = none_here m (sym_file_of (Some bytes)) (ap (λ t. stood m (cond t (decoded_file (whole face_form bytes)) IsLong)) (not_beyond (length bytes) file_limit k))
stood_same written m None Junk k i = absurd k
stood_same written m (Some bytes) Junk k i =
    let t = within_limit (length bytes) file_limit k.0 in
    none_here m (sym_file_of (Some bytes)) (
    ap (λ t. stood m (cond t (decoded_file (whole face_form bytes)) IsLong)) t
    ∙ junk_stood m (whole face_form bytes) (sym (ap (λ t. cond t (named_face m (whole face_form bytes)) walk.Junk) t) ∙ k.1))
stood_same written m file (Holds b) k i = subst (λ x. SameObjects (stood m (sym_file_of x)) (shows_of b)) (sym k) (stood_build m b i.0 i.1 (written b i.0 i.1) i.2)

-- ---- the counts

abbrev alone : {K : Type 0} → List ℕ → List (List ℕ × Desc) → Face K
alone m os = record { «module» = m; imports = []; objects = os; uses = [] }

same_counts : (f : Face Print) (g new : Face Text) → SameObjects f g → compiled_text f (printed new) ≡ compiled_text g new
same_counts f g new s = ap (λ m. compiled_text (alone {K = Text} m f.objects) new) s.name ∙ ap (λ os. compiled_text (alone {K = Text} g.«module» os) new) s.objects

pub counted_same : BuildsAreWritten → (files : Files) (l : Library) (new : Face Text) → Kept files l → IsLibrary l → SymbolKept new.«module» (files (symbol_name new.«module»)) (l.symbols new.«module») → compiled_text (stood new.«module» (sym_file files (symbol_name new.«module»))) (printed new) ≡ compiled_text (stood_as new.«module» (l.symbols new.«module»)) new
unfolding sym_file
counted_same written files l new k i s =
    let m = new.«module» in
    same_counts (stood m (sym_file_of (files (symbol_name m)))) (stood_as m (l.symbols m)) new (stood_same written m (files (symbol_name m)) (l.symbols m) s (i.symbols m))
