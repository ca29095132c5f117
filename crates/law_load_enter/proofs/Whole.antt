-- What the object files of builds that are loaded together have of them.
use Rattle.std.proofs.Common.{List, [], ◌∷◌, sym, subst, inl, inr}
use Rattle.std.specs.Prelude.{Contains}
use Rattle.std.specs.List.{AllByRecursion}
use Rattle.ob_obj.specs.Grammar.{file}
use Rattle.ob_compile_model.specs.Compiling.{Compiled, texts, object_by}
use Rattle.ob_builds.specs.Builds.{Text, Build, IsValid}
use Rattle.ob_builds.specs.Afresh.{AreTogether}
use Rattle.law_builds.proofs.Members.{In, to_in}
use Rattle.law_builds.proofs.Faces.{of_is}
use Rattle.law_builds.proofs.Gone.{all_valid}
use Rattle.law_load_enter.proofs.Law.{files_have, files_have_commands}
use Rattle.law_load_enter.proofs.Entering.{files_enter}
use Rattle.law_load_enter.specs.Loaded.{NamesAreShown, WordsAreCounted, CommandsAreThere, LoadedFit, LoadedEnter}

all_at : {A : Type 0} (P : A → Type 0) (xs : List A) (x : A) → In xs x → AllByRecursion P xs → P x
all_at P [] x i h = absurd i
all_at P (y ∷ ys) x (inl e) h = subst P e h.0
all_at P (y ∷ ys) x (inr i) h = all_at P ys x i h.1

-- one of builds that go together is valid
pub valid_at : (bs : List Build) → AreTogether [] bs → (b : Build) → Contains bs b → (c : Compiled Text) × IsValid b c
valid_at bs t b i = all_at (λ x. (c : Compiled Text) × IsValid x c) bs b (to_in bs b i) (all_valid bs t)

pub names_are_shown : NamesAreShown
names_are_shown bs l b i = let v = valid_at bs l.together b i in (files_have b v.0 v.1).name

pub words_are_counted : WordsAreCounted
words_are_counted bs l b i = let v = valid_at bs l.together b i in (files_have b v.0 v.1).words

pub commands_are_there : CommandsAreThere
commands_are_there bs l b i = let v = valid_at bs l.together b i in files_have_commands b v.0 v.1

pub loaded_fit : LoadedFit
loaded_fit written bs l b i =
    let v = valid_at bs l.together b i in
    subst (λ (x : Compiled Text). file.fits (object_by texts x)) (sym (of_is b v.0 v.1)) (written b v.0 v.1).object

pub loaded_enter : LoadedEnter
loaded_enter written linked bs l = files_enter written linked bs l.loaded.together l.words
