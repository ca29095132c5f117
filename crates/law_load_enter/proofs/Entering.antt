-- The object files of builds that go together can be entered, one behind the other.
use Rattle.std.proofs.Common.{◌≡◌, ℕ, suc, ◌+◌, ◌≤◌, List, [], ◌∷◌, ◌++◌, map, length, false, cond, refl, sym, ap, ◌∙◌, subst, arith, Option, Some, None}
use Rattle.std.specs.Prelude.{bytes_eq, Contains}
use Rattle.std.specs.List.{AllByRecursion}
use Rattle.std.proofs.lemmas.List.{length-map}
use Rattle.ob_tree.specs.declared.print.Print.{Print}
use Rattle.ob_fprint.specs.Print.{print_from}
use Rattle.ob_obj.specs.declared.file.ObjFile.{ObjFile}
use Rattle.ob_obj.specs.Grammar.{file}
use Rattle.ob_obj.specs.Images.{global_words}
use Rattle.ob_compile_model.specs.Compiling.{Compiled, texts, object_by}
use Rattle.ob_link.specs.Walk.{first_of, or_first}
use Rattle.ob_link.specs.Plan.{Refusal, TooMany, fails, use_fails, absent, too_many, is_there, most_modules, words_of}
use Rattle.ob_link.specs.Files as files
use Rattle.ob_link.specs.Files.{unlinked}
use Rattle.ob_link.specs.Members.{member_of, member_named, empty_image}
use Rattle.ob_link.specs.Walking.{Stand}
use Rattle.ob_link.proofs.Bridges.{breaks_so}
use Rattle.ob_link.proofs.Made.{made_none, enter_all}
use Rattle.law_load_plan.specs.Alike.{wanted_as}
use Rattle.law_load_plan.proofs.Asked.{all_joined}
use Rattle.law_load_plan.proofs.Links.{links_named}
use Rattle.ob_builds.specs.Builds.{Text, Build, shows_of, name_of, file_of, asks}
use Rattle.ob_builds.specs.Afresh.{IsBehind, AreTogether}
use Rattle.ob_builds.specs.Written.{BuildsAreWritten}
use Rattle.law_builds.specs.Linked.{BuildsAreLinked}
use Rattle.law_builds.proofs.Members.{has_head, has_more}
use Rattle.law_builds.proofs.Faces.{of_is, uses_back, within_limit}
use Rattle.law_builds.proofs.Gone.{all_valid}
use Rattle.law_load_enter.specs.Entered.{FilesEnter}
use Rattle.law_load_enter.proofs.Law.{files_have}
use Rattle.law_load_enter.proofs.Chosen.{Compiles, Valid, One, AnyText, kept_of, filed, chosen, chosen_files, known, all_known, links_used, uses_find, are_met, prints_met}
use Rattle.law_lists.proofs.Lists.{differ_false}

-- ---- nothing refuses the file of a build that stands behind these

module _ (written : BuildsAreWritten) (linked : BuildsAreLinked) where
  none_fails : (ys : List Valid) (y : Valid) → first_of (use_fails files.asks (map filed ys) (filed y).head.«module») (map (wanted_as print_from) (kept_of y).shows.uses) ≡ None → unlinked (map filed ys) (filed y) ≡ None → suc (length ys) ≤ most_modules → fails files.asks (map filed ys) (filed y) ≡ None
  none_fails ys y uses links few =
      let fs : List ObjFile = map filed ys in
      let n : List ℕ = (filed y).head.«module» in
      let many : Option (Refusal Print) = too_many (length fs + 1) in
      let after : Refusal Print = TooMany (length fs + 1) in
      let e = length-map ys filed in
      let le : length fs + 1 ≤ 255 = omega (arith, e, few) in
      ap (λ us. or_first (first_of (use_fails files.asks fs n) us) (or_first (absent n (unlinked fs (filed y))) many)) (uses_back (map (wanted_as print_from) (kept_of y).shows.uses))
      ∙ ap (λ o. or_first o (or_first (absent n (unlinked fs (filed y))) many)) uses
      ∙ ap (λ o. or_first (absent n o) many) links
      ∙ ap (λ t. cond t None (Some after)) (within_limit (length fs + 1) 255 le)

  not_refused : (bs : List Build) (h : AllByRecursion Compiles bs) (b : Build) → IsBehind bs b → fails files.asks (map file_of bs) (file_of b) ≡ None
  not_refused bs h b i =
      let ys : List Valid = chosen bs h in
      let y : Valid = record { build = b; valid = i.valid } in
      let ks : AllByRecursion One ys = all_known written ys in
      let finds = uses_find bs h (shows_of b).uses i.uses in
      let all = chosen_files bs h in
      let few : suc (length ys) ≤ most_modules = omega (arith, i.few, ap length all, length-map ys filed, length-map bs file_of) in
      subst (λ fs. fails files.asks fs (file_of b) ≡ None) all
      (none_fails ys y (prints_met ys ks (filed y).head.«module» (shows_of b).uses finds)
      (links_named AnyText kept_of (λ x k. links_used linked x) ys ks y (known written y) (are_met ys (name_of b) (shows_of b).uses finds)) few)

-- ---- its module is not there yet

no_module : (n : List ℕ) (bs : List Build) → AllByRecursion Compiles bs → (Contains (map name_of bs) n → ⊥) → is_there (member_named n (map member_of (map file_of bs))) ≡ false
no_module n [] h other = refl
no_module n (b ∷ bs) h other =
    let name : (file_of b).head.«module» ≡ name_of b = (files_have b h.0.0 h.0.1).name in
    ap (λ m. is_there (cond (bytes_eq n m) (Some (member_of (file_of b))) (member_named n (map member_of (map file_of bs))))) name
    ∙ ap (λ t. is_there (cond t (Some (member_of (file_of b))) (member_named n (map member_of (map file_of bs))))) (differ_false n (name_of b) (λ e. other (subst (λ x. Contains (x ∷ map name_of bs) n) e (has_head n (map name_of bs)))))
    ∙ no_module n bs h.1 (λ c. other (has_more (name_of b) (map name_of bs) n c))

-- ---- all of them

files_more : (bs : List Build) (b : Build) → map member_of (map file_of (bs ++ b ∷ [])) ≡ map member_of (map file_of bs) ++ member_of (file_of b) ∷ []
files_more [] b = refl
files_more (x ∷ bs) b = ap (λ r. member_of (file_of x) ∷ r) (files_more bs b)

fits_of : BuildsAreWritten → (b : Build) → Compiles b → file.fits (file_of b)
fits_of written b v = subst (λ (x : Compiled Text). file.fits (object_by texts x)) (sym (of_is b v.0 v.1)) (written b v.0 v.1).object

stand_all : BuildsAreWritten → BuildsAreLinked → (gs bs : List Build) → AllByRecursion Compiles bs → AreTogether bs gs → Stand (map member_of (map file_of bs)) (map file_of gs)
stand_all written linked [] bs h t = tt
stand_all written linked (b ∷ gs) bs h t =
    let name : (file_of b).head.«module» ≡ name_of b = (files_have b t.0.valid.0 t.0.valid.1).name in (
      fits_of written b t.0.valid,
      ap (λ n. is_there (member_named n (map member_of (map file_of bs)))) name ∙ no_module (name_of b) bs h t.0.new,
      breaks_so (map file_of bs) (file_of b) ∙ not_refused written linked bs h b t.0,
      subst (λ ks. Stand ks (map file_of gs)) (files_more bs b) (stand_all written linked gs (bs ++ b ∷ []) (all_joined Compiles bs (b ∷ []) h (t.0.valid, tt)) t.1),
    )

words_of_files : (bs : List Build) → AllByRecursion Compiles bs → words_of files.asks (map file_of bs) ≡ words_of asks bs
words_of_files [] h = refl
words_of_files (b ∷ bs) h =
    let w : asks.words b ≡ global_words (file_of b) = (files_have b h.0.0 h.0.1).words in
    let e : words_of files.asks (map file_of bs) ≡ words_of asks bs = words_of_files bs h.1 in
    omega (arith, w, e)

-- THE LAW
pub files_enter : FilesEnter
files_enter written linked bs t few =
    let w = words_of_files bs (all_valid bs t) in
    enter_all (map file_of bs) empty_image [] made_none (stand_all written linked bs [] tt t) (omega (arith, few, w))
