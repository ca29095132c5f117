-- By the meaning of a session: behind a make over a library, modules are up to date.
use Rattle.std.proofs.Common.{◌≡◌, ℕ, if◌then◌else◌, List, [], ◌∷◌, Bool, true, false, cond, refl, sym, ap, ◌∙◌, subst, codes, Option, Some, None, Result, Ok, Err}
use Rattle.std.specs.Prelude.{nat_le, length, bytes_eq, map as each}
use Rattle.std.specs.List.{AllByRecursion}
use Rattle.std.proofs.lemmas.Bool.{false≢true}
use Rattle.ob_format.specs.Format.{◌>>=◌}
use Rattle.ob_desc.specs.Grammar.{text_of}
use Rattle.ob_sym.specs.Grammar.{face as face_form}
use Rattle.ob_env.specs.Faces.{Face, Wanted, object_named, face_named, text_in, interface_of, printed}
use Rattle.ob_env.specs.Stale.{as_wanted, compared}
use Rattle.ob_env.specs.Answer.{standing}
use Rattle.ob_env_walk.specs.Walk as walk
use Rattle.ob_env_walk.specs.Walk.{Entry, Left, walk as walk_from}
use Rattle.ob_env_walk.specs.Answer.{after_walk}
use Rattle.ob_parse_grammar.specs.TextReading.{reading}
use Rattle.ob_cmp.specs.Check as check
use Rattle.ob_cmp.specs.Check.{There, in_face}
use Rattle.ob_link.specs.Plan as plan
use Rattle.ob_link.specs.Walk.{has}
use Rattle.ob_make.specs.Stale.{meets, is_met}
use Rattle.ob_make.specs.Folder.{source_name}
use Rattle.ob_make.proofs.Fresh.{fresh, uses_in}
use Rattle.ob_compile_model.specs.Compiling as compile
use Rattle.ob_compile_model.specs.Compiling.{Compiled, compiled, texts, imported}
use Rattle.ob_builds.specs.Builds.{Text, Build, IsValid, IsSpelled, of, shows_of, bytes_of, symbols_of}
use Rattle.ob_shell_model.specs.Making.{make_answer}
use Rattle.ob_shell_model.specs.Library.{Library, IsLibrary, IsEntry, with_entry}
use Rattle.ob_shell_model.specs.Model.{World, maker, marks, interface_in, face_entry, face_present, has_present, has_as, uses_present, new_build, becomes, with_changes, compile_answer, compiled_in, or_empty}
use Rattle.law_builds.proofs.Again.{AreHeld, only, walk_again}
use Rattle.law_builds.proofs.Compiled.{some_source}
use Rattle.law_builds.proofs.Faces.{of_is}
use Rattle.law_builds_written.proofs.Upheld.{builds_are_written}
use Rattle.law_lists.proofs.Lists.{bytes_itself, bytes_same, same_bytes}
use Rattle.law_make.specs.UpToDate.{MeaningBringsUpToDate}
use Rattle.law_make.proofs.From.{IsCompiled, is_compiled, ComesSo, comes_so}
use Rattle.law_make.proofs.Walked.{IsFound, all_found}
use Rattle.law_make.proofs.Replaced.{source_stays}
use Rattle.law_make.proofs.Does.{all_kept}
use Rattle.law_make.proofs.Turns.{Does, AllDo, up_to_date}

-- ---- what is found in a library

abbrev face_or : Face Text → Entry Text → Face Text
face_or d walk.Missing = d
face_or d walk.Junk = d
face_or d (walk.Holds f) = f

abbrev is_held : Entry Text → Bool
is_held walk.Missing = false
is_held walk.Junk = false
is_held (walk.Holds f) = true

-- of a valid build of that name
record IsOfBuild (n : List ℕ) (f : Face Text) : Type 0 where
  named : f.«module» ≡ n
  spelled : IsSpelled f

of_entry : (n : List ℕ) (f : Face Text) (e : plan.Entry Build) → IsEntry n e → face_entry e ≡ walk.Holds f → IsOfBuild n f × (face_present e ≡ There f)
of_entry n f plan.Missing i h = absurd (false≢true (ap is_held h))
of_entry n f plan.TooLong i h = absurd (false≢true (ap is_held h))
of_entry n f plan.Junk i h = absurd (false≢true (ap is_held h))
of_entry n f (plan.Holds b) i h =
    let is : shows_of b ≡ f = ap (face_or (shows_of b)) h in
    let k : i.0.shows ≡ f = ap (λ (x : Compiled Text). x.shows) (sym (of_is b i.0 i.1)) ∙ is in (
      record {
        named = ap (λ (g : Face Text). g.«module») (sym is) ∙ i.2;
        spelled = subst (λ (g : Face Text). face_form.fits (interface_of (printed g))) k (builds_are_written b i.0 i.1).symbols;
      },
      ap (λ (g : Face Text). There g) is,
    )

module _ (l : Library) (i : IsLibrary l) where
  found : (n : List ℕ) (f : Face Text) → interface_in l n ≡ walk.Holds f → IsOfBuild n f × (face_present (l.symbols n) ≡ There f)
  found n f e = of_entry n f (l.symbols n) (i.symbols n) e

  all_spelled : (faces : List (Face Text)) → AreHeld (interface_in l) faces → AllByRecursion IsSpelled faces
  all_spelled [] h = tt
  all_spelled (f ∷ fs) h = ((found h.0.0 f h.0.1).0.spelled, all_spelled fs h.1)

  -- compiled once more, where the walk is the same
  as_tree : (text : List ℕ) (c : Compiled Text) (k : IsCompiled texts (interface_in l) text c) (find : List ℕ → Entry Text) → compiled texts find (Some text) ≡ compile.of_tree texts find k.tree
  unfolding compiled
  as_tree text c k find = ap (λ b. compile.of_short b (compile.of_reading texts find (reading text))) k.small ∙ ap (compile.of_reading texts find) k.read

  again : (text : List ℕ) (c : Compiled Text) (k : IsCompiled texts (interface_in l) text c) (find : List ℕ → Entry Text) → compiled texts (interface_in l) (Some text) ≡ Ok c → walk_from find k.tree.name.name (each imported k.tree.imports) ≡ Left k.walked.faces → compiled texts find (Some text) ≡ Ok c
  again text c k find e w =
      as_tree text c k find
      ∙ ap (λ z. compile.of_few (nat_le (length k.tree.imports) compile.most_imports) (compile.of_reached texts k.tree (after_walk (standing bytes_eq text_in) z))) (w ∙ sym k.walked.walked)
      ∙ sym (as_tree text c k (interface_in l)) ∙ e

  valid : (text : List ℕ) (c : Compiled Text) → compiled texts (interface_in l) (Some text) ≡ Ok c → IsValid (new_build text c) c
  valid text c e =
      let k = is_compiled texts (interface_in l) text c e in
      let a = walk_again (interface_in l) (λ n f h. (found n f h).0.named) k.tree.name.name (each imported k.tree.imports) k.walked.faces k.walked.walked in
      let g : k.walked.faces ≡ c.against = sym (ap (λ (x : Compiled Text). x.against) k.walked.made_so.is) in
      record { is = subst (λ fs. compiled texts (only fs) (Some text) ≡ Ok c) g (again text c k (only k.walked.faces) e a.0); whole = refl; spelled = subst (AllByRecursion IsSpelled) g (all_spelled k.walked.faces a.1) }

-- ---- uses

record IsIn (F : Face Text → Type 0) (u : Wanted Text) : Type 0 where
  face : Face Text
  good : F face
  named : face.«module» ≡ u.object.«module»
  kept : in_face text_of face u.object u.aspect ≡ Some u.kept

kept_in : (F : Face Text → Type 0) (fs : List (Face Text)) → AllByRecursion F fs → (u : Wanted Text) → text_in fs u.object u.aspect ≡ Some u.kept → IsIn F u
kept_in F [] h u e = absurd (none_some u.kept e)
  where
    none_some : (t : Text) → (let o : Option Text = None in o) ≡ Some t → ⊥
    none_some t e = absurd cc
kept_in F (f ∷ fs) h u e = go (bytes_eq u.object.«module» f.«module») refl e (kept_in F fs h.1 u)
  where
    go : (b : Bool) → bytes_eq u.object.«module» f.«module» ≡ b → ((cond b (Some f) (face_named fs u.object.«module») >>= λ g. object_named g.objects u.object.object) >>= λ d. text_of u.object d u.aspect) ≡ Some u.kept → (text_in fs u.object u.aspect ≡ Some u.kept → IsIn F u) → IsIn F u
    go true i e more = record { face = f; good = h.0; named = sym (same_bytes u.object.«module» f.«module» i); kept = e }
    go false i e more = more e

text_itself : (t : Text) → is_met (compared bytes_eq t (Some t)) ≡ true
text_itself t = ap (λ b. is_met (as_wanted b t)) (bytes_itself t)

-- ---- a compile that is not refused

module _ (v : World) (lib : IsLibrary v.library) (x : List ℕ) (ms : List (List ℕ)) (text : List ℕ) (c : Compiled Text) (is : compiled texts (interface_in v.library) (Some text) ≡ Ok c) (k : ComesSo texts (interface_in v.library) x ms c) where
  abbrev now : World
  now = with_changes v (becomes text c)

  module_is : c.shows.«module» ≡ x
  module_is = ap (λ (y : Compiled Text). y.shows.«module») k.is ∙ k.name

  build_is : of (new_build text c) ≡ c
  build_is = of_is (new_build text c) c (valid v.library lib text c is)

  uses_kept : AllByRecursion (λ (u : Wanted Text). text_in k.faces u.object u.aspect ≡ Some u.kept) (shows_of (new_build text c)).uses
  uses_kept = subst (λ (y : Compiled Text). AllByRecursion (λ (u : Wanted Text). text_in k.faces u.object u.aspect ≡ Some u.kept) y.shows.uses) (sym (build_is ∙ k.is)) (all_kept (text_in k.faces) _)

  module _ (test : List ℕ → Bool) (first : (n : List ℕ) → has n ms ≡ true → bytes_eq n x ≡ false → bytes_eq n (codes "Out") ≡ false → test n ≡ true) (onward : (p n : List ℕ) (f : Face Text) → test p ≡ true → face_present (v.library.symbols p) ≡ There f → has n f.imports ≡ true → bytes_eq n x ≡ false → bytes_eq n (codes "Out") ≡ false → test n ≡ true) where
    faces_found : AllByRecursion (IsFound (interface_in v.library) x test) k.faces
    faces_found = all_found (interface_in v.library) x test (λ n f e. (found v.library lib n f e).0.named) (λ p n f t e. onward p n f t (found v.library lib p f e).1) ms k.faces first k.walked

    each_use : (us : List (Wanted Text)) → AllByRecursion (λ (u : Wanted Text). text_in k.faces u.object u.aspect ≡ Some u.kept) us →
        AllByRecursion (λ u. meets marks u (face_present (v.library.symbols u.object.«module»)) ≡ true) us × AllByRecursion (λ u. test u.object.«module» ≡ true) us
    each_use [] h = (tt, tt)
    each_use (u ∷ us) h =
        let i = kept_in (IsFound (interface_in v.library) x test) k.faces faces_found u h.0 in
        let t : face_present (v.library.symbols u.object.«module») ≡ There i.face = ap (λ n. face_present (v.library.symbols n)) (sym i.named) ∙ (found v.library lib i.face.«module» i.face i.good.found).1 in
        let more = each_use us h.1 in
        ((ap (meets marks u) t ∙ ap (λ o. is_met (compared bytes_eq u.kept o)) i.kept ∙ text_itself u.kept, more.0), (ap test (sym i.named) ∙ i.good.passes, more.1))

  same_name : (y : List ℕ) → bytes_eq y x ≡ false → bytes_eq y c.shows.«module» ≡ false
  same_name y h = ap (bytes_eq y) module_is ∙ h

  own_name : bytes_eq x c.shows.«module» ≡ true
  own_name = bytes_same x c.shows.«module» (sym module_is)

  does_so : Does maker v x ms now
  does_so =
      let b = new_build text c in
      record {
        not_out = k.not_out;
        source = λ y. source_stays v.files c.shows.«module» (bytes_of b) (symbols_of b) y;
        objects = λ y h. ap (λ t. has_present (if t then plan.Holds b else v.library.objects y)) (same_name y h);
        symbols = λ y h. ap (λ t. face_present (if t then plan.Holds b else v.library.symbols y)) (same_name y h);
        shows = has_as b;
        object = ap (λ t. has_present (if t then plan.Holds b else v.library.objects x)) own_name;
        face = shows_of b;
        symbol = ap (λ t. face_present (if t then plan.Holds b else v.library.symbols x)) own_name;
        imports = λ n h o. k.imports n (ap (λ (y : Compiled Text). has n y.shows.imports) (sym (build_is ∙ k.is)) ∙ h);
        met = (each_use (λ n. true) (λ n h e o. refl) (λ p n f t s h e o. refl) (shows_of b).uses uses_kept).0;
        near = λ test first onward. (each_use test first onward (shows_of b).uses uses_kept).1;
      }

  entry_after : (entries : List ℕ → plan.Entry Build) → ((n : List ℕ) → IsEntry n (entries n)) → (n : List ℕ) → IsEntry n (with_entry entries c.shows.«module» (new_build text c) n)
  entry_after entries h n = go (bytes_eq n c.shows.«module») refl
    where
      go : (t : Bool) → bytes_eq n c.shows.«module» ≡ t → IsEntry n (if t then plan.Holds (new_build text c) else entries n)
      go true e = (c, valid v.library lib text c is, ap (λ (y : Compiled Text). y.shows.«module») build_is ∙ sym (same_bytes n c.shows.«module» e))
      go false e = h n

  library_after : IsLibrary (with_changes v (becomes text c)).library
  library_after = record { objects = entry_after v.library.objects lib.objects; symbols = entry_after v.library.symbols lib.symbols }

all_do : AllDo maker (λ w. IsLibrary w.library)
all_do v x ms i s h = go (compiled_in v (v.files (source_name x))) refl h
  where
    go : (r : Result (Compiled Text) (compile.Refusal Text)) → compiled_in v (v.files (source_name x)) ≡ r → (compile_answer v (source_name x) (or_empty (v.files (source_name x))) r).refused ≡ false →
        Does maker v x ms (compile_answer v (source_name x) (or_empty (v.files (source_name x))) r).world × IsLibrary (compile_answer v (source_name x) (or_empty (v.files (source_name x))) r).world.library
    go (Err r) e h = absurd (false≢true (sym h))
    go (Ok c) e h =
        let file = v.files (source_name x) in
        let t = some_source texts (interface_in v.library) file c e in
        let is : file ≡ Some (or_empty file) = t.1 ∙ ap (λ (o : Option (List ℕ)). Some (or_empty o)) (sym t.1) in
        let f : compiled texts (interface_in v.library) (Some (or_empty file)) ≡ Ok c = ap (compiled texts (interface_in v.library)) (sym is) ∙ e in
        let k = comes_so texts (interface_in v.library) x ms c file s e in
        (does_so v i x ms (or_empty file) c f k, library_after v i x ms (or_empty file) c f k)

-- ---- a check

uses_same : (e : plan.Entry Build) → uses_present e ≡ uses_in (has_present e)
uses_same plan.Missing = refl
uses_same plan.TooLong = refl
uses_same plan.Junk = refl
uses_same (plan.Holds b) = refl

pub meaning_brings : MeaningBringsUpToDate
meaning_brings w i m xs e h x k p =
    let u = (make_answer maker m w).world in
    ap (check.checked bytes_eq text_of (λ name. face_present (u.library.symbols name)) x) (uses_same (u.library.objects x))
    ∙ fresh marks (λ name. face_present (u.library.symbols name)) x (has_present (u.library.objects x)) _ (up_to_date maker (λ v. IsLibrary v.library) all_do m w xs i e h x k p)
