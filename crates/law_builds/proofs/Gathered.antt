-- Builds that go together, taken afresh.
use Rattle.std.proofs.Common.{◌≡◌, ℕ, zero, suc, ◌<◌, arith, codes, List, [], ◌∷◌, ◌++◌, Bool, true, false, refl, sym, ap, ◌∙◌, subst, append_assoc, Option, Some, None, Result, Ok, Err}
use Rattle.std.specs.Prelude.{map, nat_le, length, Contains, slice_index_or}
use Rattle.std.specs.List.{AllByRecursion}
use Rattle.std.proofs.lemmas.Bool.{false≢true}
use Rattle.std.proofs.lemmas.List.{append-nil}
use Rattle.ob_tree.specs.declared.names.QName.{QName}
use Rattle.ob_tree.specs.declared.decl.Module.{Module as Tree}
use Rattle.ob_types.specs.declared.face.Aspect.{Aspect}
use Rattle.ob_format.specs.Format.{◌>>=◌}
use Rattle.ob_desc.specs.Grammar.{text_of}
use Rattle.ob_types.specs.TypedSyntax.{Module}
use Rattle.ob_env.specs.Faces.{Face, Wanted, face_named, object_named, text_in}
use Rattle.ob_env_walk.specs.Walk.{Entry}
use Rattle.ob_rules.specs.Names.{is_out}
use Rattle.ob_parse_grammar.specs.TextReading.{NoModule, reading}
use Rattle.ob_compile_model.specs.Compiling as c
use Rattle.ob_compile_model.specs.Compiling.{Compiled, compiled, texts, of_reading, of_short, most_source}
use Rattle.ob_builds.specs.Builds.{Text, Build, IsSpelled, IsValid, of, shows_of, tree_of, name_of}
use Rattle.ob_builds.specs.Afresh.{Together, IsBehind, AreTogether, Afresh, and_one, on_reading, of_source, and_all, taken_afresh}
use Rattle.ob_builds.specs.Local.{AreAround, AreAsWanted, Locality}
use Rattle.ob_builds.specs.Written.{BuildsAreWritten}
use Rattle.law_builds.proofs.Apart.{build_apart}
use Rattle.law_builds.proofs.Compiled.{Comes, comes, err_no}
use Rattle.law_builds.proofs.Faces.{of_is}
use Rattle.law_builds.proofs.Kept.{none_no}
use Rattle.law_builds.proofs.Again.{extends_more}
use Rattle.law_lists.proofs.Lists.{all_last}

-- THE TREE OF A BUILD

tree_read : (entry : List ℕ → Entry Text) (r : Result Tree NoModule) (x : Compiled Text) → of_reading texts entry r ≡ Ok x → (m : Tree) × (r ≡ Ok m)
tree_read entry (Ok m) x e = (m, refl)
tree_read entry (Err f) x e = absurd (err_no (c.Unread f) x e)

tree_short : (entry : List ℕ → Entry Text) (b : Bool) (r : Result Tree NoModule) (x : Compiled Text) → of_short b (of_reading texts entry r) ≡ Ok x → (m : Tree) × (r ≡ Ok m)
tree_short entry true r x e = tree_read entry r x e
tree_short entry false r x e = absurd (err_no c.Long x e)

tree_in : (entry : List ℕ → Entry Text) (source : List ℕ) (x : Compiled Text) → compiled texts entry (Some source) ≡ Ok x → (m : Tree) × (reading source ≡ Ok m)
unfolding compiled
tree_in entry source x e = tree_short entry (nat_le (length source) most_source) (reading source) x e

-- ONE MORE

map_last : {A B : Type 0} (f : A → B) (xs : List A) (x : A) → map f (xs ++ x ∷ []) ≡ map f xs ++ f x ∷ []
map_last f [] x = refl
map_last f (y ∷ ys) x = ap (λ r. f y ∷ r) (map_last f ys x)

abbrev gathered : List Build → Together
gathered bs = (map shows_of bs, map tree_of bs)

abbrev pair : List (Face Text) → List Module → Option Together
pair faces trees = Some (faces, trees)

-- ---- the interfaces of builds that go together

abbrev of_found : QName → Aspect → Option (Face Text) → Option Text
of_found q a o = (o >>= λ f. object_named f.objects q.object) >>= λ d. text_of q d a

text_more : (xs ys : List (Face Text)) (q : QName) (a : Aspect) (t : Text) → text_in xs q a ≡ Some t → text_in (xs ++ ys) q a ≡ Some t
text_more xs ys q a t e = go (face_named xs q.«module») refl e
  where
    go : (o : Option (Face Text)) → face_named xs q.«module» ≡ o → of_found q a o ≡ Some t → of_found q a (face_named (xs ++ ys) q.«module») ≡ Some t
    go None i h = absurd (none_no t h)
    go (Some f) i h = ap (of_found q a) (extends_more xs ys q.«module» f i) ∙ h

wanted_more : (xs ys : List (Face Text)) (us : List (Wanted Text)) → AreAsWanted xs us → AreAsWanted (xs ++ ys) us
wanted_more xs ys [] h = tt
wanted_more xs ys (u ∷ us) h = (text_more xs ys u.object u.aspect u.kept h.0, wanted_more xs ys us h.1)

all_more_wanted : (xs ys fs : List (Face Text)) → AllByRecursion (λ f. AreAsWanted xs f.uses) fs → AllByRecursion (λ f. AreAsWanted (xs ++ ys) f.uses) fs
all_more_wanted xs ys [] h = tt
all_more_wanted xs ys (f ∷ fs) h = (wanted_more xs ys f.uses h.0, all_more_wanted xs ys fs h.1)

-- ---- none is named Out

abbrev IsNotOut : Face Text → Type 0
IsNotOut f = is_out f.«module» ≡ false

none_out : (fs : List (Face Text)) → AllByRecursion IsNotOut fs → (n : ℕ) → n < length fs → slice_index_or (map (λ (f : Face Text). f.«module») fs) n (codes "Out") ≡ codes "Out" → ⊥
none_out [] h n k e = omega (arith, k)
none_out (f ∷ fs) h zero k e = false≢true (sym h.0 ∙ ap is_out e)
none_out (f ∷ fs) h (suc n) k e = none_out fs h.1 n (omega (arith, k)) e

mapped_length : (fs : List (Face Text)) → length (map (λ (f : Face Text). f.«module») fs) ≡ length fs
mapped_length [] = refl
mapped_length (f ∷ fs) = ap suc (mapped_length fs)

not_there : (fs : List (Face Text)) → AllByRecursion IsNotOut fs → Contains (map (λ (f : Face Text). f.«module») fs) (codes "Out") → ⊥
not_there fs h c = none_out fs h c.0 (subst (λ n. c.0 < n) (mapped_length fs) c.1) c.2

build_named : (b : Build) (c : Compiled Text) → IsValid b c → IsNotOut c.shows
build_named b c v =
    let h : Comes texts c = comes texts _ (Some b.source) c v.is in
    subst (λ n. is_out n ≡ false) (subst (λ (x : Compiled Text). x.tree.name ≡ x.shows.«module») (sym h.is) refl) (build_apart b c v).out

record Standing (before : List Build) : Type 0 where
  spelled : AllByRecursion IsSpelled (map shows_of before)
  met : AllByRecursion (λ f. AreAsWanted (map shows_of before) f.uses) (map shows_of before)
  named : AllByRecursion IsNotOut (map shows_of before)

stand_more : BuildsAreWritten → (before : List Build) (b : Build) → Standing before → IsBehind before b → Standing (before ++ b ∷ [])
stand_more written before b s h =
    let x = h.valid.0 in
    let o : x.shows ≡ shows_of b = ap (λ (y : Compiled Text). y.shows) (sym (of_is b x h.valid.1)) in
    let fs = map shows_of before in
    let spelled : AllByRecursion IsSpelled (fs ++ shows_of b ∷ []) = all_last IsSpelled fs (shows_of b) s.spelled (subst IsSpelled o (written b x h.valid.1).symbols) in
    let met : AllByRecursion (λ f. AreAsWanted (fs ++ shows_of b ∷ []) f.uses) (fs ++ shows_of b ∷ []) =
    all_last (λ f. AreAsWanted (fs ++ shows_of b ∷ []) f.uses) fs (shows_of b) (all_more_wanted fs (shows_of b ∷ []) fs s.met) (wanted_more fs (shows_of b ∷ []) (shows_of b).uses h.uses) in
    let e : fs ++ shows_of b ∷ [] ≡ map shows_of (before ++ b ∷ []) = sym (map_last shows_of before b) in
    record {
      spelled = subst (λ gs. AllByRecursion IsSpelled gs) e spelled;
      met = subst (λ gs. AllByRecursion (λ f. AreAsWanted gs f.uses) gs) e met;
      named = subst (AllByRecursion IsNotOut) e (all_last IsNotOut fs (shows_of b) s.named (subst IsNotOut o (build_named b x h.valid.1)));
    }

names_of : (bs : List Build) → map (λ (f : Face Text). f.«module») (map shows_of bs) ≡ map name_of bs
names_of [] = refl
names_of (b ∷ bs) = ap (λ r. name_of b ∷ r) (names_of bs)

one_more : Locality → (before : List Build) (b : Build) → Standing before → IsBehind before b → of_source (gathered before) b.source ≡ Some (gathered (before ++ b ∷ []))
one_more locality before b s h =
    let x = h.valid.0 in
    let v = h.valid.1 in
    let o : of b ≡ x = of_is b x v in
    let m = tree_in _ b.source x v.is in
    let around : AreAround x.shows.«module» (map shows_of before) = record {
      spelled = s.spelled;
      other = λ c. h.new (subst (λ ns. Contains ns (name_of b)) (names_of before) (subst (Contains (map (λ (f : Face Text). f.«module») (map shows_of before))) (ap (λ (y : Compiled Text). y.shows.«module») (sym o)) c));
      out = not_there (map shows_of before) s.named;
      met = s.met;
    } in
    let d = locality b x m.0 v m.1 (map shows_of before) around (subst (λ (f : Face Text). AreAsWanted (map shows_of before) f.uses) (ap (λ (y : Compiled Text). y.shows) o) h.uses) in
    let shows : d.0.shows ≡ shows_of b = d.2.shows ∙ ap (λ (y : Compiled Text). y.shows) (sym o) in
    let tree : d.0.tree ≡ tree_of b = d.2.tree ∙ ap (λ (y : Compiled Text). y.tree) (sym o) in
    ap (on_reading (gathered before)) m.1
    ∙ ap (and_one (gathered before)) d.1
    ∙ ap (λ f. pair (map shows_of before ++ f ∷ []) (map tree_of before ++ d.0.tree ∷ [])) shows
    ∙ ap (λ t. pair (map shows_of before ++ shows_of b ∷ []) (map tree_of before ++ t ∷ [])) tree
    ∙ ap (λ fs. pair fs (map tree_of before ++ tree_of b ∷ [])) (sym (map_last shows_of before b))
    ∙ ap (λ ts. pair (map shows_of (before ++ b ∷ [])) ts) (sym (map_last tree_of before b))

-- ALL

abbrev sources : List Build → List (List ℕ)
sources bs = map (λ b. b.source) bs

all_more : BuildsAreWritten → Locality → (bs before : List Build) → Standing before → AreTogether before bs → taken_afresh (gathered before) (sources bs) ≡ Some (gathered (before ++ bs))
all_more written locality [] before s h = ap (λ xs. Some (gathered xs)) (sym (append-nil before))
all_more written locality (b ∷ bs) before s h =
    ap (λ o. and_all o (λ x. taken_afresh x (sources bs))) (one_more locality before b s h.0)
    ∙ all_more written locality bs (before ++ b ∷ []) (stand_more written before b s h.0) h.1
    ∙ ap (λ xs. Some (gathered xs)) (append_assoc before (b ∷ []) bs)

pub afresh_so : BuildsAreWritten → Locality → Afresh
afresh_so written locality bs h = all_more written locality bs [] (record { spelled = tt; met = tt; named = tt }) h
