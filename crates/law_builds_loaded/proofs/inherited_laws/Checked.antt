-- Each module of builds that are loaded together is checked over what those before it show.
use Rattle.std.proofs.Common.{◌≡◌, ℕ, List, [], ◌∷◌, ◌++◌, map, Option, Some, None, refl, sym, ap, subst, ◌∙◌, append_assoc}
use Rattle.std.specs.Prelude.{Result, Ok, Err}
use Rattle.ob_tree.specs.declared.decl.Module.{Module as Tree}
use Rattle.ob_types.specs.declared.typed.TypedModule.{TypedModule}
use Rattle.ob_types.specs.TypedSyntax.{Module}
use Rattle.ob_types.specs.TypedView.{module_view}
use Rattle.ob_layout.specs.LaidOut.{laid_out}
use Rattle.ob_env.specs.Faces.{Face, described}
use Rattle.ob_env.specs.Shown.{shown}
use Rattle.ob_rules.specs.declared.broken.Broken.{Broken}
use Rattle.ob_rules.specs.Declarations.{checked, first_break}
use Rattle.ob_parse_grammar.specs.TextReading.{NoModule, reading}
use Rattle.ob_compile_model.specs.Compiling.{Compiled, Refusal, texts, made, of_break, by_rules}
use Rattle.ob_builds.specs.Builds.{Text, Build, shows_of, tree_of}
use Rattle.ob_builds.specs.Afresh.{Together, and_one, on_reading, of_source, and_all, taken_afresh}
use Rattle.ob_builds.specs.Local.{Locality}
use Rattle.ob_builds.specs.Written.{BuildsAreWritten}
use Rattle.law_builds.proofs.Gathered.{afresh_so}
use Rattle.law_program_runs.specs.Builds.{AreLoaded}
use Rattle.law_program_runs.proofs.Settings.{loaded_front}
use Rattle.law_lists.proofs.Lists.{each_last}

-- ---- sources taken together, in two parts

taken_both : (xs ys : List (List ℕ)) (s : Together) → taken_afresh s (xs ++ ys) ≡ and_all (taken_afresh s xs) (λ z. taken_afresh z ys)
taken_both [] ys s = refl
taken_both (x ∷ xs) ys s = by (of_source s x) (λ z. taken_both xs ys z)
  where
    by : (o : Option Together) → ((z : Together) → taken_afresh z (xs ++ ys) ≡ and_all (taken_afresh z xs) (λ z. taken_afresh z ys)) → and_all o (λ z. taken_afresh z (xs ++ ys)) ≡ and_all (and_all o (λ z. taken_afresh z xs)) (λ z. taken_afresh z ys)
    by None r = refl
    by (Some z) r = r z

and_none : (o : Option Together) → and_all o (λ z. taken_afresh z []) ≡ o
and_none None = refl
and_none (Some z) = refl

last_same : {A : Type 0} (xs : List A) (x y : A) → xs ++ x ∷ [] ≡ xs ++ y ∷ [] → x ≡ y
last_same [] x y e = cc
last_same (z ∷ zs) x y e = let k : zs ++ x ∷ [] ≡ zs ++ y ∷ [] = cc in last_same zs x y k

-- ---- a module is checked over those before it

pub record IsChecked (before : List Build) (b : Build) : Type 0 where
  pub tree : Tree
  pub read : reading b.source ≡ Ok tree
  pub t : TypedModule
  pub checked_is : checked (shown (map shows_of before)) tree ≡ Some t
  pub is : tree_of b ≡ laid_out (described (map shows_of before)) (module_view t)

abbrev second : Option Together → List Module
second None = []
second (Some z) = z.1

source_checked : (before : List Build) (b : Build) → of_source (map shows_of before, map tree_of before) b.source ≡ Some (map shows_of (before ++ b ∷ []), map tree_of (before ++ b ∷ [])) → IsChecked before b
source_checked before b e = read (reading b.source) refl e
  where
    faces : List (Face Text)
    faces = map shows_of before

    End : Option Together
    End = Some (map shows_of (before ++ b ∷ []), map tree_of (before ++ b ∷ []))

    rules : (m : Tree) → reading b.source ≡ Ok m → (c : Compiled Text) → c.tree ≡ tree_of b → (o : Option Broken) (t : Option TypedModule) → checked (shown faces) m ≡ t → of_break texts faces t o ≡ Ok c → IsChecked before b
    rules m r c s (Some x) t i f = absurd cc
    rules m r c s None None i f = absurd cc
    rules m r c s None (Some t) i f =
        let k : made texts faces (laid_out (described faces) (module_view t)) ≡ c = cc in
        record { tree = m; read = r; t = t; checked_is = i; is = sym s ∙ ap (λ (x : Compiled Text). x.tree) (sym k) }

    ruled : (m : Tree) → reading b.source ≡ Ok m → (x : Result (Compiled Text) (Refusal Text)) → by_rules texts faces m ≡ x → and_one (faces, map tree_of before) x ≡ End → IsChecked before b
    ruled m r (Err f) i e = absurd cc
    ruled m r (Ok c) i e =
        let trees : map tree_of before ++ c.tree ∷ [] ≡ map tree_of before ++ tree_of b ∷ [] = ap second e ∙ each_last tree_of before b in
        rules m r c (last_same (map tree_of before) c.tree (tree_of b) trees) (first_break (shown faces) m) (checked (shown faces) m) refl i

    read : (r : Result Tree NoModule) → reading b.source ≡ r → on_reading (faces, map tree_of before) r ≡ End → IsChecked before b
    read (Err f) i e = absurd cc
    read (Ok m) i e = ruled m i (by_rules texts faces m) refl e

pub checked_at : BuildsAreWritten → Locality → (before : List Build) (b : Build) (after : List Build) → AreLoaded (before ++ b ∷ after) → IsChecked before b
checked_at written locality before b after l =
    let one = afresh_so written locality before (loaded_front before (b ∷ after) l).together in
    let both = afresh_so written locality (before ++ b ∷ []) (loaded_front (before ++ b ∷ []) after (subst AreLoaded (sym (append_assoc before (b ∷ []) after)) l)).together in
    source_checked before b
    (sym (and_none (of_source (map shows_of before, map tree_of before) b.source))
    ∙ sym (ap (λ o. and_all o (λ z. taken_afresh z (b.source ∷ []))) one)
    ∙ sym (taken_both (map (λ (x : Build). x.source) before) (b.source ∷ []) ([], []))
    ∙ sym (ap (taken_afresh ([], [])) (each_last (λ (x : Build). x.source) before b))
    ∙ both)
