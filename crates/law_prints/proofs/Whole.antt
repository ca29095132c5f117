-- The compile from the source to its answer, by prints and by texts.
use Rattle.std.proofs.Common.{◌≡◌, ℕ, Bool, true, false, List, [], ◌∷◌, Option, Some, None, Result, Ok, Err, refl, ap, ◌∙◌}
use Rattle.std.specs.Prelude.{map as each, bytes_eq, nat_le, length}
use Rattle.std.specs.List.{AllByRecursion}
use Rattle.ob_tree.specs.declared.print.Print.{Print}
use Rattle.ob_tree.specs.declared.decl.Module.{Module as Tree}
use Rattle.ob_env.specs.Faces.{Face, text_in, print_in}
use Rattle.ob_env.specs.Stale.{prints_agree}
use Rattle.ob_env.specs.Answer.{Standing, Stands, Stale, Unfit, standing}
use Rattle.ob_env_walk.specs.Walk.{Entry, Walked, Left, NoInterface, Damaged, Cycle, TooMany, walk}
use Rattle.ob_env_walk.specs.Answer.{Reached, Stopped, Whole, after_walk, env_answer}
use Rattle.ob_parse_grammar.specs.TextReading.{NoModule, reading}
use Rattle.ob_compile_model.specs.Compiling.{Refusal, Compiled, compiled, prints, texts, imported, most_imports, of_standing, of_reached, of_few, of_tree, of_reading, most_source, of_short}
use Rattle.law_prints.specs.Printed.{Text, walked_printed, standing_printed, reached_printed, result_printed}
use Rattle.law_prints.specs.Alike.{AreCompared, ByCompile, AreToldApart}
use Rattle.law_prints.proofs.Walking.{Known, Alike, walks}
use Rattle.law_prints.proofs.Standing.{standing_is}
use Rattle.law_prints.proofs.Made.{faces_are}

standing_gives : (tree : Tree) (s : Standing Text) → of_standing prints tree (standing_printed s) ≡ result_printed (of_standing texts tree s)
standing_gives tree (Stands fs) = faces_are fs tree
standing_gives tree (Stale u) = refl
standing_gives tree (Unfit q) = refl

reached_gives : (tree : Tree) (r : Reached Text) → of_reached prints tree (reached_printed r) ≡ result_printed (of_reached texts tree r)
reached_gives tree (Stopped w) = refl
reached_gives tree (Whole s) = standing_gives tree s

few_gives : (b : Bool) (r : Result (Compiled Text) (Refusal Text)) → of_few b (result_printed r) ≡ result_printed (of_few b r)
few_gives true r = refl
few_gives false r = refl

short_gives : (b : Bool) (r : Result (Compiled Text) (Refusal Text)) → of_short b (result_printed r) ≡ result_printed (of_short b r)
short_gives true r = refl
short_gives false r = refl

-- an interface whose imports are looked up
abbrev pub IsKnown : (Q : List ℕ → Type 0) → Face Text → Type 0
IsKnown Q f = AllByRecursion Q f.imports

-- what a walk compares that leaves all its modules is told apart
abbrev pub IsTold : Walked Text → Type 0
IsTold v = (faces : List (Face Text)) → v ≡ Left faces → AreToldApart (AreCompared faces)

after_gives : (v : Walked Text) → IsTold v → after_walk (standing prints_agree print_in) (walked_printed v) ≡ reached_printed (after_walk (standing bytes_eq text_in) v)
after_gives (Left fs) told = ap (λ (s : Standing Print). Whole s) (standing_is fs (told fs refl))
after_gives (NoInterface m) told = refl
after_gives (Damaged m) told = refl
after_gives (Cycle m) told = refl
after_gives TooMany told = refl

module _ (Q : List ℕ → Type 0) (finds : List ℕ → Entry Text) (files : List ℕ → Entry Print) (k : Known Q (IsKnown Q) finds files) where
  abbrev pub from : Tree → Walked Text
  from tree = walk finds tree.name.name (each imported tree.imports)

  env_gives : (root : List ℕ) (imports : List (List ℕ)) → AllByRecursion Q imports → IsTold (walk finds root imports) → env_answer prints_agree print_in files root imports ≡ reached_printed (env_answer bytes_eq text_in finds root imports)
  env_gives root imports q told =
      let a : Alike (IsKnown Q) (walk files root imports) (walk finds root imports) = walks Q (IsKnown Q) finds files k root imports q in
      ap (after_walk (standing prints_agree print_in)) a.same ∙ after_gives (walk finds root imports) told

  tree_gives : (tree : Tree) → AllByRecursion Q (each imported tree.imports) → IsTold (from tree) → of_tree prints files tree ≡ result_printed (of_tree texts finds tree)
  tree_gives tree q told =
      ap (λ (r : Reached Print). of_few (nat_le (length tree.imports) most_imports) (of_reached prints tree r)) (env_gives tree.name.name (each imported tree.imports) q told)
      ∙ ap (of_few (nat_le (length tree.imports) most_imports)) (reached_gives tree (env_answer bytes_eq text_in finds tree.name.name (each imported tree.imports)))
      ∙ few_gives (nat_le (length tree.imports) most_imports) (of_reached texts tree (env_answer bytes_eq text_in finds tree.name.name (each imported tree.imports)))

  reading_gives : (r : Result Tree NoModule) → ((tree : Tree) → r ≡ Ok tree → AllByRecursion Q (each imported tree.imports)) → ((tree : Tree) → r ≡ Ok tree → IsTold (from tree)) → of_reading prints files r ≡ result_printed (of_reading texts finds r)
  reading_gives (Ok tree) q told = tree_gives tree (q tree refl) (told tree refl)
  reading_gives (Err f) q told = refl

  -- THE COMPILE
  pub compiled_gives : (source : Option (List ℕ)) → ((text : List ℕ) (tree : Tree) → source ≡ Some text → reading text ≡ Ok tree → AllByRecursion Q (each imported tree.imports)) → AreToldApart (ByCompile finds source) → compiled prints files source ≡ result_printed (compiled texts finds source)
  unfolding compiled
  compiled_gives None q told = refl
  compiled_gives (Some text) q told =
      ap (of_short (nat_le (length text) most_source)) (reading_gives (reading text) (λ tree e. q text tree refl e) (λ tree r faces w kept found c p. told kept found (text, tree, faces, refl, r, w, c) p))
      ∙ short_gives (nat_le (length text) most_source) (of_reading texts finds (reading text))
