-- Builds that go together, and their sources taken afresh.
use Rattle.std.specs.Prelude.{◌≡◌, ℕ, suc, ◌+◌, ◌≤◌, List, [], ◌∷◌, ◌++◌, length, map, Option, Some, None, Result, Ok, Err, Contains, ◌⊎◌, codes}
use Rattle.std.specs.List.{AllByRecursion}
use Rattle.ob_tree.specs.declared.decl.Module.{Module as Tree}
use Rattle.ob_types.specs.TypedSyntax.{Module}
use Rattle.ob_parse_grammar.specs.TextReading.{NoModule, reading}
use Rattle.ob_env.specs.Faces.{Face}
use Rattle.ob_compile_model.specs.Compiling.{Compiled, Refusal, texts, by_rules}
use Rattle.ob_link.specs.Plan.{most_modules}
use Rattle.ob_builds.specs.Builds.{Text, Build, IsValid, shows_of, tree_of, name_of}
use Rattle.ob_builds.specs.Local.{AreAsWanted}

-- the interfaces and trees of sources taken together: each is checked by the rules against the interfaces of those before it
abbrev pub Together : Type 0
Together = List (Face Text) × List Module

abbrev pub and_one : Together → Result (Compiled Text) (Refusal Text) → Option Together
and_one so_far (Err r) = None
and_one so_far (Ok c) = Some (so_far.0 ++ c.shows ∷ [], so_far.1 ++ c.tree ∷ [])

abbrev pub on_reading : Together → Result Tree NoModule → Option Together
on_reading so_far (Err f) = None
on_reading so_far (Ok m) = and_one so_far (by_rules texts so_far.0 m)

abbrev pub of_source : Together → List ℕ → Option Together
of_source so_far text = on_reading so_far (reading text)

abbrev pub and_all : Option Together → (Together → Option Together) → Option Together
and_all None more = None
and_all (Some x) more = more x

abbrev pub taken_afresh : Together → List (List ℕ) → Option Together
taken_afresh so_far [] = Some so_far
taken_afresh so_far (text ∷ more) = and_all (of_source so_far text) (λ x. taken_afresh x more)

-- a valid build stands behind these: they have all that it imports, none of its name, the text of each of its uses, and are fewer than
-- may be loaded
pub record IsBehind (before : List Build) (b : Build) : Type 0 where
  pub imports : AllByRecursion (λ n. (n ≡ codes "Out") ⊎ Contains (map name_of before) n) (shows_of b).imports
  pub new : Contains (map name_of before) (name_of b) → ⊥
  pub uses : AreAsWanted (map shows_of before) (shows_of b).uses
  pub few : suc (length before) ≤ most_modules
  pub valid : (c : Compiled Text) × IsValid b c

-- each of these stands behind those, and the ones before it
abbrev pub AreTogether : List Build → List Build → Type 0
AreTogether before [] = Unit {0}
AreTogether before (b ∷ bs) = IsBehind before b × AreTogether (before ++ b ∷ []) bs

-- The interfaces that loaded sources have as one program are the interfaces of their builds, and the program is well formed.
abbrev pub Afresh : Type 0
Afresh = (bs : List Build) → AreTogether [] bs → taken_afresh ([], []) (map (λ b. b.source) bs) ≡ Some (map shows_of bs, map tree_of bs)
