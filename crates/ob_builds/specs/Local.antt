-- A build is the same against all interfaces that have the texts of its uses.
use Rattle.std.specs.Prelude.{◌≡◌, ℕ, List, map, Some, Ok, Contains, codes}
use Rattle.std.specs.List.{AllByRecursion}
use Rattle.ob_tree.specs.declared.decl.Module.{Module as Tree}
use Rattle.ob_parse_grammar.specs.TextReading.{reading}
use Rattle.ob_env.specs.Faces.{Face, Wanted, text_in}
use Rattle.ob_compile_model.specs.Compiling.{Compiled, texts, by_rules, object_by}
use Rattle.ob_builds.specs.Builds.{Text, Build, IsSpelled, IsValid}

-- these uses have their texts in these interfaces
abbrev pub AreAsWanted : List (Face Text) → List (Wanted Text) → Type 0
AreAsWanted faces uses = AllByRecursion (λ u. text_in faces u.object u.aspect ≡ Some u.kept) uses

-- what two compiles of one source have in common
pub record IsSame (c d : Compiled Text) : Type 0 where
  pub tree : d.tree ≡ c.tree
  pub shows : d.shows ≡ c.shows
  pub object : object_by texts d ≡ object_by texts c

-- interfaces around a module of this name: each can stand in a symbol file, none is of that module or of Out, and each of their uses
-- has its text among them
pub record AreAround (m : List ℕ) (faces : List (Face Text)) : Type 0 where
  pub spelled : AllByRecursion IsSpelled faces
  pub other : Contains (map (λ f. f.«module») faces) m → ⊥
  pub out : Contains (map (λ f. f.«module») faces) (codes "Out") → ⊥
  pub met : AllByRecursion (λ f. AreAsWanted faces f.uses) faces

-- A valid build whose uses have the same texts in other interfaces keeps the rules against those too, with the same checked
-- module, interface, uses and code. (Not so the limit depth: a type far below may be nested deeper there.)
abbrev pub Locality : Type 0
Locality = (b : Build) (c : Compiled Text) (m : Tree) → IsValid b c → reading b.source ≡ Ok m →
    (faces : List (Face Text)) → AreAround c.shows.«module» faces → AreAsWanted faces c.shows.uses →
    (d : Compiled Text) × (by_rules texts faces m ≡ Ok d) × IsSame c d
