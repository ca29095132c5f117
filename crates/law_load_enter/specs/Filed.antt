-- What the object file of a build has of its module.
use Rattle.std.specs.Prelude.{◌≡◌, ℕ, ◌≤◌, List, length, Some}
use Rattle.ob_types.specs.TypedSyntax.{Procedure}
use Rattle.ob_obj.specs.Images.{global_words}
use Rattle.ob_meaning.specs.Commands.{command_named}
use Rattle.law_simulation_relation.specs.Layout.{procedure_index}
use Rattle.ob_compile_model.specs.Compiling.{Compiled}
use Rattle.ob_link.specs.Files.{command_in}
use Rattle.ob_builds.specs.Builds.{Text, Build, IsValid, tree_of, name_of, file_of, asks}

-- its name, the words of its globals, and not too much code
pub record HasOfFile (b : Build) : Type 0 where
  pub name : (tree_of b).name ≡ name_of b
  pub words : asks.words b ≡ global_words (file_of b)
  pub short : length (file_of b).body.code ≤ 262144

-- so it is of each valid build
abbrev pub FilesHave : Type 0
FilesHave = (b : Build) (c : Compiled Text) → IsValid b c → HasOfFile b

-- the commands of a build's file are at the numbers of their procedures
abbrev pub HasCommands : Build → Type 0
HasCommands b = (x : List ℕ) (p : Procedure) → command_named (tree_of b) x ≡ Some p → command_in (file_of b) x ≡ Some (procedure_index (tree_of b).procedures x)

-- so it is of each valid build
abbrev pub FilesHaveCommands : Type 0
FilesHaveCommands = (b : Build) (c : Compiled Text) → IsValid b c → HasCommands b
