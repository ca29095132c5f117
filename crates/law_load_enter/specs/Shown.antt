-- Types that builds show are types of their modules.
use Rattle.std.specs.Prelude.{◌≡◌, List, [], map, Some, IsSome, true}
use Rattle.ob_tree.specs.declared.names.QName.{QName}
use Rattle.ob_types.specs.declared.desc.Desc.{Desc}
use Rattle.ob_types.specs.Maps.{is_type}
use Rattle.ob_meaning.specs.Values.{description}
use Rattle.ob_env.specs.Faces.{described}
use Rattle.ob_builds.specs.Builds.{Build, tree_of, shows_of}
use Rattle.ob_builds.specs.Afresh.{AreTogether}

-- What the interfaces of builds that go together have as a type is declared in the module of that name.
abbrev pub ShownAreDeclared : Type 0
ShownAreDeclared = (bs : List Build) → AreTogether [] bs → (q : QName) (d : Desc) → described (map shows_of bs) q ≡ Some d → is_type d ≡ true → IsSome (description (map tree_of bs) q)
