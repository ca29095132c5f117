-- The laws: types stand in the order of the text, so the bases of records stand before them, counted among records.
use Rattle.std.specs.Prelude.{List, [], Option}
use Rattle.std.specs.List.{AllByRecursion}
use Rattle.ob_tree.specs.declared.names.QName.{QName}
use Rattle.ob_tree.specs.declared.decl.Module.{Module as Tree}
use Rattle.ob_types.specs.declared.desc.Desc.{Desc}
use Rattle.ob_types.specs.declared.typed.TypedModule.{TypedModule}
use Rattle.ob_layout.specs.LaidOut.{viewed}
use Rattle.ob_env.specs.Faces.{Face, described}
use Rattle.ob_compile_model.specs.Compiling.{Compiled}
use Rattle.law_names_distinct.specs.Distinct.{AreDistinct}
use Rattle.law_spelling.specs.Laws.{IsSpelled}
use Rattle.law_spelling.specs.Files.{BasesFit}
use Rattle.law_acyclic.specs.Laws.{IsChecked}
use Rattle.law_builds_written.specs.Laws.{Text, IsCheckedOver, laid}
use Rattle.ob_builds.specs.Builds.{Build, IsValid}
use Rattle.law_builds_written.specs.based_laws.Based.{AreBased}

-- The base of each record of a checked module, and what each alias is equated to, stand before it.
abbrev pub ModulesAreBased : Type 0
ModulesAreBased = (shown : QName → Option Desc) (tree : Tree) (m : TypedModule) → IsChecked shown tree m → AreBased tree.name.name shown [] m.types

-- With its records laid out the number of a base, if it is one of the module's records, is below those of its extensions.
abbrev pub ViewsAreBased : Type 0
ViewsAreBased = (faces : List (Face Text)) (tree : Tree) (m : TypedModule) → IsCheckedOver faces tree m → AllByRecursion IsSpelled faces → BasesFit (viewed (described faces) (laid faces m)) (laid faces m) 0 (laid faces m).types

-- So it is in a valid build whose types differ in name.
abbrev pub BuildsAreBased : Type 0
BuildsAreBased = (b : Build) (c : Compiled Text) → IsValid b c → AreDistinct (λ t. t.name) c.tree.types → BasesFit (viewed (described c.against) c.tree) c.tree 0 c.tree.types
