-- The laws of the names of types.
use Rattle.std.specs.Prelude.{◌≡◌, ℕ, ◌<◌, ◌^◌, true, List, length, map, Option, Some, None, Ok, bytes_eq}
use Rattle.std.specs.List.{AllByRecursion}
use Rattle.ob_tree.specs.declared.names.QName.{QName}
use Rattle.ob_tree.specs.declared.decl.Module.{Module as Tree}
use Rattle.ob_types.specs.declared.desc.Desc.{Desc}
use Rattle.ob_types.specs.declared.typed.TypedModule.{TypedModule}
use Rattle.ob_types.specs.Relations.{IsGrounded}
use Rattle.ob_parse_grammar.specs.TextReading.{reading}
use Rattle.ob_rules.specs.Names.{map_of}
use Rattle.ob_rules.specs.Depth.{is_within}
use Rattle.ob_rules.specs.Declarations.{declaration, around_module, module_part, checked}
use Rattle.law_names_distinct.specs.Distinct.{AreDistinct}
use Rattle.law_names_distinct.specs.Named.{tree_named}
use Rattle.law_spelling_names.specs.Nested.{tree_within}
use Rattle.law_spelling_names.specs.Seen.{named_in, IsSeen, AreOthers}

-- WHAT IS READ is nested in at most 200 levels, and what names types has at most 64 characters.
abbrev pub ReadingsAreWithin : Type 0
ReadingsAreWithin = (text : List ℕ) (tree : Tree) → reading text ≡ Ok tree → tree_within tree 200 ≡ true

-- THE NAMES OF TYPES of a checked module are shorter than 2^16, where its text is so nested, the types that its parts make are seen in some
-- map of types, and those of other modules do not name them.
abbrev pub NamesAreShort : Type 0
NamesAreShort = (types shown : QName → Option Desc) (tree : Tree) (m : TypedModule) → checked shown tree ≡ Some m → tree_named tree ≡ true → tree_within tree 200 ≡ true → AreOthers shown tree.name.name →
    AllByRecursion (IsSeen types tree.name.name) (module_part shown tree).contents.types → AllByRecursion (λ t. length t.name < 2 ^ 16) m.types

-- the map of the types of a checked module and of those that are shown to it
abbrev pub types_of : (QName → Option Desc) → Tree → TypedModule → QName → Option Desc
types_of shown tree m = map_of (record (around_module shown tree.name.name (map declaration tree.decls)) { own = m.types })

-- What is shown to a checked module is grounded and nothing of the module itself, its types differ in name, and the chains of its types have
-- at most 200 types.
pub record IsSound (shown : QName → Option Desc) (tree : Tree) (m : TypedModule) : Type 0 where
  pub grounded : IsGrounded shown
  pub apart : (q : QName) → bytes_eq q.«module» tree.name.name ≡ true → shown q ≡ None
  pub differ : AreDistinct (λ t. t.name) m.types
  pub chains : AllByRecursion (λ t. is_within (types_of shown tree m) 200 (named_in tree.name.name t.name) ≡ true) m.types

-- SO ARE THE NAMES of a module that is read in few bytes, keeps the rules, and is sound.
abbrev pub SoundNamesAreShort : Type 0
SoundNamesAreShort = (shown : QName → Option Desc) (tree : Tree) (m : TypedModule) → checked shown tree ≡ Some m → tree_named tree ≡ true → tree_within tree 200 ≡ true → IsSound shown tree m → AllByRecursion (λ t. length t.name < 2 ^ 16) m.types
