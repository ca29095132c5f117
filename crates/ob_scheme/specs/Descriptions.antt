-- What the scheme takes from descriptions: what a type is behind its equations, lengths of arrays, places of fields, numbers of
-- bound procedures.
use Rattle.std.specs.Prelude.{ℕ, List, Option, Some, None, unwrap_or}
use Rattle.ob_tree.specs.declared.names.QName.{QName}
use Rattle.ob_types.specs.declared.types.TypeRef.{TypeRef}
use Rattle.ob_types.specs.declared.types.TypeRef.TheVariants as ref
use Rattle.ob_types.specs.declared.desc.Desc.{Desc}
use Rattle.ob_types.specs.declared.desc.Desc.TheVariants as desc
use Rattle.ob_types.specs.Tests.{target, shape_at}
use Rattle.ob_layout.specs.Words.{words_of}
use Rattle.ob_layout.specs.Members.{field_place_in, method_number_in}

-- WHAT A TYPE IS: the type that it is equated to, and what the map has of it
abbrev pub name_in : TypeRef → Option QName
name_in (ref.Basic b) = None
name_in (ref.Named q) = Some q

-- its own name, which is no alias; none for a basic type; in a grounded map no chain has more than 201 types
abbrev pub own_name : (QName → Option Desc) → TypeRef → Option QName
own_name types t = name_in (target types 201 t)

-- its description, which is no alias
abbrev pub description : (QName → Option Desc) → TypeRef → Option Desc
description types t = shape_at types (target types 201 t)

-- how many elements an array has; none for an open array
abbrev pub elements_in : Option Desc → Option ℕ
elements_in (Some (desc.Array m n t)) = Some n
elements_in d = None

abbrev pub elements_of : (QName → Option Desc) → TypeRef → Option ℕ
elements_of types t = elements_in (description types t)

-- the words of an element of an open array
abbrev pub open_words_in : (QName → Option Desc) → Option Desc → ℕ
open_words_in types (Some (desc.OpenArray m t)) = words_of types t
open_words_in types d = 0

abbrev pub open_words : (QName → Option Desc) → TypeRef → ℕ
open_words types t = open_words_in types (description types t)

-- the place of a field, and the number of a bound procedure, of a checked tree, which has no other
unfoldable pub field_place : (QName → Option Desc) → QName → List ℕ → ℕ
field_place types owner x = unwrap_or (field_place_in types owner x) 0

unfoldable pub method_number : (QName → Option Desc) → QName → List ℕ → ℕ
method_number types owner x = unwrap_or (method_number_in types owner x) 0
