-- The objects of an interface and their names.
use Rattle.std.specs.Prelude.{ℕ, List, map as each}
use Rattle.std.specs.declared.hash.BuildHasherDefault.{BuildHasherDefault}
use Rattle.std.specs.declared.hash.FoldHasher.{FoldHasher}
use Rattle.indexmap.specs.IndexMap.{IndexMap, values}
use Rattle.ob_types.specs.declared.face.Object.{Object}
use Rattle.ob_types.specs.declared.face.Use.{Use}
use Rattle.ob_types.specs.declared.face.Interface.{Interface}

abbrev pub names_of : List Object → List (List ℕ)
names_of os = each (λ o. o.name) os

-- each object under its name
abbrev pub under_names : List Object → List (List ℕ × Object)
under_names os = each (λ o. (o.name, o)) os

-- a map from names to objects
abbrev pub ObjectIndex : Type 0
ObjectIndex = IndexMap (List ℕ) Object (BuildHasherDefault FoldHasher)

-- the interface of these parts, with the objects of a map
abbrev pub spelled_face : List ℕ → List (List ℕ) → ObjectIndex → List Use → Interface
spelled_face m imports objects uses = record { «module» = m; imports = imports; objects = values objects; uses = uses }
