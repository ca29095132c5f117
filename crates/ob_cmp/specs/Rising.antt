-- The objects of an interface, as its file has them.
use Rattle.std.specs.Prelude.{ℕ, cond, List, [], ◌∷◌, map as each, Option, Some, None, bytes_eq}
use Rattle.std.specs.List.{AllByRecursion}
use Rattle.std.specs.List.Sorted.{IsStrictlySortedBy}
use Rattle.ob_tree.specs.declared.names.QName.{QName}
use Rattle.ob_types.specs.declared.desc.Desc.{Desc}
use Rattle.ob_types.specs.declared.face.Object.{Object}
use Rattle.ob_desc.specs.Grammar.{shape_fits}
use Rattle.ob_sym.specs.Grammar.{by_name, object_of}

abbrev pub IsSpelledIn : List ℕ → Object → Type 0
IsSpelledIn m o = shape_fits (object_of m o.name) o.desc

-- They have texts, and ascend by name.
pub record AreObjects (m : List ℕ) (os : List Object) : Type 0 where
  pub spelled : AllByRecursion (IsSpelledIn m) os
  pub rising : IsStrictlySortedBy by_name os

-- names and descriptions
abbrev pub shown : List Object → List (List ℕ × Desc)
shown os = each (λ o. (o.name, o.desc)) os

-- the object of that name
abbrev pub object_at : List ℕ → List Object → Option Object
object_at x [] = None
object_at x (o ∷ os) = cond (bytes_eq x o.name) (Some o) (object_at x os)
