-- The laws: the types of a checked module name types that are there, chains of them end, and each keeps what it has to.
use Rattle.std.specs.Prelude.{◌≡◌, ℕ, true, false, List, Option, Some, None, bytes_eq, map as each}
use Rattle.std.specs.List.{AllByRecursion}
use Rattle.ob_tree.specs.declared.names.QName.{QName}
use Rattle.ob_tree.specs.declared.decl.Module.{Module as Tree}
use Rattle.ob_types.specs.declared.types.TypeRef.{TypeRef}
use Rattle.ob_types.specs.declared.types.TypeRef.TheVariants as ref
use Rattle.ob_types.specs.declared.desc.Desc.{Desc}
use Rattle.ob_types.specs.declared.typed.TypedModule.{TypedModule}
use Rattle.ob_types.specs.Maps.{named_by}
use Rattle.ob_types.specs.Relations.{IsGrounded}
use Rattle.ob_rules.specs.Shapes.{Map, same_name}
use Rattle.ob_rules.specs.Names.{Around, map_of, out_string}
use Rattle.ob_rules.specs.Depth.{is_within}
use Rattle.ob_rules.specs.Declarations.{around_module, declaration, target_of, module_part, deep_of, checked}
use Rattle.law_names_distinct.specs.Distinct.{AreDistinct}

-- neither types of the module nor the one of Out are shown to it
pub record IsApart (shown : QName → Option Desc) (unit : List ℕ) : Type 0 where
  pub own : (q : QName) → bytes_eq q.«module» unit ≡ true → shown q ≡ None
  pub out : shown out_string ≡ None

-- what stands around all types of a module
abbrev pub around_types : (QName → Option Desc) → Tree → TypedModule → Around
around_types shown tree m = record (around_module shown tree.name.name (each declaration tree.decls)) { own = m.types }

-- the map of the types of a checked module, of those that are shown to it, and of what is built in
abbrev pub types_of : (QName → Option Desc) → Tree → TypedModule → Map
types_of shown tree m = map_of (around_types shown tree m)

-- A module that keeps the rules and the limit of depth, against interfaces whose map is grounded; it imports others alone, and its types
-- differ in name.
pub record IsChecked (shown : QName → Option Desc) (tree : Tree) (m : TypedModule) : Type 0 where
  pub is : checked shown tree ≡ Some m
  pub shallow : deep_of shown tree.name (each declaration tree.decls) (module_part shown tree) ≡ false
  pub grounded : IsGrounded shown
  pub apart : IsApart shown tree.name.name
  pub imports : AllByRecursion (λ i. bytes_eq (target_of i).name tree.name.name ≡ false) tree.imports
  pub names : AreDistinct (λ t. t.name) m.types

-- a type that is not the one of Out
abbrev pub IsNotOut : TypeRef → Type 0
IsNotOut (ref.Basic b) = Unit {0}
IsNotOut (ref.Named q) = same_name q out_string ≡ false

-- THE MAP OF ITS TYPES IS GROUNDED; none names the type of Out; and the chain from each type of the module on has at most 200 types.
pub record AreGrounded (shown : QName → Option Desc) (tree : Tree) (m : TypedModule) : Type 0 where
  pub grounded : IsGrounded (types_of shown tree m)
  pub names : (q : QName) (d : Desc) → same_name q out_string ≡ false → types_of shown tree m q ≡ Some d → AllByRecursion IsNotOut (named_by d)
  pub short : AllByRecursion (λ t. is_within (types_of shown tree m) 200 (ref.Named (record { «module» = tree.name.name; object = t.name })) ≡ true) m.types

abbrev pub ModulesAreGrounded : Type 0
ModulesAreGrounded = (shown : QName → Option Desc) (tree : Tree) (m : TypedModule) → IsChecked shown tree m → AreGrounded shown tree m
