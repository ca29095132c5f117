-- The names in a procedure.
use Rattle.std.specs.Prelude.{◌≡◌, ℕ, List, ◌++◌, map, Option, Some}
use Rattle.std.specs.List.{AllByRecursion}
use Rattle.ob_tree.specs.declared.names.QName.{QName}
use Rattle.ob_tree.specs.declared.decl.Module.{Module as Tree}
use Rattle.ob_types.specs.declared.desc.Desc.{Desc}
use Rattle.ob_types.specs.declared.typed.TypedProcedure.{TypedProcedure}
use Rattle.ob_types.specs.declared.typed.TypedModule.{TypedModule}
use Rattle.ob_rules.specs.Declarations.{checked}
use Rattle.law_names_distinct.specs.Distinct.{AreDistinct}

-- parameters, with the receiver before them, and local variables
abbrev pub names_in : TypedProcedure → List (List ℕ)
names_in p = map (λ x. x.name) p.parameters ++ map (λ v. v.name) p.locals

abbrev pub HasNames : TypedProcedure → Type 0
HasNames p = AreDistinct (λ x. x) (names_in p)

-- those of each procedure of a checked module differ
abbrev pub ProceduresHaveNames : Type 0
ProceduresHaveNames = (shown : QName → Option Desc) (tree : Tree) (m : TypedModule) → checked shown tree ≡ Some m → AllByRecursion HasNames m.procedures
