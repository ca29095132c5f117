-- What the rules see to of the names that a module declares.
use Rattle.std.specs.Prelude.{◌≡◌, ◌≢◌, ℕ, false, List, [], ◌∷◌, Option, Some}
use Rattle.std.specs.List.{AllByRecursion}
use Rattle.ob_tree.specs.declared.names.QName.{QName}
use Rattle.ob_tree.specs.declared.decl.Module.{Module as Tree}
use Rattle.ob_types.specs.declared.desc.Desc.{Desc}
use Rattle.ob_types.specs.declared.typed.TypedModule.{TypedModule}
use Rattle.ob_rules.specs.Names.{is_out}
use Rattle.ob_rules.specs.Declarations.{checked}

-- different names
abbrev pub AreDistinct : {A : Type 0} → (A → List ℕ) → List A → Type 0
AreDistinct name [] = Unit {0}
AreDistinct name (x ∷ xs) = AllByRecursion (λ y. name y ≢ name x) xs × AreDistinct name xs

-- the variables of a checked module have different names
abbrev pub VariablesDiffer : Type 0
VariablesDiffer = (shown : QName → Option Desc) (tree : Tree) (m : TypedModule) → checked shown tree ≡ Some m → AreDistinct (λ v. v.name) m.variables

-- no checked module is named Out
abbrev pub ModulesAreNotOut : Type 0
ModulesAreNotOut = (shown : QName → Option Desc) (tree : Tree) (m : TypedModule) → checked shown tree ≡ Some m → is_out m.name ≡ false
