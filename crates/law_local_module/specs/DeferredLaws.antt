-- What declarations and headings leave for later.
use Rattle.std.specs.Prelude.{◌≡◌, Bool, true, Option, Some}
use Rattle.ob_tree.specs.declared.names.QName.{QName}
use Rattle.ob_tree.specs.declared.decl.Module.{Module as Tree}
use Rattle.ob_types.specs.declared.desc.Desc.{Desc}
use Rattle.ob_types.specs.declared.typed.TypedModule.{TypedModule}
use Rattle.ob_rules.specs.Declarations.{checked}
use Rattle.law_local_module.specs.Laws.{LeavesIn, CountsAlike, IsSameThere}

-- WHAT IS LEFT FOR LATER by declarations and headings that break no rule is among these names, where all that their notes mention is.
abbrev pub LaterIsSaid : Type 0
LaterIsSaid = (names : QName → Bool) (shown : QName → Option Desc) → LeavesIn (λ q. names q ≡ true) shown

-- MODULES: one that breaks no rule is the same with other interfaces around that show the same of all that counts for it.
abbrev pub ModulesStay : Type 0
ModulesStay = (names : QName → Bool) (shown other : QName → Option Desc) (tree : Tree) (t : TypedModule) → checked shown tree ≡ Some t → CountsAlike (λ q. names q ≡ true) shown other tree t → IsSameThere other tree t
