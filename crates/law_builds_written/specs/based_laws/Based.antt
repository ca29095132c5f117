-- Types in the order of the text: the base of a record, and what an alias is equated to, stand before it.
use Rattle.std.specs.Prelude.{ℕ, List, [], ◌∷◌, Option}
use Rattle.ob_tree.specs.declared.names.QName.{QName}
use Rattle.ob_types.specs.declared.desc.Desc.{Desc}
use Rattle.ob_types.specs.declared.typed.TypedType.{TypedType}
use Rattle.law_body_context.specs.Knows.{Stands}
use Rattle.law_body_context.specs.Order.{IsBased}

module _ (unit : List ℕ) (shown : QName → Option Desc) where
  -- each by those before it, the latest first, and by what is shown
  abbrev pub AreBased : List TypedType → List TypedType → Type 0
  AreBased before [] = Unit {0}
  AreBased before (t ∷ ts) = IsBased (Stands unit shown before) t.desc × AreBased (t ∷ before) ts
