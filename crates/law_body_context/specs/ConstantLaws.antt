-- The laws: constant expressions come to constants, and so the bodies of checked modules are judged where constants are.
use Rattle.std.specs.Prelude.{◌≡◌, ℕ, List, map, Option, Some, true, pos}
use Rattle.ob_tree.specs.declared.names.QName.{QName}
use Rattle.ob_tree.specs.declared.ident.Mark.{Mark}
use Rattle.ob_tree.specs.declared.decl.Module.{Module as Tree}
use Rattle.ob_types.specs.declared.types.TypeRef.{TypeRef}
use Rattle.ob_types.specs.declared.value.Value.{Value}
use Rattle.ob_types.specs.declared.value.Value.TheVariants as literal
use Rattle.ob_types.specs.declared.desc.Desc.{Desc}
use Rattle.ob_types.specs.declared.desc.Desc.TheVariants as desc
use Rattle.ob_types.specs.declared.typed.TypedModule.{TypedModule}
use Rattle.ob_rules.specs.Declarations.{checked}
use Rattle.law_typing.specs.Known.{ConstantIs}
use Rattle.law_names_procedures.specs.Procedures.{ShowBases, is_named_plainly}
use Rattle.law_names_procedures.specs.Procedures as said
use Rattle.law_body_context.specs.Spelled.{tree_spelled}
use Rattle.law_body_context.specs.Judged.{BodiesAreJudged}
use Rattle.law_body_context.specs.Laws.{AreOthers, ConstantsAre}

-- the constants and the lengths of arrays that other modules show are constants
pub record AreShown (shown : QName → Option Desc) : Type 0 where
  pub constants : (q : QName) (v : Value) → shown q ≡ Some (desc.Const v) → ConstantIs v
  pub lengths : (q : QName) (m : Mark) (n : ℕ) (t : TypeRef) → shown q ≡ Some (desc.Array m n t) → ConstantIs (literal.Int (pos n))

-- Anywhere in a module, an expression that is constant comes to a constant.
abbrev pub ConstantsStand : Type 0
ConstantsStand = (unit : List ℕ) (shown : QName → Option Desc) → AreShown shown → ConstantsAre unit shown

-- Each body of a checked module is judged where what is known is as the module has it, where what is shown to it is in range.
abbrev pub BodiesStand : Type 0
BodiesStand =
    (shown : QName → Option Desc) (tree : Tree) (m : TypedModule) → checked shown tree ≡ Some m → tree_spelled tree ≡ true → ShowBases shown tree.name.name → said.all_true (map is_named_plainly tree.decls) ≡ true → AreOthers tree.name.name tree.imports → AreShown shown
    → BodiesAreJudged ConstantIs shown m
