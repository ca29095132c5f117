-- The laws: what the interfaces of a program show of constants and lengths is in range.
use Rattle.std.specs.Prelude.{ℕ, List, Option}
use Rattle.std.specs.List.{AllByRecursion}
use Rattle.ob_tree.specs.declared.names.QName.{QName}
use Rattle.ob_types.specs.declared.desc.Desc.{Desc}
use Rattle.ob_types.specs.declared.typed.TypedConstant.{TypedConstant}
use Rattle.ob_types.specs.TypedSyntax.{Module}
use Rattle.ob_meaning.specs.Values.{Program}
use Rattle.ob_layout.specs.LaidOut.{laid_out}
use Rattle.ob_env.specs.Faces.{Face}
use Rattle.ob_env.specs.Shown.{shown}
use Rattle.law_typing_env.specs.Ages as ages
use Rattle.law_typing.specs.Known.{ConstantIs}
use Rattle.law_body_context.specs.Knows.{IsDescribed}
use Rattle.law_body_context.specs.ConstantLaws.{AreShown}

-- a module's constants are constants, its types are described as types, and arrays have lengths
pub record IsFull (m : Module) : Type 0 where
  pub constants : AllByRecursion (λ (c : TypedConstant). ConstantIs c.value) m.constants
  pub types : AllByRecursion (IsDescribed ConstantIs) m.types

-- Interfaces that show full modules show constants and lengths in range.
abbrev pub FullAreShown : Type 0
FullAreShown = (program : Program) (faces : List (Face (List ℕ))) → ages.AreShown program faces → AllByRecursion IsFull program → AreShown (shown faces)

-- A full module is so with its records laid out.
abbrev pub LaidAreFull : Type 0
LaidAreFull = (types : QName → Option Desc) (m : Module) → IsFull m → IsFull (laid_out types m)
