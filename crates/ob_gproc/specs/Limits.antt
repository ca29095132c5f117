-- The limits of a module's code.
use Rattle.std.specs.Prelude.{Bool, not, List, [], ◌∷◌, Option}
use Rattle.ob_tree.specs.declared.names.QName.{QName}
use Rattle.ob_tree.specs.declared.which.Which.{Which}
use Rattle.ob_tree.specs.declared.which.Which.TheVariants as which
use Rattle.ob_types.specs.declared.desc.Desc.{Desc}
use Rattle.ob_types.specs.TypedSyntax.{Module}
use Rattle.ob_layout.specs.Room.{first_of}
use Rattle.ob_scheme.specs.Needs.{has_few_operands, has_short_code}

-- each with whether a module exceeds it, in their order, behind those of sizes and before those of files
abbrev pub limits_of_code : (QName → Option Desc) → Module → List (Which × Bool)
limits_of_code types m = (which.Operands, not (has_few_operands types m)) ∷ (which.Code, not (has_short_code types m)) ∷ []

-- THE FIRST LIMIT OF ITS CODE that a module exceeds
abbrev pub first_limit_of_code : (QName → Option Desc) → Module → Option Which
first_limit_of_code types m = first_of (limits_of_code types m)
