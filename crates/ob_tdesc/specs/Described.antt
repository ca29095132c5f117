-- The descriptors of a machine.
use Rattle.std.specs.Prelude.{ℕ, List}
use Rattle.ob_tdesc.specs.declared.descriptor.Descriptor.{Descriptor}

-- the descriptors by number, how many bound procedures the type of each defines, and for how many more
-- descriptors and such procedures there is room
pub record Described : Type 0 where
  pub list : List Descriptor
  pub own : List ℕ
  pub types_room : ℕ
  pub methods_room : ℕ
