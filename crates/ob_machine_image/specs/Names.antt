-- The names of types, in the order of their descriptors.
use Rattle.std.specs.Prelude.{ℕ, suc, List, [], ◌∷◌, if◌then◌else◌}
use Rattle.ob_tree.specs.declared.names.QName.{QName}
use Rattle.ob_instr.specs.Image.{ModuleImage}
use Rattle.ob_tdesc.specs.declared.descriptor.Descriptor.{Descriptor}
use Rattle.ob_machine_image.specs.Cut.{has}

-- the name of a descriptor's type
abbrev pub name_of : Descriptor → QName
name_of d = record { «module» = d.«module»; object = d.name }

-- how many names, from the first on, are of types of these modules
abbrev pub names_in : List ModuleImage → List QName → ℕ
names_in modules [] = 0
names_in modules (q ∷ names) = if has modules q.«module» then suc (names_in modules names) else 0
