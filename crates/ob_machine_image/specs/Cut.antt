-- The image of the first modules alone.
use Rattle.std.specs.Prelude.{ℕ, Bool, false, ◌||◌, List, [], ◌∷◌, take, slice_get, Option, Some, None, if◌then◌else◌}
use Rattle.ob_tdesc.specs.declared.descriptor.Descriptor.{Descriptor}
use Rattle.ob_instr.specs.Image.{ModuleImage, Image}
use Rattle.ob_obj.specs.Images.{same}

-- whether a module of the name is there
abbrev pub has : List ModuleImage → List ℕ → Bool
has [] name = false
has (u ∷ modules) name = same name u.name || has modules name

-- the descriptors of these modules, which stand before those of others
abbrev pub types_of : List ModuleImage → List Descriptor → List Descriptor
types_of modules [] = []
types_of modules (d ∷ types) = if has modules d.«module» then d ∷ types_of modules types else []

-- the first word of a module, or the next free one where there is no such module
abbrev pub first_of : Option ModuleImage → ℕ → ℕ
first_of None next = next
first_of (Some u) next = u.first

-- the image of the first n modules: their descriptors, and the next free word behind theirs
abbrev pub cut_to : ℕ → Image → Image
cut_to n img = record { modules = take n img.modules; types = types_of (take n img.modules) img.types; next = first_of (slice_get img.modules n) img.next; room = img.room }
