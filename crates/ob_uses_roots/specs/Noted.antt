-- The names of the types that count.
use Rattle.std.specs.Prelude.{List, [], ◌∷◌, ◌++◌}
use Rattle.ob_tree.specs.declared.names.QName.{QName}
use Rattle.ob_types.specs.declared.types.TypeRef.{TypeRef}
use Rattle.ob_types.specs.declared.types.TypeRef.TheVariants as ref
use Rattle.ob_uses_roots.specs.declared.noted.Noted.{Noted}
use Rattle.ob_uses_roots.specs.Counts.{Count, Shapes, Layouts}

-- the names among types; basic types have none
abbrev pub names_of : List TypeRef → List QName
names_of [] = []
names_of (ref.Basic b ∷ ts) = names_of ts
names_of (ref.Named q ∷ ts) = q ∷ names_of ts

-- the types whose shapes count
abbrev pub shape_starts : List Count → List TypeRef
shape_starts [] = []
shape_starts (Shapes t ∷ cs) = t ∷ shape_starts cs
shape_starts (Layouts t ∷ cs) = shape_starts cs

-- the types whose layouts count
abbrev pub layout_starts : List Count → List TypeRef
layout_starts [] = []
layout_starts (Shapes t ∷ cs) = layout_starts cs
layout_starts (Layouts t ∷ cs) = t ∷ layout_starts cs

-- what is noted after more has counted
unfoldable pub noted : Noted → List Count → Noted
noted n cs = record { shapes = n.shapes ++ names_of (shape_starts cs); layouts = n.layouts ++ names_of (layout_starts cs) }

abbrev pub nothing : Noted
nothing = record { shapes = []; layouts = [] }
