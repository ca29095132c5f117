-- The interface that a compile makes of a module.
use Rattle.std.specs.Prelude.{ℕ, ◌+◌, List, length, Option}
use Rattle.ob_tree.specs.declared.names.QName.{QName}
use Rattle.ob_types.specs.declared.desc.Desc.{Desc}
use Rattle.ob_types.specs.declared.face.Aspect.{Aspect}
use Rattle.ob_types.specs.TypedSyntax.{Module}
use Rattle.ob_layout.specs.LaidOut.{viewed, laid_out}
use Rattle.ob_env.specs.Faces.{Face, described}
use Rattle.ob_env.specs.Fit.{count_of}
use Rattle.ob_uses.specs.Objects.{objects_of}
use Rattle.ob_uses.specs.Uses.{uses_of}

-- over the map of the module's own types and of those around it, which holds so many names
abbrev pub face_over : {K : Type 0} → (QName → Option Desc) → ℕ → (QName → Aspect → Option K) → Module → Face K
face_over map names has m = record { «module» = m.name; imports = m.imports; objects = objects_of m; uses = uses_of map names m has }

abbrev pub face_of_laid : {K : Type 0} → (QName → Aspect → Option K) → List (Face K) → Module → Face K
face_of_laid has faces m = face_over (viewed (described faces) m) (length m.types + count_of faces) has m

-- THE INTERFACE of a module as the rules give it, against the interfaces of its walk
abbrev pub face_from : {K : Type 0} → (List (Face K) → QName → Aspect → Option K) → List (Face K) → Module → Face K
face_from has faces m = face_of_laid (has faces) faces (laid_out (described faces) m)
