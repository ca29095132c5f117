-- The names that the view from a module holds.
use Rattle.std.specs.Prelude.{◌≡◌, ◌+◌, ℕ, List, ◌++◌, map as each, length}
use Rattle.std.specs.List.{flat_map}
use Rattle.ob_tree.specs.declared.names.QName.{QName}
use Rattle.ob_tree.specs.declared.print.Print.{Print}
use Rattle.ob_types.specs.TypedSyntax.{Module}
use Rattle.ob_layout.specs.LaidOut.{viewed}
use Rattle.ob_env.specs.Faces.{Face, described}
use Rattle.ob_env.specs.Fit.{count_of}
use Rattle.ob_uses_roots.specs.Counts.{own_name}
use Rattle.ob_uses.specs.Ways.{AreAllNames}

abbrev pub names_in : Face Print → List QName
names_in f = each (λ o. record { «module» = f.«module»; object = o.0 }) f.objects

-- the module's own types, and all objects of the walk
abbrev pub held_names : List (Face Print) → Module → List QName
held_names faces m = each (own_name m) m.types ++ flat_map names_in faces

-- THE LAW: these are all names that the view holds, and there are as many of them as the uses are reached in steps.
abbrev pub ViewIsHeld : Type 0
ViewIsHeld = (faces : List (Face Print)) (m : Module) → AreAllNames (viewed (described faces) m) (held_names faces m) × (length (held_names faces m) ≡ length m.types + count_of faces)
