-- The texts of builds, and that no two which differ have one print.
use Rattle.std.specs.Prelude.{◌≡◌, [], ◌∷◌, Some, Contains, ◌⊎◌}
use Rattle.ob_tree.specs.declared.names.QName.{QName}
use Rattle.ob_fprint.specs.Print.{print_from}
use Rattle.ob_types.specs.declared.face.Aspect.{Aspect}
use Rattle.ob_env.specs.Faces.{Face, text_in}
use Rattle.ob_builds.specs.Builds.{Text, Build, shows_of}

abbrev pub IsTextOf : Face Text → Text → Type 0
IsTextOf f t = (q : QName) × (a : Aspect) × (text_in (f ∷ []) q a ≡ Some t)

-- a text of a build: of its interface, or of one that it was compiled against
abbrev pub IsTextOfBuild : Build → Text → Type 0
IsTextOfBuild b t = IsTextOf (shows_of b) t ⊎ ((f : Face Text) × Contains b.against f × IsTextOf f t)

-- no two of these texts that differ have one print
abbrev pub Apart : (Text → Type 0) → Type 0
Apart P = (s t : Text) → P s → P t → print_from s ≡ print_from t → s ≡ t
