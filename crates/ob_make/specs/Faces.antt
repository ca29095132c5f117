-- The symbol files that are kept in a make.
use Rattle.std.specs.Prelude.{◌≡◌, ℕ, List, Bool, true, false, Option, Some, None, if◌then◌else◌}
use Rattle.std.specs.Ordering.{nat_cmp}
use Rattle.std.specs.Cmp.Lexicographic.{slice_cmp}
use Rattle.std.specs.BTreeMap.{get_by}
use Rattle.ob_tree.specs.declared.print.Print.{Print}
use Rattle.ob_types.specs.declared.face.Interface.{Interface}
use Rattle.ob_obj.specs.Images.{same}
use Rattle.ob_env.specs.Faces.{Face, face_of}
use Rattle.ob_cmp.specs.Check.{Present}
use Rattle.ob_make.specs.Filing.{IsFaceOf, seen}
use Rattle.ob_make.specs.declared.files.Filed.{Filed}
use Rattle.ob_make.specs.declared.held.Held.{Held}

-- what is kept of a module
abbrev pub kept_of : Held → List ℕ → Option (Filed Interface)
kept_of kept m = get_by (λ k. slice_cmp nat_cmp m k.items) kept.files

abbrev pub is_some : Option (Filed Interface) → Bool
is_some None = false
is_some (Some face) = true

abbrev pub is_kept : Held → List ℕ → Bool
is_kept kept m = is_some (kept_of kept m)

-- each interface that is kept is of its module
abbrev pub AreFaces : Held → Type 0
AreFaces kept = (m : List ℕ) (face : Filed Interface) → kept_of kept m ≡ Some face → IsFaceOf m face

-- what is kept of a module is what is found of it
unfoldable pub KeepsFaces : (List ℕ → Present (Face Print)) → Held → Type 0
KeepsFaces find kept = (m : List ℕ) (face : Filed Interface) → kept_of kept m ≡ Some face → find m ≡ seen face_of face

-- the second has this of the module, and is as the first at each other name
abbrev pub Puts : Held → Held → List ℕ → Filed Interface → Type 0
Puts old new m face = (n : List ℕ) → kept_of new n ≡ (if same n m then Some face else kept_of old n)

abbrev pub IsAsBefore : Held → Held → Type 0
IsAsBefore old new = (n : List ℕ) → kept_of new n ≡ kept_of old n
