-- The grammar of a symbol file.
use Rattle.std.specs.Prelude.{◌≡◌, ℕ, ◌≤◌, Bool, true, false, cond, not, ◌&&◌, nat_le, List, [], ◌∷◌, ◌++◌, length, Option, Some, None, codes, bytes_eq, ◌≢◌}
use Rattle.std.specs.Option.{option_map}
use Rattle.std.specs.List.{list_all, AllByRecursion}
use Rattle.std.specs.Ordering.{nat_cmp}
use Rattle.std.specs.Cmp.Lexicographic.{slice_cmp}
use Rattle.std.specs.declared.cmp.Ordering.{Ordering}
use Rattle.ob_format.specs.Format.{Format, ◌>>=◌, text32, optional, few, rising, such_that, parsed, made, lead, ◌⊗◌}
use Rattle.ob_format.specs.Names.{name, object_name}
use Rattle.ob_tree.specs.declared.names.QName.{QName}
use Rattle.ob_types.specs.declared.desc.Desc.{Desc}
use Rattle.ob_types.specs.declared.desc.Desc.TheVariants as desc
use Rattle.ob_types.specs.declared.face.Object.{Object}
use Rattle.ob_types.specs.declared.face.Use.{Use}
use Rattle.ob_types.specs.declared.face.Interface.{Interface}
use Rattle.ob_types.specs.Spelled.{use_form, by_object}
use Rattle.ob_desc.specs.Grammar.{description_at, same_object, shape_text, layout_text, IsSpelled}
use Rattle.ob_fprint.specs.Print.{print_from}

-- a name, the shape text, and the layout text behind a flag
abbrev pub Entry : Type 0
Entry = List ℕ × (List ℕ × Option (List ℕ))

abbrev pub entry : Format Entry
entry = object_name ⊗ text32 ⊗ optional text32

abbrev pub object_of : List ℕ → List ℕ → QName
object_of m n = record { «module» = m; object = n }

-- the object that the texts describe, which is that of its name in the module m, with their prints
unfoldable pub described_as : List ℕ → Entry → Option Object
described_as m e = do
  x ← description_at e.1.0 e.1.1
  cond (same_object x.0 (object_of m e.0)) (Some (record { name = e.0; desc = x.1; shape = print_from e.1.0; layout = option_map print_from e.1.1 })) None

abbrev pub texts_of : List ℕ → Object → Entry
texts_of m o = (o.name, (shape_text (object_of m o.name) o.desc, layout_text (object_of m o.name) o.desc))

-- a record has a layout
abbrev pub has_layout : Desc → Bool
has_layout (desc.Record r) = true
has_layout d = false

-- The object has texts, and carries their prints.
pub record IsObjectOf (m : List ℕ) (o : Object) : Type 0 where
  pub spelled : IsSpelled (object_of m o.name) o.desc
  pub within : entry.fits (texts_of m o)
  pub shape : o.shape ≡ print_from (shape_text (object_of m o.name) o.desc)
  pub layout : o.layout ≡ option_map print_from (layout_text (object_of m o.name) o.desc)

-- an object of the module m
unfoldable pub object_in : List ℕ → Format Object
object_in m = parsed entry (described_as m) (texts_of m) (IsObjectOf m)

abbrev pub by_name : Object → Object → Ordering
by_name a b = slice_cmp nat_cmp a.name b.name

-- a value, and another whose format depends on it
unfoldable pub depending_at : {A B : Type 0} → (List ℕ → Option (A × List ℕ)) → (A → List ℕ → Option (B × List ℕ)) → List ℕ → Option ((A × B) × List ℕ)
depending_at f g bytes = do
  a ← f bytes
  b ← g a.0 a.1
  Some ((a.0, b.0), b.1)

abbrev pub depending : {A B : Type 0} → Format A → (A → Format B) → Format (A × B)
depending f g = record { take = depending_at f.take (λ a. (g a).take); spell = λ p. f.spell p.0 ++ (g p.0).spell p.1; fits = λ p. f.fits p.0 × (g p.0).fits p.1 }

-- the module and its imports; then its objects and its uses
abbrev pub Head : Type 0
Head = List ℕ × List (List ℕ)

abbrev pub Body : Type 0
Body = List Object × List Use

unfoldable pub head : Format Head
head = name ⊗ few 64 name (slice_cmp nat_cmp)

unfoldable pub body : Head → Format Body
body h = rising (object_in h.0) by_name ⊗ rising use_form by_object

-- OSYM, and the version 1
abbrev pub magic : List ℕ
magic = 79 ∷ 83 ∷ 89 ∷ 77 ∷ 1 ∷ []

-- Out is built in and stands in no list of imports, and SYSTEM is left out of the language
abbrev pub is_import : List ℕ → Bool
is_import n = not (bytes_eq n (codes "Out")) && not (bytes_eq n (codes "SYSTEM"))

-- at most 4,096 objects
abbrev pub is_sound : Interface → Bool
is_sound f = nat_le (length f.objects) 4096 && list_all is_import f.imports

pub record IsSound (f : Interface) : Type 0 where
  pub objects : length f.objects ≤ 4096
  pub imports : AllByRecursion (λ n. (n ≢ codes "Out") × (n ≢ codes "SYSTEM")) f.imports

abbrev pub to_face : Head × Body → Interface
to_face p = record { «module» = p.0.0; imports = p.0.1; objects = p.1.0; uses = p.1.1 }

abbrev pub from_face : Interface → Head × Body
from_face f = ((f.module, f.imports), (f.objects, f.uses))

unfoldable pub face : Format Interface
face = such_that (lead magic (made (depending head body) to_face from_face)) is_sound IsSound
