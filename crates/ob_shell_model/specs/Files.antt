-- What the symbol files of a folder have.
use Rattle.std.specs.Prelude.{ℕ, List, cond, nat_le, length, Option, Some, None, bytes_eq}
use Rattle.ob_tree.specs.declared.print.Print.{Print}
use Rattle.ob_types.specs.declared.face.Interface.{Interface}
use Rattle.ob_format.specs.Format.{whole}
use Rattle.ob_sym.specs.Grammar.{face as face_form}
use Rattle.ob_env.specs.Faces.{Face, face_of}
use Rattle.ob_env_walk.specs.Walk.{file_limit}
use Rattle.ob_cmp.specs.Verdicts.{no_face}

-- what a symbol file has, of whatever module
pub data SymFile : Type 0 where
  IsMissing : SymFile
  IsLong : SymFile
  IsDamaged : SymFile
  IsOf : (face : Interface) → SymFile

abbrev pub decoded_file : Option Interface → SymFile
decoded_file None = IsDamaged
decoded_file (Some f) = IsOf f

abbrev pub sym_file_of : Option (List ℕ) → SymFile
sym_file_of None = IsMissing
sym_file_of (Some bytes) = cond (nat_le (length bytes) file_limit) (decoded_file (whole face_form bytes)) IsLong

-- the symbol file of a name
unfoldable pub sym_file : (List ℕ → Option (List ℕ)) → List ℕ → SymFile
sym_file files name = sym_file_of (files name)

-- The interface against which the objects of a module are counted: that of its symbol file; a file that is none, or of another
-- module, has no objects.
abbrev pub stood : List ℕ → SymFile → Face Print
stood m IsMissing = no_face m
stood m IsLong = no_face m
stood m IsDamaged = no_face m
stood m (IsOf f) = cond (bytes_eq m f.«module») (face_of f) (no_face m)
