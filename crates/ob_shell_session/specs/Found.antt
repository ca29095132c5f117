-- What was read of a symbol file.
use Rattle.ob_sym.specs.Grammar.{face as face_form}
use Rattle.ob_shell_session.specs.declared.found.SymbolFile.{SymbolFile}
use Rattle.ob_shell_session.specs.declared.found.SymbolFile.TheVariants as found
use Rattle.ob_shell_model.specs.Files.{SymFile, IsMissing, IsLong, IsDamaged, IsOf}

abbrev pub found_as : SymbolFile → SymFile
found_as found.Missing = IsMissing
found_as found.Long = IsLong
found_as found.Damaged = IsDamaged
found_as (found.Of f) = IsOf f

-- an interface that was read has a spelling
abbrev pub HasSpelling : SymbolFile → Type 0
HasSpelling found.Missing = Unit {0}
HasSpelling found.Long = Unit {0}
HasSpelling found.Damaged = Unit {0}
HasSpelling (found.Of f) = face_form.fits f
