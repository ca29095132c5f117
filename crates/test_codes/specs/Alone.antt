-- A machine with one module, which has no links.
use Rattle.std.specs.Prelude.{◌≡◌, ℕ, [], ◌∷◌}
use Rattle.ob_obj.specs.declared.file.ObjFile.{ObjFile}
use Rattle.ob_obj.specs.Images.{image_of, words_with}
use Rattle.ob_machine.specs.Machine.{Held, made}

pub record HasNoLinks (f : ObjFile) : Type 0 where
  pub variables : f.links.variables ≡ []
  pub procedures : f.links.procedures ≡ []
  pub types : f.links.types ≡ []

-- a machine with so many words of heap that the file was entered into
abbrev pub with_module : ℕ → ObjFile → Held
with_module heap f = record { image = image_of (made heap).image (f ∷ []); words = words_with (made heap).image (f ∷ []) (made heap).words; heap = (made heap).heap }
