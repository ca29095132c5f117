-- What is so of each image at all times.
use Rattle.std.specs.Prelude.{◌≡◌, ℕ, ◌+◌, ◌*◌, ◌<◌, ◌≤◌, List, length, take, Some}
use Rattle.std.specs.List.{AllByRecursion}
use Rattle.std.specs.List.Sorted.{IsStrictlySortedBy}
use Rattle.std.specs.declared.cmp.Ordering.{Ordering}
use Rattle.ob_tdesc.specs.declared.descriptor.Descriptor.{Descriptor}
use Rattle.ob_tdesc.specs.Bases.{base_of}
use Rattle.ob_instr.specs.Parts.{slots, most_words}
use Rattle.ob_instr.specs.Image.{ModuleImage, Image}
use Rattle.ob_obj.specs.Grammar.{by_name}
use Rattle.ob_machine_image.specs.Cut.{types_of}

-- the order of what stands with names
abbrev pub by_entry : List ℕ × ℕ → List ℕ × ℕ → Ordering
by_entry a b = by_name a.0 b.0

-- Its first word lies in the globals, or just behind them, and its code, its procedures and the words of
-- each of them keep their limits. Its variables and its commands rise by their names.
pub record IsModule (u : ModuleImage) : Type 0 where
  pub some : 0 < u.first
  pub within : u.first ≤ 262145
  pub short : length u.code ≤ 262144
  pub few : length u.procedures ≤ 4096
  pub words : AllByRecursion (λ q. slots q.params + q.locals ≤ most_words) u.procedures
  pub variables : IsStrictlySortedBy by_entry u.variables
  pub commands : IsStrictlySortedBy by_entry u.commands

-- each base stands before its type
abbrev pub BasesBefore : List Descriptor → Type 0
BasesBefore types = (a b : ℕ) → base_of types a ≡ Some b → b < a

pub record IsImage (img : Image) : Type 0 where
  pub some : 0 < img.next
  pub within : img.next ≤ 262145
  pub few : length img.modules ≤ 255
  -- each descriptor is of one of the modules
  pub whole : types_of img.modules img.types ≡ img.types
  -- a module has at most 1,048,576 types
  pub types : (k : ℕ) → length (types_of (take k img.modules) img.types) ≤ 1048576 * k
