-- What the file of a compiled module has, as its tree says: the laws.
use Rattle.std.specs.Prelude.{◌≡◌, ℕ, ◌≤◌, List, [], length, map, false, not, Some, bytes_eq, slice_get}
use Rattle.std.specs.List.{AllByRecursion, IsDistinct}
use Rattle.ob_types.specs.TypedSyntax.{Procedure}
use Rattle.ob_instr.specs.declared.procedure.Procedure as row
use Rattle.ob_obj.specs.Grammar.{file}
use Rattle.ob_obj.specs.Images.{named, global_words, string_words}
use Rattle.ob_meaning.specs.Values.{Program}
use Rattle.ob_meaning.specs.Globals.{globals_words}
use Rattle.ob_meaning.specs.Commands.{is_hidden, command_named}
use Rattle.ob_scheme.specs.Object.{is_full}
use Rattle.law_simulation_relation.specs.Layout.{procedure_index, slots_words, module_held}
use Rattle.law_simulation_relation.specs.Texts.{module_texts}
use Rattle.law_image_code.specs.Described.{IsDescribed}
use Rattle.law_image_code.specs.Fits.{IsNamed}
use Rattle.law_image_links.specs.Files.{Build, file_of}

-- room for the variables, the strings that the code uses, in its order and each with room for its text, and code that keeps its limit
pub record HasContents (program : Program) (b : Build) : Type 0 where
  pub variables : (file_of b).globals.variable_words ≡ slots_words (module_held program b.unit)
  pub strings : string_words (file_of b).globals.strings ≡ module_texts program b.unit
  pub long : AllByRecursion (λ s. length s.text ≤ s.words) (file_of b).globals.strings
  pub words : global_words (file_of b) ≡ globals_words program b.unit
  pub short : length (file_of b).body.code ≤ 262144

-- names of procedures differ and are none of nothing, and what is exported is so in full
pub record AreProceduresNamed (ps : List Procedure) : Type 0 where
  pub different : IsDistinct bytes_eq (map (λ p. p.name) ps)
  pub named : AllByRecursion (λ p. IsNamed p.name) ps
  pub marks : AllByRecursion (λ p. is_full p.mark ≡ not (is_hidden p.mark)) ps

-- a command has the number of its procedure, which has neither parameters nor a result
pub record HasCommand (b : Build) (x : List ℕ) : Type 0 where
  pub number : named (map (λ c. (c.name, c.procedure)) (file_of b).body.commands) x ≡ Some (procedure_index b.unit.procedures x)
  pub row : row.Procedure
  pub found : slice_get (file_of b).body.procedures (procedure_index b.unit.procedures x) ≡ Some row
  pub params : row.params ≡ []
  pub no_result : row.has_result ≡ false

-- THE LAWS, of a file that has a spelling
abbrev pub FilesHaveContents : Type 0
FilesHaveContents = (program : Program) (b : Build) → IsDescribed b.types program → file.fits (file_of b) → HasContents program b

abbrev pub FilesHaveCommands : Type 0
FilesHaveCommands = (b : Build) → AreProceduresNamed b.unit.procedures → (x : List ℕ) (p : Procedure) → command_named b.unit x ≡ Some p → HasCommand b x
