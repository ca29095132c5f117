-- What a load asks of modules that were compiled, and what is known of them.
use Rattle.std.specs.Prelude.{◌≡◌, ℕ, ◌≤◌, List, [], ◌∷◌, Bool, true, false, not, ◌&&◌, map, Contains, Option, Some, None, bytes_eq}
use Rattle.std.specs.List.{AllByRecursion, IsDistinct}
use Rattle.ob_tree.specs.declared.names.QName.{QName}
use Rattle.ob_types.specs.declared.face.Aspect.{Aspect}
use Rattle.ob_types.specs.declared.desc.Desc.{Desc}
use Rattle.ob_types.specs.declared.desc.Desc.TheVariants as desc
use Rattle.ob_types.specs.declared.face.Aspect.TheVariants as aspect
use Rattle.ob_types.specs.Maps.{is_type}
use Rattle.ob_types.specs.TypedSyntax.{Procedure}
use Rattle.ob_format.specs.Names.{is_identifier}
use Rattle.ob_desc.specs.Grammar.{seen, shape_text}
use Rattle.ob_obj.specs.declared.file.ObjFile.{ObjFile}
use Rattle.ob_meaning.specs.Commands.{is_hidden, command_named}
use Rattle.ob_layout.specs.LaidOut.{viewed}
use Rattle.ob_layout.specs.Room.{globals_words}
use Rattle.ob_env.specs.Faces.{Face, text_in, described}
use Rattle.ob_uses.specs.Made.{face_of_laid}
use Rattle.ob_scheme.specs.Object.{is_full, is_free}
use Rattle.ob_compile_model.specs.Compiling.{Compiled, texts, object_by}
use Rattle.ob_link.specs.Plan.{Asks, is_there, most_globals}
use Rattle.ob_link.specs.Files as files
use Rattle.ob_link.specs.Files.{linked}
use Rattle.law_load_plan.specs.Alike.{AreMet}

abbrev pub Text : Type 0
Text = List ℕ

-- what an object of a module has, as its interface says
abbrev pub text_shown : Face Text → List ℕ → Aspect → Option Text
text_shown face name aspect = text_in (face ∷ []) (record { «module» = face.«module»; object = name }) aspect

-- The names of a module's procedures are different, those of the exported ones that are not bound are identifiers, and a procedure
-- is exported in full or not at all.
pub record AreProceduresNamed (ps : List Procedure) : Type 0 where
  pub names : IsDistinct bytes_eq (map (λ p. p.name) ps)
  pub identifiers : AllByRecursion (λ p. (is_full p.mark && is_free p.binding) ≡ true → is_identifier p.name ≡ true) ps
  pub marks : AllByRecursion (λ p. is_full p.mark ≡ not (is_hidden p.mark)) ps

-- What is known of a module that was compiled: it shows what its tree says, its globals have room, its procedures are named and its types described as the
-- rules want, and the texts that it has and uses are among those.
pub record IsKnown (P : Text → Type 0) (c : Compiled Text) : Type 0 where
  pub shows : c.shows ≡ face_of_laid (text_in c.against) c.against c.tree
  pub room : globals_words (viewed (described c.against) c.tree) c.tree ≤ most_globals
  pub procedures : AreProceduresNamed c.tree.procedures
  pub types : AllByRecursion (λ t. is_type t.desc ≡ true) c.tree.types
  pub has : (name : List ℕ) (aspect : Aspect) (t : Text) → text_shown c.shows name aspect ≡ Some t → P t
  pub uses : AllByRecursion (λ u. P u.kept) c.shows.uses

abbrev pub file_of : Compiled Text → ObjFile
file_of c = object_by texts c

-- WHAT A LOAD ASKS, of what holds a compiled module: its uses keep texts, its names are met by declarations, and its words are those
-- of its layout
module _ {A : Type 0} (of : A → Compiled Text) where
  abbrev pub asks_by : Asks A Text
  asks_by = record {
    name = λ x. (of x).shows.«module»;
    imports = λ x. (of x).shows.imports;
    uses = λ x. (of x).shows.uses;
    same = bytes_eq;
    keeps = λ x name aspect. text_shown (of x).shows name aspect;
    unlinked = λ xs x. None;
    words = λ x. globals_words (viewed (described (of x).against) (of x).tree) (of x).tree;
    has_command = λ x name. is_there (command_named (of x).tree name);
  }

  -- The links of object files name something wherever the uses of their modules are met.
  abbrev pub AreLinked : (A → Type 0) → Type 0
  AreLinked IsOne = (xs : List A) → AllByRecursion IsOne xs → (x : A) → IsOne x → AreMet asks_by xs x → files.unlinked (map (λ y. file_of (of y)) xs) (file_of (of x)) ≡ None

-- LINKS

abbrev pub is_variable : Desc → Bool
is_variable (desc.Var m t) = true
is_variable d = false

abbrev pub is_procedure : Desc → Bool
is_procedure (desc.Proc s) = true
is_procedure d = false

abbrev pub is_record : Desc → Bool
is_record (desc.Record r) = true
is_record d = false

-- An object of another module is used as one of a kind: it was of that kind where the module was compiled, and its shape is among the
-- uses.
pub record IsUsedAs (kind : Desc → Bool) (c : Compiled Text) (q : QName) : Type 0 where
  pub desc : Desc
  pub kind_is : kind desc ≡ true
  pub used : Contains c.shows.uses (record { object = q; aspect = aspect.Shape; kept = shape_text q (seen desc) })

-- the links of a module's code name variables, procedures and record types that it uses
pub record AreLinksUsed (c : Compiled Text) : Type 0 where
  pub variables : AllByRecursion (λ l. IsUsedAs is_variable c (linked l)) (file_of c).links.variables
  pub procedures : AllByRecursion (λ l. IsUsedAs is_procedure c (linked l)) (file_of c).links.procedures
  pub types : AllByRecursion (λ q. IsUsedAs is_record c q) (file_of c).links.types
