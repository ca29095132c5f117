-- Where the bodies of a program are well typed, its modules keep the rules: the law.
use Rattle.std.specs.Prelude.{◌≡◌, ◌+◌, ◌≤◌, List, map, Option}
use Rattle.std.specs.List.{AllByRecursion}
use Rattle.ob_tree.specs.declared.names.QName.{QName}
use Rattle.ob_types.specs.declared.desc.Desc.{Desc}
use Rattle.ob_types.specs.TypedSyntax.{Procedure, Module}
use Rattle.ob_instr.specs.Parts.{slots}
use Rattle.ob_scheme.specs.Procedures.{body_of, within, all_local_words, param_for}
use Rattle.ob_scheme.specs.Needs.{need_stmts}
use Rattle.law_simulation_relation.specs.Setting.{Setting}
use Rattle.law_image_code.specs.Described.{IsDescribed}
use Rattle.law_image_code.specs.Fits.{IsNamed}
use Rattle.law_image_code.specs.There.{StmtsThere}
use Rattle.law_image_links.specs.Files.{Build, AllKeepRules}
use Rattle.law_image_tables.specs.Image.{AllBodiesChecked}
use Rattle.law_typing_forms.specs.Said.{IsSound}
use Rattle.law_typing_forms.specs.Whole.{IsWhole}
use Rattle.law_typing_values.specs.Valued.{values}
use Rattle.law_program_typing.specs.Accepted.{AreBuilt, AreWellTyped}

-- What is left of a procedure: the variables that it names are its own, FOR has steps other than 0, and it keeps the limits of activations
-- and operands.
pub record IsLeft (c : Setting) (types : QName → Option Desc) (md : Module) (p : Procedure) : Type 0 where
  pub there : StmtsThere (within types md p) p.body
  pub small : slots (map (λ x. param_for types md (within types md p) x.passing x.of) p.parameters) + all_local_words types md p ≤ 1048576
  pub few : need_stmts (within types md p) p.body ≤ 256

-- of a module: its descriptions say what types are, and its procedures have names
pub record AreLeft (c : Setting) (b : Build) : Type 0 where
  pub described : IsDescribed b.types c.program
  pub named : AllByRecursion (λ p. IsNamed p.name) b.unit.procedures
  pub procedures : AllByRecursion (IsLeft c b.types b.unit) b.unit.procedures
  pub body : IsLeft c b.types b.unit (body_of b.unit)

-- The program is that of builds, sound and whole; its bodies are well typed, and its variables can be built. What may be the value of a
-- variable of a procedure type is a procedure of its signature.
pub record IsTyped (c : Setting) (builds : List Build) : Type 0 where
  pub program : c.program ≡ map (λ b. b.unit) builds
  pub has : c.has ≡ values c.program
  pub sound : IsSound c.program
  pub whole : IsWhole c.program
  pub built : AllByRecursion (AreBuilt c.program) c.program
  pub typed : AllByRecursion (AreWellTyped c.program) c.program

-- procedures and bodies are checked
abbrev pub WellTypedKeeps : Type 0
WellTypedKeeps = (c : Setting) (builds : List Build) → IsTyped c builds → AllByRecursion (AreLeft c) builds → AllKeepRules c builds × AllBodiesChecked c builds
