-- What is asked of a compiled module in an image, and of its procedures.
use Rattle.std.specs.Prelude.{◌≡◌, ℕ, suc, ◌+◌, ◌≤◌, List, [], ◌∷◌, map, slice_get, Some, Option, false}
use Rattle.ob_tree.specs.declared.names.QName.{QName}
use Rattle.ob_types.specs.declared.desc.Desc.{Desc}
use Rattle.ob_types.specs.declared.typed.Passing.{Passing}
use Rattle.ob_types.specs.declared.typed.Passing.TheVariants as passing
use Rattle.ob_types.specs.declared.typed.TypedParameter.{TypedParameter}
use Rattle.ob_types.specs.TypedSyntax.{Procedure, Module}
use Rattle.ob_instr.specs.Parts.{slots}
use Rattle.ob_instr.specs.Image.{ModuleImage}
use Rattle.ob_instr.proofs.Steps.{InModule}
use Rattle.ob_meaning.specs.Values.{Program, Form, OpenForm, form_in}
use Rattle.ob_scheme.specs.Numbers.{nothing_named, instrs_in, positions_at}
use Rattle.ob_scheme.specs.Context.{own_types, type_index, records}
use Rattle.ob_scheme.specs.Procedures.{body_of, within, module_code, module_rows, all_local_words, param_for}
use Rattle.ob_scheme.specs.Object.{own_words, all_named}
use Rattle.law_simulation_relation.specs.Layout.{type_number, module_number, module_offset, procedures_in, variables_in, module_held, static_held}
use Rattle.law_simulation_relation.specs.Relation.{FormOk, Scalar, AreDifferent}
use Rattle.law_simulation_relation.specs.Stands.{Scope}
use Rattle.law_simulation_relation.specs.Setting.{Setting, has_of}
use Rattle.law_simulation_relation.specs.Linked.{OneSlot, IsRecord, OwnFormsOk, own_variables}
use Rattle.law_simulation_relation.specs.Typed as typed
use Rattle.law_simulation_relation.specs.Typed.{IsOpen}
use Rattle.ob_scheme.specs.Needs.{need_stmts}
use Rattle.law_image_code.specs.Standing.{own_types_in, StringsStand}
use Rattle.law_image_code.specs.Described.{IsDescribed}
use Rattle.law_image_code.specs.Resolved.{LinksResolve}
use Rattle.law_image_code.specs.Fits.{IsNamed, AmongTypes, StmtsFit}

-- a module's code with no procedure at hand
abbrev pub module_scope : Setting → ModuleImage → List ℕ → Scope
module_scope c u unit = record { program = c.program; img = c.img; u = u; unit = unit; held = []; method_number = λ f. 0 }

-- A module of the program stands in the image as it was compiled: its code, positions and procedures are the scheme's, its links have
-- what they name, its strings are among its words, and its record types have their descriptors.
pub record IsCompiled (c : Setting) (types : QName → Option Desc) (md : Module) (m : ℕ) (u : ModuleImage) : Type 0 where
  pub is : InModule c.img m u
  pub named : module_number c.program md.name ≡ m
  pub first : u.first ≡ suc (module_offset c.program c.program md.name)
  pub code : u.code ≡ instrs_in (nothing_named (own_words types md)) (module_code types md)
  pub positions : u.positions ≡ positions_at 0 (module_code types md)
  pub procedures : u.procedures ≡ module_rows types md
  pub variables_there : variables_in c.program c.program md.name ≡ module_held c.program md
  pub procedures_there : procedures_in c.program md.name ≡ md.procedures
  pub described : IsDescribed types c.program
  -- its strings stand among its words in the order in which its code uses them
  pub texts : StringsStand c.program md.name (module_code types md) (own_words types md)
  pub links : LinksResolve (module_scope c u md.name) (all_named types md)
  pub own : own_types (within types md (body_of md)) ≡ own_types_in c.img.types md.name
  pub types_there : (x : List ℕ) → AmongTypes (records (within types md (body_of md))) x → slice_get u.types (type_index (within types md (body_of md)) x) ≡ Some (type_number c.img.types (record { «module» = md.name; object = x }))

-- how a parameter is passed suits its type
abbrev pub ParameterFits : Program → Passing → Form → Type 0
ParameterFits program passing.Scalar t = Scalar t
ParameterFits program passing.Structure t = FormOk program t
ParameterFits program passing.OpenArray t = (u : Form) × (t ≡ OpenForm u)
ParameterFits program passing.Variable t = OneSlot t
ParameterFits program passing.VariableRecord t = IsRecord t
ParameterFits program passing.VariableOpenArray t = IsOpen t

abbrev pub ParametersFit : Program → List TypedParameter → Type 0
ParametersFit program [] = Unit {0}
ParametersFit program (p ∷ ps) = ParameterFits program p.passing (form_in program p.of) × ParametersFit program ps

-- A procedure of it is checked: its tree fits what the code rests on and keeps the rules of types, its names differ, and it keeps the
-- limits of activations and operands.
pub record IsChecked (c : Setting) (types : QName → Option Desc) (md : Module) (p : Procedure) : Type 0 where
  pub fits : StmtsFit c.program (within types md p) p.body
  pub parameters : ParametersFit c.program p.parameters
  pub ok : typed.StmtsOk c.program (has_of c) md.name (static_held c.program p) p.result p.body false
  pub different : AreDifferent (static_held c.program p)
  pub forms : OwnFormsOk c.program (own_variables c.program p)
  pub small : slots (map (λ x. param_for types md (within types md p) x.passing x.of) p.parameters) + all_local_words types md p ≤ 1048576
  pub few : need_stmts (within types md p) p.body ≤ 256

abbrev pub ProceduresChecked : Setting → (QName → Option Desc) → Module → List Procedure → Type 0
ProceduresChecked c types md [] = Unit {0}
ProceduresChecked c types md (p ∷ ps) = (IsNamed p.name × IsChecked c types md p) × ProceduresChecked c types md ps

-- Each of these modules stands as it was compiled, by the descriptions that it was compiled with, and its procedures are checked.
abbrev pub AllCompiled : Setting → List Module → Type 0
AllCompiled c [] = Unit {0}
AllCompiled c (md ∷ ms) = ((types : QName → Option Desc) × (m : ℕ) × (u : ModuleImage) × IsCompiled c types md m u × ProceduresChecked c types md md.procedures) × AllCompiled c ms
