-- What an image has of each procedure of a program.
use Rattle.std.specs.Prelude.{◌≡◌, ℕ, suc, ◌+◌, ◌≤◌, ◌<◌, List, [], ◌∷◌, ◌++◌, length, Option, Some, None, Bool, true}
use Rattle.std.specs.Prelude.{map, false, slice_get}
use Rattle.ob_trap.specs.declared.trap.Trap.TheVariants as trap
use Rattle.ob_trap.specs.Numbers.{trap_number}
use Rattle.ob_tree.specs.declared.names.QName.{QName}
use Rattle.ob_types.specs.declared.types.TypeRef.{TypeRef}
use Rattle.ob_types.specs.declared.typed.Passing.{Passing}
use Rattle.ob_types.specs.declared.typed.Passing.TheVariants as passing
use Rattle.ob_types.specs.declared.typed.Family.{Family}
use Rattle.ob_types.specs.declared.typed.TypedParameter.{TypedParameter}
use Rattle.ob_types.specs.TypedSyntax.{Procedure}
use Rattle.ob_tdesc.specs.declared.descriptor.Descriptor.{Descriptor}
use Rattle.ob_instr.specs.declared.opcode.Opcode.TheVariants as op
use Rattle.ob_instr.specs.declared.procedure.Param.{Param}
use Rattle.ob_instr.specs.declared.procedure.Param.TheVariants as param
use Rattle.ob_instr.specs.declared.procedure.Procedure as machine_procedure
use Rattle.ob_instr.specs.Parts.{slots}
use Rattle.ob_instr.specs.Image.{ModuleImage}
use Rattle.ob_instr.proofs.Steps as machine
use Rattle.ob_meaning.specs.Values.{Program, procedure_of, Form, BasicForm, PointerForm, ProcedureForm, ArrayForm, OpenForm, RecordForm, form_in, record_in, fields_of, words, Held}
use Rattle.ob_meaning.specs.Calls.{held_variable, hidden_held, hidden_of_all}
use Rattle.law_simulation_relation.specs.Layout.{type_number, module_number, module_offset, held_form, slots_words, static_held}
use Rattle.law_simulation_relation.specs.Relation.{FormOk, Scalar, AreDifferent, number_of}
use Rattle.law_simulation_relation.specs.Ends.{end_stmts}
use Rattle.law_simulation_relation.specs.Stands as code
use Rattle.law_simulation_relation.specs.Stands.{Scope}
use Rattle.law_simulation_relation.specs.Need.{need_stmts}
use Rattle.law_simulation_relation.specs.Typed as typed
use Rattle.law_simulation_relation.specs.Typed.{IsOpen}
use Rattle.law_simulation_relation.specs.Setting.{Setting, has_of}

abbrev pub has_one : {A : Type 0} → Option A → Bool
has_one None = false
has_one (Some x) = true

abbrev pub OneSlot : Form → Type 0
OneSlot (BasicForm b) = Unit {0}
OneSlot (PointerForm t) = Unit {0}
OneSlot (ProcedureForm s) = Unit {0}
OneSlot (ArrayForm n t) = Unit {0}
OneSlot (OpenForm t) = ⊥
OneSlot (RecordForm line fs) = ⊥

abbrev pub IsRecord : Form → Type 0
IsRecord (RecordForm line fs) = Unit {0}
IsRecord t = ⊥

-- how the machine takes a parameter: a record or an array by value as so many words, an open one as elements of so many words
abbrev pub KindIs : Program → Passing → Form → Param → Type 0
KindIs program passing.Scalar t k = (k ≡ param.Scalar) × Scalar t
KindIs program passing.Structure t k = (k ≡ param.Value (words t)) × FormOk program t
KindIs program passing.OpenArray t k = (u : Form) × (t ≡ OpenForm u) × (k ≡ param.ValueArray (words u))
KindIs program passing.Variable t k = (k ≡ param.Var) × OneSlot t
KindIs program passing.VariableRecord t k = (k ≡ param.VarRecord) × IsRecord t
KindIs program passing.VariableOpenArray t k = (k ≡ param.VarArray) × IsOpen t

abbrev pub KindsAre : Program → List TypedParameter → List Param → Type 0
KindsAre program [] [] = Unit {0}
KindsAre program [] (k ∷ ks) = ⊥
KindsAre program (p ∷ ps) [] = ⊥
KindsAre program (p ∷ ps) (k ∷ ks) = KindIs program p.passing (form_in program p.of) k × KindsAre program ps ks

-- locals and hidden variables
abbrev pub own_variables : Program → Procedure → List Held
own_variables program p = map (held_variable program) p.locals ++ map hidden_held (hidden_of_all p.body)

abbrev pub OwnFormsOk : Program → List Held → Type 0
OwnFormsOk program [] = Unit {0}
OwnFormsOk program (h ∷ hs) = FormOk program (held_form h) × OwnFormsOk program hs

abbrev pub scope_of : Setting → ModuleImage → List ℕ → Procedure → (Family → ℕ) → Scope
scope_of c u unit p methods = record { program = c.program; img = c.img; u = u; unit = unit; held = static_held c.program p; method_number = methods }

abbrev pub LastCode : Scope → Procedure → ℕ → Option TypeRef → Type 0
LastCode sc p pc None = code.Has sc pc (code.plain op.Ret)
LastCode sc p pc (Some t) = code.HasAt sc pc (code.with_a op.Trap (trap_number trap.NoReturn)) p.at

pub record ProcedureStands (c : Setting) (q : QName) (p : Procedure) : Type 0 where
  pub m : ℕ
  pub u : ModuleImage
  pub is : machine.InModule c.img m u
  pub named : module_number c.program q.module ≡ m
  pub first : u.first ≡ suc (module_offset c.program c.program q.module)
  pub methods : Family → ℕ
  pub entry : machine_procedure.Procedure
  pub found : slice_get u.procedures ((number_of c.program (has_of c) c.img q).proc) ≡ Some entry
  pub kinds : KindsAre c.program p.parameters entry.params
  pub locals : entry.locals ≡ slots_words (own_variables c.program p)
  pub small : slots entry.params + entry.locals ≤ 1048576
  pub gives : entry.has_result ≡ has_one p.result
  pub at : ℕ
  pub code : code.StmtsCode (scope_of c u q.module p methods) p.body 0 entry.entry at
  pub last : LastCode (scope_of c u q.module p methods) p (end_stmts c.program p.body entry.entry) p.result
  pub inside : end_stmts c.program p.body entry.entry < length u.code
  pub need : need_stmts p.body ≤ 256
  pub ok : typed.StmtsOk c.program (has_of c) q.module (static_held c.program p) p.result p.body false
  pub different : AreDifferent (static_held c.program p)
  pub forms : OwnFormsOk c.program (own_variables c.program p)

abbrev pub Linked : Setting → Type 0
Linked c = (q : QName) (p : Procedure) → procedure_of c.program q ≡ Some p → ProcedureStands c q p

-- what an image has of each record type, as far as NEW goes
pub record TypeStands (c : Setting) (q : QName) : Type 0 where
  pub ok : FormOk c.program (record_in c.program q)
  pub descriptor : Descriptor
  pub found : slice_get c.img.types (type_number c.img.types q) ≡ Some descriptor
  pub size : descriptor.words ≡ words (record_in c.program q)

abbrev pub TypesStand : Setting → Type 0
TypesStand c = (q : QName) (line : List QName) → record_in c.program q ≡ RecordForm (q ∷ line) (fields_of (record_in c.program q)) → TypeStands c q
