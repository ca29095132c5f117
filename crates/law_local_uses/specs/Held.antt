-- Modules whose types are held, and that are tied to the types that they name.
use Rattle.std.specs.Prelude.{◌≡◌, ℕ, false, List, Option, Some, bytes_eq}
use Rattle.std.specs.List.{AllByRecursion}
use Rattle.ob_tree.specs.declared.names.QName.{QName}
use Rattle.ob_types.specs.declared.desc.Desc.{Desc}
use Rattle.ob_types.specs.declared.typed.TypedType.{TypedType}
use Rattle.ob_types.specs.declared.typed.TypedParameter.{TypedParameter}
use Rattle.ob_types.specs.declared.typed.TypedProcedure.{TypedProcedure}
use Rattle.ob_types.specs.declared.typed.TypedModule.{TypedModule}
use Rattle.ob_types.specs.Maps.{listed}
use Rattle.ob_rules.specs.Shapes.{Map}
use Rattle.ob_rules.specs.Names.{out_string}
use Rattle.law_local_judged.specs.Agreement.{IsIn, AreIn}
use Rattle.law_local_judged.specs.Said.{DesignatorIn}
use Rattle.law_local_files.specs.Tied.{BindingTied}
use Rattle.law_local_uses.specs.Settled.{Says, NamesIn}
use Rattle.law_local_uses.specs.Laws.{AreTied}

-- the names of the module, what the other modules show, and what is built in are held
pub record AreHeld (shown : QName → Option Desc) (unit : List ℕ) (Held : QName → Type 0) : Type 0 where
  pub own : (x : List ℕ) → Held (record { «module» = unit; object = x })
  pub exports : (q : QName) (d : Desc) → shown q ≡ Some d → Held q × NamesIn Held d
  pub out : Held out_string

-- of a type its name and its core
pub record IsThere (map : Map) (Own : QName → Type 0) (unit : List ℕ) (t : TypedType) : Type 0 where
  pub says : Says map (record { «module» = unit; object = t.name }) t.desc
  pub own : Own (record { «module» = unit; object = t.name })

-- a map says all that the other modules show
abbrev pub SaysShown : Map → List ℕ → (QName → Option Desc) → Type 0
SaysShown map unit shown = (q : QName) (d : Desc) → bytes_eq q.«module» unit ≡ false → shown q ≡ Some d → Says map q d

-- a procedure: the types of its heading and its variables are held, and its binding and its body are tied
pub record ProcedureHeld (map : Map) (unit : List ℕ) (Own Held : QName → Type 0) (p : TypedProcedure) : Type 0 where
  pub parameters : AllByRecursion (λ (x : TypedParameter). IsIn Held x.of) p.parameters
  pub result : AreIn Held (listed p.result)
  pub locals : AllByRecursion (λ v. IsIn Held v.of) p.locals
  pub binding : BindingTied map unit Own p.binding
  pub body : AreTied map unit Own Held p.body

-- a module likewise, with what its text mentions
pub record ModuleHeld (map : Map) (Own Held : QName → Type 0) (m : TypedModule) : Type 0 where
  pub types : AllByRecursion (λ (t : TypedType). NamesIn Held t.desc) m.types
  pub variables : AllByRecursion (λ v. IsIn Held v.of) m.variables
  pub procedures : AllByRecursion (ProcedureHeld map m.name Own Held) m.procedures
  pub body : AreTied map m.name Own Held m.body
  pub objects : AllByRecursion Held m.mentioned.objects
  pub named : AreIn Held m.mentioned.types
  pub lengths : AllByRecursion (DesignatorIn Held) m.mentioned.lengths
