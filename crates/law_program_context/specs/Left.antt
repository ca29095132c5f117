-- A checked module in a program, and what is left to ask of what stands around its bodies.
use Rattle.std.specs.Prelude.{◌≡◌, ℕ, List, ◌++◌, map, Option, Some, true}
use Rattle.std.specs.List.{AllByRecursion}
use Rattle.ob_tree.specs.declared.names.QName.{QName}
use Rattle.ob_types.specs.declared.types.Signature.{Signature}
use Rattle.ob_types.specs.declared.value.Value.{Value as Literal}
use Rattle.ob_types.specs.declared.desc.Desc.{Desc}
use Rattle.ob_types.specs.declared.desc.Desc.TheVariants as desc
use Rattle.ob_types.specs.declared.typed.TypedModule.{TypedModule}
use Rattle.ob_types.specs.AssigningTests.{is_value}
use Rattle.ob_types.specs.TypedSyntax.{Module}
use Rattle.ob_types.specs.TypedView.{procedure_view}
use Rattle.ob_types.specs.declared.desc.Method.{Method}
use Rattle.ob_rules.specs.Shapes.{Map, AMethod, own_member}
use Rattle.ob_meaning.specs.Values.{Program, bases_in, Formals, form_in, formals_in}
use Rattle.law_simulation_relation.specs.Relation.{FormOk}
use Rattle.ob_rules.specs.Names.{Around, map_of}
use Rattle.ob_rules.specs.Declarations.{Contents}
use Rattle.law_typing_forms.specs.Formed.{Formed, IsProcedureOf}
use Rattle.law_typing_forms.specs.Said.{IsOneOf}
use Rattle.law_typing_forms.specs.Steady.{IsSteady}
use Rattle.law_typing.specs.Forms.{ResultIs}
use Rattle.law_typing.specs.Known.{ConstantIs}
use Rattle.law_body_context.specs.Judged.{IsWithin}

-- The checked module is one of the program, perhaps with its records laid out. Its variables can be built, and results are no arrays and no records.
pub record IsModuleOf (program : Program) (checked : TypedModule) (m : Module) : Type 0 where
  pub there : IsOneOf program m
  pub name : m.name ≡ checked.name
  pub variables : m.variables ≡ checked.variables
  pub procedures : m.procedures ≡ map procedure_view checked.procedures
  pub forms : AllByRecursion (λ v. FormOk program (form_in program v.of)) checked.variables
  pub results : AllByRecursion (λ p. ResultIs program p.result) checked.procedures

-- the constants that other modules show are constants
abbrev pub AreConstantsShown : (QName → Option Desc) → Type 0
AreConstantsShown shown = (q : QName) (v : Literal) → shown q ≡ Some (desc.Const v) → ConstantIs v

-- a procedure that may be a value is one of the procedure type of its signature
abbrev pub HasProcedures : Program → (Formals → QName → Type 0) → Type 0
HasProcedures program Has = (q : QName) (s : Signature) → IsProcedureOf program q s → is_value q ≡ true → Has (formals_in program s) q

-- wherever types are known in a module, the map says what the program has
abbrev pub AreFormed : Program → (QName → Option Desc) → TypedModule → Contents → Type 0
AreFormed program shown checked content = (w : Around) → IsWithin ConstantIs shown checked content w → Formed (map_of w) program

-- the record type q is b or extends it
abbrev pub IsBelow : Program → QName → QName → Type 0
IsBelow program q b = (more : List QName) × (bases_in program q ≡ more ++ bases_in program b)

-- of a record type and one that it extends, one alone introduces a bound procedure of a name
abbrev pub AreIntroducedOnce : Program → Map → Type 0
AreIntroducedOnce program map = (q b : QName) (x : List ℕ) (k m : Method) → IsBelow program q b → own_member q (map q) x ≡ Some (AMethod q k) → own_member b (map b) x ≡ Some (AMethod b m) → q ≡ b

-- What is left to ask around a body: of the chains of its types; and of bound procedures, which are introduced once.
pub record IsLeft (program : Program) (u : Around) : Type 0 where
  pub steady : IsSteady (map_of u)
  pub introduced : AreIntroducedOnce program (map_of u)
