-- What is still to be seen of a checked module, and the law of what compiles.
use Rattle.std.specs.Prelude.{◌≡◌, ℕ, ◌<◌, ◌^◌, List, length, map, Option, true, false, Ok, bytes_eq}
use Rattle.std.specs.List.{AllByRecursion, IsDistinct}
use Rattle.ob_tree.specs.declared.names.QName.{QName}
use Rattle.ob_types.specs.declared.types.TypeRef.TheVariants as ref
use Rattle.ob_types.specs.declared.value.Value.{Value}
use Rattle.ob_types.specs.declared.value.Value.TheVariants as literal
use Rattle.ob_types.specs.declared.desc.Desc.{Desc}
use Rattle.ob_types.specs.declared.desc.Desc.TheVariants as desc
use Rattle.ob_types.specs.TypedSyntax.{Module}
use Rattle.ob_desc.specs.Grammar.{value_fits}
use Rattle.ob_layout.specs.LaidOut.{viewed}
use Rattle.ob_env.specs.Faces.{Face, described}
use Rattle.ob_env.specs.Fit.{is_within}
use Rattle.ob_env_walk.specs.Walk.{Entry, Holds}
use Rattle.ob_uses.specs.Objects.{is_exported}
use Rattle.ob_scheme.specs.Procedures.{body_of, within}
use Rattle.ob_compile_model.specs.Compiling.{Compiled, texts, compiled}
use Rattle.law_spelling.specs.Trees.{IsNamed}
use Rattle.law_spelling.specs.Coded.{BodyIsCoded, StmtsAreCoded}
use Rattle.law_spelling.specs.Files.{BasesFit, NumbersFit}
use Rattle.law_spelling.specs.Laws.{Text, IsSpelled, IsWritten}

-- what a name has is an interface of that name
abbrev pub AreNamedEntries : (List ℕ → Entry Text) → Type 0
AreNamedEntries entry = (m : List ℕ) (f : Face Text) → entry m ≡ Holds f → m ≡ f.«module»

abbrev pub LengthFits : Desc → Type 0
LengthFits (desc.Array m n t) = n < 2 ^ 31
LengthFits d = Unit {0}

-- a value of its type; of NIL nothing is asked
abbrev pub ValueFits : Value → Type 0
ValueFits literal.Nil = Unit {0}
ValueFits v = value_fits v

-- WHAT IS STILL TO BE SEEN of a module that is laid out, by its descriptions
module _ (types : QName → Option Desc) (m : Module) where
  pub record IsSeen : Type 0 where
    -- names of types are short, and different
    pub short : AllByRecursion (λ t. length t.name < 2 ^ 16) m.types
    pub differ : IsDistinct bytes_eq (map (λ t. t.name) m.types)
    -- array lengths and constants are of LONGINT
    pub lengths : AllByRecursion (λ t. LengthFits t.desc) m.types
    pub constants : AllByRecursion (λ c. ValueFits c.value) m.constants
    -- procedures that others see are named by identifiers
    pub procedures : AllByRecursion (λ p. is_exported p ≡ true → IsNamed p.name) m.procedures
    -- the chains of own types end
    pub grounded : AllByRecursion (λ t. is_within types 200 (ref.Named (record { «module» = m.name; object = t.name })) ≡ true) m.types
    -- statements
    pub bodies : AllByRecursion (BodyIsCoded types m) m.procedures
    pub body : StmtsAreCoded (within types m (body_of m)) false m.body
    -- bases, and numbers of bound procedures
    pub bases : BasesFit types m 0 m.types
    pub numbers : AllByRecursion (λ t. NumbersFit types m t t.desc) m.types

-- What compiles against interfaces that have a spelling is written, where that is seen of its module.
abbrev pub CompiledAreWritten : Type 0
CompiledAreWritten = (entry : List ℕ → Entry Text) → AreNamedEntries entry → (source : Option (List ℕ)) (c : Compiled Text) → compiled texts entry source ≡ Ok c →
    AllByRecursion IsSpelled c.against → IsSeen (viewed (described c.against) c.tree) c.tree → IsWritten c
