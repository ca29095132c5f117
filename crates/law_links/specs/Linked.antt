-- What the code of a module names of other modules, and what counts for its uses.
use Rattle.std.specs.Prelude.{◌≡◌, ◌+◌, List, length, true, false, Bool, Option, Some, None}
use Rattle.std.specs.List.{AllByRecursion}
use Rattle.ob_tree.specs.declared.names.QName.{QName}
use Rattle.ob_types.specs.declared.desc.Desc.{Desc}
use Rattle.ob_types.specs.declared.desc.Desc.TheVariants as desc
use Rattle.ob_layout.specs.LaidOut.{viewed}
use Rattle.ob_env.specs.Faces.{described, text_in}
use Rattle.ob_env.specs.Fit.{count_of}
use Rattle.ob_uses_roots.specs.Counts.{counts_of_module}
use Rattle.ob_uses_roots.specs.Noted.{names_of, shape_starts}
use Rattle.ob_uses.specs.Closed.{is_among, of_found, reached_from}
use Rattle.ob_uses.specs.Uses.{near_types, is_imported}
use Rattle.ob_uses.specs.Made.{face_of_laid}
use Rattle.ob_scheme.specs.Lines.{Operand, Number, StringHere, OtherVariable, OtherProcedure, OtherType, Line}
use Rattle.ob_scheme.specs.Context.{is_own}
use Rattle.ob_scheme.specs.Object.{own, base_type}
use Rattle.ob_scheme.specs.Procedures.{module_code}
use Rattle.ob_compile_model.specs.Compiling.{Compiled}
use Rattle.law_load_plan.specs.Compiled.{Text, is_variable, is_procedure, is_record, AreLinksUsed}

-- the descriptions that a module is compiled with
abbrev pub types_of : Compiled Text → QName → Option Desc
types_of c = viewed (described c.against) c.tree

-- the names whose shapes count: those of its text, and what is near them
abbrev pub names_counted : Compiled Text → List QName
names_counted c = reached_from (λ q. of_found (λ d. names_of (near_types d)) (types_of c q)) (length c.tree.types + count_of c.against) (names_of (shape_starts (counts_of_module (types_of c) c.tree)))

-- an object of another module, of a kind, that counts
pub record IsCounted (kind : Desc → Bool) (c : Compiled Text) (q : QName) : Type 0 where
  pub desc : Desc
  pub kind_is : kind desc ≡ true
  pub shown : described c.against q ≡ Some desc
  pub imported : is_imported c.tree q ≡ true
  pub counted : is_among (names_counted c) q ≡ true

-- what an operand names of another module counts
abbrev pub IsOperandCounted : Compiled Text → Operand → Type 0
IsOperandCounted c (Number z) = Unit {0}
IsOperandCounted c (StringHere text words) = Unit {0}
IsOperandCounted c (OtherVariable m x) = IsCounted is_variable c (record { «module» = m; object = x })
IsOperandCounted c (OtherProcedure m x) = IsCounted is_procedure c (record { «module» = m; object = x })
IsOperandCounted c (OtherType k q) = IsCounted is_record c q

abbrev pub IsLineCounted : Compiled Text → Line → Type 0
IsLineCounted c l = IsOperandCounted c l.a × IsOperandCounted c l.b

abbrev pub IsBaseCounted : Compiled Text → Option QName → Type 0
IsBaseCounted c None = Unit {0}
IsBaseCounted c (Some q) = is_own (own (types_of c) c.tree) q.«module» ≡ false → IsCounted is_record c q

-- the base of a record type, if it is of another module
abbrev pub IsTypeCounted : Compiled Text → Desc → Type 0
IsTypeCounted c (desc.Record r) = IsBaseCounted c (base_type (types_of c) c.tree r.base)
IsTypeCounted c d = Unit {0}

-- All that the code names of other modules counts, and the bases of the module's record types.
pub record IsCodeCounted (c : Compiled Text) : Type 0 where
  pub code : AllByRecursion (IsLineCounted c) (module_code (types_of c) c.tree)
  pub bases : AllByRecursion (λ t. IsTypeCounted c t.desc) c.tree.types

-- The links of its object file name what it uses.
abbrev pub LinksFollow : Type 0
LinksFollow = (c : Compiled Text) → c.shows ≡ face_of_laid (text_in c.against) c.against c.tree → IsCodeCounted c → AreLinksUsed c
