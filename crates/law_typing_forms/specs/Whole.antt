-- What the modules of a program keep.
use Rattle.std.specs.Prelude.{◌≡◌, ◌≢◌, ℕ, List, [], ◌∷◌}
use Rattle.std.specs.List.{AllByRecursion}
use Rattle.ob_types.specs.declared.types.Mode.{Mode}
use Rattle.ob_types.specs.declared.typed.TypedParameter.{TypedParameter}
use Rattle.ob_types.specs.Maps.{listed}
use Rattle.ob_types.specs.TypedSyntax.{Procedure, Module}
use Rattle.ob_meaning.specs.Values.{Program, form_in}
use Rattle.law_simulation_relation.specs.Typed.{passing_for}
use Rattle.law_typing_forms.specs.Formed.{IsDeclared}

-- different names
abbrev pub Different : {A : Type 0} → (A → List ℕ) → List A → Type 0
Different name [] = Unit {0}
Different name (x ∷ xs) = AllByRecursion (λ y. name y ≢ name x) xs × Different name xs

-- a parameter is passed as its type asks for
pub record IsPassed (program : Program) (x : TypedParameter) : Type 0 where
  pub mode : Mode
  pub passing : x.passing ≡ passing_for mode (form_in program x.of)
  pub declared : IsDeclared x.of

abbrev pub HeadingOk : Program → Procedure → Type 0
HeadingOk program p = AllByRecursion (λ x. IsPassed program x) p.parameters × AllByRecursion IsDeclared (listed p.result)

pub record IsWholeModule (program : Program) (m : Module) : Type 0 where
  pub types : Different (λ t. t.name) m.types
  pub procedures : Different (λ p. p.name) m.procedures
  pub variables : Different (λ v. v.name) m.variables
  pub declared : AllByRecursion (λ v. IsDeclared v.of) m.variables
  pub headings : AllByRecursion (HeadingOk program) m.procedures

-- The modules of a program have different names, and each has types, variables and procedures of different names.
pub record IsWhole (program : Program) : Type 0 where
  pub names : Different (λ m. m.name) program
  pub modules : AllByRecursion (IsWholeModule program) program
