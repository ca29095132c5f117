-- One age: interfaces show what the modules of a program declare.
use Rattle.std.specs.Prelude.{◌≡◌, List}
use Rattle.std.specs.List.{AllByRecursion}
use Rattle.ob_types.specs.TypedSyntax.{Module}
use Rattle.ob_meaning.specs.Values.{Program}
use Rattle.ob_env.specs.Faces.{Face}
use Rattle.ob_uses.specs.Objects.{objects_of}
use Rattle.law_typing_forms.specs.Said.{IsOneOf}

-- an interface shows a module of the program
pub record IsShownBy {K : Type 0} (program : Program) (f : Face K) : Type 0 where
  pub m : Module
  pub there : IsOneOf program m
  pub name : f.«module» ≡ m.name
  pub objects : f.objects ≡ objects_of m

-- Each interface shows the module of that name as the program has it.
abbrev pub AreShown : {K : Type 0} → Program → List (Face K) → Type 0
AreShown program faces = AllByRecursion (λ f. IsShownBy program f) faces
