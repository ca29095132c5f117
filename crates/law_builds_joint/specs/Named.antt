-- What the rules see to of the names of the types of a module and of their bound procedures.
use Rattle.std.specs.Prelude.{◌≡◌, ◌≢◌, ℕ, true, false, List, Some, None}
use Rattle.std.specs.List.{AllByRecursion}
use Rattle.ob_types.specs.declared.desc.Desc.{Desc}
use Rattle.ob_types.specs.declared.desc.Desc.TheVariants as desc
use Rattle.ob_types.specs.Maps.{is_type}
use Rattle.ob_types.specs.TypedSyntax.{Module}
use Rattle.ob_layout.specs.LaidOut.{type_named}
use Rattle.ob_env.specs.Faces.{object_named}
use Rattle.ob_uses.specs.Objects.{is_exported, objects_of}
use Rattle.law_names_distinct.specs.Distinct.{AreDistinct}

-- the bound procedures that a record introduces have different names
abbrev pub MethodsDiffer : Desc → Type 0
MethodsDiffer (desc.Record r) = AreDistinct (λ m. m.name) r.methods
MethodsDiffer d = Unit {0}

-- what a module shows that is no type has not the name of one of its types
abbrev pub ObjectsAreNoTypes : Module → Type 0
ObjectsAreNoTypes m = (x : List ℕ) (d : Desc) → object_named (objects_of m) x ≡ Some d → is_type d ≡ false → type_named m.types x ≡ None

-- no exported procedure that is not bound has the name of one of the module's types
abbrev pub ProceduresAreNoTypes : Module → Type 0
ProceduresAreNoTypes m = AllByRecursion (λ p. is_exported p ≡ true → AllByRecursion (λ t. t.name ≢ p.name) m.types) m.procedures

pub record AreNamedApart (m : Module) : Type 0 where
  pub objects : ObjectsAreNoTypes m
  pub methods : AllByRecursion (λ t. MethodsDiffer t.desc) m.types
