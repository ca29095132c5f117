-- Two maps of descriptions that say the same of all names that count.
use Rattle.std.specs.Prelude.{◌≡◌, List, Option, Some, None}
use Rattle.std.specs.List.{AllByRecursion}
use Rattle.ob_tree.specs.declared.names.QName.{QName}
use Rattle.ob_types.specs.declared.types.TypeRef.{TypeRef}
use Rattle.ob_types.specs.declared.types.TypeRef.TheVariants as ref
use Rattle.ob_types.specs.declared.desc.Desc.{Desc}
use Rattle.ob_uses.specs.Uses.{near_types}

-- Where the rules look at what other modules show, and what of the checked module makes that count for its uses:
-- the name of an object or type of an imported module (`exported`, `is_type_behind`): the objects that the text mentions;
-- what a type is, through aliases (`target`, `shape`, `is_held` and the tests over them): the type of a designator, of a formal
-- parameter, of a result, of a declaration, of a guard or test, of MAX and MIN;
-- what it leads to (pointer bases, elements, record bases, parameters and results of procedure types): what is near those;
-- members of records and their bases (`member`, `base_record`): the same; the type of a field: the designator that selects it; the
-- signature of a bound procedure: its calls, and for a redefinition the procedure that it redefines;
-- and nothing else, but for the parameter of Out.String, which has the same description everywhere.

-- the name of the type, where it has one, is among these
abbrev pub IsIn : (QName → Type 0) → TypeRef → Type 0
IsIn P (ref.Basic b) = Unit {0}
IsIn P (ref.Named q) = P q

abbrev pub AreIn : (QName → Type 0) → List TypeRef → Type 0
AreIn P ts = AllByRecursion (IsIn P) ts

-- what the description, where there is one, leads to is among these
abbrev pub DescIn : (QName → Type 0) → Option Desc → Type 0
DescIn P None = Unit {0}
DescIn P (Some d) = AreIn P (near_types d)

-- TWO MAPS AGREE on these names: they say the same of each, and what is near each is among them.
pub record Agree (P : QName → Type 0) (f g : QName → Option Desc) : Type 0 where
  pub same : (q : QName) → P q → g q ≡ f q
  pub near : (q : QName) → P q → DescIn P (f q)
