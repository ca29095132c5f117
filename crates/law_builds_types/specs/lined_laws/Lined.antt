-- Lines of types, by aliases, elements, bases and signatures: they are short in programs, and in maps that say what a program declares.
use Rattle.std.specs.Prelude.{◌≡◌, true, List, [], Option, Some}
use Rattle.std.specs.List.{AllByRecursion}
use Rattle.ob_tree.specs.declared.names.QName.{QName}
use Rattle.ob_types.specs.declared.types.TypeRef.TheVariants as ref
use Rattle.ob_types.specs.declared.desc.Desc.{Desc}
use Rattle.ob_types.specs.Maps.{is_type, named_by, IsHeld, IsWithin}
use Rattle.ob_types.specs.Relations.{Keeps}
use Rattle.ob_meaning.specs.Values.{Program, description}
use Rattle.law_typing_forms.specs.Said.{IsSaid, ChainsEnd}
use Rattle.law_typing_forms.specs.Steady.{without_members, IsSteady}
use Rattle.law_typing_env.specs.Ordered.{StandInOrder}
use Rattle.law_acyclic.specs.Steady.{IsEnding}
use Rattle.law_builds_ruled.specs.ruled_laws.Ruled.{BuildsAreRuled}
use Rattle.ob_builds.specs.Builds.{Build}
use Rattle.ob_builds.specs.Written.{BuildsAreWritten}
use Rattle.law_program_runs.specs.Builds.{program_of, AreLoaded}

-- no type of the program stands on a line of more than 200 others, where of a record its base alone counts
abbrev pub AreLined : Program → Type 0
AreLined program = (q : QName) (d : Desc) → description program q ≡ Some d → is_type d ≡ true → IsWithin (without_members (description program)) 201 (ref.Named q)

-- PROGRAMS

-- so it is of modules in order
abbrev pub OrderedAreLined : Type 0
OrderedAreLined = (program : Program) → StandInOrder [] program → AreLined program

-- so it is of builds that are loaded together
abbrev pub LoadedAreLined : Type 0
LoadedAreLined = BuildsAreWritten → BuildsAreRuled → (bs : List Build) → AreLoaded bs → AreLined (program_of bs)

-- MAPS

-- What the map says of a type is what the program declares: of a record no more than its declaration; and the parameter of Out.String has
-- its type.
abbrev pub SaysOf : Program → (QName → Option Desc) → Type 0
SaysOf program map = (q : QName) (d : Desc) → map q ≡ Some d → is_type d ≡ true → IsSaid program q d

-- the map holds each type that one of its descriptions names
abbrev pub HoldsNamed : (QName → Option Desc) → Type 0
HoldsNamed map = (q : QName) (d : Desc) → map q ≡ Some d → AllByRecursion (λ t. IsHeld map t) (named_by d)

-- Its chains end and its lines are short, where it says what a program declares in which they do and are.
abbrev pub SaidHaveEnds : Type 0
SaidHaveEnds = (program : Program) → ChainsEnd program → AreLined program → (map : QName → Option Desc) → SaysOf program map → HoldsNamed map → IsEnding map

-- and the map is steady, where each of its descriptions keeps what it has to
abbrev pub SaidAreSteady : Type 0
SaidAreSteady = (program : Program) → ChainsEnd program → AreLined program → (map : QName → Option Desc) → SaysOf program map → HoldsNamed map → ((q : QName) (d : Desc) → map q ≡ Some d → Keeps map d) → IsSteady map
