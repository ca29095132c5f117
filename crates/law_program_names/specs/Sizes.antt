-- What is owed of the declarations of builds that are loaded together: the laws.
use Rattle.std.specs.Prelude.{◌≡◌, List, Some, None}
use Rattle.std.specs.List.{AllByRecursion}
use Rattle.ob_tree.specs.declared.names.QName.{QName}
use Rattle.ob_types.specs.declared.desc.Desc.TheVariants as desc
use Rattle.ob_types.specs.declared.desc.RecordDesc.{RecordDesc}
use Rattle.ob_meaning.specs.Values.{description}
use Rattle.law_simulation_relation.specs.Relation.{ModulesOk}
use Rattle.ob_rules.specs.Names.{out_string}
use Rattle.law_typing_forms.specs.Said.{HaveNames}
use Rattle.law_typing_forms.specs.Whole.{Different}
use Rattle.ob_types.specs.Relations.{IsGrounded}
use Rattle.ob_env.specs.Faces.{described}
use Rattle.ob_compile_model.specs.Compiling.{Compiled}
use Rattle.ob_builds.specs.Builds.{Text, Build, IsValid}
use Rattle.law_program_runs.specs.Builds.{program_of, AreLoaded}

-- modules have different names, and the variables of each have
abbrev pub ModulesDiffer : Type 0
ModulesDiffer = (bs : List Build) → AreLoaded bs → ModulesOk (program_of bs) (program_of bs)

-- the same, as what makes a program whole
abbrev pub NamesDiffer : Type 0
NamesDiffer = (bs : List Build) → AreLoaded bs → Different (λ m. m.name) (program_of bs) × AllByRecursion (λ m. Different (λ v. v.name) m.variables) (program_of bs)

-- the fields of each record of the program have different names
abbrev pub FieldsHaveNames : Type 0
FieldsHaveNames = (bs : List Build) → AreLoaded bs → (q : QName) (r : RecordDesc) → description (program_of bs) q ≡ Some (desc.Record r) → HaveNames r.fields

-- no type of the program is that of the parameter of Out.String
abbrev pub NothingOfOut : Type 0
NothingOfOut = (bs : List Build) → AreLoaded bs → description (program_of bs) out_string ≡ None

-- the interfaces that a valid build was compiled against have a grounded map
abbrev pub AgainstIsGrounded : Type 0
AgainstIsGrounded = (b : Build) (c : Compiled Text) → IsValid b c → IsGrounded (described c.against)
