-- What introduces a method in a checked module is a bound procedure of the program that has the module.
use Rattle.std.specs.Prelude.{◌≡◌, ℕ, false, List, ◌++◌, Option, Some, codes, map}
use Rattle.std.specs.List.{AllByRecursion}
use Rattle.ob_tree.specs.declared.names.QName.{QName}
use Rattle.ob_tree.specs.declared.ident.Mark.{Mark}
use Rattle.ob_types.specs.declared.desc.Desc.{Desc}
use Rattle.ob_types.specs.declared.desc.Desc.TheVariants as desc
use Rattle.ob_types.specs.declared.desc.Method.{Method}
use Rattle.ob_types.specs.declared.typed.Binding.{Binding}
use Rattle.ob_types.specs.declared.typed.TypedModule.{TypedModule}
use Rattle.ob_types.specs.TypedSyntax.{Procedure, Module}
use Rattle.ob_types.specs.TypedView.{procedure_view}
use Rattle.ob_meaning.specs.Values.{Program, description}
use Rattle.ob_rules.specs.Names.{Around, map_of}
use Rattle.law_typing_forms.specs.Formed.{IsMethodOf}
use Rattle.law_typing_forms.specs.Said.{IsOneOf, ChainsEnd}
use Rattle.law_typing_forms.specs.Whole.{IsWhole}
use Rattle.law_methods_bound.specs.There.{is_record, type_of, IsIntroduced}

-- an alias and a pointer are so in the program
abbrev pub IsTypeSaid : Program → QName → Desc → Type 0
IsTypeSaid program q (desc.Alias m t) = (k : Mark) × (description program q ≡ Some (desc.Alias k t))
IsTypeSaid program q (desc.Pointer m t) = (k : Mark) × (description program q ≡ Some (desc.Pointer k t))
IsTypeSaid program q d = Unit {0}

abbrev pub TypesAreSaid : (QName → Option Desc) → Program → Type 0
TypesAreSaid map program = (q : QName) (d : Desc) → map q ≡ Some d → IsTypeSaid program q d

-- the record and the family name a bound procedure
abbrev pub IsNamedSo : Procedure → Type 0
IsNamedSo p = (b : Binding) → p.binding ≡ Some b → p.name ≡ b.owner.object ++ codes "." ++ b.family.name

-- A module of the program that was checked over interfaces: what they show of aliases and pointers, with what the module has of them, is so
-- in the program.
pub record HasChecked (program : Program) (shown : QName → Option Desc) (checked : TypedModule) : Type 0 where
  pub m : Module
  pub there : IsOneOf program m
  pub name : m.name ≡ checked.name
  pub procedures : m.procedures ≡ map procedure_view checked.procedures
  pub named : AllByRecursion IsNamedSo m.procedures
  pub said : (w : Around) → w.unit ≡ checked.name → w.shown ≡ shown → ((x : List ℕ) (d : Desc) → is_record d ≡ false → type_of w.own x ≡ Some d → type_of checked.types x ≡ Some d) → TypesAreSaid (map_of w) program

-- So each method that one of the module's procedures introduces is a method of the program.
abbrev pub IntroducedAreMethods : Type 0
IntroducedAreMethods =
    (program : Program) → ChainsEnd program → IsWhole program → (shown : QName → Option Desc) (checked : TypedModule) → HasChecked program shown checked →
    (q : QName) (k : Method) → q.«module» ≡ checked.name → IsIntroduced shown checked q k → IsMethodOf program q k
