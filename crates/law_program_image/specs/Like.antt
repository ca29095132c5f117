-- Bound procedures that are like those that introduce their families.
use Rattle.std.specs.Prelude.{◌≡◌, Some}
use Rattle.std.specs.List.{AllByRecursion}
use Rattle.ob_types.specs.declared.desc.Desc.TheVariants as desc
use Rattle.ob_types.specs.declared.desc.RecordDesc.{RecordDesc}
use Rattle.ob_types.specs.declared.desc.Method.{Method}
use Rattle.ob_types.specs.declared.typed.Binding.{Binding}
use Rattle.ob_types.specs.TypedSyntax.{Procedure, Module}
use Rattle.ob_meaning.specs.Values.{Program, description}
use Rattle.ob_layout.specs.Members.{method_named}
use Rattle.law_simulation_relation.specs.Typed.{ReceiverOk, result_form}
use Rattle.law_typing_forms.specs.Formed.{AreParameters, behind}
use Rattle.law_typing_forms.specs.Said.{IsSound}
use Rattle.law_typing_forms.specs.Whole.{IsWhole}
use Rattle.law_image_tables.specs.Redefined.{RedefinitionsKept}
use Rattle.law_program_image.specs.Families.{HasBindings}

-- the procedure receives the record to which it is bound, by a receiver of the kind of the method, and gives and takes what the method does
pub record IsLike (program : Program) (p : Procedure) (b : Binding) (k : Method) : Type 0 where
  pub receives : ReceiverOk program k.receiver b.owner p.parameters
  pub result : result_form program p.result ≡ result_form program k.signature.result
  pub parameters : AreParameters program (behind p.parameters) k.signature.params

-- each bound procedure of a module is like the method that its family names, in the program
abbrev pub AreLike : Program → Module → Type 0
AreLike program m = AllByRecursion (λ p. (b : Binding) → p.binding ≡ Some b → (r : RecordDesc) (k : Method) → description program b.family.owner ≡ Some (desc.Record r) → method_named b.family.name r.methods ≡ Some k → IsLike program p b k) m.procedures

-- Procedures that redefine others are alike where all are like the methods of their families.
abbrev pub LikeAreRedefined : Type 0
LikeAreRedefined = (program : Program) → IsSound program → IsWhole program → AllByRecursion (HasBindings program) program → AllByRecursion (AreLike program) program → RedefinitionsKept program
