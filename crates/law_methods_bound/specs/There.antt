-- The procedures of the methods that the records of a checked module introduce.
use Rattle.std.specs.Prelude.{◌≡◌, ℕ, Bool, true, false, bytes_eq, List, ◌∷◌, ◌++◌, Option, Some, codes, map}
use Rattle.std.specs.List.{AllByRecursion, find}
use Rattle.ob_tree.specs.declared.names.QName.{QName}
use Rattle.ob_tree.specs.declared.decl.Module.{Module as Tree}
use Rattle.ob_types.specs.declared.desc.Desc.{Desc}
use Rattle.ob_types.specs.declared.desc.Desc.TheVariants as desc
use Rattle.ob_types.specs.declared.desc.Method.{Method}
use Rattle.ob_types.specs.declared.desc.Receiver.{Receiver}
use Rattle.ob_types.specs.declared.desc.Receiver.TheVariants as receiver
use Rattle.ob_types.specs.declared.typed.Binding.{Binding}
use Rattle.ob_types.specs.declared.typed.Passing.{Passing}
use Rattle.ob_types.specs.declared.typed.Passing.TheVariants as passing
use Rattle.ob_types.specs.declared.typed.TypedType.{TypedType}
use Rattle.ob_types.specs.declared.typed.TypedParameter.{TypedParameter}
use Rattle.ob_types.specs.declared.typed.TypedProcedure.{TypedProcedure}
use Rattle.ob_types.specs.declared.typed.TypedModule.{TypedModule}
use Rattle.ob_rules.specs.Names.{Around, map_of, own_desc}
use Rattle.ob_rules.specs.Declarations.{checked}
use Rattle.law_names_distinct.specs.Distinct.{AreDistinct}
use Rattle.law_spelling.specs.Raw.{decl_named}
use Rattle.law_names_procedures.specs.Procedures.{ShowBases, all_true, is_named_plainly}
use Rattle.law_typing_forms.specs.Said.{IsOneOf}
use Rattle.law_body_context.specs.Judged.{AreOf}
use Rattle.law_body_context.proofs.Receivers.{received_as}
use Rattle.law_methods_bound.specs.Bound.{methods_of}

-- a record by VAR, or a pointer to it by value
abbrev pub passed_as : Receiver → Passing
passed_as receiver.Record = passing.VariableRecord
passed_as receiver.Pointer = passing.Scalar

abbrev pub is_record : Desc → Bool
is_record (desc.Record r) = true
is_record d = false

-- the type of that name
abbrev pub type_of : List TypedType → List ℕ → Option Desc
type_of ts x = own_desc (find (λ t. bytes_eq t.name x) ts)

-- The parameter receives the record, by a receiver of that kind: so it is where the types are known that stand before its heading, which
-- are types of the module; records are not all bound to yet.
pub record Receives (unit : List ℕ) (shown : QName → Option Desc) (types : List TypedType) (q : QName) (kind : Receiver) (x : TypedParameter) : Type 0 where
  pub passed : x.passing ≡ passed_as kind
  pub w : Around
  pub unit_is : w.unit ≡ unit
  pub shown_is : w.shown ≡ shown
  pub told : (x : List ℕ) (d : Desc) → is_record d ≡ false → type_of w.own x ≡ Some d → type_of types x ≡ Some d
  pub is : received_as (map_of w) kind x.of ≡ Some q

-- what a procedure is bound to that introduces the method
abbrev pub introducing : QName → Method → Binding
introducing q k = record { owner = q; receiver = k.receiver; family = record { owner = q; name = k.name } }

-- One of the module's procedures introduces the method of the record: it is named by both, it receives the record, and it takes and gives
-- what the method does.
pub record IsIntroduced (shown : QName → Option Desc) (m : TypedModule) (q : QName) (k : Method) : Type 0 where
  pub p : TypedProcedure
  pub there : IsOneOf m.procedures p
  pub name : p.name ≡ q.object ++ codes "." ++ k.name
  pub binding : p.binding ≡ Some (introducing q k)
  pub self : TypedParameter
  pub rest : List TypedParameter
  pub parameters : p.parameters ≡ self ∷ rest
  pub receives : Receives m.name shown m.types q k.receiver self
  pub are : AreOf rest k.signature.params
  pub result : p.result ≡ k.signature.result

abbrev pub type_in : TypedModule → TypedType → QName
type_in m t = record { «module» = m.name; object = t.name }

-- EACH METHOD of a record of a checked module is introduced by one of its procedures, where what is shown has the bases of its pointers.
abbrev pub MethodsAreIntroduced : Type 0
MethodsAreIntroduced =
    (shown : QName → Option Desc) (tree : Tree) (m : TypedModule) → ShowBases shown tree.name.name → all_true (map is_named_plainly tree.decls) ≡ true → checked shown tree ≡ Some m → AreDistinct (λ t. t.name) m.types → AllByRecursion (λ d. decl_named d ≡ true) tree.decls →
    AllByRecursion (λ t. AllByRecursion (IsIntroduced shown m (type_in m t)) (methods_of t.desc)) m.types
