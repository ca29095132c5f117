-- The laws over interfaces of other ages: the types that they show are held and keep what they have to, and no depth is known of them.
use Rattle.std.specs.Prelude.{◌≡◌, ℕ, true, false, Option, Some, bytes_eq, map as each}
use Rattle.std.specs.List.{AllByRecursion}
use Rattle.ob_tree.specs.declared.names.QName.{QName}
use Rattle.ob_tree.specs.declared.decl.Module.{Module as Tree}
use Rattle.ob_types.specs.declared.types.TypeRef.{TypeRef}
use Rattle.ob_types.specs.declared.desc.Desc.{Desc}
use Rattle.ob_types.specs.declared.typed.TypedModule.{TypedModule}
use Rattle.ob_types.specs.Maps.{IsHeld, IsWithin, named_by}
use Rattle.ob_types.specs.Relations.{Keeps}
use Rattle.ob_rules.specs.Names.{Around, map_of}
use Rattle.ob_rules.specs.Declarations.{target_of, checked}
use Rattle.law_typing_forms.specs.Steady.{IsSteady, without_members}
use Rattle.law_typing.specs.Known.{ConstantIs}
use Rattle.law_names_distinct.specs.Distinct.{AreDistinct}
use Rattle.law_names_procedures.specs.Procedures.{is_named_plainly}
use Rattle.law_names_procedures.specs.Procedures as said
use Rattle.law_body_context.specs.Spelled.{tree_spelled}
use Rattle.law_body_context.specs.Judged.{BodiesAreJudged}
use Rattle.law_body_context.specs.Around.{IsAround}
use Rattle.law_body_context.specs.Laws.{ConstantsAre}
use Rattle.law_acyclic.specs.Laws.{IsApart, types_of}

-- Each type that a description names is held, and each description keeps what it has to.
pub record IsClosed (map : QName → Option Desc) : Type 0 where
  pub held : (q : QName) (d : Desc) → map q ≡ Some d → AllByRecursion (λ t. IsHeld map t) (named_by d)
  pub keeps : (q : QName) (d : Desc) → map q ≡ Some d → Keeps map d

-- each chain of types ends, and those of aliases, elements and bases have at most 200 others
pub record IsEnding (map : QName → Option Desc) : Type 0 where
  pub ends : (t : TypeRef) → IsHeld map t → (n : ℕ) × IsWithin map n t
  pub lines : (t : TypeRef) → IsHeld map t → IsWithin (without_members map) 201 t

-- A module that keeps the rules, against interfaces that are closed; it imports others alone, and its types differ in name.
pub record IsOver (shown : QName → Option Desc) (tree : Tree) (m : TypedModule) : Type 0 where
  pub is : checked shown tree ≡ Some m
  pub closed : IsClosed shown
  pub apart : IsApart shown tree.name.name
  pub imports : AllByRecursion (λ i. bytes_eq (target_of i).name tree.name.name ≡ false) tree.imports
  pub names : AreDistinct (λ t. t.name) m.types

-- Each type that one of its types names is held.
abbrev pub TypesAreHeld : Type 0
TypesAreHeld = (shown : QName → Option Desc) (tree : Tree) (m : TypedModule) → IsOver shown tree m → (q : QName) (d : Desc) → types_of shown tree m q ≡ Some d → AllByRecursion (λ t. IsHeld (types_of shown tree m) t) (named_by d)

abbrev pub HasSteadyMap : Around → Type 0
HasSteadyMap u = IsSteady (map_of u)

-- its bodies are judged, and the maps around them are steady
pub record HasSteadyBodies (shown : QName → Option Desc) (m : TypedModule) : Type 0 where
  pub judged : BodiesAreJudged ConstantIs shown m
  pub steady : IsAround HasSteadyMap ConstantIs shown m judged

-- So it is of such a module, where the chains of its types end, whose constant expressions come to constants.
abbrev pub BodiesAreSteady : Type 0
BodiesAreSteady =
    (shown : QName → Option Desc) (tree : Tree) (m : TypedModule) → IsOver shown tree m → IsEnding (types_of shown tree m) → tree_spelled tree ≡ true → said.all_true (each is_named_plainly tree.decls) ≡ true → ConstantsAre tree.name.name shown
    → HasSteadyBodies shown m
