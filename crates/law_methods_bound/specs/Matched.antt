-- The procedures that redefine others match them.
use Rattle.std.specs.Prelude.{◌≡◌, true, List, Option, Some, [], bytes_eq, map}
use Rattle.std.specs.List.{AllByRecursion}
use Rattle.ob_tree.specs.declared.names.QName.{QName}
use Rattle.ob_tree.specs.declared.decl.Module.{Module as Tree}
use Rattle.ob_types.specs.declared.desc.Desc.{Desc}
use Rattle.ob_types.specs.declared.desc.Method.{Method}
use Rattle.ob_types.specs.declared.typed.TypedModule.{TypedModule}
use Rattle.ob_types.specs.declared.typed.TypedType.{TypedType}
use Rattle.ob_rules.specs.Shapes.{AMethod, member}
use Rattle.ob_rules.specs.Names.{Around}
use Rattle.ob_rules.specs.Operators.{signatures_match}
use Rattle.ob_rules.specs.Headings.{BoundAs, Head, same_kind, signature_if, counted, bindings, reversed}
use Rattle.ob_rules.specs.Declarations.{checked}
use Rattle.law_names_procedures.specs.Procedures.{ShowBases, all_true, is_named_plainly}
use Rattle.law_local_module.specs.Laws.{module_heads}
use Rattle.law_typing_env.specs.Views.{IsEarly}
use Rattle.law_local_methods.specs.Laws.{with_own, IsOwned}
use Rattle.law_local_module.proofs.Bound.{IsJudged}
use Rattle.law_typing_forms.specs.Said.{IsOneOf}
use Rattle.law_methods_introduced.proofs.Binding.{HasRecord}

-- what was known of the types where the procedure of this heading was bound: the method had this receiver and this signature, which match
pub record Matches (u : Around) (last : List TypedType) (h : Head) (b : BoundAs) (q : QName) (m : Method) : Type 0 where
  pub own : List TypedType
  pub early : AllByRecursion (IsEarly last) own
  pub found : member (with_own u own) b.owner h.name ≡ Some (AMethod q m)
  pub kind : same_kind m.receiver b.receiver ≡ true
  pub match : signatures_match (with_own u own) (Some m.signature) (signature_if h.parameters) ≡ true

-- A procedure matches the method that another record introduces, once all is bound and nothing is broken.
abbrev pub BindingsMatch : Type 0
BindingsMatch =
    (u : Around) (hs : List Head) → AllByRecursion (λ (h : Head). IsOwned u.unit h.bound) (counted hs) → AllByRecursion IsJudged (counted hs) → (bindings u hs).notes.broken ≡ [] →
    (h : Head) (b : BoundAs) → IsOneOf (counted hs) h → h.bound ≡ Some b → bytes_eq b.owner.«module» u.unit ≡ true → HasRecord u.own b.owner.object →
    (q : QName) (m : Method) → member (with_own u (bindings u hs).own) b.owner h.name ≡ Some (AMethod q m) → (q ≡ b.owner → ⊥) → Matches u (bindings u hs).own h b q m

-- headings of a module: each is bound to a record of the module, if to any; each that counts has its parameters; and nothing that they
-- bind is broken
pub record HeadingsAre (u : Around) (hs : List Head) : Type 0 where
  pub owned : AllByRecursion (λ (h : Head). IsOwned u.unit h.bound) (counted hs)
  pub judged : AllByRecursion IsJudged (counted hs)
  pub quiet : (bindings u hs).notes.broken ≡ []

-- So are those of a checked module, whose headings are named by identifiers, where what is shown has the bases of its pointers.
abbrev pub HeadingsAreJudged : Type 0
HeadingsAreJudged = (shown : QName → Option Desc) (tree : Tree) (m : TypedModule) → ShowBases shown tree.name.name → all_true (map is_named_plainly tree.decls) ≡ true → checked shown tree ≡ Some m → HeadingsAre (module_heads shown tree).around (reversed (module_heads shown tree).before)
