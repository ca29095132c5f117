-- The map of the types of a checked module is grounded, or steady.
use Rattle.std.proofs.Common.{◌≡◌, refl, subst, ℕ, true, false, List, [], map, Option, Some}
use Rattle.std.specs.List.{AllByRecursion}
use Rattle.ob_tree.specs.declared.names.QName.{QName}
use Rattle.ob_tree.specs.declared.decl.Module.{Module as Tree}
use Rattle.ob_types.specs.declared.types.TypeRef.{TypeRef}
use Rattle.ob_types.specs.declared.types.TypeRef.TheVariants as ref
use Rattle.ob_types.specs.declared.desc.Desc.{Desc}
use Rattle.ob_types.specs.declared.typed.TypedType.{TypedType}
use Rattle.ob_types.specs.declared.typed.TypedModule.{TypedModule}
use Rattle.ob_types.specs.Maps.{named_by, IsHeld, IsWithin}
use Rattle.ob_types.specs.Relations.{IsGrounded}
use Rattle.ob_rules.specs.Shapes.{Map, same_name}
use Rattle.ob_rules.specs.Names.{Around, map_of, out_string}
use Rattle.ob_rules.specs.Depth.{is_within}
use Rattle.ob_rules.specs.Declarations.{declaration, module_part, deep_of}
use Rattle.law_typing_forms.specs.Said.{IsOneOf}
use Rattle.law_names_distinct.proofs.Short.{chains_are_short}
use Rattle.law_body_context.proofs.Lists.{all_of}
use Rattle.law_typing_forms.specs.Steady.{without_members}
use Rattle.law_typing_forms.proofs.Steady.{bare_within}
use Rattle.law_acyclic.specs.Laws.{types_of, IsNotOut, AreGrounded, ModulesAreGrounded}
use Rattle.law_acyclic.specs.Steady.{IsClosed, TypesAreHeld}
use Rattle.law_acyclic.proofs.Firm.{S, WholeAt}
use Rattle.law_acyclic.proofs.Maps.{closed_at, held, chains as chains_in, names_are_held}
use Rattle.law_acyclic.proofs.Known as known
use Rattle.law_acyclic.proofs.Known.{IsMade, made_of, closed, are_described}
use Rattle.law_acyclic.proofs.Kept.{keeps}
use Rattle.law_acyclic.proofs.Around.{held_around, keeps_around, chain_around}

module _ (shown : QName → Option Desc) (tree : Tree) (made : IsMade shown tree) where
  abbrev unit : List ℕ
  unit = tree.name.name

  abbrev Y : List TypedType
  Y = known.Y shown tree made

  abbrev w0 : Around
  w0 = known.w0 shown tree made

  abbrev M : Map
  M = map_of w0

  abbrev In : TypedType → Type 0
  In s = known.In shown tree made s

  abbrev T : TypeRef → Type 0
  T t = S unit shown Y t

  pub map_held : (q : QName) (d : Desc) → M q ≡ Some d → AllByRecursion (λ t. IsHeld M t) (named_by d)
  map_held = held shown unit made.kept made.apart made.out w0 refl refl (are_described shown tree made) (closed shown tree made)

  not_out_of : (t : TypeRef) → T t → IsNotOut t
  not_out_of (ref.Basic b) h = tt
  not_out_of (ref.Named q) h = h.0

  pub names_others : (q : QName) (d : Desc) → same_name q out_string ≡ false → M q ≡ Some d → AllByRecursion IsNotOut (named_by d)
  names_others q d o f = all_of T IsNotOut (named_by d) not_out_of (closed_at shown unit made.kept made.apart made.out w0 refl refl (are_described shown tree made) (closed shown tree made) q o d f)

  -- where the depth is limited
  module _ (chains : (t : TypeRef) → IsHeld shown t → IsWithin shown 201 t) (deep : deep_of shown tree.name (map declaration tree.decls) (module_part shown tree) ≡ false) where
    pub short : AllByRecursion (λ (s : TypedType). is_within M 200 (ref.Named (record { «module» = w0.unit; object = s.name })) ≡ true) Y
    short = chains_are_short w0 (names_are_held shown unit made.kept made.apart made.out w0 refl refl (are_described shown tree made) (closed shown tree made)) deep

    within_all : (t : TypeRef) → IsHeld M t → IsWithin M 201 t
    within_all t h = chains_in shown unit made.kept made.apart made.out w0 refl refl (are_described shown tree made) (closed shown tree made) chains short t h

    lines_all : (t : TypeRef) → IsHeld M t → IsWithin (without_members M) 201 t
    lines_all t h = bare_within M 201 t (within_all t h)

    pub map_grounded : IsGrounded M
    map_grounded = record { held = map_held; chains = within_all; keeps = keeps shown tree made lines_all }

    -- THE MAP AROUND WHAT IS KNOWN IS GROUNDED
    pub around_grounded : (w : Around) (unit_is : w.unit ≡ unit) (shown_is : w.shown ≡ shown) (whole : AllByRecursion (WholeAt unit shown In [] w.own) w.own) (within : (s : TypedType) → IsOneOf w.own s → In s) → IsGrounded (map_of w)
    around_grounded w unit_is shown_is whole within = record {
      held = held_around shown tree made lines_all w unit_is shown_is whole within;
      chains = chain_around shown tree made lines_all w unit_is shown_is whole within 200 within_all;
      keeps = keeps_around shown tree made lines_all w unit_is shown_is whole within;
    }

-- a grounded map is closed
pub grounded_closed : (shown : QName → Option Desc) → IsGrounded shown → IsClosed shown
grounded_closed shown g = record { held = g.held; keeps = g.keeps }

pub modules_are_grounded : ModulesAreGrounded
modules_are_grounded shown tree m c =
    let k = made_of shown tree m c.is (grounded_closed shown c.grounded) c.apart c.imports c.names in
    subst (AreGrounded shown tree) k.1 (record {
      grounded = map_grounded shown tree k.0 c.grounded.chains c.shallow;
      names = names_others shown tree k.0;
      short = short shown tree k.0 c.grounded.chains c.shallow;
    })

pub types_are_held : TypesAreHeld
types_are_held shown tree m c =
    let k = made_of shown tree m c.is c.closed c.apart c.imports c.names in
    subst (λ (m : TypedModule). (q : QName) (d : Desc) → types_of shown tree m q ≡ Some d → AllByRecursion (λ t. IsHeld (types_of shown tree m) t) (named_by d)) k.1 (map_held shown tree k.0)
