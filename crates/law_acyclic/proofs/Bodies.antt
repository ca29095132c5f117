-- The maps around the bodies of a checked module are grounded, or steady.
use Rattle.std.proofs.Common.{◌≡◌, inl, sym, subst, ℕ, true, false, List, map, Option, Some}
use Rattle.ob_tree.specs.declared.names.QName.{QName}
use Rattle.ob_tree.specs.declared.stmt.Stmt.{Stmt}
use Rattle.ob_tree.specs.declared.decl.Decl.{Decl}
use Rattle.ob_tree.specs.declared.decl.Module.{Module as Tree}
use Rattle.ob_types.specs.declared.desc.Desc.{Desc}
use Rattle.ob_types.specs.declared.typed.TypedType.{TypedType}
use Rattle.ob_types.specs.declared.typed.TypedModule.{TypedModule}
use Rattle.ob_types.specs.declared.types.TypeRef.{TypeRef}
use Rattle.ob_types.specs.Maps.{IsHeld, IsWithin}
use Rattle.ob_rules.specs.Names.{Around}
use Rattle.ob_rules.specs.Statements.{judging}
use Rattle.ob_rules.specs.Declarations.{declaration, module_part, typed_module, deep_of, imports_declared, around_module, checked}
use Rattle.law_typing_forms.specs.Said.{IsOneOf}
use Rattle.law_typing.specs.Known.{ConstantIs}
use Rattle.law_names_procedures.specs.Procedures.{is_named_plainly}
use Rattle.law_names_procedures.specs.Procedures as said
use Rattle.law_body_context.specs.Spelled.{tree_spelled}
use Rattle.law_body_context.specs.Judged.{BodiesAreJudged}
use Rattle.law_body_context.specs.Around.{IsAround}
use Rattle.law_body_context.specs.Laws.{ConstantsAre}
use Rattle.law_body_context.proofs.Around.{HandsOn, around_more}
use Rattle.law_body_context.proofs.Modules.{bodies_hold}
use Rattle.law_acyclic.specs.Laws.{types_of}
use Rattle.law_acyclic.specs.Steady.{IsEnding, HasSteadyMap, BodiesAreSteady}
use Rattle.law_acyclic.specs.Bodies.{HasGroundedMap, BodiesAreGrounded}
use Rattle.law_acyclic.proofs.Stand.{bases_shown}
use Rattle.law_acyclic.proofs.Blocks.{Start, block_starts}
use Rattle.law_acyclic.proofs.Modules.{Made, made_named, decls_good, start}
use Rattle.law_acyclic.proofs.Known.{IsMade, made_of, one}
use Rattle.law_acyclic.proofs.Around.{around_steady}
use Rattle.law_acyclic.proofs.Grounded.{grounded_closed, around_grounded}

module _ (shown : QName → Option Desc) (tree : Tree) (made : IsMade shown tree) where
  abbrev unit : List ℕ
  unit = tree.name.name

  abbrev F : List TypedType
  F = (module_part shown tree).contents.types

  abbrev In : TypedType → Type 0
  In s = Made shown tree made.kept made.apart made.out made.imports made.unbroken (one shown tree made) s

  -- what is known there is made by the module, and whole
  abbrev pub Begins : Around → Type 0
  Begins u = Start shown unit made.kept made.apart made.out In F (λ s i. inl i) (made_named shown tree made.kept made.apart made.out made.imports made.unbroken (one shown tree made)) (one shown tree made) u

  pub begins : Begins (imports_declared tree.imports (around_module shown unit (map declaration tree.decls))).around
  begins = start shown tree made.kept made.apart made.out made.imports made.unbroken (one shown tree made) In (λ s i. inl i) (made_named shown tree made.kept made.apart made.out made.imports made.unbroken (one shown tree made))

  pub hands : (ds : List Decl) (xs : List Stmt) → HandsOn Begins (module_part shown tree).contents (map declaration ds) (map judging xs)
  hands ds xs u a n l b =
      let among : (s : TypedType) → IsOneOf F s → In s = λ s i. inl i in
      let named = made_named shown tree made.kept made.apart made.out made.imports made.unbroken (one shown tree made) in
      let all = one shown tree made in
      block_starts shown unit made.kept made.apart made.out In F among named all (map declaration ds) (decls_good shown unit made.kept made.apart made.out In F among named all ds) (map judging xs) u a n l b

  pub grounds : ((t : TypeRef) → IsHeld shown t → IsWithin shown 201 t) → deep_of shown tree.name (map declaration tree.decls) (module_part shown tree) ≡ false → (u : Around) → Begins u → HasGroundedMap u
  grounds chains deep u h = around_grounded shown tree made chains deep u h.knows.unit_is h.knows.shown_is h.whole h.within

  abbrev T : TypedModule
  T = typed_module shown tree.name tree.imports (map declaration tree.decls) (module_part shown tree)

  pub steadies : IsEnding (types_of shown tree T) → (u : Around) → Begins u → HasSteadyMap u
  steadies h u b = around_steady shown tree made h.lines u b.knows.unit_is b.knows.shown_is b.whole b.within h.ends

  pub bodies_judged : (m : TypedModule) → checked shown tree ≡ Some m → tree_spelled tree ≡ true → said.all_true (map is_named_plainly tree.decls) ≡ true → ConstantsAre unit shown → (j : BodiesAreJudged ConstantIs shown m) × IsAround Begins ConstantIs shown m j
  bodies_judged m is spelled plain constants =
      bodies_hold ConstantIs (λ b. tt) shown tree Begins hands begins m is (λ out x e u h. (constants u h x e).node) spelled (bases_shown shown unit made.kept made.apart.own) plain made.imports

pub bodies_are_grounded : BodiesAreGrounded
bodies_are_grounded shown tree m c spelled plain constants =
    let k = (made_of shown tree m c.is (grounded_closed shown c.grounded) c.apart c.imports c.names).0 in
    let r = bodies_judged shown tree k m c.is spelled plain constants in
    record { judged = r.0; grounded = around_more (Begins shown tree k) HasGroundedMap (grounds shown tree k c.grounded.chains c.shallow) ConstantIs shown m r.0 r.1 }

pub bodies_are_steady : BodiesAreSteady
bodies_are_steady shown tree m c ending spelled plain constants =
    let k = made_of shown tree m c.is c.closed c.apart c.imports c.names in
    let ends = subst (λ (x : TypedModule). IsEnding (types_of shown tree x)) (sym k.1) ending in
    let r = bodies_judged shown tree k.0 m c.is spelled plain constants in
    record { judged = r.0; steady = around_more (Begins shown tree k.0) HasSteadyMap (steadies shown tree k.0 ends) ConstantIs shown m r.0 r.1 }
