-- Valid builds.
use Rattle.std.proofs.Common.{◌≡◌, ◌≢◌, ℕ, Bool, true, false, cond, codes, List, [], ◌∷◌, map as each, Option, Some, None, refl, sym, ap, subst, ◌∙◌}
use Rattle.std.specs.Prelude.{Contains, bytes_eq}
use Rattle.std.specs.List.{AllByRecursion}
use Rattle.ob_tree.specs.declared.names.QName.{QName}
use Rattle.ob_tree.specs.declared.decl.Module.{Module as Tree}
use Rattle.ob_types.specs.declared.desc.Desc.{Desc}
use Rattle.ob_types.specs.declared.typed.TypedType.{TypedType}
use Rattle.ob_types.specs.declared.typed.TypedModule.{TypedModule}
use Rattle.ob_types.specs.TypedSyntax.{Module}
use Rattle.ob_types.specs.TypedView.{module_view}
use Rattle.ob_layout.specs.LaidOut.{laid_type}
use Rattle.ob_format.specs.Format.{◌>>=◌}
use Rattle.ob_env.specs.Faces.{Face, object_named, face_named, described}
use Rattle.ob_rules.specs.Names.{out_string}
use Rattle.law_simulation_relation.proofs.Names.{bytes_true}
use Rattle.ob_compile_model.specs.Compiling.{Compiled}
use Rattle.law_names_distinct.specs.Distinct.{AreDistinct}
use Rattle.law_builds_written.specs.Laws.{Text, IsCheckedOver, laid}
use Rattle.law_builds_written.proofs.Views.{views_are_grounded, views_are_short}
use Rattle.ob_builds.specs.Builds.{Build, IsValid, of}
use Rattle.law_builds.proofs.Members.{has_right, has_head}
use Rattle.law_builds.proofs.Faces.{of_is}
use Rattle.law_program_names.proofs.Coming.{ComesFrom}
use Rattle.law_program_names.proofs.Different.{build_comes}
use Rattle.law_program_names.proofs.Grounded.{against_is_grounded}
use Rattle.law_local.proofs.Compiled.{comes_of, apart_of}
use Rattle.law_builds_written.specs.grounds_laws.Laws.{IsGroundedBuild, BuildsAreGrounded}

module _ (types : QName → Option Desc) (m : Module) where
  unlaid_fresh : (x : List ℕ) (ts : List TypedType) → AllByRecursion (λ (y : TypedType). y.name ≢ x) (each (laid_type types m) ts) → AllByRecursion (λ (y : TypedType). y.name ≢ x) ts
  unlaid_fresh x [] h = tt
  unlaid_fresh x (t ∷ ts) h = (h.0, unlaid_fresh x ts h.1)

  -- the layout leaves the names
  unlaid : (ts : List TypedType) → AreDistinct (λ (t : TypedType). t.name) (each (laid_type types m) ts) → AreDistinct (λ (t : TypedType). t.name) ts
  unlaid [] h = tt
  unlaid (t ∷ ts) h = (unlaid_fresh t.name ts h.0, unlaid ts h.1)

no_face : (fs : List (Face Text)) (x : List ℕ) → (Contains (each (λ (f : Face Text). f.«module») fs) x → ⊥) → face_named fs x ≡ None
no_face [] x h = refl
no_face (f ∷ fs) x h = by (bytes_eq x f.«module») refl (no_face fs x (λ k. h (has_right (f.«module» ∷ []) (each (λ (f : Face Text). f.«module») fs) x k)))
  where
    by : (b : Bool) → bytes_eq x f.«module» ≡ b → face_named fs x ≡ None → cond b (Some f) (face_named fs x) ≡ None
    by true e r = absurd (h (subst (Contains (each (λ (f : Face Text). f.«module») (f ∷ fs))) (sym (bytes_true x f.«module» e)) (has_head f.«module» (each (λ (f : Face Text). f.«module») fs))))
    by false e r = r

-- a valid build is of a module that keeps the rules over its interfaces
pub build_over : (b : Build) (c : Compiled Text) → IsValid b c → AreDistinct (λ (t : TypedType). t.name) c.tree.types → (k : ComesFrom b.source c) → IsCheckedOver c.against k.tree k.module_is
build_over b c v names k =
    let a = apart_of c k.tree (comes_of b c k.tree v k.read) in
    let is : c.tree ≡ laid c.against k.module_is = ap (λ (x : Compiled Text). x.tree) k.is in
    record {
      is = k.checked_is;
      shallow = k.shallow;
      grounded = against_is_grounded b c v;
      others = a.others;
      out = ap (λ o. o >>= λ f. object_named f.objects out_string.object) (no_face c.against (codes "Out") a.out);
      imports = a.imports;
      names = unlaid (described c.against) (module_view k.module_is) k.module_is.types (subst (λ (m : Module). AreDistinct (λ (t : TypedType). t.name) m.types) is names);
    }

-- what it comes from
pub build_from : (b : Build) (c : Compiled Text) → IsValid b c → ComesFrom b.source c
build_from b c v = subst (ComesFrom b.source) (of_is b c v) (build_comes b c v)

pub builds_are_grounded : BuildsAreGrounded
builds_are_grounded b c v names =
    let k = build_from b c v in
    let is : c.tree ≡ laid c.against k.module_is = ap (λ (x : Compiled Text). x.tree) k.is in
    let over = build_over b c v names k in
    subst (λ (m : Module). IsGroundedBuild (record c { tree = m })) (sym is) (record { grounded = views_are_grounded c.against k.tree k.module_is over; short = views_are_short c.against k.tree k.module_is over })

-- a build comes from a module that keeps the rules and the limit of depth against its interfaces
pub record ComesChecked (b : Build) (c : Compiled Text) : Type 0 where
  pub from : ComesFrom b.source c
  pub over : IsCheckedOver c.against from.tree from.module_is

pub builds_are_checked : (b : Build) (c : Compiled Text) → IsValid b c → AreDistinct (λ (t : TypedType). t.name) c.tree.types → ComesChecked b c
builds_are_checked b c v names = record { from = build_from b c v; over = build_over b c v names (build_from b c v) }
