-- What is no open array where a module was compiled is none in the program.
use Rattle.std.proofs.Common.{◌≡◌, ⊎_elim, List, [], ◌∷◌, ◌++◌, Option, Some, None, refl, sym, ap, subst, ◌∙◌}
use Rattle.std.specs.Prelude.{Bool, true, false, ◌||◌, cond, MatchOption, IsTrue}
use Rattle.std.specs.List.{AllByRecursion}
use Rattle.ob_tree.specs.declared.names.QName.{QName}
use Rattle.ob_tree.specs.declared.ident.Mark.{Mark}
use Rattle.ob_types.specs.declared.types.TypeRef.{TypeRef}
use Rattle.ob_types.specs.declared.types.TypeRef.TheVariants as ref
use Rattle.ob_types.specs.declared.desc.Desc.{Desc}
use Rattle.ob_types.specs.declared.desc.Desc.TheVariants as desc
use Rattle.ob_types.specs.declared.typed.TypedVariable.{TypedVariable}
use Rattle.ob_types.specs.Maps.{is_type, named_by, IsHeld}
use Rattle.ob_types.specs.Relations.{StandsFor, itself, equated, Is, is_alias, is_open, IsGrounded}
use Rattle.ob_meaning.specs.Values.{Program, description}
use Rattle.ob_layout.specs.LaidOut.{type_named, is_own}
use Rattle.ob_env.specs.Faces.{described}
use Rattle.ob_uses.specs.Uses.{near_types}
use Rattle.law_typing_forms.proofs.Modules.{of_all}
use Rattle.law_typing_env.specs.Near.{core}
use Rattle.law_typing_env.specs.Near as declares
use Rattle.law_typing_env.specs.Ordered.{StandsOver}
use Rattle.law_typing_env.proofs.Keeping.{core_bare}
use Rattle.law_typing_env.proofs.Ordered.{has_more, sees, types_named}
use Rattle.law_typing_env.proofs.Views.{type_found}
use Rattle.ob_compile_model.specs.Compiling.{Compiled}
use Rattle.ob_builds.specs.Builds.{Text}
use Rattle.law_builds_ruled.specs.ruled_laws.Ruled.{types_of}
use Rattle.law_builds_loaded.proofs.Used.{near_named}

pub core_alias : (e : Desc) (m : Mark) (t : TypeRef) → core e ≡ desc.Alias m t → e ≡ desc.Alias m t
core_alias (desc.Const v) m t h = h
core_alias (desc.Var k u) m t h = h
core_alias (desc.Proc s) m t h = h
core_alias (desc.Alias k u) m t h = h
core_alias (desc.Array k n u) m t h = h
core_alias (desc.OpenArray k u) m t h = h
core_alias (desc.Pointer k u) m t h = h
core_alias (desc.ProcType k s) m t h = h
core_alias (desc.Record r) m t h = absurd cc

core_open : (d : Desc) → is_open (core d) ≡ is_open d
core_open (desc.Const v) = refl
core_open (desc.Var k u) = refl
core_open (desc.Proc s) = refl
core_open (desc.Alias k u) = refl
core_open (desc.Array k n u) = refl
core_open (desc.OpenArray k u) = refl
core_open (desc.Pointer k u) = refl
core_open (desc.ProcType k s) = refl
core_open (desc.Record r) = refl

open_own : (d : Desc) → is_open d ≡ true → is_alias d ≡ false
open_own (desc.Const v) e = refl
open_own (desc.Var k u) e = refl
open_own (desc.Proc s) e = refl
open_own (desc.Alias k u) e = absurd cc
open_own (desc.Array k n u) e = refl
open_own (desc.OpenArray k u) e = refl
open_own (desc.Pointer k u) e = refl
open_own (desc.ProcType k s) e = refl
open_own (desc.Record r) e = refl

same_some : (d e : Desc) → Some d ≡ Some e → d ≡ e
same_some d e h = cc

module _ (c : Compiled Text) (before : Program) (over : StandsOver before c.tree) (near : QName → Bool) (used : declares.AreUsed before c.tree (described c.against) near) (grounded : IsGrounded (types_of c)) (types_are : AllByRecursion (λ t. is_type t.desc ≡ true) c.tree.types) where
  abbrev all : Program
  all = before ++ c.tree ∷ []

  -- a type that counts, where the module was compiled and in the program
  pub record Look (q : QName) : Type 0 where
    pub d : Desc
    pub e : Desc
    pub of : types_of c q ≡ Some d
    pub there : description all q ≡ Some e
    pub alike : core e ≡ core d
    pub parts : AllByRecursion (declares.IsNear c.tree near) (near_types d)

  pub look : (q : QName) → declares.IsNear c.tree near (ref.Named q) → IsHeld (types_of c) (ref.Named q) → Look q
  look q n h = by (is_own c.tree q) refl (types_of c q) refl h
    where
      by : (b : Bool) → is_own c.tree q ≡ b → (o : Option Desc) → types_of c q ≡ o → MatchOption o ⊥ (λ d. IsTrue (is_type d)) → Look q
      by b i None j k = absurd k
      by true i (Some d) j k =
          let own : type_named c.tree.types q.object ≡ Some d = sym (ap (λ (b : Bool). cond b (type_named c.tree.types q.object) (described c.against q)) i) ∙ j in
          let f = type_found c.tree.types q.object d (sym (types_named c.tree.types q.object) ∙ own) in
          let s = sees before c.tree over q d (ap (λ (b : Bool). cond b (type_named c.tree.types q.object) (over.others q)) i ∙ own) k in
          let named : AllByRecursion (declares.IsNear c.tree near) (named_by d) = subst (λ x. AllByRecursion (declares.IsNear c.tree near) (named_by x)) f.desc (of_all (λ t. AllByRecursion (declares.IsNear c.tree near) (named_by t.desc)) c.tree.types f.t used.own f.there) in
          record {
            d = d;
            e = s.e;
            of = j;
            there = s.there;
            alike = ⊎_elim (λ (x : s.e ≡ d). ap core x) (λ x. sym (core_bare s.e) ∙ ap core x.1 ∙ core_bare d) s.same;
            parts = near_named (declares.IsNear c.tree near) d k named;
          }
      by false i (Some d) j k =
          let u = used.others q i (ap (λ (b : Bool). b || near q) (sym i) ∙ n) in
          record {
            d = u.d;
            e = u.e;
            of = ap (λ (b : Bool). cond b (type_named c.tree.types q.object) (described c.against q)) i ∙ u.of;
            there = has_more before c.tree over q u.e u.has;
            alike = u.alike;
            parts = u.parts;
          }

  open_there : (t : TypeRef) (p : QName) (e : Desc) → StandsFor (description all) t (ref.Named p) → description all p ≡ Some e → is_open e ≡ true → declares.IsNear c.tree near t → IsHeld (types_of c) t → Is (types_of c) is_open t
  open_there _ p e (itself own) f o n h =
      let l = look p n h in
      let same : l.e ≡ e = same_some l.e e (sym l.there ∙ f) in
      let k : is_open l.d ≡ true = sym (core_open l.d) ∙ ap is_open (sym l.alike) ∙ core_open l.e ∙ ap is_open same ∙ o in
      (p, (itself (subst (λ o. MatchOption o (Unit {0}) (λ d. is_alias d ≡ false)) (sym l.of) (open_own l.d k)), subst (λ o. MatchOption o ⊥ (λ d. IsTrue (is_open d))) (sym l.of) k))
  open_there _ p e (equated {q = q} {m = m} {t = t} g s) f o n h =
      let l = look q n h in
      let same : l.e ≡ desc.Alias m t = same_some l.e (desc.Alias m t) (sym l.there ∙ g) in
      let a : l.d ≡ desc.Alias m t = core_alias l.d m t (sym l.alike ∙ ap core same) in
      let near_t = subst (λ x. AllByRecursion (declares.IsNear c.tree near) (near_types x)) a l.parts in
      let held_t = subst (λ x. AllByRecursion (λ t. IsHeld (types_of c) t) (named_by x)) a (grounded.held q l.d l.of) in
      let r = open_there t p e s f o near_t.0 held_t.0 in
      (r.0, (equated (l.of ∙ ap (λ x. Some x) a) r.1.0, r.1.1))

  closed_there : (t : TypeRef) → declares.IsNear c.tree near t → IsHeld (types_of c) t → (Is (types_of c) is_open t → ⊥) → Is (description all) is_open t → ⊥
  closed_there t n h never k = by (description all k.0) refl k.1.1
    where
      by : (o : Option Desc) → description all k.0 ≡ o → MatchOption o ⊥ (λ d. IsTrue (is_open d)) → ⊥
      by None i w = w
      by (Some e) i w = never (open_there t k.0 e k.1.0 i w n h)

  pub all_closed : (vs : List TypedVariable) → AllByRecursion (λ v. declares.IsNear c.tree near v.of) vs → AllByRecursion (λ v. IsHeld (types_of c) v.of) vs → AllByRecursion (λ v. Is (types_of c) is_open v.of → ⊥) vs → AllByRecursion (λ v. Is (description all) is_open v.of → ⊥) vs
  all_closed [] n h never = tt
  all_closed (v ∷ vs) n h never = (closed_there v.of n.0 h.0 never.0, all_closed vs n.1 h.1 never.1)
