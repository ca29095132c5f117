-- Each type that an object names which builds show is one that they show too.
use Rattle.std.proofs.Common.{◌≡◌, ⊎_elim, inl, ℕ, Bool, true, false, List, [], ◌∷◌, ◌++◌, map as each, Option, Some, None, refl, sym, ap, subst, ◌∙◌}
use Rattle.std.specs.Prelude.{◌||◌, cond, MatchOption, IsTrue}
use Rattle.std.specs.List.{AllByRecursion}
use Rattle.ob_tree.specs.declared.names.QName.{QName}
use Rattle.ob_types.specs.declared.types.TypeRef.{TypeRef}
use Rattle.ob_types.specs.declared.types.TypeRef.TheVariants as ref
use Rattle.ob_types.specs.declared.desc.Desc.{Desc}
use Rattle.ob_types.specs.declared.desc.Desc.TheVariants as desc
use Rattle.ob_types.specs.declared.typed.TypedType.{TypedType}
use Rattle.ob_types.specs.declared.typed.TypedVariable.{TypedVariable}
use Rattle.ob_types.specs.Maps.{is_type, listed, signature_types, named_by, IsHeld}
use Rattle.ob_types.specs.TypedSyntax.{Procedure}
use Rattle.law_simulation_relation.proofs.Names.{bytes_same, bytes_true}
use Rattle.ob_desc.specs.Grammar.{is_shown, seen}
use Rattle.ob_layout.specs.LaidOut.{type_named, is_own}
use Rattle.ob_env.specs.Faces.{described, object_named}
use Rattle.ob_uses_roots.specs.Counts.{own_name}
use Rattle.ob_uses.specs.Closed.{is_among}
use Rattle.ob_uses.specs.Objects.{formal_of, signature_of, is_exported, in_places, reached_types, shown_types, objects_of}
use Rattle.ob_uses.proofs.Objecting.{full_name}
use Rattle.law_typing_forms.specs.Said.{IsOneOf}
use Rattle.law_typing_forms.proofs.Modules.{of_all}
use Rattle.law_typing_env.specs.Near.{core}
use Rattle.law_typing_env.specs.Near as declares
use Rattle.law_typing_env.proofs.Keeping.{core_bare}
use Rattle.law_typing_env.proofs.Views.{type_found}
use Rattle.ob_builds.specs.Builds.{Build, of, shows_of, tree_of}
use Rattle.ob_builds.specs.Afresh.{IsBehind}
use Rattle.ob_builds.specs.Written.{BuildsAreWritten}
use Rattle.law_builds_ruled.specs.ruled_laws.Ruled.{types_of, IsRuled, BuildsAreRuled}
use Rattle.law_builds_loaded.proofs.Shown.{Showing, found_type}
use Rattle.law_builds_loaded.proofs.Used.{IsInside}
use Rattle.law_builds_loaded.proofs.Loaded.{Before, valid_of, before_more, uses}
use Rattle.law_builds_types.specs.closed_laws.Closed.{IsHeadRuled, HeadsAreRuled}
use Rattle.law_builds_types.proofs.closed_laws.Lists.{all_by, one_back}
use Rattle.law_builds_types.proofs.closed_laws.Found.{more_shown, last_shown, shown_either}
use Rattle.law_builds_types.proofs.closed_laws.Reached.{IsIn, type_in, variable_in, head_in}
use Rattle.law_builds_types.proofs.closed_laws.Objects.{IsTypeIn, type_at, objects_have}
use Rattle.law_builds_types.proofs.closed_laws.Seen.{shown_less, seen_named}
use Rattle.law_lists.proofs.Lists.{all_both, all_each, all_from}

core_type : (d : Desc) → is_type (core d) ≡ is_type d
core_type (desc.Const v) = refl
core_type (desc.Var m t) = refl
core_type (desc.Proc s) = refl
core_type (desc.Alias m t) = refl
core_type (desc.Array m n t) = refl
core_type (desc.OpenArray m t) = refl
core_type (desc.Pointer m t) = refl
core_type (desc.ProcType m s) = refl
core_type (desc.Record r) = refl

same_some : (d e : Desc) → Some d ≡ Some e → d ≡ e
same_some d e h = cc

type_none : IsTypeIn None → ⊥
type_none h = h

-- what these builds show names what they show
abbrev pub AreHeld : List Build → Type 0
AreHeld bs = (q : QName) (d : Desc) → described (each shows_of bs) q ≡ Some d → AllByRecursion (λ t. IsHeld (described (each shows_of bs)) t) (named_by d)

-- what is shown is shown with one more behind
pub held_more : (bs : List Build) (b : Build) (t : TypeRef) → IsHeld (described (each shows_of bs)) t → IsHeld (described (each shows_of (bs ++ b ∷ []))) t
held_more bs b (ref.Basic x) h = tt
held_more bs b (ref.Named p) h = more_shown IsTypeIn type_none bs b p h

module _ (written : BuildsAreWritten) (ruled : BuildsAreRuled) (heads : HeadsAreRuled) (before : List Build) (b : Build) (k : Before before) (h : IsBehind before b) where
  abbrev V : QName → Option Desc
  V = types_of (of b)

  abbrev Near : TypeRef → Type 0
  Near t = declares.IsNear (tree_of b) (uses written ruled before b k h).near t

  abbrev Now : TypeRef → Type 0
  Now t = IsHeld (described (each shows_of (before ++ b ∷ []))) t

  -- the build shows its tree
  showing : Showing b
  showing = of_all Showing (before ++ b ∷ []) b (before_more written ruled before b k h).showing (one_back before (b ∷ []) b (inl refl))

  rules : IsRuled (of b)
  rules = ruled b (of b) (valid_of written ruled b h.valid.0 h.valid.1)

  -- a type of the module that is reached is among its objects
  own_there : (p : QName) → is_own (tree_of b) p ≡ true → IsHeld V (ref.Named p) → is_among (reached_types (tree_of b)) p ≡ true → Now (ref.Named p)
  own_there p own held there = by (type_named (tree_of b).types p.object) refl (subst (λ (t : Bool). MatchOption (cond t (type_named (tree_of b).types p.object) (described (of b).against p)) ⊥ (λ d. IsTrue (is_type d))) own held)
    where
      by : (o : Option Desc) → type_named (tree_of b).types p.object ≡ o → MatchOption o ⊥ (λ d. IsTrue (is_type d)) → Now (ref.Named p)
      by None e n = absurd n
      by (Some d) e n =
          let f = type_found (tree_of b).types p.object d e in
          let same : p ≡ own_name (tree_of b) f.t = full_name (tree_of b) p own ∙ ap (λ (x : List ℕ). let q : QName = record { «module» = (tree_of b).name; object = x } in q) (sym f.name) in
          let object = type_at (tree_of b) (uses written ruled before b k h).types f.t f.there (subst (λ (q : QName). is_among (reached_types (tree_of b)) q ≡ true) same there) in
          last_shown IsTypeIn type_none before b p h.new (bytes_true p.«module» (tree_of b).name own ∙ sym showing.name)
          (subst (λ os. IsTypeIn (object_named os p.object)) (sym showing.objects) (subst (λ (x : List ℕ). IsTypeIn (object_named (objects_of (tree_of b)) x)) f.name object))

  -- one of another module counts, and is shown before
  other_there : (p : QName) → is_own (tree_of b) p ≡ false → Near (ref.Named p) → Now (ref.Named p)
  other_there p own n =
      let near : (uses written ruled before b k h).near p ≡ true = sym (ap (λ (x : Bool). x || (uses written ruled before b k h).near p) own) ∙ n in
      let s = (uses written ruled before b k h).shown p own near in
      let u = (uses written ruled before b k h).used.others p own near in
      let same : s.e ≡ u.e = same_some s.e u.e (sym s.has ∙ u.has) in
      let alike : core s.x ≡ core u.d = sym (core_bare s.x) ∙ ap core (sym s.alike) ∙ core_bare s.e ∙ ap core same ∙ u.alike in
      let ty : is_type s.x ≡ true = sym (core_type s.x) ∙ ap is_type alike ∙ core_type u.d ∙ u.type in
      more_shown IsTypeIn type_none before b p (subst IsTypeIn (sym s.of) ty)

  there : (t : TypeRef) → (IsHeld V t → Near t) → IsHeld V t → IsIn (tree_of b) t → Now t
  there (ref.Basic x) n v i = tt
  there (ref.Named p) n v i = by (is_own (tree_of b) p) refl
    where
      by : (x : Bool) → is_own (tree_of b) p ≡ x → Now (ref.Named p)
      by true own = own_there p own v (i own)
      by false own = other_there p own (n v)

  all_there : (ts : List TypeRef) → AllByRecursion (λ t. IsHeld V t → Near t) ts → AllByRecursion (λ t. IsHeld V t) ts → AllByRecursion (IsIn (tree_of b)) ts → AllByRecursion Now ts
  all_there [] n v i = tt
  all_there (t ∷ ts) n v i = (there t n.0 v.0 i.0, all_there ts n.1 v.1 i.1)

  variable_there : (v : TypedVariable) → IsOneOf (tree_of b).variables v → is_shown v.mark ≡ true → AllByRecursion Now (named_by (desc.Var v.mark v.of))
  variable_there v i shown = (
    there v.of (λ held. of_all (λ v. Near v.of) (tree_of b).variables v (uses written ruled before b k h).variables i) (of_all (λ v. IsHeld V v.of) (tree_of b).variables v rules.variables i) (variable_in (tree_of b) v i shown),
    tt,
  )

  head_there : (p : Procedure) → IsOneOf (tree_of b).procedures p → is_exported p ≡ true → AllByRecursion Now (named_by (desc.Proc (signature_of p)))
  head_there p i shown =
      let N : TypeRef → Type 0 = λ t. IsHeld V t → Near t in
      let takes : AllByRecursion (λ x. N x.of) p.parameters = of_all (λ p. AllByRecursion (λ x. IsHeld V x.of → Near x.of) p.parameters) (tree_of b).procedures p (uses written ruled before b k h).passed i in
      let gives : AllByRecursion N (listed p.result) = (of_all (IsInside (λ t. IsHeld V t → Near t)) (tree_of b).procedures p (uses written ruled before b k h).inside i).1 in
      let head : IsHeadRuled V p = of_all (IsHeadRuled V) (tree_of b).procedures p (heads b (of b) (valid_of written ruled b h.valid.0 h.valid.1)) i in
      all_there (signature_types (signature_of p))
      (all_both N (each (λ k. k.1) (each formal_of p.parameters)) (listed p.result) (all_each (λ k. k.1) N (each formal_of p.parameters) (all_each formal_of (λ k. N k.1) p.parameters takes)) gives)
      head.held
      (head_in (tree_of b) p i shown)

  type_there : (t : TypedType) → IsOneOf (tree_of b).types t → is_among (reached_types (tree_of b)) (own_name (tree_of b) t) ≡ true → AllByRecursion Now (named_by (seen (in_places t.desc)))
  type_there t i reached =
      let found = found_type (tree_of b).types t showing.types i in
      let at : V (own_name (tree_of b) t) ≡ Some t.desc = ap (λ (x : Bool). cond x (type_named (tree_of b).types t.name) (described (of b).against (own_name (tree_of b) t))) (bytes_same (tree_of b).name) ∙ found in
      let ty : is_type t.desc ≡ true = of_all (λ t. is_type t.desc ≡ true) (tree_of b).types t (uses written ruled before b k h).types i in
      let held = shown_less (λ t. IsHeld V t) t.desc ty (rules.grounded.held (own_name (tree_of b) t) t.desc at) in
      let near = shown_less Near t.desc ty (of_all (λ t. AllByRecursion Near (named_by t.desc)) (tree_of b).types t (uses written ruled before b k h).used.own i) in
      seen_named Now t.desc ty
      (all_there (shown_types t.desc) (all_from Near (λ t. IsHeld V t → Near t) (λ t n v. n) (shown_types t.desc) near) held (type_in (tree_of b) (own_name (tree_of b) t) t.desc found reached))

  -- so with one more build
  pub held_next : AreHeld before → AreHeld (before ++ b ∷ [])
  held_next all q d e = ⊎_elim
      (λ i. all_from (λ t. IsHeld (described (each shows_of before)) t) Now (held_more before b) (named_by d) (all q d i))
      (λ i. objects_have (tree_of b) (λ d. AllByRecursion Now (named_by d)) (λ c. tt) (all_by _ (tree_of b).variables variable_there) (all_by _ (tree_of b).procedures head_there) (all_by _ (tree_of b).types type_there) q.object d (ap (λ os. object_named os q.object) (sym showing.objects) ∙ i))
      (shown_either before b q d e)
