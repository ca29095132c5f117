-- Variables and procedures that builds show keep in the program what their descriptions have to.
use Rattle.std.proofs.Common.{◌≡◌, ◌⊎◌, inl, inr, ℕ, Bool, true, false, List, [], ◌∷◌, ◌++◌, map as each, Option, Some, None, refl, sym, ap, subst, ◌∙◌, append_assoc}
use Rattle.std.specs.Prelude.{bytes_eq, cond, MatchOption, IfSome, IsTrue}
use Rattle.std.specs.List.{AllByRecursion}
use Rattle.ob_tree.specs.declared.names.QName.{QName}
use Rattle.ob_types.specs.declared.types.TypeRef.{TypeRef}
use Rattle.ob_types.specs.declared.types.TypeRef.TheVariants as ref
use Rattle.ob_types.specs.declared.desc.Desc.{Desc}
use Rattle.ob_types.specs.declared.desc.Desc.TheVariants as desc
use Rattle.ob_types.specs.Maps.{is_type, listed, named_by, IsHeld}
use Rattle.ob_types.specs.Relations.{StandsFor, itself, equated, Is, is_alias, is_open, is_structure, IsPlainResult, Keeps}
use Rattle.ob_types.specs.TypedSyntax.{Procedure}
use Rattle.ob_meaning.specs.Values.{Program, description}
use Rattle.ob_format.specs.Format.{◌>>=◌}
use Rattle.ob_desc.specs.Grammar.{is_shown, seen}
use Rattle.ob_env.specs.Faces.{Face, described, face_named, object_named}
use Rattle.ob_uses.specs.Uses.{near_types}
use Rattle.ob_uses_roots.specs.Counts.{own_name}
use Rattle.ob_uses.specs.Closed.{is_among}
use Rattle.ob_uses.specs.Objects.{formal_of, signature_of, is_exported, in_places, reached_types}
use Rattle.law_typing_forms.specs.Said.{IsOneOf}
use Rattle.law_typing_forms.proofs.Modules.{of_all}
use Rattle.law_typing_env.specs.Near.{core}
use Rattle.law_typing_env.specs.Near as declares
use Rattle.law_typing_env.proofs.Keeping.{structure_kind}
use Rattle.ob_builds.specs.Builds.{Text, Build, of, shows_of, tree_of, name_of}
use Rattle.ob_builds.specs.Afresh.{IsBehind, AreTogether}
use Rattle.ob_builds.specs.Written.{BuildsAreWritten}
use Rattle.law_program_runs.specs.Builds.{program_of}
use Rattle.law_builds_ruled.specs.ruled_laws.Ruled.{types_of, BuildsAreRuled}
use Rattle.law_builds_loaded.proofs.Closed as closed
use Rattle.law_builds_loaded.proofs.Shown.{Showing}
use Rattle.law_builds_loaded.proofs.Used.{IsInside}
use Rattle.law_builds_loaded.proofs.Loaded.{Before, valid_of, before_more, more_all, uses}
use Rattle.law_builds_types.specs.closed_laws.Closed.{IsHeadRuled, HeadsAreRuled}
use Rattle.law_builds_types.proofs.closed_laws.Lists.{all_by, one_back}
use Rattle.law_builds_types.proofs.closed_laws.Objects.{seen_type, objects_have}
use Rattle.law_lists.proofs.Lists.{all_back, each_last}

pub structure_own : (d : Desc) → is_structure d ≡ true → is_alias d ≡ false
structure_own (desc.Const v) e = refl
structure_own (desc.Var k u) e = refl
structure_own (desc.Proc s) e = refl
structure_own (desc.Alias k u) e = absurd cc
structure_own (desc.Array k n u) e = refl
structure_own (desc.OpenArray k u) e = refl
structure_own (desc.Pointer k u) e = refl
structure_own (desc.ProcType k s) e = refl
structure_own (desc.Record r) e = refl

same_some : (d e : Desc) → Some d ≡ Some e → d ≡ e
same_some d e h = cc

-- a type, or what keeps by the program what it has to
abbrev pub TypeOrKept : Program → Desc → Type 0
TypeOrKept program d = (is_type d ≡ true) ⊎ Keeps (description program) d

module _ (written : BuildsAreWritten) (ruled : BuildsAreRuled) (heads : HeadsAreRuled) where
  module _ (before rest : List Build) (b : Build) (k : Before before) (h : IsBehind before b) (together : AreTogether (before ++ b ∷ []) rest) (program : Program) (is : program_of ((before ++ b ∷ []) ++ rest) ≡ program) where
    abbrev V : QName → Option Desc
    V = types_of (of b)

    abbrev Near : TypeRef → Type 0
    Near t = declares.IsNear (tree_of b) (uses written ruled before b k h).near t

    -- what the program has of it and those before it
    stays : (q : QName) (d : Desc) → description (program_of before ++ tree_of b ∷ []) q ≡ Some d → description program q ≡ Some d
    stays q d e =
        subst (λ p. description p q ≡ Some d) is
        (more_all written ruled (before ++ b ∷ []) rest (before_more written ruled before b k h) together q d (subst (λ p. description p q ≡ Some d) (sym (each_last tree_of before b)) e))

    look : (q : QName) → Near (ref.Named q) → IsHeld V (ref.Named q) → closed.Look (of b) (program_of before) (uses written ruled before b k h).over (uses written ruled before b k h).near (uses written ruled before b k h).used (ruled b (of b) (valid_of written ruled b h.valid.0 h.valid.1)).grounded (uses written ruled before b k h).types q
    look q n v = closed.look (of b) (program_of before) (uses written ruled before b k h).over (uses written ruled before b k h).near (uses written ruled before b k h).used (ruled b (of b) (valid_of written ruled b h.valid.0 h.valid.1)).grounded (uses written ruled before b k h).types q n v

    -- an array or a record in the program is one where the module was compiled
    structure_there : (t : TypeRef) (p : QName) (e : Desc) → StandsFor (description program) t (ref.Named p) → description program p ≡ Some e → is_structure e ≡ true → Near t → IsHeld V t → Is V is_structure t
    structure_there _ p e (itself own) f o n v =
        let l = look p n v in
        let same : l.e ≡ e = same_some l.e e (sym (stays p l.e l.there) ∙ f) in
        let s : is_structure l.d ≡ true = sym (structure_kind l.d) ∙ ap is_structure (sym l.alike) ∙ structure_kind l.e ∙ ap is_structure same ∙ o in
        (p, (itself (subst (λ o. MatchOption o (Unit {0}) (λ d. is_alias d ≡ false)) (sym l.of) (structure_own l.d s)), subst (λ o. MatchOption o ⊥ (λ d. IsTrue (is_structure d))) (sym l.of) s))
    structure_there _ p e (equated {q = q} {m = m} {t = t} g s) f o n v =
        let l = look q n v in
        let same : l.e ≡ desc.Alias m t = same_some l.e (desc.Alias m t) (sym (stays q l.e l.there) ∙ g) in
        let a : l.d ≡ desc.Alias m t = closed.core_alias l.d m t (sym l.alike ∙ ap core same) in
        let near_t = subst (λ x. AllByRecursion Near (near_types x)) a l.parts in
        let held_t = subst (λ x. AllByRecursion (λ t. IsHeld V t) (named_by x)) a ((ruled b (of b) (valid_of written ruled b h.valid.0 h.valid.1)).grounded.held q l.d l.of) in
        let r = structure_there t p e s f o near_t.0 held_t.0 in
        (r.0, (equated {u = ref.Named r.0} (l.of ∙ ap (λ x. Some x) a) r.1.0, r.1.1))

    plain_there : (t : TypeRef) → (IsHeld V t → Near t) → IsHeld V t → (Is V is_structure t → ⊥) → Is (description program) is_structure t → ⊥
    plain_there t n v never i = by (description program i.0) refl i.1.1
      where
        by : (o : Option Desc) → description program i.0 ≡ o → MatchOption o ⊥ (λ d. IsTrue (is_structure d)) → ⊥
        by None e w = w
        by (Some e) f w = never (structure_there t i.0 e i.1.0 f w (n v) v)

    result_there : (o : Option TypeRef) → AllByRecursion (λ t. IsHeld V t → Near t) (listed o) → AllByRecursion (λ t. IsHeld V t) (listed o) → IfSome o (λ t. Is V is_structure t → ⊥) → IfSome o (λ t. Is (description program) is_structure t → ⊥)
    result_there None n v never = tt
    result_there (Some t) n v never = plain_there t n.0 v.0 never

    head_keeps : (p : Procedure) → IsOneOf (tree_of b).procedures p → IsPlainResult (description program) (signature_of p)
    head_keeps p i =
        let gives = (of_all (IsInside (λ t. IsHeld V t → Near t)) (tree_of b).procedures p (uses written ruled before b k h).inside i).1 in
        let head : IsHeadRuled V p = of_all (IsHeadRuled V) (tree_of b).procedures p (heads b (of b) (valid_of written ruled b h.valid.0 h.valid.1)) i in
        result_there p.result gives (all_back (λ t. IsHeld V t) (each (λ k. k.1) (each formal_of p.parameters)) (listed p.result) head.held) head.plain

    -- the objects of the build
    objects_keep : AllByRecursion (λ v. Is (description program) is_open v.of → ⊥) (tree_of b).variables → (x : List ℕ) (d : Desc) → object_named (shows_of b).objects x ≡ Some d → TypeOrKept program d
    objects_keep shut x d e =
        let showing : Showing b = of_all Showing (before ++ b ∷ []) b (before_more written ruled before b k h).showing (one_back before (b ∷ []) b (inl refl)) in
        objects_have (tree_of b) (TypeOrKept program) (λ c. inr tt)
        (all_by (λ v. is_shown v.mark ≡ true → TypeOrKept program (desc.Var v.mark v.of)) (tree_of b).variables (λ v i s. inr (of_all (λ v. Is (description program) is_open v.of → ⊥) (tree_of b).variables v shut i)))
        (all_by (λ p. is_exported p ≡ true → TypeOrKept program (desc.Proc (signature_of p))) (tree_of b).procedures (λ p i s. inr (head_keeps p i)))
        (all_by (λ t. is_among (reached_types (tree_of b)) (own_name (tree_of b) t) ≡ true → TypeOrKept program (seen (in_places t.desc))) (tree_of b).types (λ t i s. inl (seen_type t.desc ∙ of_all (λ t. is_type t.desc ≡ true) (tree_of b).types t (uses written ruled before b k h).types i)))
        x d (ap (λ os. object_named os x) (sym showing.objects) ∙ e)

  -- all of them
  pub all_keep : (before bs : List Build) → Before before → AreTogether before bs → (program : Program) → program_of (before ++ bs) ≡ program → AllByRecursion (λ m. AllByRecursion (λ v. Is (description program) is_open v.of → ⊥) m.variables) (program_of bs)
      → (q : QName) (d : Desc) → described (each shows_of bs) q ≡ Some d → TypeOrKept program d
  all_keep before [] k h program is shut q d e = absurd cc
  all_keep before (b ∷ bs) k h program is shut q d e =
      let same : program_of ((before ++ b ∷ []) ++ bs) ≡ program = ap program_of (append_assoc before (b ∷ []) bs) ∙ is in
      by (bytes_eq q.«module» (name_of b)) e (objects_keep before bs b k h.0 h.1 program same shut.0 q.object d) (all_keep (before ++ b ∷ []) bs (before_more written ruled before b k h.0) h.1 program same shut.1 q d)
    where
      by : (x : Bool) → (cond x (Some (shows_of b)) (face_named (each shows_of bs) q.«module») >>= λ (f : Face Text). object_named f.objects q.object) ≡ Some d → (object_named (shows_of b).objects q.object ≡ Some d → TypeOrKept program d) → (described (each shows_of bs) q ≡ Some d → TypeOrKept program d) → TypeOrKept program d
      by true i f g = f i
      by false i f g = g i
