-- Builds that are loaded together: the law.
use Rattle.std.proofs.Common.{◌≡◌, List, [], ◌∷◌, ◌++◌, map as each, Some, sym, ap, subst, ◌∙◌, inl, inr, append_assoc}
use Rattle.std.specs.List.{AllByRecursion}
use Rattle.ob_tree.specs.declared.names.QName.{QName}
use Rattle.ob_types.specs.declared.desc.Desc.{Desc}
use Rattle.ob_types.specs.declared.desc.Desc.TheVariants as desc
use Rattle.ob_meaning.specs.Values.{Program, description}
use Rattle.ob_layout.specs.LaidOut.{viewed}
use Rattle.ob_env.specs.Faces.{described}
use Rattle.law_typing_forms.specs.Said.{IsSound}
use Rattle.law_image_links.specs.Same.{ModuleSame}
use Rattle.law_program_names.proofs.Different.{build_comes}
use Rattle.law_local.proofs.Compiled.{comes_of}
use Rattle.ob_builds.specs.Builds.{Build, of, shows_of, tree_of}
use Rattle.ob_builds.specs.Afresh.{AreTogether, IsBehind}
use Rattle.ob_builds.specs.Written.{BuildsAreWritten}
use Rattle.law_builds.proofs.Members.{In, to_in}
use Rattle.law_program_runs.specs.Builds.{program_of}
use Rattle.law_program_runs.proofs.Settings.{loaded_front}
use Rattle.law_builds_ruled.specs.ruled_laws.Ruled.{BuildsAreRuled}
use Rattle.law_builds_loaded.proofs.Loaded.{Before, have_no_out, valid_of, uses, before_more, none}
use Rattle.law_builds_joint.specs.Named.{AreNamedApart}
use Rattle.law_builds_seen.proofs.Builds.{modules_see}
use Rattle.law_builds_joint.specs.Joint.{LoadedAreSame}
use Rattle.law_builds_joint.proofs.Shown.{FieldsDiffer}
use Rattle.law_builds_joint.proofs.Apart.{named_apart}
use Rattle.law_builds_joint.proofs.Builds.{has_at, none_of_out, own_found, same_by}
use Rattle.law_lists.proofs.Lists.{all_last, append_none, each_both}

-- the fields of the records of a sound program have different names
fields_sound : (program : Program) → IsSound program → (q : QName) (y : Desc) → description program q ≡ Some y → FieldsDiffer y
fields_sound program s q (desc.Record r) e = s.fields q r e
fields_sound program s q (desc.Const v) e = tt
fields_sound program s q (desc.Var m t) e = tt
fields_sound program s q (desc.Proc x) e = tt
fields_sound program s q (desc.Alias m t) e = tt
fields_sound program s q (desc.Array m n t) e = tt
fields_sound program s q (desc.OpenArray m t) e = tt
fields_sound program s q (desc.Pointer m t) e = tt
fields_sound program s q (desc.ProcType m x) e = tt

together_front : (before bs more : List Build) → AreTogether before (bs ++ more) → AreTogether before bs
together_front before [] more h = tt
together_front before (x ∷ bs) more h = (h.0, together_front (before ++ x ∷ []) bs more h.1)

module _ (written : BuildsAreWritten) (ruled : BuildsAreRuled) where
  before_all : (before bs : List Build) → Before before → AreTogether before bs → Before (before ++ bs)
  before_all before [] k h = subst Before (sym (append_none before)) k
  before_all before (b ∷ bs) k h = subst Before (append_assoc before (b ∷ []) bs) (before_all (before ++ b ∷ []) bs (before_more written ruled before b k h.0) h.1)

  abbrev Same : List Build → Build → Type 0
  Same bs b = ModuleSame (viewed (described (of b).against) (tree_of b)) (description (program_of bs)) (tree_of b)

  apart_here : (before : List Build) (b : Build) → IsBehind before b → AreNamedApart (tree_of b)
  apart_here before b h = let w = valid_of written ruled b h.valid.0 h.valid.1 in named_apart b (of b) w (ruled b (of b) w).names

  same_here : (before : List Build) (b : Build) (after : List Build) → Before before → Before (before ++ b ∷ after) → AllByRecursion (λ k. AreNamedApart (tree_of k)) before → IsBehind before b → IsSound (program_of (before ++ b ∷ after)) → Same (before ++ b ∷ after) b
  same_here before b after k whole n h sound =
      let w = valid_of written ruled b h.valid.0 h.valid.1 in
      let c = build_comes b h.valid.0 h.valid.1 in
      let u = uses written ruled before b k h in
      same_by b (of b) w (ruled b (of b) w).names c.tree (comes_of b (of b) c.tree w c.read)
      (each shows_of before) k.spelled (have_no_out (each shows_of before) k.out) h.uses
      (description (program_of (before ++ b ∷ after)))
      (λ q i. ap (λ p. description p q) (each_both tree_of before (b ∷ after)) ∙ own_found (program_of before) (tree_of b) (program_of after) u.over.name q i)
      (λ q x e. has_at before (b ∷ after) k.showing n q x (λ y f. fields_sound (program_of (before ++ b ∷ after)) sound q y f) e)
      (λ q e. none_of_out (before ++ b ∷ after) whole.showing whole.out q e)
      (modules_see b (of b) w)

  same_all : (before bs : List Build) → Before before → AllByRecursion (λ k. AreNamedApart (tree_of k)) before → AreTogether before bs → IsSound (program_of (before ++ bs)) → (b : Build) → In bs b → Same (before ++ bs) b
  same_all before [] k n h sound b i = absurd i
  same_all before (x ∷ bs) k n h sound b (inl e) = subst (λ (z : Build). Same (before ++ x ∷ bs) z) e (same_here before x bs k (before_all before (x ∷ bs) k h) n h.0 sound)
  same_all before (x ∷ bs) k n h sound b (inr i) =
      let e : (before ++ x ∷ []) ++ bs ≡ before ++ x ∷ bs = append_assoc before (x ∷ []) bs in
      subst (λ (xs : List Build). Same xs b) e
      (same_all (before ++ x ∷ []) bs (before_more written ruled before x k h.0) (all_last (λ y. AreNamedApart (tree_of y)) before x n (apart_here before x h.0)) h.1 (subst (λ xs. IsSound (program_of xs)) (sym e) sound) b i)

-- THE LAW
pub loaded_are_same : LoadedAreSame
loaded_are_same written ruled sound bs more l b i =
    same_all written ruled [] bs (none written ruled) tt (together_front [] bs more l.together) (sound bs (loaded_front bs more l)) b (to_in bs b i)
