-- Modules that compile, and those of builds that are loaded together, keep the limits.
use Rattle.std.proofs.Common.{◌≡◌, List, [], ◌∷◌, ◌++◌, Some, None, ap, ◌∙◌, subst, inl, inr}
use Rattle.std.specs.List.{AllByRecursion}
use Rattle.ob_meaning.specs.Values.{description}
use Rattle.ob_layout.specs.LaidOut.{viewed}
use Rattle.ob_env.specs.Faces.{described}
use Rattle.law_spelling.proofs.Limits.{IsWithin, within}
use Rattle.ob_compile_model.specs.Compiling.{Compiled, texts, exceeds}
use Rattle.ob_builds.specs.Builds.{Text, Build, IsValid, of}
use Rattle.law_builds.proofs.Compiled.{Comes, comes}
use Rattle.law_builds.proofs.Gone.{all_valid}
use Rattle.law_builds.proofs.Members.{In, to_in, has_left}
use Rattle.law_builds.proofs.Faces.{of_is}
use Rattle.law_program_runs.specs.Builds.{program_of}
use Rattle.law_builds_bodies.specs.limits_laws.Limits.{CompiledKeepLimits, LoadedKeepLimits}
use Rattle.law_builds_bodies.proofs.limits_laws.Procedures.{module_keeps}

pub compiled_keep : CompiledKeepLimits
compiled_keep c e types same =
    let w : IsWithin c = within c e in
    module_keeps (viewed (described c.against) c.tree) types c.tree same w.frames w.hidden w.operands

all_at : {A : Type 0} (P : A → Type 0) (xs : List A) (x : A) → In xs x → AllByRecursion P xs → P x
all_at P [] x i h = absurd i
all_at P (y ∷ ys) x (inl e) h = subst P e h.0
all_at P (y ∷ ys) x (inr i) h = all_at P ys x i h.1

-- a valid build exceeds no limit
within_limits : (b : Build) (c : Compiled Text) → IsValid b c → exceeds texts (of b) ≡ None
within_limits b c v =
    let h : Comes texts c = comes texts _ (Some b.source) c v.is in
    ap (exceeds texts) (of_is b c v) ∙ h.limits

pub loaded_keep : LoadedKeepLimits
loaded_keep same bs more l b i =
    let v = all_at (λ x. (c : Compiled Text) × IsValid x c) (bs ++ more) b (to_in (bs ++ more) b (has_left bs more b i)) (all_valid (bs ++ more) l.together) in
    compiled_keep (of b) (within_limits b v.0 v.1) (description (program_of bs)) (same bs more l b i)
