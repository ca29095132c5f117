-- Programs of builds that are loaded together: their types are sound, and their variables can have first values.
use Rattle.std.proofs.Common.{◌≡◌, List, [], ◌∷◌, ◌++◌, Some, subst, inl, inr}
use Rattle.std.specs.Prelude.{Bool, true, false, bytes_eq, if◌then◌else◌}
use Rattle.std.specs.List.{AllByRecursion}
use Rattle.ob_tree.specs.declared.names.QName.{QName}
use Rattle.ob_types.specs.declared.desc.Desc.{Desc}
use Rattle.ob_types.specs.declared.desc.Desc.TheVariants as desc
use Rattle.ob_types.specs.TypedSyntax.{Module}
use Rattle.ob_meaning.specs.Values.{type_named, description}
use Rattle.law_typing_forms.proofs.Modules.{of_all}
use Rattle.law_typing_env.proofs.Sounds.{sound_in_order}
use Rattle.law_typing_env.proofs.Views.{type_found}
use Rattle.ob_builds.specs.Builds.{Build, tree_of}
use Rattle.ob_builds.specs.Afresh.{AreTogether}
use Rattle.law_builds.proofs.Members.{In, to_in}
use Rattle.law_program_runs.specs.Builds.{program_of}
use Rattle.law_program_names.proofs.Fields.{fields_have_names, nothing_of_out}
use Rattle.law_builds_ruled.specs.ruled_laws.Ruled.{HasLength, BuildsAreRuled}
use Rattle.law_builds_loaded.specs.Loaded.{LoadedAreSound, LoadedVariables, LoadedDescribe}
use Rattle.law_builds_loaded.proofs.Sound.{variables_have_forms, ordered_describe}
use Rattle.law_builds_loaded.proofs.Loaded.{valid_of, in_order, kept_in}
use Rattle.ob_builds.specs.Written.{BuildsAreWritten}

module _ (written : BuildsAreWritten) (ruled : BuildsAreRuled) where
  -- arrays have lengths
  lengths : (before bs : List Build) → AreTogether before bs → (q : QName) (d : Desc) → description (program_of bs) q ≡ Some d → HasLength d
  lengths before [] h q d e = absurd cc
  lengths before (b ∷ bs) h q d e = by (bytes_eq q.«module» (tree_of b).name) e (λ e. lengths (before ++ b ∷ []) bs h.1 q d e)
    where
      by : (x : Bool) → (if x then type_named (tree_of b).types q.object else description (program_of bs) q) ≡ Some d → (description (program_of bs) q ≡ Some d → HasLength d) → HasLength d
      by true e r =
          let f = type_found (tree_of b).types q.object d e in
          subst HasLength f.desc (of_all (λ t. HasLength t.desc) (tree_of b).types f.t (ruled b _ (valid_of written ruled b h.0.valid.0 h.0.valid.1)).lengths f.there)
      by false e r = r e

-- one of the modules
one_of : (P : Module → Type 0) (bs : List Build) (b : Build) → In bs b → AllByRecursion P (program_of bs) → P (tree_of b)
one_of P [] b i h = absurd i
one_of P (x ∷ bs) b (inl e) h = subst (λ y. P (tree_of y)) e h.0
one_of P (x ∷ bs) b (inr i) h = one_of P bs b i h.1

pub loaded_are_sound : LoadedAreSound
loaded_are_sound written ruled bound bs l =
    sound_in_order (program_of bs) (in_order written ruled bs l.together)
    (λ q m n t e. lengths written ruled [] bs l.together q (desc.Array m n t) e)
    (fields_have_names bs l)
    (bound bs l)
    (nothing_of_out bs l)

pub loaded_variables : LoadedVariables
loaded_variables written ruled bound bs l b i =
    let k = kept_in written ruled bs l.together in
    variables_have_forms (program_of bs) (loaded_are_sound written ruled bound bs l) (tree_of b) (one_of _ bs b (to_in bs b i) k.held) (one_of _ bs b (to_in bs b i) k.closed)

pub loaded_describe : LoadedDescribe
loaded_describe written ruled bound whole laid bs l = ordered_describe (program_of bs) (loaded_are_sound written ruled bound bs l) (whole bs l) (laid bs l)
