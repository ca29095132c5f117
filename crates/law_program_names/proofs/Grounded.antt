-- The interfaces that a valid build was compiled against have a grounded map.
use Rattle.std.proofs.Common.{◌≡◌, ℕ, List, [], ◌∷◌, map as each, Option, None, refl, sym, ap, subst, ◌∙◌}
use Rattle.std.specs.Option.{option_map}
use Rattle.ob_tree.specs.declared.names.QName.{QName}
use Rattle.ob_tree.specs.declared.print.Print.{Print}
use Rattle.ob_types.specs.declared.desc.Desc.{Desc}
use Rattle.ob_types.specs.declared.face.Interface.{Interface}
use Rattle.ob_types.specs.Relations.{IsGrounded}
use Rattle.ob_env.specs.declared.fault.EnvFault.TheVariants as fault
use Rattle.ob_env.specs.Faces.{Face, described, printed, face_of, faces_of, interface_of}
use Rattle.ob_layout.specs.Lists.{or_else}
use Rattle.ob_env.specs.Stale.{first_among}
use Rattle.ob_env.specs.Fit.{misfit, steps_of, first_unfit}
use Rattle.ob_env.proofs.Grounded.{fit_grounded}
use Rattle.law_prints.proofs.Faces.{described_same, steps_same}
use Rattle.ob_compile_model.specs.Compiling.{Compiled}
use Rattle.ob_builds.specs.Builds.{Text, Build, IsValid, of}
use Rattle.law_builds.proofs.Faces.{of_is, face_back}
use Rattle.law_program_names.specs.Sizes.{AgainstIsGrounded}
use Rattle.law_program_names.proofs.Different.{build_comes}

-- the first object that does not fit, over a map
first_over : {K : Type 0} → (QName → Option Desc) → ℕ → List (Face K) → Option QName
first_over types steps fs = first_among (λ f. first_among (misfit types steps f.«module») f.objects) fs

over_printed : (types : QName → Option Desc) (steps : ℕ) (fs : List (Face Text)) → first_over types steps (each printed fs) ≡ first_over types steps fs
unfolding first_over
over_printed types steps [] = refl
over_printed types steps (f ∷ fs) = ap (or_else (first_among (misfit types steps f.«module») f.objects)) (over_printed types steps fs)

unfit_same : (fs : List (Face Text)) → first_unfit (each printed fs) ≡ first_unfit fs
unfolding first_over
unfit_same fs = ap (λ (types : QName → Option Desc). first_over types (steps_of (each printed fs)) (each printed fs)) (described_same fs) ∙ ap (λ (n : ℕ). first_over (described fs) n (each printed fs)) (steps_same fs) ∙ over_printed (described fs) (steps_of fs) fs

-- as interfaces in files
filed : List (Face Text) → List Interface
filed fs = each (λ f. interface_of (printed f)) fs

back : (fs : List (Face Text)) → faces_of (filed fs) ≡ each printed fs
unfolding filed
back [] = refl
back (f ∷ fs) = ap (λ g. g ∷ faces_of (filed fs)) (face_back (printed f)) ∙ ap (λ gs. printed f ∷ gs) (back fs)

fit_faces : (fs : List (Face Text)) → first_unfit fs ≡ None → IsGrounded (described fs)
fit_faces fs fit =
    let none : option_map fault.Unfit (first_unfit (faces_of (filed fs))) ≡ None = ap (λ gs. option_map fault.Unfit (first_unfit gs)) (back fs) ∙ ap (option_map fault.Unfit) (unfit_same fs ∙ fit) in
    subst (λ (types : QName → Option Desc). IsGrounded types) (ap described (back fs) ∙ described_same fs) (fit_grounded (filed fs) none)

pub against_is_grounded : AgainstIsGrounded
against_is_grounded b c v =
    let k = build_comes b c v in
    subst (λ (x : Compiled Text). IsGrounded (described x.against)) (of_is b c v) (fit_faces (of b).against k.fit)
