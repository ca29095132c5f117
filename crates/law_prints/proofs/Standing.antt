-- What interfaces come to is the same by prints.
use Rattle.std.proofs.Common.{◌≡◌, ℕ, List, [], ◌∷◌, Option, Some, None, refl, ap, ◌∙◌}
use Rattle.std.specs.Prelude.{map as each, bytes_eq}
use Rattle.std.specs.Option.{option_map}
use Rattle.ob_tree.specs.declared.names.QName.{QName}
use Rattle.ob_tree.specs.declared.print.Print.{Print}
use Rattle.ob_types.specs.declared.desc.Desc.{Desc}
use Rattle.ob_layout.specs.Lists.{or_else}
use Rattle.ob_env.specs.Faces.{Face, described, text_in, print_in, printed}
use Rattle.ob_env.specs.Stale.{prints_agree, StaleUse, first_among, first_stale}
use Rattle.ob_env.specs.Fit.{misfit, steps_of, first_unfit}
use Rattle.ob_env.specs.Answer.{if_fit, if_coherent, standing}
use Rattle.law_prints.specs.Printed.{Text, stale_printed, standing_printed}
use Rattle.law_prints.specs.Alike.{AreCompared, AreToldApart}
use Rattle.law_prints.proofs.Faces.{described_same, steps_same}
use Rattle.law_prints.proofs.Stale.{stale_is}

-- the first object that does not fit, over a map
first_over : {K : Type 0} → (QName → Option Desc) → ℕ → List (Face K) → Option QName
first_over map steps fs = first_among (λ f. first_among (misfit map steps f.«module») f.objects) fs

over_printed : (map : QName → Option Desc) (steps : ℕ) (fs : List (Face Text)) → first_over map steps (each printed fs) ≡ first_over map steps fs
unfolding first_over
over_printed map steps [] = refl
over_printed map steps (f ∷ fs) = ap (or_else (first_among (misfit map steps f.«module») f.objects)) (over_printed map steps fs)

unfit_same : (fs : List (Face Text)) → first_unfit (each printed fs) ≡ first_unfit fs
unfolding first_over
unfit_same fs = ap (λ (map : QName → Option Desc). first_over map (steps_of (each printed fs)) (each printed fs)) (described_same fs) ∙ ap (λ (n : ℕ). first_over (described fs) n (each printed fs)) (steps_same fs) ∙ over_printed (described fs) (steps_of fs) fs

fit_is : (o : Option QName) (fs : List (Face Text)) → if_fit o (each printed fs) ≡ standing_printed (if_fit o fs)
fit_is None fs = refl
fit_is (Some q) fs = refl

coherent_is : (o : Option (StaleUse Text)) (fs : List (Face Text)) → if_coherent (option_map stale_printed o) (each printed fs) ≡ standing_printed (if_coherent o fs)
coherent_is None fs = ap (λ (o : Option QName). if_fit o (each printed fs)) (unfit_same fs) ∙ fit_is (first_unfit fs) fs
coherent_is (Some u) fs = refl

-- THE ANSWERS of interfaces
pub standing_is : (fs : List (Face Text)) → AreToldApart (AreCompared fs) → standing prints_agree print_in (each printed fs) ≡ standing_printed (standing bytes_eq text_in fs)
standing_is fs told = ap (λ (o : Option (StaleUse Print)). if_coherent o (each printed fs)) (stale_is fs told) ∙ coherent_is (first_stale bytes_eq (text_in fs) fs) fs
