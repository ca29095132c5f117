-- The procedures and the bodies of builds that are loaded together are checked.
use Rattle.std.proofs.Common.{sym, ap, subst, ◌∙◌}
use Rattle.std.specs.List.{AllByRecursion}
use Rattle.ob_meaning.specs.Values.{Program}
use Rattle.law_typing_forms.specs.Said.{IsSound}
use Rattle.law_typing_forms.specs.Whole.{IsWhole}
use Rattle.law_typing_values.specs.Valued.{values}
use Rattle.law_program_typing.specs.Accepted.{AreBuilt, AreWellTyped}
use Rattle.law_program_typing.proofs.Bodies.{accepted_is_well_typed}
use Rattle.law_program_typing.proofs.Kept.{well_typed_keeps}
use Rattle.law_program_runs.specs.Builds.{program_of}
use Rattle.law_program_runs.proofs.Settings.{loaded_front}
use Rattle.law_program_image.specs.Premises.{builds_of}
use Rattle.law_program_image.proofs.Fit.{units}
use Rattle.law_builds_types.specs.assured_laws.Checked.{LoadedAreChecked}

pub loaded_are_checked : LoadedAreChecked
loaded_are_checked are_sound are_whole bs more l c is left =
    let program : Program = program_of bs in
    let first = loaded_front bs more l in
    let sound = are_sound bs first in
    let whole = are_whole bs first in
    well_typed_keeps c (builds_of bs)
    (record {
      program = is.program ∙ units program bs;
      has = is.has ∙ ap values (sym is.program);
      sound = subst IsSound (sym is.program) sound;
      whole = subst IsWhole (sym is.program) whole;
      built = subst (λ (p : Program). AllByRecursion (AreBuilt p) p) (sym is.program) left.built;
      typed = subst (λ (p : Program). AllByRecursion (AreWellTyped p) p) (sym is.program) (accepted_is_well_typed program sound whole left.redefined left.judged left.steady left.built);
    })
    left.limits
