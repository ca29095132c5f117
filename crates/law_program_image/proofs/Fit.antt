-- What the rules owe of types and values, of builds that are loaded together.
use Rattle.std.proofs.Common.{◌≡◌, List, [], ◌∷◌, refl, sym, ap, subst, ◌∙◌}
use Rattle.std.specs.Prelude.{map}
use Rattle.ob_meaning.specs.Values.{Program}
use Rattle.law_typing_values.proofs.Values.{values_fit}
use Rattle.law_image_tables.specs.Settled.{TypesSettled, AllDeclared}
use Rattle.law_image_tables.proofs.Settled.{types_from_declarations}
use Rattle.law_typing_values.specs.Valued.{values}
use Rattle.ob_builds.specs.Builds.{Build, tree_of}
use Rattle.law_program_runs.specs.Builds.{program_of}
use Rattle.law_program_runs.proofs.Settings.{loaded_front}
use Rattle.law_program_image.specs.Owed.{in_program}
use Rattle.law_program_image.specs.Premises.{builds_of}
use Rattle.law_program_image.specs.Laws.{LoadedValuesAre, LoadedTypesFit}
use Rattle.law_program_image.proofs.Settled.{sound_are_settled}
use Rattle.law_program_image.proofs.Declared.{loaded_are_declared}

pub loaded_values_are : LoadedValuesAre
loaded_values_are bs more c is = values_fit c (is.has ∙ ap values (sym is.program))

pub units : (p : Program) (xs : List Build) → map tree_of xs ≡ map (λ b. b.unit) (map (in_program p) xs)
units p [] = refl
units p (x ∷ xs) = ap (λ l. tree_of x ∷ l) (units p xs)

pub loaded_types_fit : LoadedTypesFit
loaded_types_fit written differ are_sound describe same bs more l c is rules =
    types_from_declarations c (builds_of bs) (is.program ∙ units (program_of bs) bs)
    (subst TypesSettled (sym is.program) (sound_are_settled (program_of bs) (are_sound bs (loaded_front bs more l))))
    (subst (λ p. AllDeclared p (builds_of bs)) (sym is.program) (loaded_are_declared written differ are_sound describe same bs more l c is))
    rules
