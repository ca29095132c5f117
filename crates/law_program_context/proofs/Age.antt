-- Interfaces that show the modules before one show modules of the program.
use Rattle.std.proofs.Common.{sym, subst, ℕ, List, [], ◌∷◌, ◌++◌}
use Rattle.ob_types.specs.TypedSyntax.{Module}
use Rattle.ob_meaning.specs.Values.{Program}
use Rattle.ob_env.specs.Faces.{Face}
use Rattle.law_typing_env.specs.Ages.{AreShown}
use Rattle.law_body_context.proofs.Lists.{one_left}
use Rattle.law_program_context.specs.Judged.{IsJudgedModule}

shown_in : (before more : Program) (faces : List (Face (List ℕ))) → AreShown before faces → AreShown (before ++ more) faces
shown_in before more [] h = tt
shown_in before more (f ∷ fs) h = (record { m = h.0.m; there = one_left before more h.0.m h.0.there; name = h.0.name; objects = h.0.objects }, shown_in before more fs h.1)

pub age_in : (program : Program) (m : Module) (j : IsJudgedModule program m) → AreShown program j.faces
age_in program m j = subst (λ (p : Program). AreShown p j.faces) (sym j.order) (shown_in j.before (m ∷ j.rest) j.faces j.age)
