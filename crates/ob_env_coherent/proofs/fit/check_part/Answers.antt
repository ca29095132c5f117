use Rattle.std.proofs.Common.{◌≡◌, ℕ, List, ap, subst, ◌∙◌}
use Rattle.ob_types.specs.declared.face.Interface.{Interface}
use Rattle.ob_env.specs.Stale.{first_among}
use Rattle.ob_env.specs.Fit.{steps_of}
use Rattle.ob_env.specs.Faces.{faces_of}
use Rattle.ob_env.specs.Building.{Checks, objects_answer}
use Rattle.ob_env_coherent.proofs.fit.check_part.Goals as goal

pub returns-in-Some : goal.returns-in-Some
returns-in-Some c =
    let n : c.in-Some.steps ≡ steps_of (faces_of c.args.env.now) = c.in-Some.ensures ∙ ap (λ (l : List Interface). steps_of (faces_of l)) c.faces.ensures.faces in
    subst (λ (k : ℕ). Checks (first_among (objects_answer c.args.env.now k) c.args.faces.now) c.check_faces.result) n c.check_faces.ensures
