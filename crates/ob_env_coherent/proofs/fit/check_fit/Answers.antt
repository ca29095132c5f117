use Rattle.std.proofs.Common.{Option, refl, subst}
use Rattle.ob_env.specs.declared.fault.EnvFault.{EnvFault}
use Rattle.ob_env.specs.Fit.{steps_of}
use Rattle.ob_env.specs.Faces.{faces_of}
use Rattle.ob_env.specs.Building.{Checks}
use Rattle.ob_env_coherent.proofs.Fits.{unfit_is}
use Rattle.ob_env_coherent.proofs.fit.check_fit.Goals as goal

pub returns-in-Ok : goal.returns-in-Ok
returns-in-Ok c = subst (λ (o : Option EnvFault). Checks o c.check_part.result) (unfit_is c.args.env.now c.faces.result.now (steps_of (faces_of c.args.env.now)) c.faces.ensures.faces refl) c.check_part.ensures
