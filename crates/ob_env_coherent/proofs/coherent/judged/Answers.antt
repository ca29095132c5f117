use Rattle.std.proofs.Common.{refl}
use Rattle.ob_env_coherent.proofs.Stales.{all_stand}
use Rattle.ob_env.proofs.Grounded.{fit_grounded}
use Rattle.ob_env_coherent.proofs.coherent.judged.Goals as goal

pub returns-in-Ok-clause-answer : goal.returns-in-Ok-clause-answer
returns-in-Ok-clause-answer c = (all_stand c.args.faces c.in-Ok.ensures.stand.0.0 c.in-Ok.ensures.stand.0.1, refl)

pub returns-in-Ok-clause-grounded : goal.returns-in-Ok-clause-grounded
returns-in-Ok-clause-grounded c = fit_grounded c.args.faces c.in-Ok.ensures.stand.0.1
