use Rattle.std.proofs.Common.{List, subst}
use Rattle.ob_types.specs.declared.face.Interface.{Interface}
use Rattle.ob_env.specs.Building.{Stand}
use Rattle.ob_env_coherent.proofs.Stales.{all_stand}
use Rattle.ob_env.proofs.Grounded.{fit_grounded}
use Rattle.ob_env_coherent.proofs.coherent.CoherentEnv.renewed.Goals as goal

pub returns-in-Some-clause-answer : goal.returns-in-Some-clause-answer
returns-in-Some-clause-answer c =
    let stand : Stand c.args.faces = subst (λ (l : List Interface). Stand l) c.in-Ok.ensures c.in-Some.ensures.0 in
    (all_stand c.args.faces stand.0 stand.1, c.in-Ok.ensures)

pub returns-in-Some-clause-grounded : goal.returns-in-Some-clause-grounded
returns-in-Some-clause-grounded c = fit_grounded c.in-Ok.faces c.in-Some.ensures.0.1
