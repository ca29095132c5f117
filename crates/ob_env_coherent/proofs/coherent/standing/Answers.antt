use Rattle.std.proofs.Common.{◌≡◌, None, List, subst}
use Rattle.std.proofs.lemmas.Result.{err_from_is_err_and}
use Rattle.ob_types.specs.declared.face.Interface.{Interface}
use Rattle.ob_env.specs.Stale.{first_among}
use Rattle.ob_env.specs.Building.{Named, uses_answer, stale_answer}
use Rattle.ob_env_coherent.proofs.Stales.{stale_named, unfit_named}
use Rattle.ob_env_coherent.proofs.coherent.standing.Goals as goal

pub returns-in_err-check_uses-clause-fault : goal.returns-in_err-check_uses-clause-fault
returns-in_err-check_uses-clause-fault c =
    let p = err_from_is_err_and c.from_residual.result c.from_residual.ensures.1 in
    let named = subst (λ (l : List Interface). Named (first_among (uses_answer c.args.faces.now) l) c.in_err-check_uses.field-0.0) c.faces.ensures.faces c.in_err-check_uses.ensures in
    rw (p.1, p.2) (stale_named c.args.faces.now c.in_err-check_uses.field-0.0 named)

pub returns-in_err-check_fit-clause-fault : goal.returns-in_err-check_fit-clause-fault
returns-in_err-check_fit-clause-fault c =
    let p = err_from_is_err_and c.from_residual-in_err-check_fit.result c.from_residual-in_err-check_fit.ensures.1 in
    let none : stale_answer c.args.faces.now ≡ None = subst (λ (l : List Interface). first_among (uses_answer c.args.faces.now) l ≡ None) c.faces.ensures.faces c.in_ok-check_uses.ensures in
    rw (p.1, p.2) (unfit_named c.args.faces.now c.in_err-check_fit.field-0.0 none c.in_err-check_fit.ensures)

pub returns-clause-stand : goal.returns-clause-stand
returns-clause-stand c =
    let none : stale_answer c.args.faces.now ≡ None = subst (λ (l : List Interface). first_among (uses_answer c.args.faces.now) l ≡ None) c.faces.ensures.faces c.in_ok-check_uses.ensures in
    ((none, c.in_ok-check_fit.ensures), c.in-Ok.ensures)
