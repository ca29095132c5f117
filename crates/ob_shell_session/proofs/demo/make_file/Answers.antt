use Rattle.std.proofs.Common.{◌≡◌, ◌≤◌, List, length, ap, arith}
use Rattle.ob_types.specs.declared.face.Object.{Object}
use Rattle.ob_shell_session.proofs.Demos.{few_objects}
use Rattle.ob_shell_session.proofs.demo.make_file.Goals as goal

pub overflow_cast-result : goal.overflow_cast-result
overflow_cast-result g c =
    let f : length c.in-Ok.built.face.objects ≤ 4096 = few_objects c.in-Ok.built.face c.in-Ok.ensures.fits in
    let e : length c.objects.result.now ≡ length c.in-Ok.built.face.objects = ap (λ (l : List Object). length l) c.objects.ensures in
    omega (arith, f, e)

pub returns-in-Ok-clause-few : goal.returns-in-Ok-clause-few
returns-in-Ok-clause-few g c =
    let f : length c.in-Ok.built.face.objects ≤ 4096 = few_objects c.in-Ok.built.face c.in-Ok.ensures.fits in
    let e : length c.objects.result.now ≡ length c.in-Ok.built.face.objects = ap (λ (l : List Object). length l) c.objects.ensures in
    omega (arith, f, e)
