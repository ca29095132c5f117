use Rattle.std.proofs.Common.{rules, sym}
use Rattle.std.specs.Cmp.Lexicographic.{slice_cmp}
use Rattle.std.specs.Ordering.{nat_cmp}
use Rattle.std.proofs.lemmas.Fn.{always_returns_same}
use Rattle.ob_env_files.proofs.Objects.{halved, missed}
use Rattle.ob_env_files.proofs.file.halved.Goals as goal

pub returns-in-Ok : goal.returns-in-Ok
returns-in-Ok c =
    let h = c.in-Ok.ensures.position (λ o. slice_cmp nat_cmp o.name c.args.name.now) (always_returns_same _ _ _ (λ a r f called. (search rules, search rules))) in
    sym (halved c.args.objects.now c.args.name.now c.in-Ok.position c.requires c.in-Ok.ensures.bound h)

pub returns-in-Err : goal.returns-in-Err
returns-in-Err c =
    let h = c.in-Err.ensures.position (λ o. slice_cmp nat_cmp o.name c.args.name.now) (always_returns_same _ _ _ (λ a r f called. (search rules, search rules))) in
    sym (missed c.args.objects.now c.args.name.now c.in-Err.field-0 c.requires h)
