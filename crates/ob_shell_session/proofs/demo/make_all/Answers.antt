use Rattle.std.proofs.Common.{◌≡◌, ◌≤◌, ◌+◌, ◌-◌, ◌∙◌, ℕ, Option, ap, subst, arith}
use Rattle.ob_io.specs.Kept.{file_in}
use Rattle.ob_shell_model.specs.Bytes.{made_one, demo_from, demo_made}
use Rattle.ob_shell_session.specs.Does.{MakesSo, AreFew}
use Rattle.ob_shell_session.proofs.Demos.{starts, goes_on}
use Rattle.ob_shell_session.proofs.demo.make_all.Goals as goal

pub modules-init : goal.modules-init
modules-init g c =
    let all : c.args.count ≡ c.args.count + 1 - 1 = omega arith in (
      omega arith,
      omega arith,
      omega arith,
      starts c.args.count c.args.folder.now.pairs c.requires.empty ∙ ap (λ m. demo_from c.args.count m 1 0 (file_in c.args.folder.now.pairs)) all,
    )

pub modules-preserved : goal.modules-preserved
modules-preserved g c =
    let i = c.modules.invariant in
    let some = i.2 in
    let t = c.modules-test.true in
    let few = subst AreFew c.in-Some.is c.in_ok-more.ensures.few in
    let made = subst (λ (o : Option ℕ). MakesSo (made_one c.args.count c.modules.at (file_in c.modules.folder.pairs)) (file_in c.make_one.new.folder.pairs) o) c.in-Some.is c.in_ok-more.ensures.makes in
    let more : 1 ≤ c.args.count + 1 - c.modules.at = omega (arith, t) in
    let same : c.args.count + 1 - c.modules.at - 1 ≡ c.args.count + 1 - (c.modules.at + 1) = omega arith in (
      omega arith,
      omega (arith, t),
      omega (arith, few, some),
      goes_on c.args.count (c.args.count + 1 - c.modules.at) c.modules.at c.modules.objects (file_in c.modules.folder.pairs) (file_in c.make_one.new.folder.pairs) c.in-Some.more (demo_made c.args.count) more i.3 made
          ∙ ap (λ m. demo_from c.args.count m (c.modules.at + 1) (c.modules.objects + c.in-Some.more) (file_in c.make_one.new.folder.pairs)) same,
    )
