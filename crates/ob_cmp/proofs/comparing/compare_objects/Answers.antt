use Rattle.std.proofs.Common.{◌++◌, ap}
use Rattle.ob_cmp.specs.Rising.{shown}
use Rattle.ob_cmp.specs.Verdicts.{verdicts_in}
use Rattle.ob_cmp.proofs.comparing.compare_objects.Goals as goal

pub merge-init : goal.merge-init
merge-init c = record {
  older = c.requires.old;
  newer = c.requires.new;
  verdicts = ap (λ v. v ++ verdicts_in c.args.old_module.now (shown c.args.old.now) c.args.new_module.now (shown c.args.new.now)) c.new-all.ensures;
}
