use Rattle.std.proofs.Common.{◌∙◌}
use Rattle.ob_env_files.proofs.Objects.{object_is}
use Rattle.ob_env_files.proofs.file.object_in.Goals as goal

pub returns : goal.returns
returns c = λ os e. c.get.ensures.value ∙ object_is c.args.index.now os c.args.name.now e
