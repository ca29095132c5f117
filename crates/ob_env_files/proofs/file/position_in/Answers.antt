use Rattle.std.proofs.Common.{◌∙◌}
use Rattle.ob_env_files.proofs.Objects.{position_is}
use Rattle.ob_env_files.proofs.file.position_in.Goals as goal

pub returns : goal.returns
returns c = λ os e. c.get_index_of.ensures.index ∙ position_is c.args.index.now os c.args.name.now e
