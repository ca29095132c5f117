-- The laws of files are the theorems of Contents and Commands.
use Rattle.law_image_links.proofs.Contents as contents
use Rattle.law_image_links.proofs.Commands as commands
use Rattle.law_image_links.proofs.files_have.Goals as goal

pub returns-clause-contents : goal.returns-clause-contents
returns-clause-contents c = contents.files_have

pub returns-clause-commands : goal.returns-clause-commands
returns-clause-commands c = commands.files_have_commands
