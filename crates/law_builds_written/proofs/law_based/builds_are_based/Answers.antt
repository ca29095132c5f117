-- Types in the order of the text.
use Rattle.law_builds_written.proofs.based_laws.Modules.{modules_are_based}
use Rattle.law_builds_written.proofs.based_laws.Views.{views_are_based}
use Rattle.law_builds_written.proofs.based_laws.Builds.{builds_are_based as builds_so}
use Rattle.law_builds_written.proofs.law_based.builds_are_based.Goals as goal

pub returns : goal.returns
returns c = record { modules = modules_are_based; views = views_are_based; builds = builds_so }
