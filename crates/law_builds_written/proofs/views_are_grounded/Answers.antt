-- Maps of modules that are laid out.
use Rattle.law_builds_written.proofs.Views.{views_are_grounded as grounded_so, views_are_short as short_so}
use Rattle.law_builds_written.proofs.views_are_grounded.Goals as goal

pub returns : goal.returns
returns c = record { grounded = grounded_so; short = short_so }
