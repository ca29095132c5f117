use Rattle.law_make.proofs.Meant.{meaning_brings}
use Rattle.law_make.proofs.UpToDate.{makes_bring, sessions_bring}
use Rattle.law_make.proofs.makes_bring_up_to_date.Goals as goal

pub returns : goal.returns
returns c = record { worlds = makes_bring; sessions = sessions_bring; meaning = meaning_brings }
