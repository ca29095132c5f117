-- All that the headline takes for granted of builds is there.
use Rattle.law_headline.proofs.Whole as whole
use Rattle.law_headline.proofs.promised.Goals as goal

pub returns : goal.returns
returns c = whole.promised
