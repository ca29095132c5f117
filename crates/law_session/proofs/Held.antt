-- The headline from the laws of compiles and loads.
use Rattle.law_session.proofs.Whole.{holds, fronts_so}
use Rattle.law_session.proofs.CompileLaw.{kept_compiles_alike}
use Rattle.law_session.proofs.LoadLaw.{loads_so}
use Rattle.law_builds.proofs.Linked.{builds_are_linked}
use Rattle.law_session.proofs.New.{new_is_valid}
use Rattle.law_session.proofs.Told.{told_so}
use Rattle.law_session.proofs.OneAge.{compared_so}
use Rattle.law_session.specs.Holds.{HeadlineHolds, LinesHold}
use Rattle.law_session.specs.OneAge.{ApartAreTold, HeadlineHoldsAsCompared, HeadlineHoldsInOneAge}

pub compared_holds : HeadlineHoldsAsCompared
compared_holds k s l before now old new script status limits h two most ends = holds s l before now old new script status k.locality k.simulation k.written (kept_compiles_alike k.written) (loads_so k.written builds_are_linked) limits h two most ends

pub told : ApartAreTold
told k s l files script h = told_so (new_is_valid k.written) s files l script h

pub whole_so : HeadlineHolds
whole_so k s l before now old new script status limits h two most ends = compared_holds k s l before now old new script status limits (told k s l old script h) two most ends

pub one_age_so : HeadlineHoldsInOneAge
one_age_so k s l before now old new script status limits h two most ends = compared_holds k s l before now old new script status limits (compared_so s l old script h) two most ends

pub lines_so : LinesHold
lines_so k s l old script limits h past rest split = fronts_so s l old script k.simulation k.written (kept_compiles_alike k.written) (loads_so k.written builds_are_linked) limits (told k s l old script h) past rest split
