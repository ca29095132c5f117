-- The headline from the laws.
use Rattle.std.proofs.Common.{◌≡◌, ℕ, ◌≤◌, false, subst, arith}
use Rattle.ob_shell_model.specs.Session.{is_whole}
use Rattle.ob_shell_model.specs.Bytes as bytes
use Rattle.ob_shell_model.specs.Model.{start, answer}
use Rattle.law_session.specs.Composing.{as_bytes, Alike, HeadlineHolds, FrontsAgree}
use Rattle.law_session.proofs.Transfer.{text_behind}
use Rattle.law_session.proofs.New.{new_is_valid}
use Rattle.law_session.proofs.Composed.{follows, starts_alike}
use Rattle.law_session.proofs.Agreed.{agreed}
use Rattle.law_builds.proofs.Gathered.{afresh_so}

-- a status of words that were accepted, of a session that was cut short
apart_from : (n : ℕ) → (n ≡ 2 → ⊥) → is_whole n ≡ false → 3 ≤ n
apart_from n two e = grind (arith, two, e)

seven : (n : ℕ) → n ≤ 7 → is_whole n ≡ false → n ≤ 6
seven n h e = grind (arith, h, e)

pub holds : HeadlineHolds
holds s l before now old new script status locality simulation written compiles plans limits h two most ends =
    follows s l before now old new script status (new_is_valid written) simulation limits (afresh_so written locality) (agreed s compiles plans written simulation limits) h (apart_from status two) (seven status most) ends

pub fronts_so : FrontsAgree
fronts_so s l old script simulation written compiles plans limits h past rest split =
    text_behind as_bytes (Alike s) (bytes.answer s) (answer s) (agreed s compiles plans written simulation limits) past rest (bytes.start s old) (start old l)
    (subst (Alike s (bytes.start s old) (start old l) 1) split (starts_alike s l old script simulation limits h))
