use Rattle.std.proofs.Common.{◌++◌, ℕ, List, sym, ap, subst, ◌∙◌}
use Rattle.std.specs.Prelude.{codes}
use Rattle.ob_format.specs.Format.{whole}
use Rattle.ob_obj.specs.Grammar.{file as form}
use Rattle.ob_make.specs.Folder.{has_in, has_found, has_of}
use Rattle.ob_make.specs.Filing.{AnswersBy, bytes_seen, seen, onto}
use Rattle.ob_make.proofs.Filing.{within_is}
use Rattle.ob_make.proofs.files.find_file.Goals as goal

pub returns-in-Absent-clause-seen : goal.returns-in-Absent-clause-seen
unfolding has_of
returns-in-Absent-clause-seen g c = λ told.
    let read = λ (l : List ℕ). has_found c.args.«module».now (whole form l) in
    within_is read (g.F.Shelf.files c.args.folder.now (c.args.«module».now ++ codes ".Obj")) ∙ ap (onto read) (c.in_ok-read.ensures.bytes told ∙ ap bytes_seen c.in-Absent.is)

pub returns-in-Long-clause-seen : goal.returns-in-Long-clause-seen
unfolding has_of
returns-in-Long-clause-seen g c = λ told.
    let read = λ (l : List ℕ). has_found c.args.«module».now (whole form l) in
    within_is read (g.F.Shelf.files c.args.folder.now (c.args.«module».now ++ codes ".Obj")) ∙ ap (onto read) (c.in_ok-read.ensures.bytes told ∙ ap bytes_seen c.in-Long.is)

pub returns-in-Held-clause-seen : goal.returns-in-Held-clause-seen
unfolding has_of
returns-in-Held-clause-seen g c = λ told.
    let read = λ (l : List ℕ). has_found c.args.«module».now (whole form l) in
    let is = within_is read (g.F.Shelf.files c.args.folder.now (c.args.«module».now ++ codes ".Obj")) ∙ ap (onto read) (c.in_ok-read.ensures.bytes told ∙ ap bytes_seen c.in-Held.is) ∙ ap read (sym c.deref.ensures.value) in
    subst (λ p. AnswersBy (seen has_in) p c.as_file.result) (sym is) c.as_file.ensures.seen
