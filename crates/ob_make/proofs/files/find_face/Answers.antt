use Rattle.std.proofs.Common.{◌++◌, ℕ, List, sym, ap, subst, ◌∙◌}
use Rattle.std.specs.Prelude.{codes}
use Rattle.ob_format.specs.Format.{whole}
use Rattle.ob_sym.specs.Grammar.{face as form}
use Rattle.ob_env.specs.Faces.{face_of}
use Rattle.ob_cmp.specs.Check.{symbols_of, face_found}
use Rattle.ob_make.specs.Filing.{AnswersBy, bytes_seen, seen, onto}
use Rattle.ob_make.proofs.Filing.{within_is}
use Rattle.ob_make.proofs.files.find_face.Goals as goal

pub returns-in-Absent-clause-seen : goal.returns-in-Absent-clause-seen
unfolding symbols_of
returns-in-Absent-clause-seen g c = λ told.
    let read = λ (l : List ℕ). face_found c.args.«module».now (whole form l) in
    within_is read (g.F.Shelf.files c.args.folder.now (c.args.«module».now ++ codes ".Sym")) ∙ ap (onto read) (c.in_ok-read.ensures.bytes told ∙ ap bytes_seen c.in-Absent.is)

pub returns-in-Long-clause-seen : goal.returns-in-Long-clause-seen
unfolding symbols_of
returns-in-Long-clause-seen g c = λ told.
    let read = λ (l : List ℕ). face_found c.args.«module».now (whole form l) in
    within_is read (g.F.Shelf.files c.args.folder.now (c.args.«module».now ++ codes ".Sym")) ∙ ap (onto read) (c.in_ok-read.ensures.bytes told ∙ ap bytes_seen c.in-Long.is)

pub returns-in-Held-clause-seen : goal.returns-in-Held-clause-seen
unfolding symbols_of
returns-in-Held-clause-seen g c = λ told.
    let read = λ (l : List ℕ). face_found c.args.«module».now (whole form l) in
    let is = within_is read (g.F.Shelf.files c.args.folder.now (c.args.«module».now ++ codes ".Sym")) ∙ ap (onto read) (c.in_ok-read.ensures.bytes told ∙ ap bytes_seen c.in-Held.is) ∙ ap read (sym c.deref.ensures.value) in
    subst (λ p. AnswersBy (seen face_of) p c.as_face.result) (sym is) c.as_face.ensures.seen
