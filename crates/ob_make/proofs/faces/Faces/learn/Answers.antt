use Rattle.ob_cmp.specs.Check.{symbols_of}
use Rattle.ob_make.proofs.Keeping.{keeps_more, keeps_same, kept_now}
use Rattle.ob_make.proofs.faces.Faces.learn.Goals as goal

pub returns-in-Ok-clause-keeps : goal.returns-in-Ok-clause-keeps
returns-in-Ok-clause-keeps g c = λ tf. keeps_more (symbols_of (g.F.Shelf.files c.args.folder.now)) c.args.self.now c.put.new.self c.args.«module».now c.in_ok-found.found (c.requires.keeps tf) (c.in_ok-found.ensures.seen tf) c.in-Ok.ensures.ok

pub returns-in-Err-clause-keeps : goal.returns-in-Err-clause-keeps
returns-in-Err-clause-keeps g c = λ tf. keeps_same (symbols_of (g.F.Shelf.files c.args.folder.now)) c.args.self.now c.put.new.self (c.requires.keeps tf) c.in-Err.ensures.err

pub returns-in-Ok-clause-kept : goal.returns-in-Ok-clause-kept
returns-in-Ok-clause-kept g c = kept_now c.args.self.now c.put.new.self c.args.«module».now c.in_ok-found.found c.in-Ok.ensures.ok
