use Rattle.std.proofs.Common.{Some, sym}
use Rattle.ob_link.specs.Index.{Puts, Notes}
use Rattle.ob_link.proofs.Maps.{notes_new, notes_none, on_ok}
use Rattle.ob_link.proofs.index.Index.note.Goals as goal

pub returns-in-Some-clause-ok : goal.returns-in-Some-clause-ok
returns-in-Some-clause-ok c = notes_none c.args.self.now.places c.args.name.now c.args.place c.in-Some.field-0 (sym c.in-Some.ensures)

pub returns-in-None-clause-ok : goal.returns-in-None-clause-ok
returns-in-None-clause-ok c =
    let old = c.args.self.now.places in
    let new = c.put.new.self.places in
    on_ok c.put.result (Puts old new c.args.name.now (Some c.args.place)) (Notes old new c.args.name.now c.args.place) c.put.ensures.ok (notes_new old new c.args.name.now c.args.place (sym c.in-None.ensures))
