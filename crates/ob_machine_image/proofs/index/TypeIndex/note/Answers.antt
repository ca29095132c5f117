use Rattle.std.proofs.Common.{Some, sym}
use Rattle.ob_machine_image.specs.Index.{PutsType, Notes}
use Rattle.ob_machine_image.proofs.Maps.{notes_new, notes_none, on_ok}
use Rattle.ob_machine_image.proofs.index.TypeIndex.note.Goals as goal

pub returns-in-Some-clause-ok : goal.returns-in-Some-clause-ok
returns-in-Some-clause-ok c = notes_none c.args.self.now.modules c.args.name.now c.args.number c.in-Some.field-0 (sym c.in-Some.ensures)

pub returns-in-None-clause-ok : goal.returns-in-None-clause-ok
returns-in-None-clause-ok c =
    let old = c.args.self.now.modules in
    let new = c.put.new.self.modules in
    on_ok c.put.result (PutsType old new c.args.name.now (Some c.args.number)) (Notes old new c.args.name.now c.args.number) c.put.ensures.ok (notes_new old new c.args.name.now c.args.number (sym c.in-None.ensures))
