use Rattle.std.proofs.Common.{[], sym, ◌∙◌}
use Rattle.ob_link.specs.Walk.{visit, most_deep}
use Rattle.ob_link.specs.Walking.{resume, stack, visits}
use Rattle.ob_link.specs.Plan.{steps}
use Rattle.ob_link.specs.Files.{asks, object_entry}
use Rattle.ob_link.proofs.Steps.{walk_begins, begun, part_stops, begins_err}
use Rattle.ob_link.proofs.walking.begin.Goals as goal

pub visit-requires : goal.visit-requires
visit-requires g c = walk_begins c.args.loaded.now c.new.result.items c.new-2.result c.new-3.result c.new-4.result c.requires c.new.ensures.items c.new-2.ensures c.new-3.ensures c.new-4.ensures

pub returns-in-Ok-clause-begun : goal.returns-in-Ok-clause-begun
returns-in-Ok-clause-begun g c = λ told fs h. sym (begun (steps asks (object_entry (g.F.Shelf.files c.args.folder.now)) fs) most_deep c.new.result.items c.new-3.result c.args.«module».now c.new.ensures.items c.new-3.ensures) ∙ c.in-Ok.ensures.walked told fs h

pub returns-in-Err-clause-begun : goal.returns-in-Err-clause-begun
returns-in-Err-clause-begun g c = λ told fs h.
    let s = steps asks (object_entry (g.F.Shelf.files c.args.folder.now)) fs in
    let name = c.args.«module».now in
    let after = resume s most_deep (stack c.visit.new.walk.path.items) c.visit.new.walk.files in
    begins_err s most_deep (visit s most_deep [] name []) after c.in-Err.fault (part_stops (visit s most_deep [] name []) (visits s most_deep (stack c.new.result.items) name c.new-3.result) after c.in-Err.fault (sym (begun s most_deep c.new.result.items c.new-3.result name c.new.ensures.items c.new-3.ensures)) (c.in-Err.ensures.walked told fs h))
