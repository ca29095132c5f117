use Rattle.std.proofs.Common.{◌≡◌, ◌++◌, ◌∷◌, [], drop, sym, subst}
use Rattle.ob_link.specs.declared.walking.Frame.{Frame}
use Rattle.ob_link.specs.Walking.{IsWalk, Advances}
use Rattle.ob_link.proofs.Steps.{walk_next, advance_on}
use Rattle.ob_link.proofs.walking.advance.Goals as goal

pub leave-requires-clause-walk : goal.leave-requires-clause-walk
leave-requires-clause-walk g c = subst (λ (f : Frame). IsWalk c.args.loaded.now (c.args.walk.now.path.items ++ f ∷ []) c.args.walk.now.on_path c.args.walk.now.files c.args.walk.now.planned) (sym c.in-None.ensures.next.1) c.requires

pub leave-requires-clause-done : goal.leave-requires-clause-done
leave-requires-clause-done g c = subst (λ (f : Frame). drop f.next f.file.head.imports ≡ []) (sym c.in-None.ensures.next.1) c.in-None.ensures.next.0

pub returns-in-None-clause-walked : goal.returns-in-None-clause-walked
returns-in-None-clause-walked g c = λ told. subst (λ (f : Frame). Advances (g.F.Shelf.files c.args.folder.now) c.args.loaded.now (c.args.walk.now.path.items ++ f ∷ []) c.args.walk.now.files c.leave.new.walk.path.items c.leave.new.walk.files c.leave.result) c.in-None.ensures.next.1 (c.leave.ensures.walked (g.F.Shelf.files c.args.folder.now))

pub visit-requires : goal.visit-requires
visit-requires g c = walk_next c.args.loaded.now c.args.walk.now.planned c.args.walk.now.path.items c.args.frame c.next_import.new.self c.args.walk.now.on_path c.args.walk.now.files c.put_back.new.path.items c.requires c.in-Some.ensures.file c.in-Ok.ensures

pub returns-in-Ok-clause-walked : goal.returns-in-Ok-clause-walked
returns-in-Ok-clause-walked g c = λ told. advance_on (g.F.Shelf.files c.args.folder.now) c.args.loaded.now c.args.walk.now.path.items c.args.frame c.next_import.new.self c.args.walk.now.files c.in-Some.name c.put_back.new.path.items c.visit.new.walk.path.items c.visit.new.walk.files c.visit.result c.in-Some.ensures.next c.in-Some.ensures.file c.in-Ok.ensures (c.visit.ensures.walked told)
