use Rattle.std.proofs.Common.{◌≡◌, ◌++◌, None}
use Rattle.ob_link.specs.Judging.{breaks}
use Rattle.ob_link.proofs.Steps.{walk_left, advance_left, advance_stopped, none_answered}
use Rattle.ob_link.proofs.walking.leave.Goals as goal

pub returns-in-Ok-Some-clause-walked : goal.returns-in-Ok-Some-clause-walked
returns-in-Ok-Some-clause-walked c = λ files. advance_stopped files c.args.loaded.now c.args.walk.now.planned c.args.walk.now.path.items c.args.frame c.args.walk.now.on_path c.args.walk.now.files c.args.walk.now.path.items c.args.walk.now.files c.in-Ok-Some.refusal c.requires.walk c.requires.done (rw c.in-Ok-Some.field-0-is at c.in-Ok-Some.ensures)

pub returns-in-Ok-clause-walk : goal.returns-in-Ok-clause-walk
returns-in-Ok-clause-walk c =
    let ok : breaks (c.args.loaded.now ++ c.args.walk.now.planned) c.args.frame.file ≡ None = none_answered _ (rw c.in-Ok-None.field-0-is at c.in-Ok-None.ensures) in
    walk_left c.args.loaded.now c.args.walk.now.planned c.args.walk.now.path.items c.args.frame c.args.walk.now.on_path c.args.walk.now.files c.keep.new.walk.path.items c.keep.new.walk.on_path c.keep.new.walk.files c.keep.new.walk.planned c.requires.walk ok c.keep.ensures.path c.in-Ok.ensures.names c.in-Ok.ensures.files c.in-Ok.ensures.known

pub returns-in-Ok-clause-walked : goal.returns-in-Ok-clause-walked
returns-in-Ok-clause-walked c =
    let ok : breaks (c.args.loaded.now ++ c.args.walk.now.planned) c.args.frame.file ≡ None = none_answered _ (rw c.in-Ok-None.field-0-is at c.in-Ok-None.ensures) in
    λ files. advance_left files c.args.loaded.now c.args.walk.now.planned c.args.walk.now.path.items c.args.frame c.args.walk.now.on_path c.args.walk.now.files c.keep.new.walk.path.items c.keep.new.walk.files c.requires.walk c.requires.done ok c.keep.ensures.path c.in-Ok.ensures.files
