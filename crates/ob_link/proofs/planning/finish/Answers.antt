use Rattle.std.proofs.Common.{◌≡◌, ◌+◌, ◌≤◌, sym, ap, ◌∙◌, arith}
use Rattle.ob_link.specs.Judging.{words_of}
use Rattle.ob_link.proofs.Made.{can_start}
use Rattle.ob_link.proofs.Planned.{no_room, no_command, all_planned}
use Rattle.ob_link.proofs.planning.finish.Goals as goal

pub returns-then-used-asked-gt-MOST_GLOBALS-clause-plans : goal.returns-then-used-asked-gt-MOST_GLOBALS-clause-plans
returns-then-used-asked-gt-MOST_GLOBALS-clause-plans c = λ fs l.
    let asked : c.words_of-asked.result ≡ words_of c.args.walk.planned = c.words_of-asked.ensures.words ∙ ap words_of c.members.ensures.members in
    no_room c.args.loaded.now c.args.walk.planned fs c.args.walk.files c.args.«module».now c.args.command.now c.args.used c.words_of-asked.result l.members c.requires.known c.requires.used asked c.if-used-asked-gt-MOST_GLOBALS.true

pub returns-in-None-clause-plans : goal.returns-in-None-clause-plans
returns-in-None-clause-plans c = λ fs l.
    let asked : c.words_of-asked.result ≡ words_of c.args.walk.planned = c.words_of-asked.ensures.words ∙ ap words_of c.members.ensures.members in
    no_command c.args.loaded.now c.args.walk.planned fs c.args.walk.files c.args.«module».now c.args.command.now c.args.used c.words_of-asked.result l.members c.requires.known c.requires.used asked c.if-used-asked-gt-MOST_GLOBALS.false (sym c.in-None.ensures)

pub returns-in-Some-clause-plans : goal.returns-in-Some-clause-plans
returns-in-Some-clause-plans c = λ fs l.
    let asked : c.words_of-asked.result ≡ words_of c.args.walk.planned = c.words_of-asked.ensures.words ∙ ap words_of c.members.ensures.members in
    all_planned c.args.loaded.now c.args.walk.planned fs c.args.walk.files c.args.«module».now c.args.command.now c.args.used c.words_of-asked.result c.in-Some.start l.members c.requires.known c.requires.used asked c.if-used-asked-gt-MOST_GLOBALS.false (sym c.in-Some.ensures)

pub returns-in-Some-clause-can : goal.returns-in-Some-clause-can
returns-in-Some-clause-can c = λ fs l.
    let asked : c.words_of-asked.result ≡ words_of c.args.walk.planned = c.words_of-asked.ensures.words ∙ ap words_of c.members.ensures.members in
    let few : words_of c.args.loaded.now + words_of c.args.walk.planned ≤ 262144 = omega (arith, c.requires.used, asked, c.if-used-asked-gt-MOST_GLOBALS.false) in
    can_start c.args.loaded.now c.args.walk.planned fs c.args.walk.files c.args.«module».now c.args.command.now c.in-Some.start l c.requires.known c.requires.stand few (sym c.in-Some.ensures)
