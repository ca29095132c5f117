use Rattle.std.proofs.Common.{ap, sym, subst, ◌∙◌}
use Rattle.ob_machine_image.specs.Globals.{AreWithin, words_from}
use Rattle.ob_machine_image.proofs.Placing.{are_within, same_words}
use Rattle.ob_machine_image.proofs.image.Image.enter.Goals as goal

pub put_files-requires-clause-room : goal.put_files-requires-clause-room
put_files-requires-clause-room c = subst (λ n. AreWithin n c.args.files.now) (sym (ap (λ i. i.next) c.self.view_is)) (are_within c.args.self.now c.args.files.now (sym (ap (λ i. i.room.globals) c.self.view_is)) c.requires)

pub returns-clause-words : goal.returns-clause-words
returns-clause-words c =
    let w = c.args.words.now in
    c.put_files.ensures ∙ ap (λ l. record w { words = l }) (ap (λ n. words_from n c.args.files.now w.words) (ap (λ i. i.next) c.self.view_is) ∙ same_words c.args.self.now c.args.files.now w.words)
