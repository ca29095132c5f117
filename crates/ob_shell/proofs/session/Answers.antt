use Rattle.std.proofs.Common.{◌≡◌, ◌++◌, Bool, true, false, Option, Some, None, sym, ap, ◌∙◌}
use Rattle.std.proofs.lemmas.Bool.{false≢true}
use Rattle.ob_words.specs.declared.asked.Settings.{Settings}
use Rattle.ob_shell_input.specs.Reading.{ended}
use Rattle.law_session.proofs.Held.{whole_so, lines_so, one_age_so}
use Rattle.law_session.proofs.Chosen.{settings_in}
use Rattle.law_headline.proofs.Whole.{promised}
use Rattle.ob_shell.proofs.session.Goals as goal

abbrev is_some : Option Settings → Bool
is_some None = false
is_some (Some s) = true

no_words : (s : Settings) → Some s ≡ None → ⊥
no_words s e = false≢true (sym (ap is_some e))

pub returns-clause-headline : goal.returns-clause-headline
returns-clause-headline g c = λ s e ti tf to l h.
    whole_so promised s l (g.O.Sink.taken c.args.out.now) (g.O.Sink.taken c.do_all.new.out) (g.F.Shelf.files c.args.folder.now) (g.F.Shelf.files c.do_all.new.folder) (g.I.Source.left c.args.script.now) c.do_all.result
    (settings_in _ s e) h
    (λ t. no_words s (sym e ∙ c.do_all.ensures.refused t)) c.do_all.ensures.causes.known (c.do_all.ensures.ends s e ti tf to)

pub returns-clause-headline_pieces : goal.returns-clause-headline_pieces
returns-clause-headline_pieces g c = λ s e ti tf to l h three.
    let p = c.do_all.ensures.pieces s e ti tf to three in
    record {
      got = p.got;
      parts = p.parts;
      written = p.written ∙ ap (λ x. g.O.Sink.taken c.args.out.now ++ x) (lines_so promised s l (g.F.Shelf.files c.args.folder.now) (g.I.Source.left c.args.script.now) (settings_in _ s e) h (ended p.got) p.after p.split);
    }

pub returns-clause-one_age : goal.returns-clause-one_age
returns-clause-one_age g c = λ s e ti tf to l h.
    one_age_so promised s l (g.O.Sink.taken c.args.out.now) (g.O.Sink.taken c.do_all.new.out) (g.F.Shelf.files c.args.folder.now) (g.F.Shelf.files c.do_all.new.folder) (g.I.Source.left c.args.script.now) c.do_all.result
    (settings_in _ s e) h
    (λ t. no_words s (sym e ∙ c.do_all.ensures.refused t)) c.do_all.ensures.causes.known (c.do_all.ensures.ends s e ti tf to)
