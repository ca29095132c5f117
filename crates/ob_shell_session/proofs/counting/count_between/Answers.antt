use Rattle.std.proofs.Common.{◌∙◌, sym, ap, length, None}
use Rattle.std.proofs.lemmas.List.{length-map}
use Rattle.ob_env.specs.Faces.{face_of}
use Rattle.ob_shell_session.specs.Counting.{counts_from, no_counts}
use Rattle.ob_shell_session.proofs.Counted.{counts_are}
use Rattle.ob_shell_session.proofs.counting.count_between.Goals as goal

pub returns : goal.returns
returns c =
    c.count.ensures
    ∙ ap (λ n. counts_from (no_counts n) None c.as_slice.result.now) (ap (λ os. length os) c.objects.ensures ∙ sym (length-map c.args.new.now.objects (λ o. (o.name, o.desc))))
    ∙ ap (λ vs. counts_from (no_counts (length (face_of c.args.new.now).objects)) None vs) (c.as_slice.ensures ∙ c.in_ok-verdicts.ensures)
    ∙ counts_are (face_of c.args.old.now) (face_of c.args.new.now)
