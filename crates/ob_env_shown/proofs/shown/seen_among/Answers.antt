use Rattle.std.proofs.Common.{sym, ap, ◌∙◌, List}
use Rattle.std.specs.Option.{option_map}
use Rattle.ob_types.specs.declared.face.Object.{Object}
use Rattle.ob_env.specs.Shown.{blank}
use Rattle.ob_env_shown.specs.declared.blank.BlankRecord.{BlankRecord}
use Rattle.ob_env_shown.specs.Faces.{blank_at}
use Rattle.ob_env_shown.proofs.Rows.{blank_found, row_rises}
use Rattle.ob_env_shown.proofs.shown.seen_among.Goals as goal

pub blank_at-requires : goal.blank_at-requires
blank_at-requires c = row_rises c.args.row.now c.args.objects.now c.requires

pub returns-then-is_record : goal.returns-then-is_record
returns-then-is_record c =
    c.blank_at.ensures
    ∙ ap (λ (r : List BlankRecord). blank_at r c.args.at) c.requires
    ∙ blank_found c.args.objects.now c.args.at c.in-Some.object.now (sym c.in-Some.ensures) (sym c.is_record.ensures ∙ c.if-is_record.true)
    ∙ ap (option_map (λ (o : Object). blank o.desc)) c.in-Some.ensures
