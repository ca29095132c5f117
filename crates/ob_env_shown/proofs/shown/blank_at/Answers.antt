use Rattle.std.proofs.Common.{rules, sym}
use Rattle.std.proofs.lemmas.List.Sorted.{answers_always}
use Rattle.ob_types.specs.declared.desc.Desc.TheVariants as desc
use Rattle.ob_types.specs.declared.value.Value.TheVariants as value
use Rattle.ob_env_shown.specs.declared.blank.BlankRecord.{BlankRecord}
use Rattle.ob_env_shown.proofs.Rows.{found, absent}
use Rattle.ob_env_shown.proofs.shown.blank_at.Goals as goal

some_record : BlankRecord
some_record = record { at = 0; desc = desc.Const value.Nil }

pub returns-in-Ok : goal.returns-in-Ok
returns-in-Ok c =
    let h = c.in-Ok.ensures.position (λ y. y.at) (answers_always _ _ _ (λ f a r g called. search rules)) in
    sym (found c.args.row.now c.args.at c.in-Ok.place c.index-row-place.result c.requires c.in-Ok.ensures.bound h)

pub returns-in-Err : goal.returns-in-Err
returns-in-Err c =
    let h = c.in-Err.ensures.position (λ y. y.at) (answers_always _ _ _ (λ f a r g called. search rules)) in
    sym (absent c.args.row.now c.args.at c.in-Err.field-0 some_record c.requires h)
