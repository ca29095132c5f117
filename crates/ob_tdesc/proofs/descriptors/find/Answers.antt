use Rattle.std.proofs.Common.{rules, sym}
use Rattle.std.proofs.lemmas.List.Sorted.{answers_always}
use Rattle.ob_tdesc.proofs.Find.{found, absent}
use Rattle.ob_tdesc.proofs.descriptors.find.Goals as goal

pub returns-in-Ok : goal.returns-in-Ok
returns-in-Ok c =
    let h = c.in-Ok.ensures.position (λ y. y.number) (answers_always _ _ _ (λ f a r g called. search rules)) in
    sym (found c.args.methods.now c.args.number c.in-Ok.place (record { number = 0; procedure = record { «module» = 0; proc = 0 } }) c.requires c.in-Ok.ensures.bound h)

pub returns-in-Err : goal.returns-in-Err
returns-in-Err c =
    let h = c.in-Err.ensures.position (λ y. y.number) (answers_always _ _ _ (λ f a r g called. search rules)) in
    sym (absent c.args.methods.now c.args.number c.in-Err.field-0 (record { number = 0; procedure = record { «module» = 0; proc = 0 } }) c.requires h)
