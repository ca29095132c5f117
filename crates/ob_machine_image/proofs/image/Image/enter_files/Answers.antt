use Rattle.std.proofs.Common.{arith, ap, ◌∙◌}
use Rattle.ob_machine_image.proofs.Placing.{parted}
use Rattle.ob_machine_image.proofs.Entering.{on_enters, on_can, on_modules, on_types, on_within, on_types_within}
use Rattle.ob_machine_image.proofs.image.Image.enter_files.Goals as goal

pub loop-rest-preserved : goal.loop-rest-preserved
loop-rest-preserved c =
    let rest = c.loop-rest.rest.now in
    let f = c.file-item.result in
    let e = parted rest f c.file-item.is (omega (arith, c.in-len1-up.len_at_least)) in
    let img = c.loop-rest.self in
    let new = c.enter_file.new.self in
    let i = c.loop-rest.invariant in
    record {
      enters = on_enters img new _ f rest _ c.in-Ok.ensures.ok e i.enters;
      can = on_can img new f rest _ c.in-Ok.ensures.ok e i.can;
      modules = on_modules img new f c.len-modules.result _ c.in-Ok.ensures.ok i.within i.modules;
      types = on_types img new f c.count-types.result _ c.in-Ok.ensures.ok i.types_within i.types;
      next = i.next;
      room = ap (λ x. x.room) c.in-Ok.ensures.ok ∙ i.room;
      within = on_within img new f c.len-modules.result c.in-Ok.ensures.ok i.within;
      types_within = on_types_within img new f c.count-types.result c.in-Ok.ensures.ok i.types_within;
    }
