use Rattle.std.proofs.Common.{◌∙◌, sym, arith}
use Rattle.ob_scan.proofs.Gaps.{blank_taken, room_one}
use Rattle.ob_scan.proofs.gap.skip.Goals as goal

pub blanks-preserved : goal.blanks-preserved
blanks-preserved c =
    let t = c.blanks-test.true in
    let f = sym c.is_blank.ensures ∙ c.if-not-is_blank.false in
    rw c.next_pos-here.ensures (record {
      same = c.blanks.invariant.same ∙ blank_taken c.args.text.now c.blanks.at c.args.pos c.blanks.here 0 t f;
      within = omega arith;
      room = room_one c.args.text.now c.blanks.at c.blanks.here _ t c.blanks.invariant.room;
    })
