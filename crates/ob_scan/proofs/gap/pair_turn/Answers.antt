use Rattle.std.proofs.Common.{◌∙◌, ◌<◌, ◌≤◌, sym, length, arith}
use Rattle.ob_scan.proofs.Gaps.{opened, blank_passed, closed, passed, room_one, room_two}
use Rattle.ob_scan.proofs.gap.pair_turn.Goals as goal

pub returns-then-opens : goal.returns-then-opens
returns-then-opens c =
    let w = c.requires.within in let r = c.requires.room in let s = r.shallow in
    let e = sym c.opens.ensures ∙ c.if-opens.true in
    rw (c.outer_start.ensures, c.two_further.ensures) (
      opened c.args.text.now c.args.p.at c.args.p.depth c.args.p.start c.args.p.here 0 w e,
      record { within = omega arith; room = room_two c.args.text.now c.args.p.at c.args.p.here w r.room; shallow = omega arith },
      omega arith,
    )

pub returns-then-is_blank : goal.returns-then-is_blank
returns-then-is_blank c =
    let w = c.requires.within in let r = c.requires.room in let s = r.shallow in
    let below : c.args.p.at < length c.args.text.now = omega arith in
    let e = sym c.opens.ensures ∙ c.if-opens.false in
    let f = sym c.is_blank.ensures ∙ c.if-is_blank.true in
    let z = c.if-p-eq0.true in
    rw (c.next_pos.ensures, z) (
      blank_passed c.args.text.now c.args.p.at c.args.p.start c.args.p.here 0 w e f,
      record { within = omega arith; room = room_one c.args.text.now c.args.p.at c.args.p.here _ below r.room; shallow = omega arith },
      omega arith,
    )

pub returns-then-closes : goal.returns-then-closes
returns-then-closes c =
    let w = c.requires.within in let r = c.requires.room in let s = r.shallow in
    let e = sym c.opens.ensures ∙ c.if-opens.false in
    let f = sym c.closes.ensures ∙ c.if-closes.true in
    let some : 1 ≤ c.args.p.depth = let z = c.if-p-eq0.false in omega arith in
    rw c.two_further-then-closes.ensures (
      closed c.args.text.now c.args.p.at c.args.p.depth c.args.p.start c.args.p.here 0 w some e f,
      record { within = omega arith; room = room_two c.args.text.now c.args.p.at c.args.p.here w r.room; shallow = omega arith },
      omega arith,
    )

pub returns-else-closes : goal.returns-else-closes
returns-else-closes c =
    let w = c.requires.within in let r = c.requires.room in let s = r.shallow in
    let below : c.args.p.at < length c.args.text.now = omega arith in
    let e = sym c.opens.ensures ∙ c.if-opens.false in
    let f = sym c.closes.ensures ∙ c.if-closes.false in
    let some : 1 ≤ c.args.p.depth = let z = c.if-p-eq0.false in omega arith in
    rw c.next_pos-else-closes.ensures (
      passed c.args.text.now c.args.p.at c.args.p.depth c.args.p.start c.args.p.here 0 w some e f,
      record { within = omega arith; room = room_one c.args.text.now c.args.p.at c.args.p.here _ below r.room; shallow = omega arith },
      omega arith,
    )
