use Rattle.std.proofs.Common.{◌<◌, sym, length, arith, w8}
use Rattle.std.proofs.Math.Facts.{Fits-lt-pow}
use Rattle.ob_scan.proofs.Beginnings.{string_found, string_fault}
use Rattle.ob_scan.proofs.symbols.string_at.Goals as goal

pub returns-then-n-text : goal.returns-then-n-text
returns-then-n-text c =
    let byte = Fits-lt-pow {w = w8} (c.type_inv.text 0) in
    let t = c.if-n-text.true in
    sym (string_fault c.args.text.now c.args.pos 0 c.behind_first-n.result c.requires.some byte c.requires.quote c.behind_first-n.ensures.value (λ l g. omega (arith, t, l)))

pub returns-then-text-n : goal.returns-then-text-n
returns-then-text-n c =
    let byte = Fits-lt-pow {w = w8} (c.type_inv.text 0) in
    let below : c.behind_first-n.result < length c.args.text.now = let w = c.behind_first-n.ensures.within in let f = c.if-n-text.false in omega arith in
    sym (string_found c.args.text.now c.args.pos 0 c.behind_first-n.result c.requires.some byte c.requires.quote c.behind_first-n.ensures.value below c.if-text-n.true)

pub returns-else-text-n : goal.returns-else-text-n
returns-else-text-n c =
    let byte = Fits-lt-pow {w = w8} (c.type_inv.text 0) in
    let f = c.if-text-n.false in
    sym (string_fault c.args.text.now c.args.pos 0 c.behind_first-n.result c.requires.some byte c.requires.quote c.behind_first-n.ensures.value (λ l g. omega (arith, f, g)))
