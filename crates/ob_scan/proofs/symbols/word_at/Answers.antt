use Rattle.std.proofs.Common.{◌≤◌, sym, arith}
use Rattle.std.proofs.Common.{w8}
use Rattle.std.proofs.Math.Facts.{Fits-lt-pow}
use Rattle.std.specs.List.{prefix_len}
use Rattle.ob_scan.specs.Vocabulary.{is_letter_or_digit}
use Rattle.ob_scan.proofs.Beginnings.{word_short}
use Rattle.ob_scan.proofs.symbols.word_at.Goals as goal

pub returns-else-n-gt64 : goal.returns-else-n-gt64
returns-else-n-gt64 c =
    let n = c.run-n.ensures.value in
    let short : prefix_len is_letter_or_digit c.args.text.now ≤ 64 = let l = c.if-n-gt64.false in omega (arith, n) in
    rw (c.word_symbol.ensures, n) (sym (word_short c.args.text.now c.args.pos 0 c.requires.some (Fits-lt-pow {w = w8} (c.type_inv.text 0)) c.requires.letter short))
