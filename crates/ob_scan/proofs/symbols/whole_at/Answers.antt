use Rattle.std.proofs.Common.{◌≡◌, ◌∙◌, ◌<◌, ℕ, sym, ap, subst, false, length, drop, arith, w8}
use Rattle.std.proofs.Math.Facts.{Fits-lt-pow}
use Rattle.ob_tree.specs.declared.symbol.Symbol.TheVariants as s
use Rattle.ob_scan.specs.Scanning.{is_dot_alone}
use Rattle.ob_scan.proofs.Beginnings.{found, hex_found, char_found, int_found}
use Rattle.ob_scan.proofs.symbols.whole_at.Goals as goal

pub returns-then-n-text : goal.returns-then-n-text
returns-then-n-text c =
    let byte = Fits-lt-pow {w = w8} (c.type_inv.text 0) in
    let K : ℕ → Type 0 = λ m. is_dot_alone (drop m c.args.text.now) ≡ false in
    let dot = subst K c.requires.count c.requires.dot in
    let t = c.if-n-text.true in
    ap (λ m. found s.Int m) c.requires.count
    ∙ sym (int_found c.args.text.now c.args.pos 0 c.behind_first-n.result c.requires.some byte c.requires.digit dot c.behind_first-n.ensures.value (λ l g. omega (arith, t, l)) (λ l g. omega (arith, t, l)))

pub returns-then-text-n-eq72 : goal.returns-then-text-n-eq72
returns-then-text-n-eq72 c =
    let byte = Fits-lt-pow {w = w8} (c.type_inv.text 0) in
    let K : ℕ → Type 0 = λ m. is_dot_alone (drop m c.args.text.now) ≡ false in
    let dot = subst K c.requires.count c.requires.dot in
    let below : c.behind_first-n.result < length c.args.text.now = let w = c.behind_first-n.ensures.within in let f = c.if-n-text.false in omega arith in
    sym (hex_found c.args.text.now c.args.pos 0 c.behind_first-n.result c.requires.some byte c.requires.digit dot c.behind_first-n.ensures.value below c.if-text-n-eq72.true)

pub returns-then-text-n-eq88 : goal.returns-then-text-n-eq88
returns-then-text-n-eq88 c =
    let byte = Fits-lt-pow {w = w8} (c.type_inv.text 0) in
    let K : ℕ → Type 0 = λ m. is_dot_alone (drop m c.args.text.now) ≡ false in
    let dot = subst K c.requires.count c.requires.dot in
    let below : c.behind_first-n.result < length c.args.text.now = let w = c.behind_first-n.ensures.within in let f = c.if-n-text.false in omega arith in
    sym (char_found c.args.text.now c.args.pos 0 c.behind_first-n.result c.requires.some byte c.requires.digit dot c.behind_first-n.ensures.value below c.if-text-n-eq88.true)

pub returns-else-text-n-eq88 : goal.returns-else-text-n-eq88
returns-else-text-n-eq88 c =
    let byte = Fits-lt-pow {w = w8} (c.type_inv.text 0) in
    let K : ℕ → Type 0 = λ m. is_dot_alone (drop m c.args.text.now) ≡ false in
    let dot = subst K c.requires.count c.requires.dot in
    let h = c.if-text-n-eq72.false in let x = c.if-text-n-eq88.false in
    ap (λ m. found s.Int m) c.requires.count
    ∙ sym (int_found c.args.text.now c.args.pos 0 c.behind_first-n.result c.requires.some byte c.requires.digit dot c.behind_first-n.ensures.value (λ l g. omega (arith, h, g)) (λ l g. omega (arith, x, g)))
