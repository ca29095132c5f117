use Rattle.std.proofs.Common.{rules, arith, ◌≡◌, ◌-◌, slice_index_or}
use Rattle.ob_words.proofs.Values.{over_first}
use Rattle.ob_words.proofs.numbers.+value_of.Goals as goal

pub returns-then-value-most-clause-none : goal.returns-then-value-most-clause-none
returns-then-value-most-clause-none n c = λ e.
    let d : c.saturating_sub.result ≡ slice_index_or c.args.digits.now 0 0 - 48 = search (rules, c.saturating_sub.ensures, c.in-len1-up.len_at_least) in
    over_first _ _ c.args.digits.now c.in-len1-up.len_at_least (omega (arith, d, c.if-value-most.true))
