use Rattle.std.proofs.Common.{◌≡◌, ◌≤◌, drop}
use Rattle.ob_rules.specs.Expressions.{number_in}
use Rattle.ob_const.proofs.literals.number.Given as goal

abbrev pub invariant-digits : goal.invariant-digits
invariant-digits l = record { so_far : number_in l.base 0 l.text ≡ number_in l.base l.n (drop l.c-index l.text); low : l.n ≤ l.limit }
