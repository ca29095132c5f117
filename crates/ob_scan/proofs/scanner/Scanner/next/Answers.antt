use Rattle.ob_scan.proofs.Beginnings.{is_shorter}
use Rattle.ob_scan.proofs.scanner.Scanner.next.Goals as goal

pub pass-requires-clause-within : goal.pass-requires-clause-within
pass-requires-clause-within c = (is_shorter c.self.inside.rest.now c.in_ok-at.at c.in_ok-n.n c.in_ok-at.pos c.in_ok-n.symbol c.in_ok-n.ensures).0

pub returns-in_ok-n-clause-less : goal.returns-in_ok-n-clause-less
returns-in_ok-n-clause-less c = λ e. rw (c.pass.ensures.behind, ← c.self.view_is) (is_shorter c.self.inside.rest.now c.in_ok-at.at c.in_ok-n.n c.in_ok-at.pos c.in_ok-n.symbol c.in_ok-n.ensures).1

pub pass-requires-then-is_digit-clause-within : goal.pass-requires-then-is_digit-clause-within
pass-requires-then-is_digit-clause-within c = (is_shorter c.self.inside.rest.now c.in_ok-at.at c.in_ok-n-2.n c.in_ok-at.pos c.in_ok-n-2.symbol c.in_ok-n-2.ensures).0

pub returns-in_ok-n-2-clause-less : goal.returns-in_ok-n-2-clause-less
returns-in_ok-n-2-clause-less c = λ e. rw (c.pass-then-is_digit.ensures.behind, ← c.self.view_is) (is_shorter c.self.inside.rest.now c.in_ok-at.at c.in_ok-n-2.n c.in_ok-at.pos c.in_ok-n-2.symbol c.in_ok-n-2.ensures).1

pub pass-requires-then-is_quote-clause-within : goal.pass-requires-then-is_quote-clause-within
pass-requires-then-is_quote-clause-within c = (is_shorter c.self.inside.rest.now c.in_ok-at.at c.in_ok-n-3.n c.in_ok-at.pos c.in_ok-n-3.symbol c.in_ok-n-3.ensures).0

pub returns-in_ok-n-3-clause-less : goal.returns-in_ok-n-3-clause-less
returns-in_ok-n-3-clause-less c = λ e. rw (c.pass-then-is_quote.ensures.behind, ← c.self.view_is) (is_shorter c.self.inside.rest.now c.in_ok-at.at c.in_ok-n-3.n c.in_ok-at.pos c.in_ok-n-3.symbol c.in_ok-n-3.ensures).1

pub pass-requires-else-is_quote-clause-within : goal.pass-requires-else-is_quote-clause-within
pass-requires-else-is_quote-clause-within c = (is_shorter c.self.inside.rest.now c.in_ok-at.at c.in_ok-n-4.n c.in_ok-at.pos c.in_ok-n-4.symbol c.in_ok-n-4.ensures).0

pub returns-in_ok-n-4-clause-less : goal.returns-in_ok-n-4-clause-less
returns-in_ok-n-4-clause-less c = λ e. rw (c.pass-else-is_quote.ensures.behind, ← c.self.view_is) (is_shorter c.self.inside.rest.now c.in_ok-at.at c.in_ok-n-4.n c.in_ok-at.pos c.in_ok-n-4.symbol c.in_ok-n-4.ensures).1
