use Rattle.std.proofs.Common.{sym, ◌∙◌}
use Rattle.ob_machine_calls.proofs.Copied.{plain_words}
use Rattle.ob_machine_calls.proofs.arguments.copies_of.Goals as goal

pub returns-then-not-copies-clause-count : goal.returns-then-not-copies-clause-count
returns-then-not-copies-clause-count c = sym (plain_words _ c.args.q.now.params c.args.args.now (sym c.copies.ensures ∙ c.if-not-copies.true) c.requires.slots)
