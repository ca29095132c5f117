use Rattle.ob_rules.proofs.BookLaws.{broken_since}
use Rattle.ob_rules.proofs.notes.Notebook.is_quiet.Goals as goal

pub returns : goal.returns
returns c = λ b n e. c.is_nothing.ensures n.broken (broken_since c.args.self.now b n e)
