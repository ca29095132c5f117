use Rattle.std.proofs.Common.{rules}
use Rattle.ob_rules.proofs.BookLaws.{after_length, on_ok}
use Rattle.ob_rules.proofs.notes.Notebook.name_length.Goals as goal

pub returns : goal.returns
returns c = on_ok c.push.result (after_length c.args.self.now c.args.designator.inner c.push.new.self) c.push.ensures.ok
