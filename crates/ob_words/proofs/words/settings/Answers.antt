use Rattle.std.proofs.Common.{sym, ◌∙◌, rules}
use Rattle.ob_words.proofs.Parses.{settles, refuses}
use Rattle.ob_words.proofs.words.settings.Goals as goal

pub returns-in-Some-clause-are : goal.returns-in-Some-clause-are
returns-in-Some-clause-are c =
    settles _ c.in-Ok.matches c.get_str.result c.get_str-in-Ok.result c.number_or-turns.result c.number_or-heap.result _ c.in-Ok.ensures.ok.0 c.in-Ok.ensures.ok.1 c.get_str.ensures c.get_str-in-Ok.ensures c.number_or-turns.ensures c.number_or-heap.ensures (sym c.in-Some.is ∙ c.chosen.ensures)

pub returns-in-Ok-clause-are : goal.returns-in-Ok-clause-are
returns-in-Ok-clause-are c =
    settles _ c.in-Ok.matches c.get_str.result c.get_str-in-Ok.result c.number_or-turns.result c.number_or-heap.result _ c.in-Ok.ensures.ok.0 c.in-Ok.ensures.ok.1 c.get_str.ensures c.get_str-in-Ok.ensures c.number_or-turns.ensures c.number_or-heap.ensures (sym c.in-None.is ∙ c.chosen.ensures)

pub returns-clause-are : goal.returns-clause-are
returns-clause-are c = refuses _ _ c.in-Err.ensures.err (λ e. search (rules, c.is_memory.ensures, c.if-is_memory.false, e))
