use Rattle.std.proofs.Common.{◌+◌, ◌*◌, length}
use Rattle.ob_tree.specs.declared.symbol.Symbol.TheVariants as s
use Rattle.ob_parse_grammar.specs.Phrase.{many}
use Rattle.ob_parse_grammar.specs.Expressions.{next_of, separated}
use Rattle.ob_parse_grammar.specs.Statements as spec
use Rattle.ob_parse_grammar.specs.Grammar.{reads}
use Rattle.ob_parse_grammar.proofs.Loops.{GoesOn}
use Rattle.ob_parse_stmt.proofs.stmt.+statements.Given as goal

abbrev pub decreases-nested_statements : goal.decreases-nested_statements
decreases-nested_statements l = 16 * l.levels

abbrev pub decreases-otherwise : goal.decreases-otherwise
decreases-otherwise l = 16 * l.levels + 1

abbrev pub decreases-branch : goal.decreases-branch
decreases-branch l = 16 * l.levels + 1

abbrev pub decreases-next_branch : goal.decreases-next_branch
decreases-next_branch l = 16 * l.levels + 2

abbrev pub decreases-further_branches : goal.decreases-further_branches
decreases-further_branches l = 16 * l.levels + 3

abbrev pub decreases-choice : goal.decreases-choice
decreases-choice l = 16 * l.levels + 4

abbrev pub decreases-case_branch : goal.decreases-case_branch
decreases-case_branch l = 16 * l.levels + 1

abbrev pub decreases-next_case : goal.decreases-next_case
decreases-next_case l = 16 * l.levels + 2

abbrev pub decreases-cases : goal.decreases-cases
decreases-cases l = 16 * l.levels + 3

abbrev pub decreases-case_statement : goal.decreases-case_statement
decreases-case_statement l = 16 * l.levels + 4

abbrev pub decreases-while_loop : goal.decreases-while_loop
decreases-while_loop l = 16 * l.levels + 1

abbrev pub decreases-repeat_loop : goal.decreases-repeat_loop
decreases-repeat_loop l = 16 * l.levels + 1

abbrev pub decreases-for_loop : goal.decreases-for_loop
decreases-for_loop l = 16 * l.levels + 1

abbrev pub decreases-endless_loop : goal.decreases-endless_loop
decreases-endless_loop l = 16 * l.levels + 1

abbrev pub decreases-guarded : goal.decreases-guarded
decreases-guarded l = 16 * l.levels + 1

abbrev pub decreases-next_guarded : goal.decreases-next_guarded
decreases-next_guarded l = 16 * l.levels + 2

abbrev pub decreases-guarded_branches : goal.decreases-guarded_branches
decreases-guarded_branches l = 16 * l.levels + 3

abbrev pub decreases-with_statement : goal.decreases-with_statement
decreases-with_statement l = 16 * l.levels + 4

abbrev pub decreases-some_statement : goal.decreases-some_statement
decreases-some_statement l = 16 * l.levels + 5

abbrev pub decreases-statement : goal.decreases-statement
decreases-statement l = 16 * l.levels + 6

abbrev pub decreases-next_statement : goal.decreases-next_statement
decreases-next_statement l = 16 * l.levels + 7

abbrev pub decreases-statements : goal.decreases-statements
decreases-statements l = 16 * l.levels + 8

abbrev pub invariant-statements-more : goal.invariant-statements-more
invariant-statements-more l = GoesOn (reads l.levels (separated s.Semicolon spec.statement) l.fn.tokens) l.levels (next_of s.Semicolon spec.statement) l.found l.tokens

abbrev pub decreases-statements-more : goal.decreases-statements-more
decreases-statements-more l = length l.tokens

abbrev pub invariant-further_branches-more : goal.invariant-further_branches-more
invariant-further_branches-more l = GoesOn (reads l.levels (many (next_of s.KwElsif spec.branch)) l.fn.tokens) l.levels (next_of s.KwElsif spec.branch) l.found l.tokens

abbrev pub decreases-further_branches-more : goal.decreases-further_branches-more
decreases-further_branches-more l = length l.tokens

abbrev pub invariant-cases-more : goal.invariant-cases-more
invariant-cases-more l = GoesOn (reads l.levels (separated s.Bar spec.case_branch) l.fn.tokens) l.levels (next_of s.Bar spec.case_branch) l.found l.tokens

abbrev pub decreases-cases-more : goal.decreases-cases-more
decreases-cases-more l = length l.tokens

abbrev pub invariant-guarded_branches-more : goal.invariant-guarded_branches-more
invariant-guarded_branches-more l = GoesOn (reads l.levels (separated s.Bar spec.guarded) l.fn.tokens) l.levels (next_of s.Bar spec.guarded) l.found l.tokens

abbrev pub decreases-guarded_branches-more : goal.decreases-guarded_branches-more
decreases-guarded_branches-more l = length l.tokens
