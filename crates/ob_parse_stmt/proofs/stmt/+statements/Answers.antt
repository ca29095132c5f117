use Rattle.std.proofs.Common.{◌∙◌, ◌≤◌, sym, arith}
use Rattle.ob_tree.specs.declared.symbol.Symbol.TheVariants as s
use Rattle.ob_parse_grammar.specs.Phrase.{Statements, many}
use Rattle.ob_parse_grammar.specs.Expressions.{next_of, separated}
use Rattle.ob_parse_grammar.specs.Statements as spec
use Rattle.ob_parse_grammar.specs.Grammar.{reads}
use Rattle.ob_parse_grammar.proofs.Loops.{on_turn, next_starts, deeper}
use Rattle.ob_parse_stmt.proofs.Turns.{takes_statement, takes_branch, takes_case, takes_guarded, fails_by}
use Rattle.ob_parse_stmt.proofs.stmt.+statements.Goals as goal

pub nested_statements-returns : goal.nested_statements-returns
nested_statements-returns t c = let some : 1 ≤ c.args.levels = omega arith in rw (deeper c.args.levels Statements c.args.tokens.now some) c.statements.ensures

pub statements-more-smaller : goal.statements-more-smaller
statements-more-smaller t c = (takes_statement c.args.levels).falls c.more.tokens _ c.next_statement.new.tokens (next_starts s.Semicolon spec.statement c.more.tokens ∙ sym c.sees.ensures ∙ c.more-test.true) c.in_ok-next_statement.ensures.1

pub statements-more-preserved : goal.statements-more-preserved
statements-more-preserved t c = rw c.in_ok-next_statement.ensures.2
    (on_turn c.args.levels (next_of s.Semicolon spec.statement) (takes_statement c.args.levels) (reads c.args.levels (separated s.Semicolon spec.statement) c.args.tokens.now) c.more.found c.more.tokens _ c.next_statement.new.tokens
    c.more.invariant (next_starts s.Semicolon spec.statement c.more.tokens ∙ sym c.sees.ensures ∙ c.more-test.true) c.in_ok-next_statement.ensures.1)

pub statements-returns-in_err-next_statement : goal.statements-returns-in_err-next_statement
statements-returns-in_err-next_statement t c =
    fails_by c.args.levels (next_of s.Semicolon spec.statement) (takes_statement c.args.levels) (reads c.args.levels (separated s.Semicolon spec.statement) c.args.tokens.now) c.more.found c.more.tokens _ _ _
    c.more.invariant (next_starts s.Semicolon spec.statement c.more.tokens ∙ sym c.sees.ensures ∙ c.more-test.true) c.in_err-next_statement.ensures c.from_residual-in_err-next_statement.ensures.1

pub further_branches-more-smaller : goal.further_branches-more-smaller
further_branches-more-smaller t c = (takes_branch c.args.levels).falls c.more.tokens _ c.next_branch.new.tokens (next_starts s.KwElsif spec.branch c.more.tokens ∙ sym c.sees.ensures ∙ c.more-test.true) c.in_ok-next_branch.ensures

pub further_branches-more-preserved : goal.further_branches-more-preserved
further_branches-more-preserved t c = rw c.in_ok-push.ensures.ok
    (on_turn c.args.levels (next_of s.KwElsif spec.branch) (takes_branch c.args.levels) (reads c.args.levels (many (next_of s.KwElsif spec.branch)) c.args.tokens.now) c.more.found c.more.tokens _ c.next_branch.new.tokens
    c.more.invariant (next_starts s.KwElsif spec.branch c.more.tokens ∙ sym c.sees.ensures ∙ c.more-test.true) c.in_ok-next_branch.ensures)

pub further_branches-returns-in_err-next_branch : goal.further_branches-returns-in_err-next_branch
further_branches-returns-in_err-next_branch t c =
    fails_by c.args.levels (next_of s.KwElsif spec.branch) (takes_branch c.args.levels) (reads c.args.levels (many (next_of s.KwElsif spec.branch)) c.args.tokens.now) c.more.found c.more.tokens _ _ _
    c.more.invariant (next_starts s.KwElsif spec.branch c.more.tokens ∙ sym c.sees.ensures ∙ c.more-test.true) c.in_err-next_branch.ensures c.from_residual.ensures.1

pub cases-more-smaller : goal.cases-more-smaller
cases-more-smaller t c = (takes_case c.args.levels).falls c.more.tokens _ c.next_case.new.tokens (next_starts s.Bar spec.case_branch c.more.tokens ∙ sym c.sees.ensures ∙ c.more-test.true) c.in_ok-next_case.ensures

pub cases-more-preserved : goal.cases-more-preserved
cases-more-preserved t c = rw c.in_ok-push-2.ensures.ok
    (on_turn c.args.levels (next_of s.Bar spec.case_branch) (takes_case c.args.levels) (reads c.args.levels (separated s.Bar spec.case_branch) c.args.tokens.now) c.more.found c.more.tokens _ c.next_case.new.tokens
    c.more.invariant (next_starts s.Bar spec.case_branch c.more.tokens ∙ sym c.sees.ensures ∙ c.more-test.true) c.in_ok-next_case.ensures)

pub cases-returns-in_err-next_case : goal.cases-returns-in_err-next_case
cases-returns-in_err-next_case t c =
    fails_by c.args.levels (next_of s.Bar spec.case_branch) (takes_case c.args.levels) (reads c.args.levels (separated s.Bar spec.case_branch) c.args.tokens.now) c.more.found c.more.tokens _ _ _
    c.more.invariant (next_starts s.Bar spec.case_branch c.more.tokens ∙ sym c.sees.ensures ∙ c.more-test.true) c.in_err-next_case.ensures c.from_residual-in_err-next_case.ensures.1

pub guarded_branches-more-smaller : goal.guarded_branches-more-smaller
guarded_branches-more-smaller t c = (takes_guarded c.args.levels).falls c.more.tokens _ c.next_guarded.new.tokens (next_starts s.Bar spec.guarded c.more.tokens ∙ sym c.sees.ensures ∙ c.more-test.true) c.in_ok-next_guarded.ensures

pub guarded_branches-more-preserved : goal.guarded_branches-more-preserved
guarded_branches-more-preserved t c = rw c.in_ok-push-2.ensures.ok
    (on_turn c.args.levels (next_of s.Bar spec.guarded) (takes_guarded c.args.levels) (reads c.args.levels (separated s.Bar spec.guarded) c.args.tokens.now) c.more.found c.more.tokens _ c.next_guarded.new.tokens
    c.more.invariant (next_starts s.Bar spec.guarded c.more.tokens ∙ sym c.sees.ensures ∙ c.more-test.true) c.in_ok-next_guarded.ensures)

pub guarded_branches-returns-in_err-next_guarded : goal.guarded_branches-returns-in_err-next_guarded
guarded_branches-returns-in_err-next_guarded t c =
    fails_by c.args.levels (next_of s.Bar spec.guarded) (takes_guarded c.args.levels) (reads c.args.levels (separated s.Bar spec.guarded) c.args.tokens.now) c.more.found c.more.tokens _ _ _
    c.more.invariant (next_starts s.Bar spec.guarded c.more.tokens ∙ sym c.sees.ensures ∙ c.more-test.true) c.in_err-next_guarded.ensures c.from_residual-in_err-next_guarded.ensures.1
