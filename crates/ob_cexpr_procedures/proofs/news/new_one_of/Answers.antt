use Rattle.std.proofs.Common.{◌≡◌}
use Rattle.ob_rules.specs.Books.{book_after}
use Rattle.ob_cexpr_procedures.proofs.NewLaws.{of_place}
use Rattle.ob_cexpr_procedures.proofs.news.new_one_of.Goals as goal

pub returns-in_ok-made-in-Some-clause-made : goal.returns-in_ok-made-in-Some-clause-made
returns-in_ok-made-in-Some-clause-made g c = of_place (g.T.Types.types c.args.types.now) c.args.at (λ j. c.in_ok-made-in-Some.made ≡ j.node) c.args.place c.in-Some.place c.in_ok-base-in-Some.base c.in-Some.is c.in_ok-base-in-Some.ensures c.in_ok-made-in-Some.ensures.made

pub returns-in_ok-made-in-Some-clause-noted : goal.returns-in_ok-made-in-Some-clause-noted
returns-in_ok-made-in-Some-clause-noted g c = of_place (g.T.Types.types c.args.types.now) c.args.at (λ j. c.new_to.new.book ≡ book_after c.args.book.now j.notes) c.args.place c.in-Some.place c.in_ok-base-in-Some.base c.in-Some.is c.in_ok-base-in-Some.ensures c.in_ok-made-in-Some.ensures.noted
