use Rattle.std.proofs.Common.{Option, List, ℕ, subst}
use Rattle.ob_env_ranks.specs.Marks.{AreRanks}
use Rattle.ob_env_ranks.proofs.Ranks.{ranked_marks}
use Rattle.ob_env_ranks.proofs.within.within_marks.Goals as goal

pub returns-in-Some : goal.returns-in-Some
returns-in-Some c = ranked_marks c.args.env.now c.in-Some.field-0 c.new.result (subst (λ (o : Option (List (List ℕ))). AreRanks c.args.env.now o) c.in-Some.is c.requires) c.new.ensures
