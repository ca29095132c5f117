use Rattle.law_nesting.proofs.Modules.{spelled, has_places}
use Rattle.law_nesting.proofs.Shared.{placed_once}
use Rattle.law_nesting.proofs.places_are_levels.Goals as goal

pub returns-clause-spelled : goal.returns-clause-spelled
returns-clause-spelled c = λ j m. spelled j m

pub returns-clause-placed : goal.returns-clause-placed
returns-clause-placed c = λ d m. has_places d m

pub returns-clause-once : goal.returns-clause-once
returns-clause-once c = λ i j m n us vs s t e. placed_once i j m n us vs s t e
