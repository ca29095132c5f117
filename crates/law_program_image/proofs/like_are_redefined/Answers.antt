-- The law.
use Rattle.law_program_image.proofs.Like.{like_are_redefined}
use Rattle.law_program_image.proofs.like_are_redefined.Goals as goal

pub returns : goal.returns
returns c = like_are_redefined
