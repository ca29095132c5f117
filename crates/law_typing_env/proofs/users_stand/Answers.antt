-- The law is the theorem of Near.
use Rattle.law_typing_env.proofs.Near as near
use Rattle.law_typing_env.proofs.users_stand.Goals as goal

pub returns : goal.returns
returns c = near.users_stand
