use Rattle.law_typing_env.proofs.Views.{ruled_formed, viewed_formed}
use Rattle.law_typing_env.proofs.Placed.{viewed_describes}
use Rattle.law_typing_env.proofs.maps_are_formed.Goals as goal

pub returns-clause-rules : goal.returns-clause-rules
returns-clause-rules c program sound whole faces u around = ruled_formed program sound whole faces u around

pub returns-clause-code : goal.returns-clause-code
returns-clause-code c program sound whole faces age m i = viewed_formed program sound whole faces age m i

pub returns-clause-layout : goal.returns-clause-layout
returns-clause-layout c program sound whole sized faces age m i grounded out = viewed_describes program whole faces age sound sized m i grounded out
