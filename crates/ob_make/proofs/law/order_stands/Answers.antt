use Rattle.ob_make.proofs.Orders.{order_stands}
use Rattle.ob_make.proofs.law.order_stands.Goals as goal

pub returns-clause-files : goal.returns-clause-files
returns-clause-files c = λ s m xs e. order_stands s m xs e

pub returns-clause-libraries : goal.returns-clause-libraries
returns-clause-libraries c = λ s m xs e. order_stands s m xs e
