use Rattle.ob_make.proofs.Agreeing.{orders_agree}
use Rattle.ob_make.proofs.law.orders_agree.Goals as goal

pub returns : goal.returns
returns c = λ s t same all m is. orders_agree s t same all m is
