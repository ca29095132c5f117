use Rattle.ob_compile.proofs.limits.viewed.Goals as goal

pub faced-requires : goal.faced-requires
faced-requires c = c.in-Ok.ensures

pub returns : goal.returns
returns c = c.faced.ensures
