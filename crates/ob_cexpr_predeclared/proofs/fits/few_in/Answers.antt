use Rattle.std.proofs.Common.{◌∙◌}
use Rattle.ob_cexpr_predeclared.proofs.FewLaws.{taken, ended}
use Rattle.ob_cexpr_predeclared.proofs.fits.few_in.Goals as goal

pub returns : goal.returns
returns c =
    c.few_from.ensures
    ∙ taken c.args.parameters.items c.pop-last.new.self.items c.pop-before.new.self.items c.pop-further.new.self.items c.pop-last.result c.pop-before.result c.pop-further.result
    c.pop-last.ensures.items c.pop-before.ensures.items c.pop-further.ensures.items
    (ended c.args.parameters.items c.pop-last.result c.args.parameters.len c.pop-last.new.self.len c.args.parameters.ok.0 c.pop-last.ensures.cases)
    (ended c.pop-last.new.self.items c.pop-before.result c.pop-last.new.self.len c.pop-before.new.self.len c.pop-last.new.self.ok.0 c.pop-before.ensures.cases)
    (ended c.pop-before.new.self.items c.pop-further.result c.pop-before.new.self.len c.pop-further.new.self.len c.pop-before.new.self.ok.0 c.pop-further.ensures.cases)
