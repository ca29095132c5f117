use Rattle.std.proofs.Common.{sym, ◌∙◌}
use Rattle.ob_desc.specs.Grammar.{by_place}
use Rattle.ob_desc.proofs.Short.{short}
use Rattle.ob_obj_spelling.proofs.desc.fields_rise.Goals as goal

pub returns : goal.returns
returns c = sym (short by_place c.loop-rest.rest.now c.in_default.len_below) ∙ c.loop-rest.invariant
