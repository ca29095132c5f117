use Rattle.std.proofs.Common.{sym, ◌∙◌}
use Rattle.ob_sym.specs.Grammar.{by_name}
use Rattle.ob_desc.proofs.Short.{short}
use Rattle.ob_obj_spelling.proofs.face.objects_rise.Goals as goal

pub returns : goal.returns
returns c = sym (short by_name c.loop-rest.rest.now c.in_default.len_below) ∙ c.loop-rest.invariant
