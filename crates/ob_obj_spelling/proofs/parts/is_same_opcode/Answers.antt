use Rattle.std.proofs.Common.{rules, sym, ◌∙◌}
use denote.Enum.Bare.{same_true}
use Rattle.ob_instr.specs.contracts.Opcode.{the_type}
use Rattle.ob_obj_spelling.proofs.parts.is_same_opcode.Goals as goal

pub returns : goal.returns
returns c = λ e. same_true the_type (search rules) _ _ (sym c.eq.ensures ∙ e)
