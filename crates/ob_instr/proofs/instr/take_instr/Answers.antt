use Rattle.std.proofs.Common.{ap, ◌∙◌}
use Rattle.ob_format.specs.Format.{whole}
use Rattle.ob_instr.specs.Spelling.{instr}
use Rattle.ob_instr.specs.SpellingLaws.{instr_again, some_found, none_found}
use Rattle.ob_instr.proofs.instr.take_instr.Goals as goal

pub returns-clause-found : goal.returns-clause-found
returns-clause-found c = some_found c.args.bytes.now c.instr_in.result c.fits-bytes c.instr_in.ensures

pub returns-clause-none : goal.returns-clause-none
returns-clause-none c = none_found c.args.bytes.now c.instr_in.result c.instr_in.ensures

pub returns-clause-again : goal.returns-clause-again
returns-clause-again c = λ i fits e. c.instr_in.ensures ∙ ap (whole instr) e ∙ instr_again i fits
