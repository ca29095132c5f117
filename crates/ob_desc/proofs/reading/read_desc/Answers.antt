use Rattle.std.proofs.Common.{Some, None}
use Rattle.std.specs.Option.{option_copied}
use Rattle.ob_desc.specs.Laws.{description_found}
use Rattle.ob_desc.proofs.Read.{again_here}
use Rattle.ob_desc.proofs.reading.read_desc.Goals as goal

pub returns-in-Ok-clause-found : goal.returns-in-Ok-clause-found
returns-in-Ok-clause-found c = description_found c.args.shape.now (option_copied c.args.layout) c.in-Ok.found c.in-Ok.ensures

pub returns-in-Ok-clause-again : goal.returns-in-Ok-clause-again
returns-in-Ok-clause-again c = λ q d fits shape layout. again_here c.args.shape.now (option_copied c.args.layout) (Some c.in-Ok.found) c.in-Ok.ensures q d fits shape layout

pub returns-in-Err-Damaged-clause-again : goal.returns-in-Err-Damaged-clause-again
returns-in-Err-Damaged-clause-again c = λ q d fits shape layout. again_here c.args.shape.now (option_copied c.args.layout) None (rw c.in-Err-Damaged.field-0-is at c.in-Err-Damaged.ensures) q d fits shape layout
