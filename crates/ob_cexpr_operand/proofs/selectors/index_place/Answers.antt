use Rattle.ob_rules.specs.Names.{map_of}
use Rattle.ob_rules.specs.Designators as spec
use Rattle.ob_cexpr_operand.specs.Plain.{plain}
use Rattle.ob_cexpr_operand.proofs.PlaceLaws.{then_meant}
use Rattle.ob_cexpr_operand.proofs.selectors.index_place.Goals as goal

pub returns-clause-noted : goal.returns-clause-noted
returns-clause-noted g c = then_meant (spec.index (map_of (g.S.Surroundings.around c.args.here.now)) c.args.at c.args.place (plain c.args.i)) c.args.book.now c.index.new.book c.in_ok-place.ensures.noted
